-- What a line rests on: the `PN` lines reached from it by following names.
use Rattle.std.specs.Prelude.{◌≡◌, ◌↔◌, ℕ, suc, ◌<◌, List, [], ◌∷◌}
use Rattle.aut68.specs.Bytes.{Bytes}
use Rattle.aut68.specs.Lines.{Line, Lines, primitive}
use Rattle.aut68.specs.Index.{mentioned_by}
use Rattle.aut68.specs.Language.{Language}
use Rattle.aut68.specs.Rules.Grammar.{SignLine, IsSign, Ordinary}
use Rattle.aut68.specs.Rules.Names.{IsLine, Member}

-- the completed line l names line v
abbrev pub NamesLine : Line → ℕ → Type 0
NamesLine l v = Member v (mentioned_by l)

-- "reached by following names from it, the line itself included"
pub data Reaches (ls : Lines) (v : ℕ) : ℕ → Type 0 where
  itself : Reaches ls v v
  onward : {u w : ℕ} {l : Line} → Reaches ls v u → IsLine ls u l → NamesLine l w → Reaches ls v w

-- a `PN` line that is reached from line v
pub record Beneath (ls : Lines) (v u : ℕ) : Type 0 where
  pub line : Line
  pub is_line : IsLine ls u line
  pub is_primitive : line.kind ≡ primitive
  pub reached : Reaches ls v u

-- each number is below the next: ascending, each once
pub data Ascends : List ℕ → Type 0 where
  none : Ascends []
  one : {x : ℕ} → Ascends (x ∷ [])
  more : {x y : ℕ} {ys : List ℕ} → x < y → Ascends (y ∷ ys) → Ascends (x ∷ y ∷ ys)

-- "the ascending list of all `PN` lines reached by following names from it, the line itself included, each once"
pub record RestsOn (ls : Lines) (v : ℕ) (list : List ℕ) : Type 0 where
  pub ascends : Ascends list
  pub exactly : (u : ℕ) → Member u list ↔ Beneath ls v u

-- `Deleted stays k pieces rest`: of the pieces, whose ordinary lines are lines k, k + 1 and so on, those lines stay for which `stays`
-- holds of their number, and all paragraph lines: "Deleting lines as in paper 2 leaves the paragraph lines standing". They are the rest.
pub data Deleted (language : Language) (stays : ℕ → Type 0) : ℕ → List Bytes → List Bytes → Type 0 where
  no_more : {k : ℕ} → Deleted language stays k [] []
  kept : {k : ℕ} {a : Bytes} {pieces rest : List Bytes} → Ordinary language a → stays k → Deleted language stays (suc k) pieces rest → Deleted language stays k (a ∷ pieces) (a ∷ rest)
  gone : {k : ℕ} {a : Bytes} {pieces rest : List Bytes} → Ordinary language a → ¬ stays k → Deleted language stays (suc k) pieces rest → Deleted language stays k (a ∷ pieces) rest
  standing : {k sign : ℕ} {a p : Bytes} {pieces rest : List Bytes} → IsSign sign → SignLine language sign p a → Deleted language stays k pieces rest → Deleted language stays k (a ∷ pieces) (a ∷ rest)
