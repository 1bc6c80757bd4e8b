-- Arrangements of a correct book with paragraphs: "the paragraph lines keep their order, each line stays in its paragraph and behind the
-- lines it names, and every name means the line it meant before".
use Rattle.std.specs.Prelude.{◌≡◌, ℕ, suc, true, false, List, [], ◌∷◌, ◌++◌, map, length, eqb}
use Rattle.aut68.specs.Language.{Language}
use Rattle.aut68.specs.Bytes.{Bytes}
use Rattle.aut68.specs.Source.{Used}
use Rattle.aut68.specs.Lines.{Line, Lines, line_of}
use Rattle.aut68.specs.Paragraphs.{Place, State, start, current}
use Rattle.aut68.specs.Rules.Grammar.{SignLine, IsSign, Ordinary}
use Rattle.aut68.specs.Rules.Names.{Member, Denotes}
use Rattle.aut68.specs.Rules.Derivation.{Derivation, Moves, Derived}
use Rattle.aut68.specs.Rules.Orders.{Names}

-- the place of a number in a list, from 1
unfoldable pub place_in : ℕ → List ℕ → ℕ
place_in v [] = 0
place_in v (x ∷ xs) = elim (eqb v x) [ true ↦ 1 | false ↦ suc (place_in v xs) ]

-- what names see behind the lines `order` of the old book (by their old numbers) at a place
abbrev pub seen : State → List ℕ → Place → State
seen all order at = record { earlier = map (line_of all.earlier) order; place = at }

module _ (language : Language) where
  -- Among the pieces `old`, which make the state `all`, line v has the bytes b, stands in the state `before` and means l.
  pub record Stands (old : List Bytes) (all : State) (b : Bytes) (v : ℕ) (l : Line) : Type 0 where
    pub front : List Bytes
    pub back : List Bytes
    pub pieces : old ≡ front ++ b ∷ back
    pub before : State
    pub before_derived : Derived language start front before
    pub number : v ≡ suc (length before.earlier)
    pub after : Lines
    pub whole : all.earlier ≡ before.earlier ++ l ∷ after
    pub derivation : Derivation language before b l

  -- `Arranges old all order at signs new`: lines of the old book, `order` of which have passed, and its paragraph lines, `signs` of which
  -- are left, in their order, are the pieces `new`; each line at most once, in its paragraph and behind the lines it names, and every name
  -- means the line that it meant before.
  pub data Arranges (old : List Bytes) (all : State) : List ℕ → Place → List Bytes → List Bytes → Type 0 where
    no_more : {order : List ℕ} {at : Place} → Arranges old all order at [] []
    a_line : {order : List ℕ} {at : Place} {signs new : List Bytes} {b : Bytes} {v : ℕ} {l : Line} (s : Stands old all b v l)
        → ¬ Member v order
        → l.paragraph ≡ current at.opened
        → ((u : Used) (x : ℕ) → Names s.derivation.source u → Denotes s.before u x → Member x order × Denotes (seen all order at) u (place_in x order))
        → Arranges old all (order ++ (v ∷ [])) at signs new
        → Arranges old all order at signs (b ∷ new)
    a_sign : {order : List ℕ} {at next : Place} {signs new : List Bytes} {b : Bytes}
        → Moves language at b next → Arranges old all order next signs new
        → Arranges old all order at (b ∷ signs) (b ∷ new)

  -- `Signs pieces signs`: the paragraph lines among the pieces, in their order
  pub data Signs : List Bytes → List Bytes → Type 0 where
    no_more : Signs [] []
    ordinary : {b : Bytes} {pieces signs : List Bytes} → Ordinary language b → Signs pieces signs → Signs (b ∷ pieces) signs
    a_sign : {b p : Bytes} {sign : ℕ} {pieces signs : List Bytes} → IsSign sign → SignLine language sign p b → Signs pieces signs → Signs (b ∷ pieces) (b ∷ signs)
