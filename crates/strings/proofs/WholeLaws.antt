-- What a pass over a string says of it.
use mathlib.Core.Path.{◌≡◌, refl, sym, ap, ◌∙◌, subst}
use mathlib.Core.Logic.{⊎_elim}
use mathlib.Core.Bool.{Bool, true, false, true≢false}
use mathlib.Core.List.{List, [], ◌∷◌}
use Prim.Native.Nat.{ℕ, ◌+◌, ◌-◌, ◌≤◌, ◌<◌}
use lib.Dec.{eqb}
use borrow.Author.Tests.{eqb-true}
use Rattle.std.proofs.lemmas.Bool.{eqb-false}
use native.Mathlib.Omega.{arith}
use lib.ListN.{length, get_or, drop, length-drop}
use Rattle.aut68.specs.Lines.{Lines}
use Rattle.aut68.specs.Rules.Strings.{Whole}
use Rattle.cells.specs.Rows.{Rows}
use Rattle.strings.specs.Levels.{levels_at}
use Rattle.strings.specs.Notes.{Notes}
use Rattle.strings.specs.Posts.{SaysRight, SaysWhole}
use Rattle.strings.proofs.ReadLaws.{holds_whole, type_whole, whole_holds}
use Rattle.strings.proofs.CellLaws.{Rest, Reached, holds_long, rest_next, rest_none, none_rest, reached_next}

module _ {tb s : List ℕ} {lines : ℕ} where
  -- `type` alone
  pub says_type : length s ≡ 1 → get_or s 0 0 ≡ 0 → SaysWhole tb lines s true
  says_type l z = record { means = λ ls R e. (λ _. subst (Whole ls) (sym (alone s l z)) (type_whole ls tb R), λ _. refl) }
    where
      alone : (s : List ℕ) → length s ≡ 1 → get_or s 0 0 ≡ 0 → s ≡ 0 ∷ []
      alone [] l z = absurd (omega arith)
      alone (x ∷ []) l z = ap (λ (y : ℕ). y ∷ []) z
      alone (x ∷ y ∷ s) l z = absurd (omega arith)

  -- not `type` alone, and read up to index i
  module _ (other : s ≡ 0 ∷ [] → ⊥) {i : ℕ} (reached : (ls : Lines) → Rows ls tb → length ls ≡ lines → Reached ls tb s i) where
    says_broken : ((ls : Lines) → Rows ls tb → length ls ≡ lines → ¬ Rest ls tb s i) → SaysWhole tb lines s false
    unfolding levels_at
    says_broken broken =
        record {
          means = λ ls R e. (
            λ x. absurd (true≢false (sym x)),
            λ w. absurd (⊎_elim other (λ h. broken ls R e ((reached ls R e).onward h)) (whole_holds ls tb R s w)),
          );
        }

    -- fewer cells are left than expressions to come
    pub says_short : length s - i < length (levels_at tb s i) → SaysWhole tb lines s false
    says_short l = says_broken (λ ls R e h. omega (arith, holds_long ls tb (levels_at tb s i) (drop i s) h, length-drop i s))

    -- the next cell is not right
    pub says_wrong : i < length s → {w : List ℕ} {at : ℕ} {answer : Bool} → Notes tb s i w → at + 1 ≡ length (levels_at tb s i) → SaysRight tb lines s i w at answer → answer ≡ false
        → SaysWhole tb lines s false
    says_wrong l N e r f = says_broken (λ ls R q h. true≢false (sym ((r.means ls R q N e).1 (rest_next ls tb s i l (omega arith) h).0) ∙ f))

    -- it is right
    pub says_right : i < length s → {w : List ℕ} {at : ℕ} {answer : Bool} → Notes tb s i w → at + 1 ≡ length (levels_at tb s i) → SaysRight tb lines s i w at answer → answer ≡ true
        → (ls : Lines) (R : Rows ls tb) → length ls ≡ lines → Reached ls tb s (i + 1)
    says_right l N e r t ls R q = reached_next ls tb s i l (omega arith) ((r.means ls R q N e).0 t) (reached ls R q)

    -- nothing is to come, and cells are left over
    pub says_left_over : i < length s → length (levels_at tb s i) ≡ 0 → SaysWhole tb lines s false
    says_left_over l z = says_broken (λ ls R e h. omega (arith, rest_none ls tb s i (omega arith) z h))

    -- and none is
    pub says_ended : i ≡ length s → length (levels_at tb s i) ≡ 0 → SaysWhole tb lines s true
    unfolding levels_at
    says_ended q z =
        record {
          means = λ ls R e. (
            λ _. holds_whole ls tb R s ((reached ls R e).back (subst (Rest ls tb s) (sym q) (none_rest ls tb s (subst (λ n. length (levels_at tb s n) ≡ 0) q z)))),
            λ _. refl,
          );
        }

    pub says_last : i ≤ length s → length (levels_at tb s i) ≡ 0 → SaysWhole tb lines s (eqb (length s - i) 0)
    says_last l z = of (eqb (length s - i) 0) refl
      where
        of : (t : Bool) → eqb (length s - i) 0 ≡ t → SaysWhole tb lines s t
        of true e = says_ended (omega (arith, eqb-true (length s - i) 0 e)) z
        of false e = says_left_over (omega (arith, eqb-false (length s - i) 0 e)) z
