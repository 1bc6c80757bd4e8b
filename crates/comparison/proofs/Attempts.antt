-- Laws: a pair of the second comparison at one depth. Before each step the parts are compared; the sides lie below them, so they are as
-- they stood.
use mathlib.Core.Path.{◌≡◌, refl, sym, ap, subst, ◌∙◌}
use mathlib.Core.Bool.{Bool, true, false, not}
use denote.Enum.Bare.{sameb, same_true}
use Rattle.std.proofs.Common.{rules}
use Rattle.constants.specs.contracts.codes.Reason.{the_type}
use mathlib.Core.List.{List}
use Rattle.std.specs.Prelude.{Option, Some, None, Ok, Err}
use Rattle.std.specs.Prelude as Code
use Prim.Native.Nat.{ℕ, suc, ◌+◌, ◌*◌, ◌-◌, ◌≤◌}
use native.Mathlib.Omega.{arith}
use lib.ListN.{length, take}
use borrow.Author.Tests.{ne_eqb}
use Rattle.aut68.specs.Sizes.{nesting}
use Rattle.aut68.specs.Language.{aut68}
use Rattle.aut68.specs.Expr.{Expr, size}
use Rattle.aut68.specs.Lines.{Lines}
use Rattle.aut68.specs.Procedure.Answer.{Answer, done, stop, code_of, mismatch, too_large}
use Rattle.aut68.specs.Procedure.Compare.{Next, next, Comparison, compare_parts}
use Rattle.aut68.specs.Procedure.PartsFirst.{differs, parts_first_at}
use Rattle.lookup.specs.Answers.{code_injective, code_nonzero}
use Rattle.agreement.specs.Sides.{next_same}
use Rattle.agreement.specs.Turns.{Other, next_other, turn_same, turn_equal, turn_stands, turn_different, turn_spent, turn_large, turn_onward}
use Rattle.cells.specs.Cells.{Outside}
use Rattle.cells.specs.Layout.{unit_at, side_unit}
use Rattle.cells.specs.Results.{Result, passed, refused}
use Rattle.cells.specs.Stores.{outside_same, outside_then, outside_more}
use Rattle.heads.specs.Book.{Book}
use Rattle.constants.specs.Reasons.{refusal_of}
use Rattle.constants.specs.declared.codes.Reason.{Reason}
use Rattle.constants.specs.declared.codes.Reason.TheVariants as Reasons
use Rattle.constants.specs.declared.codes.Reason.TheVariants.{WorkTooSmall, LimitOutOfRange, Malformed, Duplicate, UnknownName, WrongArity}
use Rattle.constants.specs.declared.codes.Reason.TheVariants.{NotFunction, NotType, Mismatch, OutOfSpace, NotInContext, Unbalanced}
use Rattle.sides.specs.declared.sides.Sizes.{Sizes}
use Rattle.sides.proofs.Settling.{same_sizes}
use Rattle.sides.specs.declared.sides.Progress.{Progress}
use Rattle.sides.specs.declared.sides.Progress.TheVariants.{Identical, Normal, Stepped}
use Rattle.sides.specs.Posts.{Pair, Placed, SaysIdentical, Opens, Turned, Turns}
use Rattle.sides.specs.Posts
use Rattle.sides.proofs.OpeningLaws.{opened_identical}
use Rattle.sides.proofs.Steps.{answered}
use Rattle.sides.proofs.ProgressLaws.{Below, PutInPlace, Went, Progressed, progress_none, progress_then, placed_from, went_from, below_from}
use Rattle.comparison.specs.Posts.{ComparesFirst, AttemptsParts}
use Rattle.comparison.proofs.Depths.{result_is, Opened, placed, pair_frame, deeper_unit, pair_below, pair_kept}

pub parts_first_none : (ls : Lines) (L : ℕ) (e f : Expr) (b : ℕ) → Result (λ _. Unit {0}) (code_of too_large) b (parts_first_at ls L 0 e f b)
unfolding parts_first_at
parts_first_none ls L e f b = refused {r = too_large} refl

-- the second comparison that may go so many levels deeper; it has no other comparison inside
abbrev pub second : ℕ → ℕ → Lines → Unit {0} → Comparison
second limit deeper ls u = parts_first_at ls limit deeper

-- ---- what an attempt says, at one depth

module _ (ls : Lines) (L d : ℕ) (e f : Expr) (b : ℕ) {code rest : ℕ} where
  -- all but 9 stands
  stands : (x : Next) → next ls e f ≡ x → Other x → (code ≡ 9 → ⊥) → (m : Answer ℕ (Unit {0})) → compare_parts aut68 (parts_first_at ls L d) e f b ≡ m
      → Result (λ _. Unit {0}) code rest m → Result (λ _. Unit {0}) code rest (parts_first_at ls L (suc d) e f b)
  unfolding differs
  stands x q o n (done u b') e₁ (passed z h) = result_is (turn_equal ls L d e f b x q o b' e₁) (passed z tt)
  stands x q o n (stop k b') e₁ (refused z) = result_is (turn_stands ls L d e f b x q o k b' (ne_eqb _ _ λ y. n (z ∙ y)) e₁) (refused z)

-- 9 is what it says
module _ (ls : Lines) (L d : ℕ) (e f : Expr) (b : ℕ) {rest : ℕ} where
  nine : (m : Answer ℕ (Unit {0})) → compare_parts aut68 (parts_first_at ls L d) e f b ≡ m → Result (λ _. Unit {0}) (code_of mismatch) rest m
      → compare_parts aut68 (parts_first_at ls L d) e f b ≡ stop mismatch rest
  nine (done u b') e₁ (passed z h) = absurd (code_nonzero mismatch z)
  nine (stop k b') e₁ (refused z) = e₁ ∙ ap (λ r. stop r b') (code_injective k mismatch (sym z))

-- the only reason with that code
pub different : (r : Reason) → code_of (refusal_of r) ≡ 9 → r ≡ Mismatch
unfolding code_of
different WorkTooSmall q = absurd (omega arith)
different LimitOutOfRange q = absurd (omega arith)
different Malformed q = absurd (omega arith)
different Duplicate q = absurd (omega arith)
different UnknownName q = absurd (omega arith)
different WrongArity q = absurd (omega arith)
different NotFunction q = absurd (omega arith)
different NotType q = absurd (omega arith)
different Mismatch q = refl
different Reasons.TooLarge q = absurd (omega arith)
different Reasons.OutOfBudget q = absurd (omega arith)
different OutOfSpace q = absurd (omega arith)
different NotInContext q = absurd (omega arith)
different Unbalanced q = absurd (omega arith)

-- where the code's test fails
pub mismatched : (r : Reason) → false ≡ not (sameb the_type r Mismatch) → r ≡ Mismatch
mismatched r q = same_true the_type (search rules) _ _ (untrue (sameb the_type r Mismatch) q)
  where
    untrue : (t : Bool) → false ≡ not t → t ≡ true
    untrue true q = refl
    untrue false q = absurd (cc)

-- ---- the loop

-- steps were taken in the sides, with an attempt before each
pub record Passed (deeper : ℕ) (tb ts w : List ℕ) (limit budget l n r m : ℕ) (w' : List ℕ) (n' m' rest : ℕ) : Type 0 where
  pub spends : rest ≤ budget
  pub progressed : Progressed (second limit deeper) (2 * nesting - deeper) tb ts w limit budget l n r m w' n' m' rest

-- the code that a turn ends with, unless a step was taken
abbrev pub end_code : Code.Result Progress Reason → Option ℕ
end_code (Ok Identical) = Some 0
end_code (Ok Normal) = Some (code_of mismatch)
end_code (Ok (Stepped sizes)) = None
end_code (Err r) = Some (code_of (refusal_of r))

pub passed_none : (deeper : ℕ) {tb ts w : List ℕ} {limit budget l n r m : ℕ} → Passed deeper tb ts w limit budget l n r m w n m budget
passed_none deeper {limit = limit} = record { spends = omega arith; progressed = progress_none (second limit deeper) }

module _ {limit deeper l r : ℕ} (O : Opened limit deeper l r) where
  -- its levels, with one opened
  levels : deeper ≡ suc (deeper - 1)
  levels = omega (arith, O.some)

  opens : (ls : Lines) (e f : Expr) (b : ℕ) → parts_first_at ls limit deeper e f b ≡ parts_first_at ls limit (suc (deeper - 1)) e f b
  opens ls e f b = ap (λ (n : ℕ). parts_first_at ls limit n e f b) levels

  module _ {tb ts w w₁ : List ℕ} {budget a b n m : ℕ} {answer : Bool} (X : Opens tb w a b l r w₁ answer n m) where
    -- identical expressions
    pub first_same : answer ≡ true → ComparesFirst tb ts w limit budget a b deeper w₁ 0 budget
    first_same q = record {
      spends = omega arith;
      compares = record {
        frame = λ _ _. pair_frame O λ h _. X.frame h;
        means = λ ls k e f B d d' h P.
            result_is
            (opens ls e f budget
            ∙ turn_same ls limit (deeper - 1) e f budget
            (next_same ls e f (opened_identical (unit_at limit (side_unit deeper)) X q ls k e f B P)))
            (passed refl tt);
      };
    }

  module _ {tb ts w w₀ w₁ : List ℕ} {budget a b n₀ m₀ n m rest : ℕ} (Z : PutInPlace tb w a b l r w₀ n₀ m₀)
      (I : Passed deeper tb ts w₀ limit budget l n₀ r m₀ w₁ n m rest) where
    -- what is said of the sides now is said of the pair
    from_now : {w₂ : List ℕ} {code rest₂ : ℕ} → rest₂ ≤ rest → Below limit l r w₁ w₂
        → ((ls : Lines) (k : ℕ) (e f : Expr) → Book ls limit tb ts → k + deeper ≤ 2 * nesting → Placed limit (length w₁) l r → Pair ls limit k w₁ l r e f → n ≡ size e → m ≡ size f
        → Result (λ _. Unit {0}) code rest₂ (parts_first_at ls limit (suc (deeper - 1)) e f rest))
        → ComparesFirst tb ts w limit budget a b deeper w₂ code rest₂
    from_now s frame g = record {
      spends = omega (arith, I.spends);
      compares = record {
        frame = λ _ _. pair_frame O (below_from (second limit deeper) I.progressed Z frame);
        means = λ ls k e f B d d' h P.
            let p = placed O (length w) h in
            let x =
            went_from (second limit deeper) I.progressed Z ls k e f B (omega arith) p
            (subst (λ (i : ℕ). Pair ls limit k (take i w) a b e f) (sym O.left) P)
            in
            result_is (x.goes tt ∙ opens ls x.e' x.f' rest)
            (g ls k x.e' x.f' B d (placed_from (second limit deeper) I.progressed Z p) x.pair x.size_left x.size_right);
      };
    }

    module _ {answer : Bool} (S : SaysIdentical w₁ l n r m answer) where
      -- they are identical
      pub pass_same : answer ≡ true → ComparesFirst tb ts w limit budget a b deeper w₁ 0 rest
      pass_same q =
          from_now (omega arith) (λ _ _. outside_same) λ ls k e f B d p P x y.
          result_is (turn_same ls limit (deeper - 1) e f rest (next_same ls e f (sym (answered S ls k e f B P x y) ∙ q))) (passed refl tt)

      -- they are not: their parts are compared
      module _ (differ : answer ≡ false) {w₂ : List ℕ} {code rest₂ : ℕ} (A : AttemptsParts tb ts w₁ limit rest l r (deeper - 1) w₂ code rest₂)
          (long₂ : length w₂ ≡ length w₁) where
        other : (ls : Lines) (k : ℕ) (e f : Expr) → Book ls limit tb ts → Pair ls limit k w₁ l r e f → n ≡ size e → m ≡ size f → Other (next ls e f)
        other ls k e f B P x y = next_other ls e f (sym (answered S ls k e f B P x y) ∙ differ)

        attempted : (ls : Lines) (k : ℕ) (e f : Expr) → Book ls limit tb ts → k + deeper ≤ 2 * nesting → Placed limit (length w₁) l r → Pair ls limit k w₁ l r e f
            → Result (λ _. Unit {0}) code rest₂ (compare_parts aut68 (parts_first_at ls limit (deeper - 1)) e f rest)
        attempted ls k e f B d p P =
            A.compares.means ls k e f B (omega (arith, O.some)) (omega (arith, O.few)) p.long (pair_below O P)

        -- the sides lie below
        deeper_frame : Outside (unit_at limit (side_unit (deeper - 1))) (length w₁) w₁ w₂
        deeper_frame = A.compares.frame O.small (omega (arith, O.few))

        side_frame : Below limit l r w₁ w₂
        side_frame h t = outside_more (omega (arith, O.right, deeper_unit O)) (omega arith) deeper_frame

        -- all but 9 stands
        pub pass_stands : (code ≡ 9 → ⊥) → ComparesFirst tb ts w limit budget a b deeper w₂ code rest₂
        pass_stands q =
            from_now A.spends side_frame λ ls k e f B d p P x y.
            stands ls limit (deeper - 1) e f rest (next ls e f) refl (other ls k e f B P x y) q _ refl (attempted ls k e f B d p P)

      -- the parts differ
      module _ (differ : answer ≡ false) {w₂ : List ℕ} {rest₂ : ℕ} (A : AttemptsParts tb ts w₁ limit rest l r (deeper - 1) w₂ (code_of mismatch) rest₂)
          (long₂ : length w₂ ≡ length w₁) where
        differs_so : (ls : Lines) (k : ℕ) (e f : Expr) → Book ls limit tb ts → k + deeper ≤ 2 * nesting → Placed limit (length w₁) l r → Pair ls limit k w₁ l r e f
            → compare_parts aut68 (parts_first_at ls limit (deeper - 1)) e f rest ≡ stop mismatch rest₂
        differs_so ls k e f B d p P = nine ls limit (deeper - 1) e f rest _ refl (attempted differ A long₂ ls k e f B d p P)

        -- after that, a turn
        module _ {w₃ : List ℕ} {rest₃ : ℕ} where
          module _ {t : Code.Result Progress Reason} (T : Turns tb ts w₂ limit rest₂ l n r m w₃ t rest₃) where
            turned : (ls : Lines) (k : ℕ) (e f : Expr) → Book ls limit tb ts → k + deeper ≤ 2 * nesting → Placed limit (length w₁) l r → Pair ls limit k w₁ l r e f
                → n ≡ size e → m ≡ size f → Turned ls limit k w₃ l r e f rest₂ t rest₃
            turned ls k e f B d p P x y =
                T.means ls k e f B (omega arith) (record { next = p.next; below = p.below; long = omega (arith, p.long) })
                (pair_kept O (deeper_frame differ A long₂) P) x y

            turn_frame : Below limit l r w₁ w₃
            turn_frame h t = outside_then (side_frame differ A long₂ h t) (outside_more (omega arith) (omega arith) (T.frame h t))

          -- the sides are identical after all, or no side has a head step, or the step is refused
          pub pass_ended : {t : Code.Result Progress Reason} → Turns tb ts w₂ limit rest₂ l n r m w₃ t rest₃ → {code : ℕ} → end_code t ≡ Some code
              → ComparesFirst tb ts w limit budget a b deeper w₃ code rest₃
          pass_ended {t} T {code} z =
              from_now (omega (arith, A.spends, T.spends)) (turn_frame T) λ ls k e f B d p P x y.
              go ls k e f (other differ A long₂ ls k e f B P x y) (differs_so ls k e f B d p P) (turned T ls k e f B d p P x y)
            where
              code_is : {x : Code.Result Progress Reason} {i : ℕ} → t ≡ x → end_code x ≡ Some i → code ≡ i
              code_is o q = let p : ◌≡◌ {A = Option ℕ} (Some code) (Some _) = sym z ∙ ap end_code o ∙ q in cc

              go : (ls : Lines) (k : ℕ) (e f : Expr) → Other (next ls e f) → compare_parts aut68 (parts_first_at ls limit (deeper - 1)) e f rest ≡ stop mismatch rest₂
                  → Turned ls limit k w₃ l r e f rest₂ t rest₃ → Result (λ _. Unit {0}) code rest₃ (parts_first_at ls limit (suc (deeper - 1)) e f rest)
              go ls k e f i c (Posts.identically o u q) = absurd (subst Other q i)
              go ls k e f i c (Posts.to_parts o u q P) =
                  rw u (result_is (turn_different ls limit (deeper - 1) e f rest q rest₂ c) (refused {r = mismatch} (code_is o refl)))
              go ls k e f i c (Posts.onward s g o u q h P) = let p = sym z ∙ ap end_code o in absurd (cc)
              go ls k e f i c (Posts.too_far s g o u v q h) =
                  rw u (result_is (turn_large ls limit (deeper - 1) e f rest s g q rest₂ c v h) (refused (code_is o refl)))
              go ls k e f i c (Posts.spent s g o u v q) = rw u (result_is (turn_spent ls limit (deeper - 1) e f rest s g q rest₂ c v) (refused (code_is o refl)))

          -- it is taken
          pub pass_next : {sizes : Sizes} → Turns tb ts w₂ limit rest₂ l n r m w₃ (Ok (Stepped sizes)) rest₃ → length w₃ ≡ length w₂
              → Passed deeper tb ts w₀ limit budget l n₀ r m₀ w₃ sizes.left sizes.right rest₃
          pass_next {sizes} T long₃ = record {
            spends = omega (arith, I.spends, A.spends, T.spends);
            progressed =
                progress_then (second limit deeper) I.progressed (long₃ ∙ long₂) (turn_frame T) λ ls k e f B h p P x y.
                let d : k + deeper ≤ 2 * nesting = omega (arith, O.few) in
                go ls k e f (differs_so ls k e f B d p P) (turned T ls k e f B d p P x y);
          }
            where
              go : (ls : Lines) (k : ℕ) (e f : Expr) → compare_parts aut68 (parts_first_at ls limit (deeper - 1)) e f rest ≡ stop mismatch rest₂
                  → Turned ls limit k w₃ l r e f rest₂ (Ok (Stepped sizes)) rest₃ → Went (second limit deeper) ls limit k w₃ l r e f rest sizes.left sizes.right rest₃
              go ls k e f c (Posts.identically o u q) = absurd (cc)
              go ls k e f c (Posts.to_parts o u q P) = absurd (cc)
              go ls k e f c (Posts.onward s g o u q h P) = record {
                e' = _;
                f' = _;
                pair = P;
                size_left = ap (λ (x : Sizes). x.left) (same_sizes o);
                size_right = ap (λ (x : Sizes). x.right) (same_sizes o);
                goes = λ _. opens ls e f rest ∙ turn_onward ls limit (deeper - 1) e f rest s g q rest₂ c rest₃ u h ∙ sym (opens ls _ _ rest₃);
              }
              go ls k e f c (Posts.too_far s g o u v q h) = absurd (cc)
              go ls k e f c (Posts.spent s g o u v q) = absurd (cc)
