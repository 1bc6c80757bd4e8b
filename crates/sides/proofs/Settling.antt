-- Laws: all head steps of the first comparison.
use mathlib.Core.Path.{◌≡◌, refl, sym, ap, ◌∙◌}
use mathlib.Core.Bool.{Bool, true}
use mathlib.Core.List.{List}
use Rattle.std.specs.Prelude.{Option, None, Some, Result, Ok, Err}
use Prim.Native.Nat.{ℕ, ◌*◌}
use lib.ListN.{length}
use Rattle.aut68.specs.Sizes.{nesting}
use Rattle.aut68.specs.Language.{aut68}
use Rattle.aut68.specs.Expr.{Expr}
use Rattle.aut68.specs.Lines.{Lines}
use Rattle.aut68.specs.Procedure.Compare.{Comparison, sides}
use Rattle.constants.specs.declared.codes.Reason.{Reason}
use Rattle.sides.specs.declared.sides.Progress.{Progress}
use Rattle.sides.specs.declared.sides.Progress.TheVariants as Progresses
use Rattle.sides.specs.declared.sides.Sizes.{Sizes}
use Rattle.sides.specs.declared.sides.Settled.{Settled}
use Rattle.sides.specs.declared.sides.Settled.TheVariants as SettledCases
use Rattle.sides.specs.Posts.{Opens, Turned, Turns, Goes, Settles}
use Rattle.sides.specs.Posts
use Rattle.sides.proofs.OpeningLaws.{opened_identical}
use Rattle.agreement.specs.Sides.{next_same, sides_same, sides_parts, sides_spent, sides_step, sides_large}
use Rattle.sides.proofs.ProgressLaws.{Went, Progressed, progress_then, PutInPlace, placed_from, went_from, below_from}

-- the first comparison of two sides under a limit, its parts compared by `inner`
abbrev pub sides_under : ℕ → Lines → Comparison → Comparison
sides_under limit ls inner = sides aut68 ls limit inner

-- identical expressions
pub settled_same : {tb ts w w' : List ℕ} {limit budget a b l r n m : ℕ} {answer : Bool} → Opens tb w a b l r w' answer n m → answer ≡ true
    → Settles tb ts w limit budget a b l r w' (Ok SettledCases.Identical) budget
settled_same {limit = limit} {budget} {l = l} O q = record {
  frame = λ h _. O.frame h;
  means = λ ls k e f B h p P.
      Posts.Goes.identically refl λ d. sides_same aut68 ls limit d e f budget (next_same ls e f (opened_identical l O q ls k e f B P));
}

pub same_sizes : {a b : Sizes} → ◌≡◌ {A = Result Progress Reason} (Ok (Progresses.Stepped a)) (Ok (Progresses.Stepped b)) → a ≡ b
same_sizes q = cc

-- the end that a turn comes to, unless a step was taken
abbrev pub end_of : Result Progress Reason → Option (Result Settled Reason)
end_of (Ok Progresses.Identical) = Some (Ok SettledCases.Identical)
end_of (Ok Progresses.Normal) = Some (Ok SettledCases.Normal)
end_of (Ok (Progresses.Stepped sizes)) = None
end_of (Err r) = Some (Err r)

module _ {tb ts w₀ w₁ w₂ : List ℕ} {limit budget l n₀ r m₀ n m rest rest' : ℕ}
    (p : Progressed (sides_under limit) (2 * nesting) tb ts w₀ limit budget l n₀ r m₀ w₁ n m rest) where
  -- a step was taken
  pub settle_on : {sizes : Sizes} → Turns tb ts w₁ limit rest l n r m w₂ (Ok (Progresses.Stepped sizes)) rest' → length w₂ ≡ length w₁
      → Progressed (sides_under limit) (2 * nesting) tb ts w₀ limit budget l n₀ r m₀ w₂ sizes.left sizes.right rest'
  settle_on {sizes} T long = progress_then (sides_under limit) p long T.frame λ ls k e f B h q P x y. go ls k e f (T.means ls k e f B h q P x y)
    where
      go : (ls : Lines) (k : ℕ) (e f : Expr) → Turned ls limit k w₂ l r e f rest (Ok (Progresses.Stepped sizes)) rest'
          → Went (sides_under limit) ls limit k w₂ l r e f rest sizes.left sizes.right rest'
      go ls k e f (Posts.identically o u q) = absurd (cc)
      go ls k e f (Posts.to_parts o u q P) = absurd (cc)
      go ls k e f (Posts.onward s g o u q h P) =
          record { e' = _; f' = _; pair = P; size_left = ap (λ (x : Sizes). x.left) (same_sizes o); size_right = ap (λ (x : Sizes). x.right) (same_sizes o); goes = λ d. sides_step aut68 ls limit d e f s g q rest rest' u h }
      go ls k e f (Posts.too_far s g o u v q h) = absurd (cc)
      go ls k e f (Posts.spent s g o u v q) = absurd (cc)

  -- no step follows
  module _ {w : List ℕ} {a b : ℕ} (Z : PutInPlace tb w a b l r w₀ n₀ m₀) where
    pub settle_ended : {t : Result Progress Reason} → Turns tb ts w₁ limit rest l n r m w₂ t rest' → (end : Result Settled Reason) → end_of t ≡ Some end
        → Settles tb ts w limit budget a b l r w₂ end rest'
    settle_ended {t} T end z = record {
      frame = below_from (sides_under limit) p Z T.frame;
      means = λ ls k e f B h q P.
          let x = went_from (sides_under limit) p Z ls k e f B h q P in
          goes_from x.goes
          (go ls k x.e' x.f' (T.means ls k x.e' x.f' B h (placed_from (sides_under limit) p Z q) x.pair x.size_left x.size_right));
    }
      where
        -- the same procedure from an earlier pair of sides
        goes_from : {ls : Lines} {k : ℕ} {e f g h : Expr} {c : ℕ} → ((inner : Comparison) → sides aut68 ls limit inner e f budget ≡ sides aut68 ls limit inner g h c)
            → Goes ls limit k w₂ l r g h c end rest' → Goes ls limit k w₂ l r e f budget end rest'
        goes_from q (Posts.Goes.identically z p) = Posts.Goes.identically z λ d. q d ∙ p d
        goes_from q (Posts.Goes.to_parts e f z P p) = Posts.Goes.to_parts e f z P λ d. q d ∙ p d
        goes_from q (Posts.Goes.too_far z p) = Posts.Goes.too_far z λ d. q d ∙ p d
        goes_from q (Posts.Goes.spent z p) = Posts.Goes.spent z λ d. q d ∙ p d

        -- the end by the turn
        ends : {x : Result Progress Reason} → t ≡ x → end_of x ≡ Some end
        ends o = ap end_of (sym o) ∙ z

        same : {x : Result Settled Reason} → ◌≡◌ {A = Option (Result Settled Reason)} (Some x) (Some end) → end ≡ x
        same q = cc

        go : (ls : Lines) (k : ℕ) (e f : Expr) → Turned ls limit k w₂ l r e f rest t rest' → Goes ls limit k w₂ l r e f rest end rest'
        go ls k e f (Posts.identically o u q) = Posts.Goes.identically (same (ends o)) λ d. rw u (sides_same aut68 ls limit d e f rest q)
        go ls k e f (Posts.to_parts o u q P) = Posts.Goes.to_parts e f (same (ends o)) P λ d. rw u (sides_parts aut68 ls limit d e f rest q)
        go ls k e f (Posts.onward s g o u q h P) = let x = ends o in absurd (cc)
        go ls k e f (Posts.too_far s g o u v q h) = Posts.Goes.too_far (same (ends o)) λ d. rw u (sides_large aut68 ls limit d e f s g q rest v h)
        go ls k e f (Posts.spent s g o u v q) = Posts.Goes.spent (same (ends o)) λ d. rw u (sides_spent aut68 ls limit d e f s g q rest v)
