-- Laws: one turn of the sides, from what its callees ensure to what it ensures.
use mathlib.Core.Path.{◌≡◌, refl, sym, subst, ◌∙◌}
use mathlib.Core.Bool.{Bool, true, false}
use mathlib.Core.Logic.{inl, inr}
use mathlib.Core.Option.{some}
use Rattle.std.specs.Prelude.{Option, None, Some, Ok, Err}
use mathlib.Core.List.{List}
use Prim.Native.Nat.{ℕ, ◌+◌, ◌*◌, ◌-◌, ◌≤◌, ◌<◌}
use native.Mathlib.Omega.{arith}
use lib.ListN.{length}
use Rattle.aut68.specs.Sizes.{nesting}
use Rattle.aut68.specs.Expr.{Expr, size, identical}
use Rattle.aut68.specs.Lines.{Lines}
use Rattle.aut68.specs.Procedure.HeadStep.{head_step, left}
use Rattle.aut68.specs.Procedure.Compare.{choose, next}
use Rattle.calculus.specs.Known.{known_category_head}
use Rattle.cells.specs.Cells.{Outside}
use Rattle.cells.specs.Forests.{size_is_length}
use Rattle.cells.specs.Layout.{unit_at, scratch_unit}
use Rattle.cells.specs.Stores.{outside_same}
use Rattle.heads.specs.Book.{Book, category_wf}
use Rattle.constants.specs.declared.codes.Reason.TheVariants.{TooLarge, OutOfBudget}
use Rattle.heads.specs.Posts.{HeadPost, kind_of, line_of, kind_in, at_in, kept_in, line_in}
use Rattle.heads.specs.declared.heads.Head.{Head}
use Rattle.reduction.specs.Frames.{Framed, at_framed, framed_frame}
use Rattle.reduction.specs.Posts.{StepPost}
use Rattle.agreement.specs.Which.{Which, the_left, the_right, pick, step_in}
use Rattle.sides.specs.Posts.{Side, Pair, Placed, SaysIdentical, Chooses, Takes, side_in, Turned, identically, to_parts, onward, too_far, spent, Turns}
use Rattle.sides.specs.declared.sides.NextStep.{NextStep}
use Rattle.sides.specs.declared.sides.NextStep.TheVariants.{Left, Right}
use Rattle.sides.specs.declared.sides.Progress.TheVariants.{Stepped}
use Rattle.sides.specs.declared.sides.Progress.TheVariants as Progresses
use Rattle.agreement.specs.Sides.{next_same}
use Rattle.sides.proofs.Choosing.{number, next_choice, Choice, neither, chosen, choice}
use Rattle.sides.proofs.Heads.{head_numbered, StepIs, made, large, step_is_lem}

pub answered : {tb ts w : List ℕ} {limit l n r m : ℕ} {answer : Bool} → SaysIdentical w l n r m answer → (ls : Lines) (k : ℕ) (e f : Expr)
    → Book ls limit tb ts → Pair ls limit k w l r e f → n ≡ size e → m ≡ size f → answer ≡ identical e f
answered {tb} same ls k e f B P x y =
    same.means tb e f _ _ (category_wf B.rows k e P.left.known) (category_wf B.rows k f P.right.known) x y P.left.at P.right.at

-- identical sides
pub turn_same : {tb ts w : List ℕ} {limit budget l n r m : ℕ} {answer : Bool} → SaysIdentical w l n r m answer → answer ≡ true
    → Turns tb ts w limit budget l n r m w (Ok Progresses.Identical) budget
turn_same {limit = limit} same q = record {
  spends = omega arith;
  counts = λ z. absurd (cc);
  frame = λ _ _. outside_same;
  means = λ ls k e f B h p P x y. identically refl refl (next_same ls e f (sym (answered same ls k e f B P x y) ∙ q));
}

-- the sides differ, and the next step is chosen
pub record Decided (tb w : List ℕ) (l n r m : ℕ) (hl hr : Option Head) (chose : Option NextStep) : Type 0 where
  pub answer : Bool
  pub same : SaysIdentical w l n r m answer
  pub differ : answer ≡ false
  pub first : HeadPost tb w l n (kind_in hl) (at_in l hl) (kept_in hl) (line_in hl)
  pub second : HeadPost tb w r m (kind_in hr) (at_in r hr) (kept_in hr) (line_in hr)
  pub chosen : Chooses (kind_in hl) (line_in hl) (kind_in hr) (line_in hr) (side_in chose) × Takes hl hr chose

-- what that says of two expressions
record Chosen (ls : Lines) (side : ℕ) (e f : Expr) : Type 0 where
  next_is : next ls e f ≡ choose (head_step ls e) (head_step ls f)
  choice_is : Choice (head_step ls e) (head_step ls f) side

-- ---- by the side

side_of : {ls : Lines} {limit k : ℕ} {w : List ℕ} {l r : ℕ} {e f : Expr} (s : Which) → Pair ls limit k w l r e f
    → Side ls limit k w (pick s l r) (pick s e f)
side_of the_left P = P.left
side_of the_right P = P.right

-- one side is another expression now
pair_of : {ls : Lines} {limit k : ℕ} {w : List ℕ} {l r : ℕ} (s : Which) (e f g : Expr) → Side ls limit k w (pick s l r) g
    → Side ls limit k w (pick s r l) (pick s f e) → Pair ls limit k w l r (pick s g e) (pick s f g)
pair_of the_left e f g x y = record { left = x; right = y }
pair_of the_right e f g x y = record { left = y; right = x }

sizes_of : (s : Which) (e f g : Expr) {n m n' : ℕ} → n' ≡ size g → n ≡ size e → m ≡ size f
    → (pick s n' n ≡ size (pick s g e)) × (pick s m n' ≡ size (pick s f g))
sizes_of the_left e f g v x y = (v, y)
sizes_of the_right e f g v x y = (x, v)

side_below : {limit n l r : ℕ} (s : Which) → Placed limit n l r → pick s l r + limit ≤ unit_at limit scratch_unit
side_below the_left p = omega (arith, p.next, p.below)
side_below the_right p = p.below

step_of_side : (ls : Lines) (s : Which) (e f : Expr) → pick s (head_step ls e) (head_step ls f) ≡ head_step ls (pick s e f)
step_of_side ls the_left e f = refl
step_of_side ls the_right e f = refl

-- the side of a number
the_side : (s t : Which) → number s ≡ number t → t ≡ s
the_side the_left the_left n = refl
the_side the_left the_right n = absurd (omega arith)
the_side the_right the_left n = absurd (omega arith)
the_side the_right the_right n = refl

none_is : (t : Which) → 0 ≡ number t → ⊥
none_is the_left q = omega arith
none_is the_right q = omega arith

-- a chosen step, and its side's
abbrev pub step_by : Which → Head → NextStep
step_by the_left h = Left h
step_by the_right h = Right h

module _ (ts : List ℕ) (limit budget : ℕ) {tb w : List ℕ} {l n r m : ℕ} {hl hr : Option Head} where
  choices : {chose : Option NextStep} → Decided tb w l n r m hl hr chose → (ls : Lines) (k : ℕ) (e f : Expr) → Book ls limit tb ts → Pair ls limit k w l r e f
      → n ≡ size e → m ≡ size f → Chosen ls (side_in chose) e f
  choices D ls k e f B P x y = record {
    next_is = next_choice ls e f (sym (answered D.same ls k e f B P x y) ∙ D.differ);
    choice_is =
        choice D.chosen.0 (head_numbered ls e (D.first.is B k e P.left.known P.left.at x)) (head_numbered ls f (D.second.is B k f P.right.known P.right.at y));
  }

  -- no side has a head step
  pub turn_parts : Decided tb w l n r m hl hr None → Turns tb ts w limit budget l n r m w (Ok Progresses.Normal) budget
  turn_parts D = record {
    spends = omega arith;
    counts = λ x. absurd (cc);
    frame = λ _ _. outside_same;
    means = λ ls k e f B h p P x y. go ls k e f P (choices D ls k e f B P x y);
  }
    where
      go : (ls : Lines) (k : ℕ) (e f : Expr) → Pair ls limit k w l r e f → Chosen ls 0 e f → Turned ls limit k w l r e f budget (Ok Progresses.Normal) budget
      go ls k e f P c = by c.choice_is
        where
          by : Choice (head_step ls e) (head_step ls f) 0 → Turned ls limit k w l r e f budget (Ok Progresses.Normal) budget
          by (neither s q) = to_parts refl refl (c.next_is ∙ q) P
          by (chosen s g x h q) = absurd (none_is s x)

  -- a step is past the budget
  pub turn_spent : {chose : NextStep} → Decided tb w l n r m hl hr (Some chose) → budget ≡ 0 → Turns tb ts w limit budget l n r m w (Err OutOfBudget) budget
  turn_spent {chose} D o = record {
    spends = omega arith;
    counts = λ x. absurd (cc);
    frame = λ _ _. outside_same;
    means = λ ls k e f B h p P x y. go ls k e f (choices D ls k e f B P x y);
  }
    where
      some_is : (step : NextStep) → side_in (Some step) ≡ 0 → ⊥
      some_is (Left h) q = omega arith
      some_is (Right h) q = omega arith

      go : (ls : Lines) (k : ℕ) (e f : Expr) → Chosen ls (side_in (Some chose)) e f → Turned ls limit k w l r e f budget (Err OutOfBudget) budget
      go ls k e f c = by c.choice_is
        where
          by : Choice (head_step ls e) (head_step ls f) (side_in (Some chose)) → Turned ls limit k w l r e f budget (Err OutOfBudget) budget
          by (neither x q) = absurd (some_is chose x)
          by (chosen s g x h q) = spent s g refl refl o (c.next_is ∙ q)

  -- ---- a step in a side

  module _ (s : Which) (h : Head) (D : Decided tb w l n r m hl hr (Some (step_by s h))) where
    -- the side is s
    side_is : (t : Which) → side_in (Some (step_by t h)) ≡ number t
    side_is the_left = refl
    side_is the_right = refl

    -- where the step was found
    found : HeadPost tb w (pick s l r) (pick s n m) (kind_of h.step) h.at h.kept (line_of h.step)
    found = go s D
      where
        go : (t : Which) → Decided tb w l n r m hl hr (Some (step_by t h))
            → HeadPost tb w (pick t l r) (pick t n m) (kind_of h.step) h.at h.kept (line_of h.step)
        go the_left E = let F = E.first in rw E.chosen.1 at F
        go the_right E = let F = E.second in rw E.chosen.1 at F

    -- it starts no earlier than the left side
    behind : l ≤ r → l ≤ h.at
    behind q = go s found.placed
      where
        go : (t : Which) → h.at ≡ pick t l r + h.kept → l ≤ h.at
        go the_left p = omega arith
        go the_right p = omega arith

    -- the other side lies where it did
    stays : {ls : Lines} {k : ℕ} {w' : List ℕ} (e f : Expr) → Framed (unit_at limit scratch_unit) h.at (h.at - h.kept + limit) w w' → Placed limit (length w) l r
        → Pair ls limit k w l r e f → Side ls limit k w' (pick s r l) (pick s f e)
    stays {ls} {k} {w'} e f F p P = go s found.placed
      where
        go : (t : Which) → h.at ≡ pick t l r + h.kept → Side ls limit k w' (pick t r l) (pick t f e)
        go the_left q = record {
          known = P.right.known;
          small = P.right.small;
          rest = _;
          at = at_framed F (omega (arith, p.below, P.right.small, size_is_length f)) (inr (omega (arith, p.next))) P.right.at;
        }
        go the_right q = record {
          known = P.left.known;
          small = P.left.small;
          rest = _;
          at = at_framed F (omega (arith, p.below, p.next, P.left.small, size_is_length e)) (inl (omega (arith, p.next, P.left.small, size_is_length e))) P.left.at;
        }

    module _ {w' : List ℕ} {o : Option ℕ} (S : StepPost tb ts w w' limit h o) (some_left : 0 < budget) where
      frame_step : l ≤ r → l ≤ unit_at limit scratch_unit → Outside l (length w) w w'
      frame_step q t = framed_frame S.framed (behind q) t

      module _ (ls : Lines) (k : ℕ) (e f : Expr) (B : Book ls limit tb ts) (u : k ≤ 2 * nesting) (p : Placed limit (length w) l r)
          (P : Pair ls limit k w l r e f) (x : n ≡ size e) (y : m ≡ size f) where
        size_at : (t : Which) → pick t n m ≡ size (pick t e f)
        size_at the_left = x
        size_at the_right = y

        -- what the step leaves
        record Taken : Type 0 where
          g : Expr
          leaves : left (head_step ls (pick s e f)) ≡ some g
          next_is : next ls e f ≡ step_in s g
          step_is : StepIs limit (pick s l r) g o w'

        taken : Taken
        taken = by c.choice_is
          where
            c : Chosen ls (side_in (Some (step_by s h))) e f
            c = choices D ls k e f B P x y

            of : (g : Expr) → left (pick s (head_step ls e) (head_step ls f)) ≡ some g → choose (head_step ls e) (head_step ls f) ≡ step_in s g → Taken
            of g q z =
                let v : left (head_step ls (pick s e f)) ≡ some g = rw (step_of_side ls s e f) at q in
                let X = side_of s P in
                record {
                  g = g;
                  leaves = v;
                  next_is = c.next_is ∙ z;
                  step_is =
                      step_is_lem v
                      (S.made p.long B k (pick s e f) X.known (omega arith) X.small X.at (side_below s p) (found.is B k (pick s e f) X.known X.at (size_at s)));
                }

            by : Choice (head_step ls e) (head_step ls f) (side_in (Some (step_by s h))) → Taken
            by (neither z q) = absurd (none_is s (sym z ∙ side_is s))
            by (chosen t g z q v) =
                let i : t ≡ s = the_side s t (sym (side_is s) ∙ z) in
                of g (subst (λ (a : Which). left (pick a (head_step ls e) (head_step ls f)) ≡ some g) i q)
                (subst (λ (a : Which). choose (head_step ls e) (head_step ls f) ≡ step_in a g) i v)

    some_size : {i j : ℕ} → ◌≡◌ {A = Option ℕ} (Some i) (Some j) → i ≡ j
    some_size q = cc

    pub turn_step : {w' : List ℕ} {n' budget' : ℕ} → StepPost tb ts w w' limit h (Some n') → budget' + 1 ≡ budget
        → Turns tb ts w limit budget l n r m w' (Ok (Stepped (record { left = pick s n' n; right = pick s m n' }))) budget'
    turn_step {w'} {n'} {budget'} S b = record {
      spends = omega arith;
      counts = λ _. b;
      frame = frame_step S (omega arith);
      means = λ ls k e f B u p P x y. by ls k e f B u p P x y (taken S (omega arith) ls k e f B u p P x y);
    }
      where
        by : (ls : Lines) (k : ℕ) (e f : Expr) (B : Book ls limit tb ts) (u : k ≤ 2 * nesting) (p : Placed limit (length w) l r)
            (P : Pair ls limit k w l r e f) (x : n ≡ size e) (y : m ≡ size f) → Taken S (omega arith) ls k e f B u p P x y
            → Turned ls limit k w' l r e f budget (Ok (Stepped (record { left = pick s n' n; right = pick s m n' }))) budget'
        by ls k e f B u p P x y T = of T.step_is
          where
            of : StepIs limit (pick s l r) T.g (Some n') w' → Turned ls limit k w' l r e f budget (Ok (Stepped (record { left = pick s n' n; right = pick s m n' }))) budget'
            of (made a v at') =
                let new : Side ls limit k w' (pick s l r) T.g = record {
                  known = known_category_head ls B.resolved k (pick s e f) T.g T.leaves (side_of s P).known;
                  small = a;
                  rest = at'.rest;
                  at = at'.at;
                }
                in
                let q = sizes_of s e f T.g (some_size v) x y in
                onward s T.g (rw (q.0, q.1) refl) b T.next_is a (pair_of s e f T.g new (stays e f S.framed p P))
            of (large a v) = absurd (cc)

    pub turn_large : {w' : List ℕ} → StepPost tb ts w w' limit h None → 0 < budget → Turns tb ts w limit budget l n r m w' (Err TooLarge) budget
    turn_large {w'} S o = record {
      spends = omega arith;
      counts = λ x. absurd (cc);
      frame = frame_step S o;
      means = λ ls k e f B u p P x y. by ls k e f B u p P x y (taken S o ls k e f B u p P x y);
    }
      where
        by : (ls : Lines) (k : ℕ) (e f : Expr) (B : Book ls limit tb ts) (u : k ≤ 2 * nesting) (p : Placed limit (length w) l r)
            (P : Pair ls limit k w l r e f) (x : n ≡ size e) (y : m ≡ size f) → Taken S o ls k e f B u p P x y
            → Turned ls limit k w' l r e f budget (Err TooLarge) budget
        by ls k e f B u p P x y T = of T.step_is
          where
            of : StepIs limit (pick s l r) T.g None w' → Turned ls limit k w' l r e f budget (Err TooLarge) budget
            of (made a v at') = absurd (cc)
            of (large a v) = too_far s T.g refl refl o T.next_is a
