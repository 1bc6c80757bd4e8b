-- Head steps until there is none, and then an abstraction's domain and body.
use mathlib.Core.Path.{◌≡◌, refl, sym, ap, subst, ◌∙◌}
use mathlib.Core.Bool.{Bool, true, false}
use mathlib.Core.Option.{none, some, none-ne-some}
use Rattle.std.specs.Prelude.{Option, Some, None}
use mathlib.Core.List.{List, ◌++◌}
use Prim.Native.Nat.{ℕ, zero, suc, ◌+◌, ◌-◌, ◌*◌, ◌≤◌, ◌<◌}
use native.Mathlib.Omega.{arith}
use lib.Dec.{leb}
use lib.ListN.{length, get_or}
use borrow.Author.Tests.{le-leb, lt-leb, leb-true, leb-false}
use Rattle.aut68.specs.Sizes.{largest_limit, work_units}
use Rattle.aut68.specs.Expr.{Expr, type, prop, var, bound, const, app, abs, nil, cons, size, cells, first_cell, count_exprs, Shape, shape, abstraction, other}
use Rattle.aut68.specs.Lines.{Lines}
use Rattle.aut68.specs.Procedure.Answer.{Refusal, done, stop, and_then, code_of, not_function, too_large, out_of_budget}
use Rattle.aut68.specs.Procedure.HeadStep.{no_step, head_step, left}
use Rattle.aut68.specs.Procedure.Category.{head_form, parts, to_function}
use Rattle.calculus.specs.Scoped.{ScopedCategory}
use Rattle.aut68.specs.Rules.Resolved.{Known}
use Rattle.calculus.specs.Resolved.{KnownCategory}
use Rattle.calculus.specs.Known.{known_category_head}
use Rattle.cells.specs.Cells.{AllFormed, Wf, At}
use Rattle.cells.specs.Forests.{at_first, at_inside, at_front, at_one, at_tail, cells_one, cells_long, size_is_length}
use Rattle.cells.specs.Layout.{unit_at, scratch_unit}
use Rattle.cells.specs.Posts.{Skipped}
use Rattle.lookup.specs.Answers.{code_nonzero}
use Rattle.cells.specs.Results.{Result, passed, refused}
use Rattle.heads.specs.Book.{Book, known_wf}
use Rattle.heads.specs.Heads.{HeadIs, no_head, contraction, unfolding_of}
use Rattle.heads.specs.Posts.{HeadPost, kind_of, line_of}
use Rattle.heads.specs.declared.heads.Head as struct
use Rattle.heads.proofs.HeadLaws.{not_abs}
use Rattle.reduction.specs.Frames.{Framed, Lies, framed_then, framed_more}
use Rattle.reduction.specs.Posts.{Stepped, StepPost}
use Rattle.reduction.proofs.StepLaws.{stepping}
use Rattle.reduction.specs.FunctionPosts.{FormIs, normal, FormPost, FunctionAt, FunctionPost}
use Rattle.reduction.specs.FunctionPosts
use Rattle.reduction.specs.declared.functions.Function.{Function}

-- ---- the procedure, step by step

module _ (ls : Lines) (L : ℕ) where
  -- an abstraction has no head step
  stepped_shape : (g x : Expr) → left (head_step ls g) ≡ some x → shape g ≡ other
  unfolding head_step left shape
  stepped_shape type x e = refl
  stepped_shape prop x e = refl
  stepped_shape (var v) x e = refl
  stepped_shape (bound v) x e = refl
  stepped_shape (const v xs) x e = refl
  stepped_shape (app a b) x e = refl
  stepped_shape (abs p t) x e = absurd (none-ne-some x e)

  form_spent_at : (g x : Expr) → left (head_step ls g) ≡ some x → head_form ls L g 0 ≡ stop out_of_budget 0
  unfolding head_form
  form_spent_at g x e = rw (stepped_shape g x e, e, head_form)

  form_large_at : (g x : Expr) (b : ℕ) → left (head_step ls g) ≡ some x → L < size x → head_form ls L g (suc b) ≡ stop too_large (suc b)
  unfolding head_form
  form_large_at g x b e h = rw (stepped_shape g x e, e, lt-leb (size x) L h, head_form)

  form_steps_at : (g x : Expr) (b : ℕ) → left (head_step ls g) ≡ some x → size x ≤ L → head_form ls L g (suc b) ≡ head_form ls L x b
  unfolding head_form
  form_steps_at g x b e h = rw (stepped_shape g x e, e, le-leb (size x) L h, head_form)

  -- an abstraction is its own head form, and so is what has no head step
  form_none_at : (g : Expr) (b : ℕ) → head_step ls g ≡ no_step → head_form ls L g b ≡ done g b
  unfolding left head_form
  form_none_at g b e = go (shape g) refl b
    where
      q : left (head_step ls g) ≡ none
      q = ap left e

      go : (s : Shape) → shape g ≡ s → (b : ℕ) → head_form ls L g b ≡ done g b
      go (abstraction p t) s zero = rw (s, head_form)
      go (abstraction p t) s (suc b) = rw (s, head_form)
      go other s zero = rw (s, q, head_form)
      go other s (suc b) = rw (s, q, head_form)

  function_of : (c g : Expr) (b b' : ℕ) → head_form ls L c b ≡ done g b' → to_function ls L c b ≡ parts (shape g) b'
  unfolding to_function and_then
  function_of c g b b' e = rw (e, and_then)

  function_stops : (c : Expr) (b b' : ℕ) {r : Refusal} → head_form ls L c b ≡ stop r b' → to_function ls L c b ≡ stop r b'
  unfolding to_function and_then
  function_stops c b b' e = rw (e, and_then)

  function_none : (c g : Expr) (b b' : ℕ) → head_form ls L c b ≡ done g b' → shape g ≡ other → to_function ls L c b ≡ stop not_function b'
  unfolding parts
  function_none c g b b' e s = function_of c g b b' e ∙ ap (λ (x : Shape). parts x b') s

  function_found : (c p t : Expr) (b b' : ℕ) → head_form ls L c b ≡ done (abs p t) b' → to_function ls L c b ≡ done (record { domain = p; body = t }) b'
  unfolding parts shape
  function_found c p t b b' e = function_of c (abs p t) b b' e

-- ---- a loop of head steps

-- c has come to g, of n cells at index `at`, with the budget budget'
pub record Reduced (ls : Lines) (limit k at : ℕ) (c : Expr) (budget : ℕ) (w : List ℕ) (n budget' : ℕ) : Type 0 where
  pub g : Expr
  pub known : KnownCategory ls k g
  pub small : size g ≤ limit
  pub sized : n ≡ size g
  pub lies : Lies w at g
  pub same : head_form ls limit c budget ≡ head_form ls limit g budget'

-- so it is for whatever expression of n₀ cells stood at `at` of the store w₀
pub record Reducing (tb ts w₀ w : List ℕ) (limit budget at n₀ n budget' : ℕ) : Type 0 where
  pub of : work_units * limit ≤ length w₀ → {ls : Lines} → Book ls limit tb ts → (k : ℕ) (c : Expr) {rest : List ℕ} → KnownCategory ls k c → k ≤ largest_limit → size c ≤ limit
      → n₀ ≡ size c → at + limit ≤ unit_at limit scratch_unit → At w₀ at (cells c) rest → Reduced ls limit k at c budget w n budget'

pub reducing_starts : {tb ts w : List ℕ} {limit budget at n : ℕ} → Reducing tb ts w w limit budget at n n budget
reducing_starts = record {
  of = λ l B k c {rest} K z s q u a. record { g = c; known = K; small = s; sized = q; lies = record { rest = rest; at = a }; same = refl };
}

head_none_of : {ls : Lines} {start kind at kept v : ℕ} {g : Expr} → HeadIs ls start kind at kept v g → kind ≡ 0 → head_step ls g ≡ no_step
head_none_of (no_head q o) z = q
head_none_of (contraction fs a p t q i o d f) z = absurd (omega arith)
head_none_of (unfolding_of fs xs l m q j x i o d f) z = absurd (omega arith)

head_some_of : {ls : Lines} {start kind at kept v : ℕ} {g : Expr} → HeadIs ls start kind at kept v g → (kind ≡ 0 → ⊥) → (x : Expr) × (left (head_step ls g) ≡ some x)
unfolding left
head_some_of (no_head q o) n = absurd (n o)
head_some_of (contraction fs a p t q i o d f) n = (_, ap left i)
head_some_of (unfolding_of fs xs l m q j x i o d f) n = (_, ap left i)

module _ {tb ts w₀ w : List ℕ} {limit budget at n₀ n budget' : ℕ} (F : Framed (unit_at limit scratch_unit) at (at + limit) w₀ w)
    (R : Reducing tb ts w₀ w limit budget at n₀ n budget') where
  pub form_normal : {at' kept line : ℕ} → HeadPost tb w at n 0 at' kept line → FormPost tb ts w₀ w limit budget at n₀ 0 n budget'
  form_normal H = record {
    framed = F;
    is = λ l {ls} B k c K y s q u a.
        let r = R.of l B k c K y s q u a in
        let none = head_none_of (H.is B k r.g r.known r.lies.at r.sized) refl in
        normal r.g refl none r.known r.small r.sized r.lies (r.same ∙ form_none_at ls limit r.g budget' none);
  }

  module _ (h : struct.Head) (H : HeadPost tb w at n (kind_of h.step) h.at h.kept (line_of h.step)) where
    pub form_spent : {size' : ℕ} → budget' ≡ 0 → FormPost tb ts w₀ w limit budget at n₀ (code_of out_of_budget) size' budget'
    form_spent e = record {
      framed = F;
      is = λ l {ls} B k c K y s q u a.
          let r = R.of l B k c K y s q u a in
          let (x, i) = head_some_of (H.is B k r.g r.known r.lies.at r.sized) (stepping h.step) in
          FunctionPosts.refused out_of_budget refl
          (r.same ∙ ap (head_form ls limit r.g) e ∙ form_spent_at ls limit r.g x i ∙ ap (λ (b : ℕ). stop out_of_budget b) (sym e));
    }

    module _ {w₁ : List ℕ} {r : Option ℕ} (budgeted : budget' ≡ 0 → ⊥) (S : StepPost tb ts w w₁ limit h r) where
      pub form_framed : Framed (unit_at limit scratch_unit) at (at + limit) w₀ w₁
      form_framed = framed_then F (framed_more (omega arith) (omega (arith, H.placed)) (omega (arith, H.placed)) S.framed)

      step_of : work_units * limit ≤ length w₀ → {ls : Lines} → Book ls limit tb ts → (k : ℕ) → k ≤ largest_limit → at + limit ≤ unit_at limit scratch_unit → {c : Expr}
          → (y : Reduced ls limit k at c budget w n budget') → Stepped ls limit at y.g r w₁
      step_of l B k z u y =
          S.made (omega (arith, F.long)) B k y.g y.known z y.small y.lies.at u (H.is B k y.g y.known y.lies.at y.sized)

    -- the next expression has more cells than the limit
    pub form_large : {w₁ : List ℕ} {size' : ℕ} → (budget' ≡ 0 → ⊥) → StepPost tb ts w w₁ limit h None
        → FormPost tb ts w₀ w₁ limit budget at n₀ (code_of too_large) size' budget'
    form_large {w₁} budgeted S = record {
      framed = form_framed budgeted S;
      is = λ l {ls} B k c K z s q u a.
          let y = R.of l B k c K z s q u a in
          let X = step_of budgeted S l B k z u y in
          let e : budget' ≡ suc (budget' - 1) = omega arith in
          FunctionPosts.refused too_large refl
          (y.same
          ∙ ap (head_form ls limit y.g) e
          ∙ form_large_at ls limit y.g X.next (budget' - 1) X.is (too_large_lem X)
          ∙ ap (λ (b : ℕ). stop too_large b) (sym e));
    }
      where
        too_large_lem : {ls : Lines} {e : Expr} (X : Stepped ls limit at e None w₁) → limit < size X.next
        too_large_lem X = go (leb (size X.next) limit) refl
          where
            go : (t : Bool) → leb (size X.next) limit ≡ t → limit < size X.next
            go false q = leb-false (size X.next) limit q
            go true q = let e = (X.fits (leb-true (size X.next) limit q)).0 in absurd (cc)

    -- or it takes the place of g
    pub form_steps : {w₁ : List ℕ} {m : ℕ} → (budget' ≡ 0 → ⊥) → StepPost tb ts w w₁ limit h (Some m) → Reducing tb ts w₀ w₁ limit budget at n₀ m (budget' - 1)
    form_steps {w₁} {m} budgeted S = record {
      of = λ l {ls} B k c K z s q u a.
          let y = R.of l B k c K z s q u a in
          let X = step_of budgeted S l B k z u y in
          let d : size X.next ≤ limit = not_large X in
          let e : budget' ≡ suc (budget' - 1) = omega arith in
          record {
            g = X.next;
            known = known_category_head ls B.resolved k y.g X.next X.is y.known;
            small = d;
            sized = same_size (X.fits d).0;
            lies = (X.fits d).1;
            same = y.same ∙ ap (head_form ls limit y.g) e ∙ form_steps_at ls limit y.g X.next (budget' - 1) X.is d;
          };
    }
      where
        same_size : {i j : ℕ} → ◌≡◌ {A = Option ℕ} (Some i) (Some j) → i ≡ j
        same_size q = cc

        not_large : {ls : Lines} {e : Expr} → (X : Stepped ls limit at e (Some m) w₁) → size X.next ≤ limit
        not_large X = go (leb (size X.next) limit) refl
          where
            go : (t : Bool) → leb (size X.next) limit ≡ t → size X.next ≤ limit
            go true q = leb-true (size X.next) limit q
            go false q = let e = X.large (leb-false (size X.next) limit q) in absurd (cc)

-- ---- the abstraction

-- its cells
function_cells : (ls : Lines) (limit k at : ℕ) {tb w' : List ℕ} (f : Function) (c : Expr) (budget : ℕ) {budget' n : ℕ} (g : Expr) → KnownCategory ls k g
    → size g ≤ limit → n ≡ size g → Lies w' at g → head_form ls limit c budget ≡ done g budget' → first_cell g ≡ 5 → Skipped tb w' (at + 1) 1 f.body
    → ((p : Expr) → Known ls k p → Wf tb p) → f.domain ≡ at + 1 → f.size ≡ n
    → Result (FunctionAt ls limit k at w' f) 0 budget' (to_function ls limit c budget)
unfolding first_cell cells ScopedCategory count_exprs AllFormed
function_cells ls limit k at f c budget type K s q a e x S W d i = absurd (omega arith)
function_cells ls limit k at f c budget prop K s q a e x S W d i = absurd (omega arith)
function_cells ls limit k at f c budget (var v) K s q a e x S W d i = absurd (omega arith)
function_cells ls limit k at f c budget (bound v) K s q a e x S W d i = absurd (omega arith)
function_cells ls limit k at f c budget (const v xs) K s q a e x S W d i = absurd (omega arith)
function_cells ls limit k at f c budget (app v y) K s q a e x S W d i = absurd (omega arith)
function_cells ls limit k at {tb} {w'} f c budget {budget'} (abs p t) K s q a e x S W d i =
    let parts : At w' (at + 1) (cells p ++ cells t) a.rest = record { is = at_tail w' at 5 ((cells p ++ cells t) ++ a.rest) a.at.is } in
    let m : f.body ≡ at + 1 + length (cells p) =
    S.ends (cons p nil) (cells t ++ a.rest) refl (W p K.0, tt) (at_one p (at_front (cells p) (cells t) parts)) ∙ ap (λ (l : List ℕ). at + 1 + length l) (cells_one p) in
    subst (Result (FunctionAt ls limit k at w' f) 0 budget') (sym (function_found ls limit c p t budget budget' e))
    (passed refl (record { known = K; lies = a; small = s; size_is = i ∙ q; domain_at = d; body_at = m ∙ ap (λ (l : ℕ). at + 1 + l) (sym (size_is_length p)) }))

module _ {tb ts w w' : List ℕ} {limit budget at n size' budget' : ℕ} where
  -- the procedure stopped on the way
  pub function_refused : {code : ℕ} {f : Function} → (code ≡ 0 → ⊥) → FormPost tb ts w w' limit budget at n code size' budget'
      → FunctionPost tb ts w w' limit budget at n code f budget'
  function_refused {code} {f} nz P = record { framed = P.framed; is = λ l B k c K z s q u a. go (P.is l B k c K z s q u a) }
    where
      go : {ls : Lines} {k : ℕ} {c : Expr} → FormIs ls limit k at c budget w' code size' budget' → Result (FunctionAt ls limit k at w' f) code budget' (to_function ls limit c budget)
      go (normal g z q K s o a e) = absurd (nz z)
      go {ls} {c = c} (FunctionPosts.refused r z e) = subst (Result _ code budget') (sym (function_stops ls limit c budget budget' e)) (refused z)

  module _ (P : FormPost tb ts w w' limit budget at n 0 size' budget') where
    -- there is no head step, and no abstraction
    pub function_other : {f : Function} → (at < length w' → get_or w' at 0 ≡ 5 → ⊥) → FunctionPost tb ts w w' limit budget at n (code_of not_function) f budget'
    function_other {f} never = record { framed = P.framed; is = λ l B k c K z s q u a. go (P.is l B k c K z s q u a) }
      where
        go : {ls : Lines} {k : ℕ} {c : Expr} → FormIs ls limit k at c budget w' 0 size' budget'
            → Result (FunctionAt ls limit k at w' f) (code_of not_function) budget' (to_function ls limit c budget)
        go (FunctionPosts.refused r z e) = absurd (code_nonzero r (sym z))
        go {ls} {c = c} (normal g z q K s o a e) =
            let sh : shape g ≡ other = not_abs g (λ i. never (omega (arith, at_inside g a.at, cells_long g)) (at_first g a.at ∙ i)) in
            subst (Result _ (code_of not_function) budget') (sym (function_none ls limit c g budget budget' e sh)) (refused refl)

    pub function_abstraction : get_or w' at 0 ≡ 5 → (f : Function) → Skipped tb w' (at + 1) 1 f.body → f.domain ≡ at + 1 → f.size ≡ size'
        → FunctionPost tb ts w w' limit budget at n 0 f budget'
    function_abstraction five f S d i = record { framed = P.framed; is = λ l B k c K z s q u a. go B (P.is l B k c K z s q u a) }
      where
        go : {ls : Lines} {k : ℕ} {c : Expr} → Book ls limit tb ts → FormIs ls limit k at c budget w' 0 size' budget'
            → Result (FunctionAt ls limit k at w' f) 0 budget' (to_function ls limit c budget)
        go B (FunctionPosts.refused r z e) = absurd (code_nonzero r (sym z))
        go {ls} {k} {c} B (normal g z q K s o a e) =
            function_cells ls limit k at f c budget g K s o a e (sym (at_first g a.at) ∙ five) S (λ p y. known_wf B.rows k p y) d i
