-- Larger limits in categories and the checks of a line: what they give or refuse by a verdict they do with any larger budget and limit,
-- in both languages.
use Rattle.std.specs.Prelude.{◌≡◌, Bool, ltb}
use Rattle.std.proofs.Math.Path.{refl}
use Rattle.std.proofs.Common.{ap, arith}
use Rattle.std.proofs.Math.Bool.{true, false}
use Rattle.std.proofs.Math.Option.{Option, none, some}
use mathlib.Core.List.{List, [], ◌∷◌}
use Prim.Native.Nat.{ℕ, zero, suc, ◌+◌, ◌≤◌}
use Rattle.std.proofs.Math.Dec.{leb}
use Rattle.aut68.specs.Language.{Language, aut68, aut_qe}
use Rattle.aut68.specs.Sizes.{nesting}
use Rattle.aut68.specs.Expr.{Expr, Exprs, type, prop, var, bound, const, app, abs, nil, cons, snoc, size, is_sort, Shape, shape, abstraction, other, over_binding}
use Rattle.aut68.specs.Substitution.{lift, substitute, instantiate}
use Rattle.aut68.specs.Lines.{Line, Lines, Kind, variable, primitive, abbreviation}
use Rattle.aut68.specs.Procedure.Answer.{Act, done, ◌>>=◌, refuse, not_function, not_type, too_large}
use Rattle.aut68.specs.Procedure.HeadStep.{head_step, left}
use Rattle.aut68.specs.Procedure.Compare.{compare}
use Rattle.aut68.specs.Procedure.Category.{nth, the_line, made, head_form, to_function, serves_as_type, opens, Search, second_chance, category_at, arguments, searches, category}
use Rattle.aut68.specs.Procedure.Category
use Rattle.aut68.specs.Procedure.CheckLine.{check_domain, check_supertype, check_written, check_middle, check_categories}
use Rattle.lookup.specs.Answers.{large_undecided, spent_undecided, Kept, Grows, grows_give, grows_refuse, grows_then, grows_ensure, grows_test, larger}
use Rattle.agreement.specs.GrowingFirst.{grows_compare}

module _ (language : Language) (ls : Lines) {L L' : ℕ} (hL : L ≤ L') where
  grows_nth : {A : Type 0} (xs : List A) (n : ℕ) → Grows (nth xs n) (nth xs n)
  unfolding nth
  grows_nth [] n = grows_refuse
  grows_nth (x ∷ xs) zero = grows_give
  grows_nth (x ∷ xs) (suc n) = grows_nth xs n

  grows_the_line : (v : ℕ) → Grows (the_line ls v) (the_line ls v)
  unfolding the_line
  grows_the_line zero = grows_refuse
  grows_the_line (suc v) = grows_nth ls v

  grows_made : (e : Expr) → Grows (made L e) (made L' e)
  unfolding made
  grows_made e = grows_then (grows_test too_large large_undecided _ _ (larger (size e) hL)) (λ _. grows_give)

  form_none : (c d : ℕ) → c ≡ 0 + d → (f : Expr) (s : Shape) → shape f ≡ s → (o : Option Expr) → left (head_step ls f) ≡ o → Kept d (head_form ls L f zero) (head_form ls L' f c)
  unfolding head_form
  form_none zero d e f (abstraction p q) s o t = rw (s, head_form) (ap (done f) e)
  form_none (suc c) d e f (abstraction p q) s o t = rw (s, head_form) (ap (done f) e)
  form_none zero d e f other s none t = rw (s, t, head_form) (ap (done f) e)
  form_none (suc c) d e f other s none t = rw (s, t, head_form) (ap (done f) e)
  form_none c d e f other s (some g) t = rw (s, t, head_form) (λ v. absurd (spent_undecided v))

  form_some : (b c d : ℕ) → suc c ≡ suc b + d → (f : Expr) (s : Shape) → shape f ≡ s → (o : Option Expr) → left (head_step ls f) ≡ o
      → ((g : Expr) → Kept d (head_form ls L g b) (head_form ls L' g c))
      → Kept d (head_form ls L f (suc b)) (head_form ls L' f (suc c))
  unfolding head_form
  form_some b c d e f (abstraction p q) s o t k = rw (s, head_form) (ap (done f) e)
  form_some b c d e f other s none t k = rw (s, t, head_form) (ap (done f) e)
  form_some b c d e f other s (some g) t k = at (leb (size g) L) refl
    where
      at : (u : Bool) → leb (size g) L ≡ u → Kept d (head_form ls L f (suc b)) (head_form ls L' f (suc c))
      at true u = rw (s, t, u, larger (size g) hL u, head_form) (k g)
      at false u = rw (s, t, u, head_form) (λ v. absurd (large_undecided v))

  form_kept : (b c d : ℕ) → c ≡ b + d → (f : Expr) → Kept d (head_form ls L f b) (head_form ls L' f c)
  form_kept zero c d e f = form_none c d e f (shape f) refl (left (head_step ls f)) refl
  form_kept (suc b) zero d e f = absurd (omega arith)
  form_kept (suc b) (suc c) d e f = form_some b c d e f (shape f) refl (left (head_step ls f)) refl (form_kept b c d (omega arith))

  grows_head_form : (f : Expr) → Grows (head_form ls L f) (head_form ls L' f)
  grows_head_form f = record { kept = λ b c d e. form_kept b c d e f }

  grows_function : (s : Shape) → Grows (Category.parts s) (Category.parts s)
  unfolding Category.parts
  grows_function (abstraction p q) = grows_give
  grows_function other = grows_refuse

  grows_to_function : (f : Expr) → Grows (to_function ls L f) (to_function ls L' f)
  unfolding to_function
  grows_to_function f = grows_then (grows_head_form f) (λ g. grows_function (shape g))

  grows_opens : (d : ℕ) → Grows (opens language d) (opens language d)
  unfolding opens
  grows_opens d = go language
    where
      go : (l : Language) → Grows (opens l d) (opens l d)
      go aut68 = grows_give
      go aut_qe = grows_ensure (ltb d (suc nesting)) too_large

  GrowsSearch : Search → Search → Type 0
  GrowsSearch search search' = (d : ℕ) (sc : List Expr) (e : Expr) → Grows (search d sc e) (search' d sc e)

  module _ (search search' : Search) (hs : GrowsSearch search search') where
    grows_second : (d : ℕ) (sc : List Expr) (f : Expr) → Grows (second_chance language search d sc f) (second_chance language search' d sc f)
    unfolding second_chance GrowsSearch
    grows_second d sc f = go language
      where
        at : (t : Bool) → Grows {A = Expr} (elim t as (λ _. Act ℕ Expr) [ true ↦ refuse not_function | false ↦ search d sc f ])
            (elim t as (λ _. Act ℕ Expr) [ true ↦ refuse not_function | false ↦ search' d sc f ])
        at true = grows_refuse
        at false = hs d sc f

        go : (l : Language) → Grows (second_chance l search d sc f) (second_chance l search' d sc f)
        go aut68 = grows_refuse
        go aut_qe = at (is_sort f)

    grows_application : (d : ℕ) (sc : List Expr) (a f : Expr) (cat cat' : Act ℕ Expr) → Grows cat cat' → (s : Shape)
        → Grows {A = Expr} (elim s as (λ _. Act ℕ Expr) [
          | abstraction p q ↦ (cat >>= λ k. compare language ls L k p >>= λ _. made L (substitute a 0 q))
          | other ↦ (second_chance language search d sc f >>= λ g. to_function ls L g >>= λ h. cat >>= λ k. compare language ls L k h.domain >>= λ _. made L (app a f))
        ])
        (elim s as (λ _. Act ℕ Expr) [
          | abstraction p q ↦ (cat' >>= λ k. compare language ls L' k p >>= λ _. made L' (substitute a 0 q))
          | other ↦ (second_chance language search' d sc f >>= λ g. to_function ls L' g >>= λ h. cat' >>= λ k. compare language ls L' k h.domain >>= λ _. made L' (app a f))
        ])
    grows_application d sc a f cat cat' h (abstraction p q) =
        grows_then h λ k.
        grows_then (grows_compare language ls hL k p) λ _.
        grows_made (substitute a 0 q)
    grows_application d sc a f cat cat' h other =
        grows_then (grows_second d sc f) λ g.
        grows_then (grows_to_function g) λ x.
        grows_then h λ k.
        grows_then (grows_compare language ls hL k x.domain) λ _.
        grows_made (app a f)

    mutual
      unfolding category_at

      grows_at : (e : Expr) (d : ℕ) (sc : List Expr) → Grows (category_at language ls L search d sc e) (category_at language ls L' search' d sc e)
      grows_at type d sc = grows_refuse
      grows_at prop d sc = grows_refuse
      grows_at (var v) d sc = grows_then (grows_opens d) λ _. grows_then (grows_the_line v) (λ l. grows_made l.category)
      grows_at (bound i) d sc = grows_then (grows_opens d) λ _. grows_then (grows_nth sc i) (λ p. grows_made (lift (suc i) 0 p))
      grows_at (const v xs) d sc =
          grows_then (grows_opens d) λ _.
          grows_then (grows_the_line v) λ l.
          grows_then (grows_arguments xs (suc d) sc l.context l.context nil) λ _.
          grows_made (instantiate l.context xs 0 l.category)
      grows_at (app a b) d sc =
          grows_then (grows_opens d) λ _.
          grows_then (grows_at b (suc d) sc) λ c.
          grows_then (grows_head_form c) λ f.
          grows_application (suc (suc d)) sc a f (category_at language ls L search (suc d) sc a) (category_at language ls L' search' (suc d) sc a) (grows_at a (suc d) sc) (shape f)
      grows_at (abs p t) d sc =
          grows_then (grows_opens d) λ _.
          grows_then (grows_at p (suc d) sc) λ k.
          grows_then (grows_ensure (serves_as_type language k) not_type) λ _.
          grows_then (grows_at t (suc d) (p ∷ sc)) λ c.
          grows_made (over_binding language p c)

      grows_arguments : (xs : Exprs) (d : ℕ) (sc : List Expr) (vs context : List ℕ) (earlier : Exprs)
          → Grows (arguments language ls L search d sc xs vs context earlier) (arguments language ls L' search' d sc xs vs context earlier)
      grows_arguments nil d sc [] context earlier = grows_give
      grows_arguments nil d sc (v ∷ vs) context earlier = grows_refuse
      grows_arguments (cons a xs) d sc [] context earlier = grows_refuse
      grows_arguments (cons a xs) d sc (v ∷ vs) context earlier =
          grows_then (grows_at a d sc) λ k.
          grows_then (grows_the_line v) λ l.
          grows_then (grows_made (instantiate context earlier 0 l.category)) λ w.
          grows_then (grows_compare language ls hL k w) λ _.
          grows_arguments xs d sc vs context (snoc earlier a)

  grows_searches : (n : ℕ) → GrowsSearch (searches language ls L n) (searches language ls L' n)
  unfolding searches GrowsSearch
  grows_searches zero d sc e = grows_refuse
  grows_searches (suc n) d sc e = grows_at (searches language ls L n) (searches language ls L' n) (grows_searches n) e d sc

  grows_category : (d : ℕ) (sc : List Expr) (e : Expr) → Grows (category language ls L d sc e) (category language ls L' d sc e)
  unfolding category
  grows_category d sc e = grows_at (searches language ls L 16) (searches language ls L' 16) (grows_searches 16) e d sc

  -- ---- lines

  grows_domain : (d : ℕ) (sc : List Expr) (p : Expr) → Grows (check_domain language ls L d sc p) (check_domain language ls L' d sc p)
  unfolding check_domain
  grows_domain d sc p = grows_then (grows_category d sc p) (λ k. grows_ensure (serves_as_type language k) not_type)

  grows_supertype : (c : Expr) (d : ℕ) (sc : List Expr) → Grows (check_supertype language ls L d sc c) (check_supertype language ls L' d sc c)
  unfolding check_supertype
  grows_supertype type d sc = grows_give
  grows_supertype prop d sc = grows_give
  grows_supertype (var v) d sc = grows_give
  grows_supertype (bound i) d sc = grows_give
  grows_supertype (const v xs) d sc = grows_give
  grows_supertype (app a b) d sc = grows_give
  grows_supertype (abs p t) d sc = grows_then (grows_domain (suc d) sc p) (λ _. grows_supertype t (suc d) (p ∷ sc))

  grows_written : (c : Expr) → Grows (check_written language ls L c) (check_written language ls L' c)
  unfolding check_written
  grows_written c = at (serves_as_type language c) refl
    where
      at : (t : Bool) → serves_as_type language c ≡ t → Grows (check_written language ls L c) (check_written language ls L' c)
      at true e = rw (e, check_written) (grows_supertype c 1 [])
      at false e = rw (e, check_written) (grows_domain 1 [] c)

  grows_middle : (k : Kind) (c : Expr) → Grows (check_middle language ls L k c) (check_middle language ls L' k c)
  unfolding check_middle
  grows_middle variable c = grows_give
  grows_middle primitive c = grows_give
  grows_middle (abbreviation m) c = grows_then (grows_category 1 [] m) (λ k. grows_compare language ls hL k c)

  pub grows_categories : (l : Line) → Grows (check_categories language ls L l) (check_categories language ls L' l)
  unfolding check_categories
  grows_categories l = grows_then (grows_written l.category) (λ _. grows_middle l.kind l.category)
