-- The procedure's answers as the code finds them: small actions, and the clauses of `category`, `arguments` and the checks.
use mathlib.Core.Path.{◌≡◌, refl, sym, ap, subst, ◌∙◌}
use mathlib.Core.Bool.{Bool, true, false, true≢false}
use mathlib.Core.List.{List, [], ◌∷◌}
use Prim.Native.Nat.{ℕ, suc}
use native.Mathlib.Omega.{arith}
use lib.ListN.{length}
use Rattle.aut68.specs.Procedure.Category as Category
use Rattle.aut68.specs.Language.{aut68}
use Rattle.aut68.specs.Procedure.Answer.{Act, Answer, done, stop, and_then, ◌>>=◌, refuse, ensure, Refusal, code_of, not_function, not_type}
use Rattle.aut68.specs.Expr.{Expr, Exprs, var, bound, const, app, abs, nil, cons, snoc, count_exprs, is_type, Shape, shape, abstraction, other, over_binding}
use Rattle.aut68.specs.Substitution.{lift, substitute, instantiate}
use Rattle.aut68.specs.Lines.{Line, Lines}
use Rattle.aut68.specs.Rules.Names.{IsLine}
use Rattle.aut68.specs.Rules.Categories.{DomainAt, innermost, outside}
use Rattle.aut68.specs.Procedure.Compare.{compare}
use Rattle.aut68.specs.Procedure.Category.{nth, the_line, made, head_form, parts, to_function, serves_as_type, opens, category_at, category, arguments}
use Rattle.aut68.specs.Procedure.CheckLine.{check_domain, check_supertype, check_written}
use Rattle.calculus.specs.Actions.{the_line_lem, is_type_true}
use Rattle.lookup.specs.Answers.{code_nonzero}
use Rattle.cells.specs.Results.{Result, passed, refused}
use Rattle.instances.specs.Unchanged.{instantiate_empty}
use Rattle.typing.specs.FittingPosts.{wanted_fits}
use Rattle.typing.specs.ApplicationPosts.{applying}
use Rattle.typing.specs.Answers.{at_line}
use Rattle.categories.specs.AnyDepth.{category68, arguments68, of_application, of_abstraction, of_argument, application_at, abstraction_at, constant_at, argument_at_lem}

-- ---- answers

-- where an answer passed, so did the one before it
stopped : {A : Type 0} {R : A → Type 0} {code rest : ℕ} {r : Refusal} {b : ℕ} → Result R code rest (stop r b) → code ≡ code_of r
stopped (refused e) = e

pub came : {A B : Type 0} {R : A → Type 0} {Q : B → Type 0} {code rest code' rest' : ℕ} (f : A → Act ℕ B) {m : Answer ℕ A} → code' ≡ 0
    → Result Q code' rest' (and_then f m) → Result R code rest m → code ≡ 0
unfolding and_then
came f z h (passed e r) = e
came f z h (refused {r} e) = absurd (code_nonzero r (sym (stopped h) ∙ z))

-- what holds of every value, of an answer that passed
pub passed_holds : {A : Type 0} {P : Type 0} {code rest : ℕ} {m : Answer ℕ A} → code ≡ 0 → Result (λ _. P) code rest m → P
passed_holds z (passed e p) = p
passed_holds z (refused {r} e) = absurd (code_nonzero r (sym e ∙ z))

-- what holds where an answer passed may be said of it
pub passes_with : {P : Type 0} {code rest : ℕ} {m : Answer ℕ (Unit {0})} → (code ≡ 0 → P) → Result (λ _. Unit {0}) code rest m → Result (λ _. P) code rest m
passes_with f (passed e h) = passed e (f e)
passes_with f (refused e) = refused e

-- one action after another, in either grouping
pub then_assoc : {A B C : Type 0} (f : A → Act ℕ B) (g : B → Act ℕ C) (m : Answer ℕ A) → and_then (λ a s. and_then g (f a s)) m ≡ and_then g (and_then f m)
unfolding and_then
then_assoc f g (done a s) = refl
then_assoc f g (stop r s) = refl

-- ---- no arguments

-- no argument is left
pub none_left : (ls : Lines) (L : ℕ) (sc : List Expr) (ys : Exprs) (us context : List ℕ) (earlier : Exprs) (rest : ℕ) → count_exprs ys ≡ 0 → length us ≡ 0
    → arguments68 ls L sc ys us context earlier rest ≡ done tt rest
unfolding arguments count_exprs
none_left ls L sc nil [] context earlier rest h k = refl
none_left ls L sc nil (u ∷ us) context earlier rest h k = absurd (omega arith)
none_left ls L sc (cons a ys) us context earlier rest h k = absurd (omega arith)

pub nth_is : {p : Expr} {sc : List Expr} {i : ℕ} → DomainAt p sc i → (b : ℕ) → nth sc i b ≡ done p b
unfolding nth
nth_is innermost b = refl
nth_is (outside d) b = nth_is d b

-- ---- the clauses of `category`

module _ (ls : Lines) (L : ℕ) {R : Expr → Type 0} {code rest : ℕ} (sc : List Expr) (n : ℕ) where
  pub bound_clause : {i : ℕ} {p : Expr} → DomainAt p sc i → Result R code rest (made L (lift (suc i) 0 p) n) → Result R code rest (category68 ls L sc (bound i) n)
  unfolding category category_at opens and_then
  bound_clause {i} {p} d h = rw (nth_is d n) h

  pub constant_clause : {v : ℕ} {l : Line} (xs : Exprs) → IsLine ls v l
      → Result R code rest (and_then (λ _. made L (instantiate l.context xs 0 l.category)) (arguments68 ls L sc xs l.context l.context nil n))
      → Result R code rest (category68 ls L sc (const v xs) n)
  constant_clause {v} xs i h = subst (λ (f : Act ℕ Expr). Result R code rest (f n)) (sym (constant_at ls L sc v xs)) (at_line _ n i h)

-- a category that is stored: a variable's, and that of a constant without arguments
module _ (ls : Lines) (L : ℕ) (sc : List Expr) (n : ℕ) where
  pub variable_is : {v : ℕ} {l : Line} → IsLine ls v l → category68 ls L sc (var v) n ≡ made L l.category n
  unfolding category category_at opens and_then
  variable_is i = rw (the_line_lem i n) refl

  pub alone_is : {v : ℕ} {l : Line} (xs : Exprs) → IsLine ls v l → length l.context ≡ 0 → count_exprs xs ≡ 0 → category68 ls L sc (const v xs) n ≡ made L l.category n
  unfolding and_then
  alone_is {v} {l} xs i h c =
      ap (λ (f : Act ℕ Expr). f n) (constant_at ls L sc v xs)
      ∙ rw (the_line_lem i n) (rw (none_left ls L sc xs l.context l.context nil n c h) (ap (λ (e : Expr). made L e n) (instantiate_empty l.context xs 0 l.category h)))

module _ (ls : Lines) (L : ℕ) (sc : List Expr) (n : ℕ) where
  pub application_clause : (a b : Expr) → category68 ls L sc (app a b) n
      ≡ and_then (λ f. category68 ls L sc a >>= applying ls L a f) (and_then (to_function ls L) (category68 ls L sc b n))
  unfolding of_application applying to_function parts and_then
  application_clause a b = ap (λ (f : Act ℕ Expr). f n) (application_at ls L sc a b) ∙ go (category68 ls L sc b n)
    where
      -- what is left once the shape of the head form is known
      chosen : Shape → Act ℕ Expr
      chosen t =
          elim t as (λ _. Act ℕ Expr) [
            | abstraction p q ↦ (category68 ls L sc a >>= λ found. compare aut68 ls L found p >>= λ _. made L (substitute a 0 q))
            | other ↦ refuse not_function
          ]

      rest : Category.Function → Act ℕ Expr
      rest f = category68 ls L sc a >>= applying ls L a f

      shaped : (t : Shape) (m : ℕ) → chosen t m ≡ and_then rest (parts t m)
      shaped (abstraction p q) m = refl
      shaped other m = refl

      formed : (o : Answer ℕ Expr) → and_then (λ f. chosen (shape f)) o ≡ and_then rest (and_then (λ g. parts (shape g)) o)
      formed (done f m) = shaped (shape f) m
      formed (stop r m) = refl

      go : (o : Answer ℕ Expr) → and_then (λ c m. and_then (λ f. chosen (shape f)) (head_form ls L c m)) o ≡ and_then rest (and_then (to_function ls L) o)
      go (done c m) = formed (head_form ls L c m)
      go (stop r m) = refl

  pub abstraction_clause : (p t : Expr) → category68 ls L sc (abs p t) n
      ≡ and_then (λ _. category68 ls L (p ∷ sc) t >>= λ c. made L (over_binding aut68 p c)) (and_then (λ k. ensure (is_type k) not_type) (category68 ls L sc p n))
  unfolding of_abstraction
  abstraction_clause p t =
      ap (λ (f : Act ℕ Expr). f n) (abstraction_at ls L sc p t)
      ∙ then_assoc (λ k. ensure (is_type k) not_type) (λ _. category68 ls L (p ∷ sc) t >>= λ c. made L (over_binding aut68 p c)) (category68 ls L sc p n)

  -- one argument, and then the others
  pub argument_clause : (a : Expr) (xs : Exprs) (v : ℕ) (vs context : List ℕ) (earlier : Exprs) → arguments68 ls L sc (cons a xs) (v ∷ vs) context earlier n
      ≡ and_then (λ _. arguments68 ls L sc xs vs context (snoc earlier a)) (and_then (wanted_fits ls L context earlier v) (category68 ls L sc a n))
  unfolding of_argument wanted_fits
  argument_clause a xs v vs context earlier =
      ap (λ (f : Act ℕ (Unit {0})). f n) (argument_at_lem ls L sc a xs v vs context earlier)
      ∙ ap (λ (f : Expr → Act ℕ (Unit {0})). and_then f (category68 ls L sc a n)) (λ i c s. inner c s i)
      ∙ then_assoc (wanted_fits ls L context earlier v) others (category68 ls L sc a n)
    where
      others : Unit {0} → Act ℕ (Unit {0})
      others _ = arguments68 ls L sc xs vs context (snoc earlier a)

      wanted : Expr → Line → Act ℕ (Unit {0})
      wanted c l = made L (instantiate context earlier 0 l.category) >>= λ k. compare aut68 ls L c k

      last : (c : Expr) (l : Line) (s : ℕ)
          → and_then (λ k s. and_then others (compare aut68 ls L c k s)) (made L (instantiate context earlier 0 l.category) s) ≡ and_then others (wanted c l s)
      last c l s = then_assoc (compare aut68 ls L c) others (made L (instantiate context earlier 0 l.category) s)

      inner : (c : Expr) (s : ℕ)
          → and_then (λ l s. and_then (λ k s. and_then others (compare aut68 ls L c k s)) (made L (instantiate context earlier 0 l.category) s)) (the_line ls v s)
          ≡ and_then others (wanted_fits ls L context earlier v c s)
      inner c s =
          ap (λ (f : Line → Act ℕ (Unit {0})). and_then f (the_line ls v s)) (λ i l t. last c l t i)
          ∙ then_assoc (wanted c) others (the_line ls v s)

-- ---- the checks of a line

pub written_type : (ls : Lines) (L : ℕ) {code rest n : ℕ} (c : Expr) → is_type c ≡ true → code ≡ 0 → rest ≡ n → Result (λ _. Unit {0}) code rest (check_written aut68 ls L c n)
unfolding check_written serves_as_type is_type check_supertype
written_type ls L {code} {rest} {n} c t z q = rw q (subst (λ (e : Expr). Result (λ _. Unit {0}) code n (check_written aut68 ls L e n)) (sym (is_type_true c t)) (passed z tt))

pub written_other : (ls : Lines) (L n : ℕ) {code rest : ℕ} (c : Expr) → is_type c ≡ false
    → Result (λ _. Unit {0}) code rest (and_then (λ k. ensure (is_type k) not_type) (category68 ls L [] c n)) → Result (λ _. Unit {0}) code rest (check_written aut68 ls L c n)
unfolding check_written check_domain serves_as_type
written_other ls L n {code} {rest} c t h = go (is_type c) t
  where
    go : (b : Bool) → b ≡ false
        → Result (λ _. Unit {0}) code rest ((elim b as (λ _. Act ℕ (Unit {0})) [ true ↦ check_supertype aut68 ls L 1 [] c | false ↦ check_domain aut68 ls L 1 [] c ]) n)
    go true e = absurd (true≢false e)
    go false e = h
