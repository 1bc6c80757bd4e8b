-- A string holds what is to come exactly if it is the cells of known expressions.
use mathlib.Core.Path.{◌≡◌, refl, sym, ap, ap₂, ◌∙◌, subst}
use mathlib.Core.Logic.{◌⊎◌, inl, inr}
use mathlib.Core.Bool.{Bool, true, false}
use mathlib.Core.List.{List, [], ◌∷◌, ◌++◌, append_assoc, append-nil}
use Prim.Native.Nat.{ℕ, zero, suc, ◌+◌, ◌*◌, ◌%◌, ◌/◌, ◌<◌}
use native.Mathlib.Omega.{arith}
use lib.Dec.{eqb}
use lib.ListN.{length, replicate, length-replicate}
use borrow.Author.Tests.{eqb-true}
use Rattle.aut68.specs.Sizes.{cell_factor, at_context}
use Rattle.aut68.specs.Expr.{Expr, Exprs, type, prop, var, bound, const, app, abs, nil, cons, cells, cellss, count_exprs}
use Rattle.aut68.specs.Lines.{Lines, row_cell}
use Rattle.aut68.specs.Rules.Resolved.{Scoped, AllScoped, VariableLine, ConstantOf, Known}
use Rattle.aut68.specs.Rules.Strings.{Whole}
use Rattle.cells.specs.Cells.{parts_after}
use Rattle.cells.specs.Rows.{Rows}
use Rattle.cells.specs.Forests.{kind_of, number_of, parts_of_kind, cells_one}
use Rattle.strings.specs.Levels.{part_levels, RightCell, a_variable, a_bound, a_constant, an_application, an_abstraction, Holds}

-- ---- the parts of a cell, by its kind and number

kind_levels : List ℕ → ℕ → ℕ → ℕ → List ℕ
kind_levels tb k kind v = elim (eqb kind 5) [ true ↦ k ∷ suc k ∷ [] | false ↦ replicate (parts_of_kind tb kind v) k ]

levels_by_kind : (tb : List ℕ) (k x : ℕ) → part_levels tb k x ≡ kind_levels tb k (x % cell_factor) (x / cell_factor)
unfolding part_levels kind_levels parts_after parts_of_kind
levels_by_kind tb k x = refl

levels_of_lem : (tb : List ℕ) (k v kind : ℕ) → kind < cell_factor → part_levels tb k (cell_factor * v + kind) ≡ kind_levels tb k kind v
levels_of_lem tb k v kind h = levels_by_kind tb k (cell_factor * v + kind) ∙ ap₂ (kind_levels tb k) (kind_of v kind h) (number_of v kind h)

variable_levels : (tb : List ℕ) (k v : ℕ) → part_levels tb k (cell_factor * v + 1) ≡ []
unfolding kind_levels parts_of_kind
variable_levels tb k v = levels_of_lem tb k v 1 (omega arith)

bound_levels : (tb : List ℕ) (k v : ℕ) → part_levels tb k (cell_factor * v + 2) ≡ []
unfolding kind_levels parts_of_kind
bound_levels tb k v = levels_of_lem tb k v 2 (omega arith)

constant_levels : (tb : List ℕ) (k v : ℕ) → part_levels tb k (cell_factor * v + 3) ≡ replicate (row_cell tb v at_context) k
unfolding kind_levels parts_of_kind
constant_levels tb k v = levels_of_lem tb k v 3 (omega arith)

application_levels : (tb : List ℕ) (k : ℕ) → part_levels tb k 4 ≡ k ∷ k ∷ []
unfolding part_levels parts_after
application_levels tb k = refl

abstraction_levels : (tb : List ℕ) (k : ℕ) → part_levels tb k 5 ≡ k ∷ suc k ∷ []
unfolding part_levels
abstraction_levels tb k = refl

pub abstraction_parts : (tb : List ℕ) (x : ℕ) → x % cell_factor ≡ 5 → parts_after tb x ≡ 2
unfolding parts_after parts_of_kind
abstraction_parts tb x e = subst (λ n. parts_of_kind tb n (x / cell_factor) ≡ 2) (sym e) refl

-- as many levels as parts
pub levels_long : (tb : List ℕ) (k x : ℕ) → length (part_levels tb k x) ≡ parts_after tb x
unfolding parts_after parts_of_kind kind_levels
levels_long tb k x = ap length (levels_by_kind tb k x) ∙ of (x % cell_factor) (x / cell_factor)
  where
    of : (kind v : ℕ) → length (kind_levels tb k kind v) ≡ parts_of_kind tb kind v
    of kind v = go (eqb kind 5) refl
      where
        go : (t : Bool) → eqb kind 5 ≡ t
            → length {A = ℕ} (elim t as (λ _. List ℕ) [ true ↦ k ∷ suc k ∷ [] | false ↦ replicate (parts_of_kind tb kind v) k ]) ≡ parts_of_kind tb kind v
        go true e = subst (λ n. 2 ≡ parts_of_kind tb n v) (sym (eqb-true kind 5 e)) refl
        go false e = length-replicate (parts_of_kind tb kind v) k

-- ---- known expressions hold

module _ (ls : Lines) (tb : List ℕ) (R : Rows ls tb) where
  count_is_lem : {v n : ℕ} → ConstantOf ls v n → row_cell tb v at_context ≡ n
  count_is_lem c = (R.row c.is_line).context_is ∙ sym c.as_many

  mutual
    unfolding Scoped cells cellss count_exprs Holds

    holds_known : (k : ℕ) (e : Expr) → Known ls k e → (ks s : List ℕ) → Holds ls tb ks s → Holds ls tb (k ∷ ks) (cells e ++ s)
    holds_known k type w ks s h = absurd w
    holds_known k prop w ks s h = absurd w
    holds_known k (var v) w ks s h = (a_variable v refl w, rw (variable_levels tb k v) h)
    holds_known k (bound i) w ks s h = (a_bound i refl w, rw (bound_levels tb k i) h)
    holds_known k (const v xs) w ks s h = (a_constant v (count_exprs xs) refl w.0, rw (constant_levels tb k v, count_is_lem w.0) (hold_known k xs w.1 ks s h))
    holds_known k (app a b) w ks s h =
        (an_application refl, rw (application_levels tb k, append_assoc (cells a) (cells b) s) (holds_known k a w.0 (k ∷ ks) (cells b ++ s) (holds_known k b w.1 ks s h)))
    holds_known k (abs p t) w ks s h =
        (an_abstraction refl, rw (abstraction_levels tb k, append_assoc (cells p) (cells t) s) (holds_known k p w.0 (suc k ∷ ks) (cells t ++ s) (holds_known (suc k) t w.1 ks s h)))

    hold_known : (k : ℕ) (es : Exprs) → AllScoped (VariableLine ls) (ConstantOf ls) k es → (ks s : List ℕ) → Holds ls tb ks s → Holds ls tb (replicate (count_exprs es) k ++ ks) (cellss es ++ s)
    hold_known k nil w ks s h = h
    hold_known k (cons e es) w ks s h =
        rw (append_assoc (cells e) (cellss es) s) (holds_known k e w.0 (replicate (count_exprs es) k ++ ks) (cellss es ++ s) (hold_known k es w.1 ks s h))

  -- ---- what holds is known

  -- each expression known, under its bindings
  unfoldable KnownEach : List ℕ → Exprs → Type 0
  KnownEach [] nil = Unit {0}
  KnownEach [] (cons e es) = ⊥
  KnownEach (k ∷ ks) nil = ⊥
  KnownEach (k ∷ ks) (cons e es) = Known ls k e × KnownEach ks es

  record Forest (ks s : List ℕ) : Type 0 where
    todo : Exprs
    known : KnownEach ks todo
    cells_are : s ≡ cellss todo

  -- the first n of them, under as many bindings each
  record Taken (n k : ℕ) (ks : List ℕ) (es : Exprs) : Type 0 where
    front : Exprs
    back : Exprs
    counted : count_exprs front ≡ n
    front_known : AllScoped (VariableLine ls) (ConstantOf ls) k front
    back_known : KnownEach ks back
    cells_are : cellss es ≡ cellss front ++ cellss back

  take_known : (n k : ℕ) (ks : List ℕ) (es : Exprs) → KnownEach (replicate n k ++ ks) es → Taken n k ks es
  unfolding KnownEach AllScoped count_exprs cellss
  take_known zero k ks es w = record { front = nil; back = es; counted = refl; front_known = tt; back_known = w; cells_are = refl }
  take_known (suc n) k ks nil w = absurd w
  take_known (suc n) k ks (cons e es) w =
      let t = take_known n k ks es w.1 in
      record {
        front = cons e t.front;
        back = t.back;
        counted = ap suc t.counted;
        front_known = (w.0, t.front_known);
        back_known = t.back_known;
        cells_are = ap (λ (l : List ℕ). cells e ++ l) t.cells_are ∙ sym (append_assoc (cells e) (cellss t.front) (cellss t.back));
      }

  of_constant_lem : {k v n x : ℕ} {ks s : List ℕ} → x ≡ cell_factor * v + 3 → ConstantOf ls v n → Forest (replicate n k ++ ks) s → Forest (k ∷ ks) (x ∷ s)
  unfolding KnownEach Scoped cells cellss
  of_constant_lem {k} {v} {n} {x} {ks} {s} e c f =
      let t = take_known n k ks f.todo f.known in
      record {
        todo = cons (const v t.front) t.back;
        known = ((subst (λ m. ConstantOf ls v m) (sym t.counted) c, t.front_known), t.back_known);
        cells_are = ap₂ (λ (y : ℕ) (l : List ℕ). y ∷ l) e (f.cells_are ∙ t.cells_are);
      }

  -- an expression of two parts, the second under j bindings
  of_two : {k j x : ℕ} {ks s : List ℕ} (make : Expr → Expr → Expr) → ((a b : Expr) → cells (make a b) ≡ x ∷ cells a ++ cells b)
      → ((a b : Expr) → Known ls k a → Known ls j b → Known ls k (make a b)) → Forest (k ∷ j ∷ ks) s → Forest (k ∷ ks) (x ∷ s)
  unfolding KnownEach cellss
  of_two {k} {j} {x} {ks} {s} make made holds f = go f.todo f.known f.cells_are
    where
      go : (es : Exprs) → KnownEach (k ∷ j ∷ ks) es → s ≡ cellss es → Forest (k ∷ ks) (x ∷ s)
      go nil w h = absurd w
      go (cons a nil) w h = absurd w.1
      go (cons a (cons b es)) w h =
          record {
            todo = cons (make a b) es;
            known = (holds a b w.0 w.1.0, w.1.1);
            cells_are = ap (λ (l : List ℕ). x ∷ l) (h ∙ sym (append_assoc (cells a) (cells b) (cellss es))) ∙ ap (λ (l : List ℕ). l ++ cellss es) (sym (made a b));
          }

  -- an expression of one cell
  of_leaf : {k x : ℕ} {ks s : List ℕ} (e : Expr) → cells e ≡ x ∷ [] → Known ls k e → Forest ks s → Forest (k ∷ ks) (x ∷ s)
  unfolding KnownEach cellss
  of_leaf {k} {x} {ks} {s} e h w f =
      record { todo = cons e f.todo; known = (w, f.known); cells_are = ap (λ (l : List ℕ). x ∷ l) f.cells_are ∙ ap (λ (l : List ℕ). l ++ cellss f.todo) (sym h) }

  forest : (ks s : List ℕ) → Holds ls tb ks s → Forest ks s
  unfolding Holds KnownEach Scoped cells cellss
  forest ks [] h = subst (λ l. Forest l []) (sym h) (record { todo = nil; known = tt; cells_are = refl })
  forest [] (x ∷ s) h = absurd h
  forest (k ∷ ks) (x ∷ s) h = by h.0 (forest (part_levels tb k x ++ ks) s h.1)
    where
      same : {l : List ℕ} → part_levels tb k x ≡ l → Forest (part_levels tb k x ++ ks) s → Forest (l ++ ks) s
      same e f = subst (λ l. Forest (l ++ ks) s) e f

      by : RightCell ls k x → Forest (part_levels tb k x ++ ks) s → Forest (k ∷ ks) (x ∷ s)
      by (a_variable v e w) f = of_leaf (var v) (ap (λ (y : ℕ). y ∷ []) (sym e)) w (same (ap (part_levels tb k) e ∙ variable_levels tb k v) f)
      by (a_bound i e w) f = of_leaf (bound i) (ap (λ (y : ℕ). y ∷ []) (sym e)) w (same (ap (part_levels tb k) e ∙ bound_levels tb k i) f)
      by (a_constant v n e c) f =
          of_constant_lem e c (same (ap (part_levels tb k) e ∙ constant_levels tb k v ∙ ap (λ (m : ℕ). replicate m k) (count_is_lem c)) f)
      by (an_application e) f = of_two app (λ a b. ap (λ (y : ℕ). y ∷ cells a ++ cells b) (sym e)) (λ a b u w. (u, w)) (same (ap (part_levels tb k) e ∙ application_levels tb k) f)
      by (an_abstraction e) f = of_two abs (λ a b. ap (λ (y : ℕ). y ∷ cells a ++ cells b) (sym e)) (λ a b u w. (u, w)) (same (ap (part_levels tb k) e ∙ abstraction_levels tb k) f)

  -- ---- whole strings

  pub holds_whole : (s : List ℕ) → Holds ls tb (0 ∷ []) s → Whole ls s
  unfolding Whole KnownEach
  holds_whole s h = let f = forest (0 ∷ []) s h in go f.todo f.known f.cells_are
    where
      go : (es : Exprs) → KnownEach (0 ∷ []) es → s ≡ cellss es → Whole ls s
      go nil w c = absurd w
      go (cons e nil) w c = (e, record { cells_are = c ∙ cells_one e; known = inr w.0 })
      go (cons e (cons d es)) w c = absurd w.1

  pub type_whole : Whole ls (0 ∷ [])
  unfolding Whole cells
  type_whole = (type, record { cells_are = refl; known = inl refl })

  pub whole_holds : (s : List ℕ) → Whole ls s → (s ≡ 0 ∷ []) ⊎ Holds ls tb (0 ∷ []) s
  unfolding Whole cells Holds
  whole_holds s (e, r) = of r.known
    where
      of : (e ≡ type) ⊎ Known ls 0 e → (s ≡ 0 ∷ []) ⊎ Holds ls tb (0 ∷ []) s
      of (inl q) = inl (r.cells_are ∙ ap cells q)
      of (inr w) = inr (subst (Holds ls tb (0 ∷ [])) (append-nil (cells e) ∙ sym r.cells_are) (holds_known 0 e w [] [] refl))
