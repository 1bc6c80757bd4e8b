-- How deep abstractions nest in what a step makes, and that its cells are numbers of a cell's width, however many they are.
use Rattle.std.specs.Prelude.{◌≡◌, refl, Bool, true, false, List, [], ◌∷◌, ℕ, suc, ◌+◌, ◌-◌, ◌*◌, ◌/◌, ◌≤◌, ◌<◌, eqb, length}
use Rattle.std.proofs.Common.{subst, arith}
use Rattle.std.proofs.Math.Option.{Option, none, some}
use Rattle.aut68.specs.Sizes.{cell_factor, cell_values, line_limit, largest_limit}
use Rattle.aut68.specs.Expr.{Expr, Exprs, type, prop, var, bound, const, app, abs, nil, cons, size, sizes, cells}
use Rattle.aut68.specs.Substitution.{lift, lifts, substitute_bound, substitute, substitutes, argument_for, instantiate_variable, instantiate, instantiates}
use Rattle.aut68.specs.Lines.{Lines}
use Rattle.calculus.specs.Resolved.{KnownCategory}
use Rattle.cells.specs.Cells.{Below}
use Rattle.cells.specs.Widths.{below_wider}
use Rattle.heads.specs.Depths.{Deep, AllDeep, deep_more, deep_size, all_deep_size, lines_below}

-- ---- lifting, substituting and instantiating

mutual
  unfolding Deep lift

  pub deep_lift : (d j c : ℕ) (e : Expr) → Deep d e → Deep d (lift j c e)
  deep_lift d j c type h = tt
  deep_lift d j c prop h = tt
  deep_lift d j c (var v) h = tt
  deep_lift d j c (bound i) h = tt
  deep_lift d j c (const v xs) h = all_deep_lift d j c xs h
  deep_lift d j c (app a b) h = (deep_lift d j c a h.0, deep_lift d j c b h.1)
  deep_lift d j c (abs p t) h = (deep_lift d j c p h.0, h.1, deep_lift (d - 1) j (suc c) t h.2)

  all_deep_lift : (d j c : ℕ) (es : Exprs) → AllDeep d es → AllDeep d (lifts j c es)
  all_deep_lift d j c nil h = tt
  all_deep_lift d j c (cons a xs) h = (deep_lift d j c a h.0, all_deep_lift d j c xs h.1)

deep_hit : (x : ℕ) (a : Expr) (j i : ℕ) → Deep x a → (t : Bool) → eqb i j ≡ t → Deep x (substitute_bound a j i)
unfolding Deep substitute_bound
deep_hit x a j i h true e = rw (e, substitute_bound) (deep_lift x j 0 a h)
deep_hit x a j i h false e = rw (e, substitute_bound) tt

mutual
  unfolding Deep substitute

  pub deep_substitute : (x y : ℕ) (a : Expr) (j : ℕ) (t : Expr) → Deep x a → Deep y t → Deep (x + y) (substitute a j t)
  deep_substitute x y a j type h k = tt
  deep_substitute x y a j prop h k = tt
  deep_substitute x y a j (var v) h k = tt
  deep_substitute x y a j (bound i) h k = deep_more (omega arith) (substitute_bound a j i) (deep_hit x a j i h (eqb i j) refl)
  deep_substitute x y a j (const v xs) h k = all_deep_substitute x y a j xs h k
  deep_substitute x y a j (app b c) h k = (deep_substitute x y a j b h k.0, deep_substitute x y a j c h k.1)
  deep_substitute x y a j (abs p t) h k = (
    deep_substitute x y a j p h k.0,
    omega arith,
    deep_more (omega arith) (substitute a (suc j) t) (deep_substitute x (y - 1) a (suc j) t h k.2),
  )

  all_deep_substitute : (x y : ℕ) (a : Expr) (j : ℕ) (ts : Exprs) → Deep x a → AllDeep y ts → AllDeep (x + y) (substitutes a j ts)
  all_deep_substitute x y a j nil h k = tt
  all_deep_substitute x y a j (cons b bs) h k = (deep_substitute x y a j b h k.0, all_deep_substitute x y a j bs h k.1)

deep_argument : (x : ℕ) (v : ℕ) (vs : List ℕ) (xs : Exprs) (j : ℕ) → AllDeep x xs → (o : Option Expr) → argument_for v vs xs ≡ o → Deep x (instantiate_variable o j v)
unfolding Deep argument_for instantiate_variable
deep_argument x v vs xs j h none e = tt
deep_argument x v [] xs j h (some b) e = let z : ◌≡◌ {A = ℕ} 0 1 = cc in absurd (omega arith)
deep_argument x v (u ∷ vs) nil j h (some b) e = let z : ◌≡◌ {A = ℕ} 0 1 = cc in absurd (omega arith)
deep_argument x v (u ∷ vs) (cons a xs) j h (some b) e = go (eqb v u) (deep_argument x v vs xs j h.1 (some b)) e
  where
    go : (t : Bool) → (argument_for v vs xs ≡ some b → Deep x (lift j 0 b)) → elim t as (λ _. Option Expr) [ true ↦ some a | false ↦ argument_for v vs xs ] ≡ some b
        → Deep x (lift j 0 b)
    go true r q = let s : a ≡ b = cc in deep_lift x j 0 b (subst (Deep x) s h.0)
    go false r q = r q

mutual
  unfolding Deep instantiate

  pub deep_instantiate : (x y : ℕ) (vs : List ℕ) (xs : Exprs) (j : ℕ) (m : Expr) → AllDeep x xs → Deep y m → Deep (x + y) (instantiate vs xs j m)
  deep_instantiate x y vs xs j type h k = tt
  deep_instantiate x y vs xs j prop h k = tt
  deep_instantiate x y vs xs j (var v) h k =
      deep_more (omega arith) (instantiate_variable (argument_for v vs xs) j v) (deep_argument x v vs xs j h (argument_for v vs xs) refl)
  deep_instantiate x y vs xs j (bound i) h k = tt
  deep_instantiate x y vs xs j (const v bs) h k = all_deep_instantiate x y vs xs j bs h k
  deep_instantiate x y vs xs j (app a b) h k = (deep_instantiate x y vs xs j a h k.0, deep_instantiate x y vs xs j b h k.1)
  deep_instantiate x y vs xs j (abs p t) h k = (
    deep_instantiate x y vs xs j p h k.0,
    omega arith,
    deep_more (omega arith) (instantiate vs xs (suc j) t) (deep_instantiate x (y - 1) vs xs (suc j) t h k.2),
  )

  all_deep_instantiate : (x y : ℕ) (vs : List ℕ) (xs : Exprs) (j : ℕ) (ms : Exprs) → AllDeep x xs → AllDeep y ms → AllDeep (x + y) (instantiates vs xs j ms)
  all_deep_instantiate x y vs xs j nil h k = tt
  all_deep_instantiate x y vs xs j (cons b bs) h k = (deep_instantiate x y vs xs j b h k.0, all_deep_instantiate x y vs xs j bs h k.1)

-- ---- known categories

abbrev half : ℕ
half = largest_limit / 2

module _ (ls : Lines) (few : length ls < line_limit) where
  pub known_below : (k d : ℕ) (e : Expr) → KnownCategory ls k e → Deep d e → k + d ≤ line_limit → Below cell_values (cells e)
  known_below k d e w h l = below_wider (cell_factor * line_limit) cell_values (cells e) (omega arith) (lines_below ls line_limit few k d e w h l)

  -- what is made of two such, or of one with such arguments
  pub substituted_below : (k : ℕ) (a t : Expr) → KnownCategory ls k (substitute a 0 t) → k ≤ largest_limit → size a ≤ largest_limit → size t ≤ largest_limit → Below cell_values (cells (substitute a 0 t))
  substituted_below k a t w h x y =
      known_below k largest_limit (substitute a 0 t) w (deep_substitute half half a 0 t (deep_size half a (omega arith)) (deep_size half t (omega arith))) (omega arith)

  pub instantiated_below : (k : ℕ) (vs : List ℕ) (xs : Exprs) (m : Expr) → KnownCategory ls k (instantiate vs xs 0 m) → k ≤ largest_limit → sizes xs ≤ largest_limit → size m ≤ largest_limit
      → Below cell_values (cells (instantiate vs xs 0 m))
  instantiated_below k vs xs m w h x y =
      known_below k largest_limit (instantiate vs xs 0 m) w
      (deep_instantiate half half vs xs 0 m (all_deep_size half xs (omega arith)) (deep_size half m (omega arith))) (omega arith)

  pub lifted_below : (k d : ℕ) (e : Expr) → KnownCategory ls k (lift d 0 e) → k ≤ largest_limit → size e ≤ largest_limit → Below cell_values (cells (lift d 0 e))
  lifted_below k d e w h l = known_below k half (lift d 0 e) w (deep_lift half d 0 e (deep_size half e (omega arith))) (omega arith)
