-- Lifting, substitution and instantiation as one walk over an expression: they differ at its leaves alone (`type`, a variable,
-- a bound variable). What the walk says of a forest of expressions and of a leaf.
use Rattle.std.specs.Prelude.{◌≡◌, List, [], ◌∷◌, ℕ, ◌+◌, ◌-◌, ◌≤◌, ◌<◌, length, take, Option, None, Some, ⊤}
use Rattle.std.proofs.Math.Path.{refl}
use Rattle.std.proofs.lemmas.List.Edits.{sets}
use Rattle.std.proofs.Math.Numerals.{add-one}
use Rattle.aut68.specs.Expr.{Expr, Exprs, prop, const, app, abs, nil, cons, first_cell, cells}
use Rattle.aut68.specs.Substitution.{lift, lifts, substitute, substitutes, instantiate, instantiates}
use Rattle.cells.specs.Cells.{Formed, AllFormed, AnyVariable, RightCount, Wf, At, Below, Wrote}
use Rattle.terms.specs.declared.leaves.Change.{Change}
use Rattle.terms.specs.declared.leaves.Change.TheVariants.{Lift, Substitute}
use Rattle.terms.specs.declared.leaves.Leaf.{Leaf}
use Rattle.terms.specs.declared.leaves.Leaf.TheVariants.{One, Expression, TooHigh}
use Rattle.terms.specs.declared.walk.Ends.{Ends}
use Rattle.terms.specs.Made.{Numbered, Confined, Made, start_of, ArgumentsLie}

-- by how many bindings; what for the bound variable; the context's variables and their arguments
pub data Choice : Type 0 where
  lifting : ℕ → Choice
  substituting : Expr → Choice
  instantiating : List ℕ → Exprs → Choice

-- the walk, from under c bindings
unfoldable pub graft : Choice → ℕ → Expr → Expr
graft (lifting d) c e = lift d c e
graft (substituting a) c e = substitute a c e
graft (instantiating vs xs) c e = instantiate vs xs c e

unfoldable pub grafts : Choice → ℕ → Exprs → Exprs
grafts (lifting d) c es = lifts d c es
grafts (substituting a) c es = substitutes a c es
grafts (instantiating vs xs) c es = instantiates vs xs c es

-- the variables for which the code finds what the choice puts in
abbrev pub Allowed : List ℕ → Choice → ℕ → Type 0
Allowed tb (lifting d) = AnyVariable
Allowed tb (substituting a) = AnyVariable
Allowed tb (instantiating vs xs) = Numbered tb vs xs

abbrev pub Fit : List ℕ → Choice → Expr → Type 0
Fit tb k = Formed (Allowed tb k) (RightCount tb)

abbrev pub Fits : List ℕ → Choice → Exprs → Type 0
Fits tb k = AllFormed (Allowed tb k) (RightCount tb)

-- ---- which choice the code's arguments stand for

-- low is the part of the working store below the result, where what is put in lies
pub data Stands (tb : List ℕ) (change : Change) (low : List ℕ) : Choice → Type 0 where
  raises : {d : ℕ} → change ≡ Lift d → Stands tb change low (lifting d)
  substitutes_one : {number : ℕ} {y : Expr} {ry : List ℕ} → change ≡ Substitute number → Wf tb y → At low number (cells y) ry
      → Stands tb change low (substituting y)

pub data Instantiates (tb : List ℕ) (base count : ℕ) (starts low : List ℕ) : Choice → Type 0 where
  instantiates_all : {vs : List ℕ} {xs : Exprs} → ArgumentsLie tb low base count starts xs → Instantiates tb base count starts low (instantiating vs xs)

-- ---- what a walk writes

-- nothing below `to` is changed
pub record Kept (w w' : List ℕ) (to : ℕ) : Type 0 where
  pub long : length w' ≡ length w
  pub below : take to w' ≡ take to w

-- the cells vs from index `to` on, as far as the store goes, which ends before they do
pub record Full (w w' : List ℕ) (to : ℕ) (vs : List ℕ) : Type 0 where
  pub over : length w < to + length vs
  pub is : w' ≡ sets w to (take (length w - to) vs)

-- Here and below every cell of a result is below top, the number of values of a cell.

-- e is the expression at index `from` of low, lifted
pub record Put (tb low : List ℕ) (from cut : ℕ) (e : Expr) : Type 0 where
  pub whole : Expr
  pub rest : List ℕ
  pub formed : Wf tb whole
  pub lies : At low from (cells whole) rest
  pub is : e ≡ lift cut 0 whole

-- what stands for the leaf whose cell is x: one cell; an expression, lifted; nothing, where x is lifted too high for a cell
abbrev pub LeafPost : (top : ℕ) (Q : Choice → Type 0) (tb low : List ℕ) (x cut : ℕ) → Leaf → Type 0
LeafPost top Q tb low x cut (One cell) = (k : Choice) → Q k → (e : Expr) → first_cell e ≡ x → Fit tb k e → cells (graft k cut e) ≡ cell ∷ []
LeafPost top Q tb low x cut (Expression from) = (k : Choice) → Q k → (e : Expr) → first_cell e ≡ x → Fit tb k e → Put tb low from cut (graft k cut e)
LeafPost top Q tb low x cut TooHigh = (k : Choice) → Q k → (e : Expr) → first_cell e ≡ x → Below top (cells (graft k cut e)) → ⊥

-- an expression stands for a leaf in a substitution alone
abbrev pub PutFor : Leaf → Change → Type 0
PutFor (One cell) change = ⊤
PutFor (Expression from) (Lift d) = ⊥
PutFor (Expression from) (Substitute number) = ⊤
PutFor TooHigh change = ⊤

-- an expression is written up to index `at`, and the reading stops behind it, at i
pub record Grafted (s w w' rest vs : List ℕ) (to i at : ℕ) : Type 0 where
  pub wrote : Wrote w w' to at vs
  pub read : At s i [] rest

-- the expression at index `from` of s is read up to i, and what is made of it is written up to `at`
pub record Ended (top : ℕ) (P : List ℕ → Choice → Type 0) (tb low s w w' : List ℕ) (from to cut i at : ℕ) : Type 0 where
  pub past : from ≤ i
  pub within : i ≤ length s
  pub ahead : to ≤ at
  pub room : at ≤ length w
  pub kept : Kept w w' to
  pub means : (k : Choice) → P low k → (e : Expr) (rest : List ℕ) → Fit tb k e → At s from (cells e) rest → Below top (cells (graft k cut e))
      → Grafted s w w' rest (cells (graft k cut e)) to i at

-- what is made of it is written as far as the store goes
pub record Stopped (top : ℕ) (P : List ℕ → Choice → Type 0) (tb low s w w' : List ℕ) (from to cut : ℕ) : Type 0 where
  pub kept : Kept w w' to
  pub means : (k : Choice) → P low k → (e : Expr) (rest : List ℕ) → Fit tb k e → At s from (cells e) rest → Below top (cells (graft k cut e))
      → Full w w' to (cells (graft k cut e))

-- the walk over the expression at index `from` of s
abbrev pub GraftPost : (top : ℕ) (P : List ℕ → Choice → Type 0) (tb low s w w' : List ℕ) (from to cut : ℕ) → Option Ends → Type 0
GraftPost top P tb low s w w' from to cut None = Stopped top P tb low s w w' from to cut
GraftPost top P tb low s w w' from to cut (Some ends) = Ended top P tb low s w w' from to cut ends.from ends.to

-- the one expression at index e of s, made in at most `room` cells
pub record WholePost (top : ℕ) (P : List ℕ → Choice → Type 0) (tb s w w' : List ℕ) (e to room r : ℕ) : Type 0 where
  pub confined : Confined w w' to room r
  pub made : (k : Choice) → P (take to w) k → (x : Expr) (rest : List ℕ) → to + room ≤ length w → Fit tb k x → At s e (cells x) rest
      → Below top (cells (graft k 0 x)) → Made room (graft k 0 x) r to w w'

-- ---- where an argument lies

-- r is where argument i starts
pub record StartPost (tb w : List ℕ) (base count : ℕ) (starts : List ℕ) (i r : ℕ) : Type 0 where
  pub is : (xs : Exprs) → ArgumentsLie tb w base count starts xs → i < count → r ≡ base + start_of xs i

-- ---- laws: the walk leaves `prop`, and goes through constants, applications and abstractions

module _ (c : ℕ) where
  pub graft_prop : (k : Choice) → graft k c prop ≡ prop
  unfolding graft lift substitute instantiate
  graft_prop (lifting d) = refl
  graft_prop (substituting a) = refl
  graft_prop (instantiating vs ys) = refl

  pub graft_const : (k : Choice) (v : ℕ) (xs : Exprs) → graft k c (const v xs) ≡ const v (grafts k c xs)
  unfolding graft grafts lift substitute instantiate
  graft_const (lifting d) v xs = refl
  graft_const (substituting a) v xs = refl
  graft_const (instantiating vs ys) v xs = refl

  pub graft_app : (k : Choice) (a b : Expr) → graft k c (app a b) ≡ app (graft k c a) (graft k c b)
  unfolding graft lift substitute instantiate
  graft_app (lifting d) a b = refl
  graft_app (substituting y) a b = refl
  graft_app (instantiating vs ys) a b = refl

  pub graft_abs : (k : Choice) (p t : Expr) → graft k c (abs p t) ≡ abs (graft k c p) (graft k (c + 1) t)
  unfolding graft lift substitute instantiate
  graft_abs (lifting d) p t = rw add-one
  graft_abs (substituting y) p t = rw add-one
  graft_abs (instantiating vs ys) p t = rw add-one

  pub grafts_nil : (k : Choice) → grafts k c nil ≡ nil
  unfolding grafts lift substitute instantiate
  grafts_nil (lifting d) = refl
  grafts_nil (substituting y) = refl
  grafts_nil (instantiating vs ys) = refl

  pub grafts_cons : (k : Choice) (e : Expr) (es : Exprs) → grafts k c (cons e es) ≡ cons (graft k c e) (grafts k c es)
  unfolding graft grafts lift substitute instantiate
  grafts_cons (lifting d) e es = refl
  grafts_cons (substituting y) e es = refl
  grafts_cons (instantiating vs ys) e es = refl
