-- One cell of a string: whether it is right by its kind and number, and what it leaves of the string.
use mathlib.Core.Path.{◌≡◌, refl, sym, ap, ◌∙◌, subst}
use mathlib.Core.Logic.{◌≢◌}
use mathlib.Core.List.{List, [], ◌∷◌, ◌++◌}
use Prim.Native.Nat.{ℕ, suc, ◌+◌, ◌-◌, ◌%◌, ◌/◌, ◌≤◌, ◌<◌}
use native.Mathlib.Omega.{arith}
use mathlib.Core.Bool.{Bool, true, false}
use lib.Dec.{eqb}
use borrow.Author.Tests.{eqb-true}
use Rattle.std.proofs.lemmas.Bool.{eqb-false}
use lib.ListN.{length, get_or, drop, length-append, length-drop}
use lib.Seq.{drop-cons, drop-length}
use Rattle.aut68.specs.Sizes.{cell_factor, at_kind}
use Rattle.aut68.specs.Lines.{Line, Lines, Kind, variable, primitive, abbreviation, kind_number, row_cell}
use Rattle.aut68.specs.Rules.Names.{IsLine}
use Rattle.cells.specs.Cells.{parts_after}
use Rattle.cells.specs.Rows.{Rows}
use Rattle.lookup.specs.LineNumbers.{line_unique, line_at_lem, primitive≢variable, abbreviation≢variable}
use Rattle.strings.specs.Levels.{part_levels, levels_past, levels_at, RightCell, a_variable, a_bound, a_constant, an_application, an_abstraction, Holds}
use Rattle.strings.specs.Posts.{KindOf, no_line, is_line}
use Rattle.strings.proofs.ReadLaws.{levels_long}

-- ---- lines

-- a row says of what kind its line is
pub kind_of_line : {ls : Lines} {tb : List ℕ} {lines v kind : ℕ} → 0 < v → v ≤ lines → kind ≡ row_cell tb v at_kind + 1 → Rows ls tb → length ls ≡ lines → KindOf ls v kind
kind_of_line {ls} {tb} {lines} {v} p l e R n = let (m, i) = line_at_lem ls v p (omega arith) in is_line m i (omega (arith, e, (R.row i).kind_is))

-- ---- right cells, kind by kind

kind_variable : (n : Kind) → kind_number n ≡ 0 → n ≡ variable
unfolding kind_number
kind_variable variable e = refl
kind_variable primitive e = absurd (omega arith)
kind_variable (abbreviation m) e = absurd (omega arith)

kind_constant : (n : Kind) → n ≢ variable → 1 ≤ kind_number n
unfolding kind_number
kind_constant variable e = absurd (e refl)
kind_constant primitive e = omega arith
kind_constant (abbreviation m) e = omega arith

number_constant : (n : Kind) → 1 ≤ kind_number n → n ≢ variable
unfolding kind_number
number_constant variable e = absurd (omega arith)
number_constant primitive e = primitive≢variable
number_constant (abbreviation m) e = abbreviation≢variable

module _ (ls : Lines) (k x : ℕ) {v : ℕ} (number : v ≡ x / cell_factor) where
  -- a variable: its line is an `EB` line
  pub variable_right : {kind : ℕ} → x % cell_factor ≡ 1 → KindOf ls v kind → kind ≡ 1 → RightCell ls k x
  variable_right e (no_line n z) q = absurd (omega arith)
  variable_right e (is_line l i z) q =
      a_variable v (omega arith) (record { line = l; is_line = i; is_variable = kind_variable l.kind (omega (arith, z)) })

  pub right_variable : {kind : ℕ} → x % cell_factor ≡ 1 → KindOf ls v kind → RightCell ls k x → kind ≡ 1
  unfolding kind_number
  right_variable {kind} e d (a_variable u q w) = of d
    where
      here : v ≡ u
      here = omega (arith, q)

      of : KindOf ls v kind → kind ≡ 1
      of (no_line n z) = absurd (n w.line (subst (λ n. IsLine ls n w.line) (sym here) w.is_line))
      of (is_line l i z) =
          z ∙ ap (λ (m : Line). suc (kind_number m.kind)) (line_unique i (subst (λ n. IsLine ls n w.line) (sym here) w.is_line)) ∙ ap (λ (n : Kind). suc (kind_number n)) w.is_variable
  right_variable e d (a_bound i q w) = absurd (omega (arith, q))
  right_variable e d (a_constant u n q w) = absurd (omega (arith, q))
  right_variable e d (an_application q) = absurd (omega (arith, q))
  right_variable e d (an_abstraction q) = absurd (omega (arith, q))

  -- a bound variable: more bindings stand around it than lie between
  pub bound_right : x % cell_factor ≡ 2 → v < k → RightCell ls k x
  bound_right e l = a_bound v (omega arith) l

  pub right_bound : x % cell_factor ≡ 2 → RightCell ls k x → v < k
  right_bound e (a_variable u q w) = absurd (omega (arith, q))
  right_bound e (a_bound i q w) = omega (arith, q)
  right_bound e (a_constant u n q w) = absurd (omega (arith, q))
  right_bound e (an_application q) = absurd (omega (arith, q))
  right_bound e (an_abstraction q) = absurd (omega (arith, q))

  -- a constant: its line is none
  pub constant_right : {kind : ℕ} → x % cell_factor ≡ 3 → KindOf ls v kind → 1 < kind → RightCell ls k x
  constant_right e (no_line n z) q = absurd (omega arith)
  constant_right e (is_line l i z) q =
      a_constant v (length l.context) (omega arith)
      (record { line = l; is_line = i; not_variable = number_constant l.kind (omega (arith, z)); as_many = refl })

  pub right_constant : {kind : ℕ} → x % cell_factor ≡ 3 → KindOf ls v kind → RightCell ls k x → 1 < kind
  right_constant e d (a_variable u q w) = absurd (omega (arith, q))
  right_constant e d (a_bound i q w) = absurd (omega (arith, q))
  right_constant {kind} e d (a_constant u n q w) = of d
    where
      here : v ≡ u
      here = omega (arith, q)

      of : KindOf ls v kind → 1 < kind
      of (no_line n z) = absurd (n w.line (subst (λ n. IsLine ls n w.line) (sym here) w.is_line))
      of (is_line l i z) =
          omega (arith, z, ap (λ (m : Line). kind_number m.kind) (line_unique i (subst (λ n. IsLine ls n w.line) (sym here) w.is_line)), kind_constant w.line.kind w.not_variable)
  right_constant e d (an_application q) = absurd (omega (arith, q))
  right_constant e d (an_abstraction q) = absurd (omega (arith, q))

  -- an application or an abstraction has no number
  pub application_right : x % cell_factor ≡ 4 → v ≡ 0 → RightCell ls k x
  application_right e z = an_application (omega arith)

  pub abstraction_right : x % cell_factor ≡ 5 → v ≡ 0 → RightCell ls k x
  abstraction_right e z = an_abstraction (omega arith)

  pub pair_right : 3 < x % cell_factor → x % cell_factor < 6 → v ≡ 0 → RightCell ls k x
  pair_right f g z = of (eqb (x % cell_factor) 4) refl
    where
      of : (t : Bool) → eqb (x % cell_factor) 4 ≡ t → RightCell ls k x
      of true e = application_right (eqb-true _ _ e) z
      of false e = abstraction_right (omega (arith, eqb-false (x % cell_factor) 4 e)) z

  pub right_number : 3 < x % cell_factor → RightCell ls k x → v ≡ 0
  right_number e (a_variable u q w) = absurd (omega (arith, q))
  right_number e (a_bound i q w) = absurd (omega (arith, q))
  right_number e (a_constant u n q w) = absurd (omega (arith, q))
  right_number e (an_application q) = omega (arith, q)
  right_number e (an_abstraction q) = omega (arith, q)

  -- no cell of another kind is right
  pub right_kind : RightCell ls k x → (1 ≤ x % cell_factor) × (x % cell_factor ≤ 5)
  right_kind (a_variable u q w) = (omega (arith, q), omega (arith, q))
  right_kind (a_bound i q w) = (omega (arith, q), omega (arith, q))
  right_kind (a_constant u n q w) = (omega (arith, q), omega (arith, q))
  right_kind (an_application q) = (omega (arith, q), omega (arith, q))
  right_kind (an_abstraction q) = (omega (arith, q), omega (arith, q))

-- ---- what a cell leaves of a string

levels_past_lem : (tb : List ℕ) (x : ℕ) (ks : List ℕ) → 0 < length ks → length (levels_past tb x ks) ≡ length ks - 1 + parts_after tb x
unfolding levels_past
levels_past_lem tb x [] l = absurd (omega arith)
levels_past_lem tb x (k ∷ ks) l = omega (arith, length-append (part_levels tb k x) ks, levels_long tb k x)

-- so many expressions are to come behind a cell
pub levels_next : (tb s : List ℕ) (i : ℕ) {pending kids : ℕ} → 0 < pending → pending ≡ length (levels_at tb s i) → kids ≡ parts_after tb (get_or s i 0)
    → pending - 1 + kids ≡ length (levels_at tb s (i + 1))
unfolding levels_at
levels_next tb s i p e k = omega (arith, e, k, ap (λ (n : ℕ). length (levels_at tb s n)) (next i) ∙ levels_past_lem tb (get_or s i 0) (levels_at tb s i) (omega arith))
  where
    next : (i : ℕ) → i + 1 ≡ suc i
    next i = omega arith

module _ (ls : Lines) (tb : List ℕ) where
  -- each expression has a cell
  pub holds_long : (ks s : List ℕ) → Holds ls tb ks s → length ks ≤ length s
  unfolding Holds
  holds_long ks [] h = subst (λ l. length l ≤ 0) (sym h) (omega arith)
  holds_long [] (x ∷ s) h = omega arith
  holds_long (k ∷ ks) (x ∷ s) h = omega (arith, holds_long (part_levels tb k x ++ ks) s h.1, length-append (part_levels tb k x) ks)

  passed : (ks : List ℕ) (x : ℕ) (s : List ℕ) → 0 < length ks → Holds ls tb ks (x ∷ s) → RightCell ls (get_or ks 0 0) x × Holds ls tb (levels_past tb x ks) s
  unfolding Holds levels_past
  passed [] x s l h = absurd (omega arith)
  passed (k ∷ ks) x s l h = h

  repassed : (ks : List ℕ) (x : ℕ) (s : List ℕ) → 0 < length ks → RightCell ls (get_or ks 0 0) x → Holds ls tb (levels_past tb x ks) s → Holds ls tb ks (x ∷ s)
  unfolding Holds levels_past
  repassed [] x s l c h = absurd (omega arith)
  repassed (k ∷ ks) x s l c h = (c, h)

  -- from one index to the next
  abbrev pub Rest : List ℕ → ℕ → Type 0
  Rest s i = Holds ls tb (levels_at tb s i) (drop i s)

  pub rest_next : (s : List ℕ) (i : ℕ) → i < length s → 0 < length (levels_at tb s i) → Rest s i → RightCell ls (get_or (levels_at tb s i) 0 0) (get_or s i 0) × Rest s (i + 1)
  unfolding levels_at
  rest_next s i l p h =
      let r = passed (levels_at tb s i) (get_or s i 0) (drop (suc i) s) p (subst (Holds ls tb (levels_at tb s i)) (drop-cons s i 0 l) h) in
      (r.0, subst (Rest s) (next i) r.1)
    where
      next : (i : ℕ) → suc i ≡ i + 1
      next i = omega arith

  rest_before : (s : List ℕ) (i : ℕ) → i < length s → 0 < length (levels_at tb s i) → RightCell ls (get_or (levels_at tb s i) 0 0) (get_or s i 0) → Rest s (i + 1) → Rest s i
  unfolding levels_at
  rest_before s i l p c h =
      subst (Holds ls tb (levels_at tb s i)) (sym (drop-cons s i 0 l)) (repassed (levels_at tb s i) (get_or s i 0) (drop (suc i) s) p c (subst (Rest s) (next i) h))
    where
      next : (i : ℕ) → i + 1 ≡ suc i
      next i = omega arith

  -- nothing is to come: the string ends there
  pub rest_none : (s : List ℕ) (i : ℕ) → i ≤ length s → length (levels_at tb s i) ≡ 0 → Rest s i → i ≡ length s
  unfolding Holds
  rest_none s i l z h = of (levels_at tb s i) (drop i s) refl z h
    where
      of : (ks t : List ℕ) → drop i s ≡ t → length ks ≡ 0 → Holds ls tb ks t → i ≡ length s
      of ks [] e z h = omega (arith, length-drop i s, ap length e)
      of [] (x ∷ t) e z h = absurd h
      of (k ∷ ks) (x ∷ t) e z h = absurd (omega arith)

  pub none_rest : (s : List ℕ) → length (levels_at tb s (length s)) ≡ 0 → Rest s (length s)
  unfolding Holds
  none_rest s z = subst (Holds ls tb (levels_at tb s (length s))) (sym (drop-length s)) (of (levels_at tb s (length s)) z)
    where
      of : (ks : List ℕ) → length ks ≡ 0 → Holds ls tb ks []
      of [] z = refl
      of (k ∷ ks) z = absurd (omega arith)

  -- what is asked of the whole string is asked of what is left of it
  pub record Reached (s : List ℕ) (i : ℕ) : Type 0 where
    pub onward : Rest s 0 → Rest s i
    pub back : Rest s i → Rest s 0

  pub reached_start : (s : List ℕ) → Reached s 0
  reached_start s = record { onward = λ h. h; back = λ h. h }

  pub reached_next : (s : List ℕ) (i : ℕ) → i < length s → 0 < length (levels_at tb s i) → RightCell ls (get_or (levels_at tb s i) 0 0) (get_or s i 0) → Reached s i → Reached s (i + 1)
  reached_next s i l p c r = record { onward = λ h. (rest_next s i l p (r.onward h)).1; back = λ h. r.back (rest_before s i l p c h) }
