-- One step of reading a line, and what it takes: the indicator, the identifier, kinds and contexts.
use Rattle.std.specs.Prelude.{Option, Some, None, IfSome, is_some, not}
use Rattle.std.specs.Option.{unwrap_or}
use mathlib.Core.Path.{◌≡◌, refl, sym, ap, ◌∙◌, subst}
use mathlib.Core.Logic.{◌≢◌, ◌⊎◌, inl, inr}
use mathlib.Core.Bool.{Bool, true, false}
use mathlib.Core.List.{List, [], ◌∷◌}
use Prim.Native.Nat.{ℕ, zero, suc, ◌+◌, ◌≤◌, ◌<◌}
use native.Mathlib.Omega.{arith}
use lib.ListN.{length, length-append}
use borrow.Author.Tests.{not-true, not-false}
use Rattle.aut68.specs.Bytes.{Bytes}
use Rattle.aut68.specs.Source.{Middle, variable, primitive, meaning}
use Rattle.aut68.specs.Expr.{Expr}
use Rattle.aut68.specs.Lines.{Line, Lines, Kind, line_of, kind_number, row_cell}
use Rattle.aut68.specs.Lines as Lines
use Rattle.aut68.specs.Paragraphs.{State}
use Rattle.aut68.specs.Procedure.Answer.{Answer, done, stop, and_then, give, aside, Refusal, code_of, ensure}
use Rattle.aut68.specs.Procedure.Parse.{Placed}
use Rattle.aut68.specs.Procedure.Lookup.{unused}
use Rattle.aut68.specs.Procedure.Resolve.{Naming, found, resolve_middle, resolve, context_at}
use Rattle.aut68.specs.Procedure.Resolve as Resolve
use Rattle.aut68.specs.Sizes.{line_limit, at_context}
use Rattle.lookup.specs.LineNumbers.{line_line_of}
use Rattle.lookup.specs.Answers.{done_value, stop≢done, code_nonzero}
use Rattle.cells.specs.Results.{Result}
use Rattle.cells.specs.Results as Results
use Rattle.kinds.specs.Kinds.{KindsTable}
use Rattle.names.specs.Known.{Known}
use Rattle.names.proofs.FindLaws.{line_at}
use Rattle.notes.specs.Note.{StateNoted}
use Rattle.paragraphs.specs.Posts.{TakenTold}
use Rattle.expressions.specs.Walk.{ReadTo, passed, refused, Laid, Faulted, whole, faulty}
use Rattle.reader.specs.Posts.{place_in, middle_number, IndicatorFound, is_line, no_line}

-- ---- one step, and what comes after it

pub reading_result : {s : Bytes} {R : Placed → Type 0} {code at : ℕ} {m : Answer Bytes Placed} → ReadTo s R code at m → Result R code (tt {0}) (aside m (tt {0}))
unfolding aside
reading_result (passed e p h) = Results.passed e h
reading_result (refused e) = Results.refused e

module _ {A B : Type 0} {Q : B → Type 0} {code : ℕ} (f : A → Naming B) where
  step_read : {m : Answer (Unit {0}) A} {a : A} → m ≡ found a → Result Q code tt (f a tt) → Result Q code tt (and_then f m)
  unfolding and_then
  step_read e h = subst (λ m. Result Q code tt (and_then f m)) (sym e) h

  pub step_stopped : {m : Answer (Unit {0}) A} {r : Refusal} → m ≡ Resolve.refused r → code ≡ code_of r → Result Q code tt (and_then f m)
  unfolding and_then
  step_stopped e c = subst (λ m. Result Q code tt (and_then f m)) (sym e) (Results.refused c)

  -- names that were looked up
  pub step_names : {g : A → List ℕ} {n : A → ℕ} {w : List ℕ} {to end d fault : ℕ} {fm : Answer (Unit {0}) A} → Faulted g n w to end d fault fm → fault ≡ 0
      → ((a : A) → fm ≡ found a → Laid w to end d (g a) (n a) → Result Q code tt (f a tt)) → Result Q code tt (and_then f fm)
  unfolding and_then
  step_names (whole {a} e p) z h = h a refl p
  step_names (faulty {r} e) z h = absurd (code_nonzero r (sym e ∙ z))

  pub step_fault : {g : A → List ℕ} {n : A → ℕ} {w : List ℕ} {to end d fault : ℕ} {fm : Answer (Unit {0}) A} → Faulted g n w to end d fault fm → fault ≢ 0 → code ≡ fault
      → Result Q code tt (and_then f fm)
  unfolding and_then
  step_fault (whole e p) n c = absurd (n e)
  step_fault (faulty e) n c = Results.refused (c ∙ e)

module _ {B : Type 0} {Q : B → Type 0} {code : ℕ} (f : Unit {0} → Naming B) where
  pub step_right_lem : {t : Bool} (r : Refusal) → t ≡ true → Result Q code tt (f tt tt) → Result Q code tt (and_then f (ensure t r tt))
  unfolding ensure
  step_right_lem r e h = step_read f (ap (λ t. ensure t r tt) e) h

  pub step_wrong : {t : Bool} (r : Refusal) → t ≡ false → code ≡ code_of r → Result Q code tt (and_then f (ensure t r tt))
  unfolding ensure
  step_wrong r e c = step_stopped f (ap (λ t. ensure t r tt) e) c

module _ {B : Type 0} {Q : B → Type 0} {code : ℕ} (f : ℕ → Naming B) {lines r : ℕ} where
  pub step_indicator : {fi : Answer (Unit {0}) ℕ} {i : ℕ} → IndicatorFound lines r fi → r < line_limit → i ≡ r → Result Q code tt (f i tt) → Result Q code tt (and_then f fi)
  unfolding and_then
  step_indicator (is_line {v} e l) m q h = subst (λ v. Result Q code tt (f v tt)) (q ∙ e) h
  step_indicator (no_line e) m q h = absurd (omega arith)

  pub step_no_indicator : {fi : Answer (Unit {0}) ℕ} → IndicatorFound lines r fi → lines < line_limit → line_limit ≤ r → code ≡ 5 → Result Q code tt (and_then f fi)
  unfolding and_then code_of
  step_no_indicator (is_line e l) n m c = absurd (omega arith)
  step_no_indicator (no_line e) n m c = Results.refused c

-- ---- the identifier

module _ {ks book tb w : List ℕ} {lines : ℕ} {taken : Bool} {word : Bytes} {st : State} (h : TakenTold ks book tb lines w word taken) (t : KindsTable ks)
    (k : Known st.earlier book tb lines) (g : StateNoted st book tb lines w) (l : 1 ≤ length word) where
  pub name_unused : taken ≡ false → unused word st ≡ true
  name_unused e = not-false (unused word st) (sym (h.is st t k g l) ∙ e)

  pub name_taken : taken ≡ true → unused word st ≡ false
  name_taken e = not-true (unused word st) (sym (h.is st t k g l) ∙ e)

-- ---- kinds and contexts

pub kind_number_lem : (st : State) (context : List ℕ) (m : Middle) {k : Kind} → resolve_middle st context m tt ≡ found k → kind_number k ≡ middle_number m
unfolding resolve_middle kind_number middle_number and_then
kind_number_lem st context variable e = ap kind_number (sym (done_value e))
kind_number_lem st context primitive e = ap kind_number (sym (done_value e))
kind_number_lem st context (meaning x) {k} e = split (resolve st context [] x tt) e
  where
    split : (fe : Answer (Unit {0}) Expr) → and_then (λ m. give (Lines.abbreviation m)) fe ≡ found k → kind_number k ≡ 2
    split (done a u) e = ap kind_number (sym (done_value e))
    split (stop r u) e = absurd (stop≢done e)

pub context_length : {ls : Lines} {book tb : List ℕ} {lines v context : ℕ} → Known ls book tb lines → v ≤ lines
    → (v ≡ 0 → context ≡ 0) × (1 ≤ v → context ≡ row_cell tb v at_context + 1) → context ≡ length (context_at ls v)
unfolding context_at
context_length {ls} {tb = tb} {lines} {v} {context} k l h = split v l h
  where
    split : (v : ℕ) → v ≤ lines → (v ≡ 0 → context ≡ 0) × (1 ≤ v → context ≡ row_cell tb v at_context + 1) → context ≡ length (context_at ls v)
    split zero l h = h.0 refl
    split (suc v) l h =
        let (x, i) = line_at k (suc v) (omega arith) l in
        h.1 (omega arith)
        ∙ ap (λ n. n + 1) ((k.rows.row i).context_is ∙ ap (λ (y : Line). length y.context) (sym (line_line_of i)))
        ∙ sym (length-append (line_of ls (suc v)).context (suc v ∷ []))

pub indicator_within : {lines found indicator : ℕ} {fi : Answer (Unit {0}) ℕ} → IndicatorFound lines found fi → lines < line_limit
    → (line_limit ≤ found → indicator ≡ 0) × (found < line_limit → indicator ≡ found) → indicator ≤ lines
indicator_within (is_line e l) n h = omega (arith, h.1 (omega arith))
indicator_within (no_line e) n h = omega (arith, h.0 (omega arith))

-- the line of an indicator, 0 where it is none
pub known_place : (o : Option ℕ) → IfSome o (λ v. v < line_limit) → {i : ℕ} → i ≡ unwrap_or o 0 → (line_limit ≤ place_in o → i ≡ 0) × (place_in o < line_limit → i ≡ place_in o)
known_place (Some v) l e = (λ m. absurd (omega arith), λ m. e)
known_place None l e = (λ m. e, λ m. absurd (omega arith))

pub place_none : (o : Option ℕ) (t : Bool) → is_some o ≡ not t → t ≡ true → line_limit ≤ place_in o
place_none (Some v) true e f = absurd (cc)
place_none (Some v) false e f = absurd (cc)
place_none None t e f = omega arith

pub place_some : (o : Option ℕ) (t : Bool) → is_some o ≡ not t → t ≡ false → IfSome o (λ v. v < line_limit) → place_in o < line_limit
place_some (Some v) t e f l = l
place_some None true e f l = absurd (cc)
place_some None false e f l = absurd (cc)

pub zero_or_not : (n : ℕ) → (n ≡ 0) ⊎ (n ≢ 0)
zero_or_not zero = inl refl
zero_or_not (suc n) = inr (λ e. omega arith)
