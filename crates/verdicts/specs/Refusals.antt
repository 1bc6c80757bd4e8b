-- The codes with which a line that was read is refused: storage stops it with 12, the checks of its categories with 7 to 11. So every
-- other code is given by the reading.
use Rattle.std.specs.Prelude.{◌≡◌, ◌⊎◌, List, ℕ, ◌≤◌, ◌<◌, length}
use Rattle.std.proofs.Math.Path.{ap}
use Rattle.std.proofs.Common.{sym, ◌∙◌, inl, inr}
use native.Mathlib.Omega.{arith}
use Rattle.aut68.specs.Language.{Language}
use Rattle.aut68.specs.Stores.{Limits}
use Rattle.aut68.specs.Bytes.{Bytes}
use Rattle.aut68.specs.Source.{SourceLine}
use Rattle.aut68.specs.Lines.{Line}
use Rattle.aut68.specs.Paragraphs.{State, start}
use Rattle.aut68.specs.Rules.Derivation.{Derived}
use Rattle.aut68.specs.Procedure.Answer.{done, stop, Refusal, code_of, duplicate, unknown_name, wrong_arity, too_large, out_of_space, not_in_context}
use Rattle.aut68.specs.Procedure.Parse.{Placed, a_line}
use Rattle.aut68.specs.Procedure.CheckLine.{check_line, check_written, check_middle}
use Rattle.lookup.specs.Answers.{Finding, no_function, no_type, differ, large, spent, judged_stop}
use Rattle.lookup.specs.DerivedBooks.{distinct_names, right_contexts}
use Rattle.lookup.specs.NameFaults.{unknown, out_of_context, miscounted}
use Rattle.reading.specs.Sound.{parse_sound}
use Rattle.reading.specs.Readings.{Reading}
use Rattle.reading.specs.Stages.{check_stopped, Halted, unread, Unread, is_malformed, is_taken, no_indicator, no_name, is_large, no_room, in_category, in_middle}
use Rattle.inclusion.specs.Liberal.{NestedContext, nested_context}
use Rattle.inclusion.specs.Lines.{written_finds, middle_finds}
use Rattle.inclusion.specs.Books.{Right, built_right}
use Rattle.inclusion.proofs.Derivations.{derived_built, line_middle, line_category, category_ends_lem}

finding_code : {X : Type 0} {r : Refusal} → Finding X r → (7 ≤ code_of r) × (code_of r ≤ 11)
unfolding code_of
finding_code (no_function x) = (omega arith, omega arith)
finding_code (no_type x) = (omega arith, omega arith)
finding_code (differ x) = (omega arith, omega arith)
finding_code large = (omega arith, omega arith)
finding_code spent = (omega arith, omega arith)

module _ (language : Language) (st : State) {past : List Bytes} (D : Derived language start past st) (limits : Limits) (bytes : Bytes) (b : ℕ) where
  R : Right language st.earlier
  R = built_right (derived_built D)

  module _ {s : SourceLine} {l : Line} (x : Reading language st bytes s l) where
    N : NestedContext st.earlier l.context
    N = nested_context R.resolved_lines R.contexts x.context_is

    written_code : (m : ℕ) {r : Refusal} {b' : ℕ} → check_written language st.earlier limits.limit l.category m ≡ stop r b' → (7 ≤ code_of r) × (code_of r ≤ 11)
    written_code m f =
        finding_code (judged_stop (written_finds language st.earlier R.resolved_lines R.contexts R.lines l.context x.context_is N limits.limit l.category
        (line_category st x.context_is x.form x.category_is) (category_ends_lem language st x.context_is x.form x.category_is) m) f)

    middle_code : (m : ℕ) {r : Refusal} {b' : ℕ} → check_middle language st.earlier limits.limit l.kind l.category m ≡ stop r b' → (7 ≤ code_of r) × (code_of r ≤ 11)
    middle_code m f =
        finding_code (judged_stop (middle_finds language st.earlier R.resolved_lines R.contexts R.lines l.context x.context_is N limits.limit l.kind l.category
        (line_middle st x.context_is x.form x.middle_is) (line_category st x.context_is x.form x.category_is) m) f)

  -- with a code below 7 or above 12 it was not read
  pub unread_by_code : {r : Refusal} {b' : ℕ} → check_line language st limits bytes b ≡ stop r b' → (code_of r < 7) ⊎ (12 < code_of r) → Unread language st limits.limit bytes r
  unfolding code_of
  unread_by_code {r} {b'} h c = go (check_stopped language st limits bytes b (distinct_names D) (right_contexts D) h)
    where
      clash : (code_of r < 7) ⊎ (12 < code_of r) → 7 ≤ code_of r → code_of r ≤ 12 → ⊥
      clash (inl p) q s = omega arith
      clash (inr p) q s = omega arith

      go : Halted language st limits bytes b r b' → Unread language st limits.limit bytes r
      go (unread u p) = u
      go (no_room i p a) = let z : code_of r ≡ code_of out_of_space = ap code_of i in absurd (clash c (omega arith) (omega arith))
      go (in_category a f) = let (p, q) = written_code a b f in absurd (clash c p (omega arith))
      go (in_middle {c = m} a f g) = let (p, q) = middle_code a m g in absurd (clash c p (omega arith))

  pub malformed_unread : {r : Refusal} {b' : ℕ} → check_line language st limits bytes b ≡ stop r b' → code_of r ≡ 3
      → {q : Placed} {rest : Bytes} → ¬ (a_line language (length bytes) bytes ≡ done q rest)
  unfolding code_of
  malformed_unread {r} h c e = read (unread_by_code h (inl (omega arith)))
    where
      code : {s : Refusal} → r ≡ s → code_of s ≡ 3
      code i = ap code_of (sym i) ∙ c

      read : Unread language st limits.limit bytes r → ⊥
      read (is_malformed i n) = n _ (parse_sound language (length bytes) bytes e).1
      read (is_taken i w j) = let z : code_of duplicate ≡ 3 = code i in omega arith
      read (no_indicator i f) = let z : code_of unknown_name ≡ 3 = code i in omega arith
      read (no_name unknown i f) = let z : code_of unknown_name ≡ 3 = code (sym i) in omega arith
      read (no_name out_of_context i f) = let z : code_of not_in_context ≡ 3 = code (sym i) in omega arith
      read (no_name miscounted i f) = let z : code_of wrong_arity ≡ 3 = code (sym i) in omega arith
      read (is_large i) = let z : code_of too_large ≡ 3 = code i in omega arith
