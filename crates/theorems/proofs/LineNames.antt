-- Codes 5, 6 and 14: an indicator that is no `EB` line, and the first name that is not in order. A paragraph line gets none of them.
use Rattle.std.specs.Prelude.{◌≡◌, refl, ◌⊎◌, ◌↔◌, true, List, ℕ, ◌<◌}
use Rattle.std.proofs.Math.Path.{ap}
use Rattle.std.proofs.Common.{sym, ◌∙◌, subst, true≢false}
use Rattle.std.proofs.Math.Logic.{inl, inr}
use native.Mathlib.Omega.{arith}
use Rattle.aut68.specs.Language.{Language}
use Rattle.aut68.specs.Stores.{Limits}
use Rattle.aut68.specs.Bytes.{Bytes}
use Rattle.aut68.specs.Paragraphs.{State, start}
use Rattle.aut68.specs.Procedure.Answer.{done, stop, Refusal, code_of, unknown_name}
use Rattle.aut68.specs.Procedure.Parse.{signed}
use Rattle.aut68.specs.Procedure.CheckLine.{check_line}
use Rattle.aut68.specs.Procedure.CheckPiece.{PassedPiece, check_piece}
use Rattle.aut68.specs.Rules.Grammar.{IsSign, plus, minus}
use Rattle.aut68.specs.Rules.NameFaults.{IndicatorFault, FirstName, Unknown}
use Rattle.aut68.specs.Rules.Derivation.{Derived}
use Rattle.aut68.specs.Demands.{ByItsNames}
use Rattle.lookup.specs.Answers.{stop≢done, stop_reason}
use Rattle.lookup.specs.NameFaults.{NameRefusal, unknown, out_of_context, miscounted, refusal_for, FaultFor}
use Rattle.lookup.specs.DerivedBooks.{distinct_names}
use Rattle.reading.specs.Signs.{ordinary_starts}
use Rattle.reading.specs.Stages.{Unread, is_malformed, is_taken, no_indicator, no_name, is_large, indicator_unread, unread_stops}
use Rattle.reading.specs.PieceStages.{PassedBy, opening_passed, closing_passed, line_passed, piece_passed, StoppedBy, opening_stopped, closing_stopped, line_stopped, piece_stopped}
use Rattle.reading.specs.PieceStages.{Unopened, too_many, unopened, Unclosed, not_innermost, unclosed}
use Rattle.verdicts.specs.Refusals.{unread_by_code}
use Rattle.theorems.proofs.NamesStop.{name_stops}

-- ---- the codes of names

-- the others of reading are 3, 4 and 10, those of a line that was read 7 to 12
name_code : (n : NameRefusal) → (4 < code_of (refusal_for n)) × ((code_of (refusal_for n) < 7) ⊎ (12 < code_of (refusal_for n)))
unfolding code_of
name_code unknown = (omega arith, inl (omega arith))
name_code out_of_context = (omega arith, inr (omega arith))
name_code miscounted = (omega arith, inl (omega arith))

names_apart : (k n : NameRefusal) → code_of (refusal_for k) ≡ code_of (refusal_for n) → k ≡ n
unfolding code_of
names_apart unknown unknown e = refl
names_apart unknown out_of_context e = absurd (omega arith)
names_apart unknown miscounted e = absurd (omega arith)
names_apart out_of_context unknown e = absurd (omega arith)
names_apart out_of_context out_of_context e = refl
names_apart out_of_context miscounted e = absurd (omega arith)
names_apart miscounted unknown e = absurd (omega arith)
names_apart miscounted out_of_context e = absurd (omega arith)
names_apart miscounted miscounted e = refl

-- a paragraph line is refused by 3, 4, 12 or 17 only
SignCode : ℕ → Type 0
SignCode c = (c < 5) ⊎ (c ≡ 12) ⊎ (c ≡ 17)

name_not_sign : (n : NameRefusal) → ¬ SignCode (code_of (refusal_for n))
unfolding SignCode code_of
name_not_sign unknown (inl h) = omega arith
name_not_sign unknown (inr (inl h)) = omega arith
name_not_sign unknown (inr (inr h)) = omega arith
name_not_sign out_of_context (inl h) = omega arith
name_not_sign out_of_context (inr (inl h)) = omega arith
name_not_sign out_of_context (inr (inr h)) = omega arith
name_not_sign miscounted (inl h) = omega arith
name_not_sign miscounted (inr (inl h)) = omega arith
name_not_sign miscounted (inr (inr h)) = omega arith

module _ (language : Language) (st : State) (bytes : Bytes) where
  -- the indicator or the first name that is not in order has the fault
  abbrev Faulty : NameRefusal → Type 0
  Faulty n = ((unknown ≡ n) × IndicatorFault language st bytes) ⊎ FirstName language st bytes (FaultFor n)

  -- so the line is well-formed, and no paragraph line
  faulty_ordinary : {n : NameRefusal} {sign : ℕ} → IsSign sign → signed sign bytes ≡ true → ¬ Faulty n
  faulty_ordinary i h (inl (e, x)) = true≢false (sym h ∙ ordinary_starts language i x.readable.0)
  faulty_ordinary i h (inr x) = true≢false (sym h ∙ ordinary_starts language i x.readable.0)

  -- ---- a paragraph line

  opening_code : {r : Refusal} → Unopened language st bytes r → SignCode (code_of r)
  unfolding SignCode code_of
  opening_code (Unopened.is_malformed e n) = let z = ap code_of e in inl (omega arith)
  opening_code (Unopened.is_taken e f t) = let z = ap code_of e in inl (omega arith)
  opening_code (too_many e f) = inr (inl (ap code_of e))

  closing_code : {r : Refusal} → Unclosed language st bytes r → SignCode (code_of r)
  unfolding SignCode code_of
  closing_code (Unclosed.is_malformed e n) = let z = ap code_of e in inl (omega arith)
  closing_code (not_innermost e f n) = inr (inr (ap code_of e))

  -- ---- an ordinary line

  module _ {past : List Bytes} (D : Derived language start past st) (m : Limits) (b : ℕ) where
    -- one with such an indicator or name is refused with its code
    indicator_stops : IndicatorFault language st bytes → check_line language st m bytes b ≡ stop unknown_name b
    indicator_stops x = unread_stops language st m bytes b (indicator_unread language st m.limit bytes (distinct_names D) x)

    faulty_stops : (n : NameRefusal) → Faulty n → check_line language st m bytes b ≡ stop (refusal_for n) b
    faulty_stops n (inl (e, x)) = subst (λ i. check_line language st m bytes b ≡ stop (refusal_for i) b) e (indicator_stops x)
    faulty_stops n (inr x) = name_stops language st bytes D m b n x

    -- and with the code of a name it has that fault
    fault_shown_lem : {r : Refusal} {b' : ℕ} → check_line language st m bytes b ≡ stop r b' → (n : NameRefusal) → code_of r ≡ code_of (refusal_for n) → Faulty n
    unfolding code_of
    fault_shown_lem {r} f n c = let (low, out) = name_code n in go low out (unread_by_code language st D m bytes b f (subst (λ x. (x < 7) ⊎ (12 < x)) (sym c) out))
      where
        not_ten : {x : ℕ} → (x < 7) ⊎ (12 < x) → x ≡ 10 → ⊥
        not_ten (inl h) e = omega arith
        not_ten (inr h) e = omega arith

        go : 4 < code_of (refusal_for n) → (code_of (refusal_for n) < 7) ⊎ (12 < code_of (refusal_for n)) → Unread language st m.limit bytes r → Faulty n
        go low out (is_malformed e h) = let z : code_of r ≡ 3 = ap code_of e in absurd (omega (arith, c))
        go low out (is_taken e w t) = let z : code_of r ≡ 4 = ap code_of e in absurd (omega (arith, c))
        go low out (no_indicator e x) = inl (names_apart unknown n (ap code_of (sym e) ∙ c), x)
        go low out (no_name k e x) = inr (subst (λ i. FirstName language st bytes (FaultFor i)) (names_apart k n (ap code_of e ∙ c)) x)
        go low out (is_large e) = absurd (not_ten out (sym c ∙ ap code_of e))

  -- ---- what is said of a piece

  said : {k code passed : ℕ} → ((n : NameRefusal) → ((code ≡ code_of (refusal_for n)) × (passed ≡ k)) ↔ Faulty n) → ByItsNames language k st bytes code passed
  unfolding code_of
  said {k} {code} {passed} h =
      record {
        is_unknown = (λ z. indicator_or_name ((h unknown).0 z), λ x. (h unknown).1 (known_as x));
        is_not_in_context = (λ z. its_name out_of_context (omega arith) ((h out_of_context).0 z), λ x. (h out_of_context).1 (inr x));
        is_miscounted = (λ z. its_name miscounted (omega arith) ((h miscounted).0 z), λ x. (h miscounted).1 (inr x));
      }
    where
      indicator_or_name : Faulty unknown → IndicatorFault language st bytes ⊎ FirstName language st bytes Unknown
      indicator_or_name (inl (e, x)) = inl x
      indicator_or_name (inr x) = inr x

      known_as : IndicatorFault language st bytes ⊎ FirstName language st bytes Unknown → Faulty unknown
      known_as (inl x) = inl (refl, x)
      known_as (inr x) = inr x

      its_name : (n : NameRefusal) → code_of unknown_name < code_of (refusal_for n) → Faulty n → FirstName language st bytes (FaultFor n)
      its_name n l (inl (e, x)) = let z : code_of unknown_name ≡ code_of (refusal_for n) = ap (λ i. code_of (refusal_for i)) e in absurd (omega arith)
      its_name n l (inr x) = x

  module _ {past : List Bytes} (D : Derived language start past st) (m : Limits) (b : ℕ) where
    -- the piece at which a book is refused
    pub refused_by_names : {r : Refusal} {b' : ℕ} → check_piece language st m bytes b ≡ stop r b' → (k : ℕ) → ByItsNames language k st bytes (code_of r) k
    refused_by_names {r} {b'} h k = said (λ n. (λ z. shown n (piece_stopped language st m bytes b h) z.0, λ x. (seen n (piece_stopped language st m bytes b h) x, refl)))
      where
        shown : (n : NameRefusal) → StoppedBy language st m bytes b r b' → code_of r ≡ code_of (refusal_for n) → Faulty n
        shown n (opening_stopped e i) c = absurd (name_not_sign n (subst SignCode c (opening_code (unopened language st bytes b i))))
        shown n (closing_stopped e f i) c = absurd (name_not_sign n (subst SignCode c (closing_code (unclosed language st bytes b i))))
        shown n (line_stopped e f i) c = fault_shown_lem D m b i n c

        seen : (n : NameRefusal) → StoppedBy language st m bytes b r b' → Faulty n → code_of r ≡ code_of (refusal_for n)
        seen n (opening_stopped e i) x = absurd (faulty_ordinary plus e x)
        seen n (closing_stopped e f i) x = absurd (faulty_ordinary minus f x)
        seen n (line_stopped e f i) x = ap code_of (stop_reason (sym i ∙ faulty_stops D m b n x))

    -- a piece that passed
    pub passed_by_names : {p : PassedPiece} {b' : ℕ} → check_piece language st m bytes b ≡ done p b' → (k code passed : ℕ) → k < passed → ByItsNames language k st bytes code passed
    passed_by_names h k code passed l = said (λ n. (λ z. (let e = z.1 in absurd (omega arith)), λ x. absurd (right n (piece_passed language st m bytes b h) x)))
      where
        right : {p : PassedPiece} {b' : ℕ} (n : NameRefusal) → PassedBy language st m bytes b p b' → ¬ Faulty n
        right n (opening_passed e i) x = faulty_ordinary plus e x
        right n (closing_passed e f i) x = faulty_ordinary minus f x
        right n (line_passed e f i) x = stop≢done (sym (faulty_stops D m b n x) ∙ i)
