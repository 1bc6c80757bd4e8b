-- The check of a piece by its kind, which the first byte behind its spaces decides; and how a paragraph line passes or is refused.
use Rattle.std.specs.Prelude.{◌≡◌, refl, ℕ, Bool, true, false, length, ltb}
use Rattle.std.proofs.Common.{ap, sym, ◌∙◌, subst₂, true≢false}
use Rattle.std.proofs.Math.Path.{subst}
use mathlib.Core.List.{List, [], ◌∷◌, cons≢nil}
use Rattle.aut68.specs.Language.{Language}
use Rattle.aut68.specs.Sizes.{open_limit}
use Rattle.aut68.specs.Stores.{Limits}
use Rattle.aut68.specs.Bytes.{Bytes, same_bytes}
use Rattle.aut68.specs.Lines.{Line}
use Rattle.aut68.specs.Paragraphs.{Opened, Place, State, with_place, closed_to}
use Rattle.aut68.specs.Procedure.Answer.{Act, Answer, give, refuse, done, stop, and_then, Refusal, malformed, duplicate, out_of_space, unbalanced}
use Rattle.aut68.specs.Procedure.Parse.{a_sign_line, signed}
use Rattle.aut68.specs.Procedure.Lookup.{unused}
use Rattle.aut68.specs.Procedure.CheckLine.{Passed, check_line}
use Rattle.aut68.specs.Procedure.CheckPiece.{check_opening, closing, check_closing, PassedPiece, passed_line, moved_to, check_piece}
use Rattle.aut68.specs.Rules.Grammar.{SignLine, IsSign, plus, minus}
use Rattle.aut68.specs.Rules.Names.{Unused}
use Rattle.aut68.specs.Rules.Derivation.{Derivation, Piece, line, opened, closed}
use Rattle.lookup.specs.Answers.{stop≢done, done_value, done_rest, Judged, is_done, is_stop, judged_done, judged_stop, after, stopped, ensure_done, ensure_stop, aside_done, aside_stop}
use Rattle.lookup.specs.SameBytes.{same_true, same_false}
use Rattle.lookup.specs.Identifiers.{Taken, unused_sound, unused_taken}
use Rattle.reading.specs.Stops.{sign_stops}
use Rattle.reading.specs.PieceKinds.{PieceKind, an_opening, a_closing, ordinary, neither, kind_of, opening_checked, closing_checked, ordinary_checked}
use Rattle.reading.specs.Signs.{sign_sound, sign_complete, sign_starts, sign_signed, ordinary_starts}

-- ---- the three kinds

module _ (language : Language) (st : State) (m : Limits) (bytes : Bytes) (b : ℕ) where
  -- a piece that passed
  pub data PassedBy : PassedPiece → ℕ → Type 0 where
    opening_passed : {at : Place} {b' : ℕ} → signed 43 bytes ≡ true → check_opening language st bytes b ≡ done at b' → PassedBy (moved_to at) b'
    closing_passed : {at : Place} {b' : ℕ} → signed 43 bytes ≡ false → signed 45 bytes ≡ true → check_closing language st bytes b ≡ done at b' → PassedBy (moved_to at) b'
    line_passed : {p : Passed} {b' : ℕ} → signed 43 bytes ≡ false → signed 45 bytes ≡ false → check_line language st m bytes b ≡ done p b' → PassedBy (passed_line p) b'

  -- one that was refused
  pub data StoppedBy (r : Refusal) (b' : ℕ) : Type 0 where
    opening_stopped : signed 43 bytes ≡ true → check_opening language st bytes b ≡ stop r b' → StoppedBy r b'
    closing_stopped : signed 43 bytes ≡ false → signed 45 bytes ≡ true → check_closing language st bytes b ≡ stop r b' → StoppedBy r b'
    line_stopped : signed 43 bytes ≡ false → signed 45 bytes ≡ false → check_line language st m bytes b ≡ stop r b' → StoppedBy r b'

  pub check_opening_lem : signed 43 bytes ≡ true → check_piece language st m bytes b ≡ and_then (λ at s. done (moved_to at) s) (check_opening language st bytes b)
  check_opening_lem e = ap (λ f. f b) (opening_checked language st m bytes e)

  pub check_closing_lem : signed 43 bytes ≡ false → signed 45 bytes ≡ true → check_piece language st m bytes b ≡ and_then (λ at s. done (moved_to at) s) (check_closing language st bytes b)
  check_closing_lem e f = ap (λ f. f b) (closing_checked language st m bytes e f)

  pub check_line_lem : signed 43 bytes ≡ false → signed 45 bytes ≡ false → check_piece language st m bytes b ≡ and_then (λ p s. done (passed_line p) s) (check_line language st m bytes b)
  check_line_lem e f = ap (λ f. f b) (ordinary_checked language st m bytes (neither bytes e f))

  pub piece_passed : {p : PassedPiece} {b' : ℕ} → check_piece language st m bytes b ≡ done p b' → PassedBy p b'
  piece_passed {p} {b'} h = go (kind_of bytes)
    where
      go : PieceKind bytes → PassedBy p b'
      go (an_opening e) = after _ _ (sym (check_opening_lem e) ∙ h) λ at c i j. subst₂ PassedBy (done_value j) (done_rest j) (opening_passed e i)
      go (a_closing e f) = after _ _ (sym (check_closing_lem e f) ∙ h) λ at c i j. subst₂ PassedBy (done_value j) (done_rest j) (closing_passed e f i)
      go (ordinary n) = after _ _ (sym (check_line_lem (n 43 plus) (n 45 minus)) ∙ h) λ q c i j. subst₂ PassedBy (done_value j) (done_rest j) (line_passed (n 43 plus) (n 45 minus) i)

  pub piece_stopped : {r : Refusal} {b' : ℕ} → check_piece language st m bytes b ≡ stop r b' → StoppedBy r b'
  piece_stopped {r} {b'} h = go (kind_of bytes)
    where
      go : PieceKind bytes → StoppedBy r b'
      go (an_opening e) = stopped _ _ (sym (check_opening_lem e) ∙ h) (λ i. opening_stopped e i) λ at c i j. absurd (stop≢done (sym j))
      go (a_closing e f) = stopped _ _ (sym (check_closing_lem e f) ∙ h) (λ i. closing_stopped e f i) λ at c i j. absurd (stop≢done (sym j))
      go (ordinary n) = stopped _ _ (sym (check_line_lem (n 43 plus) (n 45 minus)) ∙ h) (λ i. line_stopped (n 43 plus) (n 45 minus) i) λ q c i j. absurd (stop≢done (sym j))

-- ---- paragraph lines

-- The paragraph p is the innermost open one, numbered n, and stands in os.
abbrev pub Closes : Place → Bytes → ℕ → List Opened → Type 0
Closes at p n os = at.opened ≡ record { name = p; number = n } ∷ os

-- what closing p may answer
abbrev ClosingAnswer : Place → Bytes → Answer ℕ Place → Type 0
ClosingAnswer at p =
    Judged (λ next. (n : ℕ) × (os : List Opened) × Closes at p n os × (closed_to at os ≡ next)) (λ r. (r ≡ unbalanced) × ((n : ℕ) (os : List Opened) → ¬ Closes at p n os))

closing_judged : (p : Bytes) (at : Place) (b : ℕ) → ClosingAnswer at p (closing p at b)
unfolding closing
closing_judged p at b = go at.opened refl
  where
    go : (opened : List Opened) → at.opened ≡ opened
        → ClosingAnswer at p (elim opened as (λ _. Act ℕ Place) [ [] ↦ refuse unbalanced | o ∷ os ↦ elim (same_bytes p o.name) [ true ↦ give (closed_to at os) | false ↦ refuse unbalanced ] ] b)
    go [] e = is_stop (refl, λ n os f. cons≢nil (sym f ∙ e))
    go (o ∷ os) e = same (same_bytes p o.name) refl
      where
        same : (t : Bool) → same_bytes p o.name ≡ t
            → ClosingAnswer at p (elim t as (λ _. Act ℕ Place) [ true ↦ give (closed_to at os) | false ↦ refuse unbalanced ] b)
        same true q = let x = same_true p o.name q in is_done (o.number, os, e ∙ (λ i. record { name = sym x i; number = o.number } ∷ os), refl)
        same false q = is_stop (refl, λ n rest f. let g = sym e ∙ f in let z : p ≡ o.name = cc in same_false p o.name q z)

module _ (language : Language) (st : State) (bytes : Bytes) where
  -- one that passes has a derivation
  pub opening_piece : (b : ℕ) {at : Place} {b' : ℕ} → check_opening language st bytes b ≡ done at b' → Piece language st bytes (with_place st at)
  unfolding check_opening
  opening_piece b {at} h =
      after _ _ h λ p b₁ e₁ h₁.
      after _ _ h₁ λ u₂ b₂ e₂ h₂.
      after _ _ h₂ λ u₃ b₃ e₃ h₃.
      aside_done (a_sign_line language 43 bytes) e₁ λ rest f₁ q₁.
      ensure_done (unused p st) duplicate e₂ λ f₂ q₂.
      subst (λ z. Piece language st bytes (with_place st z)) (done_value h₃) (opened (sign_sound language 43 bytes f₁) (unused_sound f₂))

  pub closing_piece : (b : ℕ) {at : Place} {b' : ℕ} → check_closing language st bytes b ≡ done at b' → Piece language st bytes (with_place st at)
  unfolding check_closing
  closing_piece b {at} h =
      after _ _ h λ p b₁ e₁ h₁.
      aside_done (a_sign_line language 45 bytes) e₁ λ rest f₁ q₁.
      let (n, os, e, q) = judged_done (closing_judged p st.place b₁) h₁ in
      subst (λ z. Piece language st bytes (with_place st z)) q (closed (sign_sound language 45 bytes f₁) e)

  -- Why an opening is refused: its form, a name that is taken, or 32 open paragraphs.
  pub data Unopened (r : Refusal) : Type 0 where
    is_malformed : r ≡ malformed → ((p : Bytes) → ¬ SignLine language 43 p bytes) → Unopened r
    is_taken : {p : Bytes} → r ≡ duplicate → SignLine language 43 p bytes → Taken st p → Unopened r
    too_many : {p : Bytes} → r ≡ out_of_space → SignLine language 43 p bytes → Unopened r

  -- Why a closing is refused: its form, or it names another than the innermost open paragraph.
  pub data Unclosed (r : Refusal) : Type 0 where
    is_malformed : r ≡ malformed → ((p : Bytes) → ¬ SignLine language 45 p bytes) → Unclosed r
    not_innermost : {p : Bytes} → r ≡ unbalanced → SignLine language 45 p bytes → ((n : ℕ) (os : List Opened) → ¬ Closes st.place p n os) → Unclosed r

  unread : {sign : ℕ} → IsSign sign → {r : Refusal} {rest : Bytes} → a_sign_line language sign bytes ≡ stop r rest → (p : Bytes) → ¬ SignLine language sign p bytes
  unread i g p f = stop≢done (sym g ∙ sign_complete language i f)

  pub unopened : (b : ℕ) {r : Refusal} {b' : ℕ} → check_opening language st bytes b ≡ stop r b' → Unopened r
  unfolding check_opening
  unopened b h =
      stopped _ _ h (λ e. aside_stop (a_sign_line language 43 bytes) e λ rest g q. is_malformed (sign_stops language 43 bytes g) (unread plus g)) λ p b₁ e₁ h₁.
      aside_done (a_sign_line language 43 bytes) e₁ λ rest f₁ q₁.
      let s = sign_sound language 43 bytes f₁ in
      stopped _ _ h₁ (λ e. ensure_stop (unused p st) duplicate e λ g t q. is_taken (sym t) s (unused_taken g)) λ u₂ b₂ e₂ h₂.
      stopped _ _ h₂ (λ e. ensure_stop (ltb (length st.place.opened) open_limit) out_of_space e λ g t q. too_many (sym t) s) λ u₃ b₃ e₃ h₃.
      absurd (stop≢done (sym h₃))

  pub unclosed : (b : ℕ) {r : Refusal} {b' : ℕ} → check_closing language st bytes b ≡ stop r b' → Unclosed r
  unfolding check_closing
  unclosed b h =
      stopped _ _ h (λ e. aside_stop (a_sign_line language 45 bytes) e λ rest g q. is_malformed (sign_stops language 45 bytes g) (unread minus g)) λ p b₁ e₁ h₁.
      aside_done (a_sign_line language 45 bytes) e₁ λ rest f₁ q₁.
      let (e, n) = judged_stop (closing_judged p st.place b₁) h₁ in
      not_innermost e (sign_sound language 45 bytes f₁) n

  -- ---- the derivation of a piece, by its first byte

  pub plus_opens : signed 43 bytes ≡ true → {next : State} → Piece language st bytes next → (p : Bytes) × SignLine language 43 p bytes × Unused st p
  plus_opens e (line d) = absurd (true≢false (sym e ∙ ordinary_starts language plus d.form))
  plus_opens e (opened {p} f u) = (p, f, u)
  plus_opens e (closed f q) = absurd (true≢false (sym e ∙ sign_starts language 43 minus f))

  pub minus_closes : signed 45 bytes ≡ true → {next : State} → Piece language st bytes next → (p : Bytes) × (n : ℕ) × (os : List Opened) × SignLine language 45 p bytes × Closes st.place p n os
  minus_closes e (line d) = absurd (true≢false (sym e ∙ ordinary_starts language minus d.form))
  minus_closes e (opened f u) = absurd (true≢false (sym e ∙ sign_starts language 45 plus f))
  minus_closes e (closed {p} {n} {os} f q) = (p, n, os, f, q)

  pub neither_line : signed 43 bytes ≡ false → signed 45 bytes ≡ false → {next : State} → Piece language st bytes next → (l : Line) × Derivation language st bytes l
  neither_line e f (line {l} d) = (l, d)
  neither_line e f (opened g u) = absurd (true≢false (sym (sign_signed language plus g) ∙ e))
  neither_line e f (closed g q) = absurd (true≢false (sym (sign_signed language minus g) ∙ f))
