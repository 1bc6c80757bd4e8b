-- A piece that passes, passes without its spaces: the same steps, the same line recorded, whose identifier begins elsewhere, or the same
-- place.
use Rattle.std.specs.Prelude.{◌≡◌, Bool, true, false, [], ◌∷◌, ℕ, eqb, length}
use Rattle.std.proofs.Math.Path.{refl, ap}
use Rattle.std.proofs.Common.{◌∙◌}
use Rattle.aut68.specs.Language.{Language}
use Rattle.aut68.specs.Stores.{Limits}
use Rattle.aut68.specs.Bytes.{Bytes}
use Rattle.aut68.specs.Paragraphs.{Place, State}
use Rattle.aut68.specs.Procedure.Answer.{Act, Answer, done, stop, and_then, Refusal, aside}
use Rattle.aut68.specs.Procedure.Parse.{Placed, spaces, starts, a_line, a_sign_line, signed}
use Rattle.aut68.specs.Procedure.CheckLine.{Passed, read_line, check_line}
use Rattle.aut68.specs.Procedure.CheckPiece.{check_opening, check_closing, PassedPiece, passed_line, moved_to, check_piece}
use Rattle.aut68.specs.Rules.Grammar.{IsSign, plus, minus}
use Rattle.aut68.specs.Pages.{without}
use Rattle.aut68.specs.Printing.{SameReading}
use Rattle.lookup.specs.Answers.{done_value, done_rest, stop≢done, after, aside_done, done_then}
use Rattle.reading.specs.Sound.{parse_sound}
use Rattle.reading.specs.Whole.{parse_fits}
use Rattle.reading.specs.Signs.{sign_sound, sign_complete}
use Rattle.reading.specs.PieceStages.{PassedBy, opening_passed, closing_passed, line_passed, piece_passed, check_opening_lem, check_closing_lem, check_line_lem}
use Rattle.reading.specs.Stages.{passed_read}
use Rattle.paging.specs.SameReading.{same_reading}
use Rattle.paging.specs.PaddedLines.{HasForm, as_line, as_sign}

-- ---- answers that differ in a place

-- The second answer is the first, but for the place of the line's identifier, which is k.
data Moved {S : Type 0} (k : ℕ) : Answer S Passed → Answer S Passed → Type 0 where
  moved_done : {p : Passed} {s : S} → Moved k (done p s) (done (record { before = k; line = p.line }) s)
  moved_stop : {r : Refusal} {s : S} → Moved k (stop r s) (stop r s)

moved_then : {S A : Type 0} {k : ℕ} {f g : A → Act S Passed} (m : Answer S A) → ((a : A) (s : S) → Moved k (f a s) (g a s)) → Moved k (and_then f m) (and_then g m)
unfolding and_then
moved_then (done a s) h = h a s
moved_then (stop r s) h = moved_stop

-- after two certain answers
moved_from : {S A : Type 0} {k : ℕ} (f g : A → Act S Passed) {m n : Answer S A} {a b : A} {s t : S}
    → m ≡ done a s → n ≡ done b t → Moved k (f a s) (g b t) → Moved k (and_then f m) (and_then g n)
unfolding and_then
moved_from f g e h m = rw (e, h) m

-- an answer put aside, and what is done with the line
moved_aside : {S T : Type 0} {k : ℕ} {x y : Answer S Passed} (f : Passed → Act T Passed) (t : T) → Moved k x y
    → ((p : Passed) (s : T) → Moved k (f p s) (f (record { before = k; line = p.line }) s)) → Moved k (and_then f (aside x t)) (and_then f (aside y t))
unfolding and_then aside
moved_aside f t (moved_done {p}) h = h p t
moved_aside f t moved_stop h = moved_stop

moved_done_lem : {S : Type 0} {k : ℕ} {x y : Answer S Passed} {p : Passed} {s : S} → Moved k x y → x ≡ done p s → y ≡ done (record { before = k; line = p.line }) s
moved_done_lem {k = k} moved_done e = λ i. done (record { before = k; line = (done_value e i).line }) (done_rest e i)
moved_done_lem moved_stop e = absurd (stop≢done e)

-- ---- pieces

-- The second piece that passed is the first, but for the place of an identifier.
pub data SamePiece : PassedPiece → PassedPiece → Type 0 where
  same_line : {p : Passed} (k : ℕ) → SamePiece (passed_line p) (passed_line (record { before = k; line = p.line }))
  same_place : {at : Place} → SamePiece (moved_to at) (moved_to at)

-- The kind of a line does not hang on its spaces.
signed_without : (s : ℕ) (bytes : Bytes) → signed s (without 32 bytes) ≡ signed s bytes
unfolding signed starts spaces without
signed_without s [] = refl
signed_without s (b ∷ bytes) = go (eqb b 32) refl (signed_without s bytes)
  where
    go : (t : Bool) → eqb b 32 ≡ t → starts (eqb s) (spaces (without 32 bytes)) ≡ starts (eqb s) (spaces bytes)
        → starts (eqb s) (spaces (elim t as (λ _. Bytes) [ true ↦ without 32 bytes | false ↦ b ∷ without 32 bytes ])) ≡ starts (eqb s) (elim t as (λ _. Bytes) [ true ↦ spaces bytes | false ↦ b ∷ bytes ])
    go true e h = h
    go false e h = rw (e, spaces) refl

module _ (language : Language) (st : State) (m : Limits) where
  -- ---- ordinary lines

  -- bytes with one source
  module _ (bytes other : Bytes) {r : Placed} {k : ℕ} {rest rest' : Bytes}
      (e : a_line language (length bytes) bytes ≡ done r rest) (f : a_line language (length other) other ≡ done (record { before = k; line = r.line }) rest') where
    read_moved : (L : ℕ) → Moved k (read_line language st L bytes tt) (read_line language st L other tt)
    unfolding read_line aside
    read_moved L =
        moved_from _ _ (ap (λ x. aside x tt) e) (ap (λ x. aside x tt) f)
        (moved_then _ λ v _. moved_then _ λ _ _. moved_then _ λ m _. moved_then _ λ c _. moved_then _ λ _ _. moved_then _ λ _ _. moved_done)

    check_moved : (b : ℕ) → Moved k (check_line language st m bytes b) (check_line language st m other b)
    unfolding check_line
    check_moved b = moved_aside _ b (read_moved m.limit) (λ p s. moved_then _ λ _ _. moved_then _ λ _ _. moved_done)

  module _ (bytes : Bytes) (b : ℕ) where
    line_passes : {p : Passed} {b' : ℕ} → check_line language st m bytes b ≡ done p b'
        → HasForm language bytes × (k : ℕ) × (check_line language st m (without 32 bytes) b ≡ done (record { before = k; line = p.line }) b')
    unfolding SameReading
    line_passes h =
        let (r, rest, e) = passed_read language st m bytes b h in
        let (_, w, d) = parse_sound language (length bytes) bytes e in
        let (k, f) = parse_fits language (length (without 32 bytes)) ((same_reading language bytes).0 r.line w) d in
        (as_line w, k, moved_done_lem (check_moved bytes (without 32 bytes) e f b) h)

    -- ---- paragraph lines

    -- whatever is done with the name
    sign_passes : {sign : ℕ} → IsSign sign → (f : Bytes → Act ℕ Place) {at : Place} {b' : ℕ} → and_then f (aside (a_sign_line language sign bytes) b) ≡ done at b'
        → HasForm language bytes × (and_then f (aside (a_sign_line language sign (without 32 bytes)) b) ≡ done at b')
    unfolding SameReading aside
    sign_passes {sign} i f h =
        after _ _ h λ p b₁ e₁ h₁.
        aside_done (a_sign_line language sign bytes) e₁ λ rest g q.
        let s = sign_sound language sign bytes g in
        let k = sign_complete language i ((same_reading language bytes).1 sign p i s) in
        (as_sign i s, done_then f (ap (λ x. aside x b) k ∙ ap (done p) q) h₁)

    -- ---- any piece

    -- A piece that passed: it is well formed, and passes without its spaces.
    pub record PassesAlike (p : PassedPiece) (b' : ℕ) : Type 0 where
      pub form : HasForm language bytes
      pub piece : PassedPiece
      pub same : SamePiece p piece
      pub passes : check_piece language st m (without 32 bytes) b ≡ done piece b'

    pub passes_without : {p : PassedPiece} {b' : ℕ} → check_piece language st m bytes b ≡ done p b' → PassesAlike p b'
    unfolding check_opening check_closing
    passes_without h = at (piece_passed language st m bytes b h)
      where
        at : {p : PassedPiece} {b' : ℕ} → PassedBy language st m bytes b p b' → PassesAlike p b'
        at (opening_passed {at = place} e h) =
            let (f, o) = sign_passes plus _ h in
            record { form = f; piece = moved_to place; same = same_place; passes = check_opening_lem language st m (without 32 bytes) b (signed_without 43 bytes ∙ e) ∙ done_then _ o refl }
        at (closing_passed {at = place} e g h) =
            let (f, o) = sign_passes minus _ h in
            record {
              form = f;
              piece = moved_to place;
              same = same_place;
              passes = check_closing_lem language st m (without 32 bytes) b (signed_without 43 bytes ∙ e) (signed_without 45 bytes ∙ g) ∙ done_then _ o refl;
            }
        at (line_passed {p} e g h) =
            let (f, k, o) = line_passes h in
            record {
              form = f;
              piece = passed_line (record { before = k; line = p.line });
              same = same_line k;
              passes = check_line_lem language st m (without 32 bytes) b (signed_without 43 bytes ∙ e) (signed_without 45 bytes ∙ g) ∙ done_then _ o refl;
            }
