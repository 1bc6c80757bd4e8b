-- The lines read back from the pages of a book of well-formed lines, padding included: without spaces they are the book's, and they mean
-- the same.
use Rattle.std.specs.Prelude.{◌≡◌, refl, ℕ, suc, ◌≤◌, Bool, true, false, List, [], ◌∷◌, ◌++◌, map, eqb}
use Rattle.std.proofs.Math.Path.{ap, sym}
use Rattle.std.proofs.Common.{◌∙◌, subst, arith, eqb-true}
use Rattle.std.proofs.Math.Option.{Option}
use Rattle.std.proofs.Math.ListN.{length, replicate, length-append}
use Rattle.std.proofs.lemmas.Bool.{eqb-false}
use Rattle.aut68.specs.Language.{Language}
use Rattle.aut68.specs.Sizes.{name_limit}
use Rattle.aut68.specs.Bytes.{Bytes, lines, joined}
use Rattle.aut68.specs.Source.{Used, SourceLine}
use Rattle.aut68.specs.Lines.{Line}
use Rattle.aut68.specs.Paragraphs.{State, start}
use Rattle.aut68.specs.Rules.Grammar.{IndicatorForm, empty, indicator, WellFormed, line, SignLine, sign_line, IsSign, plus, minus}
use Rattle.aut68.specs.Rules.Derivation.{Derivation, Piece, Derived, no_more}
use Rattle.aut68.specs.Rules.Derivation as D
use Rattle.aut68.specs.Pages.{without, text_of, begins_signed, pages, read_back, without_spaces}
use Rattle.lookup.specs.Lists.{Each}
use Rattle.reading.specs.Lengths.{one_length, name_length, used_length}
use Rattle.reading.specs.Pieces.{end, byte, Closed, Pieces, nothing, next, lines_of_pieces}
use Rattle.reading.specs.Closing.{in_line, Unsigned, well_formed_unsigned, well_formed_closed, sign_closed}
use Rattle.paging.specs.Without.{without_append, without_replicate, text_space, text_byte_lem, text_without, closed_text}
use Rattle.paging.specs.SameReading.{padded, padded_reading, padded_sign, sign_text}
use Rattle.paging.specs.PagesReadBack.{NoSign, Printable, ordinary, paragraph, padding, padded_line, pages_read_back}

-- ---- texts

-- of an ordinary line: no sign
no_sign_text : {bs : Bytes} → Unsigned bs → NoSign (text_of bs)
unfolding text_of without
no_sign_text end = tt
no_sign_text (byte {b} {w} h c) = go (eqb b 32) refl (no_sign_text c)
  where
    go : (t : Bool) → eqb b 32 ≡ t → NoSign (text_of w) → NoSign (text_of (b ∷ w))
    go true e n = subst (λ (x : ℕ). NoSign (text_of (x ∷ w))) (sym (eqb-true b 32 e)) (subst NoSign (sym (text_space w)) n)
    go false e n =
        let (x, y, z) = in_line b h in
        subst NoSign (sym (text_byte_lem w (eqb-false b 32 e) x)) ((y, z), n)

-- of a paragraph line: a sign, and one row
sign_printable : {sign : ℕ} {p l : Bytes} → IsSign sign → text_of l ≡ sign ∷ p → length p ≤ name_limit → Printable l
unfolding begins_signed
sign_printable {sign} {p} i e h =
    let n : length (text_of _) ≡ suc (length p) = ap (λ (x : Bytes). length x) e in
    paragraph (ap begins_signed e ∙ begins i) (omega (arith, n))
  where
    begins : {sign : ℕ} → IsSign sign → begins_signed (sign ∷ p) ≡ true
    begins plus = refl
    begins minus = refl

module _ (language : Language) where
  -- ---- well-formed lines

  -- a well-formed line, ordinary or paragraph line
  pub data HasForm (bytes : Bytes) : Type 0 where
    as_line : {s : SourceLine} → WellFormed language s bytes → HasForm bytes
    as_sign : {sign : ℕ} {p : Bytes} → IsSign sign → SignLine language sign p bytes → HasForm bytes

  indicator_shorter : {o : Option Used} {a b : Bytes} → IndicatorForm language o a b → length b ≤ length a
  indicator_shorter empty = omega arith
  indicator_shorter (indicator n) = let h = used_length language n in omega arith

  line_length : {s : SourceLine} {bytes : Bytes} → WellFormed language s bytes → 2 ≤ length bytes
  line_length (line i t n u v x y z w) =
      let h = indicator_shorter i in
      let k = one_length t in
      let l = name_length language n u in
      omega arith

  -- it can be read back
  form_printable : (l : Bytes) → HasForm l → Printable l
  unfolding padded
  form_printable l (as_line {s} w) =
      let h : 2 ≤ length (text_of l ++ (10 ∷ [])) = line_length (padded_reading language s l 0 w) in
      ordinary (omega (arith, h, length-append (text_of l) (10 ∷ []))) (no_sign_text (well_formed_unsigned language w))
  form_printable l (as_sign i f) = sign_printable i (sign_text language i f) (name_short f)
    where
      name_short : {sign : ℕ} {p a : Bytes} → SignLine language sign p a → length p ≤ name_limit
      name_short (sign_line s n t w) = n.at_most

  form_closed : {l : Bytes} → HasForm l → Closed l
  form_closed (as_line w) = well_formed_closed language w
  form_closed (as_sign i f) = sign_closed language i f

  form_back : (l : Bytes) → HasForm l → HasForm (padded_line l)
  unfolding padded_line
  form_back l (as_line {s} w) = as_line (padded_reading language s l (padding (text_of l)) w)
  form_back l (as_sign i f) = as_sign i (padded_sign language (padding (text_of l)) i f)

  -- A book of well-formed lines, each changed to one, is cut into these.
  pub cut_again : (f : Bytes → Bytes) → ((l : Bytes) → HasForm l → HasForm (f l)) → (ls : List Bytes) → Each HasForm ls → lines (joined (map f ls)) ≡ map f ls
  cut_again f k ls h = lines_of_pieces (pieces ls h)
    where
      pieces : (ls : List Bytes) → Each HasForm ls → Pieces (map f ls)
      pieces [] h = nothing
      pieces (l ∷ ls) h = next (form_closed (k l h.0)) (pieces ls h.1)

  forms_printable : (ls : List Bytes) → Each HasForm ls → Each Printable ls
  forms_printable [] h = tt
  forms_printable (l ∷ ls) h = (form_printable l h.0, forms_printable ls h.1)

  -- what is read back, padding included
  well_formed_back : (book : Bytes) → Each HasForm (lines book) → read_back (pages book) ≡ map padded_line (lines book)
  well_formed_back book h = pages_read_back book (forms_printable (lines book) h)

  -- ---- without spaces

  back_without : {l : Bytes} → Closed l → without 32 (padded_line l) ≡ without 32 l
  unfolding padded_line padded without
  back_without {l} c =
      let n = padding (text_of l) in
      let pad : Bytes = replicate n 32 in
      without_append 32 (text_of l) (pad ++ (10 ∷ []))
      ∙ (ap (λ (x : Bytes). x ++ without 32 (pad ++ (10 ∷ []))) (text_without l)
      ∙ (ap (λ (x : Bytes). text_of l ++ x) (without_append 32 pad (10 ∷ []) ∙ ap (λ (x : Bytes). x ++ (10 ∷ [])) (without_replicate 32 n))
      ∙ sym (closed_text c)))

  backs_without : (ls : List Bytes) → Each HasForm ls → without_spaces (map padded_line ls) ≡ without_spaces ls
  backs_without [] h = refl
  backs_without (l ∷ ls) h = λ i. back_without (form_closed h.0) i ∷ backs_without ls h.1 i

  -- without byte 32 the lines read back are the lines of the book
  pub spaces_dropped_back : (book : Bytes) → Each HasForm (lines book) → without_spaces (read_back (pages book)) ≡ without_spaces (lines book)
  spaces_dropped_back book h = ap without_spaces (well_formed_back book h) ∙ backs_without (lines book) h

  -- ---- derivations

  piece_form : {st next : State} {bytes : Bytes} → Piece language st bytes next → HasForm bytes
  piece_form (D.line d) = as_line d.form
  piece_form (D.opened f u) = as_sign plus f
  piece_form (D.closed f e) = as_sign minus f

  derived_forms : {st all : State} {pieces : List Bytes} → Derived language st pieces all → Each HasForm pieces
  derived_forms no_more = tt
  derived_forms (D.piece d h) = (piece_form d, derived_forms h)

  back_derivation : {st : State} {bytes : Bytes} {l : Line} → Derivation language st bytes l → Derivation language st (padded_line bytes) l
  unfolding padded_line
  back_derivation {bytes} d =
      record {
        source = d.source;
        form = padded_reading language d.source bytes (padding (text_of bytes)) d.form;
        identifier_is = d.identifier_is;
        paragraph_is = d.paragraph_is;
        indicator_is = d.indicator_is;
        context_is = d.context_is;
        unused = d.unused;
        middle_is = d.middle_is;
        category_is = d.category_is;
        written_fits = d.written_fits;
        middle_fits = d.middle_fits;
      }

  back_piece : {st next : State} {bytes : Bytes} → Piece language st bytes next → Piece language st (padded_line bytes) next
  unfolding padded_line
  back_piece (D.line d) = D.line (back_derivation d)
  back_piece {bytes} (D.opened f u) = D.opened (padded_sign language (padding (text_of bytes)) plus f) u
  back_piece {bytes} (D.closed f e) = D.closed (padded_sign language (padding (text_of bytes)) minus f) e

  back_derived : {st all : State} {pieces : List Bytes} → Derived language st pieces all → Derived language st (map padded_line pieces) all
  back_derived no_more = no_more
  back_derived (D.piece d h) = D.piece (back_piece d) (back_derived h)

  -- the lines read back have derivations, with the same meanings
  pub derived_read_back : (book : Bytes) (st : State) → Derived language start (lines book) st → Derived language start (lines (joined (read_back (pages book)))) st
  derived_read_back book st h =
      let e = ap (λ (x : List Bytes). lines (joined x)) (well_formed_back book (derived_forms h)) ∙ cut_again padded_line form_back (lines book) (derived_forms h) in
      subst (λ (x : List Bytes). Derived language start x st) (sym e) (back_derived h)
