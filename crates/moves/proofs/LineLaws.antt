-- A paragraph line whose name was read: it passes, and the note follows it, or it is refused.
use mathlib.Core.Path.{◌≡◌, refl, sym, ap, ◌∙◌, subst}
use mathlib.Core.Bool.{Bool, true, false, not, false≢true}
use mathlib.Core.List.{List, [], ◌∷◌}
use Prim.Native.Nat.{ℕ, ◌+◌, ◌-◌, ◌/◌, ◌≤◌, ◌<◌}
use native.Mathlib.Omega.{arith}
use lib.ListN.{length, take, drop}
use lib.Seq.{length-slice}
use borrow.Author.Tests.{not-true, not-false, lt-ltb, le-ltb}
use Rattle.aut68.specs.Language.{Language, aut68}
use Rattle.aut68.specs.Sizes.{book_limit, name_limit, open_limit}
use Rattle.aut68.specs.Bytes.{Bytes}
use Rattle.aut68.specs.Lines.{part_of}
use Rattle.aut68.specs.Paragraphs.{Opened, Place, State, with_place, opening, closed_to}
use Rattle.aut68.specs.Procedure.Answer.{done, code_of, duplicate, out_of_space, unbalanced}
use Rattle.aut68.specs.Procedure.Parse.{signed}
use Rattle.aut68.specs.Procedure.Lookup.{unused}
use Rattle.aut68.specs.Procedure.CheckPiece.{check_opening}
use Rattle.aut68.specs.Rules.Grammar.{IsName, SignLine, sign_line}
use Rattle.aut68.specs.Rules.Derivation.{Piece}
use Rattle.cells.specs.Cells.{Outside}
use Rattle.cells.specs.Stores.{outside_same, outside_below}
use Rattle.lookup.specs.Answers.{done_then, stop_then}
use Rattle.lookup.specs.DerivedBooks.{piece_distinct}
use Rattle.lookup.specs.Places.{piece_place}
use Rattle.reading.specs.Signs.{sign_sound}
use Rattle.reading.specs.PieceStages.{check_opening_lem, check_closing_lem, opening_piece, closing_piece}
use Rattle.walks.specs.Walk.{name_read, title_of}
use Rattle.names.specs.HintLaws.{slots_half, hinted_same}
use Rattle.names.proofs.PartLaws.{part_whole, part_lent}
use Rattle.notes.specs.Note.{StandsAt, note_end}
use Rattle.paragraphs.specs.Posts.{TakenTold}
use Rattle.noting.specs.Posts.{Holds, PlaceStands, OpeningPost, ClosingPost}
use Rattle.moves.specs.declared.Open.{Open}
use Rattle.moves.specs.Posts.{OpenNamed, OneOpened, innermost_is, InnermostTold, NameAhead, MovedResult, moved, refused, NamePost}
use Rattle.moves.proofs.TitleLaws.{named_outer}
use Rattle.moves.proofs.CheckLaws.{minus_not_plus, opening_taken, opening_deep, opening_passes, closing_another, closing_passes}

name_of : {language : Language} {sign : ℕ} {p bytes : Bytes} → SignLine language sign p bytes → IsName language p
name_of (sign_line s n t w) = n

module _ {sign : ℕ} {ks book tb : List ℕ} {n : ℕ} {w : List ℕ} {start len at next k : ℕ} {o : Open} {st : State} {bytes : Bytes}
    (a : NameAhead sign ks book tb n w start len at next k o st bytes) where
  holds : Holds (length w)
  holds = record { whole = omega (arith, a.ahead.size, a.ahead.large); small = omega (arith, a.ahead.size, a.ahead.small) }

  here : PlaceStands book st.place w at
  here = record { place = a.ahead.stands.noted.place; walks = a.ahead.stands.walks }

  depth_is_lem : o.depth ≡ length st.place.opened
  depth_is_lem = a.ahead.named.depth_is

  few : length st.place.opened ≤ open_limit
  few = a.ahead.stands.noted.place.few

  is_signed : signed sign bytes ≡ true
  is_signed = subst (λ (s : ℕ). signed s bytes ≡ true) a.sign_is a.ahead.signs

  is_name : IsName aut68 (part_of book start len)
  is_name = name_of (sign_sound aut68 sign bytes a.read)

  -- the new place, with the lines as they were
  stands_moved : {place : Place} {w' : List ℕ} → Piece aut68 st bytes (with_place st place) → Outside (length w / 2 + 1) (note_end (length w)) w w' → PlaceStands book place w' next
      → StandsAt (with_place st place) book tb n w' next
  stands_moved p kept s =
      record {
        noted = record {
          hinted = hinted_same (length w / 2 + 1) (omega (arith, slots_half (length w))) kept.long (outside_below {n = length w / 2 + 1} (omega arith) kept) a.ahead.stands.noted.hinted;
          place = s.place;
          right = piece_place p a.ahead.stands.noted.right;
          distinct = piece_distinct p a.ahead.stands.noted.distinct;
        };
        walks = s.walks;
      }

  module _ (fits : start + len ≤ length book) where
    -- the word that is looked up
    word_is : take (start + len - start) (drop start book) ≡ part_of book start len
    word_is = part_lent book start len fits

    word_long : 1 ≤ length (take (start + len - start) (drop start book))
    word_long = omega (arith, ap length word_is, is_name.at_least)

    short : len ≤ name_limit
    short = omega (arith, ap length (part_whole book start len fits), length-slice start (start + len) book fits, is_name.at_most)

-- ---- an opening

module _ {ks book tb : List ℕ} {n : ℕ} {w : List ℕ} {start len at next k : ℕ} {o : Open} {st : State} {bytes : Bytes}
    (a : NameAhead 43 ks book tb n w start len at next k o st bytes) (fits : start + len ≤ length book)
    {t : Bool} (told : TakenTold ks book tb n w (take (start + len - start) (drop start book)) t) where
  unused_is : {s : Bool} → t ≡ s → not (unused (part_of book start len) st) ≡ s
  unused_is e =
      sym (told.is st a.ahead.kinds a.ahead.known a.ahead.stands.noted (word_long a fits) ∙ ap (λ (p : Bytes). not (unused p st)) (word_is a fits)) ∙ e

  line_taken : {w' : List ℕ} {o' : Open} → t ≡ true → MovedResult book tb n w' next st bytes (code_of duplicate) o'
  line_taken e =
      refused {r = duplicate} (λ m c. check_opening_lem aut68 st m bytes c (is_signed a) ∙ stop_then _ (opening_taken st bytes c a.read (not-true _ (unused_is e)))) refl

  module _ (e : t ≡ false) where
    line_deep : {w' : List ℕ} {o' : Open} → open_limit ≤ o.depth → MovedResult book tb n w' next st bytes (code_of out_of_space) o'
    line_deep d =
        refused {r = out_of_space}
        (λ m c.
        check_opening_lem aut68 st m bytes c (is_signed a)
        ∙ stop_then _ (opening_deep st bytes c a.read (not-false _ (unused_is e)) (le-ltb (length st.place.opened) open_limit (omega (arith, depth_is_lem a)))))
        refl

    passes : o.depth < open_limit → (c : ℕ) → check_opening aut68 st bytes c ≡ done (opening (part_of book start len) st.place) c
    passes d c = opening_passes st bytes c a.read (not-false _ (unused_is e)) (lt-ltb (length st.place.opened) open_limit (omega (arith, depth_is_lem a)))

    line_opened : {w' : List ℕ} {o' : Open} → o.depth < open_limit → OpeningPost book start len o.depth next w w' → OneOpened o start len o'
        → MovedResult book tb n w' next st bytes 0 o'
    unfolding opening title_of name_read
    line_opened d p q =
        moved {place = opening (part_of book start len) st.place}
        (λ m c. check_opening_lem aut68 st m bytes c (is_signed a) ∙ done_then _ (passes d c) refl) refl
        (stands_moved a (opening_piece aut68 st bytes 0 (passes d 0)) p.kept
        (p.means st.place bytes at (holds a) a.ahead.stands.noted.right (here a) (depth_is_lem a) (is_signed a) (ap name_read a.read) (short a fits) a.ahead.cut a.onward))
        (q.named _ refl a.ahead.named)

-- ---- a closing

module _ {ks book tb : List ℕ} {n : ℕ} {w : List ℕ} {start len at next k : ℕ} {o : Open} {st : State} {bytes : Bytes}
    (a : NameAhead 45 ks book tb n w start len at next k o st bytes) (fits : start + len ≤ length book)
    {t : Bool} (told : InnermostTold book o (take (start + len - start) (drop start book)) t) where
  innermost_is_lem : {s : Bool} → t ≡ s → innermost_is (part_of book start len) st.place.opened ≡ s
  innermost_is_lem e =
      sym (told.is st.place.opened a.ahead.named (few a) (word_long a fits) ∙ ap (λ (p : Bytes). innermost_is p st.place.opened) (word_is a fits)) ∙ e

  line_another : {w' : List ℕ} {o' : Open} → t ≡ false → MovedResult book tb n w' next st bytes (code_of unbalanced) o'
  line_another e =
      refused {r = unbalanced}
      (λ m c.
      check_closing_lem aut68 st m bytes c (minus_not_plus bytes (is_signed a)) (is_signed a) ∙ stop_then _ (closing_another st bytes c a.read (innermost_is_lem e)))
      refl

  line_closed : {w' : List ℕ} → t ≡ true → next ≤ length book → length book ≤ book_limit → ClosingPost book (o.depth - 1) next w w'
      → MovedResult book tb n w' next st bytes 0 (record { titles = o.titles; depth = o.depth - 1 })
  unfolding innermost_is
  line_closed {w'} e l b p = at_inner st.place.opened refl (innermost_is_lem e)
    where
      at_inner : (opened : List Opened) → st.place.opened ≡ opened → innermost_is (part_of book start len) opened ≡ true
          → MovedResult book tb n w' next st bytes 0 (record { titles = o.titles; depth = o.depth - 1 })
      at_inner [] i f = absurd (false≢true f)
      at_inner (x ∷ os) i f =
          moved {place = closed_to st.place os}
          (λ m c. check_closing_lem aut68 st m bytes c (minus_not_plus bytes (is_signed a)) (is_signed a) ∙ done_then _ (closing_passes st bytes c a.read i f) refl) refl
          (stands_moved a (closing_piece aut68 st bytes 0 (closing_passes st bytes 0 a.read i f)) p.kept
          (p.means st.place bytes at x os (holds a) a.ahead.stands.noted.right (here a) i (omega (arith, depth_is_lem a, ap length i)) (minus_not_plus bytes (is_signed a)) (is_signed a)
          a.ahead.cut a.onward l (omega arith)))
          (named_outer (subst (OpenNamed book o) i a.ahead.named))

-- ---- by the code

module _ {ks book tb : List ℕ} {n : ℕ} {w : List ℕ} (start len : ℕ) {next : ℕ} {o : Open} (fits : start + len ≤ length book) {t : Bool} where
  module _ (told : TakenTold ks book tb n w (take (start + len - start) (drop start book)) t) where
    pub name_taken : t ≡ true → NamePost 43 ks book tb n w w start len next o (code_of duplicate) o
    name_taken e = record { kept = outside_same; means = λ a. line_taken a fits told e }

    pub name_deep : t ≡ false → open_limit ≤ o.depth → NamePost 43 ks book tb n w w start len next o (code_of out_of_space) o
    name_deep e d = record { kept = outside_same; means = λ a. line_deep a fits told e d }

    pub name_opened : {w' : List ℕ} {o' : Open} → t ≡ false → o.depth < open_limit → OpeningPost book start len o.depth next w w' → OneOpened o start len o'
        → NamePost 43 ks book tb n w w' start len next o 0 o'
    name_opened e d p q = record { kept = p.kept; means = λ a. line_opened a fits told e d p q }

  module _ (told : InnermostTold book o (take (start + len - start) (drop start book)) t) where
    pub name_another : t ≡ false → NamePost 45 ks book tb n w w start len next o (code_of unbalanced) o
    name_another e = record { kept = outside_same; means = λ a. line_another a fits told e }

    pub name_closed : {w' : List ℕ} → t ≡ true → next ≤ length book → length book ≤ book_limit → ClosingPost book (o.depth - 1) next w w'
        → NamePost 45 ks book tb n w w' start len next o 0 (record { titles = o.titles; depth = o.depth - 1 })
    name_closed e l b p = record { kept = p.kept; means = λ a. line_closed a fits told e l b p }
