-- A paragraph line, and its name in the book.
use mathlib.Core.Path.{◌≡◌, refl, sym, ap, ◌∙◌}
use mathlib.Core.Logic.{◌≢◌}
use mathlib.Core.Bool.{true}
use mathlib.Core.List.{List}
use Prim.Native.Nat.{ℕ, ◌+◌, ◌-◌, ◌≤◌}
use native.Mathlib.Omega.{arith}
use lib.ListN.{length, take, drop, length-drop}
use lib.Seq.{slice, take-take, drop-drop, length-take-le}
use Rattle.aut68.specs.Language.{aut68}
use Rattle.aut68.specs.Stores.{Limits}
use Rattle.aut68.specs.Bytes.{Bytes, name_byte}
use Rattle.aut68.specs.Lines.{part_of}
use Rattle.aut68.specs.Paragraphs.{State}
use Rattle.aut68.specs.Procedure.Answer.{done, stop, code_of, malformed}
use Rattle.aut68.specs.Procedure.Parse.{a_sign_line, signed}
use Rattle.aut68.specs.Procedure.CheckPiece.{check_piece}
use Rattle.aut68.specs.Rules.Grammar.{IsSign, plus, minus}
use Rattle.cells.specs.Stores.{outside_same}
use Rattle.kinds.specs.Kinds.{kind_of, place_or0}
use Rattle.lookup.specs.Answers.{stop_then}
use Rattle.reading.specs.PieceStages.{check_opening_lem, check_closing_lem}
use Rattle.symbols.proofs.SymbolLaws.{part}
use Rattle.headings.specs.Posts.{SignRead}
use Rattle.names.proofs.PartLaws.{part_lent}
use Rattle.moves.specs.declared.Open.{Open}
use Rattle.moves.specs.Posts.{SignAhead, NameAhead, refused, NamePost, MovedPost}
use Rattle.moves.proofs.CheckLaws.{minus_not_plus, opening_malformed, closing_malformed}

-- a part of a part of the book
part_of_part : (book : Bytes) (at next start len : ℕ) → at ≤ next → next ≤ length book → start + len ≤ next - at
    → slice start (start + len) (take (next - at) (drop at book)) ≡ part_of book (at + start) len
part_of_part book at next start len l b f =
    sym (part (take (next - at) (drop at book)) start (start + len) (omega arith))
    ∙ ap (take (start + len - start)) (sym (part (drop at book) start (next - at) (omega arith)))
    ∙ take-take (start + len - start) (next - at - start) (drop start (drop at book)) (omega arith)
    ∙ (λ i. take (same i) (drop-drop start at book i))
    ∙ part_lent book (at + start) len (omega arith)
  where
    same : start + len - start ≡ at + start + len - (at + start)
    same = omega arith

-- ---- the sign by its kind

sign_minus : {sign k : ℕ} → IsSign sign → k ≡ kind_of sign → k ≡ 16 → sign ≡ 45
unfolding kind_of place_or0 name_byte
sign_minus plus e f = absurd (omega (arith, e, f))
sign_minus minus e f = refl

sign_plus : {sign k : ℕ} → IsSign sign → k ≡ kind_of sign → k ≢ 16 → sign ≡ 43
unfolding kind_of place_or0 name_byte
sign_plus plus e n = refl
sign_plus minus e n = absurd (n e)

-- ---- the line

no_name : (st : State) (m : Limits) (bytes : Bytes) (c : ℕ) {sign : ℕ} {rest : Bytes} → IsSign sign → signed sign bytes ≡ true → a_sign_line aut68 sign bytes ≡ stop malformed rest
    → check_piece aut68 st m bytes c ≡ stop malformed c
no_name st m bytes c plus s e = check_opening_lem aut68 st m bytes c s ∙ stop_then _ (opening_malformed st bytes c e)
no_name st m bytes c minus s e = check_closing_lem aut68 st m bytes c (minus_not_plus bytes s) s ∙ stop_then _ (closing_malformed st bytes c e)

module _ {ks book : Bytes} {at next k start len : ℕ} (onward : at ≤ next) (inside : next ≤ length book) (R : SignRead ks (take (next - at) (drop at book)) k start len)
    {tb : List ℕ} {n : ℕ} {w : List ℕ} {o : Open} where
  module _ {st : State} {bytes : Bytes} (h : SignAhead ks book tb n w at next k o st bytes) where
    line_is_lem : take (next - at) (drop at book) ≡ bytes
    line_is_lem = part book at next onward ∙ sym h.bytes_are

    long : length (take (next - at) (drop at book)) ≡ next - at
    long = length-take-le (next - at) (drop at book) (omega (arith, length-drop at book))

    named : len ≢ 0 → {sign : ℕ} → h.sign ≡ sign → NameAhead sign ks book tb n w (at + start) len at next k o st bytes
    named z {sign} i =
        let (rest, e) = R.read h.kinds h.sign h.is_sign h.kind_is z in
        record {
          ahead = h;
          sign_is = i;
          onward = onward;
          rest = rest;
          read = (λ j. a_sign_line aut68 (sym i j) (sym line_is_lem j)) ∙ e ∙ ap (λ (p : Bytes). done p rest) (part_of_part book at next start len onward inside (omega (arith, R.within, long)));
        }

  pub line_malformed : len ≡ 0 → MovedPost ks book tb n w w at next k o (code_of malformed) o
  line_malformed z =
      record {
        kept = outside_same;
        means = λ st bytes h.
            (let (rest, e) = R.missing h.kinds h.sign h.is_sign h.kind_is z in
            refused {r = malformed} (λ m c. no_name st m bytes c h.is_sign h.signs (ap (a_sign_line aut68 h.sign) (sym (line_is_lem h)) ∙ e)) refl);
      }

  module _ {w' : List ℕ} {code : ℕ} {o' : Open} (z : len ≢ 0) where
    pub line_closes : k ≡ 16 → NamePost 45 ks book tb n w w' (at + start) len next o code o' → MovedPost ks book tb n w w' at next k o code o'
    line_closes e p = record { kept = p.kept; means = λ st bytes h. p.means (named h z (sign_minus h.is_sign h.kind_is e)) }

    pub line_opens : k ≢ 16 → NamePost 43 ks book tb n w w' (at + start) len next o code o' → MovedPost ks book tb n w w' at next k o code o'
    line_opens e p = record { kept = p.kept; means = λ st bytes h. p.means (named h z (sign_plus h.is_sign h.kind_is e)) }
