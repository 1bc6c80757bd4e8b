-- What the paragraph lines of a derived book make of its places.
use Rattle.std.specs.Prelude.{◌≡◌, refl, List, [], ◌∷◌, ℕ}
use Rattle.std.proofs.Common.{ap, sym, ◌∙◌, subst, arith}
use Rattle.aut68.specs.Language.{Language}
use Rattle.aut68.specs.Bytes.{Bytes}
use Rattle.aut68.specs.Source.{SourceLine}
use Rattle.aut68.specs.Lines.{Line}
use Rattle.aut68.specs.Paragraphs.{Paragraph, Place, State, with_line, current, opening, closed_to}
use Rattle.aut68.specs.Rules.Grammar.{WellFormed, SignLine, IsSign, plus, minus, Ordinary}
use Rattle.aut68.specs.Rules.Names.{Member, ParagraphIn}
use Rattle.aut68.specs.Rules.Derivation.{Derivation, Moves, opens, closes, Piece, Derived}
use Rattle.aut68.specs.Rules.Derivation as D
use Rattle.aut68.specs.Rules.Arrangements.{Signs, ordinary, a_sign}
use Rattle.aut68.specs.Rules.Arrangements as A
use Rattle.lookup.specs.Lists.{member_left}
use Rattle.reading.specs.Signs.{sign_apart, sign_same, sign_unique}

module _ (language : Language) where
  pub formed_ordinary : {s : SourceLine} {bytes : Bytes} → WellFormed language s bytes → Ordinary language bytes
  formed_ordinary w sign p i f = sign_apart language i f w

  -- an ordinary line of a derived book
  pub line_of_lem : {st next : State} {b : Bytes} → Piece language st b next → Ordinary language b → (l : Line) × Derivation language st b l × (next ≡ with_line st l)
  line_of_lem (D.line {l} d) o = (l, d, refl)
  line_of_lem (D.opened g u) o = absurd (o 43 _ plus g)
  line_of_lem (D.closed g e) o = absurd (o 45 _ minus g)

  -- the bytes open no paragraph that there is already
  abbrev pub OpensNew : Place → Bytes → Type 0
  OpensNew at b = (p : Bytes) → SignLine language 43 p b → (n : ℕ) → ¬ ParagraphIn at p (current at.opened) n

  -- a paragraph line of a derived book
  pub sign_of : {st next : State} {b p : Bytes} {sign : ℕ} → Piece language st b next → IsSign sign → SignLine language sign p b
      → Moves language st.place b next.place × (next.earlier ≡ st.earlier) × OpensNew st.place b
  sign_of (D.line d) c f = absurd (sign_apart language c f d.form)
  sign_of {st} (D.opened g u) c f =
      (opens g, refl, λ p h n k. u.no_paragraph (subst (λ z. ParagraphIn st.place z (current st.place.opened) n) (sign_unique language plus h g) k))
  sign_of (D.closed g e) c f = (closes g e, refl, λ p h n k. let c = sign_same language plus minus h g in omega arith)

  pub moves_unique : {at m n : Place} {b : Bytes} → Moves language at b m → Moves language at b n → m ≡ n
  moves_unique {at} (opens f) (opens g) = ap (λ z. opening z at) (sign_unique language plus f g)
  moves_unique (opens f) (closes g e) = let c = sign_same language plus minus f g in absurd (omega arith)
  moves_unique (closes f e) (opens g) = let c = sign_same language minus plus f g in absurd (omega arith)
  moves_unique {at} (closes {os = x} f e) (closes {os = y} g h) =
      let q = sym e ∙ h in
      let z : x ≡ y = cc in
      ap (closed_to at) z

  -- ---- all of them

  -- The paragraph lines make `all` of the place `at`; none opens a paragraph again.
  pub data Moving : Place → List Bytes → Place → Type 0 where
    no_more : {at : Place} → Moving at [] at
    next : {at next all : Place} {b : Bytes} {more : List Bytes} → Moves language at b next → OpensNew at b → Moving next more all → Moving at (b ∷ more) all

  move_paragraphs : {at next : Place} {b : Bytes} {x : Paragraph} → Moves language at b next → Member x at.paragraphs → Member x next.paragraphs
  unfolding opening
  move_paragraphs (opens f) m = member_left _ m
  move_paragraphs (closes f e) m = m

  pub moving_paragraphs : {at all : Place} {signs : List Bytes} {x : Paragraph} → Moving at signs all → Member x at.paragraphs → Member x all.paragraphs
  moving_paragraphs no_more m = m
  moving_paragraphs (next v f r) m = moving_paragraphs r (move_paragraphs v m)

  pub derived_moving : {st all : State} {pieces signs : List Bytes} → Derived language st pieces all → Signs language pieces signs → Moving st.place signs all.place
  derived_moving D.no_more A.Signs.no_more = no_more
  derived_moving {all = all} (D.piece p r) (ordinary {signs = signs} o s) =
      let (l, d, e) = line_of_lem p o in
      subst (λ (z : State). Moving z.place signs all.place) e (derived_moving r s)
  derived_moving (D.piece p r) (a_sign c f s) =
      let (m, e, n) = sign_of p c f in
      next m n (derived_moving r s)

  -- ---- which they are

  pub derived_signs : {st all : State} {pieces : List Bytes} → Derived language st pieces all → (signs : List Bytes) × Signs language pieces signs
  derived_signs D.no_more = ([], A.Signs.no_more)
  derived_signs (D.piece (D.line d) r) = let (signs, s) = derived_signs r in (signs, ordinary (formed_ordinary d.form) s)
  derived_signs (D.piece {bytes = b} (D.opened f u) r) = let (signs, s) = derived_signs r in (b ∷ signs, a_sign plus f s)
  derived_signs (D.piece {bytes = b} (D.closed f e) r) = let (signs, s) = derived_signs r in (b ∷ signs, a_sign minus f s)
