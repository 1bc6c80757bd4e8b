-- Books without paragraph lines: every line stands outside, and a name means the line with that identifier, as in document 01.
use Rattle.std.specs.Prelude.{◌≡◌, refl, ◌≢◌, ◌⊎◌, ℕ, suc, ◌+◌, List, [], ◌∷◌, ◌++◌, length}
use Rattle.std.proofs.Common.{ap, sym, ◌∙◌, subst, inl, inr, arith, append-nil, length-append}
use Rattle.std.proofs.Math.Seq.{append_snoc}
use Rattle.aut68.specs.Language.{Language}
use Rattle.aut68.specs.Bytes.{Bytes}
use Rattle.aut68.specs.Source.{Used, plain}
use Rattle.aut68.specs.Lines.{Line, Lines}
use Rattle.aut68.specs.Paragraphs.{State, outside, start, with_line, numbers_of, current}
use Rattle.aut68.specs.Rules.Grammar.{plus, minus}
use Rattle.aut68.specs.Rules.Names.{IsLine, here, there, LineIn, ClosedIn, Innermost, in_this, outward, Denotes, an_earlier, in_closed, Unused}
use Rattle.aut68.specs.Rules.Derivation.{Derivation, Piece, Derived}
use Rattle.aut68.specs.Rules.Derivation as D
use Rattle.aut68.specs.Rules.Arrangements.{Signs}
use Rattle.aut68.specs.Demands.{NoParagraphs}
use Rattle.lookup.specs.Lists.{no_member}
use Rattle.lookup.specs.LineNumbers.{no_line_lem, line_snoc}
use Rattle.lookup.specs.Identifiers.{Distinct}
use Rattle.lookup.specs.Contexts.{RightContexts}
use Rattle.lookup.specs.DerivedBooks as B
use Rattle.orders.specs.Moving.{formed_ordinary}

-- outside every paragraph, none of which was opened
abbrev pub flat : Lines → State
flat ls = record { earlier = ls; place = outside }

-- no line has the identifier
abbrev pub NoneNamed : Lines → Bytes → Type 0
NoneNamed ls w = (v : ℕ) (l : Line) → IsLine ls v l → l.identifier ≢ w

-- ---- what names mean

pub denotes_flat : {ls : Lines} {v : ℕ} {l : Line} {w : Bytes} → IsLine ls v l → l.identifier ≡ w → l.paragraph ≡ 0 → Denotes (flat ls) (plain w) v
unfolding outside numbers_of
denotes_flat {l = l} i e p = an_earlier (in_this (record { the_line = l; is_line = i; identifier_is = e; paragraph_is = p }))

none_left : {Has : ℕ → ℕ → Type 0} {v : ℕ} → ¬ Innermost Has [] v
none_left h = elim h [ ]

outer_line : {ls : Lines} {w : Bytes} {v : ℕ} → Innermost (LineIn ls w) (numbers_of outside.opened) v → LineIn ls w 0 v
unfolding outside numbers_of
outer_line (in_this h) = h
outer_line (outward n h) = absurd (none_left h)

no_closed : {p : Bytes} {n : ℕ} → ¬ Innermost (ClosedIn outside p) (numbers_of outside.opened) n
unfolding outside numbers_of
no_closed (in_this h) = no_member h.is_paragraph.is_paragraph
no_closed (outward n h) = none_left h

-- the used name is plain, and line v outside has it as identifier
abbrev pub Named : Lines → Used → ℕ → Type 0
Named ls u v = (w : Bytes) × (u ≡ plain w) × LineIn ls w 0 v

pub flat_named : {ls : Lines} {u : Used} {v : ℕ} → Denotes (flat ls) u v → Named ls u v
flat_named (an_earlier {w} h) = (w, refl, outer_line h)
flat_named (in_closed h k) = absurd (no_closed h)

pub named_line : {ls : Lines} {w : Bytes} {v : ℕ} → Denotes (flat ls) (plain w) v → LineIn ls w 0 v
named_line (an_earlier h) = outer_line h

pub unused_flat : {ls : Lines} {w : Bytes} → NoneNamed ls w → Unused (flat ls) w
unfolding outside
unused_flat n = record { no_line = λ {v} h. n v h.the_line h.is_line h.identifier_is; no_paragraph = λ {n = k} h. no_member h.is_paragraph }

pub unused_outside : {ls : Lines} {w : Bytes} {v : ℕ} → Unused (flat ls) w → ¬ LineIn ls w 0 v
unfolding outside current
unused_outside u h = u.no_line h

current_flat : current outside.opened ≡ 0
unfolding outside current
current_flat = refl

-- ---- books

-- `Flat ls pieces all`: each of the pieces is an ordinary line with a derivation after those before it, all of them outside.
pub data Flat (language : Language) : Lines → List Bytes → Lines → Type 0 where
  no_more : {ls : Lines} → Flat language ls [] ls
  line : {ls all : Lines} {bytes : Bytes} {more : List Bytes} {l : Line}
      → Derivation language (flat ls) bytes l → Flat language (ls ++ (l ∷ [])) more all → Flat language ls (bytes ∷ more) all

-- they mean some lines
abbrev pub AllFlat : Language → List Bytes → Type 0
AllFlat language pieces = (all : Lines) × Flat language [] pieces all

flat_derived : {language : Language} {ls all : Lines} {ps : List Bytes} → Flat language ls ps all → Derived language (flat ls) ps (flat all)
flat_derived no_more = D.no_more
flat_derived (line d r) = D.piece (D.line d) (flat_derived r)

derived_flat : {language : Language} {ls : Lines} {all : State} {ps : List Bytes} {st : State} → st ≡ flat ls → NoParagraphs language ps → Derived language st ps all
    → Flat language ls ps all.earlier × (all ≡ flat all.earlier)
derived_flat {language} {ls} e n D.no_more = (subst (λ (z : State). Flat language ls [] z.earlier) (sym e) no_more, e ∙ ap (λ (z : State). flat z.earlier) (sym e))
derived_flat {language} {ls} {all} {st = st} e n (D.piece {bytes = b} {more = more} p r) = at p (λ l q. derived_flat q (λ c m. n c (there m)) r)
  where
    at : {next : State} → Piece language st b next → ((l : Line) → next ≡ flat (ls ++ (l ∷ [])) → Flat language (ls ++ (l ∷ [])) more all.earlier × (all ≡ flat all.earlier))
        → Flat language ls (b ∷ more) all.earlier × (all ≡ flat all.earlier)
    at (D.line {l} d) again =
        let q : with_line st l ≡ flat (ls ++ (l ∷ [])) = ap (λ z. with_line z l) e in
        let (f, g) = again l q in
        (line (subst (λ z. Derivation language z b l) e d) f, g)
    at (D.opened f u) again = absurd (n b here 43 _ plus f)
    at (D.closed f u) again = absurd (n b here 45 _ minus f)

-- a derived book without paragraph lines is flat
pub book_flat : {language : Language} {all : State} {ps : List Bytes} → NoParagraphs language ps → Derived language start ps all → Flat language [] ps all.earlier × (all ≡ flat all.earlier)
unfolding start
book_flat n d = derived_flat refl n d

pub flat_book : {language : Language} {all : Lines} {ps : List Bytes} → Flat language [] ps all → Derived language start ps (flat all)
unfolding start
flat_book f = flat_derived f

-- ---- parts

derived_length : {language : Language} {ls all : Lines} {ps : List Bytes} → Flat language ls ps all → length all ≡ length ls + length ps
derived_length {ls = ls} no_more = omega arith
derived_length (line {ls} {more} {l} d r) =
    let e = derived_length r in
    let k = length-append ls (l ∷ []) in
    omega arith

pub book_length : {language : Language} {all : Lines} {ps : List Bytes} → Flat language [] ps all → length all ≡ length ps
book_length h = let q = derived_length h in omega arith

pub derived_extends : {language : Language} {ls all : Lines} {ps : List Bytes} → Flat language ls ps all → (rest : Lines) × (all ≡ ls ++ rest)
derived_extends {ls = ls} no_more = ([], sym (append-nil ls))
derived_extends (line {ls} {l} d r) = let (rest, e) = derived_extends r in (l ∷ rest, e ∙ append_snoc ls l rest)

pub derived_append : {language : Language} {ls mid all : Lines} {ps qs : List Bytes} → Flat language ls ps mid → Flat language mid qs all → Flat language ls (ps ++ qs) all
derived_append no_more e = e
derived_append (line d r) e = line d (derived_append r e)

pub derived_snoc : {language : Language} {ls all : Lines} {ps : List Bytes} {b : Bytes} {l : Line} → Flat language ls ps all → Derivation language (flat all) b l
    → Flat language ls (ps ++ (b ∷ [])) (all ++ (l ∷ []))
derived_snoc h d = derived_append h (line d no_more)

pub derived_split : {language : Language} (ps : List Bytes) (b : Bytes) (qs : List Bytes) {ls all : Lines} → Flat language ls (ps ++ b ∷ qs) all
    → (mid : Lines) × (l : Line) × Flat language ls ps mid × Derivation language (flat mid) b l × Flat language (mid ++ (l ∷ [])) qs all
derived_split [] b qs {ls} (line {l} d r) = (ls, l, no_more, d, r)
derived_split (p ∷ ps) b qs (line d r) = let (mid, l, e, k, f) = derived_split ps b qs r in (mid, l, line d e, k, f)

-- each of the pieces is an ordinary line
pub flat_ordinary : {language : Language} {ls all : Lines} {ps : List Bytes} → Flat language ls ps all → NoParagraphs language ps
flat_ordinary {language} (line d r) b here = formed_ordinary language d.form
flat_ordinary (line d r) b (there m) = flat_ordinary r b m
flat_ordinary no_more b h = elim h [ ]

pub flat_signs : {language : Language} {ls all : Lines} {ps : List Bytes} → Flat language ls ps all → Signs language ps []
flat_signs no_more = Signs.no_more
flat_signs {language} (line d r) = Signs.ordinary (formed_ordinary language d.form) (flat_signs r)

-- ---- identifiers and contexts

-- all lines stand outside
abbrev pub AllOutside : Lines → Type 0
AllOutside ls = (v : ℕ) (l : Line) → IsLine ls v l → l.paragraph ≡ 0

pub outside_snoc : {language : Language} {ls : Lines} {b : Bytes} {n : Line} → AllOutside ls → Derivation language (flat ls) b n → AllOutside (ls ++ (n ∷ []))
outside_snoc {ls = ls} {n = n} h d v l i = at (line_snoc ls i)
  where
    at : IsLine ls v l ⊎ ((l ≡ n) × (v ≡ suc (length ls))) → l.paragraph ≡ 0
    at (inl j) = h v l j
    at (inr (e, q)) = ap (λ (z : Line). z.paragraph) e ∙ d.paragraph_is ∙ current_flat

all_outside : {language : Language} {ls all : Lines} {ps : List Bytes} → Flat language ls ps all → AllOutside ls → AllOutside all
all_outside no_more h = h
all_outside (line d r) h = all_outside r (outside_snoc h d)

lines_outside : {language : Language} {all : Lines} {ps : List Bytes} → Flat language [] ps all → {v : ℕ} {l : Line} → IsLine all v l → l.paragraph ≡ 0
lines_outside f i = all_outside f (λ v l j. absurd (no_line_lem j)) _ _ i

pub distinct_state : {language : Language} {all : Lines} {ps : List Bytes} → Flat language [] ps all → Distinct (flat all)
distinct_state f = B.distinct_names (flat_book f)

-- no two lines have one identifier
pub distinct_names : {language : Language} {all : Lines} {ps : List Bytes} → Flat language [] ps all
    → (v w : ℕ) (l k : Line) → IsLine all v l → IsLine all w k → l.identifier ≡ k.identifier → v ≡ w
distinct_names f v w l k i j e = (distinct_state f).names v w l k i j e (lines_outside f i ∙ sym (lines_outside f j))

pub right_contexts : {language : Language} {all : Lines} {ps : List Bytes} → Flat language [] ps all → RightContexts all
right_contexts f = B.right_contexts (flat_book f)
