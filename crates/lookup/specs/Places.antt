-- The places of a book: paragraphs are numbered in order of opening, and each open one stands in the next open one outward. So a
-- closed paragraph is sought like any, and refused if it is open.
use Rattle.std.specs.Prelude.{◌≡◌, refl, Bool, true, false, ◌||◌, ◌⊎◌, List, [], ◌∷◌, ◌++◌, ℕ, suc, ◌+◌, ◌≤◌, ◌<◌, length, eqb}
use Rattle.std.proofs.Common.{ap, sym, ◌∙◌, subst, true≢false, inl, inr, arith, eqb-true}
use Rattle.std.proofs.lemmas.Bool.{false≢true}
use Rattle.std.proofs.Math.Option.{Option, none, some}
use Rattle.aut68.specs.Language.{Language}
use Rattle.aut68.specs.Bytes.{Bytes}
use Rattle.aut68.specs.Paragraphs.{Opened, Paragraph, Place, State, outside, start, current, is_open, opening, closed_to}
use Rattle.aut68.specs.Procedure.Lookup.{paragraph_in, closed_in}
use Rattle.aut68.specs.Rules.Names.{Member, here, there, ParagraphIn}
use Rattle.aut68.specs.Rules.Derivation.{Piece, line, opened, closed, Derived, no_more, piece}
use Rattle.lookup.specs.Lists.{member_left, member_right, member_append, member_one, no_member}
use Rattle.lookup.specs.Identifiers.{DistinctParagraphs, paragraph_in_sound, paragraph_in_none, paragraph_in_unique, closed_in_sound, closed_in_none}
use Rattle.lookup.specs.DerivedBooks.{new_paragraph}

-- ---- numbers

-- the paragraphs have the numbers behind k, in order
pub data NumberedFrom : ℕ → List Paragraph → Type 0 where
  none_left : {k : ℕ} → NumberedFrom k []
  next_number : {k : ℕ} {x : Paragraph} {xs : List Paragraph} → x.number ≡ suc k → NumberedFrom (suc k) xs → NumberedFrom k (x ∷ xs)

-- the n-th paragraph, from 1, has the number n
pub numbered_at : {k : ℕ} (before : List Paragraph) (x : Paragraph) (after : List Paragraph) → NumberedFrom k (before ++ x ∷ after) → x.number ≡ suc (k + length before)
numbered_at [] x after (next_number e h) = omega (arith, e)
numbered_at (y ∷ before) x after (next_number e h) = let i = numbered_at before x after h in omega (arith, i)

pub numbered_within : {k : ℕ} {x : Paragraph} {xs : List Paragraph} → NumberedFrom k xs → Member x xs → (k < x.number) × (x.number ≤ k + length xs)
numbered_within (next_number e h) here = (omega (arith, e), omega (arith, e))
numbered_within (next_number e h) (there m) = let (a, b) = numbered_within h m in (omega (arith, a), omega (arith, b))
numbered_within none_left h = elim h [ ]

-- no two have one number
pub numbered_unique : {k : ℕ} {x y : Paragraph} {xs : List Paragraph} → NumberedFrom k xs → Member x xs → Member y xs → x.number ≡ y.number → x ≡ y
numbered_unique (next_number e h) here here q = refl
numbered_unique (next_number e h) here (there n) q = let (a, b) = numbered_within h n in absurd (omega (arith, a, e, q))
numbered_unique (next_number e h) (there m) here q = let (a, b) = numbered_within h m in absurd (omega (arith, a, e, q))
numbered_unique (next_number e h) (there m) (there n) q = numbered_unique h m n q
numbered_unique none_left h _ q = elim h [ ]

numbered_snoc : {k : ℕ} (x : Paragraph) {xs : List Paragraph} → NumberedFrom k xs → x.number ≡ suc (k + length xs) → NumberedFrom k (xs ++ (x ∷ []))
numbered_snoc x (none_left {k}) e = let i : x.number ≡ suc k = omega (arith, e) in next_number i none_left
numbered_snoc x (next_number p h) e = next_number p (numbered_snoc x h (omega (arith, e)))

-- ---- open paragraphs

-- Each is a paragraph of the book, opened in the next one outward and behind it; the numbers decrease.
pub data Nested (ps : List Paragraph) : List Opened → Type 0 where
  none_open : Nested ps []
  next_open : {o : Opened} {os : List Opened} → Member (record { name = o.name; number = o.number; around = current os }) ps → current os < o.number → Nested ps os
      → Nested ps (o ∷ os)

nested_more : {ps : List Paragraph} (more : List Paragraph) {os : List Opened} → Nested ps os → Nested (ps ++ more) os
nested_more more none_open = none_open
nested_more more (next_open m l h) = next_open (member_left more m) l (nested_more more h)

pub record RightPlace (at : Place) : Type 0 where
  pub numbered : NumberedFrom 0 at.paragraphs
  pub inside : (x : Paragraph) → Member x at.paragraphs → x.around < x.number
  pub nested : Nested at.paragraphs at.opened

-- the innermost number is a paragraph's
pub current_within : {ps : List Paragraph} {os : List Opened} → NumberedFrom 0 ps → Nested ps os → current os ≤ length ps
unfolding current
current_within h none_open = omega arith
current_within h (next_open m l n) = let (a, b) = numbered_within h m in omega (arith, b)

pub opening_right : {at : Place} (p : Bytes) → RightPlace at → RightPlace (opening p at)
unfolding opening
opening_right {at} p h =
    record {
      numbered = numbered_snoc (new_paragraph at p) h.numbered (omega arith);
      inside = λ x m. new_inside (member_append at.paragraphs m);
      nested = next_open (member_right at.paragraphs here) (omega (arith, w)) (nested_more (new_paragraph at p ∷ []) h.nested);
    }
  where
    w : current at.opened ≤ length at.paragraphs
    w = current_within h.numbered h.nested

    new_inside : {x : Paragraph} → Member x at.paragraphs ⊎ Member x (new_paragraph at p ∷ []) → x.around < x.number
    new_inside (inl m) = h.inside _ m
    new_inside (inr m) = omega (arith, w, ap (λ (z : Paragraph). z.number) (member_one m), ap (λ (z : Paragraph). z.around) (member_one m))

pub closing_right : {at : Place} {o : Opened} {os : List Opened} → at.opened ≡ o ∷ os → RightPlace at → RightPlace (closed_to at os)
closing_right {at} {o} {os} e h = record { numbered = h.numbered; inside = h.inside; nested = around (subst (Nested at.paragraphs) e h.nested) }
  where
    around : {ps : List Paragraph} → Nested ps (o ∷ os) → Nested ps os
    around (next_open m l n) = n

pub piece_place : {language : Language} {st next : State} {bytes : Bytes} → Piece language st bytes next → RightPlace st.place → RightPlace next.place
piece_place (line d) h = h
piece_place (opened {p} f u) h = opening_right p h
piece_place (closed f e) h = closing_right e h

pub derived_place : {language : Language} {st all : State} {pieces : List Bytes} → Derived language st pieces all → RightPlace st.place → RightPlace all.place
derived_place no_more h = h
derived_place (piece p r) h = derived_place r (piece_place p h)

pub place_start : RightPlace start.place
unfolding start outside
place_start = record { numbered = none_left; inside = λ x m. absurd (no_member m); nested = none_open }

pub right_place : {language : Language} {st : State} {pieces : List Bytes} → Derived language start pieces st → RightPlace st.place
right_place d = derived_place d place_start

-- ---- the open paragraph of an open paragraph

-- The paragraph n, named p, is open, and the next one outward has the number q.
pub data OpenIn (p : Bytes) (q n : ℕ) : List Opened → Type 0 where
  this_one : {os : List Opened} → current os ≡ q → OpenIn p q n (record { name = p; number = n } ∷ os)
  further_out : {o : Opened} {os : List Opened} → OpenIn p q n os → OpenIn p q n (o ∷ os)

-- so it stands, if it is open at all
pub open_in : {at : Place} → RightPlace at → {p : Bytes} {q n : ℕ} → ParagraphIn at p q n → is_open n at.opened ≡ true → OpenIn p q n at.opened
unfolding is_open
open_in {at} h {p} {q} {n} k e = go h.nested e
  where
    same : {o : Opened} {os : List Opened} → Member (record { name = o.name; number = o.number; around = current os }) at.paragraphs → n ≡ o.number → OpenIn p q n (o ∷ os)
    same {o} {os} m i =
        let x : ◌≡◌ {A = Paragraph} (record { name = o.name; number = o.number; around = current os }) (record { name = p; number = n; around = q }) = numbered_unique h.numbered m k.is_paragraph (sym i) in
        subst (λ (z : Opened). OpenIn p q n (z ∷ os)) (λ j. record { name = sym (ap (λ (z : Paragraph). z.name) x) j; number = i j }) (this_one (ap (λ (z : Paragraph). z.around) x))

    go : {os : List Opened} → Nested at.paragraphs os → is_open n os ≡ true → OpenIn p q n os
    go none_open e = absurd (false≢true e)
    go (next_open {o} {os} m l r) e = test (eqb n o.number) refl e (λ f. go r f)
      where
        test : (t : Bool) → eqb n o.number ≡ t → (t || is_open n os) ≡ true → (is_open n os ≡ true → OpenIn p q n os) → OpenIn p q n (o ∷ os)
        test true i e again = same m (eqb-true n o.number i)
        test false i e again = further_out (again e)

-- ---- closed paragraphs

-- What is sought among closed paragraphs is what is sought among all, unless that is open.
module _ (at : Place) (p : Bytes) (q : ℕ) where
  pub closed_none : paragraph_in at p q ≡ none → closed_in at p q ≡ none
  closed_none e = go (closed_in at p q) refl
    where
      go : (o : Option ℕ) → closed_in at p q ≡ o → o ≡ none
      go none i = refl
      go (some n) i = absurd (paragraph_in_none e n (closed_in_sound i).is_paragraph)

  module _ (d : DistinctParagraphs at.paragraphs) {n : ℕ} (e : paragraph_in at p q ≡ some n) where
    same : {m : ℕ} → closed_in at p q ≡ some m → m ≡ n
    same i = paragraph_in_unique d (closed_in_sound i).is_paragraph (paragraph_in_sound e)

    pub closed_found : is_open n at.opened ≡ false → closed_in at p q ≡ some n
    closed_found f = go (closed_in at p q) refl
      where
        go : (o : Option ℕ) → closed_in at p q ≡ o → o ≡ some n
        go none i = absurd (closed_in_none i n (record { is_paragraph = paragraph_in_sound e; is_closed = f }))
        go (some m) i = ap some (same i)

    pub closed_open : is_open n at.opened ≡ true → closed_in at p q ≡ none
    closed_open f = go (closed_in at p q) refl
      where
        go : (o : Option ℕ) → closed_in at p q ≡ o → o ≡ none
        go none i = refl
        go (some m) i = absurd (true≢false (sym f ∙ ap (λ z. is_open z at.opened) (sym (same i)) ∙ (closed_in_sound i).is_closed))
