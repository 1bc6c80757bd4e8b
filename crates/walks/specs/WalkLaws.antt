-- A walk, one piece further.
use Rattle.std.specs.Prelude.{◌≡◌, refl, ◌≢◌, Bool, true, false, ◌&&◌, List, [], ◌∷◌, ◌++◌, length}
use Rattle.std.proofs.Math.Path.{ap, sym}
use Rattle.std.proofs.Common.{ap₂, ◌∙◌, ⊎_elim, arith}
use Rattle.std.proofs.Math.Option.{Option, none, some, or_else}
use Prim.Native.Nat.{ℕ, zero, suc, ◌-◌, ◌≤◌}
use Rattle.std.proofs.Math.ListN.{length-append}
use Rattle.std.proofs.Math.Dec.{eqb}
use borrow.Author.Tests.{eq-eqb, ne_eqb}
use Rattle.aut68.specs.Bytes.{Bytes, same_bytes}
use Rattle.aut68.specs.Paragraphs.{Opened, Paragraph, Place, outside, current, opening, closed_to}
use Rattle.aut68.specs.Procedure.Parse.{signed}
use Rattle.aut68.specs.Procedure.Lookup.{paragraph_from, paragraph_in}
use Rattle.aut68.specs.Rules.Names.{Member}
use Rattle.lookup.specs.Lists.{member_snoc}
use Rattle.lookup.specs.Identifiers.{paragraph_in_sound}
use Rattle.lookup.specs.DerivedBooks.{new_paragraph}
use Rattle.walks.specs.Walk.{title_of, deep_behind, count_behind, deep_after, count_after, opens_here, child_from, WalkIs}

-- ---- one more

-- the number, if the test holds
if_true : Bool → ℕ → Option ℕ
if_true t n = elim t [ true ↦ some n | false ↦ none ]

or_later : (t : Bool) (n : ℕ) (x y z : Option ℕ) → x ≡ or_else y z → ◌≡◌ {A = Option ℕ} (elim t [ true ↦ some n | false ↦ x ]) (or_else (elim t [ true ↦ some n | false ↦ y ]) z)
unfolding or_else
or_later true n x y z e = refl
or_later false n x y z e = e

or_none : (o : Option ℕ) → or_else o none ≡ o
unfolding or_else
or_none none = refl
or_none (some n) = refl

deep_snoc : (deep : ℕ) (bs : List Bytes) (b : Bytes) → deep_after deep (bs ++ (b ∷ [])) ≡ deep_behind b (deep_after deep bs)
unfolding deep_after
deep_snoc deep [] b = refl
deep_snoc deep (c ∷ bs) b = deep_snoc (deep_behind c deep) bs b

count_snoc : (n : ℕ) (bs : List Bytes) (b : Bytes) → count_after n (bs ++ (b ∷ [])) ≡ count_behind b (count_after n bs)
unfolding count_after
count_snoc n [] b = refl
count_snoc n (c ∷ bs) b = count_snoc (count_behind c n) bs b

child_snoc : (w : Bytes) (deep n : ℕ) (bs : List Bytes) (b : Bytes)
    → child_from w deep n (bs ++ (b ∷ [])) ≡ or_else (child_from w deep n bs) (if_true (opens_here w (deep_after deep bs) b) (suc (count_after n bs)))
unfolding child_from deep_after count_after if_true or_else
child_snoc w deep n [] b = refl
child_snoc w deep n (c ∷ bs) b = or_later (opens_here w deep c) (suc n) _ _ _ (child_snoc w (deep_behind c deep) (count_behind c n) bs b)

paragraph_snoc : (p : Bytes) (q : ℕ) (ps : List Paragraph) (x : Paragraph)
    → paragraph_from (λ n. true) p q (ps ++ (x ∷ [])) ≡ or_else (paragraph_from (λ n. true) p q ps) (if_true (same_bytes p x.name && eqb q x.around && true) x.number)
unfolding paragraph_from if_true or_else
paragraph_snoc p q [] x = refl
paragraph_snoc p q (y ∷ ps) x = or_later (same_bytes p y.name && eqb q y.around && true) y.number _ _ _ (paragraph_snoc p q ps x)

-- ---- by the sign of a piece

module _ (b : Bytes) where
  module _ (s : signed 43 b ≡ true) where
    pub deep_opening : (deep : ℕ) → deep_behind b deep ≡ suc deep
    unfolding deep_behind
    deep_opening deep = rw (s, deep_behind)

    pub count_opening : (n : ℕ) → count_behind b n ≡ suc n
    unfolding count_behind
    count_opening n = rw (s, count_behind)

    pub opens_titled : (w : Bytes) (deep : ℕ) → opens_here w deep b ≡ (eqb deep 0 && same_bytes w (title_of b))
    unfolding opens_here
    opens_titled w deep = rw s

  module _ (s : signed 43 b ≡ false) where
    pub deep_closing : signed 45 b ≡ true → (deep : ℕ) → deep_behind b deep ≡ deep - 1
    unfolding deep_behind
    deep_closing t deep = rw (s, t, deep_behind)

    pub deep_ordinary : signed 45 b ≡ false → (deep : ℕ) → deep_behind b deep ≡ deep
    unfolding deep_behind
    deep_ordinary t deep = rw (s, t, deep_behind)

    pub count_other : (n : ℕ) → count_behind b n ≡ n
    unfolding count_behind
    count_other n = rw (s, count_behind)

    pub opens_nothing : (w : Bytes) (deep : ℕ) → opens_here w deep b ≡ false
    unfolding opens_here
    opens_nothing w deep = rw s

  -- ---- the walk

  -- a piece that opens nothing, whatever is open behind it
  stays : {at : Place} {q inner behind : ℕ} {pieces : List Bytes} (os : List Opened) → signed 43 b ≡ false → deep_behind b inner ≡ behind → WalkIs at q inner pieces
      → WalkIs (closed_to at os) q behind (pieces ++ (b ∷ []))
  unfolding if_true paragraph_in
  stays {at} {q} {inner} {behind} {pieces} os s e h =
      record {
        deep = deep_snoc 0 pieces b ∙ (ap (deep_behind b) h.deep ∙ e);
        count = count_snoc q pieces b ∙ (count_other s (count_after q pieces) ∙ h.count);
        child = λ w. child_snoc w 0 q pieces b ∙ (rw (opens_nothing s w (deep_after 0 pieces), if_true) (or_none (child_from w 0 q pieces)) ∙ h.child w);
      }

  pub walk_ordinary : {at : Place} {q inner : ℕ} {pieces : List Bytes} → signed 43 b ≡ false → signed 45 b ≡ false → WalkIs at q inner pieces
      → WalkIs at q inner (pieces ++ (b ∷ []))
  walk_ordinary {at} {inner} s t h = stays at.opened s (deep_ordinary s t inner) h

  pub walk_closing : {at : Place} {q inner : ℕ} {pieces : List Bytes} (os : List Opened) → signed 43 b ≡ false → signed 45 b ≡ true → WalkIs at q (suc inner) pieces
      → WalkIs (closed_to at os) q inner (pieces ++ (b ∷ []))
  walk_closing {inner} os s t h = stays os s (deep_closing s t (suc inner) ∙ omega arith) h

  pub walk_opening : {at : Place} {p : Bytes} {q inner : ℕ} {pieces : List Bytes} → signed 43 b ≡ true → title_of b ≡ p → (inner ≡ 0 → q ≡ current at.opened)
      → (inner ≢ 0 → q ≢ current at.opened) → WalkIs at q inner pieces → WalkIs (opening p at) q (suc inner) (pieces ++ (b ∷ []))
  unfolding opening paragraph_in
  walk_opening {at} {p} {q} {inner} {pieces} s t here elsewhere h =
      record {
        deep = deep_snoc 0 pieces b ∙ (deep_opening s _ ∙ ap suc h.deep);
        count = count_snoc q pieces b ∙ (count_opening s _ ∙ omega (arith, h.count, length-append at.paragraphs (new_paragraph at p ∷ [])));
        child = λ w. child_snoc w 0 q pieces b ∙ (ap₂ or_else (h.child w) (ap₂ if_true (test w) (ap suc h.count)) ∙ sym (paragraph_snoc w q at.paragraphs (new_paragraph at p)));
      }
    where
      around : (n : ℕ) → (n ≡ 0 → q ≡ current at.opened) → (n ≢ 0 → q ≢ current at.opened) → eqb n 0 ≡ eqb q (current at.opened)
      around zero f g = sym (eq-eqb _ _ (f refl))
      around (suc n) f g = ne_eqb (suc n) 0 (λ e. omega (arith, e)) ∙ sym (ne_eqb _ _ (g (λ e. omega (arith, e))))

      swap : (x y : Bool) → (x && y) ≡ (y && x && true)
      swap true true = refl
      swap true false = refl
      swap false true = refl
      swap false false = refl

      test : (w : Bytes) → opens_here w (deep_after 0 pieces) b ≡ (same_bytes w p && eqb q (current at.opened) && true)
      test w = opens_titled s w _ ∙ (ap₂ ◌&&◌ (ap (λ n. eqb n 0) h.deep ∙ around inner here elsewhere) (ap (same_bytes w) t) ∙ swap (eqb q (current at.opened)) (same_bytes w p))

-- nothing is in a paragraph that was just opened
pub walk_begins : (at : Place) (p : Bytes) → ((x : Paragraph) → Member x at.paragraphs → x.around ≤ length at.paragraphs) → current at.opened ≤ length at.paragraphs
    → WalkIs (opening p at) (suc (length at.paragraphs)) 0 []
unfolding opening deep_after count_after child_from
walk_begins at p within now =
    record {
      deep = refl;
      count = omega (arith, length-append at.paragraphs (new_paragraph at p ∷ []));
      child = λ w. sym (none_in w (paragraph_in (opening p at) w (suc (length at.paragraphs))) refl);
    }
  where
    none_in : (w : Bytes) (o : Option ℕ) → paragraph_in (opening p at) w (suc (length at.paragraphs)) ≡ o → o ≡ none
    none_in w none e = refl
    none_in w (some n) e =
        let m = (paragraph_in_sound e).is_paragraph in
        ⊎_elim (λ old. absurd (omega (arith, within _ old))) (λ new. absurd (omega (arith, ap (λ (x : Paragraph). x.around) new, now))) (member_snoc at.paragraphs m)

pub walk_start : WalkIs outside 0 0 []
unfolding outside deep_after count_after child_from paragraph_in paragraph_from
walk_start = record { deep = refl; count = refl; child = λ w. refl }
