-- The paragraph with a given name in a given open one: by the note, or by a walk; and the same among closed ones.
use mathlib.Core.Path.{◌≡◌, refl, sym, ap, ◌∙◌, subst}
use mathlib.Core.Logic.{◌≢◌}
use mathlib.Core.Bool.{Bool, true, false}
use mathlib.Core.Option.{Option, none, some}
use mathlib.Core.List.{List, ◌++◌}
use Prim.Native.Nat.{ℕ, ◌≤◌}
use native.Mathlib.Omega.{arith}
use lib.ListN.{length, get_or, drop}
use Rattle.std.specs.Prelude as Prelude
use Rattle.aut68.specs.Bytes.{Bytes}
use Rattle.aut68.specs.Bytes as B
use Rattle.aut68.specs.Paragraphs.{Paragraph, Place, current}
use Rattle.aut68.specs.Procedure.Lookup.{paragraph_in, closed_in}
use Rattle.aut68.specs.Rules.Names.{Member, ParagraphIn}
use Rattle.lookup.specs.Identifiers.{DistinctParagraphs, paragraph_in_sound, paragraph_in_none, paragraph_in_unique}
use Rattle.lookup.specs.Places.{RightPlace, numbered_within, closed_none, closed_found, closed_open}
use Rattle.names.specs.Search.{Gives, gives_so}
use Rattle.names.specs.Posts.{number_or}
use Rattle.walks.specs.Walk.{child_from}
use Rattle.walks.specs.Posts.{Walked}
use Rattle.notes.specs.Note.{count_cell, upto_cell, numbers, froms, capacity}
use Rattle.notes.specs.NoteLaws.{level_number, level_from}
use Rattle.notes.specs.Posts.{OfLevel, NotedFound, OpenTold}
use Rattle.paragraphs.specs.Posts.{FoundIn}
use Rattle.paragraphs.proofs.NumberLaws.{number_some, number_none, or_some, or_none, paragraph_number}

-- ---- what is in a place

module _ (at : Place) (w : Bytes) (q : ℕ) where
  -- there is nothing in it, if no paragraph was opened behind it
  none_behind : RightPlace at → length at.paragraphs ≤ q → paragraph_in at w q ≡ none
  none_behind r l = go (paragraph_in at w q) refl
    where
      go : (o : Option ℕ) → paragraph_in at w q ≡ o → o ≡ none
      go none e = refl
      go (some n) e = let m = (paragraph_in_sound e).is_paragraph in absurd (omega (arith, r.inside _ m, (numbered_within r.numbered m).1))

  found_there : DistinctParagraphs at.paragraphs → {n : ℕ} → ParagraphIn at w q n → paragraph_in at w q ≡ some n
  found_there d {n} h = go (paragraph_in at w q) refl
    where
      go : (o : Option ℕ) → paragraph_in at w q ≡ o → o ≡ some n
      go none e = absurd (paragraph_in_none e n h)
      go (some m) e = ap some (paragraph_in_unique d (paragraph_in_sound e) h)

  none_there : ((x : Paragraph) → Member x at.paragraphs → x.name ≡ w → x.around ≢ q) → paragraph_in at w q ≡ none
  none_there f = go (paragraph_in at w q) refl
    where
      go : (o : Option ℕ) → paragraph_in at w q ≡ o → o ≡ none
      go none e = refl
      go (some n) e = absurd (f _ (paragraph_in_sound e).is_paragraph refl refl)

-- ---- in the i-th open paragraph

module _ {ks book w : List ℕ} {word : Bytes} {h i q : ℕ} (l : OfLevel numbers w i q) where
  pub nothing_behind : {count : ℕ} → count ≡ get_or w (count_cell (length w)) 0 → count ≡ q → FoundIn paragraph_in ks book w word h i 0
  nothing_behind e z =
      record { is = λ st tb lines t s p a os o. or_none (none_behind st.place word (current os) s.right (omega (arith, s.place.count_is, level_number o l))) refl }

  pub in_note : {n : ℕ} → NotedFound book w word h q n → n ≢ 0 → FoundIn paragraph_in ks book w word h i n
  in_note {n} f m =
      record {
        is = λ st tb lines t s p a os o.
            or_some (found_there st.place word (current os) s.distinct.paragraphs
            (subst (λ (k : ℕ). ParagraphIn st.place word k n) (level_number o l) (f.is st.place s.place s.right p a m)));
      }

  pub not_in_note : {n count most : ℕ} → NotedFound book w word h q n → n ≡ 0 → count ≡ get_or w (count_cell (length w)) 0 → most ≡ capacity (length w) → count ≤ most
      → FoundIn paragraph_in ks book w word h i 0
  not_in_note f z e m b =
      record {
        is = λ st tb lines t s p a os o.
            or_none (none_there st.place word (current os) (λ x k n c.
            f.none st.place s.place s.right p a z x k (omega (arith, (numbered_within s.right.numbered k).1, s.place.count_is)) n (c ∙ sym (level_number o l)))) refl;
      }

  pub in_book : {from upto r : ℕ} → OfLevel froms w i from → upto ≡ get_or w (upto_cell (length w)) 0 → Walked ks book from upto q word r → FoundIn paragraph_in ks book w word h i r
  in_book {from} m e k =
      record {
        is = λ st tb lines t s p a os o.
            (let v = level_from o m in
            k.is t v.pieces (v.passed ∙ ap (λ (n : ℕ). v.pieces ++ B.lines (drop n book)) (sym e)) l.small
            ∙ ap (λ (n : ℕ). number_or 0 (child_from word 0 n v.pieces)) (level_number o l)
            ∙ ap (number_or 0) (v.walk.child word));
      }

-- what is noted, where it is found or all have an entry
pub gives_noted : (ks book w : List ℕ) (word : Bytes) (h : ℕ) {i q count : ℕ} → OfLevel numbers w i q → count ≡ get_or w (count_cell (length w)) 0 → (r : Prelude.Option ℕ)
    → Gives (NotedFound book w word h q) r → (Prelude.is_some r ≡ false → count ≤ capacity (length w)) → Gives (FoundIn paragraph_in ks book w word h i) r
gives_noted ks book w word h l e Prelude.None f b = not_in_note l f refl e refl (b refl)
gives_noted ks book w word h l e (Prelude.Some n) f b = (f.0, in_note l f.1 (λ z. let p = f.0 in omega arith))

pub gives_in_book : (ks book w : List ℕ) (word : Bytes) (h : ℕ) {i q from upto : ℕ} → OfLevel numbers w i q → OfLevel froms w i from → upto ≡ get_or w (upto_cell (length w)) 0 → (r : Prelude.Option ℕ)
    → Gives (Walked ks book from upto q word) r → Gives (FoundIn paragraph_in ks book w word h i) r
gives_in_book ks book w word h {i} {q} {from} {upto} l m e =
    gives_so (Walked ks book from upto q word) (FoundIn paragraph_in ks book w word h i) (λ r k. in_book l m e k)

-- ---- among closed ones

module _ {ks book w : List ℕ} {word : Bytes} {h i n : ℕ} (f : FoundIn paragraph_in ks book w word h i n) where
  pub none_closed : n ≡ 0 → FoundIn closed_in ks book w word h i 0
  none_closed z =
      record {
        is = λ st tb lines t s p a os o.
            or_none (closed_none st.place word (current os) (number_none _ (f.is st tb lines t s p a os o) z (paragraph_number s.right word (current os)))) refl;
      }

  module _ (m : n ≢ 0) {t : Bool} (k : OpenTold w n t) where
    pub open_yet : t ≡ true → FoundIn closed_in ks book w word h i 0
    open_yet e =
        record {
          is = λ st tb lines ts s p a os o.
              or_none (closed_open st.place word (current os) s.distinct.paragraphs (number_some _ (f.is st tb lines ts s p a os o) m) (sym (k.is book st.place s.place) ∙ e)) refl;
        }

    pub closed_there : t ≡ false → FoundIn closed_in ks book w word h i n
    closed_there e =
        record {
          is = λ st tb lines ts s p a os o.
              or_some (closed_found st.place word (current os) s.distinct.paragraphs (number_some _ (f.is st tb lines ts s p a os o) m) (sym (k.is book st.place s.place) ∙ e));
        }
