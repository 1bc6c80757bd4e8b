-- The line that a used name means, and whether a name is taken.
use mathlib.Core.Path.{◌≡◌, refl, sym, ap, ◌∙◌}
use mathlib.Core.Logic.{◌≢◌}
use mathlib.Core.Bool.{true, false, not, true≢false, false≢true}
use mathlib.Core.Option.{none, some}
use mathlib.Core.List.{List, [], ◌∷◌}
use Prim.Native.Nat.{ℕ, ◌≤◌}
use native.Mathlib.Omega.{arith}
use lib.ListN.{length, get_or}
use Rattle.std.specs.Prelude as Prelude
use Rattle.aut68.specs.Bytes.{Bytes}
use Rattle.aut68.specs.Lines.{number_in}
use Rattle.aut68.specs.Paragraphs.{State, numbers_of, current}
use Rattle.aut68.specs.Procedure.Lookup.{seek, paragraph_in, closed_in, number_of, unused}
use Rattle.kinds.specs.Kinds.{KindsTable}
use Rattle.names.specs.Hints.{hash_of}
use Rattle.names.specs.Known.{Known}
use Rattle.names.specs.Search.{Gives, gives_so}
use Rattle.names.specs.Posts.{number_or, LineFound}
use Rattle.symbols.specs.Symbols.{used_by}
use Rattle.notes.specs.Note.{depth_cell, numbers, StateNoted}
use Rattle.notes.specs.NoteLaws.{outer_all, level_number}
use Rattle.notes.specs.Posts.{OfLevel}
use Rattle.paragraphs.specs.Posts.{LineInLevel, FoundIn, ClosedFound, PlainFound, UsedFound, TakenTold, CurrentTold}
use Rattle.paragraphs.proofs.NumberLaws.{number_some, number_none, or_none, line_number, paragraph_number, closed_number, seek_number}

-- ---- the innermost open paragraph

pub current_told : {w : List ℕ} {i r : ℕ} → i ≡ get_or w (depth_cell (length w)) 0 → OfLevel numbers w i r → CurrentTold w r
current_told d l = record { small = l.small; is = λ book at h. level_number (outer_all h d) l }

-- ---- used names

pub used_plain : {ks book tb : List ℕ} {lines : ℕ} {w : List ℕ} {title word : Bytes} {r : ℕ} → length title ≡ 0 → PlainFound book tb lines w word r → UsedFound ks book tb lines w title word r
unfolding used_by number_of
used_plain {title = []} e f = record { within = f.within; is = λ st t k n p. f.is st k n p }
used_plain {title = c ∷ cs} e f = absurd (omega (arith, e))

pub gives_used_plain : (ks book tb : List ℕ) (lines : ℕ) (w : List ℕ) (title word : Bytes) → length title ≡ 0 → (r : Prelude.Option ℕ) → Gives (PlainFound book tb lines w word) r
    → Gives (UsedFound ks book tb lines w title word) r
gives_used_plain ks book tb lines w title word e = gives_so (PlainFound book tb lines w word) (UsedFound ks book tb lines w title word) (λ r f. used_plain e f)

-- what is found inside a paragraph that is found, or not
inside_none : (st : State) (c : ℕ) (cs word : Bytes) → seek (closed_in st.place (c ∷ cs)) (numbers_of st.place.opened) ≡ none → number_of st (used_by (c ∷ cs) word) ≡ none
unfolding used_by number_of
inside_none st c cs word e = rw (e, number_of)

inside_some : (st : State) (c : ℕ) (cs word : Bytes) {q : ℕ} → seek (closed_in st.place (c ∷ cs)) (numbers_of st.place.opened) ≡ some q
    → number_of st (used_by (c ∷ cs) word) ≡ number_in st.earlier word q
unfolding used_by number_of
inside_some st c cs word e = rw (e, number_of)

module _ {ks book tb : List ℕ} {lines : ℕ} {w : List ℕ} {title word : Bytes} {q : ℕ} (l : length title ≢ 0) (f : ClosedFound ks book w title q) where
  pub used_nowhere : q ≡ 0 → UsedFound ks book tb lines w title word 0
  used_nowhere z = record { within = omega arith; is = λ st t k n p. or_none (at title f l st t n) refl }
    where
      at : (s : Bytes) → ClosedFound ks book w s q → length s ≢ 0 → (st : State) → KindsTable ks → StateNoted st book tb lines w → number_of st (used_by s word) ≡ none
      at [] f l st t n = absurd (l refl)
      at (c ∷ cs) f l st t n =
          inside_none st c cs word (number_none _ (f.is st tb lines t n (omega arith)) z (seek_number _ (closed_number n.right (c ∷ cs)) (numbers_of st.place.opened)))

  pub used_inside : {h r : ℕ} → h ≡ hash_of word → LineFound book tb lines w word h q r → q ≢ 0 → UsedFound ks book tb lines w title word r
  used_inside {r = r} e g m = record { within = g.within; is = λ st t k n p. at title f l st t k n p }
    where
      at : (s : Bytes) → ClosedFound ks book w s q → length s ≢ 0 → (st : State) → KindsTable ks → Known st.earlier book tb lines → StateNoted st book tb lines w → 1 ≤ length word
          → r ≡ number_or 0 (number_of st (used_by s word))
      at [] f l st t k n p = absurd (l refl)
      at (c ∷ cs) f l st t k n p =
          g.is st.earlier k n.hinted p e ∙ ap (number_or 0) (sym (inside_some st c cs word (number_some _ (f.is st tb lines t n (omega arith)) m)))

pub gives_used_inside : (ks book tb : List ℕ) (lines : ℕ) (w : List ℕ) (title word : Bytes) {q h : ℕ} → length title ≢ 0 → (1 ≤ q) × ClosedFound ks book w title q → h ≡ hash_of word
    → (r : Prelude.Option ℕ) → Gives (LineFound book tb lines w word h q) r → Gives (UsedFound ks book tb lines w title word) r
gives_used_inside ks book tb lines w title word {q} {h} l f e =
    gives_so (LineFound book tb lines w word h q) (UsedFound ks book tb lines w title word) (λ r g. used_inside l f.1 e g (λ z. let p = f.0 in omega arith))

-- ---- taken names

module _ (w : Bytes) (st : State) where
  line_taken : {v : ℕ} → number_in st.earlier w (current st.place.opened) ≡ some v → unused w st ≡ false
  unfolding unused
  line_taken e = rw (e, unused)

  module _ (e : number_in st.earlier w (current st.place.opened) ≡ none) where
    paragraph_taken : {n : ℕ} → paragraph_in st.place w (current st.place.opened) ≡ some n → unused w st ≡ false
    unfolding unused
    paragraph_taken f = rw (e, f, unused)

    not_taken : paragraph_in st.place w (current st.place.opened) ≡ none → unused w st ≡ true
    unfolding unused
    not_taken f = rw (e, f, unused)

module _ {book tb : List ℕ} {lines : ℕ} {w : List ℕ} {word : Bytes} {h i : ℕ} (e : h ≡ hash_of word) (d : i ≡ get_or w (depth_cell (length w)) 0) where
  line_there : (st : State) → Known st.earlier book tb lines → StateNoted st book tb lines w → 1 ≤ length word → {q r : ℕ} → OfLevel numbers w i q → LineFound book tb lines w word h q r
      → r ≡ number_or 0 (number_in st.earlier word (current st.place.opened))
  line_there st k n p l f = f.is st.earlier k n.hinted p e ∙ ap (λ (x : ℕ). number_or 0 (number_in st.earlier word x)) (level_number (outer_all n.place d) l)

  pub taken_by_line : {ks : List ℕ} (r : Prelude.Option ℕ) → LineInLevel book tb lines w word h i r → Prelude.is_some r ≡ true → TakenTold ks book tb lines w word true
  taken_by_line Prelude.None f s = absurd (false≢true s)
  taken_by_line (Prelude.Some v) f s =
      record { is = λ st t k n p. ap not (sym (line_taken word st (number_some _ (line_there st k n p f.level f.found.1) (λ z. let a = f.found.0 in omega arith)))) }

  pub taken_by_paragraph : {ks : List ℕ} (r o : Prelude.Option ℕ) → LineInLevel book tb lines w word h i r → Prelude.is_some r ≡ false → Gives (FoundIn paragraph_in ks book w word h i) o
      → TakenTold ks book tb lines w word (Prelude.is_some o)
  taken_by_paragraph (Prelude.Some v) o f s g = absurd (true≢false s)
  taken_by_paragraph Prelude.None Prelude.None f s g =
      record {
        is = λ st t k n p.
            ap not (sym (not_taken word st (number_none _ (line_there st k n p f.level f.found) refl (line_number st.earlier word _))
            (number_none _ (g.is st tb lines t n p e _ (outer_all n.place d)) refl (paragraph_number n.right word _))));
      }
  taken_by_paragraph Prelude.None (Prelude.Some v) f s g =
      record {
        is = λ st t k n p.
            ap not (sym (paragraph_taken word st (number_none _ (line_there st k n p f.level f.found) refl (line_number st.earlier word _))
            (number_some _ (g.1.is st tb lines t n p e _ (outer_all n.place d)) (λ z. let a = g.0 in omega arith))));
      }
