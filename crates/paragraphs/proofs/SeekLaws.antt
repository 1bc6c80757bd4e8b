-- What is sought from the innermost open paragraph outward.
use mathlib.Core.Path.{◌≡◌, refl, sym, ap, ◌∙◌, subst}
use mathlib.Core.Option.{Option, none, some}
use mathlib.Core.List.{List, [], ◌∷◌}
use Prim.Native.Nat.{ℕ, ◌+◌, ◌-◌, ◌≤◌}
use native.Mathlib.Omega.{arith}
use lib.ListN.{length, get_or}
use Rattle.std.specs.Prelude as Prelude
use Rattle.aut68.specs.Bytes.{Bytes}
use Rattle.aut68.specs.Lines.{number_in}
use Rattle.aut68.specs.Paragraphs.{Opened, Place, State, numbers_of, current}
use Rattle.aut68.specs.Procedure.Lookup.{seek, closed_in}
use Rattle.kinds.specs.Kinds.{KindsTable}
use Rattle.names.specs.Hints.{hash_of}
use Rattle.names.specs.Known.{Known}
use Rattle.names.specs.Search.{Gives, gives_so}
use Rattle.names.specs.Posts.{number_or, LineFound}
use Rattle.notes.specs.Note.{depth_cell, PlaceNoted, StateNoted}
use Rattle.notes.specs.NoteLaws.{Outer, outer_all, outer_next, level_number}
use Rattle.paragraphs.specs.Posts.{LineInLevel, FoundIn, Outward, nowhere, here, further, ClosedFound, PlainFound}
use Rattle.paragraphs.proofs.NumberLaws.{Positive, number_some, number_none, or_some, or_none, line_number, closed_number}

-- ---- what is found first

module _ {found_in : ℕ → Prelude.Option ℕ → Type 0} where
  pub outward_at : {i j : ℕ} {r : Prelude.Option ℕ} → Outward found_in i r → i ≡ j → Outward found_in j r
  outward_at {r = r} o e = subst (λ (k : ℕ). Outward found_in k r) e o

  -- it has what each has that may be found
  first_so : (P : ℕ → Type 0) → ((j v : ℕ) → found_in j (Prelude.Some v) → P v) → {i v : ℕ} → Outward found_in i (Prelude.Some v) → P v
  first_so P so (here p s) = so _ _ s
  first_so P so (further p s o) = first_so P so o

  -- behind outside there is nothing
  none_behind : {i : ℕ} {r : Prelude.Option ℕ} → i ≡ 0 → Outward found_in i r → r ≡ Prelude.None
  none_behind z (nowhere e) = refl
  none_behind z (here p s) = absurd (omega arith)
  none_behind z (further p s o) = absurd (omega arith)

-- ---- by paragraphs

seek_this : (f : ℕ → Option ℕ) (os : List Opened) {v : ℕ} → f (current os) ≡ some v → seek f (numbers_of os) ≡ some v
unfolding seek numbers_of current
seek_this f [] e = rw (e, seek)
seek_this f (o ∷ os) e = rw (e, seek)

seek_outward : (f : ℕ → Option ℕ) (o : Opened) (os : List Opened) → f (current (o ∷ os)) ≡ none → seek f (numbers_of (o ∷ os)) ≡ seek f (numbers_of os)
unfolding seek numbers_of current
seek_outward f o os e = rw (e, seek)

seek_nowhere : (f : ℕ → Option ℕ) → f (current []) ≡ none → seek f (numbers_of []) ≡ none
unfolding seek numbers_of current
seek_nowhere f e = rw (e, seek)

-- what is found in the i-th open paragraph is what f gives of its number
module _ {book : Bytes} {at : Place} {w : List ℕ} (f : ℕ → Option ℕ) (positive : (q : ℕ) → Positive (f q)) {found_in : ℕ → Prelude.Option ℕ → Type 0}
    (means : (i : ℕ) (r : Prelude.Option ℕ) → found_in i r → (os : List Opened) → Outer book at w i os → Gives (λ (v : ℕ). v ≡ number_or 0 (f (current os))) r) where
  sought_in : {i : ℕ} {r : Prelude.Option ℕ} → Outward found_in i r → 1 ≤ i → (os : List Opened) → Outer book at w (i - 1) os → Gives (λ (v : ℕ). v ≡ number_or 0 (seek f (numbers_of os))) r
  sought_in (nowhere e) p os o = absurd (omega arith)
  sought_in (here l s) p os o = let g = means _ _ s os o in (g.0, or_some (seek_this f os (number_some _ g.1 (λ z. omega arith))))
  sought_in (further l s rest) p [] o =
      subst (Gives (λ (v : ℕ). v ≡ number_or 0 (seek f (numbers_of [])))) (sym (none_behind (omega (arith, o.count)) rest))
      (or_none (seek_nowhere f (number_none _ (means _ Prelude.None s [] o) refl (positive _))) refl)
  sought_in {r = r} (further l s rest) p (x ∷ os) o =
      let e = seek_outward f x os (number_none _ (means _ Prelude.None s (x ∷ os) o) refl (positive _)) in
      gives_so (λ (v : ℕ). v ≡ number_or 0 (seek f (numbers_of os))) (λ (v : ℕ). v ≡ number_or 0 (seek f (numbers_of (x ∷ os)))) (λ v q. q ∙ ap (number_or 0) (sym e)) r
      (sought_in rest (omega (arith, o.count)) os (outer_next o))

  sought : {r : Prelude.Option ℕ} → PlaceNoted book at w → Outward found_in (get_or w (depth_cell (length w)) 0 + 1) r → Gives (λ (v : ℕ). v ≡ number_or 0 (seek f (numbers_of at.opened))) r
  sought h o = sought_in o (omega arith) at.opened (outer_all h (omega arith))

-- ---- lines

module _ {book tb : List ℕ} {lines : ℕ} {w : List ℕ} {word : Bytes} {h : ℕ} (e : h ≡ hash_of word) {found_in : ℕ → Prelude.Option ℕ → Type 0}
    (means : (i : ℕ) (r : Prelude.Option ℕ) → found_in i r → LineInLevel book tb lines w word h i r) where
  pub gives_plain : (r : Prelude.Option ℕ) → Outward found_in (get_or w (depth_cell (length w)) 0 + 1) r → Gives (PlainFound book tb lines w word) r
  gives_plain r o = at r o
    where
      line : (st : State) → Known st.earlier book tb lines → StateNoted st book tb lines w → 1 ≤ length word → (i : ℕ) (r : Prelude.Option ℕ) → found_in i r → (os : List Opened) → Outer book st.place w i os
          → Gives (λ (v : ℕ). v ≡ number_or 0 (number_in st.earlier word (current os))) r
      line st k n p i r s os outer =
          let m = means i r s in
          gives_so (LineFound book tb lines w word h m.around) (λ (v : ℕ). v ≡ number_or 0 (number_in st.earlier word (current os)))
          (λ v g. g.is st.earlier k n.hinted p e ∙ ap (λ (x : ℕ). number_or 0 (number_in st.earlier word x)) (level_number outer m.level)) r m.found

      at : (r : Prelude.Option ℕ) → Outward found_in (get_or w (depth_cell (length w)) 0 + 1) r → Gives (PlainFound book tb lines w word) r
      at Prelude.None o = record { within = omega arith; is = λ st k n p. sought (number_in st.earlier word) (line_number st.earlier word) (line st k n p) n.place o }
      at (Prelude.Some v) o = (
        first_so (λ (v : ℕ). 1 ≤ v) (λ i v s. (means i (Prelude.Some v) s).found.0) o,
        record {
          within = first_so (λ (v : ℕ). v ≤ lines) (λ i v s. (means i (Prelude.Some v) s).found.1.within) o;
          is = λ st k n p. (sought (number_in st.earlier word) (line_number st.earlier word) (line st k n p) n.place o).1;
        },
      )

-- outside all paragraphs
pub gives_outside : (book tb : List ℕ) (lines : ℕ) (w : List ℕ) (word : Bytes) {h : ℕ} → h ≡ hash_of word → get_or w (depth_cell (length w)) 0 ≡ 0 → (r : Prelude.Option ℕ)
    → Gives (LineFound book tb lines w word h 0) r → Gives (PlainFound book tb lines w word) r
gives_outside book tb lines w word {h} e z r g = gives_plain e (λ i r s. s) r (outward_at (only r g) (omega arith))
  where
    level : (r : Prelude.Option ℕ) → Gives (LineFound book tb lines w word h 0) r → LineInLevel book tb lines w word h 0 r
    level r g = record { around = 0; level = record { outside = λ e. refl; is = λ a b. absurd (omega arith); small = omega arith }; found = g }

    only : (r : Prelude.Option ℕ) → Gives (LineFound book tb lines w word h 0) r → Outward (λ (i : ℕ) (r : Prelude.Option ℕ). LineInLevel book tb lines w word h i r) 1 r
    only Prelude.None g = further (omega arith) (level Prelude.None g) (nowhere refl)
    only (Prelude.Some v) g = here (omega arith) (level (Prelude.Some v) g)

-- ---- closed paragraphs

module _ {ks book w : List ℕ} {word : Bytes} {h : ℕ} (e : h ≡ hash_of word) {found_in : ℕ → Prelude.Option ℕ → Type 0}
    (means : (i : ℕ) (r : Prelude.Option ℕ) → found_in i r → Gives (FoundIn closed_in ks book w word h i) r) where
  pub gives_closed : (r : Prelude.Option ℕ) → Outward found_in (get_or w (depth_cell (length w)) 0 + 1) r → Gives (ClosedFound ks book w word) r
  gives_closed r o = at r o
    where
      paragraph : (st : State) (tb : List ℕ) (lines : ℕ) → KindsTable ks → StateNoted st book tb lines w → 1 ≤ length word → (i : ℕ) (r : Prelude.Option ℕ) → found_in i r → (os : List Opened) → Outer book st.place w i os
          → Gives (λ (v : ℕ). v ≡ number_or 0 (closed_in st.place word (current os))) r
      paragraph st tb lines t n p i r s os outer =
          gives_so (FoundIn closed_in ks book w word h i) (λ (v : ℕ). v ≡ number_or 0 (closed_in st.place word (current os))) (λ v g. g.is st tb lines t n p e os outer) r (means i r s)

      at : (r : Prelude.Option ℕ) → Outward found_in (get_or w (depth_cell (length w)) 0 + 1) r → Gives (ClosedFound ks book w word) r
      at Prelude.None o = record { is = λ st tb lines t n p. sought (closed_in st.place word) (closed_number n.right word) (paragraph st tb lines t n p) n.place o }
      at (Prelude.Some v) o = (
        first_so (λ (v : ℕ). 1 ≤ v) (λ i v s. (means i (Prelude.Some v) s).0) o,
        record { is = λ st tb lines t n p. (sought (closed_in st.place word) (closed_number n.right word) (paragraph st tb lines t n p) n.place o).1 },
      )
