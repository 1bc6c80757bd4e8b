-- A walk in a part of the store that ends where the room does, and what it leaves of the whole store.
use Prim.Native.Nat.{ℕ, suc, ◌+◌, ◌-◌, ◌≤◌, ◌<◌}
use mathlib.Core.Path.{◌≡◌, refl, sym, ap, ◌∙◌}
use mathlib.Core.Logic.{inl, inr, ⊎_elim}
use mathlib.Core.List.{List, [], ◌∷◌, ◌++◌}
use native.Mathlib.Omega.{arith}
use lib.ListN.{length, get_or, set, take, drop, take-append-drop, length-set, get_or-append}
use lib.Seq.{sets, take-take, take_all, get_or-take, get_or-drop, get_or-append-add, set-append_left, length-take-le, length_front}
use Rattle.aut68.specs.Sizes.{cell_values}
use Rattle.cells.specs.Cells.{Outside, Wrote}
use Rattle.cells.specs.Forests.{size_is_length}
use Rattle.cells.specs.Stores.{outside_same}
use Rattle.terms.specs.Made.{no_room, RaisePost, SubstitutePost}
use Rattle.terms.specs.declared.leaves.Change.TheVariants.{Lift, Substitute}
use Rattle.terms.specs.Grafts.{Choice, lifting, substituting, graft, Stands, raises, substitutes_one, Kept, Full, Ended, Stopped, WholePost}

-- writes within the front of a list
sets_front : (vs p q : List ℕ) (i : ℕ) → i + length vs ≤ length p → sets (p ++ q) i vs ≡ sets p i vs ++ q
sets_front [] p q i h = refl
sets_front (v ∷ vs) p q i h =
    ap (λ (l : List ℕ). sets l (suc i) vs) (set-append_left p q i v (omega arith)) ∙ sets_front vs (set p i v) q (suc i) (omega (arith, length-set p i v))

module _ (w : List ℕ) (to room : ℕ) {p : List ℕ} (h : to + room ≤ length w) (K : Kept (take (to + room) w) p to) where
  part_long : length p ≡ to + room
  part_long = K.long ∙ length-take-le (to + room) w h

  -- no cell outside the room is changed
  part_outside : Outside to (to + room) w (p ++ drop (to + room) w)
  part_outside = record {
    long = length_front w p (to + room) K.long;
    same = λ j l. ⊎_elim (before j) (behind j) l;
  }
    where
      before : (j : ℕ) → j < to → get_or (p ++ drop (to + room) w) j 0 ≡ get_or w j 0
      before j l =
          get_or-append p (drop (to + room) w) 0 j (omega (arith, part_long))
          ∙ sym (get_or-take to p j 0 l)
          ∙ ap (λ (m : List ℕ). get_or m j 0) K.below
          ∙ get_or-take to (take (to + room) w) j 0 l
          ∙ get_or-take (to + room) w j 0 (omega arith)

      behind : (j : ℕ) → to + room ≤ j → get_or (p ++ drop (to + room) w) j 0 ≡ get_or w j 0
      behind j l =
          let e : j ≡ length p + (j - (to + room)) = omega (arith, part_long) in
          let f : to + room + (j - (to + room)) ≡ j = omega arith in
          ap (λ (k : ℕ). get_or (p ++ drop (to + room) w) k 0) e
          ∙ get_or-append-add p (drop (to + room) w) (j - (to + room)) 0
          ∙ get_or-drop (to + room) w (j - (to + room)) 0
          ∙ ap (λ (k : ℕ). get_or w k 0) f

  -- what is written in the part is written in the whole
  part_sets : (vs : List ℕ) → length vs ≤ room → p ≡ sets (take (to + room) w) to vs → p ++ drop (to + room) w ≡ sets w to vs
  part_sets vs l e =
      ap (λ (m : List ℕ). m ++ drop (to + room) w) e
      ∙ sym (sets_front vs (take (to + room) w) (drop (to + room) w) to (omega (arith, length-take-le (to + room) w h)))
      ∙ ap (λ (m : List ℕ). sets m to vs) (take-append-drop (to + room) w)

  part_whole : {at : ℕ} {vs : List ℕ} → Wrote (take (to + room) w) p to at vs
      → (at ≡ to + length vs) × (p ++ drop (to + room) w ≡ sets w to (take room vs))
  part_whole {at} {vs} R =
      let m : length vs ≤ room = omega (arith, R.ends, R.room, part_long) in
      (R.ends, part_sets vs m R.is ∙ ap (sets w to) (sym (take_all room vs m)))

  part_full : {vs : List ℕ} → Full (take (to + room) w) p to vs → (room < length vs) × (p ++ drop (to + room) w ≡ sets w to (take room vs))
  part_full {vs} F =
      let q : length (take (to + room) w) ≡ to + room = length-take-le (to + room) w h in
      let e : length (take (to + room) w) - to ≡ room = omega arith in
      let m : room ≤ length vs = omega (arith, F.over) in (
        omega (arith, F.over),
        part_sets (take room vs) (omega (arith, length-take-le room vs m)) (F.is ∙ ap (λ (k : ℕ). sets (take (to + room) w) to (take k vs)) e),
      )

-- the part of the store that the walk is lent has its sources where the whole has them; S says where it reads
module _ (S : List ℕ → List ℕ) (w : List ℕ) (to room : ℕ) {top : ℕ} {P : List ℕ → Choice → Type 0} {tb p : List ℕ} {e : ℕ} (h : to + room ≤ length w) where
  pub whole_made : {i at : ℕ} → Ended top P tb (take to (take (to + room) w)) (S (take to (take (to + room) w))) (take (to + room) w) p e to 0 i at
      → WholePost top P tb (S (take to w)) w (p ++ drop (to + room) w) e to room (at - to)
  whole_made {i} {at} G =
      let G' : Ended top P tb (take to w) (S (take to w)) (take (to + room) w) p e to 0 i at = rw (take-take to (to + room) w (omega arith)) at G in
      record {
        confined = record { outside = part_outside w to room h G.kept; answers = inl (omega (arith, G.room, length-take-le (to + room) w h)) };
        made = λ k pk x rest h' f a b.
            let W = part_whole w to room h G.kept (G'.means k pk x rest f a b).wrote in
            record {
              fits = λ m. omega (arith, W.0, size_is_length (graft k 0 x));
              large = λ m. absurd (omega (arith, G.room, length-take-le (to + room) w h, W.0, size_is_length (graft k 0 x)));
              cells_are = W.1;
            };
      }

  pub whole_full : Stopped top P tb (take to (take (to + room) w)) (S (take to (take (to + room) w))) (take (to + room) w) p e to 0
      → WholePost top P tb (S (take to w)) w (p ++ drop (to + room) w) e to room no_room
  whole_full G =
      let G' : Stopped top P tb (take to w) (S (take to w)) (take (to + room) w) p e to 0 = rw (take-take to (to + room) w (omega arith)) at G in
      record {
        confined = record { outside = part_outside w to room h G.kept; answers = inr refl };
        made = λ k pk x rest h' f a b.
            let W = part_full w to room h G.kept (G'.means k pk x rest f a b) in
            record { fits = λ m. absurd (omega (arith, W.0, size_is_length (graft k 0 x))); large = λ m. refl; cells_are = W.1 };
      }

-- the room is not within the store
pub whole_none : {top : ℕ} {P : List ℕ → Choice → Type 0} {tb s w : List ℕ} {e to room : ℕ} → length w < to + room → WholePost top P tb s w w e to room no_room
whole_none h = record {
  confined = record { outside = outside_same; answers = inr refl };
  made = λ k pk x rest h' f a b. absurd (omega arith);
}

-- ---- what lifting and substitution make

module _ {tb w w' : List ℕ} {e number to room r : ℕ} where
  pub raise_post : WholePost cell_values (Stands tb (Lift number)) tb (take to w) w w' e to room r → RaisePost tb w w' e number to room r
  unfolding graft
  raise_post W = record { confined = W.confined; made = λ x rest h f a b. W.made (lifting number) (raises refl) x rest h f a b }

  pub substitute_post : WholePost cell_values (Stands tb (Substitute number)) tb (take to w) w w' e to room r → SubstitutePost tb w w' e number to room r
  unfolding graft
  substitute_post W = record {
    confined = W.confined;
    made = λ x y rx ry h wx wy ax ay b. W.made (substituting y) (substitutes_one refl wy ay) x rx h wx ax b;
  }
