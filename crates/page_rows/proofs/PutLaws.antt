-- Bytes put one part after the other over the front of a store.
use mathlib.Core.Path.{◌≡◌, refl, sym, ap, ap₂, ◌∙◌}
use mathlib.Core.List.{[], ◌∷◌, ◌++◌, append_assoc}
use Prim.Native.Nat.{ℕ, ◌+◌, ◌-◌, ◌≤◌, ◌<◌}
use native.Mathlib.Omega.{arith}
use native.Mathlib.Numerals.{add-one}
use lib.ListN.{length, take, drop, set, length-append, length-take, length-drop}
use lib.Seq.{take_at, drop_at, take_all, take-add, take-append_seam, length-take-le, drop-append_seam, drop-drop, set_split}
use Rattle.aut68.specs.Bytes.{Bytes}
use Rattle.aut68.specs.Procedure.Run.{over}

-- more bytes behind the first n
over_behind : (new more old : Bytes) (n : ℕ) → length new ≡ n → take n (over new old) ++ over more (drop n (over new old)) ≡ over (new ++ more) old
unfolding over
over_behind new more old n e =
    ap₂ (λ x y. x ++ (more ++ drop (length more) y)) (take_at new (drop (length new) old) n e) (drop_at new (drop (length new) old) n e)
    ∙ sym (append_assoc new more (drop (length more) (drop (length new) old)))
    ∙ ap (λ x. new ++ more ++ x) (drop-drop (length more) (length new) old ∙ ap (λ j. drop j old) (sym (length-append new more)))

-- a part put at `to`
part_long : (part new : Bytes) (to : ℕ) → to + length part ≤ length new → length (take to new ++ over part (drop to new)) ≡ length new
unfolding over
part_long part new to l = simp (length-append, length-take, length-drop) (omega arith)

byte_over : (b : ℕ) (new : Bytes) (to : ℕ) → to < length new → set new to b ≡ take to new ++ over (b ∷ []) (drop to new)
unfolding over
byte_over b new to l = set_split new to b l ∙ ap (λ x. take to new ++ b ∷ x) (ap (λ j. drop j new) (sym (add-one to)) ∙ sym (drop-drop 1 to new))

-- the first bytes of `whole`, up to `to`, are put over the old ones; these are left
pub record PutSoFar (whole old : Bytes) (to : ℕ) (new rest : Bytes) : Type 0 where
  pub up_to : to ≤ length whole
  pub long : length new ≡ length old
  pub put : new ≡ over (take to whole) old
  pub left : rest ≡ drop to whole

pub put_start : {whole old : Bytes} → PutSoFar whole old 0 old whole
unfolding over
put_start = record { up_to = omega arith; long = refl; put = refl; left = refl }

module _ {whole old : Bytes} {to : ℕ} {new : Bytes} where
  -- a part more, up to `end`
  pub put_more : (part rest : Bytes) {end : ℕ} {new' : Bytes} → PutSoFar whole old to new (part ++ rest) → to + length part ≡ end → end ≤ length old
      → new' ≡ take to new ++ over part (drop to new) → PutSoFar whole old end new' rest
  put_more part rest {end} {new'} h e l p =
      let f : drop to whole ≡ part ++ rest = sym h.left in
      let m : length whole - to ≡ length part + length rest = sym (length-drop to whole) ∙ ap length f ∙ length-append part rest in
      let t : take end whole ≡ take to whole ++ part =
      ap (λ j. take j whole) (sym e) ∙ take-add to (length part) whole ∙ ap (λ x. take to whole ++ take (length part) x) f
      ∙ ap (λ x. take to whole ++ x) (take-append_seam part rest) in
      let d : drop end whole ≡ rest =
      ap (λ j. drop j whole) (sym e) ∙ sym (drop-drop (length part) to whole) ∙ ap (drop (length part)) f ∙ drop-append_seam part rest in
      record {
        up_to = omega (arith, h.up_to);
        long = ap length p ∙ part_long part new to (omega (arith, h.long)) ∙ h.long;
        put =
            p
            ∙ ap (λ x. take to x ++ over part (drop to x)) h.put
            ∙ over_behind (take to whole) part old to (length-take-le to whole h.up_to)
            ∙ ap (λ x. over x old) (sym t);
        left = sym d;
      }

  -- a byte more
  pub put_byte : {b : ℕ} {rest : Bytes} → PutSoFar whole old to new (b ∷ rest) → to < length new → PutSoFar whole old (to + 1) (set new to b) rest
  put_byte {b} {rest} h l = put_more (b ∷ []) rest h refl (omega (arith, h.long)) (byte_over b new to l)

  -- all of them
  pub put_all : PutSoFar whole old to new [] → (to ≡ length whole) × (new ≡ over whole old)
  put_all h =
      let e : to ≡ length whole = omega (arith, h.up_to, length-drop to whole, ap length h.left) in
      (e, h.put ∙ ap (λ x. over x old) (take_all to whole (omega arith)))

  -- there is room for a part more
  pub put_fits : (part rest : Bytes) → PutSoFar whole old to new (part ++ rest) → length whole ≤ length old → to + length part ≤ length new
  put_fits part rest h l = omega (arith, h.up_to, h.long, length-drop to whole, ap length h.left, length-append part rest)
