-- One line of a walk.
use mathlib.Core.Path.{◌≡◌, refl, ap, sym, ◌∙◌}
use mathlib.Core.Logic.{◌≢◌}
use mathlib.Core.Bool.{Bool, true, false, ◌&&◌}
use Prim.Native.Nat.{ℕ, ◌+◌, ◌-◌, ◌≤◌}
use native.Mathlib.Omega.{arith}
use native.Mathlib.Numerals.{add-one}
use lib.Dec.{eqb}
use lib.ListN.{length, take, drop}
use mathlib.Core.List.{[], ◌∷◌}
use lib.Seq.{slice, slice_empty}
use borrow.Author.Tests.{eqb-true, eqb-false, eq-eqb, ne_eqb}
use Rattle.aut68.specs.Bytes.{Bytes, name_byte, same_bytes}
use Rattle.aut68.specs.Rules.Grammar.{plus}
use Rattle.aut68.specs.Procedure.Parse.{signed}
use Rattle.kinds.specs.Kinds.{KindsTable, kind_of, place_or0}
use Rattle.symbols.proofs.SymbolLaws.{part}
use Rattle.headings.specs.Posts.{SignOf, SignRead}
use Rattle.walks.specs.Walk.{name_read, title_of, deep_behind}
use Rattle.walks.specs.WalkLaws.{deep_opening, deep_closing, deep_ordinary, count_opening, count_other, opens_titled, opens_nothing}
use Rattle.walks.specs.Posts.{LinePassed}

plus_kind : 15 ≡ kind_of 43
unfolding kind_of place_or0 name_byte
plus_kind = refl

-- what is read as the line's name is its title; nothing, if the line is malformed
pub title_read : {ks s : Bytes} {start len : ℕ} → SignRead ks s 15 start len → KindsTable ks → take (start + len - start) (drop start s) ≡ title_of s
unfolding title_of name_read
title_read {ks} {s} {start} {len} h t = part s start (start + len) (omega arith) ∙ go (eqb len 0) refl
  where
    go : (z : Bool) → eqb len 0 ≡ z → slice start (start + len) s ≡ title_of s
    go true e =
        let i = eqb-true len 0 e in
        let (rest, m) = h.missing t 43 plus plus_kind i in
        let j : start + len ≡ start = omega arith in
        ap (λ n. slice start n s) j ∙ slice_empty start s ∙ sym (ap name_read m)
    go false e = let (rest, m) = h.read t 43 plus plus_kind (eqb-false len 0 e) in sym (ap name_read m)

-- a line that is malformed has the empty title
pub title_missing : {ks s : Bytes} → SignRead ks s 15 0 0 → KindsTable ks → (word : Bytes) → eqb (length word) 0 ≡ same_bytes word (title_of s)
unfolding same_bytes
title_missing {ks} {s} h t word = empty word ∙ ap (same_bytes word) (title_read h t)
  where
    empty : (word : Bytes) → eqb (length word) 0 ≡ same_bytes word []
    empty [] = refl
    empty (x ∷ xs) = ne_eqb (length (x ∷ xs)) 0 (λ e. omega arith)

module _ {ks s word : Bytes} {deep count k : ℕ} (h : SignOf ks s k) where
  -- a line that opens a paragraph: the one sought, or one of another name or inside another
  pub passed_opening : {found : Bool} → k ≡ 15 → (deep ≡ 0 → KindsTable ks → found ≡ same_bytes word (title_of s)) → (deep ≢ 0 → found ≡ false)
      → LinePassed ks s word deep count (deep + 1) (count + 1) found
  passed_opening {found} e here elsewhere =
      record {
        shallow = omega arith;
        few = omega arith;
        deep_is = λ t. add-one deep ∙ sym (deep_opening s (h.opens t ∙ eq-eqb k 15 e) deep);
        count_is = λ t. add-one count ∙ sym (count_opening s (h.opens t ∙ eq-eqb k 15 e) count);
        found_is = λ t. at t (eqb deep 0) refl ∙ sym (opens_titled s (h.opens t ∙ eq-eqb k 15 e) word deep);
      }
    where
      at : KindsTable ks → (z : Bool) → eqb deep 0 ≡ z → found ≡ (z && same_bytes word (title_of s))
      at t true i = here (eqb-true deep 0 i) t
      at t false i = elsewhere (eqb-false deep 0 i)

  -- any other line
  pub passed_other : {d : ℕ} → k ≢ 15 → d ≤ deep → (k ≡ 16 → d ≡ deep - 1) → (k ≢ 16 → d ≡ deep) → LinePassed ks s word deep count d count false
  passed_other {d} n l closing ordinary =
      record {
        shallow = omega arith;
        few = omega arith;
        deep_is = λ t. at t (eqb k 16) refl;
        count_is = λ t. sym (count_other s (none t) count);
        found_is = λ t. sym (opens_nothing s (none t) word deep);
      }
    where
      none : KindsTable ks → signed 43 s ≡ false
      none t = h.opens t ∙ ne_eqb k 15 n

      at : KindsTable ks → (z : Bool) → eqb k 16 ≡ z → d ≡ deep_behind s deep
      at t true e = closing (eqb-true k 16 e) ∙ sym (deep_closing s (none t) (h.closes t ∙ e) deep)
      at t false e = ordinary (eqb-false k 16 e) ∙ sym (deep_ordinary s (none t) (h.closes t ∙ e) deep)
