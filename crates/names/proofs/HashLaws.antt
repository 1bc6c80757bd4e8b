-- The hash of a word, four bytes at once, and the slot of a hash.
use mathlib.Core.Path.{◌≡◌, refl, sym, ap, ◌∙◌}
use Prim.Native.Nat.{ℕ, min, suc, ◌+◌, ◌-◌, ◌*◌, ◌/◌, ◌%◌, ◌≤◌, ◌<◌}
use native.Mathlib.Omega.{arith}
use native.Mathlib.Numerals.{add-one}
use native.Mathlib.Nat.{mul-le-mul, add-mul-mod_self_left}
use mathlib.Core.Bool.{Bool, true, false}
use lib.Dec.{leb}
use lib.ListN.{length}
use borrow.Author.Tests.{leb-true, leb-false}
use mathlib.Core.List.{[], ◌∷◌}
use Rattle.aut68.specs.Bytes.{Bytes}
use Rattle.symbols.specs.Symbols.{four_at}
use Rattle.names.specs.Hints.{mixed, hash_of, key_at, slots, slot_at, most_slots}
use Rattle.names.specs.HintLaws.{slot_below, slots_most}

-- the first 4 × i bytes are mixed
pub record HashSoFar (word : Bytes) (h i : ℕ) : Type 0 where
  pub small : h < 4294967296
  pub is : h ≡ mixed word i

pub hash_start : {word : Bytes} → HashSoFar word 0 0
unfolding mixed
hash_start = record { small = omega arith; is = refl }

module _ {word : Bytes} {h i : ℕ} (s : HashSoFar word h i) where
  pub hash_more : {x : ℕ} → x ≡ four_at word (4 * i) → HashSoFar word ((h + x) * 2146121005 % 4294967296) (i + 1)
  unfolding mixed
  hash_more {x} ex =
      let e : (h + x) * 2146121005 % 4294967296 ≡ mixed word (suc i) = λ j. (s.is j + ex j) * 2146121005 % 4294967296 in
      record { small = omega arith; is = e ∙ ap (mixed word) (sym (add-one i)) }

  pub hash_last : {x : ℕ} → x ≡ four_at word (length word - 4) → i ≡ (length word - 1) / 4 → (h + x) * 2146121005 % 4294967296 ≡ hash_of word
  unfolding hash_of
  hash_last ex q = λ j. ((s.is ∙ ap (mixed word) q) j + ex j) * 2146121005 % 4294967296

-- shorter ones
pub hash_short : (word : Bytes) {x : ℕ} → length word < 4 → x ≡ four_at word 0 → x * 2146121005 % 4294967296 ≡ hash_of word
hash_short word {x} l ex =
    let z : 0 ≡ length word - 4 = omega arith in
    let s : x ≡ 0 + x = omega arith in
    ap (λ (y : ℕ). y * 2146121005 % 4294967296) s ∙ hash_last hash_start (ex ∙ ap (four_at word) z) (omega arith)

pub hash_empty : (word : Bytes) → length word ≡ 0 → 0 ≡ hash_of word
unfolding four_at
hash_empty [] e = hash_short [] (omega arith) refl
hash_empty (c ∷ cs) e = absurd (omega (arith, e))

-- ---- slots

pub slots_is : (n : ℕ) → min (n / 2) most_slots ≡ slots n
unfolding slots
slots_is n = split (leb (n / 2) most_slots) refl
  where
    split : (t : Bool) → leb (n / 2) most_slots ≡ t → min (n / 2) most_slots ≡ elim t as (λ _. ℕ) [ true ↦ n / 2 | false ↦ most_slots ]
    split true e = omega (arith, leb-true (n / 2) most_slots e)
    split false e = omega (arith, leb-false (n / 2) most_slots e)

-- the key times a number of slots
pub product_below : (n : ℕ) {k m : ℕ} → k < 4294967296 → m ≡ slots n → k * m ≤ 4294967296 * most_slots
product_below n {k} {m} l em = mul-le-mul {n₁ = k} {m₁ = m} {n₂ = 4294967296} {m₂ = most_slots} (omega arith) (omega (arith, slots_most n))

pub key_is : (h q : ℕ) → (h % 4294967296 + 2654435761 * (q % 4294967296)) % 4294967296 ≡ key_at h q
key_is h q =
    let k : ℕ = h % 4294967296 + 2654435761 * (q % 4294967296) in
    let z : ℕ = h / 4294967296 + 2654435761 * (q / 4294967296) in
    let e : k + 4294967296 * z ≡ h + 2654435761 * q = omega arith in
    sym (add-mul-mod_self_left k 4294967296 z) ∙ ap (λ (x : ℕ). x % 4294967296) e

pub slot_is : (n h q : ℕ) {k m : ℕ} → k ≡ key_at h q → m ≡ slots n → k * m / 4294967296 ≡ slot_at n h q
unfolding slot_at
slot_is n h q ek em = λ j. ek j * em j / 4294967296

-- ---- what the checks of `hash` and `slot_at` need

pub ruleset hashes = (hash_empty, hash_short, hash_start, hash_more, hash_last)

pub ruleset slotted = (slot_is, product_below, slot_below, slots_most)
