-- The bits of a number after one was set.
use Rattle.std.specs.Prelude.{◌≡◌, refl, ◌≢◌, true, false, ℕ, zero, suc, ◌+◌, ◌-◌, ◌*◌, ◌/◌, ◌%◌, ◌^◌, ◌<◌, eqb}
use Rattle.std.proofs.Common.{sym, ap, ◌∙◌, mod-lt, one-mul, pow-suc, arith, pow_pos, pow-add}
use Rattle.std.proofs.Math.Nat.{div-eq_of_lt, mul-mod_left}
use Rattle.std.proofs.Math.Decide.{dec_lt}
use Rattle.std.specs.Int.Bits.{bit_and, bit_or, or_zero_r}
use Rattle.std.proofs.lemmas.Nat.{and_mask, or_shr, or_mod, shl-shr}
use Rattle.std.proofs.Math.Pow.{pow-lt}
use Rattle.marks.specs.Marks.{bit_of}

-- the digit as the code takes it
pub digit_is_bit : (x k : ℕ) → eqb (bit_and (x / 2 ^ k) 1) 1 ≡ bit_of x k
unfolding bit_of
digit_is_bit x k = ap (λ (d : ℕ). eqb d 1) (and_mask (x / 2 ^ k) 1)

or_digit : (x y k : ℕ) → bit_or x y / 2 ^ k % 2 ≡ bit_or (x / 2 ^ k % 2) (y / 2 ^ k % 2)
or_digit x y k = ap (λ (n : ℕ). n % 2) (or_shr x y k) ∙ or_mod (x / 2 ^ k) (y / 2 ^ k) 1

pub zero_bit : (k : ℕ) → bit_of 0 k ≡ false
unfolding bit_of
zero_bit k = rw (div-eq_of_lt (pow_pos k))

-- ---- the digits of a power

digit_above : (j k : ℕ) → j < k → 1 * 2 ^ j / 2 ^ k % 2 ≡ 0
digit_above j k h = ap (λ (n : ℕ). n % 2) (div-eq_of_lt (rw one-mul (pow-lt h)))

digit_below : (d k : ℕ) → 1 * 2 ^ (suc d + k) / 2 ^ k % 2 ≡ 0
digit_below d k =
    rw (one-mul, pow-add 2 (suc d) k, shl-shr, pow-suc) (mul-mod_left (2 ^ d) 2)

other_digit : (j k : ℕ) → k ≢ j → 1 * 2 ^ j / 2 ^ k % 2 ≡ 0
other_digit j k n = at (dec_lt j k)
  where
    at : Dec (j < k) → 1 * 2 ^ j / 2 ^ k % 2 ≡ 0
    at (yes h) = digit_above j k h
    at (no h) =
        let e : suc (j - k - 1) + k ≡ j = omega arith in
        ap (λ (i : ℕ). 1 * 2 ^ i / 2 ^ k % 2) (sym e) ∙ digit_below (j - k - 1) k

or_one : (d : ℕ) → d < 2 → bit_or d 1 ≡ 1
or_one zero h = refl
or_one (suc zero) h = refl
or_one (suc (suc d)) h = absurd (omega arith)

-- ---- bit j set

pub set_bit : (x k : ℕ) → bit_of (bit_or x (1 * 2 ^ k)) k ≡ true
unfolding bit_of
set_bit x k = rw (or_digit, shl-shr 1 k, or_one (x / 2 ^ k % 2) (mod-lt _ (omega arith)))

pub other_bit : (x j k : ℕ) → k ≢ j → bit_of (bit_or x (1 * 2 ^ j)) k ≡ bit_of x k
unfolding bit_of
other_bit x j k n = rw (or_digit, other_digit j k n, or_zero_r)
