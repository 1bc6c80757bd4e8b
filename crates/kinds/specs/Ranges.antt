-- A table filled with one kind over a range of bytes.
use Rattle.std.specs.Prelude.{◌≡◌, refl, List, ℕ, zero, suc, ◌+◌, ◌-◌, ◌≤◌, ◌<◌, ◌++◌, length, take, drop, set, replicate}
use Rattle.std.proofs.Common.{ap, ap₂, sym, ◌∙◌, add-one, arith, drop-drop, append_assoc}
use Rattle.std.proofs.Math.ListN.{length-replicate}
use Rattle.std.proofs.lemmas.List.Edits.{sets, sets-eq}
use borrow.Rule.Slice.PartMut.{put_mid}

-- kind k for n bytes from a on
abbrev run : {A : Type 0} → ℕ → ℕ → A → List A → List A
run a zero k ks = ks
run a (suc n) k ks = run (a + 1) n k (set ks a k)

-- kind k for the bytes from a on, up to b, which is not one of them
abbrev pub filled_up_to : {A : Type 0} → ℕ → ℕ → A → List A → List A
filled_up_to a b k ks = run a (b - a) k ks

-- kind k for the bytes from a to b, both among them
abbrev pub filled : {A : Type 0} → ℕ → ℕ → A → List A → List A
filled a b = filled_up_to a (b + 1)

-- ---- laws

pub filled_turn : {A : Type 0} (a b : ℕ) (k : A) (ks : List A) → a < b → filled_up_to a b k ks ≡ filled_up_to (a + 1) b k (set ks a k)
filled_turn a b k ks h = ap (λ (n : ℕ). run a n k ks) one_more
  where
    one_more : b - a ≡ suc (b - (a + 1))
    one_more = omega arith

pub filled_none : {A : Type 0} (a b : ℕ) (k : A) (ks : List A) → b ≤ a → filled_up_to a b k ks ≡ ks
filled_none a b k ks h = ap (λ (n : ℕ). run a n k ks) none
  where
    none : b - a ≡ 0
    none = omega arith

run_is : {A : Type 0} (a n : ℕ) (k : A) (ks : List A) → run a n k ks ≡ sets ks a (replicate n k)
run_is a zero k ks = refl
run_is a (suc n) k ks = run_is (a + 1) n k (set ks a k) ∙ ap (λ (m : ℕ). sets (set ks a k) m (replicate n k)) (add-one a)

-- a part filled at once
pub filled_part : {A : Type 0} (a b : ℕ) (k : A) (ks : List A) {xs : List A} → a ≤ b → b < length ks → xs ≡ replicate (b + 1 - a) k → put_mid a (b + 1 - a) ks xs ≡ filled a b k ks
filled_part {A} a b k ks {xs} h l e =
    let n = b + 1 - a in
    let m : length (replicate n k) ≡ n = length-replicate n k in
    ap₂ (λ (ys zs : List A). take a ks ++ (ys ++ zs)) e (drop-drop n a ks ∙ ap (λ (i : ℕ). drop (a + i) ks) (sym m))
    ∙ sym (append_assoc (take a ks) (replicate n k) (drop (a + length (replicate n k)) ks))
    ∙ sym (sets-eq (replicate n k) ks a (omega arith))
    ∙ sym (run_is a n k ks)
