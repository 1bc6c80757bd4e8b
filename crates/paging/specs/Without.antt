-- Bytes with one value left out, and the text of a line.
use Rattle.std.specs.Prelude.{◌≡◌, ◌≢◌, Bool, eqb, replicate}
use Rattle.std.proofs.Math.Path.{refl, ap}
use Rattle.std.proofs.Common.{sym, ◌∙◌, eqb-true, eq-eqb, ne_eqb}
use Prim.Native.Nat.{ℕ, zero, suc, ◌≤◌}
use native.Mathlib.Omega.{arith}
use Rattle.std.proofs.Math.Bool.{true, false}
use mathlib.Core.List.{[], ◌∷◌, ◌++◌}
use Rattle.std.proofs.Math.ListN.{length}
use Rattle.std.proofs.lemmas.Bool.{eqb-false}
use Rattle.aut68.specs.Bytes.{Bytes}
use Rattle.aut68.specs.Pages.{without, text_of}
use Rattle.reading.specs.Pieces.{Closed, end, byte}

module _ (c : ℕ) where
  pub without_same : (bs : Bytes) → without c (c ∷ bs) ≡ without c bs
  unfolding without
  without_same bs = rw (eq-eqb c c refl, without) refl

  pub without_other : {b : ℕ} (bs : Bytes) → b ≢ c → without c (b ∷ bs) ≡ b ∷ without c bs
  unfolding without
  without_other {b} bs h = rw (ne_eqb b c h, without) refl

  pub without_append : (a b : Bytes) → without c (a ++ b) ≡ without c a ++ without c b
  unfolding without
  without_append [] b = refl
  without_append (x ∷ a) b = go (eqb x c) (without_append a b)
    where
      go : (t : Bool) → without c (a ++ b) ≡ without c a ++ without c b
          → elim t as (λ _. Bytes) [ true ↦ without c (a ++ b) | false ↦ x ∷ without c (a ++ b) ]
          ≡ elim t as (λ _. Bytes) [ true ↦ without c a | false ↦ x ∷ without c a ] ++ without c b
      go true e = e
      go false e = ap (◌∷◌ x) e

  pub without_length : (a : Bytes) → length (without c a) ≤ length a
  unfolding without
  without_length [] = omega arith
  without_length (x ∷ a) = go (eqb x c) (without_length a)
    where
      go : (t : Bool) → length (without c a) ≤ length a → length {A = ℕ} (elim t as (λ _. Bytes) [ true ↦ without c a | false ↦ x ∷ without c a ]) ≤ suc (length a)
      go true h = omega arith
      go false h = omega arith

  pub without_replicate : (n : ℕ) → without c (replicate n c) ≡ []
  unfolding without
  without_replicate zero = refl
  without_replicate (suc n) = without_same (replicate n c) ∙ without_replicate n

-- ---- the text of a line

pub text_space : (bs : Bytes) → text_of (32 ∷ bs) ≡ text_of bs
unfolding text_of
text_space bs = ap (without 10) (without_same 32 bs)

pub text_byte_lem : {b : ℕ} (bs : Bytes) → b ≢ 32 → b ≢ 10 → text_of (b ∷ bs) ≡ b ∷ text_of bs
unfolding text_of
text_byte_lem bs h k = ap (without 10) (without_other 32 bs h) ∙ without_other 10 (without 32 bs) k

-- none of its bytes is 32
pub text_without : (bs : Bytes) → without 32 (text_of bs) ≡ text_of bs
unfolding text_of without
text_without [] = refl
text_without (b ∷ bs) = go (eqb b 32) (eqb b 10) refl refl (text_without bs)
  where
    go : (s t : Bool) → eqb b 32 ≡ s → eqb b 10 ≡ t → without 32 (text_of bs) ≡ text_of bs → without 32 (text_of (b ∷ bs)) ≡ text_of (b ∷ bs)
    go true t e f h = rw (eqb-true b 32 e) (ap (without 32) (text_space bs) ∙ h ∙ sym (text_space bs))
    go false true e f h = rw (eqb-true b 10 f) h
    go false false e f h =
        let p = text_byte_lem bs (eqb-false b 32 e) (eqb-false b 10 f) in
        ap (without 32) p ∙ (without_other 32 (text_of bs) (eqb-false b 32 e) ∙ (ap (◌∷◌ b) h ∙ sym p))

-- of a closed line all but its spaces, ahead of byte 10
pub closed_text : {bs : Bytes} → Closed bs → without 32 bs ≡ text_of bs ++ (10 ∷ [])
unfolding text_of without
closed_text end = refl
closed_text (byte {b} {w} h c) = go (eqb b 32) refl (closed_text c)
  where
    go : (s : Bool) → eqb b 32 ≡ s → without 32 w ≡ text_of w ++ (10 ∷ []) → without 32 (b ∷ w) ≡ text_of (b ∷ w) ++ (10 ∷ [])
    go true e p = rw (eqb-true b 32 e) (without_same 32 w ∙ (p ∙ ap (λ (x : Bytes). x ++ (10 ∷ [])) (sym (text_space w))))
    go false e p =
        without_other 32 w (eqb-false b 32 e) ∙ (ap (◌∷◌ b) p ∙ ap (λ (x : Bytes). x ++ (10 ∷ [])) (sym (text_byte_lem w (eqb-false b 32 e) h)))
