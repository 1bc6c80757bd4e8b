-- Room for a row, and a row written cell by cell.
use mathlib.Core.Path.{◌≡◌, refl, sym, ap, ◌∙◌}
use mathlib.Core.Bool.{Bool, true, false, not, ◌&&◌, true≢false}
use mathlib.Core.List.{List, [], ◌∷◌}
use Prim.Native.Nat.{ℕ, suc, ◌+◌, ◌*◌, ◌≤◌, ◌<◌}
use native.Mathlib.Omega.{arith}
use lib.Dec.{leb, ltb}
use lib.ListN.{set}
use lib.Seq.{sets}
use Rattle.aut68.specs.Sizes.{line_limit, row_width}
use borrow.Author.Tests.{not-false, ltb-true, leb-true}

-- ---- room

module _ (table terms index lines used entries size names : ℕ) where
  abbrev fits : Bool
  fits = ltb (suc lines) line_limit && leb (row_width * suc lines) table && leb (used + size) terms && leb (entries + suc names) index

  -- what room means
  pub room_facts : {t : Bool} → not t ≡ false → t ≡ fits → (suc lines < line_limit) × (row_width * suc lines ≤ table) × (used + size ≤ terms) × (entries + suc names ≤ index)
  room_facts {t} flag e =
      at (ltb (suc lines) line_limit) (leb (row_width * suc lines) table) (leb (used + size) terms) (leb (entries + suc names) index) refl refl refl refl (sym (not-false t flag) ∙ e)
    where
      at : (a b c d : Bool) → ltb (suc lines) line_limit ≡ a → leb (row_width * suc lines) table ≡ b → leb (used + size) terms ≡ c → leb (entries + suc names) index ≡ d
          → true ≡ (a && b && c && d) → (suc lines < line_limit) × (row_width * suc lines ≤ table) × (used + size ≤ terms) × (entries + suc names ≤ index)
      at true true true true p q r s e = (ltb-true _ _ p, leb-true _ _ q, leb-true _ _ r, leb-true _ _ s)
      at false b c d p q r s e = absurd (true≢false e)
      at true false c d p q r s e = absurd (true≢false e)
      at true true false d p q r s e = absurd (true≢false e)
      at true true true false p q r s e = absurd (true≢false e)

-- ---- a row

-- one cell written, and the rest of the row behind it
one_put : (t t' : List ℕ) (m k i v : ℕ) (vs : List ℕ) → m + k ≡ i → t' ≡ set t (m + k) v → sets t' (suc i) vs ≡ sets t i (v ∷ vs)
one_put t t' m k i v vs e h = ap (λ (x : List ℕ). sets x (suc i) vs) (h ∙ ap (λ (j : ℕ). set t j v) e)

pub row_put : (n a b c d e f g h k : ℕ) (t₀ t₁ t₂ t₃ t₄ t₅ t₆ t₇ t₈ t₉ : List ℕ)
    → t₁ ≡ set t₀ (row_width * n + 0) a → t₂ ≡ set t₁ (row_width * n + 1) b → t₃ ≡ set t₂ (row_width * n + 2) c → t₄ ≡ set t₃ (row_width * n + 3) d
    → t₅ ≡ set t₄ (row_width * n + 4) e → t₆ ≡ set t₅ (row_width * n + 5) f → t₇ ≡ set t₆ (row_width * n + 6) g → t₈ ≡ set t₇ (row_width * n + 7) h
    → t₉ ≡ set t₈ (row_width * n + 8) k → t₉ ≡ sets t₀ (row_width * n) (a ∷ b ∷ c ∷ d ∷ e ∷ f ∷ g ∷ h ∷ k ∷ [])
row_put n a b c d e f g h k t₀ t₁ t₂ t₃ t₄ t₅ t₆ t₇ t₈ t₉ p₁ p₂ p₃ p₄ p₅ p₆ p₇ p₈ p₉ =
    let m = row_width * n in
    one_put t₈ t₉ m 8 (suc (suc (suc (suc (suc (suc (suc (suc m)))))))) k [] (omega arith) p₉
    ∙ one_put t₇ t₈ m 7 (suc (suc (suc (suc (suc (suc (suc m))))))) h (k ∷ []) (omega arith) p₈
    ∙ one_put t₆ t₇ m 6 (suc (suc (suc (suc (suc (suc m)))))) g (h ∷ k ∷ []) (omega arith) p₇
    ∙ one_put t₅ t₆ m 5 (suc (suc (suc (suc (suc m))))) f (g ∷ h ∷ k ∷ []) (omega arith) p₆
    ∙ one_put t₄ t₅ m 4 (suc (suc (suc (suc m)))) e (f ∷ g ∷ h ∷ k ∷ []) (omega arith) p₅
    ∙ one_put t₃ t₄ m 3 (suc (suc (suc m))) d (e ∷ f ∷ g ∷ h ∷ k ∷ []) (omega arith) p₄
    ∙ one_put t₂ t₃ m 2 (suc (suc m)) c (d ∷ e ∷ f ∷ g ∷ h ∷ k ∷ []) (omega arith) p₃
    ∙ one_put t₁ t₂ m 1 (suc m) b (c ∷ d ∷ e ∷ f ∷ g ∷ h ∷ k ∷ []) (omega arith) p₂
    ∙ one_put t₀ t₁ m 0 m a (b ∷ c ∷ d ∷ e ∷ f ∷ g ∷ h ∷ k ∷ []) (omega arith) p₁
