-- What stays below an index of the store: below the scratch unit a step touches its own expression alone.
use Rattle.std.specs.Prelude.{◌≡◌, refl, ◌⊎◌, List, ℕ, ◌+◌, ◌≤◌, ◌<◌, length, get_or, drop}
use Rattle.std.proofs.Common.{sym, ◌∙◌, inl, inr, ⊎_elim, arith}
use Rattle.std.proofs.Math.ListN.{get_or-eq_default}
use Rattle.aut68.specs.Expr.{Expr, cells}
use Rattle.cells.specs.Cells.{At, Outside}
use Rattle.cells.specs.Stores.{at_same}

-- below index top, every cell outside from..end is as it was
pub record Framed (top from end : ℕ) (w w' : List ℕ) : Type 0 where
  pub long : length w' ≡ length w
  pub same : (i : ℕ) → i < top → (i < from) ⊎ (end ≤ i) → get_or w' i 0 ≡ get_or w i 0

-- the expression e lies at index i
pub record Lies (w : List ℕ) (i : ℕ) (e : Expr) : Type 0 where
  pub rest : List ℕ
  pub at : At w i (cells e) rest

-- no cell below top is changed
abbrev pub Quiet : ℕ → List ℕ → List ℕ → Type 0
Quiet top = Framed top top top

pub framed_same : {top from end : ℕ} {w : List ℕ} → Framed top from end w w
framed_same = record { long = refl; same = λ i l h. refl }

pub framed_then : {top from end : ℕ} {w w' w'' : List ℕ} → Framed top from end w w' → Framed top from end w' w'' → Framed top from end w w''
framed_then p q = record { long = q.long ∙ p.long; same = λ i l h. q.same i l h ∙ p.same i l h }

-- a larger part, a lower top
pub framed_more : {top from end top' from' end' : ℕ} {w w' : List ℕ} → top' ≤ top → from' ≤ from → end ≤ end' → Framed top from end w w' → Framed top' from' end' w w'
framed_more t l h p =
    record { long = p.long; same = λ i k d. p.same i (omega arith) (⊎_elim (λ a. inl (omega arith)) (λ a. inr (omega arith)) d) }

-- what is unchanged below top is unchanged outside any part
pub quiet_framed : {top from end : ℕ} {w w' : List ℕ} → Quiet top w w' → Framed top from end w w'
quiet_framed p = record { long = p.long; same = λ i l h. p.same i l (inl l) }

pub outside_framed : {top from end : ℕ} {w w' : List ℕ} → Outside from end w w' → Framed top from end w w'
outside_framed p = record { long = p.long; same = λ i l h. p.same i h }

-- a change at or above top
pub outside_quiet : {top from end : ℕ} {w w' : List ℕ} → top ≤ from → Outside from end w w' → Quiet top w w'
outside_quiet h p = record { long = p.long; same = λ i l d. p.same i (inl (omega arith)) }

-- a run of cells below top that lies outside the part
pub at_framed : {top from end : ℕ} {w w' : List ℕ} {i : ℕ} {xs rest : List ℕ} → Framed top from end w w' → i + length xs ≤ top
    → (i + length xs ≤ from) ⊎ (end ≤ i) → At w i xs rest → At w' i xs (drop (i + length xs) w')
at_framed p t h a = at_same p.long (λ j l k. p.same j (omega arith) (⊎_elim (λ b. inl (omega arith)) (λ b. inr (omega arith)) h)) a

-- what is unchanged below a part is unchanged below any lower one
pub frame_of : {a b a' : ℕ} {w w' : List ℕ} → Outside a b w w' → a' ≤ a → Outside a' (length w) w w'
frame_of {w = w} {w'} p h = record {
  long = p.long;
  same = λ i k.
      ⊎_elim (λ x. p.same i (inl (omega arith)))
      (λ x. get_or-eq_default w' 0 (omega (arith, p.long)) ∙ sym (get_or-eq_default w 0 x)) k;
}

-- what is unchanged below an index, but for a part of it
pub framed_frame : {top from end a : ℕ} {w w' : List ℕ} → Framed top from end w w' → a ≤ from → a ≤ top → Outside a (length w) w w'
framed_frame {w = w} {w'} p h k = record {
  long = p.long;
  same = λ i d.
      ⊎_elim (λ x. p.same i (omega arith) (inl (omega arith)))
      (λ x. get_or-eq_default w' 0 (omega (arith, p.long)) ∙ sym (get_or-eq_default w 0 x)) d;
}
