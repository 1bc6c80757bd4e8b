-- The marked `PN` lines written one after the other.
use Rattle.std.specs.Prelude.{◌≡◌, refl, true, false, ℕ, suc, ◌+◌, ◌-◌, ◌≤◌, ◌<◌, set}
use Rattle.std.proofs.Math.Path.{sym, ap, ap₂}
use Rattle.std.proofs.Common.{◌∙◌, zero-add, add-one, arith, length-append, length-set, take-append-drop, length-take-le, take-suc-set, drop-set-lt, drop-drop}
use mathlib.Core.List.{List, ◌∷◌, ◌++◌, append-nil}
use Rattle.std.proofs.Math.ListN.{length, take, drop}
use Rattle.std.proofs.Math.Seq.{append_snoc}
use Rattle.aut68.specs.Procedure.Run.{over}
use Rattle.reaching.specs.Primitives.{is_marked_primitive, marked_primitives, primitives_yes, primitives_no}

-- the n of them up to line v are in front of `new`; behind them it is as it was
pub record Writes (tb w old : List ℕ) (line v n : ℕ) (new : List ℕ) : Type 0 where
  pub long : length new ≡ length old
  pub within : n ≤ length old
  pub front : (k : ℕ) → v + k ≡ line → take n new ++ marked_primitives tb w v k ≡ marked_primitives tb w 0 line
  pub behind : drop n new ≡ drop n old

module _ (tb w old : List ℕ) (line : ℕ) where
  pub writes_begin : Writes tb w old line 0 0 old
  writes_begin = record { long = refl; within = omega arith; front = λ k e. ap (marked_primitives tb w 0) (sym (zero-add k) ∙ e); behind = refl }

  -- there is room for the next
  pub writes_room : {v x n : ℕ} {new : List ℕ} → x ≡ suc v → x ≤ line → is_marked_primitive tb w x ≡ true → length (marked_primitives tb w 0 line) ≤ length old
      → Writes tb w old line v n new → n < length old
  writes_room {v} {x} {n} {new} next h p fits s =
      let k = line - x in
      let e = ap length (s.front (suc k) (omega arith)) in
      let f = ap length (primitives_yes tb w v k (ap (is_marked_primitive tb w) (sym next) ∙ p)) in
      let l = s.long in
      let i = s.within in
      omega (arith, length-append (take n new) (marked_primitives tb w v (suc k)), length-take-le n new (omega arith))

  pub writes_put : {v x n : ℕ} {new : List ℕ} → x ≡ suc v → x ≤ line → is_marked_primitive tb w x ≡ true → n < length old
      → Writes tb w old line v n new → Writes tb w old line x (n + 1) (set new n x)
  writes_put {v} {x} {n} {new} next h p room s =
      record {
        long = length-set new n x ∙ s.long;
        within = omega arith;
        front = λ k e.
            ap₂ (λ (m y : ℕ). take m (set new n x) ++ marked_primitives tb w y k) (add-one n) next
            ∙ ap (λ (xs : List ℕ). xs ++ marked_primitives tb w (suc v) k) (take-suc-set new n x (let l = s.long in omega arith))
            ∙ append_snoc (take n new) x (marked_primitives tb w (suc v) k)
            ∙ ap (λ (y : ℕ). take n new ++ y ∷ marked_primitives tb w (suc v) k) next
            ∙ ap (◌++◌ (take n new)) (sym (primitives_yes tb w v k (ap (is_marked_primitive tb w) (sym next) ∙ p)))
            ∙ s.front (suc k) (omega arith);
        behind = drop-set-lt (n + 1) new n x (omega arith) ∙ sym (drop-drop 1 n new) ∙ ap (drop 1) s.behind ∙ drop-drop 1 n old;
      }

  pub writes_skip : {v x n : ℕ} {new : List ℕ} → x ≡ suc v → is_marked_primitive tb w x ≡ false → Writes tb w old line v n new → Writes tb w old line x n new
  writes_skip {v} {x} {n} {new} next p s =
      record {
        long = s.long;
        within = s.within;
        front = λ k e.
            ap (λ (y : ℕ). take n new ++ marked_primitives tb w y k) next
            ∙ ap (◌++◌ (take n new)) (sym (primitives_no tb w v k (ap (is_marked_primitive tb w) (sym next) ∙ p)))
            ∙ s.front (suc k) (omega arith);
        behind = s.behind;
      }

  pub writes_end : {n : ℕ} {new : List ℕ} → Writes tb w old line line n new → new ≡ over (marked_primitives tb w 0 line) old
  unfolding over marked_primitives
  writes_end {n} {new} s =
      let e : take n new ≡ marked_primitives tb w 0 line = sym (append-nil (take n new)) ∙ s.front 0 (omega arith) in
      let l = s.long in
      let i = s.within in
      let c : n ≡ length (marked_primitives tb w 0 line) = sym (length-take-le n new (omega arith)) ∙ ap length e in
      sym (take-append-drop n new) ∙ ap₂ ◌++◌ e (s.behind ∙ ap (λ (m : ℕ). drop m old) c)
