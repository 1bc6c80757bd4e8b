-- Where an argument starts.
use Prim.Native.Nat.{ℕ, ◌+◌, ◌-◌, ◌≤◌, ◌<◌}
use mathlib.Core.Path.{◌≡◌, sym, ap, ◌∙◌}
use mathlib.Core.List.{List, ◌++◌}
use native.Mathlib.Omega.{arith}
use lib.ListN.{length, get_or}
use Rattle.aut68.specs.Expr.{Exprs, cellss, count_exprs}
use Rattle.cells.specs.Cells.{Wfs, At}
use Rattle.cells.specs.Posts.{Skipped}
use Rattle.cells.specs.Forests.{join, cells_join, count_join, count_long, at_length, at_front, at_second}
use Rattle.terms.specs.Made.{start_of, ArgumentsLie}
use Rattle.terms.specs.Starts.{start_join, start_behind, Parted, parted, formed_split}
use Rattle.terms.specs.Grafts.{StartPost}

module _ {tb w : List ℕ} {base count : ℕ} {starts : List ℕ} {i : ℕ} where
  -- there is none past the end of the store
  pub start_none : {r : ℕ} → length w < base → StartPost tb w base count starts i r
  start_none h = record { is = λ xs A l. absurd (omega (arith, at_length A.lies, count_long xs, A.counted)) }

  pub start_listed : i < 64 → StartPost tb w base count starts i (base + get_or starts i 0)
  start_listed h = record { is = λ xs A l. ap (λ (k : ℕ). base + k) (A.started.place i (omega (arith, A.counted)) h) }

  -- behind the last place that is listed
  pub start_past : {r : ℕ} → 64 ≤ i → Skipped tb w (base + get_or starts 63 0) (i - 63) r → StartPost tb w base count starts i r
  start_past {r} h S = record { is = go }
    where
      behind : (xs : Exprs) → ArgumentsLie tb w base count starts xs → (p : Parted xs 63) → Parted p.back (i - 63) → r ≡ base + start_of xs i
      behind xs A p q =
          let n : start_of xs i ≡ length (cellss p.front) + length (cellss q.front) =
          ap (λ (e : Exprs). start_of e i) p.whole
          ∙ ap (start_of (join p.front p.back)) (omega (arith, p.counted))
          ∙ start_behind p.front p.back (i - 63)
          ∙ ap (λ (e : Exprs). length (cellss p.front) + start_of e (i - 63)) q.whole
          ∙ ap (λ (k : ℕ). length (cellss p.front) + start_of (join q.front q.back) k) (sym q.counted)
          ∙ ap (λ (k : ℕ). length (cellss p.front) + k) (start_join q.front q.back)
          in
          let m : get_or starts 63 0 ≡ length (cellss p.front) =
          A.started.place 63 (omega (arith, A.counted, ap count_exprs p.whole, count_join p.front p.back, p.counted)) (omega arith)
          ∙ ap (λ (e : Exprs). start_of e 63) p.whole
          ∙ ap (start_of (join p.front p.back)) (sym p.counted)
          ∙ start_join p.front p.back
          in
          let w₁ = (formed_split tb p.front p.back (rw p.whole at A.formed)).1 in
          let w₂ : Wfs tb q.front = (formed_split tb q.front q.back (rw q.whole at w₁)).0 in
          let a₁ : At w base (cellss p.front ++ cellss p.back) A.rest = rw (ap cellss p.whole ∙ cells_join p.front p.back) at A.lies in
          let a₂ : At w (base + length (cellss p.front)) (cellss q.front ++ cellss q.back) A.rest =
          rw (ap cellss q.whole ∙ cells_join q.front q.back) at (at_second (cellss p.front) (cellss p.back) a₁)
          in
          let S' : Skipped tb w (base + length (cellss p.front)) (i - 63) r = rw m at S in
          omega (arith, n, S'.ends q.front _ q.counted w₂ (at_front (cellss q.front) (cellss q.back) a₂))

      go : (xs : Exprs) → ArgumentsLie tb w base count starts xs → i < count → r ≡ base + start_of xs i
      go xs A l =
          let p = parted xs 63 (omega (arith, A.counted)) in
          behind xs A p (parted p.back (i - 63) (omega (arith, A.counted, ap count_exprs p.whole, count_join p.front p.back, p.counted)))
