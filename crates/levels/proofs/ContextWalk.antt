-- Going from a line's indicator to that line's indicator, and so on, meets the variables of its context, the last first.
use mathlib.Core.Path.{◌≡◌, refl, sym, ap, ◌∙◌}
use mathlib.Core.List.{List, [], ◌∷◌, ◌++◌}
use Prim.Native.Nat.{ℕ, suc, ◌+◌, ◌-◌, ◌≤◌, ◌<◌}
use native.Mathlib.Omega.{arith}
use native.Mathlib.Decide.{dec_le}
use lib.ListN.{length, get_or, take, set, length-append, length-set}
use lib.Seq.{take_all, take-take, take_at, get_or-take, get_or-append_seam, get_or-set_same, get_or-set_other, length-take-le}
use Rattle.aut68.specs.Sizes.{cell_values, at_indicator, at_context}
use Rattle.aut68.specs.Lines.{Line, Lines, row_cell}
use Rattle.aut68.specs.Rules.Names.{IsLine, Context, no_context, within}
use Rattle.lookup.specs.LineNumbers.{line_within}
use Rattle.heads.specs.Book.{Book}
use Rattle.levels.specs.ContextPosts.{ContextOf, ContextVariable}

-- c is the last of the first `behind` variables
pub record OnWay (ls : Lines) (context : List ℕ) (c behind : ℕ) : Type 0 where
  pub inside : behind ≤ length context
  pub leads : Context ls c (take behind context)

pub record Following (tb : List ℕ) (v c behind : ℕ) : Type 0 where
  pub goes : {ls : Lines} {l : Line} {L : ℕ} {ts : List ℕ} → Book ls L tb ts → IsLine ls v l → OnWay ls l.context c behind

pub follow_start : {tb : List ℕ} {v c behind : ℕ} → c ≡ row_cell tb v at_indicator → behind ≡ row_cell tb v at_context → Following tb v c behind
follow_start {tb} {v} {c} {behind} p q = record {
  goes = λ {ls} {l} B j.
      let R = B.rows.row j in
      let n : behind ≡ length l.context = q ∙ R.context_is in
      let k : Context ls l.indicator l.context = B.contexts j in
      let e : take behind l.context ≡ l.context = take_all behind l.context (omega arith) in
      record { inside = omega arith; leads = rw (e, p ∙ R.indicator_is) k };
}

-- the last variable, its line, and the context before it
record LastStep (ls : Lines) (context : List ℕ) (c n : ℕ) : Type 0 where
  pub line : Line
  pub is : c ≡ get_or context n 0
  pub is_line : IsLine ls c line
  pub before : Context ls line.indicator (take n context)

last_step : {ls : Lines} {us : List ℕ} {c : ℕ} (context : List ℕ) (n : ℕ) → Context ls c us → us ≡ take (suc n) context → suc n ≤ length context → LastStep ls context c n
last_step context n no_context e h =
    let q : length (take (suc n) context) ≡ suc n = length-take-le (suc n) context h in
    let z : 0 ≡ length (take (suc n) context) = ap length e in
    absurd (omega arith)
last_step {ls} context n (within {v = c} {l = l} {vs = vs} j k d) e h =
    let q : length (take (suc n) context) ≡ suc n = length-take-le (suc n) context h in
    let m : length vs ≡ n = omega (arith, ap length e, length-append vs (c ∷ [])) in
    let a : take n context ≡ vs = sym (take-take n (suc n) context (omega arith)) ∙ ap (take n) (sym e) ∙ take_at vs (c ∷ []) n m in
    let b : c ≡ get_or context n 0 =
    sym (get_or-append_seam vs c [] 0) ∙ ap (λ (i : ℕ). get_or (vs ++ (c ∷ [])) i 0) m
    ∙ ap (λ (x : List ℕ). get_or x n 0) e ∙ get_or-take (suc n) context n 0 (omega arith)
    in
    record { line = l; is = b; is_line = j; before = rw a d }

module _ {tb : List ℕ} {v c behind : ℕ} (h : 0 < behind) (F : Following tb v c behind) where
  follow_last : {ls : Lines} {l : Line} {L : ℕ} {ts : List ℕ} → Book ls L tb ts → IsLine ls v l → LastStep ls l.context c (behind - 1)
  follow_last {l = l} B j =
      let W = F.goes B j in
      let e : behind ≡ suc (behind - 1) = omega arith in
      last_step l.context (behind - 1) W.leads (ap (λ (x : ℕ). take x l.context) e) (omega (arith, W.inside))

  pub follow_more : {c' rest : ℕ} → rest ≡ behind - 1 → c' ≡ row_cell tb c at_indicator → Following tb v c' rest
  follow_more e p = record {
    goes = λ B j.
        let S = follow_last B j in
        record { inside = omega (arith, (F.goes B j).inside); leads = rw (e, p ∙ (B.rows.row S.is_line).indicator_is) S.before };
  }

-- ---- one variable

module _ {tb : List ℕ} {v : ℕ} {lines : List ℕ} {i : ℕ} where
  -- it was noted
  pub variable_noted : {r : ℕ} → i < 64 → r ≡ get_or lines i 0 → ContextVariable tb v lines i r
  variable_noted h e = record { means = λ N B j k. e ∙ N.are B j i h k }

  -- the walk has come to it
  pub variable_met : {c behind : ℕ} → behind ≤ i + 1 → (i < row_cell tb v at_context → i < behind) → Following tb v c behind → ContextVariable tb v lines i c
  variable_met {c} {behind} h g F = record {
    means = λ N {ls} {l} B j k.
        let b : i < behind = g (omega (arith, (B.rows.row j).context_is)) in
        let e : behind - 1 ≡ i = omega arith in
        (follow_last (omega arith) F B j).is ∙ ap (λ (x : ℕ). get_or l.context x 0) e;
  }

-- ---- the first 64 of them

-- those from `behind` on are noted, and c is the last of those before
pub record Noting (tb : List ℕ) (v count c behind : ℕ) (lines : List ℕ) : Type 0 where
  pub long : length lines ≡ 64
  pub follows : count ≡ row_cell tb v at_context → Following tb v c behind
  pub noted : count ≡ row_cell tb v at_context → {ls : Lines} {l : Line} {L : ℕ} {ts : List ℕ} → Book ls L tb ts → IsLine ls v l → (i : ℕ) → behind ≤ i → i < 64
      → i < length l.context → get_or lines i 0 ≡ get_or l.context i 0

pub noting_start : {tb : List ℕ} {v count c : ℕ} {lines : List ℕ} → length lines ≡ 64 → c ≡ row_cell tb v at_indicator → Noting tb v count c count lines
noting_start l p = record {
  long = l;
  follows = λ q. follow_start p q;
  noted = λ q B j i h m k. absurd (omega (arith, (B.rows.row j).context_is));
}

module _ {tb : List ℕ} {v count c behind : ℕ} {lines : List ℕ} {c' : ℕ} (h : 0 < behind) (p : c' ≡ row_cell tb c at_indicator) (N : Noting tb v count c behind lines) where
  -- the variable at hand, and the later ones
  noting_with : {lines' : List ℕ} → length lines' ≡ length lines → (c < cell_values → behind - 1 < 64 → get_or lines' (behind - 1) 0 ≡ c)
      → ((i : ℕ) → behind ≤ i → get_or lines' i 0 ≡ get_or lines i 0) → Noting tb v count c' (behind - 1) lines'
  noting_with {lines'} l new old = record {
    long = l ∙ N.long;
    follows = λ q. follow_more h (N.follows q) refl p;
    noted = λ q {ls} {l} B j i g m k. there q B j i g m k (dec_le behind i);
  }
    where
      there : count ≡ row_cell tb v at_context → {ls : Lines} {l : Line} {L : ℕ} {ts : List ℕ} → Book ls L tb ts → IsLine ls v l → (i : ℕ) → behind - 1 ≤ i → i < 64
          → i < length l.context → Dec (behind ≤ i) → get_or lines' i 0 ≡ get_or l.context i 0
      there q B j i g m k (yes y) = old i y ∙ N.noted q B j i y m k
      there q {l = l} B j i g m k (no y) =
          let e : behind - 1 ≡ i = omega arith in
          let S = follow_last h (N.follows q) B j in
          ap (λ (x : ℕ). get_or lines' x 0) (sym e) ∙ new (omega (arith, line_within S.is_line, B.few)) (omega arith) ∙ S.is ∙ ap (λ (x : ℕ). get_or l.context x 0) e

  -- it is past the 64th, or no line has such a number
  pub noting_kept : (behind - 1 < 64 → c < cell_values → ⊥) → Noting tb v count c' (behind - 1) lines
  noting_kept n = noting_with refl (λ s m. absurd (n m s)) (λ i k. refl)

  pub noting_more : {lines' : List ℕ} → behind - 1 < 64 → lines' ≡ set lines (behind - 1) c → Noting tb v count c' (behind - 1) lines'
  noting_more g e =
      rw e (noting_with (length-set lines (behind - 1) c) (λ s m. get_or-set_same lines (behind - 1) c 0 (omega (arith, N.long)))
      (λ i k. get_or-set_other lines (behind - 1) i c 0 (λ z. omega arith)))

pub noting_end : {tb : List ℕ} {v count c behind : ℕ} {lines : List ℕ} → behind ≤ 0 → Noting tb v count c behind lines → ContextOf tb v count lines
noting_end h N = record { means = λ q. record { are = λ B j i m k. N.noted q B j i (omega arith) m k } }
