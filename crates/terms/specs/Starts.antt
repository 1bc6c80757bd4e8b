-- Laws: where the arguments of a string start.
use Rattle.std.specs.Prelude.{◌≡◌, refl, ◌⊎◌, List, [], ◌++◌, ℕ, zero, suc, ◌+◌, ◌≤◌, ◌<◌, length, set, take, drop}
use Rattle.std.proofs.Math.Path.{sym, ap}
use Rattle.std.proofs.Common.{◌∙◌, inl, inr, ⊎_elim, append-nil, zero-add, length-append, get_or-set_same, get_or-set_other}
use Rattle.std.proofs.Math.Option.{some}
use native.Mathlib.Omega.{arith}
use Rattle.std.proofs.Math.ListN.{get_or}
use Rattle.aut68.specs.Expr.{Expr, Exprs, nil, cons, size, cells, cellss, count_exprs}
use Rattle.cells.specs.Cells.{AllFormed, Wf, Wfs, At}
use Rattle.cells.specs.Forests.{join, cells_join, size_is_length, at_front, at_second}
use Rattle.cells.specs.Stores.{at_taken}
use Rattle.terms.specs.Made.{argument_at, start_of, StartedTo}
use Rattle.terms.specs.MadeLaws.{fits_or_not}

pub start_first : (xs : Exprs) → start_of xs 0 ≡ 0
unfolding start_of
start_first nil = refl
start_first (cons a xs) = refl

-- the arguments behind those of fs start where fs ends
pub start_join : (fs bs : Exprs) → start_of (join fs bs) (count_exprs fs) ≡ length (cellss fs)
unfolding start_of join count_exprs cellss
start_join nil bs = start_first bs
start_join (cons a fs) bs = omega (arith, start_join fs bs, size_is_length a, length-append (cells a) (cellss fs))

start_later : (a : Expr) (xs : Exprs) (i : ℕ) → start_of (cons a xs) (suc i) ≡ size a + start_of xs i
unfolding start_of
start_later a xs i = refl

-- and the others further on from there
pub start_behind : (fs bs : Exprs) (i : ℕ) → start_of (join fs bs) (count_exprs fs + i) ≡ length (cellss fs) + start_of bs i
unfolding join count_exprs cellss
start_behind nil bs i = let e : 0 + i ≡ i = omega arith in ap (start_of bs) e ∙ sym (zero-add (start_of bs i))
start_behind (cons a fs) bs i =
    let e : suc (count_exprs fs) + i ≡ suc (count_exprs fs + i) = omega arith in
    ap (start_of (cons a (join fs bs))) e ∙ start_later a (join fs bs) (count_exprs fs + i)
    ∙ omega (arith, start_behind fs bs i, size_is_length a, length-append (cells a) (cellss fs))

-- ---- the first n arguments, and the one with number i

-- the first n arguments, and those behind them
pub record Parted (xs : Exprs) (n : ℕ) : Type 0 where
  pub front : Exprs
  pub back : Exprs
  pub whole : xs ≡ join front back
  pub counted : count_exprs front ≡ n

pub parted : (xs : Exprs) (n : ℕ) → n ≤ count_exprs xs → Parted xs n
unfolding count_exprs join
parted xs zero h = record { front = nil; back = xs; whole = refl; counted = refl }
parted nil (suc n) h = absurd (omega arith)
parted (cons a xs) (suc n) h =
    let r = parted xs n (omega arith) in
    record { front = cons a r.front; back = r.back; whole = ap (cons a) r.whole; counted = ap suc r.counted }

-- the arguments before the one with number i, that one, and those behind it
pub record Split (xs : Exprs) (i : ℕ) : Type 0 where
  pub front : Exprs
  pub argument : Expr
  pub back : Exprs
  pub whole : xs ≡ join front (cons argument back)
  pub counted : count_exprs front ≡ i
  pub found : argument_at xs i ≡ some argument

pub split : (xs : Exprs) (i : ℕ) → i < count_exprs xs → Split xs i
unfolding count_exprs join argument_at
split nil i h = absurd (omega arith)
split (cons a xs) zero h = record { front = nil; argument = a; back = xs; whole = refl; counted = refl; found = refl }
split (cons a xs) (suc i) h =
    let r = split xs i (omega arith) in
    record {
      front = cons a r.front;
      argument = r.argument;
      back = r.back;
      whole = ap (cons a) r.whole;
      counted = ap suc r.counted;
      found = r.found;
    }

pub formed_split : (tb : List ℕ) (es fs : Exprs) → Wfs tb (join es fs) → Wfs tb es × Wfs tb fs
unfolding join AllFormed
formed_split tb nil fs w = (tt, w)
formed_split tb (cons e es) fs w = let r = formed_split tb es fs w.1 in ((w.0, r.0), r.1)

module _ {xs : Exprs} {i : ℕ} (r : Split xs i) where
  -- it starts where those before it end
  pub split_start : start_of xs i ≡ length (cellss r.front)
  split_start =
      ap (λ (e : Exprs). start_of e i) r.whole
      ∙ ap (start_of (join r.front (cons r.argument r.back))) (sym r.counted)
      ∙ start_join r.front (cons r.argument r.back)

  split_cells : cellss xs ≡ cellss r.front ++ (cells r.argument ++ cellss r.back)
  unfolding cellss
  split_cells = ap cellss r.whole ∙ cells_join r.front (cons r.argument r.back)

  pub argument_formed : (tb : List ℕ) → Wfs tb xs → Wf tb r.argument
  unfolding AllFormed
  argument_formed tb w = (formed_split tb r.front (cons r.argument r.back) (rw r.whole at w)).1.0

  pub argument_lies : {s rest : List ℕ} {base : ℕ} → At s base (cellss xs) rest → At s (base + start_of xs i) (cells r.argument) (cellss r.back ++ rest)
  argument_lies {s} {rest} {base} a =
      rw split_start
      (at_front (cells r.argument) (cellss r.back)
      (at_second (cellss r.front) (cells r.argument ++ cellss r.back) (rw split_cells at a)))

  -- its cells among those of the string
  pub argument_within : start_of xs i + size r.argument ≤ length (cellss xs)
  argument_within = omega (
    arith,
    split_start,
    size_is_length r.argument,
    ap length split_cells,
    length-append (cellss r.front) (cells r.argument ++ cellss r.back),
    length-append (cells r.argument) (cellss r.back),
  )

  pub argument_taken : take (size r.argument) (drop (start_of xs i) (cellss xs)) ≡ cells r.argument
  argument_taken =
      let a : At (cellss xs) (start_of xs i) (cells r.argument) (cellss r.back ++ []) =
      rw (zero-add (start_of xs i)) at (argument_lies {base = 0} (record { is = sym (append-nil (cellss xs)) }))
      in
      ap (λ (n : ℕ). take n (drop (start_of xs i) (cellss xs))) (size_is_length r.argument) ∙ at_taken a

-- the next one starts behind it
pub start_next : (xs : Exprs) (i : ℕ) (a : Expr) → argument_at xs i ≡ some a → start_of xs (suc i) ≡ start_of xs i + size a
unfolding start_of argument_at
start_next nil i a h = let z : ◌≡◌ {A = ℕ} 0 1 = cc in absurd (omega arith)
start_next (cons b xs) zero a h = let e : b ≡ a = cc in omega (arith, start_first xs, ap size e)
start_next (cons b xs) (suc i) a h = omega (arith, start_next xs i a h)

-- ---- the places, one after the other

module _ {xs : Exprs} {starts : List ℕ} where
  pub started_none : get_or starts 0 0 ≡ 0 → StartedTo 0 xs starts
  unfolding start_of
  started_none h = record {
    place = λ i l k. let e : i ≡ 0 = omega arith in ap (λ (j : ℕ). get_or starts j 0) e ∙ h ∙ sym (start_first xs) ∙ ap (start_of xs) (sym e);
  }

  pub started_more : {n v : ℕ} → StartedTo n xs starts → n + 1 < length starts → v ≡ start_of xs (n + 1) → StartedTo (n + 1) xs (set starts (n + 1) v)
  started_more {n} {v} S l e = record { place = λ i h k. ⊎_elim (earlier i k) (here i) (below_or_not i h) }
    where
      below_or_not : (i : ℕ) → i ≤ n + 1 → (i ≤ n) ⊎ (i ≡ n + 1)
      below_or_not i h = ⊎_elim (λ p. inl p) (λ q. inr (omega arith)) (fits_or_not i n)

      earlier : (i : ℕ) → i < 64 → i ≤ n → get_or (set starts (n + 1) v) i 0 ≡ start_of xs i
      earlier i k h = get_or-set_other starts (n + 1) i v 0 (λ z. omega arith) ∙ S.place i h k

      here : (i : ℕ) → i ≡ n + 1 → get_or (set starts (n + 1) v) i 0 ≡ start_of xs i
      here i h = rw h (get_or-set_same starts (n + 1) v 0 l ∙ e)

  -- the 64 places are taken
  pub started_past : {n m : ℕ} → StartedTo n xs starts → 63 ≤ n → StartedTo m xs starts
  started_past S l = record { place = λ i _ k. S.place i (omega arith) k }

  pub started_less : {n m : ℕ} → StartedTo n xs starts → m ≤ n → StartedTo m xs starts
  started_less S l = record { place = λ i h k. S.place i (omega arith) k }
