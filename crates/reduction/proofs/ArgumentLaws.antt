-- Where the arguments of a constant start, one after the other.
use mathlib.Core.Path.{◌≡◌, refl, ap, ◌∙◌}
use mathlib.Core.List.{List, ◌++◌}
use Prim.Native.Nat.{ℕ, ◌+◌, ◌-◌, ◌≤◌, ◌<◌}
use native.Mathlib.Numerals.{add-one}
use native.Mathlib.Omega.{arith}
use lib.ListN.{length, get_or, set, length-set}
use Rattle.aut68.specs.Sizes.{cell_values}
use Rattle.aut68.specs.Expr.{Exprs, nil, cons, size, cells, cellss, count_exprs}
use Rattle.cells.specs.Cells.{AllFormed, Wfs, At}
use Rattle.cells.specs.Forests.{at_one, cells_one, size_is_length}
use Rattle.cells.specs.Posts.{Skipped}
use Rattle.terms.specs.Made.{start_of, StartedTo}
use Rattle.terms.specs.Starts.{start_first, split, argument_formed, argument_lies, argument_within, start_next, started_none, started_more, started_past, started_less}
use Rattle.reduction.specs.Posts.{ArgumentsAtPost}

-- of the arguments at `at`, the first i are passed, and the next one starts at `next`; starts has become starts'
pub record Listed (tb w : List ℕ) (at count : ℕ) (starts starts' : List ℕ) (i next : ℕ) : Type 0 where
  pub long : length starts' ≡ length starts
  pub few : i ≤ count
  pub means : length starts ≡ 64 → get_or starts 0 0 ≡ 0 → (xs : Exprs) {rest : List ℕ} → count_exprs xs ≡ count → Wfs tb xs → At w at (cellss xs) rest
      → length (cellss xs) < cell_values → StartedTo i xs starts' × (next ≡ at + start_of xs i)

module _ {tb w : List ℕ} {at count : ℕ} {starts : List ℕ} where
  pub listed_none : Listed tb w at count starts starts 0 at
  listed_none = record {
    long = refl;
    few = omega arith;
    means = λ m z xs n f a l. (started_none z, omega (arith, start_first xs));
  }

  -- the argument with number i lies at `next`
  listed_next : {starts' : List ℕ} {i next next' : ℕ} → Listed tb w at count starts starts' i next → Skipped tb w next 1 next' → i < count
      → length starts ≡ 64 → get_or starts 0 0 ≡ 0 → (xs : Exprs) {rest : List ℕ}
      → count_exprs xs ≡ count → Wfs tb xs → At w at (cellss xs) rest → length (cellss xs) < cell_values
      → (next' ≡ at + start_of xs (i + 1)) × (at + start_of xs (i + 1) ≤ at + length (cellss xs))
  unfolding AllFormed count_exprs
  listed_next {i = i} {next} {next'} L S h m z xs {rest} n f a l =
      let s = split xs i (omega arith) in
      let y = s.argument in
      let p : At w next (cells y) (cellss s.back ++ rest) = rw (L.means m z xs n f a l).1 (argument_lies s a) in
      let e : next' ≡ next + length (cellss (cons y nil)) = S.ends (cons y nil) _ refl (argument_formed s tb f, tt) (at_one y p) in
      let b : start_of xs (i + 1) ≡ start_of xs i + size y = ap (start_of xs) (add-one i) ∙ start_next xs i y s.found in
      (omega (arith, (L.means m z xs n f a l).1, ap length (cells_one y), size_is_length y), omega (arith, argument_within s))

  pub listed_more : {starts' : List ℕ} {i next next' : ℕ} → Listed tb w at count starts starts' i next → Skipped tb w next 1 next' → i < 63 → i < count
      → Listed tb w at count starts (set starts' (i + 1) (next' - at)) (i + 1) next'
  listed_more {starts'} {i} {next} {next'} L S h k = record {
    long = length-set starts' (i + 1) (next' - at) ∙ L.long;
    few = omega arith;
    means = λ m z xs n f a l.
        let N = listed_next L S k m z xs n f a l in
        (started_more (L.means m z xs n f a l).0 (omega (arith, L.long)) (omega (arith, N.0)), N.0);
  }

  -- it ends before it starts, or too far on: that is not met
  pub listed_wrong : {starts' : List ℕ} {i next next' : ℕ} → Listed tb w at count starts starts' i next → Skipped tb w next 1 next' → i < count
      → (at ≤ next' → cell_values ≤ next' - at) → ArgumentsAtPost tb w at count starts starts'
  listed_wrong L S k h = record {
    started = λ m z xs n f a l. let N = listed_next L S k m z xs n f a l in absurd (omega (arith, h (omega (arith, N.0)), N.0, N.1));
  }

  -- all are passed, or as many as there are places for
  pub listed_all : {starts' : List ℕ} {i next : ℕ} → Listed tb w at count starts starts' i next → count ≤ i → ArgumentsAtPost tb w at count starts starts'
  listed_all {i = i} L h = record { started = λ m z xs n f a l. started_less (L.means m z xs n f a l).0 (omega arith) }

  pub listed_full : {starts' : List ℕ} {i next : ℕ} → Listed tb w at count starts starts' i next → 63 ≤ i → ArgumentsAtPost tb w at count starts starts'
  listed_full L h = record { started = λ m z xs n f a l. started_past (L.means m z xs n f a l).0 h }
