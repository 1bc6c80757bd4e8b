-- Laws: the parts of two sides, from left to right, by any procedure.
use mathlib.Core.Path.{◌≡◌, refl, sym, ap, subst, ◌∙◌}
use mathlib.Core.Bool.{Bool, true, false}
use mathlib.Core.List.{List, ◌++◌}
use Prim.Native.Nat.{ℕ, suc, ◌+◌, ◌*◌, ◌-◌, ◌≤◌, ◌<◌}
use native.Mathlib.Omega.{arith}
use lib.ListN.{length, get_or, take}
use borrow.Author.Tests.{eq-eqb, ne_eqb}
use Rattle.aut68.specs.Sizes.{largest_limit, work_units, nesting}
use Rattle.aut68.specs.Language.{aut68}
use Rattle.aut68.specs.Expr.{Expr, Exprs, nil, cons, size, sizes, cells, cellss, count_exprs, first_cell, parts}
use Rattle.aut68.specs.Lines.{Lines}
use Rattle.aut68.specs.Procedure.Answer.{Act, Answer, done, stop, and_then, refuse, code_of, mismatch}
use Rattle.aut68.specs.Procedure.Compare.{Comparison, each, has_surplus, compare_parts}
use Rattle.calculus.specs.Resolved.{KnownCategory}
use Rattle.cells.specs.Cells.{At, Outside, AnyVariable, parts_after, AllFormed}
use Rattle.cells.specs.Forests.{size_is_length, sizes_is_length, cells_split, parts_count, at_inside, at_first, at_parts, at_front, at_second, at_one, cells_one, cells_long}
use Rattle.cells.specs.Layout.{unit_at, side_unit}
use Rattle.cells.specs.Posts.{Skipped}
use Rattle.lookup.specs.Answers.{code_nonzero}
use Rattle.cells.specs.Results.{Result, passed, refused, then_refused}
use Rattle.cells.specs.Stores.{outside_same, outside_then, outside_more, outside_below}
use Rattle.heads.specs.Book.{Book, category_wf}
use Rattle.sides.specs.Posts.{Side, Pair, SaysShapes}
use Rattle.sides.proofs.Heads.{EachKnown, known_parts}
use Rattle.sides.proofs.Places.{at_whole}
use Rattle.comparison.specs.Posts.{Levels, ComparesBy, ComparesPartsBy}
use Rattle.comparison.proofs.Depths.{result_is}

-- where the sides of the parts begin: the sides themselves lie below
abbrev pub below : ℕ → ℕ → ℕ
below limit deeper = unit_at limit (side_unit deeper)

-- ---- the procedure

module _ (inner : Comparison) (e f : Expr) (b : ℕ) where
  -- by whether the first cells are the same
  matched : Bool → Answer ℕ (Unit {0})
  matched t = (elim t as (λ _. Act ℕ (Unit {0})) [ true ↦ each inner (parts e) (parts f) | false ↦ refuse mismatch ]) b

  parts_matched : first_cell e ≡ first_cell f → compare_parts aut68 inner e f b ≡ each inner (parts e) (parts f) b
  unfolding compare_parts has_surplus matched
  parts_matched q = ap matched (eq-eqb _ _ q)

  parts_differ : (first_cell e ≡ first_cell f → ⊥) → compare_parts aut68 inner e f b ≡ stop mismatch b
  unfolding compare_parts has_surplus matched
  parts_differ q = ap matched (ne_eqb _ _ q)

count_cons : (e : Expr) (es : Exprs) → count_exprs (cons e es) ≡ suc (count_exprs es)
unfolding count_exprs
count_cons e es = refl

-- ---- what is left of them

-- a string of `count` expressions, each known under k bindings and all of at most `limit` cells, es at index i of s
pub record PartString (ls : Lines) (limit k : ℕ) (s : List ℕ) (count i : ℕ) (es : Exprs) : Type 0 where
  pub counted : count_exprs es ≡ count
  pub known : EachKnown ls k es
  pub small : sizes es ≤ limit
  pub rest : List ℕ
  pub at : At s i (cellss es) rest

-- the strings of e's and f's parts from i and j on are left, with the budget `rest`
pub record PartsLeft (procedure : Levels) (ls : Lines) (limit k deeper : ℕ) (s : List ℕ) (e f : Expr) (budget count i j rest : ℕ) : Type 0 where
  pub es : Exprs
  pub fs : Exprs
  pub left : PartString ls limit (suc k) s count i es
  pub right : PartString ls limit (suc k) s count j fs
  pub goes : compare_parts aut68 (procedure ls limit deeper) e f budget ≡ each (procedure ls limit deeper) es fs rest

-- the same for every two sides that lie at l and r below the deeper frame
pub record PartsInvariant (procedure : Levels) (tb ts w₀ : List ℕ) (limit budget l r deeper : ℕ) (w : List ℕ) (count i j rest : ℕ) : Type 0 where
  pub long : length w ≡ length w₀
  pub frame : limit ≤ largest_limit → deeper ≤ nesting → Outside (below limit deeper) (length w₀) w₀ w
  pub means : (ls : Lines) (k : ℕ) (e f : Expr) → Book ls limit tb ts → k + deeper < 2 * nesting → deeper ≤ nesting → work_units * limit ≤ length w₀
      → Pair ls limit k (take (below limit deeper) w₀) l r e f
      → PartsLeft procedure ls limit k deeper (take (below limit deeper) w₀) e f budget count i j rest

-- ---- before the first part

parts_size : (e : Expr) → size e ≡ suc (sizes (parts e))
parts_size e = omega (arith, size_is_length e, sizes_is_length (parts e), ap length (cells_split e))

module _ (w : List ℕ) (n : ℕ) {ls : Lines} {limit k i : ℕ} {e : Expr} (X : Side ls limit k (take n w) i e) where
  first_cell_lem : get_or w i 0 ≡ first_cell e
  first_cell_lem = at_first e (at_whole w n e X.at)

  inside : i < length w
  inside = omega (arith, at_inside e (at_whole w n e X.at), cells_long e)

  parts_of : {tb ts : List ℕ} {count : ℕ} → Book ls limit tb ts → count ≡ parts_after tb (get_or w i 0)
      → PartString ls limit (suc k) (take n w) count (i + 1) (parts e)
  parts_of {tb} B c = record {
    counted = sym (parts_count AnyVariable tb e (category_wf B.rows k e X.known)) ∙ ap (parts_after tb) (sym first_cell_lem) ∙ sym c;
    known = known_parts ls k e X.known;
    small = omega (arith, parts_size e, X.small);
    rest = X.rest;
    at = at_parts e X.at;
  }

module _ {procedure : Levels} {tb ts w : List ℕ} {limit budget l r deeper count : ℕ} {answer : Bool} (shapes : SaysShapes tb w l r answer count) where
  -- the shapes differ
  pub shapes_differ : answer ≡ true → ComparesPartsBy procedure tb ts w limit budget l r deeper w (code_of mismatch) budget
  shapes_differ z = record {
    frame = λ _ _. outside_same;
    means = λ ls k e f B d d' h P.
        result_is
        (parts_differ (procedure ls limit deeper) e f budget λ q.
        shapes.differ z (inside w (below limit deeper) P.left) (inside w (below limit deeper) P.right)
        (first_cell_lem w (below limit deeper) P.left ∙ q ∙ sym (first_cell_lem w (below limit deeper) P.right))) (refused {r = mismatch} refl);
  }

  -- they match
  pub parts_start : answer ≡ false → PartsInvariant procedure tb ts w limit budget l r deeper w count (l + 1) (r + 1) budget
  parts_start z = let q = (shapes.match z).2 in record {
    long = refl;
    frame = λ _ _. outside_same;
    means = λ ls k e f B d d' h P. record {
      es = parts e;
      fs = parts f;
      left = parts_of w (below limit deeper) P.left B (shapes.match z).3;
      right = parts_of w (below limit deeper) P.right B ((shapes.match z).3 ∙ ap (parts_after tb) q);
      goes =
          parts_matched (procedure ls limit deeper) e f budget
          (sym (first_cell_lem w (below limit deeper) P.left) ∙ q ∙ first_cell_lem w (below limit deeper) P.right);
    };
  }

-- ---- one part after another

-- where an answer is known to go on
passed_is : {code rest : ℕ} {m : Answer ℕ (Unit {0})} → code ≡ 0 → Result (λ _. Unit {0}) code rest m → m ≡ done tt rest
passed_is z (passed e h) = refl
passed_is z (refused {r} e) = absurd (code_nonzero r (sym e ∙ z))

module _ {procedure : Levels} {tb ts w₀ w : List ℕ} {limit budget l r deeper count i j rest : ℕ} (I : PartsInvariant procedure tb ts w₀ limit budget l r deeper w count i j rest) where
  -- none is left
  pub parts_done : count ≡ 0 → ComparesPartsBy procedure tb ts w₀ limit budget l r deeper w 0 rest
  unfolding each
  parts_done z = record { frame = I.frame; means = λ ls k e f B d d' h P. go (I.means ls k e f B d d' h P) }
    where
      none_left : (inner : Comparison) (es fs : Exprs) → count_exprs es ≡ 0 → count_exprs fs ≡ 0 → Result (λ _. Unit {0}) 0 rest (each inner es fs rest)
      none_left inner nil nil p q = passed refl tt
      none_left inner nil (cons y ys) p q = absurd (omega (arith, count_cons y ys))
      none_left inner (cons x xs) fs p q = absurd (omega (arith, count_cons x xs))

      go : {ls : Lines} {k : ℕ} {e f : Expr} {s : List ℕ} → PartsLeft procedure ls limit k deeper s e f budget count i j rest
          → Result (λ _. Unit {0}) 0 rest (compare_parts aut68 (procedure ls limit deeper) e f budget)
      go {ls} L = result_is L.goes (none_left (procedure ls limit deeper) L.es L.fs (L.left.counted ∙ z) (L.right.counted ∙ z))

  -- the next one is compared
  module _ {w₁ : List ℕ} {code rest₁ : ℕ} (more : 0 < count) (C : ComparesBy procedure tb ts w limit rest i j deeper w₁ code rest₁)
      (same_length : length w₁ ≡ length w) where
    frame₁ : limit ≤ largest_limit → deeper ≤ nesting → Outside (below limit deeper) (length w₀) w₀ w₁
    frame₁ h d = outside_then (I.frame h d) (outside_more (omega arith) (omega (arith, I.long)) (C.frame h d))

    module _ (ls : Lines) (k : ℕ) (B : Book ls limit tb ts) (d : k + deeper < 2 * nesting) (d' : deeper ≤ nesting) (h : work_units * limit ≤ length w₀) where
      kept : take (below limit deeper) w ≡ take (below limit deeper) w₀
      kept = outside_below {n = below limit deeper} (omega arith) (I.frame B.limit d')

      -- the next one, below the deeper sides
      first_of : {at : ℕ} (x : Expr) (es : Exprs) → PartString ls limit (suc k) (take (below limit deeper) w₀) count at (cons x es)
          → Side ls limit (suc k) (take (below limit deeper) w) at x
      unfolding EachKnown sizes cellss
      first_of {at} x es S = record {
        known = S.known.0;
        small = omega (arith, S.small);
        rest = _;
        at = subst (λ (z : List ℕ). At z at (cells x) (cellss es ++ S.rest)) (sym kept) (at_front (cells x) (cellss es) S.at);
      }

      compared : (x y : Expr) (es fs : Exprs) → PartString ls limit (suc k) (take (below limit deeper) w₀) count i (cons x es)
          → PartString ls limit (suc k) (take (below limit deeper) w₀) count j (cons y fs)
          → Result (λ _. Unit {0}) code rest₁ (procedure ls limit deeper x y rest)
      compared x y es fs S T =
          C.means ls (suc k) x y B (omega arith) d' (omega (arith, I.long)) (record { left = first_of x es S; right = first_of y fs T })

      stopped : (es fs : Exprs) → (code ≡ 0 → ⊥) → PartString ls limit (suc k) (take (below limit deeper) w₀) count i es
          → PartString ls limit (suc k) (take (below limit deeper) w₀) count j fs
          → Result (λ _. Unit {0}) code rest₁ (each (procedure ls limit deeper) es fs rest)
      unfolding each count_exprs
      stopped nil fs n S T = absurd (omega (arith, S.counted))
      stopped (cons x es) nil n S T = absurd (omega (arith, T.counted))
      stopped (cons x es) (cons y fs) n S T = then_refused (λ _. each (procedure ls limit deeper) es fs) n (compared x y es fs S T)

    -- it is refused
    pub parts_stopped : (code ≡ 0 → ⊥) → ComparesPartsBy procedure tb ts w₀ limit budget l r deeper w₁ code rest₁
    parts_stopped n = record { frame = frame₁; means = λ ls k e f B d d' h P. go ls k B d d' h (I.means ls k e f B d d' h P) }
      where
        go : (ls : Lines) (k : ℕ) {e f : Expr} → Book ls limit tb ts → k + deeper < 2 * nesting → deeper ≤ nesting → work_units * limit ≤ length w₀
            → PartsLeft procedure ls limit k deeper (take (below limit deeper) w₀) e f budget count i j rest
            → Result (λ _. Unit {0}) code rest₁ (compare_parts aut68 (procedure ls limit deeper) e f budget)
        go ls k B d d' h L = result_is L.goes (stopped ls k B d d' h L.es L.fs n L.left L.right)

    -- it is equal: the next ones lie behind it
    module _ {i₁ j₁ : ℕ} (z : code ≡ 0) (first : Skipped tb w₁ i 1 i₁) (second : Skipped tb w₁ j 1 j₁) where
      module _ (ls : Lines) (k : ℕ) (B : Book ls limit tb ts) (d : k + deeper < 2 * nesting) (d' : deeper ≤ nesting) (h : work_units * limit ≤ length w₀) where
        -- past one expression
        behind : {at end : ℕ} → Skipped tb w₁ at 1 end → (x : Expr) {rest : List ℕ} → KnownCategory ls (suc k) x
            → At (take (below limit deeper) w₀) at (cells x) rest → end ≡ at + length (cells x)
        unfolding count_exprs AllFormed
        behind {at} {end} s x {rest} u p =
            let q : take (below limit deeper) w₁ ≡ take (below limit deeper) w₀ =
            outside_below {n = below limit deeper} (omega arith) (frame₁ B.limit d')
            in
            let a = at_whole w₁ (below limit deeper) x (subst (λ (y : List ℕ). At y at (cells x) rest) (sym q) p) in
            s.ends (cons x nil) _ refl (category_wf B.rows (suc k) x u, tt) (at_one x a) ∙ ap (λ (c : List ℕ). at + length c) (cells_one x)

        others_lie : {at end : ℕ} → Skipped tb w₁ at 1 end → (x : Expr) (es : Exprs)
            → PartString ls limit (suc k) (take (below limit deeper) w₀) count at (cons x es)
            → PartString ls limit (suc k) (take (below limit deeper) w₀) (count - 1) end es
        unfolding EachKnown count_exprs sizes cellss
        others_lie s x es S = record {
          counted = omega (arith, S.counted);
          known = S.known.1;
          small = omega (arith, S.small);
          rest = S.rest;
          at =
              subst (λ (n : ℕ). At (take (below limit deeper) w₀) n (cellss es) S.rest)
              (sym (behind s x S.known.0 (at_front (cells x) (cellss es) S.at))) (at_second (cells x) (cellss es) S.at);
        }

        goes_on : {e f : Expr} (es fs : Exprs) → PartString ls limit (suc k) (take (below limit deeper) w₀) count i es
            → PartString ls limit (suc k) (take (below limit deeper) w₀) count j fs
            → compare_parts aut68 (procedure ls limit deeper) e f budget ≡ each (procedure ls limit deeper) es fs rest
            → PartsLeft procedure ls limit k deeper (take (below limit deeper) w₀) e f budget (count - 1) i₁ j₁ rest₁
        unfolding each count_exprs and_then
        goes_on nil fs S T g = absurd (omega (arith, S.counted))
        goes_on (cons x es) nil S T g = absurd (omega (arith, T.counted))
        goes_on (cons x es) (cons y fs) S T g = record {
          es = es;
          fs = fs;
          left = others_lie first x es S;
          right = others_lie second y fs T;
          goes = g ∙ ap (and_then (λ _. each (procedure ls limit deeper) es fs)) (passed_is z (compared ls k B d d' h x y es fs S T));
        }

      pub parts_next : PartsInvariant procedure tb ts w₀ limit budget l r deeper w₁ (count - 1) i₁ j₁ rest₁
      parts_next = record {
        long = same_length ∙ I.long;
        frame = frame₁;
        means = λ ls k e f B d d' h P. let L = I.means ls k e f B d d' h P in goes_on ls k B d d' h L.es L.fs L.left L.right L.goes;
      }
