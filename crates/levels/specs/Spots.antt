-- What lies in a unit, and what a frame leaves of it.
use Rattle.std.specs.Prelude.{◌≡◌, refl, List, ◌++◌, ℕ, ◌+◌, ◌*◌, ◌≤◌, ◌<◌, eqb, length, drop}
use Rattle.std.proofs.Common.{sym, ap, ◌∙◌, inl, inr, ⊎_elim, append_assoc, arith, ne_eqb}
use Rattle.aut68.specs.Sizes.{cell_factor, work_units, nesting}
use Rattle.aut68.specs.Expr.{Expr, Exprs, type, prop, var, bound, const, app, abs, size, cells, first_cell, is_type}
use Rattle.aut68.specs.Procedure.Category.{Function}
use Rattle.aut68.specs.Lines.{Line, Lines}
use Rattle.cells.specs.Cells.{At, Outside, copy_cells}
use Rattle.cells.specs.Layout.{levels, unit_at, level_unit, side_unit, scratch_unit, result_unit, unit_below, unit_inside}
use Rattle.cells.specs.Forests.{size_is_length, sizes_is_length, at_inside}
use Rattle.cells.specs.Stores.{at_kept, at_rest}
use Rattle.cells.specs.CopyLaws.{copy_at}
use Rattle.levels.specs.Places.{Lies, FoundAt, LieAll, FunctionIn, Awaits}

-- ---- frames

-- one frame after another
pub frames : {a a' : ℕ} {w w' w'' : List ℕ} → a ≤ a' → Outside a (length w) w w' → Outside a' (length w') w' w'' → Outside a (length w) w w''
frames h p q = record {
  long = q.long ∙ p.long;
  same = λ i k.
      ⊎_elim (λ x. q.same i (inl (omega arith)) ∙ p.same i (inl x))
      (λ x. q.same i (inr (omega (arith, p.long))) ∙ p.same i (inr x)) k;
}

-- ---- units

module _ (limit : ℕ) {level : ℕ} (l : level < levels) where
  -- a level's unit ends where the comparison's begin, or before
  pub level_below : unit_at limit (level_unit level) + limit ≤ unit_at limit (side_unit nesting)
  level_below = unit_below limit (omega arith)

  pub level_scratch : unit_at limit (level_unit level) + limit ≤ unit_at limit scratch_unit
  level_scratch = unit_below limit (omega arith)

  pub level_result : unit_at limit (level_unit level) + limit ≤ unit_at limit result_unit
  level_result = unit_below limit (omega arith)

  pub level_inside : unit_at limit (level_unit level) + limit ≤ work_units * limit
  level_inside = unit_inside limit (omega arith)

-- ---- what lies there still lies there

module _ {from end : ℕ} {w w' : List ℕ} (limit level : ℕ) (p : Outside from end w w') (h : unit_at limit (level_unit level) + limit ≤ from) where
  pub lies_kept : {c : Expr} → Lies w limit level c → Lies w' limit level c
  lies_kept {c} x = record { small = x.small; behind = _; at = at_kept p (inl (omega (arith, size_is_length c, x.small))) x.at }

  pub all_kept : {starts : List ℕ} {xs : Exprs} → LieAll w limit level starts xs → LieAll w' limit level starts xs
  all_kept {xs = xs} x =
      record { small = x.small; started = x.started; behind = _; at = at_kept p (inl (omega (arith, sizes_is_length xs, x.small))) x.at }

  pub function_kept : {domain body : ℕ} {f : Function} → FunctionIn w limit level domain body f → FunctionIn w' limit level domain body f
  function_kept {f = f} x = record {
    small = x.small;
    domain_in = x.domain_in;
    body_in = x.body_in;
    behind_domain = _;
    domain_at = at_kept p (inl (omega (arith, size_is_length f.domain, x.domain_in))) x.domain_at;
    behind_body = _;
    body_at = at_kept p (inl (omega (arith, size_is_length f.body, x.body_in))) x.body_at;
  }

-- cells that were copied into a level's unit
pub copied_found : {s : List ℕ} {from : ℕ} (w : List ℕ) {w' : List ℕ} {limit level n to : ℕ} (e : Expr) {rest : List ℕ} → At s from (cells e) rest → level < levels
    → size e ≤ limit → work_units * limit ≤ length w → n ≡ size e → to ≡ unit_at limit (level_unit level) → w' ≡ copy_cells s from n w to
    → FoundAt w' limit level n e
copied_found {s} {from} w {w'} {limit} {level} {n} {to} e {rest} a l h room z q r =
    let k : n ≡ length (cells e) = z ∙ size_is_length e in
    let c : w' ≡ copy_cells s from (length (cells e)) w (unit_at limit (level_unit level)) =
    r ∙ ap (λ (m : ℕ). copy_cells s from m w to) k ∙ ap (copy_cells s from (length (cells e)) w) q
    in
    record {
      sized = z;
      lies = record {
        small = h;
        behind = drop (unit_at limit (level_unit level) + length (cells e)) w;
        at = rw c (copy_at s from w (unit_at limit (level_unit level)) a (omega (arith, at_inside e a)) (omega (arith, level_inside limit l, size_is_length e)));
      };
    }

-- the levels' units follow each other
pub next_unit : (limit level : ℕ) → unit_at limit (level_unit level) + limit ≤ unit_at limit (level_unit (level + 1))
next_unit limit level = unit_below limit (omega arith)

module _ {ls : Lines} {w : List ℕ} {limit level k base count : ℕ} {starts : List ℕ} {wanted v : ℕ} {l : Line} {earlier : Exprs} where
  -- the earlier arguments stay where they lie
  pub awaits_kept : {w' : List ℕ} {from end : ℕ} → Outside from end w w' → unit_at limit (level_unit level) + limit ≤ from
      → Awaits ls w limit level k base count starts wanted v l earlier → Awaits ls w' limit level k base count starts wanted v l earlier
  awaits_kept o h A = record {
    is_line = A.is_line;
    in_context = A.in_context;
    base_is = A.base_is;
    counted = A.counted;
    few = A.few;
    known = A.known;
    lie = all_kept limit level o h A.lie;
  }

-- two runs, one behind the other
pub at_join : {w : List ℕ} {i j : ℕ} {xs ys rx ry : List ℕ} → j ≡ i + length xs → At w i xs rx → At w j ys ry → At w i (xs ++ ys) ry
at_join {w} {xs = xs} {ys} {rx} {ry} e p q =
    record { is = p.is ∙ ap (λ (l : List ℕ). xs ++ l) (at_rest p ∙ ap (λ (k : ℕ). drop k w) (sym e) ∙ q.is) ∙ sym (append_assoc xs ys ry) }

-- ---- `type`

pub is_type_cell : (c : Expr) → is_type c ≡ eqb (first_cell c) 0
unfolding is_type first_cell
is_type_cell type = refl
is_type_cell prop = refl
is_type_cell (var v) = sym (ne_eqb (cell_factor * v + 1) 0 (λ e. omega arith))
is_type_cell (bound i) = sym (ne_eqb (cell_factor * i + 2) 0 (λ e. omega arith))
is_type_cell (const v xs) = sym (ne_eqb (cell_factor * v + 3) 0 (λ e. omega arith))
is_type_cell (app a b) = refl
is_type_cell (abs p t) = refl
