use mathlib.Core.Path.{sym, ap, ◌∙◌}
use Prim.Native.Nat.{ℕ, ◌+◌, ◌*◌, ◌-◌}
use native.Mathlib.Omega.{arith}
use lib.ListN.{get_or}
use Rattle.aut68.specs.Sizes.{row_width}
use Rattle.cells.specs.RowLaws.{row_cell_of_none, row_cell_is, row_cell_past}
use Rattle.cells.proofs.rows.field.Goals as goal
use Rattle.cells.proofs.rows.field.Goals.{then-v-eq0-via-then-v-eq0, then-v-eq0-via-else-v-eq0+then-v-table}

-- the cell of the table that is read
abbrev index : ℕ → ℕ → ℕ
index v k = row_width * (v - 1) + k

pub returns-then-v-eq0 : goal.returns-then-v-eq0
returns-then-v-eq0 c = elim c.then-v-eq0.branch [
  | then-v-eq0-via-then-v-eq0 w ↦ (sym (row_cell_of_none _ _ _ w.if-v-eq0.true), omega arith)
  | then-v-eq0-via-else-v-eq0+then-v-table w ↦ (sym (row_cell_past _ _ _ w.if-v-eq0.false (omega arith)), omega arith)
]

pub returns-in-Some : goal.returns-in-Some
returns-in-Some c =
    let A = c.args in (
      c.in-Some.ensures.lookup.3.1 0
          ∙ ap (λ (i : ℕ). get_or A.table.now i 0) {y = row_width * A.v + A.k - row_width} (omega arith)
          ∙ sym (row_cell_is _ _ _ c.if-v-eq0.false),
      omega (arith, c.type_inv.table (index c.args.v c.args.k)),
    )

pub returns-in-None : goal.returns-in-None
returns-in-None c = (sym (row_cell_past _ _ _ c.if-v-eq0.false (omega (arith, c.in-None.ensures.lookup.3))), omega arith)
