-- The working store of work_units × limit cells, in units of `limit` cells:
--     0   13  slots of name lookup
--    13    9  the note of paragraphs, behind the slots' last cell; unit 22 is free
--    23    1  the context of the line that is read; then, with unit 22 and the cell ahead of it, the lines that the line names
--    24    2  the line's cells before storage; then the term cells that they displaced
--    26   36  categories, one unit a level
--    62   64  comparison: left and right side at each depth 1 to 32
--   126    1  scratch: an expression copied from the term store
--   127    1  result: what a substitution, an instantiation or a lift makes, before it is moved in place
-- Whatever works at a unit writes in it and above it alone; so every frame is a unit and all that lies above it.
use Rattle.std.specs.Prelude.{◌≡◌, ℕ, ◌+◌, ◌*◌, ◌-◌, ◌≤◌, ◌<◌}
use Rattle.std.proofs.Common.{arith, add-mul, mul-le-mul_right}
use Rattle.aut68.specs.Sizes.{work_units, largest_limit}

-- where unit k starts
unfoldable pub unit_at : ℕ → ℕ → ℕ
unit_at limit k = k * limit

-- the context of the line that is read
abbrev pub context_unit : ℕ
context_unit = 23

-- the lines that the line names: 2 × limit + 1 cells ahead of its own
abbrev pub names_at : ℕ → ℕ
names_at limit = 22 * limit - 1

-- the two units of the line's cells
abbrev pub line_unit : ℕ
line_unit = 24

-- the units that a reading works in; then one unit for each level of a category
abbrev pub reader_units : ℕ
reader_units = 26

abbrev pub levels : ℕ
levels = 36

abbrev pub level_unit : ℕ → ℕ
level_unit level = reader_units + level

abbrev pub scratch_unit : ℕ
scratch_unit = 126

abbrev pub result_unit : ℕ
result_unit = 127

-- the left side of a pair that may go `deeper` levels deeper; its right side is the unit behind it
abbrev pub side_unit : ℕ → ℕ
side_unit deeper = scratch_unit - 2 * deeper

-- ---- laws: units follow each other without gaps

pub unit_next : (limit k : ℕ) → unit_at limit (k + 1) ≡ unit_at limit k + limit
unfolding unit_at
unit_next limit k = omega (arith, add-mul k 1 limit)

-- a unit lies below every later one
pub unit_below : (limit : ℕ) {j k : ℕ} → j < k → unit_at limit j + limit ≤ unit_at limit k
unfolding unit_at
unit_below limit {j} {k} l =
    let h : (j + 1) * limit ≤ k * limit = mul-le-mul_right limit (omega arith) in
    omega (arith, h, add-mul j 1 limit)

-- every unit of the store lies inside its work_units × limit cells
pub unit_inside : (limit : ℕ) {k : ℕ} → k < work_units → unit_at limit k + limit ≤ work_units * limit
unfolding unit_at
unit_inside limit l = unit_below limit l

-- the last unit's end is the store's
pub result_ends : (limit : ℕ) → unit_at limit result_unit + limit ≡ work_units * limit
unfolding unit_at
result_ends limit = omega arith

-- no unit starts past the largest store
pub unit_small : (limit k : ℕ) → limit ≤ largest_limit → k < work_units → k * limit ≤ work_units * largest_limit
unit_small limit k h l =
    let a : k * limit ≤ work_units * limit = mul-le-mul_right limit (omega arith) in
    omega (arith, a)
