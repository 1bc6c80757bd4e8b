use mathlib.Core.Path.{◌∙◌}
use native.Mathlib.Omega.{arith}
use Rattle.cells.specs.Layout.{unit_at}
use Rattle.entries.specs.NamesLaws.{Placed, first_few, others_few, names_none, names_put}
use Rattle.entries.proofs.entries.line_names.Goals.{After-level_at-spare, then-limit-lt-SMALLEST_LIMIT-via-then-limit-lt-SMALLEST_LIMIT, then-limit-lt-SMALLEST_LIMIT-via-else-limit-lt-SMALLEST_LIMIT+then-limit-gt-LARGEST_LIMIT, then-w-limit-via-then-w-limit, then-w-limit-via-else-w-limit+then-size-limit, then-w-limit-via-else-w-limit+else-size-limit+then-indicator-ge-LINE_LIMIT}
use Rattle.entries.proofs.entries.line_names.Goals as goal

placed : (c : After-level_at-spare)
    → Placed c.args.limit c.args.size c.args.indicator c.args.w.now c.names_at-at.result c.line_at-from.result c.level_at-spare.result
unfolding unit_at
placed c = record {
  large = omega arith;
  small = omega arith;
  room = omega arith;
  short = omega arith;
  is_line = omega arith;
  at_is = c.names_at-at.ensures (omega arith) (omega arith);
  from_is = c.line_at-from.ensures (omega arith);
  slots_is = c.level_at-spare.ensures (omega arith) (omega arith);
}

pub returns-then-limit-lt-SMALLEST_LIMIT : goal.returns-then-limit-lt-SMALLEST_LIMIT
returns-then-limit-lt-SMALLEST_LIMIT c = names_none _ _ _ _ λ a b d s i. elim c.then-limit-lt-SMALLEST_LIMIT.branch [
  | then-limit-lt-SMALLEST_LIMIT-via-then-limit-lt-SMALLEST_LIMIT v ↦ omega arith
  | then-limit-lt-SMALLEST_LIMIT-via-else-limit-lt-SMALLEST_LIMIT+then-limit-gt-LARGEST_LIMIT v ↦ omega arith
]

pub returns-then-w-limit : goal.returns-then-w-limit
returns-then-w-limit c = names_none _ _ _ _ λ a b d s i. elim c.then-w-limit.branch [
  | then-w-limit-via-then-w-limit v ↦ omega arith
  | then-w-limit-via-else-w-limit+then-size-limit v ↦ omega arith
  | then-w-limit-via-else-w-limit+else-size-limit+then-indicator-ge-LINE_LIMIT v ↦ omega arith
]

pub empty-requires : goal.empty-requires
empty-requires c = omega (arith, placed (goal.at.empty-requires c).After-level_at-spare)

pub add_indicator-n-requires : goal.add_indicator-n-requires
add_indicator-n-requires c = omega (arith, placed (goal.at.add_indicator-n-requires c).After-level_at-spare, c.empty.auto.w)

pub collect-count-requires : goal.collect-count-requires
collect-count-requires c =
    omega (arith, placed (goal.at.collect-count-requires c).After-level_at-spare, c.empty.auto.w, c.add_indicator-n.auto.w, first_few _ c.add_indicator-n.ensures)

pub sort-requires : goal.sort-requires
sort-requires c =
    omega (
      arith,
      placed (goal.at.sort-requires c).After-level_at-spare,
      c.empty.auto.w,
      c.add_indicator-n.auto.w,
      first_few _ c.add_indicator-n.ensures,
      c.collect-count.auto.w,
      others_few c.line_at-from.result c.args.size c.collect-count.ensures,
    )

pub shape_of-w : goal.shape_of-w
shape_of-w c = c.sort.auto.w ∙ c.collect-count.auto.w ∙ c.add_indicator-n.auto.w ∙ c.empty.auto.w

pub returns : goal.returns
returns c =
    names_put _ _ _ _ _ _ (placed (goal.at.returns c).After-level_at-spare) c.empty.ensures c.add_indicator-n.ensures c.collect-count.ensures c.sort.ensures
