use Rattle.std.proofs.Common.{length, ◌≤◌}
use Rattle.reports.proofs.report.entries_end.Given as goal

abbrev pub invariant-loop : goal.invariant-loop
invariant-loop l = l.at ≤ length l.index
