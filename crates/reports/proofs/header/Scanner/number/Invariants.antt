use Rattle.std.proofs.Common.{length}
use Rattle.reports.proofs.header.Scanner.number.Given as goal

abbrev pub decreases-loop-b : goal.decreases-loop-b
decreases-loop-b l = length l.self.rest.now
