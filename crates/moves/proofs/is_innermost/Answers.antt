use Rattle.moves.proofs.TitleLaws.{innermost_none, innermost_deep, innermost_told}
use Rattle.moves.proofs.is_innermost.Goals as goal
use Rattle.moves.proofs.is_innermost.Goals.{then-d-eq0-via-then-d-eq0, then-d-eq0-via-else-d-eq0+then-d-gt-OPEN_LIMIT}

pub returns-then-d-eq0 : goal.returns-then-d-eq0
returns-then-d-eq0 c =
    elim c.then-d-eq0.branch [
      | then-d-eq0-via-then-d-eq0 w ↦ innermost_none w.if-d-eq0.true
      | then-d-eq0-via-else-d-eq0+then-d-gt-OPEN_LIMIT w ↦ innermost_deep w.if-d-gt-OPEN_LIMIT.true
    ]

pub returns : goal.returns
returns c = innermost_told c.if-d-eq0.false c.part_is.ensures
