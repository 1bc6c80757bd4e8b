use Rattle.moves.proofs.LineLaws.{name_taken, name_deep, name_opened}
use Rattle.moves.proofs.open_line.Goals as goal

pub returns-then-is_taken : goal.returns-then-is_taken
returns-then-is_taken c = name_taken _ _ c.requires.0 c.is_taken.ensures c.if-is_taken.true

pub returns-then-d-ge-OPEN_LIMIT : goal.returns-then-d-ge-OPEN_LIMIT
returns-then-d-ge-OPEN_LIMIT c = name_deep _ _ c.requires.0 c.is_taken.ensures c.if-is_taken.false c.if-d-ge-OPEN_LIMIT.true

pub returns : goal.returns
returns c =
    name_opened _ _ c.requires.0 c.is_taken.ensures c.if-is_taken.false c.if-d-ge-OPEN_LIMIT.false c.note_opening.ensures
    c.opened.ensures
