use Rattle.moves.proofs.LineLaws.{name_another, name_closed}
use Rattle.moves.proofs.close_line.Goals as goal

pub returns-then-not-is_innermost : goal.returns-then-not-is_innermost
returns-then-not-is_innermost c = λ ks tb n. name_another _ _ c.requires.0 c.is_innermost.ensures c.if-not-is_innermost.true

pub returns : goal.returns
returns c =
    let pre = c.requires in
    λ ks tb n. name_closed _ _ pre.0 c.is_innermost.ensures c.if-not-is_innermost.false pre.1 pre.2 (c.note_closing.ensures _)
