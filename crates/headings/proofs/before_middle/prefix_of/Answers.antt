use mathlib.Core.Path.{sym}
use Rattle.kinds.specs.declared.Kind.TheVariants.{Name}
use Rattle.kinds.proofs.Tests.{unequal_number, equal_number}
use Rattle.headings.proofs.HeadLaws.{prefix_empty, prefix_malformed, prefix_named, prefix_none}
use Rattle.headings.proofs.before_middle.prefix_of.Goals as goal

pub returns-then-ne : goal.returns-then-ne
returns-then-ne c = prefix_empty c.spaces-start.ensures c.kind_at.ensures (unequal_number _ Name (sym c.if-ne.ensures))

pub returns-in_err-used : goal.returns-in_err-used
returns-in_err-used c =
    prefix_none _ c.from_residual.ensures
    (prefix_malformed c.spaces-start.ensures c.kind_at.ensures (equal_number _ Name (sym c.if-ne.ensures)) c.in_err-used.ensures)

pub returns : goal.returns
returns c = prefix_named c.spaces-start.ensures c.kind_at.ensures (equal_number _ Name (sym c.if-ne.ensures)) c.in_ok-used.ensures
