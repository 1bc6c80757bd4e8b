use Rattle.std.proofs.Common.{rules}
use Rattle.entries.specs.CollectedLaws.{emptied_part}
use Rattle.entries.proofs.collecting.empty.Goals as goal

pub returns : goal.returns
returns c = emptied_part _ _ c.requires (search rules)
