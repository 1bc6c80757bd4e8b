use mathlib.Core.Path.{refl}
use Rattle.names.proofs.LinkLaws.{row_linked}
use Rattle.names.proofs.hints.link.Goals as goal

pub returns : goal.returns
returns c = row_linked refl
