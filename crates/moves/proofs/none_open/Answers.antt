use mathlib.Core.Path.{refl}
use lib.ListN.{length-replicate}
use Rattle.moves.specs.Posts.{nowhere, no_title}
use Rattle.moves.proofs.none_open.Goals as goal

pub returns : goal.returns
returns c = λ book. record { long = length-replicate 32 nowhere; depth_is = refl; titled = no_title }
