use Rattle.std.proofs.Common.{rules}
use Rattle.names.specs.Chains.{down_finds}
use Rattle.names.proofs.FindLaws.{search_starts, gives_line}
use Rattle.names.proofs.names.find.Goals as goal

pub returns : goal.returns
returns c =
    gives_line _ _ _ _ _ _ _ _
    (down_finds (λ u p b t e g. let l = g.any in search rules) (λ u p b n e. search rules) (search_starts c.args.q c.head.ensures) c.search.ensures)
