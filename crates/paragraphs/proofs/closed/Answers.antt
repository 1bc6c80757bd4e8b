use Rattle.std.proofs.Common.{rules}
use Rattle.paragraphs.proofs.SeekLaws.{gives_closed}
use Rattle.paragraphs.proofs.closed.Goals as goal

pub returns : goal.returns
returns c = gives_closed c.hash-h.ensures (λ i r s. search rules) _ c.seek.ensures
