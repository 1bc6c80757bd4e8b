use Rattle.std.proofs.Common.{rules}
use Rattle.paragraphs.proofs.SeekLaws.{gives_plain}
use Rattle.paragraphs.proofs.plain.Goals as goal

pub returns : goal.returns
returns c = gives_plain c.hash-h.ensures (λ i r s. search rules) _ c.seek.ensures
