use mathlib.Core.Path.{ap, ◌∙◌}
use Rattle.aut68.specs.Bytes.{same_bytes}
use Rattle.walks.proofs.LineLaws.{title_read, title_missing}
use Rattle.walks.proofs.titled.Goals as goal

pub returns-in-Some : goal.returns-in-Some
returns-in-Some c = λ t.
    let s = rw c.into.ensures at c.in-Some.ensures.1 in
    c.same_bytes.ensures ∙ ap (same_bytes _) (title_read s t)

pub returns-in-None : goal.returns-in-None
returns-in-None c = λ t.
    let s = rw c.into.ensures at c.in-None.ensures in
    c.is_empty.ensures ∙ title_missing s t _
