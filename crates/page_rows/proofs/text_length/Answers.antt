use mathlib.Core.Path.{◌≡◌, ap, ◌∙◌}
use native.Mathlib.Omega.{arith}
use lib.Seq.{take_all}
use Rattle.std.specs.Prelude.{count_by}
use Rattle.std.proofs.lemmas.List.Sums.{count_by-le-length}
use Rattle.page_rows.specs.Posts.{text_byte}
use Rattle.page_rows.proofs.TextLaws.{text_counted}
use Rattle.page_rows.proofs.text_length.Goals as goal

pub returns : goal.returns
returns c =
    let line = c.args.line.now in
    let e : c.loop-b.n ≡ count_by text_byte line = c.loop-b.invariant ∙ ap (count_by text_byte) (take_all c.loop-b.b-index line (omega arith)) in
    let q = e ∙ text_counted line in
    (q, omega (arith, e, count_by-le-length text_byte line))
