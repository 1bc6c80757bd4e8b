use Rattle.std.proofs.Common.{◌≡◌, take}
use Rattle.std.specs.Prelude.{count_by}
use Rattle.page_rows.specs.Posts.{text_byte}
use Rattle.page_rows.proofs.text_length.Given as goal

abbrev pub invariant-loop-b : goal.invariant-loop-b
invariant-loop-b l = l.n ≡ count_by text_byte (take l.b-index l.line)
