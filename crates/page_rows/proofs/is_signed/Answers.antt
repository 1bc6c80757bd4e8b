use mathlib.Core.Path.{◌≡◌, refl, sym, ◌∙◌}
use Rattle.std.specs.Prelude.{Some, position}
use Rattle.aut68.specs.Pages.{text_of}
use Rattle.page_rows.specs.Posts.{text_byte}
use native.Mathlib.Omega.{arith}
use borrow.Author.Tests.{eq-eqb, ne_eqb}
use Rattle.page_rows.proofs.TextLaws.{text_begins, begins_within, signed_left, none_left}
use Rattle.page_rows.proofs.is_signed.Goals as goal

pub returns-then-line-i-eq43 : goal.returns-then-line-i-eq43
returns-then-line-i-eq43 c =
    let line = c.args.line.now in
    let e : Some c.in-Some.i ≡ position text_byte line = sym c.in-Some.is ∙ c.first_text.ensures in
    rw (signed_left {line = line} {text = text_of line} (text_begins {line = line} e refl) (begins_within line c.in-Some.i e), eq-eqb _ 43 c.if-line-i-eq43.true)

pub returns-else-line-i-eq43 : goal.returns-else-line-i-eq43
returns-else-line-i-eq43 c =
    let line = c.args.line.now in
    let e : Some c.in-Some.i ≡ position text_byte line = sym c.in-Some.is ∙ c.first_text.ensures in
    rw (signed_left {line = line} {text = text_of line} (text_begins {line = line} e refl) (begins_within line c.in-Some.i e), ne_eqb _ 43 c.if-line-i-eq43.false)

pub returns-in-None : goal.returns-in-None
returns-in-None c = sym (none_left (text_begins (sym c.in-None.is ∙ c.first_text.ensures) refl) (omega arith))
