-- `put_row`: nine cells one after the other.
use mathlib.Core.Path.{◌∙◌}
use Rattle.cells.specs.Cells.{Below}
use Rattle.reader.specs.Posts.{number_of}
use Rattle.storage.proofs.RowLaws.{row_put}
use Rattle.storage.proofs.rows.put_row.Goals as goal

pub shape_of-table : goal.shape_of-table
shape_of-table c =
    c.put_field-9.auto.table
    ∙ c.put_field-8.auto.table
    ∙ c.put_field-7.auto.table
    ∙ c.put_field-6.auto.table
    ∙ c.put_field-5.auto.table
    ∙ c.put_field-4.auto.table
    ∙ c.put_field-3.auto.table
    ∙ c.put_field-2.auto.table
    ∙ c.put_field.auto.table

pub returns : goal.returns
unfolding Below
returns c =
    λ h b.
    let a = c.args in
    row_put a.lines a.first a.l.len a.l.indicator a.l.context (number_of a.l.kind) a.start a.category a.end a.l.paragraph
    a.table.now
    c.put_field.new.table c.put_field-2.new.table c.put_field-3.new.table c.put_field-4.new.table c.put_field-5.new.table
    c.put_field-6.new.table c.put_field-7.new.table c.put_field-8.new.table
    c.put_field-9.new.table
    (c.put_field.ensures h b.0)
    (c.put_field-2.ensures h b.1.0)
    (c.put_field-3.ensures h b.1.1.0)
    (c.put_field-4.ensures h b.1.1.1.0)
    (rw c.into.ensures at (c.put_field-5.ensures h) b.1.1.1.1.0)
    (c.put_field-6.ensures h b.1.1.1.1.1.0)
    (c.put_field-7.ensures h b.1.1.1.1.1.1.0)
    (c.put_field-8.ensures h b.1.1.1.1.1.1.1.0)
    (c.put_field-9.ensures h b.1.1.1.1.1.1.1.1.0)
