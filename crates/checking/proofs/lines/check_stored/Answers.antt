-- `check_stored`: the exchange, the check of the categories, the exchange back or the row.
use mathlib.Core.Path.{refl, sym}
use mathlib.Core.List.{[], ◌∷◌}
use Prim.Native.Nat.{◌+◌, ◌*◌}
use native.Mathlib.Omega.{arith}
use lib.Seq.{length-take-le}
use Rattle.aut68.specs.Sizes.{row_width}
use Rattle.cells.specs.Results.{result_map}
use Rattle.lookup.specs.Answers.{code_nonzero}
use Rattle.reader.specs.Posts.{number_of}
use Rattle.checking.proofs.StoreLaws.{hints_stay, hints_stay_back, result_refused, row_with, category_starts, cells_stored, checked, put_back}
use borrow.Author.Rules.{rules}
use Rattle.checking.proofs.lines.check_stored.Goals as goal

pub slice_bounds-check_cells-end-2 : goal.slice_bounds-check_cells-end-2
slice_bounds-check_cells-end-2 c = sym (length-take-le _ _ (omega (arith, c.exchange.auto.terms)))

pub returns-in-Err : goal.returns-in-Err
returns-in-Err c =
    let a = c.args in
    let x = c.exchange in
    let k = c.check_cells in
    let m = c.sum-category in
    let fits = c.requires in
    let t = c.line_at-to.ensures in
    record {
      long = search rules;
      below =
          hints_stay_back a.limit c.line_at-to.result a.used a.l.size t a.terms.now a.w.now x.ensures.1 c.in-Err.ensures x.new.terms c.exchange-in-Err.ensures.1;
      means =
          λ s. result_refused (code_nonzero _)
          (checked s fits t x.new.terms x.new.w k.new.w m.result a.budget.now _ k.new.budget x.ensures.0 x.ensures.1
          m.ensures c.in-Err.ensures);
      restored =
          λ s n. (
            refl,
            put_back s fits t x.new.terms x.new.w k.new.w m.result a.budget.now _ k.new.budget x.ensures.0
                x.ensures.1 c.in-Err.ensures c.exchange-in-Err.ensures.0,
          );
    }

pub returns : goal.returns
returns c =
    let a = c.args in
    let x = c.exchange in
    let k = c.check_cells in
    let m = c.sum-category in
    let fits = c.requires in
    let t = c.line_at-to.ensures in
    record {
      long = search rules;
      below = hints_stay a.limit c.line_at-to.result a.used a.l.size t a.terms.now a.w.now x.ensures.1 c.in_default.ensures;
      means =
          λ s. result_map
          (λ u h. record {
            table_is =
                λ n b. row_with a.table.now c.put_row.new.table (row_width * a.lines) 4294967296
                (λ y. a.first ∷ a.l.len ∷ a.l.indicator ∷ a.l.context ∷ number_of a.l.kind ∷ a.used ∷ y ∷ (a.used + a.l.size) ∷ a.l.paragraph ∷ []) (m.ensures (category_starts s fits t))
                (c.put_row.ensures n) b;
            terms_are = cells_stored s fits t x.new.terms x.ensures.0;
          })
          (checked s fits t x.new.terms x.new.w k.new.w m.result a.budget.now _ k.new.budget x.ensures.0 x.ensures.1
          m.ensures c.in_default.ensures);
      restored = λ s n. absurd (n refl);
    }
