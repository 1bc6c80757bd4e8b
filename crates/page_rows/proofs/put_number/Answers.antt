use native.Mathlib.Omega.{arith}
use lib.ListN.{length-set}
use Rattle.aut68.specs.Pages.{numbered}
use Rattle.page_rows.proofs.RowLaws.{columns_put}
use Rattle.page_rows.proofs.put_number.Goals as goal

pub bounds-part-4 : goal.bounds-part-4
bounds-part-4 c = simp length-set (omega arith)

pub returns : goal.returns
unfolding numbered
returns c =
    rw (
      c.digit_of.ensures,
      c.digit_of-2.ensures,
      c.digit_of-3.ensures,
      c.digit_of-4.ensures,
      c.digit_of-5.ensures,
    )
    (columns_put _ _ _ _ _ c.args.part.now c.requires)
