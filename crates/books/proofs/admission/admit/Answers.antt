-- `admit`: the tests ahead of the lines, the lines, zeros in the working store.
use mathlib.Core.Path.{refl, sym, ◌∙◌}
use native.Mathlib.Omega.{arith}
use lib.Seq.{length-take-le}
use Rattle.aut68.specs.Language.{aut68}
use Rattle.lookup.specs.Answers.{code_nonzero}
use Rattle.books.proofs.AdmissionLaws.{low_limit, high_limit, little_work, long_book, ended}
use Rattle.books.proofs.admission.admit.Goals as goal

pub returns-then-most-lt-SMALLEST_LIMIT : goal.returns-then-most-lt-SMALLEST_LIMIT
returns-then-most-lt-SMALLEST_LIMIT c = rw c.ahead_of_lines.ensures (low_limit aut68 _ _ _ _ c.if-most-lt-SMALLEST_LIMIT.true)

pub returns-then-most-gt-LARGEST_LIMIT : goal.returns-then-most-gt-LARGEST_LIMIT
returns-then-most-gt-LARGEST_LIMIT c =
    rw c.ahead_of_lines-then-most-gt-LARGEST_LIMIT.ensures (high_limit aut68 _ _ _ _ c.if-most-gt-LARGEST_LIMIT.true c.if-most-lt-SMALLEST_LIMIT.false)

pub returns-then-work-n : goal.returns-then-work-n
returns-then-work-n c =
    rw c.ahead_of_lines-then-work-n.ensures (little_work aut68 _ _ _ _ c.if-most-lt-SMALLEST_LIMIT.false c.if-most-gt-LARGEST_LIMIT.false c.if-work-n.true)

pub returns-then-book-gt-BOOK_LIMIT : goal.returns-then-book-gt-BOOK_LIMIT
returns-then-book-gt-BOOK_LIMIT c =
    rw c.ahead_of_lines-then-book-gt-BOOK_LIMIT.ensures
    (long_book aut68 _ _ _ _ c.if-most-lt-SMALLEST_LIMIT.false c.if-most-gt-LARGEST_LIMIT.false c.if-work-n.false c.if-book-gt-BOOK_LIMIT.true c.clear.ensures)

pub slice_bounds-check_lines-end-2 : goal.slice_bounds-check_lines-end-2
slice_bounds-check_lines-end-2 c = sym (length-take-le _ _ c.if-work-n.false)

pub check_lines-e-requires : goal.check_lines-e-requires
check_lines-e-requires c =
    let room = c.if-work-n.false in
    record {
      large = c.if-most-lt-SMALLEST_LIMIT.false;
      small = c.if-most-gt-LARGEST_LIMIT.false;
      enough = (let long = length-take-le _ c.args.work.now room in omega (arith, room, long));
      short = c.if-book-gt-BOOK_LIMIT.false;
    }

pub overflow_cast-lines : goal.overflow_cast-lines
overflow_cast-lines c = (let n = (c.check_lines-e.ensures c.args.work.now).few in omega arith)

pub returns-in-Ok : goal.returns-in-Ok
returns-in-Ok c =
    let room = c.if-work-n.false in
    ended aut68 _ _ _ _ c.if-most-lt-SMALLEST_LIMIT.false c.if-most-gt-LARGEST_LIMIT.false room
    c.check_lines-e.new.w c.if-book-gt-BOOK_LIMIT.false (rw c.in-Ok.is at (c.check_lines-e.ensures c.args.work.now)) (λ z. refl) (λ n. absurd (n refl)) c.spent-steps.ensures
    (c.check_lines-e.auto.w ∙ length-take-le _ _ room) c.clear-2.ensures

pub returns-in-Err : goal.returns-in-Err
returns-in-Err c =
    let room = c.if-work-n.false in
    ended aut68 _ _ _ _ c.if-most-lt-SMALLEST_LIMIT.false c.if-most-gt-LARGEST_LIMIT.false room
    c.check_lines-e.new.w c.if-book-gt-BOOK_LIMIT.false (rw c.in-Err.is at (c.check_lines-e.ensures c.args.work.now)) (λ z. absurd (code_nonzero _ z)) (λ n. refl) c.spent-steps.ensures
    (c.check_lines-e.auto.w ∙ length-take-le _ _ room) c.clear-2.ensures
