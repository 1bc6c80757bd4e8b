-- `check_line`: each of its four ends is one of LineLaws.
use mathlib.Core.Path.{ap, refl}
use mathlib.Core.Bool.{not}
use Prim.Native.Nat.{suc, ◌+◌, ◌*◌, ◌≤◌, ◌<◌}
use native.Mathlib.Omega.{arith}
use lib.ListN.{length}
use Rattle.std.proofs.lemmas.Result.{err_from_is_err_and}
use Rattle.aut68.specs.Sizes.{line_limit, row_width}
use Rattle.aut68.specs.Procedure.Answer.{code_of}
use Rattle.lookup.specs.Answers.{code_nonzero}
use Rattle.storage.proofs.RowLaws.{room_facts}
use Rattle.checking.proofs.LineLaws.{ends_unread, ends_full, ends_refused, ends_passed}
use Rattle.checking.proofs.lines.check_line.Goals.{Else-not-has_room}
use Rattle.checking.proofs.lines.check_line.Goals as goal

-- what is known where there is room
room-here : (c : Else-not-has_room)
    → let p = c.args.p.now in
    (suc p.lines < line_limit)
    × (row_width * suc p.lines ≤ length c.args.table.now)
    × (p.used + c.in_ok-l.l.size ≤ length c.args.terms.now)
    × (p.entries + suc c.line_names-names.result ≤ length c.args.index.now)
room-here c =
    let a = c.args in
    let p = a.p.now in
    room_facts (length a.table.now) (length a.terms.now) (length a.index.now) p.lines p.used p.entries c.in_ok-l.l.size
    c.line_names-names.result (ap not c.if-not-has_room.false) c.has_room.ensures

pub slice_bounds-read_line-count : goal.slice_bounds-read_line-count
slice_bounds-read_line-count c = c.requires.0

pub slice_bounds-read_line-start : goal.slice_bounds-read_line-start
slice_bounds-read_line-start c = c.requires.0

pub slice_bounds-read_line-end : goal.slice_bounds-read_line-end
slice_bounds-read_line-end c = c.requires.1

pub returns-in_err-l-clause-line : goal.returns-in_err-l-clause-line
returns-in_err-l-clause-line c =
    let a = c.args in
    let r = c.read_line in
    let p = err_from_is_err_and c.from_residual.result c.from_residual.ensures.1 in
    rw (p.1, p.2)
    (record {
      onward = λ z. absurd (code_nonzero _ z);
      means = λ f t i o z h j g. ends_unread a.table.now h j a.p.now.budget c.requires.0 c.requires.1 f t i o z g c.in_err-l.ensures (code_nonzero _);
    })

pub returns-then-not-has_room-clause-line : goal.returns-then-not-has_room-clause-line
unfolding code_of
returns-then-not-has_room-clause-line c =
    let a = c.args in
    record {
      onward = λ z. absurd (omega arith);
      means =
          λ f t i o z h j g. ends_full a.table.now h j a.p.now.budget c.requires.0 c.requires.1 f t i o z g c.in_ok-l.ensures refl c.line_names-names.ensures
          (ap not c.if-not-has_room.true) c.has_room.ensures;
    }

pub check_stored-requires : goal.check_stored-requires
check_stored-requires c = (room-here (goal.at.check_stored-requires c).Else-not-has_room).2

pub returns-in_err-check_stored-clause-line : goal.returns-in_err-check_stored-clause-line
returns-in_err-check_stored-clause-line c =
    let a = c.args in
    let p = err_from_is_err_and c.from_residual-in_err-check_stored.result c.from_residual-in_err-check_stored.ensures.1 in
    rw (p.1, p.2)
    (record {
      onward = λ z. absurd (code_nonzero _ z);
      means =
          λ f t i o z h j g. ends_refused a.table.now h j a.p.now.budget c.requires.0 c.requires.1 f t i o z g c.in_ok-l.ensures refl c.line_names-names.ensures (ap not c.if-not-has_room.false)
          c.has_room.ensures c.sum-first.ensures c.in_err-check_stored.ensures (code_nonzero _);
    })

pub overflow_add-p : goal.overflow_add-p
overflow_add-p c = omega (arith, (room-here (goal.at.overflow_add-p c).Else-not-has_room).0)

pub overflow_add-p-2 : goal.overflow_add-p-2
overflow_add-p-2 c = omega (arith, (room-here (goal.at.overflow_add-p-2 c).Else-not-has_room).2)

pub overflow_add-p-3 : goal.overflow_add-p-3
overflow_add-p-3 c = omega (arith, (room-here (goal.at.overflow_add-p-3 c).Else-not-has_room).3)

pub overflow_add-p-4 : goal.overflow_add-p-4
overflow_add-p-4 c = omega (arith, (room-here (goal.at.overflow_add-p-4 c).Else-not-has_room).3)

pub returns-clause-line : goal.returns-clause-line
returns-clause-line c =
    let a = c.args in
    record {
      onward = λ z. refl;
      means =
          λ f t i o z h j g. ends_passed a.table.now h j a.p.now.budget c.requires.0 c.requires.1 f t i o z g c.in_ok-l.ensures refl c.line_names-names.ensures (ap not c.if-not-has_room.false)
          c.has_room.ensures c.sum-first.ensures c.in_ok-check_stored.ensures refl c.names_at.ensures c.put_entry.ensures
          c.note_line.ensures;
    }
