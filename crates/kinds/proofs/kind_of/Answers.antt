use mathlib.Core.Path.{◌≡◌, ◌∙◌}
use borrow.Author.Rules.{rules}
use Prim.Native.Nat.{◌≤◌}
use lib.ListN.{get_or}
use Rattle.kinds.specs.Kinds.{kind_of, kind_last}
use Rattle.kinds.proofs.kind_of.Goals as goal

pub returns : goal.returns
returns c table =
    let e : get_or c.args.kinds.now c.args.b 0 ≡ kind_of c.args.b = table.kind _ (search rules) in
    let l : get_or c.args.kinds.now c.args.b 0 ≤ 16 = rw e (kind_last c.args.b) in
    c.from.ensures.0 l ∙ e
