-- `put_beneath`: what is marked is what is reached, what is written the marked `PN` lines; then the store is cleared.
use mathlib.Core.Path.{sym, subst}
use native.Mathlib.Omega.{arith}
use Rattle.std.proofs.Common.{rules}
use Rattle.reaching.specs.Posts.{MarkedPost}
use Rattle.reaching.specs.Following.{beneath_post}
use Rattle.reaching.proofs.reaching.put_beneath.Goals as goal
use Rattle.reaching.proofs.reaching.put_beneath.Goals.{then-count-answer, else-count-answer}

pub returns : goal.returns
returns c =
    let r = c.mark_reached-count in
    beneath_post
    r.ensures
    (elim c.if-count-answer.branch [
      | then-count-answer a ↦ λ h. subst (MarkedPost _ _ _ _) (sym a.answer-is) a.put_marked.ensures
      | else-count-answer a ↦ λ h. absurd (omega arith)
    ])
    (elim c.if-count-answer.branch [ then-count-answer a ↦ λ h. absurd (omega arith) | else-count-answer a ↦ λ h. a.answer-is ])
    (search rules)
