use mathlib.Core.Path.{refl}
use Rattle.expressions.specs.Posts.{place_of}
use Rattle.expressions.proofs.NamedLaws.{binding_of, binding_pointed}
use Rattle.expressions.proofs.parts.bound.Goals as goal

pub returns-in-Some : goal.returns-in-Some
returns-in-Some c = binding_pointed (place_of c.args.u) refl (rw c.in-Some.is (rw c.in-Some.is at c.requires.titled))

pub returns-in-None : goal.returns-in-None
returns-in-None c = binding_of (place_of c.args.u) refl c.word.ensures (rw c.in-None.is refl) c.binding.ensures
