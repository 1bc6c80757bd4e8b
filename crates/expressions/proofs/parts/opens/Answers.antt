use mathlib.Core.Path.{◌≡◌, refl, sym}
use mathlib.Core.Logic.{◌⊎◌, inl, inr}
use mathlib.Core.Bool.{true}
use Rattle.kinds.specs.Kinds.{opens_kind}
use Rattle.kinds.specs.Numbers.{number}
use Rattle.kinds.specs.declared.Kind.{Kind}
use Rattle.kinds.specs.declared.Kind.TheVariants.{Name, Less, Bracket}
use Rattle.kinds.proofs.Tests.{one_of_number}
use Rattle.expressions.proofs.ReadLaws.{opens_closed}
use Rattle.expressions.proofs.parts.opens.Goals as goal

opened : {k : Kind} → (k ≡ Name) ⊎ ((k ≡ Less) ⊎ (k ≡ Bracket)) → true ≡ opens_kind (number k)
unfolding opens_kind
opened (inl e) = rw e refl
opened (inr (inl e)) = rw e refl
opened (inr (inr e)) = rw e refl

pub returns-in-Name : goal.returns-in-Name
returns-in-Name c = opened c.in-Name.is

pub returns-in_default : goal.returns-in_default
returns-in_default c =
    sym (opens_closed _
    (λ e. c.in_default.not-Name (one_of_number _ Name e))
    (λ e. c.in_default.not-Less (one_of_number _ Less e))
    (λ e. c.in_default.not-Bracket (one_of_number _ Bracket e)))
