-- What a search gives: a number from 1 on that has the property; none, where 0 has it.
use Rattle.std.specs.Prelude.{ℕ, ◌≤◌, Option, Some, None}

abbrev pub Gives : (ℕ → Type 0) → Option ℕ → Type 0
Gives P None = P 0
Gives P (Some v) = (1 ≤ v) × P v

-- one property for another that follows from it
pub gives_so : (P Q : ℕ → Type 0) → ((r : ℕ) → P r → Q r) → (r : Option ℕ) → Gives P r → Gives Q r
gives_so P Q so None g = so 0 g
gives_so P Q so (Some v) g = (g.0, so v g.1)
