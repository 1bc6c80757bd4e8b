-- What is said before line n is said under every larger line limit, and all that is said of shorter books.
use Rattle.std.proofs.Common.{inl, inr}
use Rattle.aut68.specs.Language.{Language}
use Rattle.aut68.specs.Demands.{FormerEndings}
use Rattle.orders.proofs.LineLimits.{verdict_same, few_same}

pub former_endings : (language : Language) → FormerEndings language
unfolding FormerEndings
former_endings language book n m le (inl v) = verdict_same n m le language book v
former_endings language book n m le (inr h) = few_same n m le language book h
