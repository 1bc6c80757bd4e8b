-- A verdict stays under larger limits, in every cell.
use Rattle.aut68.specs.Language.{Language}
use Rattle.aut68.specs.Demands.{LargerLimits}
use Rattle.orders.proofs.Limits.{same_ending_lem, same_result}

pub larger_limits : (language : Language) → LargerLimits language
unfolding LargerLimits
larger_limits language book m m' s h v = same_result s (same_ending_lem language book m m' h v)
