-- A book that is accepted is correct.
use native.Mathlib.Omega.{arith}
use Rattle.aut68.specs.Language.{Language}
use Rattle.aut68.specs.Demands.{Accepted, Soundness}
use Rattle.lookup.specs.Runs.{run_ends}
use Rattle.verdicts.proofs.BookVerdicts.{ended_correct}

pub soundness : (language : Language) → Soundness language
unfolding Soundness Accepted
soundness language book m h = ended_correct language book m (run_ends language book m) (omega arith)
