-- AUT-68 inside AUT-QE.
use Rattle.aut68.specs.Language.{aut68, aut_qe}
use Rattle.aut68.specs.Bytes.{Bytes, lines}
use Rattle.aut68.specs.Rules.Derivation.{Correct}
use Rattle.aut68.specs.Rules.WithoutProp.{BookWithoutProp}
use Rattle.aut68.specs.Demands.{Soundness, AcceptedInside}
use Rattle.inclusion.proofs.Derivations.{book_inside}
use Rattle.verdicts.proofs.Soundness.{soundness}

correct_inside : (book : Bytes) → Correct aut68 book → BookWithoutProp (lines book) → Correct aut_qe book
correct_inside book h without = record { reached = h.reached; derived = book_inside h.derived without; all_closed = h.all_closed }

pub accepted_inside : AcceptedInside
unfolding AcceptedInside Soundness
accepted_inside book m a without = correct_inside book (soundness aut68 book m a).0 without
