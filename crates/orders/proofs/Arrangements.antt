-- `NewArrangements`: an arrangement of a correct book with paragraphs is never called wrong.
use Rattle.std.specs.Prelude.{◌≡◌, List, []}
use Rattle.std.proofs.Common.{ap, sym, ◌∙◌, subst}
use Rattle.aut68.specs.Language.{Language}
use Rattle.aut68.specs.Bytes.{Bytes, joined}
use Rattle.aut68.specs.Paragraphs.{Place, State, outside, start}
use Rattle.aut68.specs.Rules.Derivation.{Derived, Correct}
use Rattle.aut68.specs.Rules.Arrangements.{Signs, Arranges}
use Rattle.aut68.specs.Demands.{Wrongness, NewArrangements}
use Rattle.reading.specs.Pieces.{lines_of_closed}
use Rattle.reading.specs.Closing.{derived_closed}
use Rattle.orders.proofs.Arranging.{arrangement_derived}

module _ (language : Language) where
  -- derived pieces with every paragraph closed are a correct book
  pub derived_correct : {new : List Bytes} {final : State} → Derived language start new final → final.place.opened ≡ [] → Correct language (joined new)
  derived_correct {new} {final} d e = record {
    reached = final;
    derived = subst (λ x. Derived language start x final) (sym (lines_of_closed new (λ w m. derived_closed language d m))) d;
    all_closed = e;
  }

  pub arrangement_correct : {old new signs : List Bytes} {all : State} → Derived language start old all → all.place.opened ≡ [] → Signs language old signs
      → Arranges language old all [] outside signs new → Correct language (joined new)
  arrangement_correct D e s A = let (final, d, q, g) = arrangement_derived language D s A in derived_correct d (ap (λ (z : Place). z.opened) q ∙ e)

  pub new_arrangements : Wrongness language → NewArrangements language
  unfolding NewArrangements Wrongness
  new_arrangements wrong old new signs all m D e s A w = let (k, q, x) = wrong (joined new) m w in x.not_correct (arrangement_correct D e s A)
