-- A line whose first name that is not in order has a fault is refused with that fault's code.
use Rattle.std.specs.Prelude.{◌≡◌, List, ℕ}
use Rattle.aut68.specs.Language.{Language}
use Rattle.aut68.specs.Stores.{Limits}
use Rattle.aut68.specs.Bytes.{Bytes}
use Rattle.aut68.specs.Paragraphs.{State, start}
use Rattle.aut68.specs.Procedure.Answer.{stop}
use Rattle.aut68.specs.Procedure.CheckLine.{check_line}
use Rattle.aut68.specs.Rules.NameFaults.{FirstName}
use Rattle.aut68.specs.Rules.Derivation.{Derived}
use Rattle.lookup.specs.NameFaults.{NameRefusal, refusal_for, FaultFor}
use Rattle.lookup.specs.DerivedBooks.{distinct_names, right_contexts}
use Rattle.reading.specs.Stages.{name_unread, unread_stops}

module _ (language : Language) (st : State) (bytes : Bytes) {past : List Bytes} (D : Derived language start past st) (m : Limits) (b : ℕ) where
  pub name_stops : (n : NameRefusal) → FirstName language st bytes (FaultFor n) → check_line language st m bytes b ≡ stop (refusal_for n) b
  name_stops n x = unread_stops language st m bytes b (name_unread language st m.limit bytes (distinct_names D) (right_contexts D) n x)
