-- Books with all arguments written, and rearrangements judged on completed lines.
use Rattle.std.specs.Prelude.{◌≡◌, refl, ◌↔◌, List, [], ℕ}
use Rattle.std.proofs.Math.Path.{ap}
use Rattle.aut68.specs.Language.{Language}
use Rattle.aut68.specs.Stores.{Limits}
use Rattle.aut68.specs.Bytes.{Bytes, lines, joined}
use Rattle.aut68.specs.Lines.{Lines}
use Rattle.aut68.specs.Paragraphs.{Place, State, outside, start}
use Rattle.aut68.specs.Rules.Derivation.{Derived}
use Rattle.aut68.specs.Rules.Orders.{Permutation}
use Rattle.aut68.specs.Procedure.Answer.{code_of, unknown_name}
use Rattle.aut68.specs.Procedure.Run.{run, state_of, code_at, line_at, recorded_at}
use Rattle.aut68.specs.Demands.{Accepted, Verdict, RightInOrder, NoParagraphs, NewOrders}
use Rattle.lookup.specs.Former.{FormerDerived, no_more, former_book}
use Rattle.verdicts.proofs.BookVerdicts.{correct_accepted}
use Rattle.orders.specs.FlatBooks.{book_flat}
use Rattle.orders.proofs.CompletedOrders.{CompletedOrder, CompletedFirst, same_order, same_first}
use Rattle.theorems.specs.Demands.{right_in_every_order}

module _ (language : Language) where
  -- A book that was correct when every argument had to be written is correct, and its lines mean what they meant.
  pub formerly_correct : {pieces : List Bytes} {st : State} → FormerDerived language start pieces st → Derived language start pieces st
  formerly_correct h = former_book h

  -- it had no paragraphs
  former_place : {st all : State} {pieces : List Bytes} → FormerDerived language st pieces all → all.place ≡ st.place
  former_place no_more = refl
  former_place (FormerDerived.line d h) = former_place h

  -- So a verdict on it is 'accepted', and the lines recorded are those that it meant.
  pub formerly_accepted : (book : Bytes) (m : Limits) {st : State} → FormerDerived language start (lines book) st → Verdict (run language book m)
      → Accepted (run language book m) × (state_of (recorded_at (run language book m)) ≡ st)
  unfolding start outside
  formerly_accepted book m {st} h v =
      correct_accepted language book m (record { reached = st; derived = formerly_correct h; all_closed = ap (λ (z : Place). z.opened) (former_place h) }) v

  -- Demand 3 on completed lines: accepted exactly when each completed line stands behind the lines it names, else 5 at the first
  -- that does not.
  abbrev pub RightInCompletedOrder : List Bytes → Lines → List Bytes → ℕ → ℕ → Type 0
  RightInCompletedOrder old ms new code line =
      ((code ≡ 0) ↔ CompletedOrder language old ms [] new)
      × (¬ CompletedOrder language old ms [] new → (k : ℕ) × CompletedFirst language old ms [] new k × (code ≡ code_of unknown_name) × (line ≡ k))

  pub right_in_every_completed_order : (old new : List Bytes) (st : State) (m : Limits)
      → Derived language start old st
      → NoParagraphs language old
      → Permutation old new
      → Verdict (run language (joined new) m)
      → RightInCompletedOrder old st.earlier new (code_at (run language (joined new) m)) (line_at (run language (joined new) m))
  unfolding NewOrders RightInOrder
  right_in_every_completed_order old new st m E o P v =
      let r = right_in_every_order language old new m (record { reached = st; derived = E }) o P v in
      let (D, e) = book_flat o E in
      let (to, from) = same_order language D P in
      ((λ e. to (r.0.0 e), λ o. r.0.1 (from o)), λ n. (let (k, f, c, l) = r.1 (λ o. n (to o)) in (k, (same_first language D P).0 f, c, l)))
