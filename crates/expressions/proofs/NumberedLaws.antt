-- A walk behind one fault says of another what it says of the first.
use mathlib.Core.Path.{refl}
use mathlib.Core.Logic.{◌≢◌}
use mathlib.Core.List.{List}
use Prim.Native.Nat.{ℕ}
use Rattle.aut68.specs.Source.{Src}
use Rattle.aut68.specs.Procedure.Answer.{Refusal, code_of}
use Rattle.aut68.specs.Procedure.Parse.{Read}
use Rattle.lookup.specs.Answers.{code_nonzero}
use Rattle.cells.specs.declared.scope.Scope.{Scope}
use Rattle.expressions.specs.Walk.{Walked}
use Rattle.expressions.specs.Posts.{go_on, Onward, ExpressionRead}
use Rattle.expressions.proofs.ReadLaws.{read_back, then_map}

-- r, but for the fault
abbrev with_fault : Walked → ℕ → Walked
with_fault r fault = record { code = r.code; at = r.at; to = r.to; fault = fault; count = r.count }

module _ {s w w' : List ℕ} {from to fault other : ℕ} where
  onward_behind : {r : Walked} (found : ℕ) → Onward s w w' (go_on from to fault) r → Onward s w w' (go_on from to other) (with_fault r found)
  onward_behind found h = record { below = h.below; up = h.up; from = h.from; inside = h.inside; small = h.small }

  module _ {m : Read Src} {ks : List ℕ} {scope : Scope} {book tb : List ℕ} {lines indicator : ℕ} where
    -- a refusal of the form, whatever the fault
    pub refused_behind : (x : Refusal) {at end : ℕ}
        → ExpressionRead m ks s scope book tb lines indicator w w' (go_on from to fault) (record { code = code_of x; at = at; to = end; fault = 0; count = 0 })
        → ExpressionRead m ks s scope book tb lines indicator w w' (go_on from to other) (record { code = code_of x; at = at; to = end; fault = 0; count = 0 })
    refused_behind x h = record { onward = onward_behind 0 h.onward; read = λ st ready. read_back (code_nonzero x) (h.read st ready) }

    -- the other fault stays, as the first does
    pub passed_behind : {r : Walked} → other ≢ 0 → ExpressionRead m ks s scope book tb lines indicator w w' (go_on from to fault) r
        → ExpressionRead m ks s scope book tb lines indicator w w' (go_on from to other) (with_fault r other)
    passed_behind n h =
        record {
          onward = onward_behind other h.onward;
          read = λ st ready. then_map (h.read st ready) (λ x e. record { kept = λ z. refl; names = λ z. absurd (n z) });
        }
