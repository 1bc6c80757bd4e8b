-- `is_right`: by the cell's kind (CellLaws).
use mathlib.Core.Path.{sym}
use mathlib.Core.Bool.{true≢false}
use native.Mathlib.Omega.{arith}
use borrow.Author.Tests.{eqb-true, eq-eqb}
use mathlib.Core.Path.{◌≡◌, ◌∙◌}
use mathlib.Core.Bool.{Bool, true, false}
use Prim.Native.Nat.{ℕ, zero, suc, ◌<◌}
use lib.Dec.{eqb}
use Rattle.std.proofs.Common.{rules, ap, ne_eqb}
use Rattle.std.specs.Prelude.{Option, Some, None, MatchOption, not}
use Rattle.std.specs.Option.{option_eq}
use Rattle.strings.specs.Posts.{kind_in}
use Rattle.strings.proofs.CellLaws.{variable_right, right_variable, bound_right, right_bound, constant_right, right_constant, pair_right, right_number, right_kind}
use Rattle.strings.proofs.is_right.Goals as goal

-- a variable's line, and another's
variable_kind : (o : Option ℕ) (r : Bool) → r ≡ option_eq eqb o (Some 0) → (r ≡ true → kind_in o ≡ 1) × (kind_in o ≡ 1 → r ≡ true)
variable_kind None r e = (λ t. absurd (true≢false (sym t ∙ e)), λ z. absurd (omega arith))
variable_kind (Some k) r e = (λ t. omega (arith, eqb-true k 0 (sym e ∙ t)), λ z. e ∙ eq-eqb k 0 (omega arith))

constant_kind : (o : Option ℕ) (r : Bool) → MatchOption o (r ≡ false) (λ x. r ≡ not (eqb x 0)) → (r ≡ true → 1 < kind_in o) × (1 < kind_in o → r ≡ true)
constant_kind None r e = (λ t. absurd (true≢false (sym t ∙ e)), λ z. absurd (omega arith))
constant_kind (Some zero) r e = (λ t. absurd (true≢false (sym t ∙ e)), λ z. absurd (omega arith))
constant_kind (Some (suc k)) r e = (λ t. omega arith, λ z. e ∙ ap not (ne_eqb (suc k) 0 (λ q. omega arith)))

pub returns-in-1 : goal.returns-in-1
returns-in-1 c =
    let n = c.number_in-v.ensures.0 in
    let k = c.line_kind.ensures in
    let q = variable_kind _ _ c.eq.ensures in
    record { means = λ ls R e N p. (λ t. variable_right ls _ _ n (omega arith) (k.means ls R e) (q.0 t), λ r. q.1 (right_variable ls _ _ n (omega arith) (k.means ls R e) r)) }

pub returns-in-2 : goal.returns-in-2
returns-in-2 c =
    let n = c.number_in-v.ensures in
    let b = c.is_noted.ensures in
    record { means = λ ls R e N p. (λ t. bound_right ls _ _ n.0 (omega arith) ((b.means N p n.1).0 t), λ r. (b.means N p n.1).1 (right_bound ls _ _ n.0 (omega arith) r)) }

pub returns-in-3 : goal.returns-in-3
returns-in-3 c =
    let n = c.number_in-v.ensures.0 in
    let k = c.line_kind-in-3.ensures in
    let q = constant_kind c.line_kind-in-3.result c.is_some_and.result (search rules) in
    record { means = λ ls R e N p. (λ t. constant_right ls _ _ n (omega arith) (k.means ls R e) (q.0 t), λ r. q.1 (right_constant ls _ _ n (omega arith) (k.means ls R e) r)) }

pub returns-in-4 : goal.returns-in-4
returns-in-4 c =
    let n = c.number_in-v.ensures.0 in
    record { means = λ ls R e N p. (λ t. pair_right ls _ _ n (omega arith) (omega arith) (eqb-true _ 0 t), λ r. eq-eqb _ 0 (right_number ls _ _ n (omega arith) r)) }

pub returns-in_default : goal.returns-in_default
returns-in_default c =
    let n = c.number_in-v.ensures.0 in
    record { means = λ ls R e N p. (λ t. absurd (true≢false (sym t)), λ r. absurd (omega (arith, right_kind ls _ _ n r))) }
