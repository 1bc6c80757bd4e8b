-- Steps keep a category up to equality only. After `nat`, `one : nat` and `num := nat`, the category of `<one>[x,num]x` is `num`;
-- that of `one`, which it becomes by a step, is `nat`.
use Rattle.std.specs.Prelude.{◌≡◌, refl, ◌≢◌, List, [], ℕ, take}
use Rattle.std.proofs.Common.{subst, arith}
use Rattle.aut68.specs.Language.{aut68}
use Rattle.aut68.specs.Stores.{lending}
use Rattle.aut68.specs.Bytes.{Bytes, lines}
use Rattle.aut68.specs.Expr.{Expr, bound, const, app, abs, nil, count_exprs, is_type, over_binding}
use Rattle.aut68.specs.Substitution.{lift, substitute_bound, substitute, instantiate}
use Rattle.aut68.specs.Lines.{line_of}
use Rattle.aut68.specs.Paragraphs.{Place, State, start}
use Rattle.aut68.specs.Procedure.Run.{recorded_at, run}
use Rattle.aut68.specs.Outcomes.{numbers, number_lines}
use Rattle.aut68.proofs.Outcomes.{numbers_recorded}
use Rattle.aut68.specs.Rules.Names.{first, later}
use Rattle.aut68.specs.Rules.Steps.{Reduces, done, step, beta, delta}
use Rattle.aut68.specs.Rules.Serving.{same, the_type}
use Rattle.aut68.specs.Rules.Categories.{Category, innermost, of_bound, of_constant, of_application, of_abstraction, all_fit}
use Rattle.aut68.specs.Rules.Resolved.{Scoped, ConstantOf}
use Rattle.aut68.specs.Rules.CorrectExpressions.{CorrectAs}
use Rattle.aut68.specs.Rules.Derivation.{Derived}
use Rattle.aut68.specs.Demands.{Recording}
use Rattle.lookup.specs.LineNumbers.{primitive≢variable, abbreviation≢variable}
use Rattle.theorems.specs.Demands.{recorded_are_meanings}

-- over a correct book, two correct expressions, the second reached from the first; their categories are not the same
pub record Changed : Type 0 where
  pub pieces : List Bytes
  pub st : State
  pub is_correct : Derived aut68 start pieces st
  pub before : Expr
  pub after : Expr
  pub reached : Reduces st.earlier before after
  pub category_before : Expr
  pub category_after : Expr
  pub correct_before : CorrectAs aut68 st.earlier [] [] before category_before
  pub correct_after : CorrectAs aut68 st.earlier [] [] after category_after
  pub unlike : category_after ≢ category_before

derived : (passed : ℕ) × (at : Place) × Derived aut68 start (take passed (lines numbers)) (record { earlier = number_lines; place = at })
unfolding Recording
derived =
    let (passed, within, d) = recorded_are_meanings aut68 numbers (lending 0 16 27 8 2048 16384) in
    let e = recorded_at (run aut68 numbers (lending 0 16 27 8 2048 16384)) in
    (passed, e.place, subst (λ ls. Derived aut68 start (take passed (lines numbers)) (record { earlier = ls; place = e.place })) numbers_recorded d)

unfoldable nat : Expr
nat = const 1 nil

unfoldable one : Expr
one = const 2 nil

unfoldable num : Expr
num = const 3 nil

one_is : Category aut68 number_lines [] one nat
unfolding number_lines nat one instantiate
one_is = of_constant (later first) all_fit refl

num_is : Category aut68 number_lines [] num Expr.type
unfolding number_lines num instantiate
num_is = of_constant (later (later first)) all_fit refl

identity_is : Category aut68 number_lines [] (abs num (bound 0)) (abs num num)
unfolding num lift over_binding is_type
identity_is = of_abstraction num_is the_type (of_bound innermost refl) refl

applied_is : Category aut68 number_lines [] (app one (abs num (bound 0))) num
unfolding number_lines nat num substitute instantiate
applied_is = of_application identity_is done one_is (record { left = nat; right = nat; from_found = done; from_wanted = step (delta (later (later first)) refl refl) done; drops = same }) refl

one_constant : ConstantOf number_lines 2 0
unfolding number_lines line_of
one_constant = record { line = line_of number_lines 2; is_line = later first; not_variable = primitive≢variable; as_many = refl }

num_constant : ConstantOf number_lines 3 0
unfolding number_lines line_of
num_constant = record { line = line_of number_lines 3; is_line = later (later first); not_variable = abbreviation≢variable; as_many = refl }

pub category_changed : Changed
unfolding Scoped count_exprs one num nat substitute substitute_bound lift
category_changed =
    let (passed, at, d) = derived in
    record {
      pieces = take passed (lines numbers);
      st = record { earlier = number_lines; place = at };
      is_correct = d;
      before = app one (abs num (bound 0));
      after = one;
      reached = step (beta refl) done;
      category_before = num;
      category_after = nat;
      correct_before = record { resolved = ((one_constant, tt), ((num_constant, tt), omega arith)); has_category = applied_is };
      correct_after = record { resolved = (one_constant, tt); has_category = one_is };
      unlike = λ q. let z : ◌≡◌ {A = ℕ} 1 3 = cc in omega arith;
    }
