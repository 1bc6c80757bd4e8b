-- Nesting once more: completing adds at most one level, and none where all arguments are written. So of a line whose bytes were read
-- (nesting at most 32) the completed form nests at most 33 deep.
use Rattle.std.specs.Prelude.{◌≡◌, refl, List, ℕ, suc, ◌≤◌}
use Rattle.std.proofs.Common.{ap, arith}
use Rattle.aut68.specs.Bytes.{Bytes}
use Rattle.aut68.specs.Depths.{depth, depths}
use Rattle.aut68.specs.Source.{Src, Srcs}
use Rattle.aut68.specs.Expr.{Expr, Exprs, levels, levelss}
use Rattle.aut68.specs.Paragraphs.{State}
use Rattle.aut68.specs.Rules.Names.{Means, MeanAll, a_bound, a_variable, a_constant, an_application, an_abstraction, a_type, a_prop, no_more, one_more}
use Rattle.lookup.specs.Former.{MeantInFull, AllMeantInFull, bound_in, variable_in, constant_in, application_in, abstraction_in, type_in, prop_in}
use Rattle.lookup.specs.Completing.{front_levels}

module _ (st : State) (context : List ℕ) where
  mutual
    unfolding levels depth

    pub full_levels : {bs : List Bytes} {x : Src} {e : Expr} → MeantInFull st context bs x e → levels e ≡ depth x
    full_levels (bound_in b) = refl
    full_levels (variable_in f i q k m) = refl
    full_levels (constant_in f i q k c a) = ap suc (full_levelss a)
    full_levels (application_in h k) = let a = full_levels h in let b = full_levels k in omega (arith, a, b)
    full_levels (abstraction_in h k) = let a = full_levels h in let b = full_levels k in omega (arith, a, b)
    full_levels type_in = refl
    full_levels prop_in = refl

    full_levelss : {bs : List Bytes} {xs : Srcs} {es : Exprs} → AllMeantInFull st context bs xs es → levelss es ≡ depths xs
    full_levelss AllMeantInFull.no_more = refl
    full_levelss (AllMeantInFull.one_more h k) = let a = full_levels h in let b = full_levelss k in omega (arith, a, b)

  mutual
    unfolding levels depth

    pub completed_levels : {bs : List Bytes} {x : Src} {e : Expr} → Means st context bs x e → (depth x ≤ levels e) × (levels e ≤ suc (depth x))
    completed_levels (a_bound b) = (omega arith, omega arith)
    completed_levels (a_variable f i q k m) = (omega arith, omega arith)
    completed_levels (a_constant {es = es} {us = us} f i q k a c e) =
        let (p, r) = completed_levelss a in
        let (s, t) = front_levels us es in
        let d = ap levelss e in
        (omega (arith, p, s, d), omega (arith, r, t, d))
    completed_levels (an_application h k) =
        let (a, b) = completed_levels h in
        let (c, d) = completed_levels k in
        (omega (arith, a, c), omega (arith, b, d))
    completed_levels (an_abstraction h k) =
        let (a, b) = completed_levels h in
        let (c, d) = completed_levels k in
        (omega (arith, a, c), omega (arith, b, d))
    completed_levels a_type = (omega arith, omega arith)
    completed_levels a_prop = (omega arith, omega arith)

    completed_levelss : {bs : List Bytes} {xs : Srcs} {es : Exprs} → MeanAll st context bs xs es → (depths xs ≤ levelss es) × (levelss es ≤ suc (depths xs))
    completed_levelss no_more = (omega arith, omega arith)
    completed_levelss (one_more h k) =
        let (a, b) = completed_levels h in
        let (c, d) = completed_levelss k in
        (omega (arith, a, c), omega (arith, b, d))
