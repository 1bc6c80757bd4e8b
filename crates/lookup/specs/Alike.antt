-- An expression that means something in one state, in another: where its free names mean lines of the same kind with the
-- same contexts, renumbered, and the line's own context is the same, renumbered, no name of it is out of context and no count of
-- arguments is wrong.
use Rattle.std.specs.Prelude.{◌≡◌, refl, ◌≢◌, ◌↔◌, ℕ, List, [], ◌∷◌, map}
use Rattle.std.proofs.Common.{sym, subst}
use Rattle.aut68.specs.Bytes.{Bytes}
use Rattle.aut68.specs.Source.{Used, Src, Srcs, Middle, SourceLine, count_srcs}
use Rattle.aut68.specs.Expr.{Expr, Exprs}
use Rattle.aut68.specs.Lines.{Line, Kind, variable}
use Rattle.aut68.specs.Paragraphs.{State}
use Rattle.aut68.specs.Rules.Names.{IsLine, Denotes, Member, BoundAt, Free, LeftOut, Means, MeanAll, a_bound, a_variable, a_constant, an_application, an_abstraction, no_more, one_more}
use Rattle.aut68.specs.Rules.Names.{MiddleMeans, is_meaning, a_type, a_prop}
use Rattle.aut68.specs.Rules.NameFaults.{NameFault, NotInContext, outside_context, Miscounted, of_bound, of_variable, of_constant}
use Rattle.aut68.specs.Rules.NameFaults.{First, itself, FirstIn, FirstOf}
use Rattle.aut68.specs.Rules.NameFaults as F
use Rattle.aut68.specs.Rules.Orders.{OccursFree, in_argument, in_a, in_b, in_domain, in_body, OccursFreeIn, in_first, in_rest, Names, in_middle, in_category}
use Rattle.aut68.specs.Rules.Orders as O
use Rattle.lookup.specs.Lists.{member_map}
use Rattle.lookup.specs.Completing.{left_out_map}
use Rattle.lookup.specs.Resolving.{count_all}
use Rattle.lookup.specs.NameFaults.{free_bound}

-- two lines that are used alike, where the variables have new numbers
pub record UsedAlike (ρ : ℕ → ℕ) (k l : Line) : Type 0 where
  pub same_kind : (k.kind ≡ variable) ↔ (l.kind ≡ variable)
  pub same_context : l.context ≡ map ρ k.context

-- the lines that the name means, there and here, are the same line renumbered, and used alike
abbrev pub AlikeAt : (ℕ → ℕ) → State → State → Used → Type 0
AlikeAt ρ st₀ st w = (u v : ℕ) (k l : Line) → IsLine st₀.earlier u k → Denotes st₀ w u → IsLine st.earlier v l → Denotes st w v → (v ≡ ρ u) × UsedAlike ρ k l

module _ (ρ : ℕ → ℕ) (st₀ : State) (context₀ : List ℕ) (st : State) where
  -- a name in order there, with j arguments
  pub data InOrder (bs : List Bytes) (w : Used) (j : ℕ) : Type 0 where
    bound_name : {i : ℕ} → BoundAt w bs i → j ≡ 0 → InOrder bs w j
    variable_name : {u : ℕ} {k : Line} → AlikeAt ρ st₀ st w → IsLine st₀.earlier u k → Denotes st₀ w u → k.kind ≡ variable → Member u context₀ → j ≡ 0 → InOrder bs w j
    constant_name : {u : ℕ} {k : Line} {us : List ℕ} → AlikeAt ρ st₀ st w → Free w bs → IsLine st₀.earlier u k → Denotes st₀ w u → k.kind ≢ variable
        → LeftOut j k.context context₀ us → InOrder bs w j

  -- in the context of the same variables, renumbered
  module _ (context : List ℕ) (same : context ≡ map ρ context₀) where
    moved : {j : ℕ} {vs of us : List ℕ} → ((ws : List ℕ) → ¬ LeftOut j vs context ws) → vs ≡ map ρ of → LeftOut j of context₀ us → ⊥
    moved {j} {vs} {of} {us} h e c =
        let c₁ : LeftOut j (map ρ of) context (map ρ us) = subst (λ x. LeftOut j (map ρ of) x (map ρ us)) (sym same) (left_out_map ρ c) in
        h (map ρ us) (subst (λ x. LeftOut j x context (map ρ us)) (sym e) c₁)

    -- its count is right here
    pub right_count : {bs : List Bytes} {w : Used} {j : ℕ} → InOrder bs w j → ¬ Miscounted st context bs w j
    right_count (bound_name b z) (of_bound c n) = n z
    right_count (bound_name b z) (of_variable f i q k m n) = n z
    right_count (bound_name b z) (of_constant f i q k n) = free_bound f b
    right_count (variable_name g i₀ q₀ k₀ m₀ z) (of_bound c n) = n z
    right_count (variable_name g i₀ q₀ k₀ m₀ z) (of_variable f i q k m n) = n z
    right_count (variable_name g i₀ q₀ k₀ m₀ z) (of_constant f i q k n) = k ((g _ _ _ _ i₀ q₀ i q).1.same_kind.0 k₀)
    right_count (constant_name g f₀ i₀ q₀ k₀ c) (of_bound b n) = free_bound f₀ b
    right_count (constant_name g f₀ i₀ q₀ k₀ c) (of_variable f i q k m n) = k₀ ((g _ _ _ _ i₀ q₀ i q).1.same_kind.1 k)
    right_count (constant_name g f₀ i₀ q₀ k₀ c) (of_constant f i q k n) = moved n (g _ _ _ _ i₀ q₀ i q).1.same_context c

    -- a variable of the context there is one here
    pub in_force : {bs : List Bytes} {w : Used} {j : ℕ} → InOrder bs w j → ¬ NotInContext st context bs w j
    in_force (bound_name b z) (outside_context f i q k n) = free_bound f b
    in_force (variable_name {u} g i₀ q₀ k₀ m₀ z) (outside_context {v} f i q k n) =
        n (subst (λ x. Member x context) (sym (g _ _ _ _ i₀ q₀ i q).0) (subst (Member (ρ u)) (sym same) (member_map ρ m₀)))
    in_force (constant_name g f₀ i₀ q₀ k₀ c) (outside_context f i q k n) = k₀ ((g _ _ _ _ i₀ q₀ i q).1.same_kind.1 k)

    -- ---- a fault that no name in order has is the first in no expression

    module _ (fault : NameFault) (none : (bs : List Bytes) (w : Used) (j : ℕ) → InOrder bs w j → ¬ fault st context bs w j) where
      at_name : {bs : List Bytes} {w : Used} {xs : Srcs} → InOrder bs w (count_srcs xs) → ¬ FirstIn st context fault bs xs → ¬ First st context fault bs (Src.name w xs)
      at_name o h (itself f) = none _ _ _ o f
      at_name o h (F.in_argument f i q k c g) = h g

      at_application : {bs : List Bytes} {a b : Src} → ¬ First st context fault bs a → ¬ First st context fault bs b → ¬ First st context fault bs (Src.app a b)
      at_application h k (F.in_a f) = h f
      at_application h k (F.in_b m f) = k f

      at_abstraction : {bs : List Bytes} {x : Bytes} {a b : Src} → ¬ First st context fault bs a → ¬ First st context fault (x ∷ bs) b → ¬ First st context fault bs (Src.abs x a b)
      at_abstraction h k (F.in_domain f) = h f
      at_abstraction h k (F.in_body m f) = k f

      at_type : {bs : List Bytes} → ¬ First st context fault bs Src.type
      at_type h = elim h [ ]

      at_prop : {bs : List Bytes} → ¬ First st context fault bs Src.prop
      at_prop h = elim h [ ]

      at_none : {bs : List Bytes} → ¬ FirstIn st context fault bs Srcs.nil
      at_none h = elim h [ ]

      at_more : {bs : List Bytes} {a : Src} {xs : Srcs} → ¬ First st context fault bs a → ¬ FirstIn st context fault bs xs → ¬ FirstIn st context fault bs (Srcs.cons a xs)
      at_more h k (F.in_first f) = h f
      at_more h k (F.in_rest m f) = k f

      mutual
        unfolding count_srcs

        no_first : {bs : List Bytes} {x : Src} {e : Expr} → Means st₀ context₀ bs x e → ((w : Used) → OccursFree w bs x → AlikeAt ρ st₀ st w) → ¬ First st context fault bs x
        no_first (a_bound b) g = at_name (bound_name b refl) at_none
        no_first (a_variable f i q k m) g = at_name (variable_name (g _ (O.itself f)) i q k m refl) at_none
        no_first (a_constant {l = l} {us = us} f i q k a c e) g =
            at_name (constant_name (g _ (O.itself f)) f i q k (subst (λ n. LeftOut n l.context context₀ us) (sym (count_all st₀ context₀ a)) c)) (no_first_in a (λ w o. g w (in_argument o)))
        no_first (an_application h k) g = at_application (no_first h (λ w o. g w (in_a o))) (no_first k (λ w o. g w (in_b o)))
        no_first (an_abstraction h k) g = at_abstraction (no_first h (λ w o. g w (in_domain o))) (no_first k (λ w o. g w (in_body o)))
        no_first a_type g = at_type
        no_first a_prop g = at_prop

        no_first_in : {bs : List Bytes} {xs : Srcs} {es : Exprs} → MeanAll st₀ context₀ bs xs es → ((w : Used) → OccursFreeIn w bs xs → AlikeAt ρ st₀ st w) → ¬ FirstIn st context fault bs xs
        no_first_in no_more g = at_none
        no_first_in (one_more h k) g = at_more (no_first h (λ w o. g w (in_first o))) (no_first_in k (λ w o. g w (in_rest o)))

      pub no_first_of : {s : SourceLine} {k : Kind} {e : Expr} → MiddleMeans st₀ context₀ s.middle k → Means st₀ context₀ [] s.category e
          → ((w : Used) → Names s w → AlikeAt ρ st₀ st w) → ¬ FirstOf st context fault s
      no_first_of {k = k} m c g (F.in_middle {x} e f) = at_middle_lem (subst (λ y. MiddleMeans st₀ context₀ y k) e m)
        where
          at_middle_lem : {n : Kind} → MiddleMeans st₀ context₀ (Middle.meaning x) n → ⊥
          at_middle_lem (is_meaning h) = no_first h (λ w o. g w (in_middle e o)) f
      no_first_of m c g (F.in_category n f) = no_first c (λ w o. g w (in_category o)) f
