-- Known expressions and categories: what serves or is equal among them.
use Rattle.std.specs.Prelude.{◌≡◌, ◌⊎◌, ℕ, suc}
use Rattle.std.proofs.Math.Path.{refl, ap}
use Rattle.std.proofs.Common.{subst, inl, inr}
use Rattle.aut68.specs.Language.{Language}
use Rattle.aut68.specs.Expr.{Expr, abs}
use Rattle.aut68.specs.Lines.{Lines}
use Rattle.aut68.specs.Rules.Steps.{Reduces, Equal}
use Rattle.aut68.specs.Rules.Serving.{Basic, a_type, a_prop, Ends, Supertype, Drops, same, surplus, under, Serves}
use Rattle.aut68.specs.Rules.Resolved.{Scoped, Known}
use Rattle.calculus.specs.Reductions.{steps_eq}
use Rattle.calculus.specs.Scoped.{category_cases, scoped_ends}
use Rattle.calculus.specs.Resolved.{ResolvedLines, KnownCategory}
use Rattle.calculus.specs.Known.{known_steps}
use Rattle.inclusion.specs.Endings.{ends_steps, ends_one, drops_ends}

module _ (ls : Lines) (W : ResolvedLines ls) where
  -- what reaches something that ends in s ends in s
  pub reaches_ends : {s : Expr} (k : ℕ) {c n : Expr} → Basic s → KnownCategory ls k c → Reduces ls c n → Ends s n → Ends s c
  reaches_ends {s} k {c} {n} b w r h = go (category_cases _ _ k c w)
    where
      go : Supertype c ⊎ Known ls k c → Ends s c
      go (inl x) = subst (λ z. Ends z c) (ends_one x.is_basic b (ends_steps ls x.is_basic x.ends r) h) x.ends
      go (inr x) = absurd (scoped_ends _ _ k n b h (known_steps ls W k r x))

  module _ (language : Language) where
    -- what serves for `type`, `prop` or what ends in one of them ends in it too
    pub serves_ends : {s : Expr} (k : ℕ) {c d : Expr} → Basic s → KnownCategory ls k c → Serves language ls c d → Ends s d → Ends s c
    serves_ends k b w h e = reaches_ends k b w h.from_found (drops_ends language b h.drops (ends_steps ls b e h.from_wanted))

    drops_known : (k : ℕ) {a b : Expr} → Drops language a b → Known ls k b → a ≡ b
    unfolding Scoped
    drops_known k same w = refl
    drops_known k (surplus x a_type e) w = absurd w
    drops_known k (surplus x a_prop e) w = absurd w
    drops_known k (under {p = p} d) w = ap (abs p) (drops_known (suc k) d w.1)

    -- what serves for an expression equals it
    pub serves_known : (k : ℕ) {a b : Expr} → Serves language ls a b → Known ls k b → Equal ls a b
    serves_known k h w =
        record { common = h.right; from_left = steps_eq ls h.from_found (drops_known k h.drops (known_steps ls W k h.from_wanted w)); from_right = h.from_wanted }

  -- equal categories end alike
  pub equal_ends : {s : Expr} (k : ℕ) {c d : Expr} → Basic s → KnownCategory ls k c → Equal ls c d → Ends s d → Ends s c
  equal_ends k b w h e = reaches_ends k b w h.from_left (ends_steps ls b e h.from_right)
