-- Known expressions and categories: a constant's count is its line's, steps keep what is known, and what arguments are put into.
use Rattle.std.specs.Prelude.{◌≡◌, Bool, ℕ, eqb, length}
use Rattle.std.proofs.Common.{sym, ◌∙◌, ap}
use Rattle.std.proofs.Math.Bool.{true, false}
use Rattle.std.proofs.Math.Option.{some}
use mathlib.Core.List.{List, [], ◌∷◌}
use Rattle.aut68.specs.Expr.{Expr, Exprs, nil, cons}
use Rattle.aut68.specs.Substitution.{instantiate}
use Rattle.aut68.specs.Lines.{Line, Lines, line_of}
use Rattle.aut68.specs.Rules.Names.{IsLine, Member}
use Rattle.aut68.specs.Rules.Steps.{Reduces}
use Rattle.aut68.specs.Procedure.HeadStep.{head_step, left}
use Rattle.aut68.specs.Rules.Resolved.{Scoped, ConstantOf, Resolved, VariableLine, Known}
use Rattle.lookup.specs.LineNumbers.{line_line_of, abbreviation_line}
use Rattle.calculus.specs.Renaming.{arg, pick}
use Rattle.calculus.specs.HeadForms.{head_step_lem}
use Rattle.calculus.specs.Scoped.{ScopedCategory, KeptMiddles, scoped_map, scoped_steps, category_step, category_steps, category_map, category_instantiate}
use Rattle.calculus.specs.Resolved.{ResolvedLines, AllKnown, KnownCategory, known_line}

module _ (ls : Lines) (W : ResolvedLines ls) where
  -- the line of a constant's number
  pub constant_count : {v n : ℕ} {l : Line} → ConstantOf ls v n → IsLine ls v l → n ≡ length l.context
  constant_count h i = h.as_many ∙ ap (λ (x : Line). length x.context) (sym (line_line_of h.is_line) ∙ line_line_of i)

  in_context_lem : (vs : List ℕ) (k : ℕ) (e : Expr) → Resolved ls vs k e → Scoped (λ u. Member u vs) (ConstantOf ls) k e
  in_context_lem vs k e w = scoped_map _ _ _ _ (λ v h. h.in_context) (λ v n h. h) k e w

  pub kept_middles : KeptMiddles ls (ConstantOf ls)
  kept_middles v n m h e =
      let i = abbreviation_line ls v e in
      record { as_many = constant_count h i; scoped = in_context_lem (line_of ls v).context 0 m ((W.at i).middle m e) }

  -- a line's category mentions only variables of the line's context
  pub line_in_context : {v : ℕ} {l : Line} → IsLine ls v l → ScopedCategory (λ u. Member u l.context) (ConstantOf ls) 0 l.category
  line_in_context {l = l} i = category_map _ _ _ _ (λ v h. h.in_context) (λ v n h. h) 0 l.category (W.at i).category

  pub known_steps : (k : ℕ) {m n : Expr} → Reduces ls m n → Known ls k m → Known ls k n
  known_steps k h w = scoped_steps ls (ConstantOf ls) (VariableLine ls) kept_middles k h w

  pub known_category_steps : (k : ℕ) {m n : Expr} → Reduces ls m n → KnownCategory ls k m → KnownCategory ls k n
  known_category_steps k h w = category_steps ls (ConstantOf ls) (VariableLine ls) kept_middles k h w

  pub known_category_head : (k : ℕ) (e n : Expr) → left (head_step ls e) ≡ some n → KnownCategory ls k e → KnownCategory ls k n
  known_category_head k e n q w = category_step ls (ConstantOf ls) (VariableLine ls) kept_middles k (head_step_lem ls e n q) w

  -- an argument or the variable itself
  pub known_arg : (k : ℕ) (xs : Exprs) (us : List ℕ) (v : ℕ) → AllKnown ls k xs → VariableLine ls v → Known ls k (arg xs us v)
  unfolding arg Scoped
  known_arg k nil us v w h = h
  known_arg k (cons a xs) [] v w h = h
  known_arg k (cons a xs) (u ∷ us) v w h = go (eqb v u) (known_arg k xs us v w.1 h)
    where
      go : (t : Bool) → Known ls k (arg xs us v) → Known ls k (pick t a (arg xs us v))
      go true x = w.0
      go false x = x

  -- the wanted category of an argument
  pub known_wanted : (k : ℕ) (us : List ℕ) (earlier : Exprs) {u : ℕ} {l : Line} → IsLine ls u l → AllKnown ls k earlier → KnownCategory ls k (instantiate us earlier 0 l.category)
  known_wanted k us earlier {l = l} i w =
      category_instantiate (VariableLine ls) (ConstantOf ls) (VariableLine ls) k us earlier l.category (λ v h. known_arg k earlier us v w h) (known_line ls W i)
