-- A variable's place in a context is the length of its own context; so the argument of a variable has that number.
use Rattle.std.specs.Prelude.{◌≡◌, refl, ◌⊎◌, List, [], ◌∷◌, ◌++◌, ℕ, ◌≤◌, length}
use Rattle.std.proofs.Common.{sym, ap, subst, ◌∙◌, inl, inr, append_assoc, arith, eq-eqb, ne_eqb}
use Rattle.aut68.specs.Expr.{Expr, Exprs, nil, cons}
use Rattle.aut68.specs.Substitution.{argument_for}
use Rattle.aut68.specs.Lines.{Line, Lines, abbreviation}
use Rattle.aut68.specs.Rules.Names.{IsLine, Member, here, there, Context, no_context, within}
use Rattle.aut68.specs.Rules.Resolved.{VariableOf, ConstantOf, Resolved}
use Rattle.lookup.specs.LineNumbers.{line_unique}
use Rattle.lookup.specs.Lists.{member_snoc}
use Rattle.lookup.specs.Contexts.{context_unique, context_nested}
use Rattle.calculus.specs.Scoped.{category_map}
use Rattle.calculus.specs.Resolved.{ResolvedCategory}
use Rattle.cells.specs.Cells.{Formed, RightCount}
use Rattle.terms.specs.Made.{argument_at, Numbered}
use Rattle.heads.specs.Book.{Book, scoped_formed, category_formed, right_count}

-- u stands in vs behind the variables `before`, and not among them
pub record Place (u : ℕ) (vs before : List ℕ) : Type 0 where
  pub behind : List ℕ
  pub is : vs ≡ before ++ (u ∷ behind)
  pub new : Member u before → ⊥

-- the argument for u is the one at its place, if there are as many
argument_found : (u : ℕ) (before behind : List ℕ) (xs : Exprs) → (Member u before → ⊥) → argument_for u (before ++ (u ∷ behind)) xs ≡ argument_at xs (length before)
unfolding argument_for argument_at
argument_found u [] behind nil n = refl
argument_found u [] behind (cons a xs) n = rw (eq-eqb u u refl, argument_for)
argument_found u (w ∷ before) behind nil n = refl
argument_found u (w ∷ before) behind (cons a xs) n =
    rw (ne_eqb u w (λ e. n (subst (λ x. Member u (x ∷ before)) e here)), argument_for) (argument_found u before behind xs (λ m. n (there m)))

pub argument_placed : (u : ℕ) (vs before : List ℕ) (xs : Exprs) → Place u vs before → argument_for u vs xs ≡ argument_at xs (length before)
argument_placed u vs before xs p = ap (λ z. argument_for u z xs) p.is ∙ argument_found u before p.behind xs p.new

module _ {ls : Lines} {L : ℕ} {tb ts : List ℕ} (B : Book ls L tb ts) where
  -- a context's variables are no later than the line that leads to it
  context_bound : {v : ℕ} {vs : List ℕ} → Context ls v vs → {u : ℕ} → Member u vs → u ≤ v
  context_bound no_context m = elim m [ ]
  context_bound (within {v} {l} {vs} i k h) {u} m = go (λ z. context_bound h z) (member_snoc vs m)
    where
      go : (Member u vs → u ≤ l.indicator) → Member u vs ⊎ (u ≡ v) → u ≤ v
      go f (inl z) = omega (arith, f z, B.earlier i)
      go f (inr e) = omega arith

  -- a variable stands in a context behind its own context
  pub context_place : {v : ℕ} {vs : List ℕ} → Context ls v vs → {u : ℕ} {l : Line} → Member u vs → IsLine ls u l → Place u vs l.context
  context_place no_context m j = elim m [ ]
  context_place (within {v} {l = k} {vs} i q h) {u} {l} m j = go (λ z. context_place h z j) (member_snoc vs m)
    where
      own : u ≡ v → vs ≡ l.context
      own e = context_unique h (subst (λ (z : Line). Context ls z.indicator l.context) (line_unique j (subst (λ z. IsLine ls z k) (sym e) i)) (B.contexts j))

      here_place : u ≡ v → Place u (vs ++ (v ∷ [])) l.context
      here_place e = record {
        behind = [];
        is = ap (λ z. z ++ (v ∷ [])) (own e) ∙ ap (λ z. l.context ++ (z ∷ [])) (sym e);
        new = λ n. let b = context_bound h (subst (Member u) (sym (own e)) n) in omega (arith, B.earlier i);
      }

      go : (Member u vs → Place u vs l.context) → Member u vs ⊎ (u ≡ v) → Place u (vs ++ (v ∷ [])) l.context
      go f (inr e) = here_place e
      go f (inl z) = let p = f z in
          record { behind = p.behind ++ (v ∷ []); is = ap (λ x. x ++ (v ∷ [])) p.is ∙ append_assoc l.context (u ∷ p.behind) (v ∷ []); new = p.new }

  -- so its row has the number of its argument
  pub variable_numbered : {v : ℕ} {vs : List ℕ} → Context ls v vs → (xs : Exprs) (u : ℕ) → VariableOf ls vs u → Numbered tb vs xs u
  variable_numbered {vs = vs} c xs u x =
      argument_placed u vs x.line.context xs (context_place c x.in_context x.is_line)
      ∙ ap (argument_at xs) (sym (B.rows.row x.is_line).context_is)

  -- what is resolved in a context, with any arguments for it
  pub resolved_numbered : {v : ℕ} {vs : List ℕ} → Context ls v vs → (xs : Exprs) (k : ℕ) (e : Expr) → Resolved ls vs k e → Formed (Numbered tb vs xs) (RightCount tb) e
  resolved_numbered {vs = vs} c xs k e w =
      scoped_formed (VariableOf ls vs) (Numbered tb vs xs) (ConstantOf ls) (RightCount tb) (variable_numbered c xs) (right_count B.rows) k e w

  -- the middle and the category of a line
  pub middle_numbered : {v : ℕ} {l : Line} → IsLine ls v l → (xs : Exprs) (m : Expr) → l.kind ≡ abbreviation m → Formed (Numbered tb l.context xs) (RightCount tb) m
  middle_numbered i xs m e = resolved_numbered (B.contexts i) xs 0 m ((B.resolved.at i).middle m e)

  pub written_numbered : {v : ℕ} {vs : List ℕ} → Context ls v vs → (xs : Exprs) (c : Expr) → ResolvedCategory ls vs c → Formed (Numbered tb vs xs) (RightCount tb) c
  written_numbered {vs = vs} c xs e w =
      category_formed (VariableOf ls vs) (Numbered tb vs xs) (ConstantOf ls) (RightCount tb) (variable_numbered c xs) (right_count B.rows) 0 e w

  pub category_numbered : {v : ℕ} {l : Line} → IsLine ls v l → (xs : Exprs) → Formed (Numbered tb l.context xs) (RightCount tb) l.category
  category_numbered {l = l} i xs = written_numbered (B.contexts i) xs l.category (B.resolved.at i).category

  -- the category of a variable of the line's context
  pub wanted_numbered : {v u : ℕ} {l k : Line} → IsLine ls v l → Member u l.context → IsLine ls u k → (xs : Exprs)
      → Formed (Numbered tb l.context xs) (RightCount tb) k.category
  wanted_numbered {l = l} {k} i m j xs =
      written_numbered (B.contexts i) xs k.category (category_map _ _ _ _ wider (λ v n x. x) 0 k.category (B.resolved.at j).category)
    where
      wider : (w : ℕ) → VariableOf ls k.context w → VariableOf ls l.context w
      wider w x = record {
        line = x.line;
        is_line = x.is_line;
        is_variable = x.is_variable;
        in_context = context_nested (λ v l z. B.contexts z) (B.contexts i) _ w k m j x.in_context;
      }
