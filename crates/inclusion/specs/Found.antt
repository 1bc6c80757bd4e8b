-- The procedure finds the categories of the rules: what it finds is one, and where it refuses with 7, 8 or 9 there is none, not even in
-- the liberal relation.
use Rattle.std.specs.Prelude.{◌≡◌, Bool, true, false, List, [], ◌∷◌}
use Rattle.std.proofs.Math.Path.{refl}
use Rattle.std.proofs.Common.{subst, sym, ◌∙◌, inl, arith}
use Rattle.std.proofs.Math.Logic.{inr}
use Rattle.std.proofs.Math.Option.{none}
use Prim.Native.Nat.{ℕ, zero, suc}
use Rattle.std.proofs.Math.ListN.{length}
use Rattle.aut68.specs.Language.{Language, aut68, aut_qe, Extended, extended}
use Rattle.aut68.specs.Procedure.Answer.{Act, Answer, and_then, refuse, not_function}
use Rattle.aut68.specs.Expr.{Expr, Exprs, type, prop, var, bound, const, app, abs, nil, cons, snoc, count_exprs, is_sort, Shape, shape, abstraction, other}
use Rattle.aut68.specs.Substitution.{substitute, instantiate}
use Rattle.aut68.specs.Lines.{Line, Lines}
use Rattle.aut68.specs.Rules.Names.{IsLine, Member, here, there, Context}
use Rattle.aut68.specs.Rules.Serving.{Basic, a_type, a_prop, Ends, itself, before, Supertype, Serves, IsType}
use Rattle.aut68.specs.Rules.Categories.{HeadReduces, Category, of_variable, of_bound, of_constant, of_application, of_second_chance, of_abstraction, Fit, all_fit, one_fits}
use Rattle.aut68.specs.Procedure.HeadStep.{head_step, left}
use Rattle.aut68.specs.Procedure.Compare.{compare}
use Rattle.aut68.specs.Procedure.Category.{Search, made, to_function, second_chance, category_at, arguments, searches, category}
use Rattle.aut68.specs.Rules.Resolved.{Scoped, ConstantOf, Resolved, VariableLine}
use Rattle.lookup.specs.Contexts.{RightContexts}
use Rattle.lookup.specs.Answers.{Judged, is_done, is_stop, Finding, no_function, no_type, large, finding_map, judged_map, judged_then}
use Rattle.calculus.specs.Equality.{equal_sym, equal_trans, equal_steps, equal_abs_inv}
use Rattle.calculus.specs.Shapes.{shape_abs, false_not_true}
use Rattle.calculus.specs.HeadForms.{Neutral, napp, neutral_not_abs}
use Rattle.inclusion.specs.Again.{ByHeads, heads_variable, heads_bound, heads_constant, heads_application, heads_second, again, found_again}
use Rattle.calculus.specs.Scoped.{ScopedScope, ScopedCategory, scoped_category}
use Rattle.calculus.specs.Resolved.{AllKnown, KnownScope, KnownCategory, AllResolved, ResolvedScope, ResolvedLines, lines_closed, resolved_known, variable_line}
use Rattle.inclusion.specs.Endings.{ends_steps}
use Rattle.inclusion.specs.Serves.{equal_serves, equal_then_serves, serves_then_equal}
use Rattle.calculus.specs.Known.{known_category_steps, known_wanted}
use Rattle.inclusion.specs.Knowing.{equal_ends}
use Rattle.calculus.specs.HeadSearch.{head_reduces, Ended, is_function, is_other, head_form_finds}
use Rattle.inclusion.specs.Liberal.{Liberal, by_variable, by_bound, by_constant, by_application, by_equal, by_abstraction, Fits, none_fits, more_fits, InContext}
use Rattle.inclusion.specs.Liberal.{NestedContext, known_liberal, resolved_liberal, in_context_steps}
use Rattle.inclusion.specs.Unique.{liberal_unique}
use Rattle.inclusion.specs.Keeping.{is_type_served}
use Rattle.inclusion.specs.HeadKept.{heads_kept, resolved_steps}
use Rattle.inclusion.specs.Validity.{Sorted, Valid, SortedScope, one_binding, RightLines, type_super, kept_sorted, sorted_resolved, valid_variable, valid_bound}
use Rattle.inclusion.specs.Validity.{valid_constant, valid_application, valid_second, valid_abstraction}
use Rattle.inclusion.specs.Substituted.{all_snoc}
use Rattle.inclusion.specs.Embedding.{scope_known}
use Rattle.inclusion.specs.Comparing.{Categorical, compare_settles}
use Rattle.calculus.specs.Actions.{judged_line, nth_domain, made_judged}
use Rattle.inclusion.specs.Forms.{opens_judged, ensure_type, heads_to, ended_neutral, to_function_finds}
use Rattle.inclusion.specs.Denying.{constant_fits, function_category, argument_category, domain_category, body_category, first_fits, others_fit, no_argument}
use Rattle.inclusion.specs.Denying.{no_function_lem, sort_apart, second_agrees}

sort_true : (e : Expr) → is_sort e ≡ true → Basic e
unfolding is_sort
sort_true type q = a_type
sort_true prop q = a_prop
sort_true (var v) q = false_not_true q
sort_true (bound i) q = false_not_true q
sort_true (const v xs) q = false_not_true q
sort_true (app a b) q = false_not_true q
sort_true (abs p t) q = false_not_true q

-- what ends in `type` or `prop`, is neither and is no abstraction: nothing
sort_false : (ls : Lines) {s : Expr} (e : Expr) → Neutral ls e → is_sort e ≡ false → Basic s → ¬ Ends s e
unfolding is_sort
sort_false ls e n q a_type itself = false_not_true (sym q)
sort_false ls e n q a_prop itself = false_not_true (sym q)
sort_false ls e n q b (before h) = elim n [ ]

neutral_function : (ls : Lines) {a b : Expr} → Neutral ls (app a b) → Neutral ls b
neutral_function ls (napp n) = n

-- a found category: by the rules, by the liberal relation, valid, and (of what has no head step) by head steps alone
pub record IsFound (language : Language) (ls : Lines) (ctx : List ℕ) (sc : List Expr) (e c : Expr) : Type 0 where
  pub strict : Category language ls sc e c
  pub liberal : Liberal language ls ctx sc e c
  pub valid : Valid language ls ctx sc c
  pub by_heads : Neutral ls e → ByHeads language ls sc e c

pub record IsFit (language : Language) (ls : Lines) (ctx : List ℕ) (sc : List Expr) (context vs : List ℕ) (earlier xs : Exprs) : Type 0 where
  pub strict : Fit language ls sc context vs earlier xs
  pub liberal : Fits language ls ctx sc context vs earlier xs

abbrev pub Finds : Language → Lines → List ℕ → List Expr → Expr → Answer ℕ Expr → Type 0
Finds language ls ctx sc e = Judged (IsFound language ls ctx sc e) (Finding ((c : Expr) → ¬ Liberal language ls ctx sc e c))

abbrev pub FindsFit : Language → Lines → List ℕ → List Expr → List ℕ → List ℕ → Exprs → Exprs → Answer ℕ (Unit {0}) → Type 0
FindsFit language ls ctx sc context us earlier xs =
    Judged (λ _. IsFit language ls ctx sc context us earlier xs) (Finding (¬ Fits language ls ctx sc context us earlier xs))

-- the search for the category of a category
abbrev pub SearchFinds : Language → Lines → List ℕ → Search → Type 0
SearchFinds language ls ctx search =
    (d : ℕ) (sc : List Expr) (f : Expr) → Resolved ls ctx (length sc) f → ResolvedScope ls ctx sc → SortedScope language ls ctx sc → (b : ℕ) → Finds language ls ctx sc f (search d sc f b)

-- the head form of B's category, sorted
record Second (language : Language) (ls : Lines) (ctx : List ℕ) (sc : List Expr) (f g : Expr) : Type 0 where
  extends : Extended language
  found : IsFound language ls ctx sc f g
  resolved : Resolved ls ctx (length sc) f
  super : Supertype g

module _ (ls : Lines) (W : ResolvedLines ls) (contexts : RightContexts ls) (ctx : List ℕ) {n : ℕ} (C : Context ls n ctx) (N : NestedContext ls ctx) where
  second_finds : (language : Language) (right : RightLines language ls) (search : Search) → SearchFinds language ls ctx search
      → (d : ℕ) (sc : List Expr) → ResolvedScope ls ctx sc → SortedScope language ls ctx sc → (a b c f : Expr) → Resolved ls ctx (length sc) b → IsFound language ls ctx sc b c
      → HeadReduces ls c f → Neutral ls f → (m : ℕ)
      → Judged (Second language ls ctx sc f) (Finding ((r : Expr) → ¬ Liberal language ls ctx sc (app a b) r)) (second_chance language search d sc f m)
  unfolding second_chance
  second_finds aut68 right search sf d sc s T a b c f wb hc red nf m =
      is_stop (no_function (no_function_lem aut68 ls W contexts right.middles ctx sc (scope_known ls ctx sc s) wb hc.liberal (head_reduces ls red) nf (λ g d p q x e w h y r k ha z. elim x [ ])))
  second_finds aut_qe right search sf d sc s T a b c f wb hc red nf m = go (is_sort f) refl
    where
      known : KnownScope ls sc
      known = scope_known ls ctx sc s

      inside : InContext ls ctx (length sc) c
      inside = resolved_liberal aut_qe ls ctx W N hc.liberal wb s

      sorted : is_sort f ≡ false → Valid aut_qe ls ctx sc c → (S : Sorted aut_qe ls ctx sc f) × Resolved ls ctx (length sc) f
      sorted q (inl y) = absurd (sort_false ls f nf q y.is_basic (ends_steps ls y.is_basic y.ends (head_reduces ls red)))
      sorted q (inr S) =
          let wc = sorted_resolved aut_qe ls W ctx (length sc) inside S in
          let wf : Resolved ls ctx (length sc) f = resolved_steps aut_qe ls W contexts right.middles ctx (length sc) (head_reduces ls red) wc in (
            kept_sorted aut_qe ls W ctx (heads_kept aut_qe ls W contexts right.middles ctx (heads_to ls red) sc S.category S.has S.super wc known) S.super
                (resolved_known ls ctx (length sc) f wf) known,
            wf,
          )

      go : (t : Bool) → is_sort f ≡ t
          → Judged (Second aut_qe ls ctx sc f) (Finding ((r : Expr) → ¬ Liberal aut_qe ls ctx sc (app a b) r))
          ((elim t as (λ _. Act ℕ Expr) [ true ↦ refuse not_function | false ↦ search d sc f ]) m)
      go true q =
          is_stop (no_function (no_function_lem aut_qe ls W contexts right.middles ctx sc known wb hc.liberal (head_reduces ls red) nf
          (λ g d p q' x e w h y r k ha z. sort_apart aut_qe ls W contexts right.middles ctx sc known (sort_true f q) e w)))
      go false q =
          let (S, wf) = sorted q hc.valid in
          judged_map
          (λ g h. record {
            extends = extended;
            found = h;
            resolved = wf;
            super = record {
              sort = S.super.sort;
              is_basic = S.super.is_basic;
              ends =
                  equal_ends ls W (length sc) S.super.is_basic (known_liberal aut_qe ls ctx W h.liberal (resolved_known ls ctx (length sc) f wf) known)
                  (liberal_unique ls W aut_qe ctx h.liberal S.has (resolved_known ls ctx (length sc) f wf) known) S.super.ends;
            };
          })
          (finding_map (λ deny r h. absurd (deny S.category S.has)))
          (sf d sc f wf s T m)

module _ (language : Language) (ls : Lines) (W : ResolvedLines ls) (contexts : RightContexts ls) (right : RightLines language ls)
    (ctx : List ℕ) {n : ℕ} (C : Context ls n ctx) (N : NestedContext ls ctx) (L : ℕ) (search : Search) (sf : SearchFinds language ls ctx search) where
  categorical : {sc : List Expr} {e c : Expr} → Liberal language ls ctx sc e c → Resolved ls ctx (length sc) e → ResolvedScope ls ctx sc → Categorical ls c
  categorical {sc} {e} h w s = record { depth = length sc; known = known_liberal language ls ctx W h (resolved_known ls ctx (length sc) e w) (scope_known ls ctx sc s) }

  -- `<A>B` where B's category has reached a function
  first_chance : {sc : List Expr} {a b c p q : Expr} (cat : Act ℕ Expr) → ((m : ℕ) → Finds language ls ctx sc a (cat m)) → Resolved ls ctx (length sc) a → Resolved ls ctx (length sc) b
      → ResolvedScope ls ctx sc
      → IsFound language ls ctx sc b c → HeadReduces ls c (abs p q) → (m : ℕ)
      → Finds language ls ctx sc (app a b) (and_then (λ k. λ m. and_then (λ _. made L (substitute a 0 q)) (compare language ls L k p m)) (cat m))
  unfolding ScopedCategory
  first_chance {sc} {a} {b} {c} {p} {q} cat ih wa wb s hc red m =
      let known = scope_known ls ctx sc s in
      let wp = in_context_steps language ls ctx W N (length sc) (head_reduces ls red) (resolved_liberal language ls ctx W N hc.liberal wb s) in
      judged_then _ (ih m) (finding_map (λ deny r h. let (k, x) = argument_category language ls ctx h in deny k x)) (λ k m₁ hk.
      judged_then _ (compare_settles ls language W L k p (categorical hk.liberal wa s)
      (record { depth = length sc; known = scoped_category (VariableLine ls) (ConstantOf ls) (length sc) p (resolved_known ls ctx (length sc) p wp.0) }) m₁)
      (finding_map (no_argument language ls W contexts right.middles ctx sc known wa wb hc.liberal (head_reduces ls red) hk.liberal)) (λ _ m₂ e.
      made_judged L _
      (record {
        strict = of_application hc.strict (head_reduces ls red) hk.strict e refl;
        liberal = by_application hc.liberal (head_reduces ls red) hk.liberal e refl;
        valid =
            valid_application language ls W contexts right ctx hc.valid (resolved_liberal language ls ctx W N hc.liberal wb s) (heads_to ls red) hk.liberal e wa known;
        by_heads = λ x. heads_application hc.strict (hc.by_heads (neutral_function ls x)) red refl;
      })
      large m₂))

  -- and where it has not
  second_chance_lem : (d : ℕ) {sc : List Expr} {a b c f : Expr} (cat : Act ℕ Expr) → ((m : ℕ) → Finds language ls ctx sc a (cat m)) → Resolved ls ctx (length sc) a
      → Resolved ls ctx (length sc) b → ResolvedScope ls ctx sc → SortedScope language ls ctx sc
      → IsFound language ls ctx sc b c → HeadReduces ls c f → shape f ≡ other → left (head_step ls f) ≡ none → (m : ℕ)
      → Finds language ls ctx sc (app a b)
      (and_then (λ g. λ m. and_then (λ h. λ m. and_then (λ k. λ m. and_then (λ _. made L (app a f)) (compare language ls L k h.domain m)) (cat m)) (to_function ls L g m))
      (second_chance language search d sc f m))
  unfolding ScopedCategory
  second_chance_lem d {sc} {a} {b} {c} {f} cat ih wa wb s T hc red o n m =
      let known = scope_known ls ctx sc s in
      let M = right.middles in
      let neutral = ended_neutral ls o n in
      judged_then _ (second_finds ls W contexts ctx C N language right search sf d sc s T a b c f wb hc red neutral m) (λ r x. x) (λ g m₁ hg.
      let wg = known_liberal language ls ctx W hg.found.liberal (resolved_known ls ctx (length sc) f hg.resolved) known in
      judged_then _ (to_function_finds ls W L g m₁)
      (finding_map (λ deny. no_function_lem language ls W contexts M ctx sc known wb hc.liberal (head_reduces ls red) neutral
      (λ g' d' p q x e w h y r k ha z.
      let R = second_agrees language ls W contexts M ctx sc known neutral hg.found.liberal e w h y r in
      deny R.domain R.body (equal_steps ls R.reaches)))) (λ h m₂ hh.
      judged_then _ (ih m₂) (finding_map (λ deny r x. let (k, y) = argument_category language ls ctx x in deny k y)) (λ k m₃ hk.
      let wh = known_category_steps ls W (length sc) (head_reduces ls hh) wg in
      judged_then _ (compare_settles ls language W L k h.domain (categorical hk.liberal wa s)
      (record { depth = length sc; known = scoped_category (VariableLine ls) (ConstantOf ls) (length sc) h.domain wh.0 }) m₃)
      (finding_map (λ deny. no_function_lem language ls W contexts M ctx sc known wb hc.liberal (head_reduces ls red) neutral
      (λ g' d' p q x e w hl y r k' ha z.
      let closed = lines_closed ls W in
      let R = second_agrees language ls W contexts M ctx sc known neutral hg.found.liberal e w hl y r in
      let same = equal_abs_inv ls (equal_trans ls closed (equal_sym ls (equal_steps ls R.reaches)) (equal_steps ls (head_reduces ls hh))) in
      deny (equal_then_serves language ls closed (liberal_unique ls W language ctx hk.liberal ha (resolved_known ls ctx (length sc) a wa) known)
      (serves_then_equal language ls closed z (equal_trans ls closed R.domains same.0))))))
      (λ _ m₄ e.
      made_judged L _
      (record {
        strict = of_second_chance hg.extends hc.strict red n o hg.found.strict (head_reduces ls hh) hk.strict e refl;
        liberal = by_equal hg.extends hc.liberal (equal_steps ls (head_reduces ls red)) hg.resolved hg.found.liberal hg.super (head_reduces ls hh) hk.liberal e refl;
        valid = inr (valid_second language ls W ctx (record { category = g; has = hg.found.liberal; super = hg.super }) (head_reduces ls hh) hk.liberal e);
        by_heads = λ x. heads_second refl;
      })
      large m₄))))

  -- `<A>B`, once the head form of B's category is there
  application_finds : (d : ℕ) {sc : List Expr} {a b c f : Expr} (cat : Act ℕ Expr) → ((m : ℕ) → Finds language ls ctx sc a (cat m)) → Resolved ls ctx (length sc) a
      → Resolved ls ctx (length sc) b → ResolvedScope ls ctx sc → SortedScope language ls ctx sc
      → IsFound language ls ctx sc b c → HeadReduces ls c f → Ended ls f → (t : Shape) → shape f ≡ t → (m : ℕ)
      → Finds language ls ctx sc (app a b)
      ((elim t as (λ _. Act ℕ Expr) [
        | abstraction p q ↦ (λ m. and_then (λ k. λ m. and_then (λ _. made L (substitute a 0 q)) (compare language ls L k p m)) (cat m))
        | other ↦ (λ m.
            and_then (λ g. λ m. and_then (λ h. λ m. and_then (λ k. λ m. and_then (λ _. made L (app a f)) (compare language ls L k h.domain m)) (cat m)) (to_function ls L g m))
            (second_chance language search d sc f m))
      ]) m)
  application_finds d {c = c} {f = f} cat ih wa wb s T hc red e (abstraction p q) i m = first_chance cat ih wa wb s hc (subst (λ z. HeadReduces ls c z) (shape_abs f i) red) m
  application_finds d cat ih wa wb s T hc red (is_function j) other i m = absurd (function_not (sym j ∙ i))
    where
      is : Shape → Type 0
      is (abstraction p t) = Unit {0}
      is other = ⊥

      function_not : {p t : Expr} → abstraction p t ≡ other → ⊥
      function_not e = subst is e tt
  application_finds d cat ih wa wb s T hc red (is_other o n) other i m = second_chance_lem d cat ih wa wb s T hc red o n m

  no_domain : {sc : List Expr} {p t k : Expr} → Resolved ls ctx (length sc) p → ResolvedScope ls ctx sc → Liberal language ls ctx sc p k → ¬ IsType language k → (r : Expr)
      → ¬ Liberal language ls ctx sc (abs p t) r
  no_domain {sc} {p} {t} {k} w s hk deny r h =
      let (k', hk', ip) = domain_category language ls ctx h in
      let known = scope_known ls ctx sc s in
      let kp = resolved_known ls ctx (length sc) p w in
      deny (is_type_served language ls W (length sc) k k' (known_liberal language ls ctx W hk kp known) (equal_serves language ls (liberal_unique ls W language ctx hk hk' kp known)) ip)

  no_fit : {sc : List Expr} {context us : List ℕ} {u : ℕ} {earlier xs : Exprs} {a k : Expr} {l : Line} → Resolved ls ctx (length sc) a → ResolvedScope ls ctx sc → IsLine ls u l
      → Liberal language ls ctx sc a k
      → ¬ Serves language ls k (instantiate context earlier 0 l.category) → ¬ Fits language ls ctx sc context (u ∷ us) earlier (cons a xs)
  no_fit {sc} {a = a} w s i hk deny h =
      let (k', hk', e) = first_fits language ls ctx i h in
      deny (equal_then_serves language ls (lines_closed ls W) (liberal_unique ls W language ctx hk hk' (resolved_known ls ctx (length sc) a w) (scope_known ls ctx sc s)) e)

  mutual
    unfolding Scoped ScopedScope category_at and_then count_exprs

    pub category_at_finds : (d : ℕ) (sc : List Expr) (e : Expr) → Resolved ls ctx (length sc) e → ResolvedScope ls ctx sc → SortedScope language ls ctx sc → (b : ℕ)
        → Finds language ls ctx sc e (category_at language ls L search d sc e b)
    category_at_finds d sc type w s T b = absurd w
    category_at_finds d sc prop w s T b = absurd w
    category_at_finds d sc (var v) w s T b =
        judged_then _ (opens_judged language _ d b) (λ r x. x) (λ _ b₁ _.
        judged_line _ b₁ w.is_line
        (made_judged L _
        (record {
          strict = of_variable w.is_line refl;
          liberal = by_variable w.is_line refl;
          valid = valid_variable language ls W contexts right ctx C w w.is_line
              (scope_known ls ctx sc s);
          by_heads = λ x. heads_variable w.is_line refl;
        }) large b₁))
    category_at_finds d sc (bound i) w s T b =
        judged_then _ (opens_judged language _ d b) (λ r x. x) (λ _ b₁ _.
        judged_then _ (nth_domain (λ _. ⊥) sc i w b₁) (λ r x. absurd x) (λ p b₂ h.
        made_judged L _ (record { strict = of_bound h refl; liberal = by_bound h refl; valid = inr (valid_bound language ls W ctx h T); by_heads = λ x. heads_bound h refl }) large b₂))
    category_at_finds d sc (const v xs) w s T b =
        let i = w.0.is_line in
        judged_then _ (opens_judged language _ d b) (λ r x. x) (λ _ b₁ _.
        judged_line _ b₁ i
        (judged_then _ (arguments_find (suc d) sc xs w.1 s T _ _ nil tt w.0.as_many (λ u m. variable_line ((W.at i).context m)) b₁)
        (finding_map (λ deny c h. deny (constant_fits language ls ctx i h)))
        (λ _ b₂ f.
        made_judged L _
        (record {
          strict = of_constant i f.strict refl;
          liberal = by_constant i f.liberal refl;
          valid = valid_constant language ls W contexts right ctx i f.liberal w
              (scope_known ls ctx sc s);
          by_heads = λ x. heads_constant i refl;
        }) large b₂)))
    category_at_finds d sc (app a b) w s T m =
        judged_then _ (opens_judged language _ d m) (λ r x. x) (λ _ m₁ _.
        judged_then _ (category_at_finds (suc d) sc b w.1 s T m₁) (finding_map (λ deny r h. let (k, x) = function_category language ls ctx h in deny k x)) (λ c m₂ hc.
        judged_then _ (head_form_finds ls _ L c m₂) (λ r x. x) (λ f m₃ hf.
        application_finds (suc (suc d)) (category_at language ls L search (suc d) sc a) (λ m. category_at_finds (suc d) sc a w.0 s T m) w.0 w.1 s T hc hf.heads hf.ended
        (shape f) refl m₃)))
    category_at_finds d sc (abs p t) w s T m =
        judged_then _ (opens_judged language _ d m) (λ r x. x) (λ _ m₁ _.
        judged_then _ (category_at_finds (suc d) sc p w.0 s T m₁) (finding_map (λ deny r h. let (k, x, y) = domain_category language ls ctx h in deny k x)) (λ k m₂ hk.
        judged_then _ (ensure_type {R = Finding ((c : Expr) → ¬ Liberal language ls ctx sc (abs p t) c)} language k (λ x. no_type (no_domain w.0 s hk.liberal x)) m₂) (λ r x. x) (λ _ m₃ ip.
        judged_then _ (category_at_finds (suc d) (p ∷ sc) t w.1 (w.0, s) (one_binding (record { category = k; has = hk.liberal; super = type_super ip }) T) m₃)
        (finding_map (λ deny r h. let (c, x) = body_category language ls ctx h in deny c x)) (λ c m₄ hc.
        made_judged L _
        (record {
          strict = of_abstraction hk.strict ip hc.strict refl;
          liberal = by_abstraction hk.liberal ip hc.liberal refl;
          valid = valid_abstraction language ls W ctx c hk.liberal ip hc.valid;
          by_heads = λ x. absurd (neutral_not_abs ls x tt);
        })
        large m₄))))

    pub arguments_find : (d : ℕ) (sc : List Expr) (xs : Exprs) → AllResolved ls ctx (length sc) xs → ResolvedScope ls ctx sc → SortedScope language ls ctx sc
        → (us context : List ℕ) (earlier : Exprs) → AllKnown ls (length sc) earlier → count_exprs xs ≡ length us → ((u : ℕ) → Member u us → VariableLine ls u)
        → (b : ℕ) → FindsFit language ls ctx sc context us earlier xs (arguments language ls L search d sc xs us context earlier b)
    arguments_find d sc nil w s T [] context earlier x n m b = is_done (record { strict = all_fit; liberal = none_fits })
    arguments_find d sc nil w s T (u ∷ us) context earlier x n m b = absurd (omega arith)
    arguments_find d sc (cons a xs) w s T [] context earlier x n m b = absurd (omega arith)
    arguments_find d sc (cons a xs) w s T (u ∷ us) context earlier x n m b =
        let i = (m u here).is_line in
        judged_then _ (category_at_finds d sc a w.0 s T b) (finding_map (λ deny h. let (k, y, z) = first_fits language ls ctx i h in deny k y)) (λ k b₁ hk.
        judged_line _ b₁ i
        (judged_then _ (made_judged {P = λ c. c ≡ instantiate context earlier 0 (m u here).line.category} {R = Finding (¬ Fits language ls ctx sc context (u ∷ us) earlier (cons a xs))} L _ refl large b₁) (λ r y. y) (λ c b₂ q.
        judged_then _ (compare_settles ls language W L k c (categorical hk.liberal w.0 s)
        (record { depth = length sc; known = subst (KnownCategory ls (length sc)) (sym q) (known_wanted ls W (length sc) context earlier i x) }) b₂)
        (finding_map (λ deny. no_fit w.0 s i hk.liberal (λ e. deny (subst (λ z. Serves language ls k z) (sym q) e)))) (λ _ b₃ he.
        judged_map (λ _ f. record {
          strict = one_fits i hk.strict (subst (λ z. Serves language ls k z) q he) f.strict;
          liberal = more_fits i hk.liberal
              (subst (λ z. Serves language ls k z) q he) f.liberal;
        })
        (finding_map (λ deny h. deny (others_fit language ls ctx h)))
        (arguments_find d sc xs w.1 s T us context (snoc earlier a) (all_snoc (VariableLine ls) (ConstantOf ls) (length sc) earlier a x (resolved_known ls ctx (length sc) a w.0))
        (omega arith) (λ y z. m y (there z)) b₃)))))

module _ (language : Language) (ls : Lines) (W : ResolvedLines ls) (contexts : RightContexts ls) (right : RightLines language ls)
    (ctx : List ℕ) {n : ℕ} (C : Context ls n ctx) (N : NestedContext ls ctx) (L : ℕ) where
  searches_find : (k : ℕ) → SearchFinds language ls ctx (searches language ls L k)
  unfolding searches
  searches_find zero d sc f w s T b = is_stop large
  searches_find (suc k) d sc f w s T b = category_at_finds language ls W contexts right ctx C N L (searches language ls L k) (searches_find k) d sc f w s T b

  -- what is found is a category by the rules; 7, 8 and 9 only where there is none
  pub category_finds : (d : ℕ) (sc : List Expr) (e : Expr) → Resolved ls ctx (length sc) e → ResolvedScope ls ctx sc → SortedScope language ls ctx sc → (b : ℕ)
      → Finds language ls ctx sc e (category language ls L d sc e b)
  unfolding category
  category_finds d sc e w s T b = category_at_finds language ls W contexts right ctx C N L (searches language ls L 16) (searches_find 16) d sc e w s T b

  -- the second chance's category can be made again from f alone: so P need not be kept while A's category is sought
  pub second_again : {sc : List Expr} {f g : Expr} → IsFound language ls ctx sc f g → Neutral ls f → Supertype g → Resolved ls ctx (length sc) f → ResolvedScope ls ctx sc → g ≡ again ls f
  second_again {sc} {f} h x y w s = found_again language ls W (h.by_heads x) y (resolved_known ls ctx (length sc) f w) (scope_known ls ctx sc s)
