-- A name with its arguments, if any.
use Rattle.std.specs.Prelude.{Result, Ok, Err}
use Rattle.std.specs.Result.{result_err}
use mathlib.Core.Path.{◌≡◌, refl, sym, ap, ap₂, ◌∙◌, subst}
use mathlib.Core.Logic.{◌≢◌}
use mathlib.Core.List.{List}
use Prim.Native.Nat.{ℕ, ◌+◌, ◌-◌, ◌≤◌, ◌<◌}
use native.Mathlib.Omega.{arith}
use lib.ListN.{length, drop, length-drop}
use lib.Seq.{slice, length-slice}
use Rattle.aut68.specs.Language.{aut68}
use Rattle.aut68.specs.Rules.Grammar.{inner}
use Rattle.aut68.specs.Bytes.{Bytes}
use Rattle.aut68.specs.Source.{plain, Srcs, name, nil, count_srcs}
use Rattle.aut68.specs.Expr.{cellss, levelss}
use Rattle.aut68.specs.Paragraphs.{State}
use Rattle.aut68.specs.Procedure.Parse.{named, an_expression, arguments}
use Rattle.aut68.specs.Procedure.Resolve.{context_at, resolves, meaning}
use Rattle.aut68.specs.Sizes.{nesting}
use Rattle.symbols.specs.Symbols.{PastSymbol, used_by, UsedAt}
use Rattle.symbols.proofs.UsedLaws.{used_plain, used_inside, used_by_lem}
use Rattle.cells.specs.declared.scope.Scope.{Scope}
use Rattle.cells.specs.Posts.{Nested}
use Rattle.meanings.specs.Bindings.{bound_names}
use Rattle.meanings.specs.Posts.{BindingFound}
use Rattle.meanings.specs.Meanings.{Meant, MeaningFound}
use Rattle.meanings.proofs.BindingLaws.{nested_names, bound_inside}
use Rattle.constants.specs.declared.codes.Reason.{Reason}
use Rattle.constants.specs.Refusals.{code_in}
use Rattle.expressions.specs.Walk.{fault_in, Walked, ReadTo, passed, SameBelow, CellPut, Written}
use Rattle.expressions.specs.Posts.{UsedPlace, NameMeaning, part_in, named_in, go_on, Ready, Refusing, WrittenOne, ExpressionRead, ArgumentsRead, used_of, NameSought, Completed}
use Rattle.expressions.proofs.StoreLaws.{below_same, below_then, below_put, put_next}
use Rattle.expressions.proofs.ReadLaws.{then_done, then_stop, then_give_on, then_map, read_is, no_arguments, some_arguments}
use Rattle.expressions.proofs.WrittenLaws.{no_arguments_written, name_written}
use Rattle.expressions.proofs.ExpressionLaws.{ready_on, ready_inner, sized_nested, whole_written, onward_refused, symbol_read, symbol_missing, symbol_kinds, code_malformed}

-- ---- what a name means

module _ {ks s : Bytes} {b : ℕ} {book tb : List ℕ} {lines indicator : ℕ} {w : List ℕ} {fault : ℕ} {u : UsedPlace} where
  pub sought_after_fault : {cell wanted : ℕ} → fault ≢ 0 → NameSought ks s b book tb lines indicator w fault u (record { fault = fault; cell = cell; wanted = wanted })
  sought_after_fault n = record { kept = λ n. refl; meant = λ z. absurd (n z) }

  pub sought_meaning : {title word : List ℕ} {m : NameMeaning} → fault ≡ 0 → title ≡ slice u.title (u.title + u.size) s → word ≡ slice u.start (u.start + u.len) s
      → MeaningFound b ks book tb lines indicator w title word m.fault m.cell m.wanted → NameSought ks s b book tb lines indicator w fault u m
  sought_meaning {title} {word} {m} z et ew h =
      record {
        kept = λ n. absurd (n z);
        meant = λ z p q l st t k g context i scope f d.
            let e : used_by title word ≡ used_of s u = ap₂ used_by et ew ∙ sym (used_by_lem s u.title u.size u.start u.len l) in
            subst (λ x. Meant st (context_at st.earlier indicator) m.fault m.cell m.wanted (meaning st (context_at st.earlier indicator) x (bound_names s scope) tt)) e
            (h.is st t k g context i s scope (subst (λ x. BindingFound s scope x b) (sym e) f) d (omega (arith, ap length ew, length-slice u.start (u.start + u.len) s q)));
      }

-- its fault
pub fault_err : {A : Type 0} (m : Result A Reason) → fault_in (result_err m) ≡ code_in m
fault_err (Ok a) = refl
fault_err (Err r) = refl

-- ---- its binding

module _ {s : Bytes} {scope : Scope} {b : ℕ} (u : UsedPlace) where
  pub binding_of : {r : ℕ} {word : Bytes} → b ≡ r → word ≡ slice u.start (u.start + u.len) s → u.size ≡ 0 → BindingFound s scope (plain word) r → BindingFound s scope (used_of s u) b
  binding_of {r} {word} e q z h =
      subst (λ n. BindingFound s scope (used_of s u) n) (sym e)
      (subst (λ x. BindingFound s scope x r) (ap plain q ∙ sym (used_plain s u.title u.size u.start u.len z)) h)

  pub binding_pointed : b ≡ nesting → u.size ≢ 0 → BindingFound s scope (used_of s u) b
  binding_pointed e n =
      subst (λ r. BindingFound s scope (used_of s u) r) (sym e)
      (subst (λ x. BindingFound s scope x nesting) (sym (used_inside s u.title u.size u.start u.len n)) bound_inside)

-- the argument string one level deeper, with the names that are bound around it
level_arguments : {ks s book tb : List ℕ} {lines indicator : ℕ} {scope next : Scope} {w w' : List ℕ} {r r' : Walked} → Nested scope next → scope.depth < nesting
    → ArgumentsRead ks s next book tb lines indicator w w' r r' → (st : State) → Ready st ks s book tb lines indicator scope w r.to → (n : ℕ) → length s - r.at < n
    → ReadTo s (λ xs. (r'.count ≡ count_srcs xs)
    × Written cellss levelss (resolves st (context_at st.earlier indicator) (bound_names s scope)) w w' r.to r'.to (nesting - 1 - scope.depth) r.fault r'.fault xs)
    r'.code r'.at (arguments (part_in scope) n (drop r.at s))
level_arguments {s = s} {indicator = indicator} {scope} {next} {w} {w'} {r} {r'} b l h st ready n m =
    let names : bound_names s next ≡ bound_names s scope = nested_names s b in
    let level : nesting - next.depth ≡ nesting - 1 - scope.depth = omega (arith, b.deeper l) in
    read_is (ap (λ d. arguments (an_expression aut68 d inner) n (drop r.at s)) (sym level))
    (then_map (h.read st (ready_inner (sized_nested b l ready.sized) ready) n m) (λ xs X. (
      X.number ∙ omega arith,
      subst (λ d. Written cellss levelss (resolves st (context_at st.earlier indicator) (bound_names s scope)) w w' r.to r'.to d r.fault r'.fault xs) level
          (subst (λ bs. Written cellss levelss (resolves st (context_at st.earlier indicator) bs) w w' r.to r'.to (nesting - next.depth) r.fault r'.fault xs) names X.written),
    )))

-- what is written of the arguments, those left out among them, is written of the name with its arguments
name_read_lem : {ks s book tb : List ℕ} {lines indicator : ℕ} {scope : Scope} {w w₁ wA w' : List ℕ} {to fault b first : ℕ} {u : UsedPlace} {m : NameMeaning} {a r' : Walked}
    → scope.depth < nesting → to ≤ length w + 1 → u.len ≢ 0 → u.start + u.len ≤ length s → u.title + u.size ≤ length s → BindingFound s scope (used_of s u) b
    → NameSought ks s b book tb lines indicator w fault u m → CellPut w w₁ to m.cell first → SameBelow first w₁ wA → first ≤ a.to → a.to ≤ length wA + 1
    → Completed tb indicator wA w' first scope.depth a m r' → (st : State) → Ready st ks s book tb lines indicator scope w to → (xs : Srcs) → a.code ≡ 0 → a.count ≡ count_srcs xs
    → Written cellss levelss (resolves st (context_at st.earlier indicator) (bound_names s scope)) w₁ wA first a.to (nesting - 1 - scope.depth) m.fault a.fault xs
    → WrittenOne st s indicator scope w w' to r'.to fault r'.fault (name (used_of s u) xs)
name_read_lem {scope = scope} {to = to} l small e within titled found sought put below up few h st ready xs z count X =
    whole_written scope.depth l
    (name_written st sought put ready.table ready.known ready.noted ready.context
    (ready_on {to' = to} (below_then (below_put put) (put_next put small).0 below) (omega arith) ready).context ready.earlier found
    (omega (arith, ready.sized.few)) (omega arith) within titled below xs h z up few count X)

module _ {ks s book tb : List ℕ} {lines indicator : ℕ} {scope : Scope} {w : List ℕ} {r : Walked} {u : UsedPlace}
    (small : r.to ≤ length w + 1) (inside : r.at ≤ length s) (l : scope.depth < nesting) (n : UsedAt ks s r.at u.title u.size u.start u.len) where
  pub named_unnamed : {r' : Walked} → u.len ≡ 0 → Refusing 3 r.at r.to r'
      → ExpressionRead (named_in scope) ks s scope book tb lines indicator w w r r'
  unfolding named
  named_unnamed e h =
      record {
        onward = onward_refused (below_same r.to w) h (omega arith) small (omega arith) inside;
        read = λ st ready. then_stop _ (n.missing ready.table inside e).1 (h.code_is ∙ sym code_malformed);
      }

  module _ (e : u.len ≢ 0) {b : ℕ} (found : BindingFound s scope (used_of s u) b) {w₁ : List ℕ} {m : NameMeaning}
      (sought : NameSought ks s b book tb lines indicator w r.fault u m) {first : ℕ} (put : CellPut w w₁ r.to m.cell first)
      {o : ℕ} (p : PastSymbol ks s (u.start + u.len) 8 o) where
    pub named_alone : {w' : List ℕ} {r' : Walked} → length s < o → Completed tb indicator w₁ w' first scope.depth (go_on (u.start + u.len) first m.fault) m r'
        → ExpressionRead (named_in scope) ks s scope book tb lines indicator w w' r r'
    unfolding named count_srcs
    named_alone {w'} {r'} i h =
        let (up, few) = put_next put small in
        let long = (below_put put).long in
        let few₁ : first ≤ length w₁ + 1 = omega arith in
        record {
          onward =
              record {
                below = below_then (below_put put) up h.below;
                up = omega (arith, h.up few₁);
                from = omega (arith, h.at, n.from);
                inside = omega (arith, h.at, n.within inside);
                small = omega (arith, h.small few₁);
              };
          read = λ st ready.
              then_done _ (n.read ready.table inside e)
              (then_done _ (no_arguments (part_in scope) (drop (u.start + u.len) s) (symbol_missing 40 p symbol_kinds.3 (omega arith) i ready.table))
              (passed h.code (ap (λ i. drop i s) h.at)
              (name_read_lem l small e (n.within inside) (n.titled inside) found sought put (below_same first w₁) (omega arith) few₁ h st ready nil refl refl
              (no_arguments_written st (context_at st.earlier indicator) (bound_names s scope) w₁ first (nesting - 1 - scope.depth) m.fault))));
        }

    pub named_read : {wA w' : List ℕ} {next : Scope} {a r' : Walked} → o ≤ length s → Nested scope next
        → ArgumentsRead ks s next book tb lines indicator w₁ wA (go_on o first m.fault) a → Completed tb indicator wA w' first scope.depth a m r'
        → ExpressionRead (named_in scope) ks s scope book tb lines indicator w w' r r'
    unfolding named
    named_read {wA} {a = a} i next A h =
        let from = p.from (n.within inside) in
        let (up, few) = put_next put small in
        let long = A.onward.below.long in
        let few₁ : a.to ≤ length wA + 1 = omega (arith, A.onward.small) in
        record {
          onward =
              record {
                below = below_then (below_then (below_put put) up A.onward.below) up h.below;
                up = omega (arith, h.up few₁, A.onward.up);
                from = omega (arith, h.at, n.from, A.onward.from, from);
                inside = omega (arith, h.at, A.onward.inside);
                small = omega (arith, h.small few₁, (below_put put).long);
              };
          read = λ st ready.
              then_done _ (n.read ready.table inside e)
              (then_give_on (name (used_of s u)) h.code h.at
              (read_is (some_arguments (part_in scope) (drop (u.start + u.len) s) (symbol_read 40 p symbol_kinds.3 (omega arith) i ready.table))
              (level_arguments next l A st (ready_on (below_put put) up ready) (length (drop (u.start + u.len) s)) (omega (arith, length-drop (u.start + u.len) s, from))))
              (λ xs z X. name_read_lem l small e (n.within inside) (n.titled inside) found sought put A.onward.below A.onward.up few₁ h st ready xs z X.0 X.1));
        }
