-- `<A>B` and `[x,A]B`: what is left of the walk where it stops at each symbol, and at the end.
use mathlib.Core.Path.{◌≡◌, sym, ◌∙◌}
use mathlib.Core.Logic.{◌≢◌}
use mathlib.Core.List.{List}
use Prim.Native.Nat.{ℕ, ◌+◌, ◌-◌, ◌≤◌, ◌<◌}
use native.Mathlib.Omega.{arith}
use lib.ListN.{length}
use lib.Seq.{slice}
use Rattle.aut68.specs.Language.{aut68}
use Rattle.aut68.specs.Rules.Grammar.{inner}
use Rattle.aut68.specs.Bytes.{Bytes}
use Rattle.aut68.specs.Source as Source
use Rattle.aut68.specs.Paragraphs.{State}
use Rattle.aut68.specs.Procedure.Parse.{application, abstraction, an_expression}
use Rattle.aut68.specs.Procedure.Resolve.{context_at}
use Rattle.aut68.specs.Sizes.{nesting}
use Rattle.symbols.specs.Symbols.{PastSymbol, NameAt}
use Rattle.cells.specs.declared.scope.Scope.{Scope}
use Rattle.cells.specs.Posts.{Nested, Bound}
use Rattle.meanings.specs.Bindings.{bound_names}
use Rattle.expressions.specs.Walk.{Walked, CellPut}
use Rattle.expressions.specs.Posts.{application_in, abstraction_in, go_on, Ready, Refusing, Onward, ExpressionRead}
use Rattle.expressions.proofs.StoreLaws.{below_same, below_then, below_put, put_next}
use Rattle.expressions.proofs.ReadLaws.{then_refused, then_passed, then_done, then_stop, then_give}
use Rattle.expressions.proofs.WrittenLaws.{application_written, abstraction_written}
use Rattle.expressions.proofs.ExpressionLaws.{ready_on, level_read, body_read, whole_written, onward_refused, symbol_read, symbol_missing, symbol_kinds, code_malformed}

-- the steps of a walk, one after the other
pub onward_then : {s : Bytes} {w w₁ w₂ : List ℕ} {r r₁ r₂ r₃ : Walked} → Onward s w w₁ r r₁ → r₁.at ≤ r₂.at → r.to ≤ r₂.to → Onward s w₁ w₂ r₂ r₃ → Onward s w w₂ r r₃
onward_then h l m k =
    record {
      below = below_then h.below m k.below;
      up = omega (arith, k.up);
      from = omega (arith, h.from, k.from);
      inside = k.inside;
      small = omega (arith, k.small, h.below.long);
    }

pub onward_put : {s : Bytes} {w w₁ w₂ : List ℕ} {r r₂ r₃ : Walked} {x next : ℕ} → CellPut w w₁ r.to x next → r.at ≤ r₂.at → r.to ≤ r₂.to → Onward s w₁ w₂ r₂ r₃ → Onward s w w₂ r r₃
onward_put put l m k =
    record {
      below = below_then (below_put put) m k.below;
      up = omega (arith, k.up);
      from = omega (arith, k.from);
      inside = k.inside;
      small = omega (arith, k.small, (below_put put).long);
    }

-- names are looked up behind the cell of a pair, and behind its first part
module _ {st : State} {ks s book tb : List ℕ} {lines indicator : ℕ} {scope : Scope} {w w₁ : List ℕ} {to x next : ℕ} (put : CellPut w w₁ to x next) (small : to ≤ length w + 1) where
  ready_first : Ready st ks s book tb lines indicator scope w to → Ready st ks s book tb lines indicator scope w₁ next
  ready_first h = ready_on (below_put put) (put_next put small).0 h

  ready_second : {wA : List ℕ} {o fault : ℕ} {a : Walked} → Onward s w₁ wA (go_on o next fault) a
      → Ready st ks s book tb lines indicator scope w to → Ready st ks s book tb lines indicator scope wA a.to
  ready_second A h = ready_on A.below A.up (ready_first h)

module _ {ks s book tb : List ℕ} {lines indicator : ℕ} {scope : Scope} {w : List ℕ} {r : Walked} {o : ℕ}
    (small : r.to ≤ length w + 1) (inside : r.at ≤ length s) (l : scope.depth < nesting) where
  module _ (p : PastSymbol ks s r.at 2 o) where
    pub application_unopened : {r' : Walked} → length s < o → Refusing 3 r.at r.to r'
        → ExpressionRead (application_in scope) ks s scope book tb lines indicator w w r r'
    unfolding application
    application_unopened m h =
        record {
          onward = onward_refused (below_same r.to w) h (omega arith) small (omega arith) inside;
          read = λ st ready. then_stop _ (symbol_missing 60 p symbol_kinds.0 (omega arith) m ready.table) (h.code_is ∙ sym code_malformed);
        }

    module _ (i : o ≤ length s) {w₁ wA : List ℕ} {next : Scope} {a : Walked} {first : ℕ} (put : CellPut w w₁ r.to 4 first) (b : Nested scope next)
        (A : ExpressionRead (an_expression aut68 (nesting - next.depth) inner) ks s next book tb lines indicator w₁ wA (go_on o first r.fault) a) where
      pub application_first_refused : a.code ≢ 0 → ExpressionRead (application_in scope) ks s scope book tb lines indicator w wA r a
      unfolding application
      application_first_refused n =
          record {
            onward = onward_put put (omega (arith, p.from inside)) (put_next put small).0 A.onward;
            read = λ st ready.
                then_done _ (symbol_read 60 p symbol_kinds.0 (omega arith) i ready.table) (then_refused _ n (level_read A b l st (ready_first put small ready)));
          }

      module _ (z : a.code ≡ 0) {close : ℕ} (q : PastSymbol ks s a.at 10 close) where
        pub application_unclosed : {r' : Walked} → length s < close → Refusing 3 a.at r.to r'
            → ExpressionRead (application_in scope) ks s scope book tb lines indicator w wA r r'
        unfolding application
        application_unclosed m h =
            record {
              onward =
                  onward_refused (below_then (below_put put) (put_next put small).0 A.onward.below) h (omega arith) small
                  (omega (arith, p.from inside, A.onward.from)) A.onward.inside;
              read = λ st ready.
                  then_done _ (symbol_read 60 p symbol_kinds.0 (omega arith) i ready.table)
                  (then_passed _ z (level_read A b l st (ready_first put small ready)) (λ x X.
                  then_stop _ (symbol_missing 62 q symbol_kinds.5 (omega arith) m ready.table) (h.code_is ∙ sym code_malformed)));
            }

        pub application_read : {wB : List ℕ} {r' : Walked} → close ≤ length s
            → ExpressionRead (an_expression aut68 (nesting - next.depth) inner) ks s next book tb lines indicator wA wB (go_on close a.to a.fault) r'
            → ExpressionRead (application_in scope) ks s scope book tb lines indicator w wB r r'
        unfolding application
        application_read c B =
            record {
              onward =
                  onward_then (onward_put put (omega (arith, p.from inside)) (put_next put small).0 A.onward) (omega (arith, q.from A.onward.inside))
                  (omega (arith, A.onward.up, (put_next put small).0)) B.onward;
              read = λ st ready.
                  then_done _ (symbol_read 60 p symbol_kinds.0 (omega arith) i ready.table)
                  (then_passed _ z (level_read A b l st (ready_first put small ready)) (λ x X.
                  then_done _ (symbol_read 62 q symbol_kinds.5 (omega arith) c ready.table)
                  (then_give (Source.app x) (level_read B b l st (ready_second put small A.onward ready)) (λ y Y.
                  whole_written scope.depth l
                  (application_written st (context_at st.earlier indicator) (bound_names s scope) put A.onward.below A.onward.up B.onward.below B.onward.up X Y)))));
            }

  module _ (p : PastSymbol ks s r.at 3 o) where
    pub abstraction_unopened : {r' : Walked} → length s < o → Refusing 3 r.at r.to r'
        → ExpressionRead (abstraction_in scope) ks s scope book tb lines indicator w w r r'
    unfolding abstraction
    abstraction_unopened m h =
        record {
          onward = onward_refused (below_same r.to w) h (omega arith) small (omega arith) inside;
          read = λ st ready. then_stop _ (symbol_missing 91 p symbol_kinds.1 (omega arith) m ready.table) (h.code_is ∙ sym code_malformed);
        }

    module _ (i : o ≤ length s) {start len : ℕ} (n : NameAt ks s o start len) where
      pub abstraction_unnamed : {r' : Walked} → len ≡ 0 → Refusing 3 o r.to r'
          → ExpressionRead (abstraction_in scope) ks s scope book tb lines indicator w w r r'
      unfolding abstraction
      abstraction_unnamed e h =
          record {
            onward = onward_refused (below_same r.to w) h (omega arith) small (omega (arith, p.from inside)) i;
            read = λ st ready.
                then_done _ (symbol_read 91 p symbol_kinds.1 (omega arith) i ready.table)
                (then_stop _ (n.missing ready.table i e) (h.code_is ∙ sym code_malformed));
          }

      module _ (e : len ≢ 0) {comma : ℕ} (k : PastSymbol ks s (start + len) 7 comma) where
        pub abstraction_no_comma : {r' : Walked} → length s < comma → Refusing 3 o r.to r'
            → ExpressionRead (abstraction_in scope) ks s scope book tb lines indicator w w r r'
        unfolding abstraction
        abstraction_no_comma m h =
            record {
              onward = onward_refused (below_same r.to w) h (omega arith) small (omega (arith, p.from inside)) i;
              read = λ st ready.
                  then_done _ (symbol_read 91 p symbol_kinds.1 (omega arith) i ready.table)
                  (then_done _ (n.read ready.table i e)
                  (then_stop _ (symbol_missing 44 k symbol_kinds.2 (omega arith) m ready.table) (h.code_is ∙ sym code_malformed)));
            }

        module _ (j : comma ≤ length s) {w₁ wA : List ℕ} {level : Scope} {a : Walked} {first : ℕ} (put : CellPut w w₁ r.to 5 first) (b : Nested scope level)
            (A : ExpressionRead (an_expression aut68 (nesting - level.depth) inner) ks s level book tb lines indicator w₁ wA (go_on comma first r.fault) a) where
          pub abstraction_first_refused : a.code ≢ 0 → ExpressionRead (abstraction_in scope) ks s scope book tb lines indicator w wA r a
          unfolding abstraction
          abstraction_first_refused x =
              record {
                onward = onward_put put (omega (arith, p.from inside, n.from, k.from (n.within i))) (put_next put small).0 A.onward;
                read = λ st ready.
                    then_done _ (symbol_read 91 p symbol_kinds.1 (omega arith) i ready.table)
                    (then_done _ (n.read ready.table i e)
                    (then_done _ (symbol_read 44 k symbol_kinds.2 (omega arith) j ready.table)
                    (then_refused _ x (level_read A b l st (ready_first put small ready)))));
              }

          module _ (z : a.code ≡ 0) {close : ℕ} (q : PastSymbol ks s a.at 11 close) where
            pub abstraction_unclosed : {r' : Walked} → length s < close → Refusing 3 a.at r.to r'
                → ExpressionRead (abstraction_in scope) ks s scope book tb lines indicator w wA r r'
            unfolding abstraction
            abstraction_unclosed m h =
                record {
                  onward =
                      onward_refused (below_then (below_put put) (put_next put small).0 A.onward.below) h (omega arith) small
                      (omega (arith, p.from inside, n.from, k.from (n.within i), A.onward.from)) A.onward.inside;
                  read = λ st ready.
                      then_done _ (symbol_read 91 p symbol_kinds.1 (omega arith) i ready.table)
                      (then_done _ (n.read ready.table i e)
                      (then_done _ (symbol_read 44 k symbol_kinds.2 (omega arith) j ready.table)
                      (then_passed _ z (level_read A b l st (ready_first put small ready)) (λ x X.
                      then_stop _ (symbol_missing 93 q symbol_kinds.6 (omega arith) m ready.table) (h.code_is ∙ sym code_malformed)))));
                }

            pub abstraction_read : {wB : List ℕ} {next : Scope} {r' : Walked} → close ≤ length s → Bound scope start len next
                → ExpressionRead (an_expression aut68 (nesting - next.depth) inner) ks s next book tb lines indicator wA wB (go_on close a.to a.fault) r'
                → ExpressionRead (abstraction_in scope) ks s scope book tb lines indicator w wB r r'
            unfolding abstraction
            abstraction_read c b' B =
                record {
                  onward =
                      onward_then (onward_put put (omega (arith, p.from inside, n.from, k.from (n.within i))) (put_next put small).0 A.onward)
                      (omega (arith, q.from A.onward.inside)) (omega (arith, A.onward.up, (put_next put small).0)) B.onward;
                  read = λ st ready.
                      then_done _ (symbol_read 91 p symbol_kinds.1 (omega arith) i ready.table)
                      (then_done _ (n.read ready.table i e)
                      (then_done _ (symbol_read 44 k symbol_kinds.2 (omega arith) j ready.table)
                      (then_passed _ z (level_read A b l st (ready_first put small ready)) (λ x X.
                      then_done _ (symbol_read 93 q symbol_kinds.6 (omega arith) c ready.table)
                      (then_give (Source.abs (slice start (start + len) s) x) (body_read B b' l (n.within i) st (ready_second put small A.onward ready)) (λ y Y.
                      whole_written scope.depth l
                      (abstraction_written st (context_at st.earlier indicator) (bound_names s scope) put A.onward.below A.onward.up B.onward.below B.onward.up X Y)))))));
                }
