-- An argument string, one argument after the other.
use mathlib.Core.Path.{◌≡◌, refl, sym, ap, ◌∙◌}
use mathlib.Core.Logic.{◌≢◌}
use mathlib.Core.List.{List}
use Prim.Native.Nat.{ℕ, suc, ◌+◌, ◌-◌, ◌≤◌, ◌<◌}
use native.Mathlib.Omega.{arith}
use lib.ListN.{length, drop}
use Rattle.aut68.specs.Bytes.{Bytes}
use Rattle.aut68.specs.Source.{cons, count_srcs}
use Rattle.aut68.specs.Paragraphs.{State}
use Rattle.aut68.specs.Procedure.Answer.{Refusal, and_then, when, code_of}
use Rattle.lookup.specs.Answers.{code_nonzero}
use Rattle.aut68.specs.Procedure.Parse.{arguments}
use Rattle.aut68.specs.Procedure.Resolve.{context_at}
use Rattle.aut68.specs.Sizes.{nesting}
use Rattle.symbols.specs.Symbols.{PastSymbol}
use Rattle.cells.specs.declared.scope.Scope.{Scope}
use Rattle.meanings.specs.Bindings.{bound_names}
use Rattle.expressions.specs.Walk.{Walked, ReadTo, passed, SameBelow}
use Rattle.expressions.specs.Posts.{expression_in, go_on, Ready, Refusing, ExpressionRead, Counted, ArgumentsRead}
use Rattle.expressions.proofs.StoreLaws.{below_same, below_then}
use Rattle.expressions.proofs.ReadLaws.{read_back, then_refused, then_passed, then_done, then_stop, then_give, read_is, comma_read, close_read, neither_read}
use Rattle.expressions.proofs.WrittenLaws.{no_arguments_written, argument_written}
use Rattle.expressions.proofs.ExpressionLaws.{onward_back, ready_on, onward_refused, symbol_read, symbol_missing, symbol_kinds, code_malformed}

-- an argument string that is refused is so where it began
pub arguments_here : {ks s : Bytes} {scope : Scope} {book tb : List ℕ} {lines indicator : ℕ} {w w' : List ℕ} {r a : Walked} (x : Refusal)
    → ArgumentsRead ks s scope book tb lines indicator w w' r a → a.code ≡ code_of x → r.at ≤ length s
    → ArgumentsRead ks s scope book tb lines indicator w w' r (record { code = code_of x; at = r.at; to = r.to; fault = 0; count = 0 })
arguments_here x h e i =
    record {
      onward = onward_back i refl refl h.onward;
      read = λ st ready n l. rw (sym e) (read_back (λ z. code_nonzero x (sym e ∙ z)) (h.read st ready n l));
    }

-- `count` arguments were read from r on; what is read of the rest, from `at` on, is read of the whole
pub record ArgumentsSoFar (ks s : Bytes) (scope : Scope) (book tb : List ℕ) (lines indicator : ℕ) (w₀ w : List ℕ) (r : Walked) (at to fault count : ℕ) : Type 0 where
  pub below : SameBelow r.to w₀ w
  pub up : r.to ≤ to
  pub from : r.at ≤ at
  pub inside : at ≤ length s
  pub small : to ≤ length w₀ + 1
  pub few : count ≤ at
  pub rest : (st : State) → Ready st ks s book tb lines indicator scope w₀ r.to → (n : ℕ) → length s - r.at < n
      → (m : ℕ) × (length s - at < m) × ((w' : List ℕ) (r' : Walked) → SameBelow to w w' → to ≤ r'.to
      → ReadTo s (Counted st s indicator scope w w' to fault count r') r'.code r'.at (arguments (expression_in scope) m (drop at s))
      → ReadTo s (Counted st s indicator scope w₀ w' r.to r.fault 0 r') r'.code r'.at (arguments (expression_in scope) n (drop r.at s)))

pub arguments_start : {ks s : Bytes} {scope : Scope} {book tb : List ℕ} {lines indicator : ℕ} {w : List ℕ} {r : Walked} → r.to ≤ length w + 1 → r.at ≤ length s
    → ArgumentsSoFar ks s scope book tb lines indicator w w r r.at r.to r.fault 0
arguments_start {w = w} {r} f i =
    record {
      below = below_same r.to w;
      up = omega arith;
      from = omega arith;
      inside = i;
      small = f;
      few = omega arith;
      rest = λ st ready n l. (n, l, λ w' r' b u h. h);
    }

module _ {ks s : Bytes} {scope : Scope} {book tb : List ℕ} {lines indicator : ℕ} {w₀ w wA : List ℕ} {r a : Walked} {at to fault count : ℕ}
    (h : ArgumentsSoFar ks s scope book tb lines indicator w₀ w r at to fault count)
    (A : ExpressionRead (expression_in scope) ks s scope book tb lines indicator w wA (go_on at to fault) a) where
  pub arguments_refused : a.code ≢ 0 → ArgumentsRead ks s scope book tb lines indicator w₀ wA r a
  unfolding arguments
  arguments_refused n =
      record {
        onward =
            record {
              below = below_then h.below h.up A.onward.below;
              up = omega (arith, h.up, A.onward.up);
              from = omega (arith, h.from, A.onward.from);
              inside = A.onward.inside;
              small = omega (arith, A.onward.small, h.below.long);
            };
        read = λ st ready k l.
            let (m, b, f) = h.rest st ready k l in
            let e : m ≡ suc (m - 1) = omega arith in
            f wA a A.onward.below A.onward.up
            (read_is (ap (λ i. arguments (expression_in scope) i (drop at s)) e) (then_refused _ n (A.read st (ready_on h.below h.up ready))));
      }

  module _ (z : a.code ≡ 0) {comma : ℕ} (p : PastSymbol ks s a.at 7 comma) where
    pub arguments_more : comma ≤ length s → ArgumentsSoFar ks s scope book tb lines indicator w₀ wA r comma a.to a.fault (count + 1)
    unfolding arguments count_srcs when
    arguments_more i =
        let past = p.from A.onward.inside in
        record {
          below = below_then h.below h.up A.onward.below;
          up = omega (arith, h.up, A.onward.up);
          from = omega (arith, h.from, A.onward.from);
          inside = i;
          small = omega (arith, A.onward.small, h.below.long);
          few = omega (arith, h.few, A.onward.from);
          rest = λ st ready k l.
              let (m, b, f) = h.rest st ready k l in
              let e : m ≡ suc (m - 1) = omega arith in (
                m - 1,
                omega (arith, A.onward.from),
                λ w' r' below up rest.
                    f w' r' (below_then A.onward.below A.onward.up below) (omega (arith, A.onward.up))
                    (read_is (ap (λ i. arguments (expression_in scope) i (drop at s)) e)
                    (then_passed _ z (A.read st (ready_on h.below h.up ready)) (λ x X.
                    then_done _ (comma_read (drop a.at s) (symbol_read 44 p symbol_kinds.2 (omega arith) i ready.table))
                    (then_give (cons x) rest (λ xs Y.
                    record {
                      number = Y.number ∙ omega arith;
                      written = argument_written st (context_at st.earlier indicator) (bound_names s scope) below A.onward.up up X Y.written;
                    }))))),
              );
        }

    module _ (u : length s < comma) {close : ℕ} (q : PastSymbol ks s a.at 9 close) where
      pub arguments_unclosed : {r' : Walked} → length s < close → Refusing 3 a.at a.to r' → ArgumentsRead ks s scope book tb lines indicator w₀ wA r r'
      unfolding arguments
      arguments_unclosed {r'} v g =
          record {
            onward =
                onward_refused (below_then h.below h.up A.onward.below) g (omega (arith, h.up, A.onward.up)) (omega (arith, A.onward.small, h.below.long))
                (omega (arith, h.from, A.onward.from)) A.onward.inside;
            read = λ st ready k l.
                let (m, b, f) = h.rest st ready k l in
                let e : m ≡ suc (m - 1) = omega arith in
                f wA r' A.onward.below (omega (arith, A.onward.up, g.to_is))
                (read_is (ap (λ i. arguments (expression_in scope) i (drop at s)) e)
                (then_passed _ z (A.read st (ready_on h.below h.up ready)) (λ x X.
                then_stop _
                (neither_read (drop a.at s) (symbol_missing 44 p symbol_kinds.2 (omega arith) u ready.table)
                (symbol_missing 41 q symbol_kinds.4 (omega arith) v ready.table))
                (g.code_is ∙ sym code_malformed))));
          }

      pub arguments_closed : close ≤ length s
          → ArgumentsRead ks s scope book tb lines indicator w₀ wA r (record { code = 0; at = close; to = a.to; fault = a.fault; count = count + 1 })
      unfolding arguments count_srcs when and_then
      arguments_closed v =
          let past = q.from A.onward.inside in
          record {
            onward =
                record {
                  below = below_then h.below h.up A.onward.below;
                  up = omega (arith, h.up, A.onward.up);
                  from = omega (arith, h.from, A.onward.from);
                  inside = v;
                  small = omega (arith, A.onward.small, h.below.long);
                };
            read = λ st ready k l.
                let (m, b, f) = h.rest st ready k l in
                let e : m ≡ suc (m - 1) = omega arith in
                f wA (record { code = 0; at = close; to = a.to; fault = a.fault; count = count + 1 }) A.onward.below A.onward.up
                (read_is (ap (λ i. arguments (expression_in scope) i (drop at s)) e)
                (then_passed _ z (A.read st (ready_on h.below h.up ready)) (λ x X.
                then_done _
                (close_read (drop a.at s) (symbol_missing 44 p symbol_kinds.2 (omega arith) u ready.table)
                (symbol_read 41 q symbol_kinds.4 (omega arith) v ready.table))
                (passed refl refl
                (record {
                  number = omega arith;
                  written =
                      argument_written st (context_at st.earlier indicator) (bound_names s scope) (below_same a.to wA) A.onward.up (omega arith) X
                      (no_arguments_written st (context_at st.earlier indicator) (bound_names s scope) wA a.to (nesting - scope.depth) a.fault);
                })))));
          }
