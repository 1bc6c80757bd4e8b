-- `middle:category` and byte 10.
use mathlib.Core.Path.{◌≡◌, refl, sym, ap, ◌∙◌}
use mathlib.Core.Logic.{◌≢◌, ◌⊎◌, inl, inr}
use mathlib.Core.Bool.{Bool, true, false}
use mathlib.Core.List.{List}
use Prim.Native.Nat.{ℕ, ◌≤◌, ◌<◌}
use native.Mathlib.Omega.{arith}
use lib.ListN.{length, drop, length-drop}
use lib.Dec.{leb}
use borrow.Author.Tests.{leb-true, leb-false}
use Rattle.aut68.specs.Bytes.{name_byte}
use Rattle.aut68.specs.Paragraphs.{State}
use Rattle.aut68.specs.Procedure.Answer.{Refusal, and_then, code_of}
use Rattle.lookup.specs.Answers.{code_nonzero}
use Rattle.aut68.specs.Procedure.Parse.{Read, symbol, line_end}
use Rattle.kinds.specs.Kinds.{KindsTable, kind_of, place_or0}
use Rattle.symbols.specs.Symbols.{PastSymbol}
use Rattle.headings.specs.ReadLine.{after_heading}
use Rattle.headings.proofs.LineEndLaws.{line_ends, line_goes_on}
use Rattle.notes.specs.Note.{note_end}
use Rattle.notes.specs.NoteLaws.{state_noted_same}
use Rattle.meanings.specs.NotedContext.{context_noted_same}
use Rattle.expressions.specs.Walk.{Walked, ReadTo, passed}
use Rattle.expressions.specs.Posts.{go_on, Refusing}
use Rattle.expressions.proofs.StoreLaws.{below_then}
use Rattle.expressions.proofs.ReadLaws.{read_back, then_refused, then_passed, then_done, then_stop}
use Rattle.expressions.proofs.ExpressionLaws.{code_malformed}
use Rattle.reader.specs.Posts.{Lookup, MiddleRead, CategoryRead, BodyRead}

-- a line that is refused is so from where its body begins
pub body_here : {ks s book tb : List ℕ} {lines indicator : ℕ} {w w' : List ℕ} {at to kind : ℕ} {a : Walked} (x : Refusal) → BodyRead ks s book tb lines indicator w w' at to kind a → a.code ≡ code_of x
    → BodyRead ks s book tb lines indicator w w' at to kind (record { code = code_of x; at = at; to = to; fault = 0; count = 0 })
body_here x h e =
    record {
      below = h.below;
      upward = λ z. absurd (code_nonzero x z);
      read = λ st k g i before name. rw (sym e) (read_back (λ z. code_nonzero x (sym e ∙ z)) (h.read st k g i before name));
    }

-- ---- the whole body

body_kinds : (kind_of 58 ≡ 5) × (kind_of 10 ≡ 13)
unfolding kind_of place_or0 name_byte
body_kinds = (refl, refl)

decide : (a b : ℕ) → (a ≤ b) ⊎ (b < a)
decide a b = split (leb a b) refl
  where
    split : (t : Bool) → leb a b ≡ t → (a ≤ b) ⊎ (b < a)
    split true e = inl (leb-true a b e)
    split false e = inr (leb-false a b e)

module _ {ks s book tb : List ℕ} {lines indicator : ℕ} {w w₁ : List ℕ} {at to kind : ℕ} {m : Walked} (M : MiddleRead ks s book tb lines indicator w w₁ at to kind m) where
  -- behind the middle, names are looked up in the same
  lookup_on : {st : State} → Lookup st ks s book tb lines indicator w to → Lookup st ks s book tb lines indicator w₁ m.to
  lookup_on k =
      record {
        table = k.table;
        known = k.known;
        noted = state_noted_same to k.below M.below.long M.below.is k.noted;
        below = omega (arith, k.below, M.up, ap note_end M.below.long);
        context = context_noted_same to k.above M.below.long M.below.is k.context;
        above = omega (arith, k.above, M.up, M.below.long);
        earlier = k.earlier;
        short = k.short;
      }

  pub body_middle_refused : m.code ≢ 0 → BodyRead ks s book tb lines indicator w w₁ at to kind m
  unfolding after_heading
  body_middle_refused n =
      record { below = M.below; upward = λ z. absurd (n z); read = λ st k h i before name. then_refused _ n (M.read st k h) }

  module _ (z : m.code ≡ 0) {colon : ℕ} (p : PastSymbol ks s m.at 5 colon) where
    pub body_no_colon : {r' : Walked} {place end : ℕ} → length s < colon → Refusing 3 place end r' → BodyRead ks s book tb lines indicator w w₁ at to kind r'
    unfolding after_heading
    body_no_colon l h =
        record {
          below = M.below;
          upward = λ y. absurd (omega (arith, h.code_is));
          read = λ st k g i before name.
              then_passed _ z (M.read st k g) (λ x X.
              then_stop _ (p.missing k.table 58 body_kinds.0 (omega arith) l) (h.code_is ∙ sym code_malformed));
        }

    module _ (o : colon ≤ length s) {w₂ : List ℕ} {c : Walked} (C : CategoryRead ks s book tb lines indicator w₁ w₂ (go_on colon m.to m.fault) c) where
      pub body_category_refused : c.code ≢ 0 → BodyRead ks s book tb lines indicator w w₂ at to kind c
      unfolding after_heading
      body_category_refused n =
          record {
            below = below_then M.below M.up C.onward.below;
            upward = λ y. absurd (n y);
            read = λ st k g i before name.
                then_passed _ z (M.read st k g) (λ x X.
                then_done _ (p.read k.table 58 body_kinds.0 (omega arith) o) (then_refused _ n (C.read st (lookup_on k))));
          }

      module _ (y : c.code ≡ 0) {next : ℕ} (q : PastSymbol ks s c.at 13 next) where
        pub body_not_ended : {r' : Walked} {place end : ℕ} → next ≢ length s → Refusing 3 place end r' → BodyRead ks s book tb lines indicator w w₂ at to kind r'
        unfolding after_heading
        body_not_ended {r'} n h =
            record {
              below = below_then M.below M.up C.onward.below;
              upward = λ x. absurd (omega (arith, h.code_is));
              read = λ st k g i before name.
                  then_passed _ z (M.read st k g) (λ x X.
                  then_done _ (p.read k.table 58 body_kinds.0 (omega arith) o)
                  (then_passed _ y (C.read st (lookup_on k)) (λ d D.
                  ends _ k.table (decide next (length s)))));
            }
          where
            ends : {B : Type 0} {Q : B → Type 0} (f : Unit {0} → Read B) → KindsTable ks → (next ≤ length s) ⊎ (length s < next)
                → ReadTo s Q r'.code r'.at (and_then (λ _. λ t. and_then f (line_end t)) (symbol 10 (drop c.at s)))
            ends f k (inl l) =
                then_done _ (q.read k 10 body_kinds.1 (omega arith) l)
                (then_stop _ (line_goes_on (drop next s) (λ e. omega (arith, length-drop next s))) (h.code_is ∙ sym code_malformed))
            ends f k (inr l) = then_stop _ (q.missing k 10 body_kinds.1 (omega arith) l) (h.code_is ∙ sym code_malformed)

        pub body_read : next ≡ length s
            → BodyRead ks s book tb lines indicator w w₂ at to kind (record { code = 0; at = length s; to = c.to; fault = c.fault; count = m.to })
        unfolding after_heading
        body_read e =
            record {
              below = below_then M.below M.up C.onward.below;
              upward = λ x. (M.up, C.onward.up);
              read = λ st k g i before name.
                  then_passed _ z (M.read st k g) (λ x X.
                  then_done _ (p.read k.table 58 body_kinds.0 (omega arith) o)
                  (then_passed _ y (C.read st (lookup_on k)) (λ d D.
                  then_done _ (q.read k.table 10 body_kinds.1 (omega arith) (omega arith))
                  (then_done _ (line_ends s next (omega arith))
                  (passed refl (ap (λ i. drop i s) (sym e))
                  (record {
                    before_is = refl;
                    indicator_is = refl;
                    identifier_is = refl;
                    kind_is = X.0;
                    between = w₁;
                    fault_between = m.fault;
                    middle_written = X.1;
                    below = C.onward.below;
                    long = M.below.long;
                    category_written = D;
                  }))))));
            }
