-- The middle and the category of a line.
use mathlib.Core.Path.{◌≡◌, refl, sym, ap, ◌∙◌, subst}
use mathlib.Core.Bool.{Bool, true, false}
use mathlib.Core.List.{List, []}
use Prim.Native.Nat.{ℕ, zero, suc, ◌+◌, ◌-◌, ◌≤◌, ◌<◌}
use native.Mathlib.Omega.{arith}
use lib.ListN.{length, drop, take, replicate, length-replicate}
use Rattle.aut68.specs.Language.{aut68}
use Rattle.aut68.specs.Rules.Grammar.{inner}
use Rattle.aut68.specs.Bytes.{Bytes, same_bytes, word_type, word_pn, word_eb}
use Rattle.aut68.specs.Source.{Src, variable, primitive, meaning, type}
use Rattle.aut68.specs.Expr.{Expr, cells, levels}
use Rattle.aut68.specs.Lines.{kind_cells}
use Rattle.aut68.specs.Paragraphs.{State}
use Rattle.aut68.specs.Procedure.Answer.{done, and_then, Answer, give}
use Rattle.aut68.specs.Procedure.Parse.{spaces, after_word, word_ahead, past_word, an_expression, a_middle}
use Rattle.aut68.specs.Procedure.Resolve.{resolve, resolve_middle, context_at}
use Rattle.aut68.specs.Sizes.{nesting}
use Rattle.kinds.specs.Kinds.{KindsTable}
use Rattle.symbols.specs.Symbols.{PastSpaces, WordEnd}
use Rattle.symbols.proofs.SymbolLaws.{part}
use Rattle.symbols.proofs.WordLaws.{word_ahead_lem, past_word_lem}
use Rattle.cells.specs.declared.scope.Scope.{Scope}
use Rattle.meanings.proofs.BindingLaws.{no_names}
use Rattle.expressions.specs.Walk as Walk
use Rattle.expressions.specs.Walk.{Walked, ReadTo, passed, Faulted, whole, faulty, CellPut}
use Rattle.expressions.specs.Posts.{expression_in, go_on, Ready, ExpressionRead}
use Rattle.expressions.proofs.StoreLaws.{below_same, below_put, put_next}
use Rattle.expressions.proofs.LaidLaws.{nothing_laid, laid_cell}
use Rattle.expressions.proofs.ReadLaws.{then_give, read_is}
use Rattle.reader.specs.declared.body.LineKind.{LineKind}
use Rattle.reader.specs.declared.body.LineKind.TheVariants.{Variable, Primitive, Abbreviation}
use Rattle.reader.specs.Posts.{number_of, MiddleKind, middle_number, kind_levels, Lookup, WrittenMiddle, WrittenCategory, MiddleRead, CategoryRead}
use Rattle.reader.proofs.EndingLaws.{ending_type, ending_other}

-- ---- words

module _ {ks s : Bytes} {at start end : ℕ} (b : at ≤ length s) (p : PastSpaces s at start) (q : WordEnd ks s start end) where
  -- the word that stands next, compared with a fixed one
  word_test : (w : Bytes) {t : Bool} → t ≡ same_bytes (take (end - start) (drop start s)) w → KindsTable ks → same_bytes (word_ahead (drop at s)) w ≡ t
  word_test w e t = ap (λ x. same_bytes x w) (word_ahead_lem p q t b ∙ sym (part s start end q.from)) ∙ sym e

  module _ {eb : Bool} (e : eb ≡ same_bytes (take (end - start) (drop start s)) word_eb) where
    pub kind_eb : eb ≡ true → MiddleKind ks s at 0
    kind_eb f =
        record {
          small = omega arith;
          is_eb = λ t z. word_test word_eb e t ∙ f;
          is_pn = λ t z. absurd (omega arith);
          is_meaning = λ t z. absurd (omega arith);
        }

    module _ (f : eb ≡ false) {pn : Bool} (g : pn ≡ same_bytes (take (end - start) (drop start s)) word_pn) where
      pub kind_pn : pn ≡ true → MiddleKind ks s at 1
      kind_pn h =
          record {
            small = omega arith;
            is_eb = λ t z. absurd (omega arith);
            is_pn = λ t z. (word_test word_eb e t ∙ f, word_test word_pn g t ∙ h);
            is_meaning = λ t z. absurd (omega arith);
          }

      pub kind_meaning : pn ≡ false → MiddleKind ks s at 2
      kind_meaning h =
          record {
            small = omega arith;
            is_eb = λ t z. absurd (omega arith);
            is_pn = λ t z. absurd (omega arith);
            is_meaning = λ t z. (word_test word_eb e t ∙ f, word_test word_pn g t ∙ h);
          }

pub word_kind : (k : LineKind) → ((k ≡ Abbreviation) → ⊥) → number_of k < 2
word_kind Variable n = omega arith
word_kind Primitive n = omega arith
word_kind Abbreviation n = absurd (n refl)

-- ---- outside every binding

-- the scope has no entry
abbrev pub NoEntry : Scope → Type 0
NoEntry scope = (scope.bound ≡ 0) × (scope.depth ≡ 0) × (scope.starts ≡ replicate nesting 0) × (scope.lens ≡ replicate nesting 0)

module _ {ks s book tb : List ℕ} {lines indicator : ℕ} {scope : Scope} {w w' : List ℕ} {r r' : Walked}
    (n : NoEntry scope)
    (E : ExpressionRead (expression_in scope) ks s scope book tb lines indicator w w' r r') where
  pub outer_read : (st : State) → Lookup st ks s book tb lines indicator w r.to
      → ReadTo s (Walk.Written cells levels (resolve st (context_at st.earlier indicator) []) w w' r.to r'.to nesting r.fault r'.fault) r'.code r'.at
      (an_expression aut68 nesting inner (drop r.at s))
  outer_read st l =
      let ready : Ready st ks s book tb lines indicator scope w r.to =
      record {
        table = l.table;
        known = l.known;
        noted = l.noted;
        below = l.below;
        context = l.context;
        above = l.above;
        earlier = l.earlier;
        short = l.short;
        sized =
            record {
              starts = ap length n.2 ∙ length-replicate {A = ℕ} nesting 0;
              lens = ap length n.3 ∙ length-replicate {A = ℕ} nesting 0;
              deep = omega (arith, n.1);
              few = omega (arith, n.0);
            };
      } in
      let level : nesting - scope.depth ≡ nesting = omega (arith, n.1) in
      subst (λ d. ReadTo s (Walk.Written cells levels (resolve st (context_at st.earlier indicator) []) w w' r.to r'.to d r.fault r'.fault) r'.code r'.at
      (an_expression aut68 d inner (drop r.at s))) level
      (subst (λ bs. ReadTo s (Walk.Written cells levels (resolve st (context_at st.earlier indicator) bs) w w' r.to r'.to (nesting - scope.depth) r.fault r'.fault) r'.code r'.at
      (an_expression aut68 (nesting - scope.depth) inner (drop r.at s))) (no_names s scope n.0)
      (E.read st ready))

-- ---- the middle

middle_eb : (bs : Bytes) → same_bytes (word_ahead bs) word_eb ≡ true → a_middle aut68 bs ≡ done variable (after_word (spaces bs))
unfolding a_middle and_then past_word
middle_eb bs e = rw (e, a_middle) refl

middle_pn : (bs : Bytes) → same_bytes (word_ahead bs) word_eb ≡ false → same_bytes (word_ahead bs) word_pn ≡ true → a_middle aut68 bs ≡ done primitive (after_word (spaces bs))
unfolding a_middle and_then past_word
middle_pn bs e f = rw (e, f, a_middle) refl

middle_other : (bs : Bytes) → same_bytes (word_ahead bs) word_eb ≡ false → same_bytes (word_ahead bs) word_pn ≡ false
    → a_middle aut68 bs ≡ and_then (λ e. λ s. done (meaning e) s) (an_expression aut68 nesting inner bs)
unfolding a_middle
middle_other bs e f = rw (e, f, a_middle) refl

meaning_found : {w : List ℕ} {to end d fault : ℕ} {fe : Answer (Unit {0}) Expr} → Faulted cells levels w to end d fault fe
    → Faulted kind_cells kind_levels w to end d fault (and_then (λ m. give (Rattle.aut68.specs.Lines.abbreviation m)) fe)
unfolding and_then kind_cells kind_levels
meaning_found (whole e p) = whole e p
meaning_found (faulty e) = faulty e

module _ (st : State) (indicator : ℕ) {w w' : List ℕ} {to end fault fault' : ℕ} where
  meaning_written : {e : Src} → Walk.Written cells levels (resolve st (context_at st.earlier indicator) []) w w' to end nesting fault fault' e
      → WrittenMiddle st indicator w w' to end fault fault' (meaning e)
  unfolding resolve_middle
  meaning_written h = record { kept = h.kept; names = λ z. meaning_found (h.names z) }

variable_written : (st : State) (indicator : ℕ) (w : List ℕ) (to : ℕ) → WrittenMiddle st indicator w w to to 0 0 variable
unfolding kind_cells kind_levels resolve_middle
variable_written st indicator w to = record { kept = λ n. refl; names = λ z. whole refl nothing_laid }

primitive_written : (st : State) (indicator : ℕ) (w : List ℕ) (to : ℕ) → WrittenMiddle st indicator w w to to 0 0 primitive
unfolding kind_cells kind_levels resolve_middle
primitive_written st indicator w to = record { kept = λ n. refl; names = λ z. whole refl nothing_laid }

module _ {ks s book tb : List ℕ} {lines indicator : ℕ} {w : List ℕ} {at to kind : ℕ} (b : at ≤ length s) where
  pub middle_word : {start end : ℕ} → to ≤ length w → kind < 2 → PastSpaces s at start → WordEnd ks s start end
      → MiddleRead ks s book tb lines indicator w w at to kind (go_on end to 0)
  unfolding middle_number
  middle_word {end = end} t l p q =
      record {
        below = below_same to w;
        up = omega arith;
        from = omega (arith, p.from, q.from);
        inside = q.within (p.within b);
        small = omega arith;
        read = λ st k m. by_kind st k m kind refl;
      }
    where
      by_kind : (st : State) → Lookup st ks s book tb lines indicator w to → MiddleKind ks s at kind → (n : ℕ) → kind ≡ n
          → ReadTo s (λ m. (middle_number m ≡ kind) × WrittenMiddle st indicator w w to to 0 0 m) 0 end (a_middle aut68 (drop at s))
      by_kind st k m zero e =
          read_is (middle_eb (drop at s) (m.is_eb k.table e)) (passed refl (sym (past_word_lem p q k.table b)) (sym e, variable_written st indicator w to))
      by_kind st k m (suc zero) e =
          let (f, g) = m.is_pn k.table e in
          read_is (middle_pn (drop at s) f g) (passed refl (sym (past_word_lem p q k.table b)) (sym e, primitive_written st indicator w to))
      by_kind st k m (suc (suc n)) e = absurd (omega arith)

  pub middle_expression : {scope : Scope} {w' : List ℕ} {r' : Walked} → 2 ≤ kind → NoEntry scope
      → ExpressionRead (expression_in scope) ks s scope book tb lines indicator w w' (go_on at to 0) r' → MiddleRead ks s book tb lines indicator w w' at to kind r'
  unfolding middle_number
  middle_expression l n E =
      record {
        below = E.onward.below;
        up = E.onward.up;
        from = E.onward.from;
        inside = E.onward.inside;
        small = E.onward.small;
        read = λ st k m.
            let e : kind ≡ 2 = omega (arith, m.small) in
            let (f, g) = m.is_meaning k.table e in
            read_is (middle_other (drop at s) f g) (then_give meaning (outer_read n E st k) (λ x X. (sym e, meaning_written st indicator X)));
      }

-- ---- the category

type_written : (st : State) (indicator : ℕ) {w w' : List ℕ} {to next fault : ℕ} → CellPut w w' to 0 next → WrittenCategory st indicator w w' to next fault fault type
unfolding cells levels resolve
type_written st indicator {w' = w'} {next = next} put =
    record { kept = λ n. refl; names = λ z. whole z (laid_cell put (below_same next w') (omega arith) (nothing_laid {d = nesting - 1})) }

module _ {ks s book tb : List ℕ} {lines indicator : ℕ} {w w' : List ℕ} {r : Walked} (small : r.to ≤ length w + 1) (b : r.at ≤ length s)
    {start end : ℕ} (p : PastSpaces s r.at start) (q : WordEnd ks s start end) {t : Bool} (e : t ≡ same_bytes (take (end - start) (drop start s)) word_type) where
  pub category_type : {next : ℕ} → t ≡ true → CellPut w w' r.to 0 next → CategoryRead ks s book tb lines indicator w w' r (go_on end next r.fault)
  category_type f put =
      let (up, few) = put_next put small in
      record {
        onward = record { below = below_put put; up = up; from = omega (arith, p.from, q.from); inside = q.within (p.within b); small = few };
        read = λ st k.
            read_is (ending_type aut68 (nesting - 1) (drop r.at s) (word_test b p q word_type e k.table ∙ f))
            (passed refl (sym (past_word_lem p q k.table b)) (type_written st indicator put));
      }

  pub category_expression : {scope : Scope} {r' : Walked} → t ≡ false → NoEntry scope
      → ExpressionRead (expression_in scope) ks s scope book tb lines indicator w w' (go_on r.at r.to r.fault) r' → CategoryRead ks s book tb lines indicator w w' r r'
  category_expression f n E =
      record {
        onward =
            record {
              below = E.onward.below;
              up = E.onward.up;
              from = E.onward.from;
              inside = E.onward.inside;
              small = E.onward.small;
            };
        read = λ st k.
            read_is (ending_other nesting (drop r.at s) (word_test b p q word_type e k.table ∙ f)) (outer_read n E st k);
      }
