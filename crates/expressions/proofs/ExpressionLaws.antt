-- What each function of the walk leaves, from what its callees leave.
use Rattle.std.specs.Prelude.{Result, Ok, Err}
use mathlib.Core.Path.{◌≡◌, refl, sym, ap, ◌∙◌, subst}
use mathlib.Core.Logic.{◌≢◌}
use mathlib.Core.Bool.{Bool, true, false}
use mathlib.Core.List.{List, ◌∷◌}
use Prim.Native.Nat.{ℕ, suc, ◌+◌, ◌-◌, ◌≤◌, ◌<◌}
use native.Mathlib.Omega.{arith}
use lib.ListN.{length, drop, length-set}
use lib.Seq.{slice}
use Rattle.aut68.specs.Language.{aut68}
use Rattle.aut68.specs.Rules.Grammar.{inner}
use Rattle.aut68.specs.Bytes.{Bytes, name_byte}
use Rattle.aut68.specs.Source.{Src}
use Rattle.aut68.specs.Expr.{Expr, cells, levels}
use Rattle.aut68.specs.Paragraphs.{State}
use Rattle.aut68.specs.Procedure.Answer.{Refusal, done, stop, code_of, malformed, too_large}
use Rattle.aut68.specs.Procedure.Parse.{Read, spaces, symbol, an_expression}
use Rattle.aut68.specs.Procedure.Resolve.{Naming, resolve, context_at}
use Rattle.aut68.specs.Sizes.{nesting}
use Rattle.lookup.specs.Answers.{code_nonzero}
use Rattle.kinds.specs.Kinds.{KindsTable, kind_of, place_or0, opens_kind}
use Rattle.symbols.specs.Symbols.{first_kind, PastSpaces, KindAt, PastSymbol}
use Rattle.cells.specs.declared.scope.Scope.{Scope}
use Rattle.cells.specs.Posts.{Nested, Bindable, Bound}
use Rattle.names.proofs.PartLaws.{part_whole}
use Rattle.notes.specs.Note.{note_end}
use Rattle.notes.specs.NoteLaws.{state_noted_same}
use Rattle.meanings.specs.Bindings.{bound_names}
use Rattle.meanings.specs.NotedContext.{context_noted_same}
use Rattle.meanings.proofs.BindingLaws.{nested_names, bound_names_lem}
use Rattle.constants.specs.declared.codes.Reason.{Reason}
use Rattle.constants.specs.Reasons.{refusal_of}
use Rattle.expressions.specs.declared.parts.Reading.{Reading}
use Rattle.expressions.specs.Walk.{Walked, walked, ReadTo, SameBelow, Written}
use Rattle.expressions.specs.Posts.{expression_in, named_in, application_in, abstraction_in, go_on, Sized, Ready, Refusing, Onward, ExpressionRead}
use Rattle.expressions.proofs.StoreLaws.{below_same}
use Rattle.expressions.proofs.ReadLaws.{read_back, read_is, read_stop, choose_application, choose_abstraction, choose_named, too_deep_lem, opens_nothing}

-- ---- names are looked up further on, where nothing is written below

pub ready_on : {st : State} {ks s book tb : List ℕ} {lines indicator : ℕ} {scope : Scope} {w w' : List ℕ} {to to' : ℕ} → SameBelow to w w' → to ≤ to'
    → Ready st ks s book tb lines indicator scope w to → Ready st ks s book tb lines indicator scope w' to'
ready_on {to = to} b l h =
    record {
      table = h.table;
      known = h.known;
      noted = state_noted_same to h.below b.long b.is h.noted;
      below = omega (arith, h.below, ap note_end b.long);
      context = context_noted_same to h.above b.long b.is h.context;
      above = omega (arith, h.above, b.long);
      earlier = h.earlier;
      short = h.short;
      sized = h.sized;
    }

-- ---- levels that are left

no_level : (d : ℕ) → nesting ≤ d → nesting - d ≡ 0
no_level d l = omega arith

some_level : (d : ℕ) → d < nesting → nesting - d ≡ suc (nesting - 1 - d)
some_level d l = omega arith

-- ---- one level deeper

pub ready_inner : {st : State} {ks s book tb : List ℕ} {lines indicator : ℕ} {scope next : Scope} {w : List ℕ} {to : ℕ} → Sized next
    → Ready st ks s book tb lines indicator scope w to → Ready st ks s book tb lines indicator next w to
ready_inner z h =
    record {
      table = h.table;
      known = h.known;
      noted = h.noted;
      below = h.below;
      context = h.context;
      above = h.above;
      earlier = h.earlier;
      short = h.short;
      sized = z;
    }

pub sized_nested : {scope next : Scope} → Nested scope next → scope.depth < nesting → Sized scope → Sized next
sized_nested b l z =
    record {
      starts = ap length b.starts_are ∙ z.starts;
      lens = ap length b.lens_are ∙ z.lens;
      deep = omega (arith, b.deeper l);
      few = omega (arith, b.deeper l, b.bound_is, z.few);
    }

sized_bound : {scope next : Scope} {start len : ℕ} → Bound scope start len next → Bindable scope start len → Sized scope → Sized next
sized_bound {scope} {next} {start} {len} b f z =
    record {
      starts = ap length (b.starts_are f) ∙ length-set scope.starts scope.bound start ∙ z.starts;
      lens = ap length (b.lens_are f) ∙ length-set scope.lens scope.bound len ∙ z.lens;
      deep = omega (arith, b.deeper f.shallow, f.shallow);
      few = omega (arith, b.deeper f.shallow, b.more f, z.few);
    }

-- a name of the line can be bound
bindable : {st : State} {ks s book tb : List ℕ} {lines indicator : ℕ} {scope : Scope} {w : List ℕ} {to start len : ℕ}
    → Ready st ks s book tb lines indicator scope w to → scope.depth < nesting → start + len ≤ length s → Bindable scope start len
bindable h l e = record { shallow = l; few = omega (arith, h.sized.few); start_fits = omega (arith, h.short); len_fits = omega (arith, h.short) }

module _ {ks s book tb : List ℕ} {lines indicator : ℕ} {next : Scope} {w w' : List ℕ} {r r' : Walked}
    (h : ExpressionRead (an_expression aut68 (nesting - next.depth) inner) ks s next book tb lines indicator w w' r r') where
  -- the part one level deeper than d, under the names that are bound there
  deeper_read : (d : ℕ) → next.depth ≡ d + 1 → (st : State) → Ready st ks s book tb lines indicator next w r.to → (bs : List Bytes) → bound_names s next ≡ bs
      → ReadTo s (Written cells levels (resolve st (context_at st.earlier indicator) bs) w w' r.to r'.to (nesting - 1 - d) r.fault r'.fault) r'.code r'.at
      (an_expression aut68 (nesting - 1 - d) inner (drop r.at s))
  deeper_read d q st ready bs names =
      let level : nesting - next.depth ≡ nesting - 1 - d = omega arith in
      subst (λ n. ReadTo s (Written cells levels (resolve st (context_at st.earlier indicator) bs) w w' r.to r'.to n r.fault r'.fault) r'.code r'.at
      (an_expression aut68 n inner (drop r.at s))) level
      (subst (λ bs. ReadTo s (Written cells levels (resolve st (context_at st.earlier indicator) bs) w w' r.to r'.to (nesting - next.depth) r.fault r'.fault) r'.code r'.at
      (an_expression aut68 (nesting - next.depth) inner (drop r.at s))) names
      (h.read st ready))

  -- a level that binds nothing
  pub level_read : {scope : Scope} → Nested scope next → scope.depth < nesting → (st : State) → Ready st ks s book tb lines indicator scope w r.to
      → ReadTo s (Written cells levels (resolve st (context_at st.earlier indicator) (bound_names s scope)) w w' r.to r'.to (nesting - 1 - scope.depth) r.fault r'.fault) r'.code r'.at
      (an_expression aut68 (nesting - 1 - scope.depth) inner (drop r.at s))
  level_read {scope} b l st ready = deeper_read scope.depth (b.deeper l) st (ready_inner (sized_nested b l ready.sized) ready) (bound_names s scope) (nested_names s b)

  -- a level that binds a name of the line
  pub body_read : {scope : Scope} {start len : ℕ} → Bound scope start len next → scope.depth < nesting → start + len ≤ length s → (st : State) → Ready st ks s book tb lines indicator scope w r.to
      → ReadTo s
      (Written cells levels (resolve st (context_at st.earlier indicator) (slice start (start + len) s ∷ bound_names s scope)) w w' r.to r'.to (nesting - 1 - scope.depth) r.fault r'.fault)
      r'.code r'.at (an_expression aut68 (nesting - 1 - scope.depth) inner (drop r.at s))
  body_read {scope} {start} {len} b l e st ready =
      let f : Bindable scope start len = bindable ready l e in
      deeper_read scope.depth (b.deeper l) st (ready_inner (sized_bound b f ready.sized) ready) (slice start (start + len) s ∷ bound_names s scope)
      (bound_names_lem s b f ready.sized.starts ready.sized.lens ∙ ap (λ x. x ∷ bound_names s scope) (part_whole s start len e))

-- what is written of a whole, one level above its parts
pub whole_written : {resolveIt : Src → Naming Expr} {w w' : List ℕ} {to end fault fault' : ℕ} {x : Src} (depth : ℕ) → depth < nesting
    → Written cells levels resolveIt w w' to end (suc (nesting - 1 - depth)) fault fault' x → Written cells levels resolveIt w w' to end (nesting - depth) fault fault' x
whole_written {resolveIt} {w} {w'} {to} {end} {fault} {fault'} {x} depth l h =
    subst (λ n. Written cells levels resolveIt w w' to end n fault fault' x) (sym (some_level depth l)) h

-- ---- kinds of symbols

pub symbol_kinds : (kind_of 60 ≡ 2) × (kind_of 91 ≡ 3) × (kind_of 44 ≡ 7) × (kind_of 40 ≡ 8) × (kind_of 41 ≡ 9) × (kind_of 62 ≡ 10) × (kind_of 93 ≡ 11)
unfolding kind_of place_or0 name_byte
symbol_kinds = (refl, refl, refl, refl, refl, refl, refl)

-- the symbol c, of kind k, stands behind `at`
pub symbol_read : {ks s : Bytes} {at k r : ℕ} (c : ℕ) → PastSymbol ks s at k r → kind_of c ≡ k → 2 ≤ k → r ≤ length s → KindsTable ks → symbol c (drop at s) ≡ done tt (drop r s)
symbol_read c h e l m t = h.read t c e l m

pub symbol_missing : {ks s : Bytes} {at k r : ℕ} (c : ℕ) → PastSymbol ks s at k r → kind_of c ≡ k → 2 ≤ k → length s < r → KindsTable ks → symbol c (drop at s) ≡ stop malformed (spaces (drop at s))
symbol_missing c h e l m t = h.missing t c e l m

pub code_malformed : code_of malformed ≡ 3
unfolding code_of
code_malformed = refl

pub code_too_large : code_of too_large ≡ 10
unfolding code_of
code_too_large = refl

-- ---- refusals

pub onward_refused : {s : Bytes} {w w' : List ℕ} {r r' : Walked} {code at to : ℕ} → SameBelow r.to w w' → Refusing code at to r'
    → r.to ≤ to → to ≤ length w + 1 → r.at ≤ at → at ≤ length s → Onward s w w' r r'
onward_refused b h u f l m =
    record { below = b; up = omega (arith, h.to_is); from = omega (arith, h.at_is); inside = omega (arith, h.at_is); small = omega (arith, h.to_is) }

pub stopped : (code at to : ℕ) → Refusing code at to (record { code = code; at = at; to = to; fault = 0; count = 0 })
stopped code at to = record { code_is = refl; at_is = refl; to_is = refl }

-- a walk that is refused is so where it began
pub onward_back : {s : Bytes} {w w' : List ℕ} {r a b : Walked} → r.at ≤ length s → b.at ≡ r.at → b.to ≡ r.to → Onward s w w' r a → Onward s w w' r b
onward_back i e f h =
    record { below = h.below; up = omega arith; from = omega arith; inside = omega arith; small = omega (arith, h.up, h.small) }

pub refused_here : {m : Read Src} {ks s : Bytes} {scope : Scope} {book tb : List ℕ} {lines indicator : ℕ} {w w' : List ℕ} {r a : Walked} (x : Refusal)
    → ExpressionRead m ks s scope book tb lines indicator w w' r a → a.code ≡ code_of x → r.at ≤ length s
    → ExpressionRead m ks s scope book tb lines indicator w w' r (record { code = code_of x; at = r.at; to = r.to; fault = 0; count = 0 })
refused_here x h e i =
    record {
      onward = onward_back i refl refl h.onward;
      read = λ st ready. rw (sym e) (read_back (λ z. code_nonzero x (sym e ∙ z)) (h.read st ready));
    }

-- what comes of the last step of a walk, as of the whole walk
pub walked_here : {m : Read Src} {ks s : Bytes} {scope : Scope} {book tb : List ℕ} {lines indicator : ℕ} {w w' : List ℕ} {from to fault : ℕ} (at to' : ℕ) (o : Result Reading Reason)
    → ExpressionRead m ks s scope book tb lines indicator w w' (go_on from to fault) (walked at to' o) → from ≤ length s
    → ExpressionRead m ks s scope book tb lines indicator w w' (go_on from to fault) (walked from to o)
walked_here at to' (Ok a) h i = h
walked_here at to' (Err e) h i = refused_here (refusal_of e) h refl i

-- ---- the choice of an expression

kind_ahead : {ks s : Bytes} {from at k : ℕ} → PastSpaces s from at → KindAt ks s at k → KindsTable ks → k ≡ first_kind (spaces (drop from s))
kind_ahead p q t = q.kind t ∙ ap first_kind p.rest

module _ {ks s book tb : List ℕ} {lines indicator : ℕ} {scope : Scope} {w : List ℕ} {r r' : Walked} {at k : ℕ}
    (p : PastSpaces s r.at at) (q : KindAt ks s at k) (small : r.to ≤ length w + 1) (inside : r.at ≤ length s) where
  module _ (deep : nesting ≤ scope.depth) where
    pub expression_too_deep : {t : Bool} → t ≡ opens_kind k → t ≡ true → Refusing 10 at r.to r'
        → ExpressionRead (expression_in scope) ks s scope book tb lines indicator w w r r'
    expression_too_deep e f h =
        record {
          onward = onward_refused (below_same r.to w) h (omega arith) small p.from (p.within inside);
          read = λ st ready.
              read_is (ap (λ d. an_expression aut68 d inner (drop r.at s)) (no_level scope.depth deep))
              (read_stop (too_deep_lem (drop r.at s) (ap opens_kind (sym (kind_ahead p q ready.table)) ∙ sym e ∙ f)) (h.code_is ∙ sym code_too_large));
        }

    pub expression_malformed : {t : Bool} → t ≡ opens_kind k → t ≡ false → Refusing 3 at r.to r'
        → ExpressionRead (expression_in scope) ks s scope book tb lines indicator w w r r'
    expression_malformed e f h =
        record {
          onward = onward_refused (below_same r.to w) h (omega arith) small p.from (p.within inside);
          read = λ st ready.
              read_is (ap (λ d. an_expression aut68 d inner (drop r.at s)) (no_level scope.depth deep))
              (read_stop (opens_nothing (drop r.at s) (ap opens_kind (sym (kind_ahead p q ready.table)) ∙ sym e ∙ f)) (h.code_is ∙ sym code_malformed));
        }

  module _ (l : scope.depth < nesting) {w' : List ℕ} where
    chosen : (m : Read Src) → (KindsTable ks → an_expression aut68 (suc (nesting - 1 - scope.depth)) inner (drop r.at s) ≡ m (drop r.at s))
        → ExpressionRead m ks s scope book tb lines indicator w w' r r'
        → ExpressionRead (expression_in scope) ks s scope book tb lines indicator w w' r r'
    chosen m e h =
        record {
          onward = h.onward;
          read = λ st ready. read_is (ap (λ d. an_expression aut68 d inner (drop r.at s)) (some_level scope.depth l) ∙ e ready.table) (h.read st ready);
        }

    pub expression_application : k ≡ 2 → ExpressionRead (application_in scope) ks s scope book tb lines indicator w w' r r'
        → ExpressionRead (expression_in scope) ks s scope book tb lines indicator w w' r r'
    expression_application e h = chosen _ (λ t. choose_application (nesting - 1 - scope.depth) (drop r.at s) (sym (kind_ahead p q t) ∙ e)) h

    pub expression_abstraction : k ≡ 3 → ExpressionRead (abstraction_in scope) ks s scope book tb lines indicator w w' r r'
        → ExpressionRead (expression_in scope) ks s scope book tb lines indicator w w' r r'
    expression_abstraction e h = chosen _ (λ t. choose_abstraction (nesting - 1 - scope.depth) (drop r.at s) (sym (kind_ahead p q t) ∙ e)) h

    pub expression_named : k ≢ 2 → k ≢ 3 → ExpressionRead (named_in scope) ks s scope book tb lines indicator w w' r r'
        → ExpressionRead (expression_in scope) ks s scope book tb lines indicator w w' r r'
    expression_named n m h = chosen _ (λ t. choose_named (nesting - 1 - scope.depth) (drop r.at s) (λ e. n (kind_ahead p q t ∙ e)) (λ e. m (kind_ahead p q t ∙ e))) h
