-- Books as they are written: lines with derivations meet the rules; and a book of AUT-68 without the name `prop` is one of AUT-QE.
use Rattle.std.specs.Prelude.{◌≡◌, refl, ◌⊎◌, ◌≢◌, ℕ, suc, ◌<◌, length}
use Rattle.std.proofs.Common.{ap, sym, ◌∙◌, inl, inr, arith}
use Rattle.std.proofs.Math.Path.{subst}
use Rattle.std.proofs.Math.Option.{Option}
use mathlib.Core.List.{List, [], ◌∷◌, ◌++◌}
use Rattle.aut68.specs.Language.{Language, aut68, aut_qe, extended}
use Rattle.aut68.specs.Bytes.{Bytes, word_prop}
use Rattle.aut68.specs.Source.{Used, plain, inside, Src, Srcs, Middle, SourceLine}
use Rattle.aut68.specs.Expr.{Expr, Exprs, const, in_front, count_exprs}
use Rattle.aut68.specs.Lines.{Line, Lines, Kind, variable, abbreviation}
use Rattle.aut68.specs.Paragraphs.{Paragraph, State, outside, start, with_line, with_place, opening}
use Rattle.aut68.specs.Rules.Grammar.{IsName, UsedForm, a_plain, a_pointed, Expression, lone, call, application, abstraction, Arguments, last, another, IndicatorForm, empty, indicator, MiddleForm}
use Rattle.aut68.specs.Rules.Grammar.{WellFormed, line, SignLine, sign_line, plus, minus, Position, inner, ending, below}
use Rattle.aut68.specs.Rules.Grammar
use Rattle.aut68.specs.Rules.Names.{IsLine, Member, here, there, LeftOut, BoundAt, innermost, Denotes, an_earlier, in_closed, Context, Indicates, named, Means, a_bound, a_variable, a_constant, an_application}
use Rattle.aut68.specs.Rules.Names.{an_abstraction, MeanAll, no_more, one_more, MiddleMeans, a_type, a_prop}
use Rattle.aut68.specs.Rules.Names
use Rattle.aut68.specs.Rules.Derivation.{Derivation, Derived}
use Rattle.aut68.specs.Rules.Derivation
use Rattle.aut68.specs.Rules.WithoutProp.{NotBound, NotBoundIn, NotBoundMiddle, NoProp, BookWithoutProp, one_line}
use Rattle.lookup.specs.Lists.{no_member, member_snoc}
use Rattle.lookup.specs.Identifiers.{innermost_has}
use Rattle.lookup.specs.LineNumbers.{variable≢abbreviation, primitive≢abbreviation, line_snoc, no_line_lem}
use Rattle.lookup.specs.Completing.{completed_count, left_out_own}
use Rattle.lookup.specs.Contexts.{context_line}
use Rattle.lookup.specs.DerivedBooks.{new_paragraph, derived_all}
use Rattle.aut68.specs.Rules.Serving.{Supertype, IsType, the_type, a_supertype}
use Rattle.aut68.specs.Rules.Resolved.{Scoped, VariableOf, ConstantOf, Resolved}
use Rattle.calculus.specs.Scoped.{ScopedCategory, scoped_ends}
use Rattle.calculus.specs.Resolved.{AllResolved, category_known, resolved_known}
use Rattle.inclusion.specs.Liberal.{InContext}
use Rattle.inclusion.specs.Inside.{written_inside, middle_inside}
use Rattle.inclusion.specs.Books.{resolved_more, MeetsRules, Built, no_line, one_more, Right, built_right}
use Rattle.inclusion.proofs.StaysInside.{Plain, PlainLines}

-- ---- names that mean something leave well-scoped expressions

bound_below : {u : Used} {bs : List Bytes} {i : ℕ} → BoundAt u bs i → i < length bs
bound_below innermost = omega arith
bound_below (Names.outside n h) = let l = bound_below h in omega arith

-- no `type` or `prop` stands in it; none but at the end
unfoldable mutual
  pub Pure : Src → Type 0
  Pure (Src.name w xs) = PureAll xs
  Pure (Src.app a b) = Pure a × Pure b
  Pure (Src.abs x a b) = Pure a × Pure b
  Pure Src.type = ⊥
  Pure Src.prop = ⊥

  pub PureAll : Srcs → Type 0
  PureAll Srcs.nil = Unit {0}
  PureAll (Srcs.cons a xs) = Pure a × PureAll xs

unfoldable pub PureBefore : Src → Type 0
PureBefore (Src.name w xs) = PureAll xs
PureBefore (Src.app a b) = Pure a × Pure b
PureBefore (Src.abs x a b) = Pure a × PureBefore b
PureBefore Src.type = Unit {0}
PureBefore Src.prop = Unit {0}

pure_before : (x : Src) → Pure x → PureBefore x
unfolding Pure PureBefore
pure_before (Src.name w xs) h = h
pure_before (Src.app a b) h = h
pure_before (Src.abs x a b) h = (h.0, pure_before b h.1)
pure_before Src.type h = tt
pure_before Src.prop h = tt

abbrev At : Position → Src → Type 0
At inner x = Pure x
At ending x = PureBefore x

pure_at : (place : Position) (x : Src) → Pure x → At place x
pure_at inner x h = h
pure_at ending x h = pure_before x h

abs_at : (language : Language) (place : Position) (w : Bytes) (x y : Src) → Pure x → At (below language place) y → At place (Src.abs w x y)
unfolding Pure PureBefore below
abs_at aut68 inner w x y h k = (h, k)
abs_at aut68 ending w x y h k = (h, pure_before y k)
abs_at aut_qe inner w x y h k = (h, k)
abs_at aut_qe ending w x y h k = (h, k)

module _ (language : Language) where
  mutual
    unfolding Pure PureBefore

    pub form_at : {place : Position} {x : Src} {a b : Bytes} → Expression language place x a b → At place x
    form_at (lone {place = place} n) = pure_at place _ tt
    form_at (call {place = place} n t h) = pure_at place _ (form_all h)
    form_at (application {place = place} s h t k) = pure_at place _ (form_at h, form_at k)
    form_at (abstraction {place = place} {w = w} {x = x} {y = y} s n t u h v k) = abs_at language place w x y (form_at h) (form_at k)
    form_at (Grammar.is_type s) = tt
    form_at (Grammar.is_prop x s) = tt

    form_all : {xs : Srcs} {a b : Bytes} → Arguments language xs a b → PureAll xs
    form_all (last h s) = (form_at h, tt)
    form_all (another h s k) = (form_at h, form_all k)

context_resolved : (ls : Lines) {v : ℕ} {vs : List ℕ} → Context ls v vs → (u : ℕ) → Member u vs → VariableOf ls vs u
context_resolved ls c u m =
    let (l, i, k) = context_line c m in
    record { line = l; is_line = i; is_variable = k; in_context = m }

-- the variables of a context, put in front of arguments
front_resolved : (ls : Lines) (vs : List ℕ) (k : ℕ) (us : List ℕ) (es : Exprs) → ((u : ℕ) → Member u us → VariableOf ls vs u) → AllResolved ls vs k es → AllResolved ls vs k (in_front us es)
unfolding Scoped in_front
front_resolved ls vs k [] es c h = h
front_resolved ls vs k (u ∷ us) es c h = (c u here, front_resolved ls vs k us es (λ w m. c w (there m)) h)

module _ (st : State) {v : ℕ} {vs : List ℕ} (context : Context st.earlier v vs) where
  completed_resolved : (k v : ℕ) {l : Line} {us : List ℕ} (es : Exprs) {all : Exprs} → IsLine st.earlier v l → l.kind ≢ variable → AllResolved st.earlier vs k es → LeftOut (count_exprs es) l.context vs us
      → all ≡ in_front us es → Resolved st.earlier vs k (const v all)
  unfolding Scoped
  completed_resolved k v {l} {us} es {all} i n h c e = (
    record { line = l; is_line = i; not_variable = n; as_many = completed_count es c e },
    subst (AllResolved st.earlier vs k) (sym e) (front_resolved st.earlier vs k us es (λ u m. context_resolved st.earlier context u (left_out_own c u m)) h),
  )

  mutual
    unfolding Scoped Pure

    pub means_resolved : {bs : List Bytes} {x : Src} {e : Expr} → Means st vs bs x e → Pure x → Resolved st.earlier vs (length bs) e
    means_resolved (a_bound h) p = bound_below h
    means_resolved (a_variable {l = l} f i e k m) p = record { line = l; is_line = i; is_variable = k; in_context = m }
    means_resolved (a_constant f i q k h c e) p = completed_resolved _ _ _ i k (means_all h p) c e
    means_resolved (an_application h k) p = (means_resolved h p.0, means_resolved k p.1)
    means_resolved (an_abstraction h k) p = (means_resolved h p.0, means_resolved k p.1)
    means_resolved a_type p = p
    means_resolved a_prop p = p

    means_all : {bs : List Bytes} {xs : Srcs} {es : Exprs} → MeanAll st vs bs xs es → PureAll xs → AllResolved st.earlier vs (length bs) es
    means_all no_more p = tt
    means_all (one_more h k) p = (means_resolved h p.0, means_all k p.1)

  -- a category may end in `type` or `prop`
  means_category : {bs : List Bytes} {x : Src} {e : Expr} → Means st vs bs x e → PureBefore x → InContext st.earlier vs (length bs) e
  unfolding ScopedCategory Scoped Pure PureBefore
  means_category (a_bound h) p = bound_below h
  means_category (a_variable {l = l} f i e k m) p = record { line = l; is_line = i; is_variable = k; in_context = m }
  means_category (a_constant f i q k h c e) p = completed_resolved _ _ _ i k (means_all h p) c e
  means_category (an_application h k) p = (means_resolved h p.0, means_resolved k p.1)
  means_category (an_abstraction h k) p = (means_resolved h p.0, means_category k p.1)
  means_category a_type p = tt
  means_category a_prop p = tt

  middle_resolved : {language : Language} {x : Middle} {k : Kind} {a b : Bytes} → MiddleForm language x a b → MiddleMeans st vs x k → (m : Expr) → k ≡ abbreviation m → Resolved st.earlier vs 0 m
  middle_resolved f Names.is_eb m e = absurd (variable≢abbreviation e)
  middle_resolved f Names.is_pn m e = absurd (primitive≢abbreviation e)
  middle_resolved {language} (Grammar.is_meaning f) (Names.is_meaning {m = n} h) m e =
      let q : n ≡ m = cc in
      subst (λ z. Resolved st.earlier vs 0 z) q (means_resolved h (form_at language f))

  pub line_middle : {language : Language} {s : SourceLine} {bytes : Bytes} {k : Kind} → WellFormed language s bytes → MiddleMeans st vs s.middle k → (m : Expr) → k ≡ abbreviation m
      → Resolved st.earlier vs 0 m
  line_middle (line i t n u v f y c z) h m e = middle_resolved f h m e

  pub line_category : {language : Language} {s : SourceLine} {bytes : Bytes} {c : Expr} → WellFormed language s bytes → Means st vs [] s.category c → InContext st.earlier vs 0 c
  line_category {language} (line i t n u v m y f z) h = means_category h (form_at language f)

-- in AUT-68 only `type` ends in `type` or `prop`
form_68 : {x : Src} {a b : Bytes} → Expression aut68 ending x a b → (x ≡ Src.type) ⊎ Pure x
unfolding Pure below
form_68 (lone n) = inr tt
form_68 (call n t h) = inr (form_all aut68 h)
form_68 (application s h t k) = inr (form_at aut68 h, form_at aut68 k)
form_68 (abstraction s n t u h v k) = inr (form_at aut68 h, form_at aut68 k)
form_68 (Grammar.is_type s) = inl refl
form_68 (Grammar.is_prop h _) = elim h [ ]

means_type : {st : State} {vs : List ℕ} {bs : List Bytes} {x : Src} {e : Expr} → Means st vs bs x e → x ≡ Src.type → e ≡ Expr.type
means_type a_type q = refl
means_type (a_bound h) q = cc
means_type (a_variable f i e k m) q = cc
means_type (a_constant f i e k h c d) q = cc
means_type (an_application h k) q = cc
means_type (an_abstraction h k) q = cc
means_type a_prop q = cc

ends_68 : (st : State) {v : ℕ} {vs : List ℕ} → Context st.earlier v vs → {x : Src} {c : Expr} → (x ≡ Src.type) ⊎ Pure x → Means st vs [] x c → Supertype c → IsType aut68 c
ends_68 st d (inl q) h y = subst (IsType aut68) (sym (means_type h q)) the_type
ends_68 st {vs = vs} d {c = c} (inr p) h y = absurd (scoped_ends (VariableOf st.earlier vs) (ConstantOf st.earlier) 0 c y.is_basic y.ends (means_resolved st d h p))

pub category_ends_lem : (language : Language) (st : State) {v : ℕ} {vs : List ℕ} → Context st.earlier v vs → {s : SourceLine} {bytes : Bytes} {c : Expr} → WellFormed language s bytes
    → Means st vs [] s.category c → Supertype c → IsType language c
category_ends_lem aut68 st d (line i t n u v m y f z) h e = ends_68 st d (form_68 f) h e
category_ends_lem aut_qe st d w h e = a_supertype extended e

-- so a line's category is `type` or resolved
pub category_plain : (st : State) {v : ℕ} {vs : List ℕ} → Context st.earlier v vs → {s : SourceLine} {bytes : Bytes} {c : Expr} → WellFormed aut68 s bytes → Means st vs [] s.category c
    → Plain st.earlier vs 0 c
category_plain st {vs = vs} d {s} {c = c} (line i t n u v m y f z) h = go (form_68 f)
  where
    go : (s.category ≡ Src.type) ⊎ Pure s.category → Plain st.earlier vs 0 c
    go (inl q) = inl (means_type h q)
    go (inr p) = inr (means_resolved st d h p)

pub derivation_meets : {language : Language} {st : State} {bytes : Bytes} {l : Line} → Derivation language st bytes l → MeetsRules language st.earlier l
derivation_meets {st = st} d =
    record {
      context_is = d.context_is;
      resolved =
          record {
            middle = line_middle st d.context_is d.form d.middle_is;
            category = line_category st d.context_is d.form d.category_is;
            context = context_resolved st.earlier d.context_is _;
          };
      written_fits = d.written_fits;
      middle_fits = d.middle_fits;
    }

derived_from : {language : Language} {st all : State} {pieces : List Bytes} → Derived language st pieces all → Built language st.earlier → Built language all.earlier
derived_from Derivation.no_more B = B
derived_from (Derivation.piece (Derivation.line d) h) B = derived_from h (one_more B (derivation_meets d))
derived_from (Derivation.piece (Derivation.opened f u) h) B = derived_from h B
derived_from (Derivation.piece (Derivation.closed f e) h) B = derived_from h B

start_built : {language : Language} → Built language start.earlier
unfolding start
start_built = no_line

-- the lines of a correct book meet the rules
pub derived_built : {language : Language} {st : State} {pieces : List Bytes} → Derived language start pieces st → Built language st.earlier
derived_built h = derived_from h start_built

-- and in AUT-68 each one's category is `type` or an expression
pub derived_plain : {st : State} {pieces : List Bytes} → Derived aut68 start pieces st → PlainLines st.earlier
unfolding start
derived_plain h =
    derived_all (λ ls l. Plain ls l.context 0 l.category) (λ ls n l. more ls n l) (λ st b l d. category_plain st d.context_is d.form d.category_is) h
    (λ v l i. absurd (no_line_lem i))
  where
    more : (ls : Lines) (n l : Line) → Plain ls l.context 0 l.category → Plain (ls ++ (n ∷ [])) l.context 0 l.category
    more ls n l (inl q) = inl q
    more ls n l (inr w) = inr (resolved_more ls (n ∷ []) l.context 0 l.category w)

-- ---- the same bytes in AUT-QE

-- no line and no paragraph has the name `prop`; no bound name is it; no part of a used name
record NoneIs (st : State) : Type 0 where
  lines : (v : ℕ) (l : Line) → IsLine st.earlier v l → l.identifier ≢ word_prop
  paragraphs : (x : Paragraph) → Member x st.place.paragraphs → x.name ≢ word_prop

data NotAmong : List Bytes → Type 0 where
  no_name : NotAmong []
  one_name : {x : Bytes} {bs : List Bytes} → x ≢ word_prop → NotAmong bs → NotAmong (x ∷ bs)

abbrev NotUsed : Used → Type 0
NotUsed (plain w) = w ≢ word_prop
NotUsed (inside p w) = (p ≢ word_prop) × (w ≢ word_prop)

bound_not : {u : Used} {bs : List Bytes} {i : ℕ} → BoundAt u bs i → NotAmong bs → NotUsed u
bound_not innermost (one_name n k) = n
bound_not (Names.outside d h) (one_name n k) = bound_not h k

denotes_not : {st : State} {u : Used} {v : ℕ} → NoneIs st → Denotes st u v → NotUsed u
denotes_not N (an_earlier h) = let (q, l) = innermost_has h in λ p. N.lines _ _ l.is_line (l.identifier_is ∙ p)
denotes_not N (in_closed h l) = let (q, n) = innermost_has h in (λ p. N.paragraphs _ n.is_paragraph.is_paragraph p, λ p. N.lines _ _ l.is_line (l.identifier_is ∙ p))

name_qe : {w : Bytes} → IsName aut68 w → w ≢ word_prop → IsName aut_qe w
name_qe h n = record { bytes = h.bytes; at_least = h.at_least; at_most = h.at_most; not_type = h.not_type; not_pn = h.not_pn; not_eb = h.not_eb; not_prop = λ x. n }

used_qe : {u : Used} {a b : Bytes} → UsedForm aut68 u a b → NotUsed u → UsedForm aut_qe u a b
used_qe (a_plain n s) k = a_plain (name_qe n k) s
used_qe (a_pointed n s t m u) k = a_pointed (name_qe n k.0) s t (name_qe m k.1) u

sign_qe : {sign : ℕ} {p bytes : Bytes} → SignLine aut68 sign p bytes → p ≢ word_prop → SignLine aut_qe sign p bytes
sign_qe (sign_line s n t u) k = sign_line s (name_qe n k) t u

-- an expression inside may stand where a category ends
wider_place : (place : Position) {x : Src} {a b : Bytes} → Expression aut_qe inner x a b → Expression aut_qe place x a b
unfolding below
wider_place inner h = h
wider_place ending (lone n) = lone n
wider_place ending (call n t h) = call n t h
wider_place ending (application s h t k) = application s h t k
wider_place ending (abstraction s n t u h v k) = abstraction s n t u h v (wider_place ending k)

module _ (st : State) (vs : List ℕ) (N : NoneIs st) where
  -- what a name means is bound, or a line
  used_not : {bs : List Bytes} {u : Used} {xs : Srcs} {e : Expr} → Means st vs bs (Src.name u xs) e → NotAmong bs → NotUsed u
  used_not (a_bound h) k = bound_not h k
  used_not (a_variable f i d q m) k = denotes_not N d
  used_not (a_constant f i d q h c r) k = denotes_not N d

  call_means : {bs : List Bytes} {u : Used} {a b : Bytes} {xs : Srcs} {e : Expr} → Arguments aut68 xs a b → Means st vs bs (Src.name u xs) e → (es : Exprs) × MeanAll st vs bs xs es
  call_means (last h s) (a_constant {es = es} f i e q k c r) = (es, k)
  call_means (another h s g) (a_constant {es = es} f i e q k c r) = (es, k)

  app_means : {bs : List Bytes} {x y : Src} {e : Expr} → Means st vs bs (Src.app x y) e → (a : Expr) × (b : Expr) × Means st vs bs x a × Means st vs bs y b
  app_means (an_application {a = a} {b = b} h k) = (a, b, h, k)

  abs_means : {bs : List Bytes} {w : Bytes} {x y : Src} {e : Expr} → Means st vs bs (Src.abs w x y) e → (p : Expr) × (t : Expr) × Means st vs bs x p × Means st vs (w ∷ bs) y t
  abs_means (an_abstraction {p = p} {t = t} h k) = (p, t, h, k)

  all_mean : {bs : List Bytes} {x : Src} {xs : Srcs} {es : Exprs} → MeanAll st vs bs (Srcs.cons x xs) es → (e : Expr) × (rest : Exprs) × Means st vs bs x e × MeanAll st vs bs xs rest
  all_mean (one_more {e = e} {es = es} h k) = (e, es, h, k)

  mutual
    unfolding NotBound below

    expression_qe : {place : Position} {x : Src} {a b : Bytes} → Expression aut68 place x a b → (bs : List Bytes) (e : Expr) → Means st vs bs x e → NotAmong bs → NotBound word_prop x
        → Expression aut_qe place x a b
    expression_qe (lone n) bs e m k u = lone (used_qe n (used_not m k))
    expression_qe (call n t h) bs e m k u =
        let (es, x) = call_means h m in
        call (used_qe n (used_not m k)) t (arguments_qe h bs es x k u)
    expression_qe (application s h t g) bs e m k u =
        let (a, b, x, y) = app_means m in
        application s (expression_qe h bs a x k u.0) t (expression_qe g bs b y k u.1)
    expression_qe (abstraction {place = place} {w = w} {y = z} s n t r h q g) bs e m k u =
        let (p, b, x, y) = abs_means m in
        abstraction s (name_qe n u.0) t r (expression_qe h bs p x k u.1) q (wider_place place (expression_qe g (w ∷ bs) b y (one_name u.0 k) u.2))
    expression_qe (Grammar.is_type s) bs e m k u = Grammar.is_type s
    expression_qe (Grammar.is_prop h _) bs e m k u = elim h [ ]

    arguments_qe : {xs : Srcs} {a b : Bytes} → Arguments aut68 xs a b → (bs : List Bytes) (es : Exprs) → MeanAll st vs bs xs es → NotAmong bs → NotBoundIn word_prop xs → Arguments aut_qe xs a b
    arguments_qe (last h s) bs es m k u = let (e, rest, x, y) = all_mean m in last (expression_qe h bs e x k u.0) s
    arguments_qe (another h s g) bs es m k u =
        let (e, rest, x, y) = all_mean m in
        another (expression_qe h bs e x k u.0) s (arguments_qe g bs rest y k u.1)

  middle_qe : {m : Middle} {a b : Bytes} {k : Kind} → MiddleForm aut68 m a b → MiddleMeans st vs m k → NotBoundMiddle word_prop m → MiddleForm aut_qe m a b
  unfolding NotBoundMiddle
  middle_qe (Grammar.is_eb s) h u = Grammar.is_eb s
  middle_qe (Grammar.is_pn s) h u = Grammar.is_pn s
  middle_qe (Grammar.is_meaning x) (Names.is_meaning {m = e} h) u = Grammar.is_meaning (expression_qe x [] e h no_name u)

  indicator_qe : {o : Option Used} {a b : Bytes} {v : ℕ} → IndicatorForm aut68 o a b → Indicates st o v → IndicatorForm aut_qe o a b
  indicator_qe empty h = empty
  indicator_qe (indicator n) (named d i) = indicator (used_qe n (denotes_not N d))

  form_qe : {s : SourceLine} {bytes : Bytes} {v : ℕ} {k : Kind} {c : Expr} → WellFormed aut68 s bytes → Indicates st s.indicator v → MiddleMeans st vs s.middle k
      → Means st vs [] s.category c → NoProp s
      → WellFormed aut_qe s bytes
  form_qe (line i s n t r m u c z) hi hm hc without =
      line (indicator_qe i hi) s (name_qe n without.identifier) t r (middle_qe m hm without.middle) u (expression_qe c [] _ hc no_name without.category) z

-- a line of AUT-68, after lines that are right, is one of AUT-QE
derivation_inside : {st : State} {bytes : Bytes} {l : Line} → Right aut68 st.earlier → NoneIs st → (d : Derivation aut68 st bytes l) → NoProp d.source → Derivation aut_qe st bytes l
derivation_inside {st} {l = l} R N d without =
    let M = derivation_meets d in
    record {
      source = d.source;
      form = form_qe st l.context N d.form d.indicator_is d.middle_is d.category_is without;
      identifier_is = d.identifier_is;
      paragraph_is = d.paragraph_is;
      indicator_is = d.indicator_is;
      context_is = d.context_is;
      unused = d.unused;
      middle_is = d.middle_is;
      category_is = d.category_is;
      written_fits = written_inside st.earlier R.resolved_lines d.written_fits (category_known st.earlier l.context l.category M.resolved.category);
      middle_fits = middle_inside st.earlier R.resolved_lines d.middle_fits (λ m q. resolved_known st.earlier l.context 0 m (M.resolved.middle m q));
    }

-- behind a line, and behind an opening
line_not : {st : State} {bytes : Bytes} {l : Line} → NoneIs st → (d : Derivation aut68 st bytes l) → NoProp d.source → NoneIs (with_line st l)
line_not {st} {l = l} N d without = record { lines = λ v k i. at (line_snoc st.earlier i); paragraphs = N.paragraphs }
  where
    at : {v : ℕ} {k : Line} → IsLine st.earlier v k ⊎ ((k ≡ l) × (v ≡ suc (length st.earlier))) → k.identifier ≢ word_prop
    at (inl j) = N.lines _ _ j
    at (inr (e, q)) = λ p. without.identifier (sym d.identifier_is ∙ sym (ap (λ (z : Line). z.identifier) e) ∙ p)

opening_not : {st : State} {p : Bytes} → NoneIs st → p ≢ word_prop → NoneIs (with_place st (opening p st.place))
unfolding opening
opening_not {st} {p} N n = record { lines = N.lines; paragraphs = λ x m. at (member_snoc st.place.paragraphs m) }
  where
    at : {x : Paragraph} → Member x st.place.paragraphs ⊎ (x ≡ new_paragraph st.place p) → x.name ≢ word_prop
    at (inl m) = N.paragraphs _ m
    at (inr e) = λ q. n (sym (ap (λ (z : Paragraph). z.name) e) ∙ q)

inside_from : {st all : State} {pieces : List Bytes} → Derived aut68 st pieces all → Built aut68 st.earlier → NoneIs st → BookWithoutProp pieces → Derived aut_qe st pieces all
inside_from Derivation.no_more B N without = Derivation.no_more
inside_from (Derivation.piece (Derivation.line d) h) B N (one_line f g without) =
    let P = f d.source d.form in
    Derivation.piece (Derivation.line (derivation_inside (built_right B) N d P)) (inside_from h (one_more B (derivation_meets d)) (line_not N d P) without)
inside_from (Derivation.piece (Derivation.opened x u) h) B N (one_line f g without) =
    let n = g _ _ plus x in
    Derivation.piece (Derivation.opened (sign_qe x n) u) (inside_from h B (opening_not N n) without)
inside_from (Derivation.piece (Derivation.closed x e) h) B N (one_line f g without) =
    Derivation.piece (Derivation.closed (sign_qe x (g _ _ minus x)) e) (inside_from h B (record { lines = N.lines; paragraphs = N.paragraphs }) without)

start_not : NoneIs start
unfolding start outside
start_not = record { lines = λ v l i. absurd (no_line_lem i); paragraphs = λ x m. absurd (no_member m) }

-- "every book accepted as AUT-68 must be correct there, provided `prop` is no identifier, bound or paragraph name in it"
pub book_inside : {st : State} {pieces : List Bytes} → Derived aut68 start pieces st → BookWithoutProp pieces → Derived aut_qe start pieces st
book_inside h without = inside_from h start_built start_not without
