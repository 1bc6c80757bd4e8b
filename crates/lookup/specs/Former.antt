-- Lines with all arguments written mean what they meant before arguments could be left out.
use Rattle.std.specs.Prelude.{◌≡◌, refl, ◌≢◌, ℕ, List, [], ◌∷◌, length}
use Rattle.std.proofs.Math.Path.{ap, subst}
use Rattle.std.proofs.Common.{sym, ◌∙◌}
use Rattle.aut68.specs.Language.{Language}
use Rattle.aut68.specs.Bytes.{Bytes}
use Rattle.aut68.specs.Source.{Used, Src, Srcs, Middle, SourceLine, count_srcs}
use Rattle.aut68.specs.Expr.{Expr, Exprs, type, prop, var, bound, const, app, abs, nil, cons, in_front, count_exprs}
use Rattle.aut68.specs.Lines.{Line, Kind, variable, primitive, abbreviation}
use Rattle.aut68.specs.Paragraphs.{State, with_line, current}
use Rattle.aut68.specs.Rules.Grammar.{WellFormed}
use Rattle.aut68.specs.Rules.Names.{IsLine, Denotes, Member, BoundAt, Free, Context, Indicates, Unused, LeftOut, all_written, Means, MeanAll, MiddleMeans}
use Rattle.aut68.specs.Rules.Names.{a_bound, a_variable, a_constant, an_application, an_abstraction, a_type, a_prop}
use Rattle.aut68.specs.Rules.Names as N
use Rattle.aut68.specs.Rules.Categories.{WrittenFits, MiddleFits}
use Rattle.aut68.specs.Rules.Derivation.{Derivation, Derived}
use Rattle.aut68.specs.Rules.Derivation as D
use Rattle.lookup.specs.Completing.{full_nothing}
use Rattle.lookup.specs.Resolving.{count_all}

module _ (st : State) (context : List ℕ) where
  mutual
    -- document 01's rule as it was: "a constant takes exactly as many arguments as its own line's context has variables"
    pub data MeantInFull : List Bytes → Src → Expr → Type 0 where
      bound_in : {bs : List Bytes} {w : Used} {i : ℕ} → BoundAt w bs i → MeantInFull bs (Src.name w Srcs.nil) (bound i)
      variable_in : {bs : List Bytes} {w : Used} {v : ℕ} {l : Line}
          → Free w bs → IsLine st.earlier v l → Denotes st w v → l.kind ≡ variable → Member v context
          → MeantInFull bs (Src.name w Srcs.nil) (var v)
      constant_in : {bs : List Bytes} {w : Used} {v : ℕ} {l : Line} {xs : Srcs} {es : Exprs}
          → Free w bs → IsLine st.earlier v l → Denotes st w v → l.kind ≢ variable → count_exprs es ≡ length l.context → AllMeantInFull bs xs es
          → MeantInFull bs (Src.name w xs) (const v es)
      application_in : {bs : List Bytes} {x y : Src} {a b : Expr} → MeantInFull bs x a → MeantInFull bs y b → MeantInFull bs (Src.app x y) (app a b)
      abstraction_in : {bs : List Bytes} {w : Bytes} {x y : Src} {p t : Expr} → MeantInFull bs x p → MeantInFull (w ∷ bs) y t → MeantInFull bs (Src.abs w x y) (abs p t)
      type_in : {bs : List Bytes} → MeantInFull bs Src.type type
      prop_in : {bs : List Bytes} → MeantInFull bs Src.prop prop

    pub data AllMeantInFull : List Bytes → Srcs → Exprs → Type 0 where
      no_more : {bs : List Bytes} → AllMeantInFull bs Srcs.nil nil
      one_more : {bs : List Bytes} {x : Src} {xs : Srcs} {e : Expr} {es : Exprs} → MeantInFull bs x e → AllMeantInFull bs xs es → AllMeantInFull bs (Srcs.cons x xs) (cons e es)

  -- what was meant is meant
  mutual
    unfolding in_front

    pub full_means : {bs : List Bytes} {x : Src} {e : Expr} → MeantInFull bs x e → Means st context bs x e
    full_means (bound_in b) = a_bound b
    full_means (variable_in f i q k m) = a_variable f i q k m
    full_means (constant_in f i q k c a) = a_constant f i q k (all_full_mean a) (all_written c) refl
    full_means (application_in h k) = an_application (full_means h) (full_means k)
    full_means (abstraction_in h k) = an_abstraction (full_means h) (full_means k)
    full_means type_in = a_type
    full_means prop_in = a_prop

    all_full_mean : {bs : List Bytes} {xs : Srcs} {es : Exprs} → AllMeantInFull bs xs es → MeanAll st context bs xs es
    all_full_mean no_more = N.no_more
    all_full_mean (one_more h k) = N.one_more (full_means h) (all_full_mean k)

  -- Every constant stands with all its arguments.
  mutual
    pub data InFull : List Bytes → Src → Type 0 where
      name : {bs : List Bytes} {w : Used} {xs : Srcs}
          → ((v : ℕ) (l : Line) → Free w bs → IsLine st.earlier v l → Denotes st w v → l.kind ≢ variable → count_srcs xs ≡ length l.context) → AllInFull bs xs → InFull bs (Src.name w xs)
      application : {bs : List Bytes} {x y : Src} → InFull bs x → InFull bs y → InFull bs (Src.app x y)
      abstraction : {bs : List Bytes} {w : Bytes} {x y : Src} → InFull bs x → InFull (w ∷ bs) y → InFull bs (Src.abs w x y)
      of_type : {bs : List Bytes} → InFull bs Src.type
      of_prop : {bs : List Bytes} → InFull bs Src.prop

    pub data AllInFull : List Bytes → Srcs → Type 0 where
      none : {bs : List Bytes} → AllInFull bs Srcs.nil
      one : {bs : List Bytes} {x : Src} {xs : Srcs} → InFull bs x → AllInFull bs xs → AllInFull bs (Srcs.cons x xs)

  un_arguments : {bs : List Bytes} {w : Used} {xs : Srcs} → InFull bs (Src.name w xs) → AllInFull bs xs
  un_arguments (name c a) = a

  un_count : {bs : List Bytes} {w : Used} {xs : Srcs} {v : ℕ} {l : Line} → InFull bs (Src.name w xs) → Free w bs → IsLine st.earlier v l → Denotes st w v → l.kind ≢ variable
      → count_srcs xs ≡ length l.context
  un_count (name c a) f i q k = c _ _ f i q k

  un_application : {bs : List Bytes} {x y : Src} → InFull bs (Src.app x y) → InFull bs x × InFull bs y
  un_application (application h k) = (h, k)

  un_abstraction : {bs : List Bytes} {w : Bytes} {x y : Src} → InFull bs (Src.abs w x y) → InFull bs x × InFull (w ∷ bs) y
  un_abstraction (abstraction h k) = (h, k)

  un_one : {bs : List Bytes} {x : Src} {xs : Srcs} → AllInFull bs (Srcs.cons x xs) → InFull bs x × AllInFull bs xs
  un_one (one h k) = (h, k)

  full_constant : {bs : List Bytes} {w : Used} {v : ℕ} {l : Line} {xs : Srcs} (es : Exprs) {all : Exprs} {us : List ℕ}
      → Free w bs → IsLine st.earlier v l → Denotes st w v → l.kind ≢ variable → count_exprs es ≡ length l.context → AllMeantInFull bs xs es
      → LeftOut (count_exprs es) l.context context us → all ≡ in_front us es → MeantInFull bs (Src.name w xs) (const v all)
  unfolding in_front
  full_constant {bs} {w} {v} {xs = xs} es f i q k n a c e =
      subst (λ x. MeantInFull bs (Src.name w xs) (const v x)) (sym (e ∙ ap (λ vs. in_front vs es) (full_nothing c n))) (constant_in f i q k n a)

  -- and nothing else is: an expression with all arguments written means what it meant
  mutual
    pub means_full : {bs : List Bytes} {x : Src} {e : Expr} → Means st context bs x e → InFull bs x → MeantInFull bs x e
    means_full (a_bound b) g = bound_in b
    means_full (a_variable f i q k m) g = variable_in f i q k m
    means_full (a_constant {es = es} f i q k a c e) g =
        full_constant es f i q k (sym (count_all st context a) ∙ un_count g f i q k) (mean_all_full a (un_arguments g)) c e
    means_full (an_application h k) g = application_in (means_full h (un_application g).0) (means_full k (un_application g).1)
    means_full (an_abstraction h k) g = abstraction_in (means_full h (un_abstraction g).0) (means_full k (un_abstraction g).1)
    means_full a_type g = type_in
    means_full a_prop g = prop_in

    mean_all_full : {bs : List Bytes} {xs : Srcs} {es : Exprs} → MeanAll st context bs xs es → AllInFull bs xs → AllMeantInFull bs xs es
    mean_all_full N.no_more g = no_more
    mean_all_full (N.one_more h k) g = one_more (means_full h (un_one g).0) (mean_all_full k (un_one g).1)

  pub data MiddleMeantInFull : Middle → Kind → Type 0 where
    is_eb : MiddleMeantInFull Middle.variable variable
    is_pn : MiddleMeantInFull Middle.primitive primitive
    is_meaning : {x : Src} {m : Expr} → MeantInFull [] x m → MiddleMeantInFull (Middle.meaning x) (abbreviation m)

  middle_full : {m : Middle} {k : Kind} → MiddleMeantInFull m k → MiddleMeans st context m k
  middle_full is_eb = N.is_eb
  middle_full is_pn = N.is_pn
  middle_full (is_meaning h) = N.is_meaning (full_means h)

  full_middle : {m : Middle} {k : Kind} → MiddleMeans st context m k → ((x : Src) → m ≡ Middle.meaning x → InFull [] x) → MiddleMeantInFull m k
  full_middle N.is_eb g = is_eb
  full_middle N.is_pn g = is_pn
  full_middle (N.is_meaning {x = x} h) g = is_meaning (means_full h (g x refl))

-- ---- books

-- document 01's derivation as it was
pub record FormerDerivation (language : Language) (st : State) (bytes : Bytes) (l : Line) : Type 0 where
  pub source : SourceLine
  pub form : WellFormed language source bytes
  pub identifier_is : l.identifier ≡ source.identifier
  pub paragraph_is : l.paragraph ≡ current st.place.opened
  pub indicator_is : Indicates st source.indicator l.indicator
  pub context_is : Context st.earlier l.indicator l.context
  pub unused : Unused st l.identifier
  pub middle_is : MiddleMeantInFull st l.context source.middle l.kind
  pub category_is : MeantInFull st l.context [] source.category l.category
  pub written_fits : WrittenFits language st.earlier l.category
  pub middle_fits : MiddleFits language st.earlier l.kind l.category

pub data FormerDerived (language : Language) : State → List Bytes → State → Type 0 where
  no_more : {st : State} → FormerDerived language st [] st
  line : {st all : State} {bytes : Bytes} {more : List Bytes} {l : Line}
      → FormerDerivation language st bytes l → FormerDerived language (with_line st l) more all → FormerDerived language st (bytes ∷ more) all

pub former_derivation : {language : Language} {st : State} {bytes : Bytes} {l : Line} → FormerDerivation language st bytes l → Derivation language st bytes l
former_derivation {st} {l = l} d = record {
  source = d.source;
  form = d.form;
  identifier_is = d.identifier_is;
  paragraph_is = d.paragraph_is;
  indicator_is = d.indicator_is;
  context_is = d.context_is;
  unused = d.unused;
  middle_is = middle_full st l.context d.middle_is;
  category_is = full_means st l.context d.category_is;
  written_fits = d.written_fits;
  middle_fits = d.middle_fits;
}

-- all arguments written, in middle and category
pub record LineInFull (st : State) (context : List ℕ) (s : SourceLine) : Type 0 where
  pub middle : (x : Src) → s.middle ≡ Middle.meaning x → InFull st context [] x
  pub category : InFull st context [] s.category

-- and a derivation of a line with all arguments written is one as it was
pub full_derivation : {language : Language} {st : State} {bytes : Bytes} {l : Line} (d : Derivation language st bytes l) → LineInFull st l.context d.source
    → FormerDerivation language st bytes l
full_derivation {st} {l = l} d f = record {
  source = d.source;
  form = d.form;
  identifier_is = d.identifier_is;
  paragraph_is = d.paragraph_is;
  indicator_is = d.indicator_is;
  context_is = d.context_is;
  unused = d.unused;
  middle_is = full_middle st l.context d.middle_is f.middle;
  category_is = means_full st l.context d.category_is f.category;
  written_fits = d.written_fits;
  middle_fits = d.middle_fits;
}

-- A book that was correct is correct, and its lines mean what they meant.
pub former_book : {language : Language} {st all : State} {pieces : List Bytes} → FormerDerived language st pieces all → Derived language st pieces all
former_book no_more = D.no_more
former_book (line d r) = D.piece (D.line (former_derivation d)) (former_book r)
