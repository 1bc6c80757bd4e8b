-- The names of a line from the left: what can be wrong with one, and which is the first. Paper 3: "its line, no such line, or an `EB`
-- line outside the context"; 14 is "given in the same left-to-right order as 5".
use Rattle.std.specs.Prelude.{◌≡◌, ◌≢◌, ℕ, List, [], ◌∷◌}
use Rattle.std.proofs.Math.Option.{some}
use Rattle.aut68.specs.Language.{Language}
use Rattle.aut68.specs.Bytes.{Bytes}
use Rattle.aut68.specs.Source.{Used, Src, Srcs, SourceLine, meaning, count_srcs}
use Rattle.aut68.specs.Expr.{Expr}
use Rattle.aut68.specs.Lines.{Line, Kind, variable}
use Rattle.aut68.specs.Paragraphs.{State}
use Rattle.aut68.specs.Rules.LineBytes.{ReadableAs}
use Rattle.aut68.specs.Rules.Names.{IsLine, Member, BoundAt, Free, Context, Denotes, NoneMeant, Unused, Indicates, LeftOut, Means, MiddleMeans}

-- A fault of a used name under the bound names bs, with j arguments, in a state and a context.
abbrev pub NameFault : Type 1
NameFault = (st : State) (context : List ℕ) (bs : List Bytes) (u : Used) (j : ℕ) → Type 0

-- ---- one name

module _ (st : State) (context : List ℕ) (bs : List Bytes) (u : Used) (j : ℕ) where
  -- 5: "no such line"
  pub data Unknown : Type 0 where
    no_line : Free u bs → NoneMeant st u → Unknown

  -- 14: "an `EB` line outside the context"
  pub data NotInContext : Type 0 where
    outside_context : {v : ℕ} {l : Line} → Free u bs → IsLine st.earlier v l → Denotes st u v → l.kind ≡ variable → ¬ Member v context → NotInContext

  -- 6: a variable, bound or not, with arguments; a constant with more than its line's context has variables, or without some that
  -- cannot be put in
  pub data Miscounted : Type 0 where
    of_bound : {i : ℕ} → BoundAt u bs i → j ≢ 0 → Miscounted
    of_variable : {v : ℕ} {l : Line} → Free u bs → IsLine st.earlier v l → Denotes st u v → l.kind ≡ variable → Member v context → j ≢ 0 → Miscounted
    of_constant : {v : ℕ} {l : Line} → Free u bs → IsLine st.earlier v l → Denotes st u v → l.kind ≢ variable → ((us : List ℕ) → ¬ LeftOut j l.context context us) → Miscounted

-- 5: as an indicator it has "no such line", or one that is no `EB` line
pub data NoVariable (st : State) (u : Used) : Type 0 where
  no_such_line : NoneMeant st u → NoVariable st u
  is_constant : {v : ℕ} {l : Line} → IsLine st.earlier v l → Denotes st u v → l.kind ≢ variable → NoVariable st u

-- ---- the first of an expression, of a line

module _ (st : State) (context : List ℕ) (fault : NameFault) where
  -- A name of the expression, under the bound names, has the fault, and what stands left of it is in order: a constant around it has
  -- its count of arguments, the parts before it mean something.
  mutual
    pub data First : List Bytes → Src → Type 0 where
      itself : {bs : List Bytes} {u : Used} {xs : Srcs} → fault st context bs u (count_srcs xs) → First bs (Src.name u xs)
      in_argument : {bs : List Bytes} {u : Used} {v : ℕ} {l : Line} {xs : Srcs} {us : List ℕ}
          → Free u bs → IsLine st.earlier v l → Denotes st u v → l.kind ≢ variable → LeftOut (count_srcs xs) l.context context us → FirstIn bs xs
          → First bs (Src.name u xs)
      in_a : {bs : List Bytes} {a b : Src} → First bs a → First bs (Src.app a b)
      in_b : {bs : List Bytes} {a b : Src} {e : Expr} → Means st context bs a e → First bs b → First bs (Src.app a b)
      in_domain : {bs : List Bytes} {x : Bytes} {a b : Src} → First bs a → First bs (Src.abs x a b)
      in_body : {bs : List Bytes} {x : Bytes} {a b : Src} {e : Expr} → Means st context bs a e → First (x ∷ bs) b → First bs (Src.abs x a b)

    -- the same of arguments
    pub data FirstIn : List Bytes → Srcs → Type 0 where
      in_first : {bs : List Bytes} {a : Src} {xs : Srcs} → First bs a → FirstIn bs (Srcs.cons a xs)
      in_rest : {bs : List Bytes} {a : Src} {xs : Srcs} {e : Expr} → Means st context bs a e → FirstIn bs xs → FirstIn bs (Srcs.cons a xs)

  -- the same of a line: the middle, then the category
  pub data FirstOf (s : SourceLine) : Type 0 where
    in_middle : {x : Src} → s.middle ≡ meaning x → First [] x → FirstOf s
    in_category : {k : Kind} → MiddleMeans st context s.middle k → First [] s.category → FirstOf s

-- ---- a line with these bytes, in the state st

module _ (language : Language) (st : State) (bytes : Bytes) where
  -- 5: the indicator has no line, or its line is no `EB` line.
  pub record IndicatorFault : Type 0 where
    pub source : SourceLine
    pub readable : ReadableAs language source bytes
    pub name : Used
    pub is_named : source.indicator ≡ some name
    pub no_variable : NoVariable st name

  -- The indicator and the identifier are in order, and the first name that is not has the fault.
  pub record FirstName (fault : NameFault) : Type 0 where
    pub source : SourceLine
    pub readable : ReadableAs language source bytes
    pub indicator : ℕ
    pub indicator_is : Indicates st source.indicator indicator
    pub context : List ℕ
    pub context_is : Context st.earlier indicator context
    pub unused : Unused st source.identifier
    pub first_is : FirstOf st context fault source
