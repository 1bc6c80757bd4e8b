-- The indicator's line.
use mathlib.Core.Path.{◌≡◌, refl, sym, ap, ap₂, ◌∙◌, subst}
use mathlib.Core.Logic.{◌≢◌}
use mathlib.Core.Option.{Option, none, some}
use mathlib.Core.List.{List}
use Prim.Native.Nat.{ℕ, ◌+◌, ◌≤◌}
use native.Mathlib.Omega.{arith}
use lib.ListN.{length}
use lib.Seq.{slice, length-slice}
use Rattle.aut68.specs.Bytes.{Bytes}
use Rattle.aut68.specs.Source.{Used}
use Rattle.aut68.specs.Lines.{Line, Kind, variable, primitive, abbreviation, line_of, kind_number, row_cell}
use Rattle.aut68.specs.Paragraphs.{State}
use Rattle.aut68.specs.Procedure.Answer.{unknown_name}
use Rattle.aut68.specs.Procedure.Lookup.{number_of}
use Rattle.aut68.specs.Procedure.Resolve.{found, refused, indicator_line}
use Rattle.aut68.specs.Sizes.{line_limit, at_kind}
use Rattle.lookup.specs.LineNumbers.{line_line_of}
use Rattle.kinds.specs.Kinds.{KindsTable}
use Rattle.symbols.specs.Symbols.{used_in, used_by}
use Rattle.symbols.proofs.UsedLaws.{used_by_lem}
use Rattle.headings.specs.ReadLine.{used_or}
use Rattle.headings.proofs.HeadLaws.{used_some}
use Rattle.names.specs.Known.{Known}
use Rattle.names.specs.Posts.{number_or}
use Rattle.names.proofs.FindLaws.{line_at}
use Rattle.notes.specs.Note.{StateNoted}
use Rattle.paragraphs.specs.Posts.{UsedFound}
use Rattle.paragraphs.proofs.NumberLaws.{number_some, number_none, used_number}
use Rattle.reader.specs.Posts.{IndicatorFound, is_line, no_line}

indicator_none : (st : State) → indicator_line st none tt ≡ found 0
unfolding indicator_line
indicator_none st = refl

indicator_nowhere : (st : State) (u : Used) → number_of st u ≡ none → indicator_line st (some u) tt ≡ refused unknown_name
unfolding indicator_line
indicator_nowhere st u e = rw (e, indicator_line)

indicator_constant : (st : State) (u : Used) (v : ℕ) (k : Kind) → number_of st u ≡ some v → (line_of st.earlier v).kind ≡ k → kind_number k ≢ 0
    → indicator_line st (some u) tt ≡ refused unknown_name
unfolding indicator_line kind_number
indicator_constant st u v variable e f n = absurd (n refl)
indicator_constant st u v primitive e f n = rw (e, f, indicator_line)
indicator_constant st u v (abbreviation m) e f n = rw (e, f, indicator_line)

indicator_variable : (st : State) (u : Used) (v : ℕ) (k : Kind) → number_of st u ≡ some v → (line_of st.earlier v).kind ≡ k → kind_number k ≡ 0
    → indicator_line st (some u) tt ≡ found v
unfolding indicator_line kind_number
indicator_variable st u v variable e f n = rw (e, f, indicator_line)
indicator_variable st u v primitive e f n = absurd (omega arith)
indicator_variable st u v (abbreviation m) e f n = absurd (omega arith)

-- r is the line of the indicator o
abbrev Indicated : List ℕ → List ℕ → List ℕ → ℕ → List ℕ → Option Used → ℕ → Type 0
Indicated ks book tb lines w o r =
    (st : State) → KindsTable ks → Known st.earlier book tb lines → StateNoted st book tb lines w → IndicatorFound lines r (indicator_line st o tt)

pub indicator_empty : {ks book tb w : List ℕ} {lines : ℕ} → Indicated ks book tb lines w none 0
indicator_empty {lines = lines} st t k g = subst (λ f. IndicatorFound lines 0 f) (sym (indicator_none st)) (is_line refl (omega arith))

module _ (s : Bytes) (title size start len : ℕ) {ks book tb w : List ℕ} {lines : ℕ} where
  module _ (n : len ≢ 0) (i : (title + size ≤ length s) × (start + len ≤ length s)) {before word : Bytes}
      (eb : before ≡ slice title (title + size) s) (ew : word ≡ slice start (start + len) s) {v : ℕ} (U : UsedFound ks book tb lines w before word v) where
    -- the name as it was looked up
    number : (st : State) → KindsTable ks → Known st.earlier book tb lines → StateNoted st book tb lines w → v ≡ number_or 0 (number_of st (used_in s title size start len))
    number st t k g =
        U.is st t k g (omega (arith, ap length ew, length-slice start (start + len) s i.1))
        ∙ ap (λ u. number_or 0 (number_of st u)) (ap₂ used_by eb ew ∙ sym (used_by_lem s title size start len i.0))

    pub indicator_unknown : v ≡ 0 → Indicated ks book tb lines w (used_or s title size start len) line_limit
    indicator_unknown z st t k g =
        subst (λ f. IndicatorFound lines line_limit f)
        (sym (ap (λ o. indicator_line st o tt) (used_some s title size start len n)
        ∙ indicator_nowhere st _ (number_none (number_of st (used_in s title size start len)) (number st t k g) z (used_number st _)))) (no_line refl)

    pub indicator_too_large : line_limit ≤ v → Indicated ks book tb lines w (used_or s title size start len) line_limit
    indicator_too_large m st t k g = absurd (omega (arith, k.few, U.within))

    module _ (m : v ≢ 0) {kind : ℕ} (ek : kind ≡ row_cell tb v at_kind) where
      pub indicator_no_variable : kind ≢ 0 → Indicated ks book tb lines w (used_or s title size start len) line_limit
      indicator_no_variable z st t k g =
          let (x, h) = line_at k v (omega arith) U.within in
          subst (λ f. IndicatorFound lines line_limit f)
          (sym (ap (λ o. indicator_line st o tt) (used_some s title size start len n)
          ∙ indicator_constant st _ v x.kind (number_some _ (number st t k g) m) (ap (λ (y : Line). y.kind) (line_line_of h)) (λ y. z (ek ∙ (k.rows.row h).kind_is ∙ y))))
          (no_line refl)

      pub indicator_found : kind ≡ 0 → Indicated ks book tb lines w (used_or s title size start len) v
      indicator_found z st t k g =
          let (x, h) = line_at k v (omega arith) U.within in
          subst (λ f. IndicatorFound lines v f)
          (sym (ap (λ o. indicator_line st o tt) (used_some s title size start len n)
          ∙ indicator_variable st _ v x.kind (number_some _ (number st t k g) m) (ap (λ (y : Line). y.kind) (line_line_of h)) (sym (k.rows.row h).kind_is ∙ sym ek ∙ z)))
          (is_line refl U.within)
