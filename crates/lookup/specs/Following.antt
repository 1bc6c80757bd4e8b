-- Following names downwards: the lines of a correct book name lines before them, so whether a line is reached is decided.
use Rattle.std.specs.Prelude.{◌≡◌, refl, ◌≢◌, ◌⊎◌, List, [], ◌∷◌, ◌++◌, ℕ, zero, suc, ◌≤◌, ◌<◌, length}
use Rattle.std.proofs.Common.{sym, subst, inl, inr, ⊎_elim, arith}
use Rattle.std.proofs.Math.Option.{Option}
use Rattle.std.proofs.Math.Decide.{ℕ_discrete, dec_le, dec_lt}
use Rattle.aut68.specs.Language.{Language}
use Rattle.aut68.specs.Bytes.{Bytes}
use Rattle.aut68.specs.Lines.{Line, Lines, Kind}
use Rattle.aut68.specs.Paragraphs.{State, start}
use Rattle.aut68.specs.Source.{Used, Middle}
use Rattle.aut68.specs.Index.{mentioned_by}
use Rattle.aut68.specs.Rules.Names.{IsLine, Context, Indicates, nothing, named, MiddleMeans, is_eb, is_pn, is_meaning}
use Rattle.aut68.specs.Rules.Derivation.{Derivation, line, opened, closed, Derived, no_more, piece}
use Rattle.aut68.specs.Rules.Following.{NamesLine, Reaches, itself, onward}
use Rattle.lookup.specs.Lists.{Each, members_each, member-with?}
use Rattle.lookup.specs.LineNumbers.{no_line_lem, line_positive, line_within, line_unique, line_at_lem, line_snoc}
use Rattle.lookup.specs.Contexts.{context_line}
use Rattle.lookup.specs.Mentions.{KindMentions, IndicatorMentions, indicator_mentions, mentions_named}
use Rattle.lookup.specs.Mentioning.{means_mentions}

-- each line names lines before it
abbrev pub NamesBefore : Lines → Type 0
NamesBefore ls = (v : ℕ) (l : Line) (u : ℕ) → IsLine ls v l → NamesLine l u → (1 ≤ u) × (u < v)

-- ---- the lines of a correct book

-- v is a line
abbrev pub HasLine : Lines → ℕ → Type 0
HasLine ls v = (l : Line) × IsLine ls v l

line? : (ls : Lines) (v : ℕ) → Dec (HasLine ls v)
line? ls v = at (dec_lt 0 v) (dec_le v (length ls))
  where
    at : Dec (0 < v) → Dec (v ≤ length ls) → Dec (HasLine ls v)
    at (yes h) (yes k) = yes (line_at_lem ls v h k)
    at (yes h) (no k) = no (λ (l, i). k (line_within i))
    at (no h) d = no (λ (l, i). h (line_positive i))

context_lines : {ls : Lines} {v : ℕ} {vs : List ℕ} → Context ls v vs → Each (HasLine ls) vs
context_lines {ls} {vs = vs} c = members_each (HasLine ls) vs (λ u m. let (l, i, k) = context_line c m in (l, i))

indicator_line_lem : {st : State} {o : Option Used} {v : ℕ} → Indicates st o v → IndicatorMentions (HasLine st.earlier) v
unfolding IndicatorMentions
indicator_line_lem nothing = tt
indicator_line_lem {st} (named {l = l} d i) = indicator_mentions (HasLine st.earlier) i (l, i)

middle_lines : {st : State} {vs : List ℕ} {m : Middle} {k : Kind} → Each (HasLine st.earlier) vs → MiddleMeans st vs m k → KindMentions (HasLine st.earlier) k
unfolding KindMentions
middle_lines h is_eb = tt
middle_lines h is_pn = tt
middle_lines {st} h (is_meaning n) = means_mentions (HasLine st.earlier) h n (λ w v l o i d. (l, i))

-- a line with a derivation names lines before it
derivation_names : {language : Language} {st : State} {bytes : Bytes} {l : Line} {u : ℕ} → Derivation language st bytes l → NamesLine l u → HasLine st.earlier u
derivation_names {st} {l = l} d m =
    let own = context_lines d.context_is in
    mentions_named (HasLine st.earlier) l (indicator_line_lem d.indicator_is) (middle_lines own d.middle_is)
    (means_mentions (HasLine st.earlier) own d.category_is (λ w v k o i e. (k, i))) m

before_snoc : {language : Language} {st : State} {bytes : Bytes} {l : Line} → NamesBefore st.earlier → Derivation language st bytes l → NamesBefore (st.earlier ++ (l ∷ []))
before_snoc {st} {l = l} h d v k u i m = at (line_snoc st.earlier i)
  where
    at : IsLine st.earlier v k ⊎ ((k ≡ l) × (v ≡ suc (length st.earlier))) → (1 ≤ u) × (u < v)
    at (inl j) = h v k u j m
    at (inr (e, q)) =
        let (n, j) = derivation_names d (subst (λ x. NamesLine x u) e m) in
        let p = line_positive j in
        let r = line_within j in
        (omega arith, omega arith)

derived_before : {language : Language} {st all : State} {pieces : List Bytes} → Derived language st pieces all → NamesBefore st.earlier → NamesBefore all.earlier
derived_before no_more h = h
derived_before (piece (line d) r) h = derived_before r (before_snoc h d)
derived_before (piece (opened f u) r) h = derived_before r h
derived_before (piece (closed f e) r) h = derived_before r h

before_start : NamesBefore start.earlier
unfolding start
before_start v l u i m = absurd (no_line_lem i)

pub named_before : {language : Language} {pieces : List Bytes} {st : State} → Derived language start pieces st → NamesBefore st.earlier
named_before d = derived_before d before_start

-- ---- the lines reached

reaches_trans : {ls : Lines} {v u w : ℕ} → Reaches ls v u → Reaches ls u w → Reaches ls v w
reaches_trans r itself = r
reaches_trans r (onward s i m) = onward (reaches_trans r s) i m

-- a line reached is the line itself, or reached from a line that it names
first_step : {ls : Lines} {v u : ℕ} → Reaches ls v u → (v ≡ u) ⊎ ((l : Line) × (w : ℕ) × IsLine ls v l × NamesLine l w × Reaches ls w u)
first_step itself = inl refl
first_step {ls} {v} (onward {u} {w} {l} r i m) = at (first_step r)
  where
    at : (v ≡ u) ⊎ ((k : Line) × (x : ℕ) × IsLine ls v k × NamesLine k x × Reaches ls x u) → (v ≡ w) ⊎ ((k : Line) × (x : ℕ) × IsLine ls v k × NamesLine k x × Reaches ls x w)
    at (inl e) = inr (l, w, subst (λ x. IsLine ls x l) (sym e) i, m, itself)
    at (inr (k, x, j, n, s)) = inr (k, x, j, n, onward s i m)

module _ {ls : Lines} (before : NamesBefore ls) where
  pub reaches_within : {v u : ℕ} → Reaches ls v u → u ≤ v
  reaches_within itself = omega arith
  reaches_within (onward r i m) =
      let p = reaches_within r in
      let q = (before _ _ _ i m).1 in
      omega arith

  -- a line reached is a line
  pub reaches_line : {v u : ℕ} → 1 ≤ v → v ≤ length ls → Reaches ls v u → HasLine ls u
  reaches_line {v} h k r = line_at_lem ls _ (positive r) (let p = reaches_within r in omega arith)
    where
      positive : {u : ℕ} → Reaches ls v u → 1 ≤ u
      positive itself = h
      positive (onward r i m) = (before _ _ _ i m).0

  step? : (v u : ℕ) → ((w : ℕ) → w < v → Dec (Reaches ls w u)) → Dec (Reaches ls v u)
  step? v u f = at (ℕ_discrete v u) (line? ls v)
    where
      lines : v ≢ u → (l : Line) → IsLine ls v l → Dec ((w : ℕ) × NamesLine l w × Reaches ls w u) → Dec (Reaches ls v u)
      lines n l i (yes (w, m, r)) = yes (reaches_trans (onward itself i m) r)
      lines n l i (no g) = no (λ r. ⊎_elim n (λ (k, w, j, m, s). g (w, subst (λ x. NamesLine x w) (line_unique j i) m, s)) (first_step r))

      at : Dec (v ≡ u) → Dec (HasLine ls v) → Dec (Reaches ls v u)
      at (yes e) d = yes (subst (Reaches ls v) e itself)
      at (no n) (yes (l, i)) = lines n l i (member-with? (λ w. Reaches ls w u) (mentioned_by l) (λ w m. f w (before v l w i m).1))
      at (no n) (no g) = no (λ r. ⊎_elim n (λ (k, w, j, m, s). g (k, j)) (first_step r))

  below? : (n v u : ℕ) → v < n → Dec (Reaches ls v u)
  below? zero v u h = absurd (omega arith)
  below? (suc n) v u h = step? v u (λ w k. below? n w u (omega arith))

  pub reaches? : (v u : ℕ) → Dec (Reaches ls v u)
  reaches? v u = below? (suc v) v u (omega arith)
