-- A line that stands ahead of one it names, in a rearrangement of a correct book without paragraph lines: it has no derivation there, and
-- a verdict on it is 5.
use Rattle.std.specs.Prelude.{◌≡◌, ◌≢◌, ◌⊎◌, ℕ}
use Rattle.std.proofs.Math.Path.{ap, ap₂, sym}
use Rattle.std.proofs.Common.{◌∙◌, subst, inl, inr}
use Rattle.std.proofs.Math.Option.{Option}
use mathlib.Core.List.{List, [], ◌∷◌, ◌++◌, map, map-append}
use native.Mathlib.Omega.{arith}
use Rattle.aut68.specs.Language.{Language}
use Rattle.aut68.specs.Stores.{Limits}
use Rattle.aut68.specs.Bytes.{Bytes}
use Rattle.aut68.specs.Source.{Used, plain, SourceLine}
use Rattle.aut68.specs.Lines.{Line, Lines}
use Rattle.aut68.specs.Renumbering.{renumber_line}
use Rattle.aut68.specs.Rules.Grammar.{WellFormed}
use Rattle.aut68.specs.Rules.Names.{IsLine, Member, here, there, Denotes, NoneMeant, Context, Indicates, nothing, named}
use Rattle.aut68.specs.Rules.Derivation.{Derivation}
use Rattle.aut68.specs.Rules.Orders.{Permutation, Names, PrecedesDependency}
use Rattle.aut68.specs.Rules.Arrangements.{Stands}
use Rattle.aut68.specs.Procedure.Answer.{stop, Refusal, code_of, unknown_name, too_large}
use Rattle.aut68.specs.Procedure.Resolve.{context_at}
use Rattle.aut68.specs.Procedure.CheckLine.{check_line}
use Rattle.lookup.specs.Answers.{Decides, large_undecided}
use Rattle.lookup.specs.Lists.{member_left, member_right, repeat_seam, repeat_sides, rearranged_from}
use Rattle.lookup.specs.LineNumbers.{line_unique}
use Rattle.lookup.specs.Contexts.{context_append, context_at_lem, line_context}
use Rattle.lookup.specs.Alike.{UsedAlike, AlikeAt}
use Rattle.reading.specs.Whole.{grammar_unique}
use Rattle.reading.specs.Readings.{derivation_reading, reading_names}
use Rattle.reading.specs.Late.{late_stopped}
use Rattle.orders.specs.RenumberedNames.{renumbered_alike}
use Rattle.orders.proofs.Arranging.{stands_before}
use Rattle.orders.specs.FlatBooks.{flat, NoneNamed, named_line, unused_flat, Flat, AllFlat, derived_split, distinct_state, distinct_names, right_contexts}
use Rattle.orders.proofs.Standing.{stands_member, stands_named, line_stands, same_identifier}
use Rattle.orders.proofs.Walking.{new_repeat}
use Rattle.orders.proofs.Rearranging.{Arranged}

module _ (language : Language) where
  module _ {old : List Bytes} {ms : Lines} (D : Flat language [] old ms) {new : List Bytes} (P : Permutation old new)
      (passed : List Bytes) (a : Bytes) (rest : List Bytes) (split : new ≡ passed ++ a ∷ rest) where
    pub passed_old : (b : Bytes) → Member b passed → Member b old
    passed_old b m = rearranged_from P (rw split (member_left (a ∷ rest) m))

    pub next_old : Member a old
    next_old = rearranged_from P (rw split (member_right passed here))

    rest_old : {b : Bytes} → Member b rest → Member b old
    rest_old m = rearranged_from P (rw split (member_right passed (there m)))

    module _ (p : PrecedesDependency language a rest) where
      -- none of the lines passed has the identifier that it names
      not_passed : {b : Bytes} {s : SourceLine} → Member b passed → WellFormed language s b → s.identifier ≢ p.named.target.identifier
      not_passed {b} m f e =
          let q = same_identifier language D (passed_old b m) (rest_old p.is_after) f p.named.target_form e in
          repeat_sides passed (a ∷ rest) (rw split at (new_repeat language D P)) (subst (λ x. Member x passed) q m) (there p.is_after)

      -- so no line before it has it, and it has no derivation there
      none_meant : {ls : Lines} → Flat language [] passed ls → NoneMeant (flat ls) (plain p.named.target.identifier)
      none_meant d v g =
          let k = named_line g in
          let (b, s) = line_stands language d k.is_line in
          not_passed (stands_member language d s) s.derivation.form (sym s.derivation.identifier_is ∙ k.identifier_is)

      named_by : {s : SourceLine} → WellFormed language s a → Names s (plain p.named.target.identifier)
      named_by f = subst (λ (y : SourceLine). Names y (plain p.named.target.identifier)) (grammar_unique language p.named.source_form f) p.named.names

      not_derivable : {ls : Lines} {l : Line} → Flat language [] passed ls → Derivation language (flat ls) a l → ⊥
      not_derivable d e = let (u, k, i, q) = reading_names language (derivation_reading language e) (named_by e.form) in none_meant d u q

      pub not_derived : (qs : List Bytes) → AllFlat language (passed ++ a ∷ qs) → ⊥
      not_derived qs (all, h) = let (mid, l, d, e, r) = derived_split passed a qs h in not_derivable d e

      module _ (A : Arranged language ms passed) {v : ℕ} {l : Line} (s : Stands language old (flat ms) a v l) where
        abbrev ls : Lines
        ls = A.meanings

        abbrev ρ : ℕ → ℕ
        ρ = A.number

        fresh : NoneNamed ls s.derivation.source.identifier
        fresh n k i e =
            let (b, t) = line_stands language A.derived i in
            let m = stands_member language A.derived t in
            let z = same_identifier language D (passed_old b m) next_old t.derivation.form s.derivation.form (sym t.derivation.identifier_is ∙ e) in
            repeat_seam passed a rest (rw split at (new_repeat language D P)) (subst (λ x. Member x passed) z m)

        -- the line that a name means there is the one that it meant in the old book, renumbered
        same_line : {w : Used} {u v : ℕ} {k j : Line} → IsLine s.before.earlier u k → Denotes s.before w u → IsLine ls v j → Denotes (flat ls) w v → (j ≡ renumber_line ρ k) × (v ≡ ρ u)
        same_line {w} {u} {v} {k} {j} i d₀ i' d₁ =
            let (x, l, h, r, n) = A.from v j i' in
            let y : IsLine ms u k = stands_before language s i in
            let (z, e, p₀) = stands_named language D s d₀ in
            let p₁ = named_line (subst (λ z. Denotes (flat ls) z v) e d₁) in
            let f : j.identifier ≡ k.identifier = ap (λ (z : Line). z.identifier) (line_unique i' p₁.is_line) ∙ p₁.identifier_is ∙ sym p₀.identifier_is
            ∙ ap (λ (z : Line). z.identifier) (line_unique p₀.is_line i) in
            let q : x ≡ u = distinct_names D _ _ _ _ h y (sym (ap (λ (z : Line). z.identifier) r) ∙ f) in
            (r ∙ ap (renumber_line ρ) (line_unique (subst (λ n. IsLine ms n l) q h) y), n ∙ ap ρ q)

        alike : (w : Used) → AlikeAt ρ s.before (flat ls) w
        alike w u v k j i d₀ i' d₁ = let (p, q) = same_line i d₀ i' d₁ in (q, subst (UsedAlike ρ k) (sym p) (renumbered_alike ρ k))

        -- where its indicator is there, its context is the old one, renumbered
        own_context : (v : ℕ) → Indicates (flat ls) s.derivation.source.indicator v → context_at ls v ≡ map ρ l.context
        unfolding context_at
        own_context v i = at i s.derivation.indicator_is s.derivation.context_is
          where
            at : {o : Option Used} {u v : ℕ} {vs : List ℕ} → Indicates (flat ls) o v → Indicates s.before o u → Context s.before.earlier u vs → context_at ls v ≡ map ρ vs
            at {vs = vs} nothing nothing c =
                let a : Context ms 0 vs = rw s.whole (context_append (l ∷ s.after) c) in
                ap (map ρ) (context_at_lem (right_contexts D) a)
            at {u = u} {v = v} {vs = vs} (named {l = j} d₁ i') (named {l = k} d₀ i) c =
                let (p, q) = same_line i d₀ i' d₁ in
                let a : Context ms u vs = rw s.whole (context_append (l ∷ s.after) c) in
                let f : vs ≡ k.context ++ (u ∷ []) = sym (context_at_lem (right_contexts D) a) ∙ line_context (stands_before language s i) in
                line_context i' ∙ ap₂ (λ (x : Line) y. x.context ++ (y ∷ [])) p q ∙ sym (map-append ρ k.context (u ∷ [])) ∙ ap (map ρ) (sym f)

        -- its refusal: 5, if it is a verdict
        pub unknown_here : (m : Limits) (b : ℕ) {r : Refusal} {b' : ℕ} → check_line language (flat ls) m a b ≡ stop r b' → Decides r
            → code_of r ≡ 5
        unfolding code_of
        unknown_here m b {r} h d =
            let e = at (late_stopped language s.derivation (distinct_state A.derived) (right_contexts A.derived) (unused_flat fresh) (named_by s.derivation.form)
            (none_meant A.derived) ρ own_context (λ w x. alike w) m b h).0 in
            let z : code_of r ≡ code_of unknown_name = ap code_of e in
            omega arith
          where
            at : (r ≡ unknown_name) ⊎ (r ≡ too_large) → r ≡ unknown_name
            at (inl e) = e
            at (inr e) = absurd (large_undecided (subst Decides e d))
