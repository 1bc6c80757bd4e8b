-- Following names over renumbered lines: what is reached is what was reached, renumbered.
use Rattle.std.specs.Prelude.{◌≡◌, length}
use Rattle.std.proofs.Math.Path.{refl, ap, ap₂, sym}
use Rattle.std.proofs.Common.{◌∙◌, subst, arith}
use mathlib.Core.List.{List, [], ◌∷◌, ◌++◌, map, map-append}
use Prim.Native.Nat.{ℕ, zero, suc, ◌≤◌, ◌<◌}
use Rattle.aut68.specs.Expr.{Expr, Exprs, type, prop, var, bound, const, app, abs, nil, cons}
use Rattle.aut68.specs.Lines.{Line, Lines, Kind, variable, primitive, abbreviation}
use Rattle.aut68.specs.Index.{mentioned, mentioned_in, mentioned_in_middle, mentioned_as_indicator, mentioned_by}
use Rattle.aut68.specs.Renumbering.{renumber, renumbers, renumber_kind, renumber_indicator, renumber_line}
use Rattle.aut68.specs.Rules.Names.{IsLine, Member, here, there}
use Rattle.aut68.specs.Rules.Following.{NamesLine, Reaches, itself, onward, Beneath, Ascends, none, one, more, RestsOn}
use Rattle.lookup.specs.Lists.{member_map, member_unmap, member_left}
use Rattle.lookup.specs.LineNumbers.{line_positive, line_unique}
use Rattle.lookup.specs.Following.{NamesBefore, reaches_line}

-- ---- what a renumbered line names

positive_indicator : (v : ℕ) → 0 < v → mentioned_as_indicator v ≡ v ∷ []
unfolding mentioned_as_indicator
positive_indicator zero h = absurd (omega arith)
positive_indicator (suc v) h = refl

module _ (ρ : ℕ → ℕ) where
  mutual
    unfolding renumber mentioned

    mentioned_renumber : (e : Expr) → mentioned (renumber ρ e) ≡ map ρ (mentioned e)
    mentioned_renumber type = refl
    mentioned_renumber prop = refl
    mentioned_renumber (var v) = refl
    mentioned_renumber (bound i) = refl
    mentioned_renumber (const v xs) = ap (◌∷◌ (ρ v)) (mentioned_renumbers xs)
    mentioned_renumber (app a b) = ap₂ ◌++◌ (mentioned_renumber a) (mentioned_renumber b) ∙ sym (map-append ρ (mentioned a) (mentioned b))
    mentioned_renumber (abs p t) = ap₂ ◌++◌ (mentioned_renumber p) (mentioned_renumber t) ∙ sym (map-append ρ (mentioned p) (mentioned t))

    mentioned_renumbers : (xs : Exprs) → mentioned_in (renumbers ρ xs) ≡ map ρ (mentioned_in xs)
    mentioned_renumbers nil = refl
    mentioned_renumbers (cons a xs) = ap₂ ◌++◌ (mentioned_renumber a) (mentioned_renumbers xs) ∙ sym (map-append ρ (mentioned a) (mentioned_in xs))

  middle_renumber : (k : Kind) → mentioned_in_middle (renumber_kind ρ k) ≡ map ρ (mentioned_in_middle k)
  unfolding renumber_kind mentioned_in_middle
  middle_renumber variable = refl
  middle_renumber primitive = refl
  middle_renumber (abbreviation m) = mentioned_renumber m

  indicator_renumber : (v : ℕ) → ((u : ℕ) → Member u (mentioned_as_indicator v) → 0 < ρ u) → mentioned_as_indicator (renumber_indicator ρ v) ≡ map ρ (mentioned_as_indicator v)
  unfolding renumber_indicator mentioned_as_indicator
  indicator_renumber zero h = refl
  indicator_renumber (suc v) h = positive_indicator (ρ (suc v)) (h (suc v) here)

  -- it names what the line named, renumbered, if no number becomes 0
  named_renumber : (l : Line) → ((u : ℕ) → NamesLine l u → 0 < ρ u) → mentioned_by (renumber_line ρ l) ≡ map ρ (mentioned_by l)
  unfolding mentioned_by
  named_renumber l h =
      ap₂ ◌++◌ (indicator_renumber l.indicator (λ u m. h u (member_left _ m)))
      (ap₂ ◌++◌ (middle_renumber l.kind) (mentioned_renumber l.category) ∙ sym (map-append ρ (mentioned_in_middle l.kind) (mentioned l.category)))
      ∙ sym (map-append ρ (mentioned_as_indicator l.indicator) (mentioned_in_middle l.kind ++ mentioned l.category))

  kind_renumber : (k : Kind) → renumber_kind ρ k ≡ primitive → k ≡ primitive
  unfolding renumber_kind
  kind_renumber variable e = e
  kind_renumber primitive e = refl
  kind_renumber (abbreviation m) e = cc

-- ---- what is reached

-- The lines reached from line v of ls, renumbered, are lines of ms.
module _ {ls ms : Lines} (before : NamesBefore ls) {v : ℕ} (positive : 1 ≤ v) (within : v ≤ length ls) (ρ : ℕ → ℕ)
    (placed : (u : ℕ) (l : Line) → Reaches ls v u → IsLine ls u l → IsLine ms (ρ u) (renumber_line ρ l)) where
  names_renumbered : {u : ℕ} {l : Line} → Reaches ls v u → IsLine ls u l → mentioned_by (renumber_line ρ l) ≡ map ρ (mentioned_by l)
  names_renumbered r i = named_renumber ρ _ (λ w m. let s = onward r i m in let (k, j) = reaches_line before positive within s in line_positive (placed w k s j))

  reaches_renumbered : {u : ℕ} → Reaches ls v u → Reaches ms (ρ v) (ρ u)
  reaches_renumbered itself = itself
  reaches_renumbered (onward {u} {w} {l} r i m) = onward (reaches_renumbered r) (placed u l r i) (subst (Member (ρ w)) (sym (names_renumbered r i)) (member_map ρ m))

  -- the line of ls that line x of ms was
  abbrev Origin : ℕ → Type 0
  Origin x = (u : ℕ) × (x ≡ ρ u) × Reaches ls v u

  origin_line : {x : ℕ} {j : Line} (o : Origin x) → IsLine ms x j → (l : Line) × IsLine ls o.0 l × (j ≡ renumber_line ρ l)
  origin_line {x} {j} (u, e, r) i =
      let (l, k) = reaches_line before positive within r in
      (l, k, line_unique (subst (λ n. IsLine ms n j) e i) (placed u l r k))

  reaches_origin : {x : ℕ} → Reaches ms (ρ v) x → Origin x
  reaches_origin itself = (v, refl, itself)
  reaches_origin (onward {u = x} {w = y} r i m) = at (reaches_origin r)
    where
      at : Origin x → Origin y
      at o =
          let (l, k, e) = origin_line o i in
          let (w, q, n) = member_unmap ρ (mentioned_by l) (subst (Member y) (ap mentioned_by e ∙ names_renumbered o.2 k) m) in
          (w, q, onward o.2 k n)

  beneath_renumbered : {u : ℕ} → Beneath ls v u → Beneath ms (ρ v) (ρ u)
  unfolding renumber_kind
  beneath_renumbered {u} b = record {
    line = renumber_line ρ b.line;
    is_line = placed u b.line b.reached b.is_line;
    is_primitive = ap (renumber_kind ρ) b.is_primitive;
    reached = reaches_renumbered b.reached;
  }

  beneath_origin : {x : ℕ} → Beneath ms (ρ v) x → (u : ℕ) × (x ≡ ρ u) × Beneath ls v u
  beneath_origin b =
      let o = reaches_origin b.reached in
      let (l, i, e) = origin_line o b.is_line in
      (o.0, o.1, record { line = l; is_line = i; is_primitive = kind_renumber ρ l.kind (ap (λ x. x.kind) (sym e) ∙ b.is_primitive); reached = o.2 })

  module _ (in_order : (u w : ℕ) → Reaches ls v u → Reaches ls v w → u < w → ρ u < ρ w) where
    ascends_renumbered : {list : List ℕ} → ((u : ℕ) → Member u list → Reaches ls v u) → Ascends list → Ascends (map ρ list)
    ascends_renumbered h none = none
    ascends_renumbered h one = one
    ascends_renumbered h (more {x} {y} p a) = more (in_order x y (h x here) (h y (there here)) p) (ascends_renumbered (λ u m. h u (there m)) a)

    -- what line v rests on, renumbered
    pub rests_renumbered : {list : List ℕ} → RestsOn ls v list → RestsOn ms (ρ v) (map ρ list)
    rests_renumbered {list} R = record {
      ascends = ascends_renumbered (λ u m. ((R.exactly u).0 m).reached) R.ascends;
      exactly = λ x. (to x, from x);
    }
      where
        to : (x : ℕ) → Member x (map ρ list) → Beneath ms (ρ v) x
        to x m = let (u, e, n) = member_unmap ρ list m in subst (Beneath ms (ρ v)) (sym e) (beneath_renumbered ((R.exactly u).0 n))

        from : (x : ℕ) → Beneath ms (ρ v) x → Member x (map ρ list)
        from x b = let (u, e, c) = beneath_origin b in subst (λ n. Member n (map ρ list)) (sym e) (member_map ρ ((R.exactly u).1 c))
