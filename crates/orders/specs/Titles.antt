-- What names mean depends on the identifiers and paragraphs of the lines, and on nothing else of them.
use Rattle.std.proofs.Common.{ap, sym, ◌∙◌}
use Rattle.std.specs.Prelude.{List, map, ℕ}
use Rattle.aut68.specs.Bytes.{Bytes}
use Rattle.aut68.specs.Source.{Used}
use Rattle.aut68.specs.Lines.{Line, Lines}
use Rattle.aut68.specs.Paragraphs.{Place}
use Rattle.aut68.specs.Renumbering.{renumber_line}
use Rattle.aut68.specs.Rules.Names.{LineIn, Innermost, in_this, outward, Denotes, an_earlier, in_closed}
use Rattle.lookup.specs.LineNumbers.{line_map, line_unmap}

-- what was found outward is found there, if no paragraph has what it had not
innermost_to : {Has Has' : ℕ → ℕ → Type 0} {x x' : ℕ} → ((q : ℕ) → Has q x → Has' q x') → ((q u : ℕ) → Has' q u → (y : ℕ) × Has q y) → {qs : List ℕ} → Innermost Has qs x → Innermost Has' qs x'
innermost_to f g (in_this h) = in_this (f _ h)
innermost_to f g (outward n h) = outward (λ u k. n _ (g _ u k).1) (innermost_to f g h)

-- Line x of ls is line x' of ls', and no paragraph has a name in ls' that it had not in ls: what meant x means x'.
pub denotes_to : {ls ls' : Lines} {at : Place} {x x' : ℕ} → ((w : Bytes) (q : ℕ) → LineIn ls w q x → LineIn ls' w q x') → ((w : Bytes) (q u : ℕ) → LineIn ls' w q u → (y : ℕ) × LineIn ls w q y)
    → {u : Used} → Denotes (record { earlier = ls; place = at }) u x → Denotes (record { earlier = ls'; place = at }) u x'
denotes_to f g (an_earlier h) = an_earlier (innermost_to (λ q k. f _ q k) (λ q u k. g _ q u k) h)
denotes_to f g (in_closed h k) = in_closed h (f _ _ k)

-- renumbered lines have the identifiers and paragraphs that they had
module _ (ρ : ℕ → ℕ) (ls : Lines) where
  line_in_renumbered : {w : Bytes} {q v : ℕ} → LineIn ls w q v → LineIn (map (renumber_line ρ) ls) w q v
  line_in_renumbered h = record { the_line = renumber_line ρ h.the_line; is_line = line_map (renumber_line ρ) h.is_line; identifier_is = h.identifier_is; paragraph_is = h.paragraph_is }

  renumbered_line_in : {w : Bytes} {q v : ℕ} → LineIn (map (renumber_line ρ) ls) w q v → LineIn ls w q v
  renumbered_line_in h =
      let (k, i, e) = line_unmap (renumber_line ρ) ls h.is_line in
      record {
        the_line = k;
        is_line = i;
        identifier_is = sym (ap (λ (z : Line). z.identifier) e) ∙ h.identifier_is;
        paragraph_is = sym (ap (λ (z : Line). z.paragraph) e) ∙ h.paragraph_is;
      }

  pub denotes_renumbered : {at : Place} {u : Used} {v : ℕ} → Denotes (record { earlier = ls; place = at }) u v → Denotes (record { earlier = map (renumber_line ρ) ls; place = at }) u v
  denotes_renumbered h = denotes_to (λ w q k. line_in_renumbered k) (λ w q u k. (u, renumbered_line_in k)) h
