-- Where the lines that have passed are old ones, renumbered, no line has the name of an old line that has not passed.
use Rattle.std.specs.Prelude.{◌≡◌, ℕ, List}
use Rattle.std.proofs.Common.{ap, sym, subst, ◌∙◌}
use Rattle.aut68.specs.Bytes.{Bytes}
use Rattle.aut68.specs.Lines.{Line, line_of}
use Rattle.aut68.specs.Paragraphs.{State}
use Rattle.aut68.specs.Renumbering.{renumber_line}
use Rattle.aut68.specs.Rules.Names.{IsLine, Member, LineIn}
use Rattle.lookup.specs.Identifiers.{Distinct}

module _ {all : State} (st : State) (ρ : ℕ → ℕ) (order : List ℕ) (distinct : Distinct all)
    (origin : (v : ℕ) (k : Line) → IsLine st.earlier v k → (x : ℕ) × Member x order × (k ≡ renumber_line ρ (line_of all.earlier x)))
    (known : (x : ℕ) → Member x order → IsLine all.earlier x (line_of all.earlier x)) where
  -- no line that has passed has the name of an old line that has not, in its paragraph
  pub line_fresh : {v : ℕ} {l : Line} → IsLine all.earlier v l → ¬ Member v order → {u : ℕ} {w : Bytes} {q : ℕ} → w ≡ l.identifier → q ≡ l.paragraph → ¬ LineIn st.earlier w q u
  line_fresh {v} i n e f h =
      let (x, m, g) = origin _ _ h.is_line in
      let a = ap (λ z. z.identifier) (sym g) ∙ h.identifier_is ∙ e in
      let b = ap (λ z. z.paragraph) (sym g) ∙ h.paragraph_is ∙ f in
      n (subst (λ z. Member z order) (distinct.names x v (line_of all.earlier x) _ (known x m) i a b) m)
