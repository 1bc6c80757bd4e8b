-- Numbers that are found: 0 is that of no line and no paragraph.
use mathlib.Core.Path.{◌≡◌, refl, sym, ap, ◌∙◌}
use mathlib.Core.Logic.{◌≢◌}
use mathlib.Core.Option.{Option, none, some, none-ne-some}
use mathlib.Core.List.{List, [], ◌∷◌}
use Prim.Native.Nat.{ℕ}
use native.Mathlib.Omega.{arith}
use Rattle.aut68.specs.Bytes.{Bytes}
use Rattle.aut68.specs.Lines.{Lines, number_in}
use Rattle.aut68.specs.Source.{Used}
use Rattle.aut68.specs.Paragraphs.{Place, State}
use Rattle.aut68.specs.Procedure.Lookup.{seek, paragraph_in, closed_in, number_of}
use Rattle.lookup.specs.Identifiers.{line_in_sound, paragraph_in_sound, closed_in_sound, number_sound}
use Rattle.lookup.specs.LineNumbers.{line_positive}
use Rattle.lookup.specs.Places.{RightPlace, numbered_within}
use Rattle.names.specs.Posts.{number_or}

-- none of them is 0
abbrev pub Positive : Option ℕ → Type 0
Positive o = (v : ℕ) → o ≡ some v → v ≢ 0

pub number_some : (o : Option ℕ) {r : ℕ} → r ≡ number_or 0 o → r ≢ 0 → o ≡ some r
unfolding number_or
number_some none e n = absurd (n e)
number_some (some v) e n = ap some (sym e)

pub number_none : (o : Option ℕ) {r : ℕ} → r ≡ number_or 0 o → r ≡ 0 → Positive o → o ≡ none
unfolding number_or
number_none none e z p = refl
number_none (some v) e z p = absurd (p v refl (sym e ∙ z))

pub or_some : {o : Option ℕ} {r : ℕ} → o ≡ some r → r ≡ number_or 0 o
unfolding number_or
or_some e = sym (ap (number_or 0) e)

pub or_none : {o : Option ℕ} {r : ℕ} → o ≡ none → r ≡ 0 → r ≡ number_or 0 o
unfolding number_or
or_none e z = z ∙ sym (ap (number_or 0) e)

pub seek_number : (f : ℕ → Option ℕ) → ((q : ℕ) → Positive (f q)) → (qs : List ℕ) → Positive (seek f qs)
unfolding seek
seek_number f p [] v e = absurd (none-ne-some v e)
seek_number f p (q ∷ qs) v e = at (f q) (p q) (seek_number f p qs) e
  where
    at : (o : Option ℕ) → Positive o → Positive (seek f qs) → ◌≡◌ {A = Option ℕ} (elim o [ some u ↦ some u | none ↦ seek f qs ]) (some v) → v ≢ 0
    at none a b e = b v e
    at (some u) a b e = a v e

pub line_number : (ls : Lines) (w : Bytes) (q : ℕ) → Positive (number_in ls w q)
line_number ls w q v e z = let p = line_positive (line_in_sound e).is_line in omega arith

module _ {at : Place} (r : RightPlace at) (w : Bytes) (q : ℕ) where
  pub paragraph_number : Positive (paragraph_in at w q)
  paragraph_number v e z = let (a, b) = numbered_within r.numbered (paragraph_in_sound e).is_paragraph in omega (arith, a)

  pub closed_number : Positive (closed_in at w q)
  closed_number v e z = let (a, b) = numbered_within r.numbered (closed_in_sound e).is_paragraph.is_paragraph in omega (arith, a)

pub used_number : (st : State) (u : Used) → Positive (number_of st u)
used_number st u v e z = let (l, i, q) = number_sound e in omega (arith, line_positive i)
