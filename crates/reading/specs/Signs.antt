-- Paragraph lines: what is read is written, and what is written is read; in one way at most, and none is an ordinary line.
use Rattle.std.specs.Prelude.{◌≡◌, ℕ, true, false, [], ◌∷◌, eqb}
use Rattle.std.proofs.Math.Path.{refl, ap}
use Rattle.std.proofs.Common.{sym, ◌∙◌, arith, true≢false}
use Rattle.std.proofs.Math.Bool.{false≢true}
use Rattle.std.proofs.Math.Option.{Option}
use borrow.Author.Tests.{eqb-true, eq-eqb, ne_eqb}
use Rattle.aut68.specs.Language.{Language}
use Rattle.aut68.specs.Bytes.{Bytes, name_byte}
use Rattle.aut68.specs.Source.{Used, SourceLine}
use Rattle.aut68.specs.Procedure.Answer.{Answer, done}
use Rattle.aut68.specs.Procedure.Parse.{starts, line_end, a_sign_line, signed}
use Rattle.aut68.specs.Rules.Grammar.{Symbol, IndicatorForm, WellFormed, line, SignLine, sign_line, IsSign, plus, minus, Ordinary}
use Rattle.aut68.specs.Rules.Grammar as G
use Rattle.lookup.specs.Answers.{done_value, after, Gives, then, value}
use Rattle.reading.specs.Symbols.{symbol_sound, a_name_sound, symbol_complete}
use Rattle.reading.specs.Sound.{end_sound}
use Rattle.reading.specs.Complete.{Mark, mark_10, mark_42, symbol_ends, symbol_starts, name_complete, used_starts}

pub sign_mark : {sign : ℕ} → IsSign sign → Mark sign
unfolding name_byte
sign_mark plus = record { not_space = λ e. omega arith; not_name = refl }
sign_mark minus = record { not_space = λ e. omega arith; not_name = refl }

sign_not_star : {sign : ℕ} → IsSign sign → eqb sign 42 ≡ false
sign_not_star plus = refl
sign_not_star minus = refl

module _ (language : Language) where
  pub sign_sound : (sign : ℕ) (bytes : Bytes) {p rest : Bytes} → a_sign_line language sign bytes ≡ done p rest → SignLine language sign p bytes
  unfolding a_sign_line
  sign_sound sign bytes h =
      after _ _ h λ u₁ b e₁ h₁.
      after _ _ h₁ λ w c e₂ h₂.
      after _ _ h₂ λ u₃ d e₃ h₃.
      after _ _ h₃ λ u₄ f e₄ h₄.
      let (n, s) = a_name_sound language b e₂ in
      let (q, t) = end_sound language d e₄ in
      rw (← done_value h₄) (sign_line (symbol_sound sign bytes e₁) n s (rw q at (symbol_sound 10 c e₃)))

  gives_sign : {sign : ℕ} {p bytes : Bytes} → IsSign sign → SignLine language sign p bytes → Gives ⊥ p [] (a_sign_line language sign bytes)
  unfolding a_sign_line line_end
  gives_sign i (sign_line s n t w) =
      then _ (symbol_complete (sign_mark i).not_space s)
      (then _ (name_complete language n t (symbol_ends mark_10.not_name w))
      (then _ (symbol_complete mark_10.not_space w) (then _ refl (value refl))))

  pub sign_complete : {sign : ℕ} {p bytes : Bytes} → IsSign sign → SignLine language sign p bytes → a_sign_line language sign bytes ≡ done p []
  sign_complete i s = go (gives_sign i s)
    where
      go : {p : Bytes} {m : Answer Bytes Bytes} → Gives ⊥ p [] m → m ≡ done p []
      go (value e) = e
      go (Gives.deep l e) = absurd l

  -- The byte behind the spaces decides: that of a paragraph line is its sign ..
  pub sign_starts : (c : ℕ) {sign : ℕ} {p bytes : Bytes} → IsSign sign → SignLine language sign p bytes → signed c bytes ≡ eqb c sign
  unfolding signed
  sign_starts c i (sign_line s n x w) = symbol_starts (eqb c) (sign_mark i).not_space s

  pub sign_signed : {sign : ℕ} {p bytes : Bytes} → IsSign sign → SignLine language sign p bytes → signed sign bytes ≡ true
  sign_signed {sign} i f = sign_starts sign i f ∙ eq-eqb sign sign refl

  -- .. and an ordinary line begins with a name or `*`.
  pub indicator_starts : {sign : ℕ} {o : Option Used} {a b c : Bytes} → IsSign sign → IndicatorForm language o a b → Symbol (42 ∷ []) b c → signed sign a ≡ false
  unfolding signed starts
  indicator_starts {sign} i G.empty t = symbol_starts (eqb sign) mark_42.not_space t ∙ sign_not_star i
  indicator_starts {sign} i (G.indicator f) t =
      let (c, r, e, h) = used_starts language f in
      ap (starts (eqb sign)) e ∙ ne_eqb sign c (λ q. false≢true (sym (sign_mark i).not_name ∙ (ap name_byte q ∙ h)))

  pub ordinary_starts : {s : SourceLine} {bytes : Bytes} {sign : ℕ} → IsSign sign → WellFormed language s bytes → signed sign bytes ≡ false
  ordinary_starts i (line x t n u v m y z w) = indicator_starts i x t

  -- no paragraph line is an ordinary line
  pub sign_apart : {sign : ℕ} {p bytes : Bytes} {s : SourceLine} → IsSign sign → SignLine language sign p bytes → ¬ WellFormed language s bytes
  sign_apart i f w = true≢false (sym (sign_signed i f) ∙ ordinary_starts i w)

  pub formed_ordinary : {s : SourceLine} {bytes : Bytes} → WellFormed language s bytes → Ordinary language bytes
  formed_ordinary w sign p i f = sign_apart i f w

  pub sign_same : {s t : ℕ} {p q bytes : Bytes} → IsSign s → IsSign t → SignLine language s p bytes → SignLine language t q bytes → s ≡ t
  sign_same {s} {t} i j f g = eqb-true s t (sym (sign_starts s j g) ∙ sign_signed i f)

  pub sign_unique : {sign : ℕ} {p q bytes : Bytes} → IsSign sign → SignLine language sign p bytes → SignLine language sign q bytes → p ≡ q
  sign_unique i f g = done_value (sym (sign_complete i f) ∙ sign_complete i g)
