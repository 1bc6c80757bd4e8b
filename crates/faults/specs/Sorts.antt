-- The leads that begin an expression, and how its word ends: as a name, or as a sort where a category may end.
use Rattle.std.specs.Prelude.{◌≡◌, ℕ, suc, length}
use Rattle.std.proofs.Math.Path.{refl}
use Rattle.std.proofs.Common.{◌∙◌}
use Rattle.aut68.specs.Language.{Language, aut68, aut_qe, Extended, extended}
use Rattle.aut68.specs.Bytes.{Bytes, name_byte, same_bytes, word_type, word_prop, word_pn, word_eb}
use Rattle.aut68.specs.Source.{Src}
use Rattle.aut68.specs.Rules.Grammar.{Position, inner, ending, Symbol, NameBytes, no_byte, one_more, IsName, Expression}
use Rattle.aut68.specs.Rules.Grammar as G
use Rattle.lookup.specs.SameBytes.{same_of_ne}
use Rattle.reading.specs.Symbols.{if_false}
use Rattle.faults.specs.Machine.{Word, calling, as_middle, Lead, expr, the_middle, Stack, closed, calls, named, prop_or_call, word_end, begin, leads}

-- The lead begins an expression at the place, with d levels below it, and reads its word as k.
pub data Heads : Lead → Position → ℕ → Word → Type 0 where
  of_expr : {place : Position} {d : ℕ} → Heads (expr place (suc d)) place d (calling place d)
  of_middle : Heads the_middle inner 31 as_middle

-- a word with which a category may end at the place
pub data Sort (language : Language) : Position → Bytes → Type 0 where
  sort_type : Sort language ending word_type
  sort_prop : Extended language → Sort language ending word_prop

-- what only AUT-QE has
prop_closes : {language : Language} → Extended language → (d : ℕ) → prop_or_call language d word_prop ≡ closed
unfolding prop_or_call same_bytes word_prop
prop_closes extended d = refl

prop_name : (language : Language) (d : ℕ) {w : Bytes} → IsName language w → prop_or_call language d w ≡ named language (calls d) w
unfolding prop_or_call
prop_name aut68 d n = refl
prop_name aut_qe d {w} n = if_false _ _ (same_of_ne w word_prop (n.not_prop extended))

pub heads_begin : (language : Language) {l : Lead} {place : Position} {d : ℕ} {k : Word} → Heads l place d k → (K : Stack) (b : ℕ) → leads language l K b ≡ begin language place d k K b
unfolding leads
heads_begin language of_expr K b = refl
heads_begin language of_middle K b = refl

module _ {language : Language} where
  pub sort_bytes : {place : Position} {w : Bytes} → Sort language place w → NameBytes w
  unfolding word_type word_prop name_byte
  sort_bytes sort_type = one_more refl (one_more refl (one_more refl (one_more refl no_byte)))
  sort_bytes (sort_prop x) = one_more refl (one_more refl (one_more refl (one_more refl no_byte)))

  pub sort_length : {place : Position} {w : Bytes} → Sort language place w → length w ≡ 4
  unfolding word_type word_prop
  sort_length sort_type = refl
  sort_length (sort_prop x) = refl

  pub sort_expression : {place : Position} {w a b : Bytes} → Sort language place w → Symbol w a b → (x : Src) × Expression language place x a b
  sort_expression sort_type s = (_, G.is_type s)
  sort_expression (sort_prop x) s = (_, G.is_prop x s)

  sort_closes : {place : Position} {w : Bytes} (d : ℕ) → Sort language place w → word_end language (calling place d) w ≡ closed
  unfolding word_end same_bytes word_type word_prop
  sort_closes d sort_type = refl
  sort_closes d (sort_prop x) = prop_closes x d

  call_name : (place : Position) (d : ℕ) {w : Bytes} → IsName language w → word_end language (calling place d) w ≡ named language (calls d) w
  unfolding word_end
  call_name inner d n = refl
  call_name ending d {w} n = if_false _ _ (same_of_ne w word_type n.not_type) ∙ prop_name language d n

  pub heads_name : {l : Lead} {place : Position} {d : ℕ} {k : Word} {w : Bytes} → Heads l place d k → IsName language w → word_end language k w ≡ named language (calls d) w
  unfolding word_end
  heads_name (of_expr {place = place} {d = d}) n = call_name place d n
  heads_name {w = w} of_middle n = if_false _ _ (same_of_ne w word_eb n.not_eb) ∙ if_false _ _ (same_of_ne w word_pn n.not_pn)

  pub heads_sort : {l : Lead} {place : Position} {d : ℕ} {k : Word} {w : Bytes} → Heads l place d k → Sort language place w → word_end language k w ≡ closed
  heads_sort of_expr s = sort_closes _ s
  heads_sort of_middle s = elim s [ ]
