-- An expression where a category may end: the word `type`, and in AUT-68 else what it is inside.
use mathlib.Core.Path.{◌≡◌, refl, ap, ◌∙◌}
use mathlib.Core.Bool.{Bool, true, false}
use mathlib.Core.List.{[], ◌∷◌}
use Prim.Native.Nat.{ℕ, zero, suc}
use lib.Dec.{eqb}
use native.Mathlib.Omega.{arith}
use Rattle.aut68.specs.Language.{Language, aut68}
use Rattle.aut68.specs.Rules.Grammar.{inner, ending, below}
use Rattle.aut68.specs.Bytes.{Bytes, name_byte, same_bytes, word_type}
use Rattle.aut68.specs.Source.{type}
use Rattle.aut68.specs.Procedure.Answer.{done, and_then}
use Rattle.aut68.specs.Procedure.Parse.{spaces, starts, word_of, after_word, word_ahead, past_word, prop_or_name, word_at, an_expression}
use Rattle.lookup.specs.SameBytes.{same_true}

-- where the word `type` stands next, no byte but `t` stands first
type_starts : (c : ℕ) (bs : Bytes) → eqb c 116 ≡ false → same_bytes (word_of bs) word_type ≡ true → starts (eqb c) bs ≡ false
unfolding starts word_of word_type
type_starts c [] n e = refl
type_starts c (b ∷ bs) n e = split (name_byte b) refl
  where
    split : (t : Bool) → name_byte b ≡ t → eqb c b ≡ false
    split true q = let w : b ∷ word_of bs ≡ word_type = same_true _ _ (rw (q, word_of) at e) in let h : b ≡ 116 = cc in ap (eqb c) h ∙ n
    split false q = let w : [] ≡ word_type = same_true _ _ (rw (q, word_of) at e) in let z : ◌≡◌ {A = ℕ} 0 1 = cc in absurd (omega arith)

-- `type` is that leaf
pub ending_type : (language : Language) (d : ℕ) (bs : Bytes) → same_bytes (word_ahead bs) word_type ≡ true → an_expression language (suc d) ending bs ≡ done type (after_word (spaces bs))
unfolding an_expression word_at word_ahead past_word and_then
ending_type language d bs e = rw (type_starts 60 (spaces bs) refl e, type_starts 91 (spaces bs) refl e, an_expression, e, word_at) refl

-- at any other word a category is an expression as it is read inside
pub ending_other : (d : ℕ) (bs : Bytes) → same_bytes (word_ahead bs) word_type ≡ false → an_expression aut68 d ending bs ≡ an_expression aut68 d inner bs
unfolding an_expression below word_at prop_or_name
ending_other zero bs e = refl
ending_other (suc d) bs e = split (starts (eqb 60) (spaces bs)) (starts (eqb 91) (spaces bs)) refl refl
  where
    split : (s t : Bool) → starts (eqb 60) (spaces bs) ≡ s → starts (eqb 91) (spaces bs) ≡ t → an_expression aut68 (suc d) ending bs ≡ an_expression aut68 (suc d) inner bs
    split true t p q = rw (p, an_expression)
    split false true p q = rw (p, q, an_expression)
    split false false p q = rw (p, q, an_expression, e, word_at)
