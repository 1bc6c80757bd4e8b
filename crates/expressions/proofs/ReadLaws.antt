-- Walked one thing after the other.
use mathlib.Core.Path.{◌≡◌, refl, sym, ap, ◌∙◌, subst}
use mathlib.Core.Logic.{◌≢◌}
use mathlib.Core.Bool.{true, false}
use mathlib.Core.List.{[], ◌∷◌}
use Prim.Native.Nat.{ℕ, zero, suc}
use native.Mathlib.Omega.{arith}
use lib.ListN.{length, drop}
use borrow.Author.Tests.{eq-eqb, ne_eqb, le-leb, lt-leb}
use Rattle.aut68.specs.Language.{aut68}
use Rattle.aut68.specs.Rules.Grammar.{inner, below}
use Rattle.aut68.specs.Bytes.{Bytes, opens_expression, name_byte}
use Rattle.aut68.specs.Procedure.Answer.{Answer, done, stop, and_then, Refusal, code_of, malformed, too_large, give}
use Rattle.aut68.specs.Procedure.Parse.{Read, spaces, symbol, starts, comma_or_close, arguments, arguments_if_any, named, application, abstraction, word_at, an_expression}
use Rattle.aut68.specs.Source.{Src, nil}
use Rattle.lookup.specs.Answers.{code_nonzero}
use Rattle.kinds.specs.Kinds.{kind_of, place_or0, opens_kind, opens_of_kind}
use Rattle.symbols.specs.Symbols.{first_kind}
use Rattle.symbols.proofs.NextLaws.{starts_kind, symbol_starts, symbol_starts_not}
use Rattle.expressions.specs.Walk.{ReadTo, passed, refused}

module _ {A B : Type 0} {s : Bytes} {R : A → Type 0} {Q : B → Type 0} {code at : ℕ} (f : A → Read B) where
  -- what comes after a refusal is that refusal
  pub then_refused : {m : Answer Bytes A} {at' : ℕ} → code ≢ 0 → ReadTo s R code at m → ReadTo s Q code at' (and_then f m)
  unfolding and_then
  then_refused n (passed e p h) = absurd (n e)
  then_refused n (refused e) = refused e

  -- what comes after a value goes on from it
  pub then_passed : {m : Answer Bytes A} {code' at' : ℕ} → code ≡ 0 → ReadTo s R code at m
      → ((a : A) → R a → ReadTo s Q code' at' (f a (drop at s))) → ReadTo s Q code' at' (and_then f m)
  unfolding and_then
  then_passed {code' = code'} {at' = at'} z (passed {a} e p h) g = subst (λ rest. ReadTo s Q code' at' (f a rest)) p (g a h)
  then_passed z (refused {r} e) g = absurd (code_nonzero r (sym e ∙ z))

-- a step whose answer is known
module _ {A B : Type 0} {s : Bytes} {Q : B → Type 0} {code at : ℕ} (f : A → Read B) where
  pub then_done : {m : Answer Bytes A} {a : A} {rest : Bytes} → m ≡ done a rest → ReadTo s Q code at (f a rest) → ReadTo s Q code at (and_then f m)
  unfolding and_then
  then_done e h = subst (λ m. ReadTo s Q code at (and_then f m)) (sym e) h

  pub then_stop : {m : Answer Bytes A} {r : Refusal} {rest : Bytes} → m ≡ stop r rest → code ≡ code_of r → ReadTo s Q code at (and_then f m)
  unfolding and_then
  then_stop e h = subst (λ m. ReadTo s Q code at (and_then f m)) (sym e) (refused h)

-- the last step, and what is made of its value
pub then_give : {A B : Type 0} {s : Bytes} {R : A → Type 0} {Q : B → Type 0} {code at : ℕ} (g : A → B) {m : Answer Bytes A}
    → ReadTo s R code at m → ((a : A) → R a → Q (g a)) → ReadTo s Q code at (and_then (λ a. give (g a)) m)
unfolding and_then
then_give g (passed {a} e p h) f = passed e p (f a h)
then_give g (refused e) f = refused e

-- the same, where a step behind it kept code and place
pub then_give_on : {A B : Type 0} {s : Bytes} {R : A → Type 0} {Q : B → Type 0} {code at code' at' : ℕ} (g : A → B) {m : Answer Bytes A}
    → code' ≡ code → at' ≡ at → ReadTo s R code at m → ((a : A) → code ≡ 0 → R a → Q (g a)) → ReadTo s Q code' at' (and_then (λ a. give (g a)) m)
unfolding and_then
then_give_on {s = s} g c d (passed {a} e p h) f = passed (c ∙ e) (ap (λ i. drop i s) d ∙ p) (f a e h)
then_give_on g c d (refused e) f = refused (c ∙ e)

pub then_map : {A : Type 0} {s : Bytes} {R Q : A → Type 0} {code at : ℕ} {m : Answer Bytes A} → ReadTo s R code at m → ((a : A) → R a → Q a) → ReadTo s Q code at m
then_map (passed {a} e p h) f = passed e p (f a h)
then_map (refused e) f = refused e

pub read_is : {A : Type 0} {s : Bytes} {R : A → Type 0} {code at : ℕ} {m n : Answer Bytes A} → m ≡ n → ReadTo s R code at n → ReadTo s R code at m
read_is {s = s} {R = R} {code = code} {at = at} e h = subst (λ x. ReadTo s R code at x) (sym e) h

pub read_stop : {A : Type 0} {s : Bytes} {R : A → Type 0} {code at : ℕ} {m : Answer Bytes A} {r : Refusal} {rest : Bytes} → m ≡ stop r rest → code ≡ code_of r → ReadTo s R code at m
read_stop e h = read_is e (refused h)

-- a refusal, wherever it is
pub read_back : {A : Type 0} {s : Bytes} {R Q : A → Type 0} {code at at' : ℕ} {m : Answer Bytes A} → code ≢ 0 → ReadTo s R code at m → ReadTo s Q code at' m
read_back n (passed e p h) = absurd (n e)
read_back n (refused e) = refused e

-- ---- the first byte

pub starts_opens : (bs : Bytes) → starts opens_expression bs ≡ opens_kind (first_kind bs)
unfolding starts first_kind opens_kind
starts_opens [] = refl
starts_opens (b ∷ bs) = opens_of_kind b

pub opens_closed : (k : ℕ) → k ≢ 1 → k ≢ 2 → k ≢ 3 → opens_kind k ≡ false
unfolding opens_kind
opens_closed zero n m l = refl
opens_closed (suc k) n m l = rw (le-leb 1 (suc k) (omega arith), lt-leb (suc k) 3 (omega arith))

-- ---- commas and argument strings

pub comma_read : (bs : Bytes) {rest : Bytes} → symbol 44 bs ≡ done tt rest → comma_or_close bs ≡ done true rest
unfolding comma_or_close and_then
comma_read bs e = rw (symbol_starts 44 bs e, comma_or_close, e) refl

pub close_read : (bs : Bytes) {r : Refusal} {before rest : Bytes} → symbol 44 bs ≡ stop r before → symbol 41 bs ≡ done tt rest → comma_or_close bs ≡ done false rest
unfolding comma_or_close and_then
close_read bs e f = rw (symbol_starts_not 44 bs e, comma_or_close, f) refl

pub neither_read : (bs : Bytes) {r q : Refusal} {before rest : Bytes} → symbol 44 bs ≡ stop r before → symbol 41 bs ≡ stop q rest → comma_or_close bs ≡ stop q rest
unfolding comma_or_close and_then
neither_read bs e f = rw (symbol_starts_not 44 bs e, comma_or_close, f) refl

pub no_arguments : (deeper : Read Src) (bs : Bytes) {r : Refusal} {rest : Bytes} → symbol 40 bs ≡ stop r rest → arguments_if_any deeper bs ≡ done nil bs
unfolding arguments_if_any
no_arguments deeper bs e = rw (symbol_starts_not 40 bs e, arguments_if_any)

pub some_arguments : (deeper : Read Src) (bs : Bytes) {rest : Bytes} → symbol 40 bs ≡ done tt rest → arguments_if_any deeper bs ≡ arguments deeper (length bs) rest
unfolding arguments_if_any and_then
some_arguments deeper bs e = rw (symbol_starts 40 bs e, arguments_if_any, e) refl

-- ---- the choice of an expression

module _ (d : ℕ) (bs : Bytes) where
  pub choose_application : first_kind (spaces bs) ≡ 2 → an_expression aut68 (suc d) inner bs ≡ application (an_expression aut68 d inner) bs
  unfolding an_expression kind_of place_or0 name_byte
  choose_application e = rw (starts_kind 60 (spaces bs) (omega arith) ∙ eq-eqb (first_kind (spaces bs)) 2 e, an_expression)

  pub choose_abstraction : first_kind (spaces bs) ≡ 3 → an_expression aut68 (suc d) inner bs ≡ abstraction aut68 (an_expression aut68 d inner) (an_expression aut68 d inner) bs
  unfolding an_expression below kind_of place_or0 name_byte
  choose_abstraction e =
      rw (
        starts_kind 60 (spaces bs) (omega arith) ∙ ne_eqb (first_kind (spaces bs)) 2 (λ q. omega arith),
        starts_kind 91 (spaces bs) (omega arith) ∙ eq-eqb (first_kind (spaces bs)) 3 e,
        an_expression,
      )

  pub choose_named : first_kind (spaces bs) ≢ 2 → first_kind (spaces bs) ≢ 3 → an_expression aut68 (suc d) inner bs ≡ named aut68 (an_expression aut68 d inner) bs
  unfolding an_expression word_at kind_of place_or0 name_byte
  choose_named n m =
      rw (
        starts_kind 60 (spaces bs) (omega arith) ∙ ne_eqb (first_kind (spaces bs)) 2 n,
        starts_kind 91 (spaces bs) (omega arith) ∙ ne_eqb (first_kind (spaces bs)) 3 m,
        an_expression,
      )

pub too_deep_lem : (bs : Bytes) → opens_kind (first_kind (spaces bs)) ≡ true → an_expression aut68 0 inner bs ≡ stop too_large bs
unfolding an_expression
too_deep_lem bs e = rw (starts_opens (spaces bs) ∙ e, an_expression)

pub opens_nothing : (bs : Bytes) → opens_kind (first_kind (spaces bs)) ≡ false → an_expression aut68 0 inner bs ≡ stop malformed bs
unfolding an_expression
opens_nothing bs e = rw (starts_opens (spaces bs) ∙ e, an_expression)
