-- The symbol that stands next, and what is read behind it.
use mathlib.Core.Path.{◌≡◌, refl, sym, ap, ◌∙◌}
use mathlib.Core.Bool.{Bool, true, false}
use mathlib.Core.List.{[], ◌∷◌}
use Prim.Native.Nat.{ℕ, ◌≤◌}
use native.Mathlib.Omega.{arith}
use lib.Dec.{eqb}
use borrow.Author.Tests.{eqb-true, eqb-false, eq-eqb, ne_eqb}
use Rattle.aut68.specs.Bytes.{Bytes}
use Rattle.aut68.specs.Procedure.Answer.{Answer, done, stop, and_then, Refusal, malformed}
use Rattle.aut68.specs.Procedure.Parse.{Read, spaces, byte, symbol, starts}
use Rattle.kinds.specs.Kinds.{kind_of, test_of_kind}
use Rattle.symbols.specs.Symbols.{first_kind}

-- ---- one thing after the other

pub after_stop : {A B : Type 0} (f : A → Read B) {m : Answer Bytes A} {r : Refusal} {rest : Bytes} → m ≡ stop r rest → and_then f m ≡ stop r rest
unfolding and_then
after_stop f e = ap (and_then f) e

pub after_done : {A B : Type 0} (f : A → Read B) {m : Answer Bytes A} {a : A} {rest : Bytes} → m ≡ done a rest → and_then f m ≡ f a rest
unfolding and_then
after_done f e = ap (and_then f) e

-- ---- the first byte

eqb_turned : (a b : ℕ) → eqb a b ≡ eqb b a
eqb_turned a b = split (eqb b a) refl
  where
    split : (t : Bool) → eqb b a ≡ t → eqb a b ≡ t
    split true e = eq-eqb a b (sym (eqb-true b a e))
    split false e = ne_eqb a b (λ q. eqb-false b a e (sym q))

-- a line starts with a symbol where its first kind is the symbol's
pub starts_kind : (c : ℕ) (bs : Bytes) → 2 ≤ kind_of c → starts (eqb c) bs ≡ eqb (first_kind bs) (kind_of c)
unfolding starts first_kind
starts_kind c [] l = sym (ne_eqb 0 (kind_of c) (λ e. omega arith))
starts_kind c (b ∷ bs) l = eqb_turned c b ∙ sym (test_of_kind b c l)

byte_split : (c b : ℕ) (bs : Bytes) (t : Bool) → eqb b c ≡ t → byte c (b ∷ bs) ≡ elim t as (λ _. Answer Bytes (Unit {0})) [ true ↦ done tt bs | false ↦ stop malformed (b ∷ bs) ]
unfolding byte
byte_split c b bs true e = rw (e, byte)
byte_split c b bs false e = rw (e, byte)

-- no answer is both
stop_done : {A : Type 0} {m : Answer Bytes A} {r : Refusal} {a : A} {rest rest' : Bytes} → m ≡ stop r rest → m ≡ done a rest' → ⊥
stop_done e f = let z : ◌≡◌ {A = ℕ} 0 1 = cc in omega arith

byte_starts : (c : ℕ) (bs : Bytes) {rest : Bytes} → byte c bs ≡ done tt rest → starts (eqb c) bs ≡ true
unfolding byte starts
byte_starts c [] e = absurd (stop_done refl e)
byte_starts c (b ∷ bs) {rest} e = split (eqb b c) refl
  where
    split : (t : Bool) → eqb b c ≡ t → eqb c b ≡ true
    split true q = eqb_turned c b ∙ q
    split false q = absurd (stop_done (byte_split c b bs false q) e)

byte_starts_not : (c : ℕ) (bs : Bytes) {r : Refusal} {rest : Bytes} → byte c bs ≡ stop r rest → starts (eqb c) bs ≡ false
unfolding byte starts
byte_starts_not c [] e = refl
byte_starts_not c (b ∷ bs) e = split (eqb b c) refl
  where
    split : (t : Bool) → eqb b c ≡ t → eqb c b ≡ false
    split true q = absurd (stop_done e (byte_split c b bs true q))
    split false q = eqb_turned c b ∙ q

-- the symbol stands next, and it does not
pub symbol_starts : (c : ℕ) (bs : Bytes) {rest : Bytes} → symbol c bs ≡ done tt rest → starts (eqb c) (spaces bs) ≡ true
unfolding symbol
symbol_starts c bs e = byte_starts c (spaces bs) e

pub symbol_starts_not : (c : ℕ) (bs : Bytes) {r : Refusal} {rest : Bytes} → symbol c bs ≡ stop r rest → starts (eqb c) (spaces bs) ≡ false
unfolding symbol
symbol_starts_not c bs e = byte_starts_not c (spaces bs) e
