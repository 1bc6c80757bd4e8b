-- Spaces dropped from a well-formed line, ordinary or paragraph line, never join two symbols.
use Rattle.std.specs.Prelude.{◌≡◌, ◌≢◌, ℕ, ◌≤◌, Bool, true, false, ◌&&◌, ◌||◌, List, [], ◌∷◌, ◌++◌, eqb, length}
use Rattle.std.proofs.Math.Path.{refl}
use Rattle.std.proofs.Common.{ap, ap₂, sym, ◌∙◌, arith, eqb-true, ne_eqb}
use Rattle.std.proofs.Math.Bool.{false≢true}
use Rattle.std.proofs.Math.Option.{Option}
use Rattle.std.proofs.lemmas.Bool.{eqb-false}
use Rattle.aut68.specs.Language.{Language}
use Rattle.aut68.specs.Bytes.{Bytes, name_byte, onto, word_type, word_prop, word_pn, word_eb}
use Rattle.aut68.specs.Source.{Used, Src, Srcs, Middle, SourceLine}
use Rattle.aut68.specs.Procedure.Parse.{starts, word_of}
use Rattle.aut68.specs.Rules.Grammar.{Spaces, no_space, space, Symbol, NameBytes, no_byte, one_more, IsName, UsedForm, a_plain, a_pointed, Expression, lone, call, Arguments, last, another}
use Rattle.aut68.specs.Rules.Grammar.{IndicatorForm, MiddleForm, is_eb, is_pn, is_meaning, Position, WellFormed, line, SignLine, sign_line, IsSign, plus, minus}
use Rattle.aut68.specs.Rules.Grammar as G
use Rattle.aut68.specs.Pages.{without}
use Rattle.aut68.specs.Symbols.{together, symbols_in}
use Rattle.aut68.specs.Printing.{NeverJoined}
use Rattle.reading.specs.Symbols.{run_name}
use Rattle.reading.specs.Complete.{Mark, mark_60, mark_62, mark_91, mark_93, mark_44, mark_40, mark_41, mark_42, mark_46, mark_58, mark_10, not_space_lem}
use Rattle.reading.specs.Signs.{sign_mark}
use Rattle.paging.specs.Without.{without_same, without_other}

-- ---- bytes

-- The symbols are the same without spaces.
record Apart (a : Bytes) : Type 0 where
  same : symbols_in (without 32 a) ≡ symbols_in a

-- what a byte adds to the symbols behind it
abbrev with_byte : ℕ → Bool → List Bytes → List Bytes
with_byte c t ss = elim t [ true ↦ onto c ss | false ↦ (c ∷ []) ∷ ss ]

symbols_byte : {c : ℕ} (a : Bytes) → c ≢ 32 → symbols_in (c ∷ a) ≡ with_byte c (together c a) (symbols_in a)
unfolding symbols_in
symbols_byte {c} a h = rw (ne_eqb c 32 h, symbols_in) refl

byte_apart : {c : ℕ} {a : Bytes} → c ≢ 32 → together c (without 32 a) ≡ together c a → Apart a → Apart (c ∷ a)
byte_apart {c} {a} h t p =
    record { same = ap symbols_in (without_other 32 a h) ∙ (symbols_byte (without 32 a) h ∙ (ap₂ (with_byte c) t p.same ∙ sym (symbols_byte a h))) }

-- in front of a byte that is no space
inside_apart : {c d : ℕ} {a : Bytes} → c ≢ 32 → d ≢ 32 → Apart (d ∷ a) → Apart (c ∷ d ∷ a)
unfolding together
inside_apart {c} {d} {a} h k p = byte_apart h (ap (together c) (without_other 32 a k)) p

-- If with spaces dropped the byte next to c is none of its symbol, it is none with them.
not_together : (c : ℕ) (a : Bytes) → together c (without 32 a) ≡ false → together c a ≡ false
unfolding together without name_byte
not_together c [] h = refl
not_together c (d ∷ a) h = go (eqb d 32) refl
  where
    none : (s t : Bool) → ((s && false) || (t && false)) ≡ false
    none true true = refl
    none true false = refl
    none false true = refl
    none false false = refl

    go : (t : Bool) → eqb d 32 ≡ t → together c (d ∷ a) ≡ false
    go true e = rw (eqb-true d 32 e) (none (name_byte c) (eqb c 58))
    go false e = sym (ap (together c) (without_other 32 a (eqb-false d 32 e))) ∙ h

-- in front of bytes of which, spaces dropped, the first is none of its symbol
last_apart : {c : ℕ} {a : Bytes} → c ≢ 32 → together c (without 32 a) ≡ false → Apart a → Apart (c ∷ a)
last_apart {c} {a} h t p = byte_apart h (t ∙ sym (not_together c a t)) p

spaces_apart : {a b : Bytes} → Spaces a b → Apart b → Apart a
unfolding symbols_in
spaces_apart no_space p = p
spaces_apart (space {a} s) p = record { same = ap symbols_in (without_same 32 a) ∙ (spaces_apart s p).same }

-- ---- what comes next

-- behind spaces, a byte comes next of which the test does not hold, or none
record NotNext (test : ℕ → Bool) (a : Bytes) : Type 0 where
  next : starts test (without 32 a) ≡ false

spaces_not_next : {test : ℕ → Bool} {a b : Bytes} → Spaces a b → NotNext test b → NotNext test a
spaces_not_next no_space n = n
spaces_not_next {test} (space {a} s) n = record { next = ap (starts test) (without_same 32 a) ∙ (spaces_not_next s n).next }

symbol_not_next : {test : ℕ → Bool} {c : ℕ} {s a b : Bytes} → c ≢ 32 → test c ≡ false → Symbol (c ∷ s) a b → NotNext test a
unfolding starts
symbol_not_next {test} {s = s} {b = b} h e (G.symbol t) = spaces_not_next t (record { next = ap (starts test) (without_other 32 (s ++ b) h) ∙ e })

-- no byte of a name
abbrev NoName : Bytes → Type 0
NoName = NotNext name_byte

-- not `=`
abbrev NoEquals : Bytes → Type 0
NoEquals = NotNext (λ b. eqb b 61)

-- ---- symbols

-- a byte that is none of a name, and not `:`
lone_byte : {c : ℕ} {a : Bytes} → Mark c → eqb c 58 ≡ false → Apart a → Apart (c ∷ a)
unfolding together
lone_byte {c} {a} m e p = last_apart m.not_space (go (without 32 a)) p
  where
    go : (x : Bytes) → together c x ≡ false
    go [] = refl
    go (d ∷ x) = rw (m.not_name, e, together) refl

-- `:` that does not begin `:=`
colon_byte : {a : Bytes} → NoEquals a → Apart a → Apart (58 ∷ a)
unfolding together starts name_byte
colon_byte {a} n p = last_apart mark_58.not_space (go (without 32 a) n.next) p
  where
    go : (x : Bytes) → starts (λ b. eqb b 61) x ≡ false → together 58 x ≡ false
    go [] h = refl
    go (d ∷ x) h = h

-- the last byte of a name or a word
name_byte_lem : {c : ℕ} {a : Bytes} → name_byte c ≡ true → NoName a → Apart a → Apart (c ∷ a)
unfolding together starts name_byte
name_byte_lem {c} {a} h n p = last_apart (not_space_lem h) (go (without 32 a) n.next) p
  where
    colon : eqb c 58 ≡ false
    colon = ne_eqb c 58 (λ e. false≢true (sym (ap name_byte e) ∙ h))

    go : (x : Bytes) → starts name_byte x ≡ false → together c x ≡ false
    go [] k = refl
    go (d ∷ x) k = rw (h, k, colon, together) refl

-- a symbol of one byte
mark_apart : {c : ℕ} {a b : Bytes} → Mark c → eqb c 58 ≡ false → Symbol (c ∷ []) a b → Apart b → Apart a
mark_apart m e (G.symbol s) p = spaces_apart s (lone_byte m e p)

-- a name or a word
word_apart : {w a b : Bytes} → NameBytes w → Symbol w a b → NoName b → Apart b → Apart a
word_apart {b = b} n (G.symbol s) f p = spaces_apart s (bytes n)
  where
    bytes : {w : Bytes} → NameBytes w → Apart (w ++ b)
    bytes no_byte = p
    bytes (one_more h no_byte) = name_byte_lem h f p
    bytes (one_more h (one_more k n)) = inside_apart (not_space_lem h) (not_space_lem k) (bytes (one_more k n))

-- `:=`
assign_apart : {a b : Bytes} → Symbol (58 ∷ 61 ∷ []) a b → Apart b → Apart a
unfolding name_byte
assign_apart (G.symbol s) p = spaces_apart s (inside_apart mark_58.not_space mark_61.not_space (lone_byte mark_61 refl p))
  where
    mark_61 : Mark 61
    mark_61 = record { not_space = λ e. omega arith; not_name = refl }

mark_no_name : {c : ℕ} {s a b : Bytes} → Mark c → Symbol (c ∷ s) a b → NoName a
mark_no_name m s = symbol_not_next m.not_space m.not_name s

-- ---- a line

module _ (language : Language) where
  name_apart : {w a b : Bytes} → IsName language w → Symbol w a b → NoName b → Apart b → Apart a
  name_apart n s f p = word_apart n.bytes s f p

  type_apart : {a b : Bytes} → Symbol word_type a b → NoName b → Apart b → Apart a
  unfolding word_type word_of name_byte
  type_apart s f p = word_apart (run_name word_type) s f p

  prop_apart : {a b : Bytes} → Symbol word_prop a b → NoName b → Apart b → Apart a
  unfolding word_prop word_of name_byte
  prop_apart s f p = word_apart (run_name word_prop) s f p

  used_apart : {u : Used} {a b : Bytes} → UsedForm language u a b → NoName b → Apart b → Apart a
  used_apart (a_plain n s) f p = name_apart n s f p
  used_apart (a_pointed n s t m r) f p = name_apart n s (mark_no_name mark_46 t) (mark_apart mark_46 refl t (name_apart m r f p))

  mutual
    expression_apart : {place : Position} {x : Src} {a b : Bytes} → Expression language place x a b → NoName b → Apart b → Apart a
    expression_apart (lone n) f p = used_apart n f p
    expression_apart (call n t r) f p = used_apart n (mark_no_name mark_40 t) (mark_apart mark_40 refl t (arguments_apart r p))
    expression_apart (G.application s e t g) f p =
        mark_apart mark_60 refl s (expression_apart e (mark_no_name mark_62 t) (mark_apart mark_62 refl t (expression_apart g f p)))
    expression_apart (G.abstraction s n t u e v g) f p =
        mark_apart mark_91 refl s (name_apart n t (mark_no_name mark_44 u) (mark_apart mark_44 refl u
        (expression_apart e (mark_no_name mark_93 v) (mark_apart mark_93 refl v (expression_apart g f p)))))
    expression_apart (G.is_type s) f p = type_apart s f p
    expression_apart (G.is_prop x s) f p = prop_apart s f p

    arguments_apart : {xs : Srcs} {a b : Bytes} → Arguments language xs a b → Apart b → Apart a
    arguments_apart (last e s) p = expression_apart e (mark_no_name mark_41 s) (mark_apart mark_41 refl s p)
    arguments_apart (another e s r) p = expression_apart e (mark_no_name mark_44 s) (mark_apart mark_44 refl s (arguments_apart r p))

  indicator_apart : {o : Option Used} {a b : Bytes} → IndicatorForm language o a b → NoName b → Apart b → Apart a
  indicator_apart G.empty f p = p
  indicator_apart (G.indicator n) f p = used_apart n f p

  middle_apart : {m : Middle} {a b : Bytes} → MiddleForm language m a b → NoName b → Apart b → Apart a
  unfolding word_eb word_pn word_of name_byte
  middle_apart (is_eb s) f p = word_apart (run_name word_eb) s f p
  middle_apart (is_pn s) f p = word_apart (run_name word_pn) s f p
  middle_apart (is_meaning e) f p = expression_apart e f p

  -- no expression begins with `=`
  word_no_equals : {w a b : Bytes} → NameBytes w → 1 ≤ length w → Symbol w a b → NoEquals a
  unfolding name_byte
  word_no_equals no_byte l s = absurd (omega arith)
  word_no_equals (one_more {b = c} h n) l s = symbol_not_next (not_space_lem h) (ne_eqb c 61 (λ e. false≢true (sym (ap name_byte e) ∙ h))) s

  used_no_equals : {u : Used} {a b : Bytes} → UsedForm language u a b → NoEquals a
  used_no_equals (a_plain n s) = word_no_equals n.bytes n.at_least s
  used_no_equals (a_pointed n s t m r) = word_no_equals n.bytes n.at_least s

  expression_no_equals : {place : Position} {x : Src} {a b : Bytes} → Expression language place x a b → NoEquals a
  unfolding word_type word_prop
  expression_no_equals (lone n) = used_no_equals n
  expression_no_equals (call n t r) = used_no_equals n
  expression_no_equals (G.application s e t g) = symbol_not_next mark_60.not_space refl s
  expression_no_equals (G.abstraction s n t u e v g) = symbol_not_next mark_91.not_space refl s
  expression_no_equals (G.is_type s) = symbol_not_next (λ e. omega arith) refl s
  expression_no_equals (G.is_prop x s) = symbol_not_next (λ e. omega arith) refl s

  end_apart : {a : Bytes} → Symbol (10 ∷ []) a [] → Apart a
  unfolding without
  end_apart w = mark_apart mark_10 refl w (record { same = refl })

  line_apart : {s : SourceLine} {bytes : Bytes} → WellFormed language s bytes → Apart bytes
  line_apart (line i t n u v x y z w) =
      indicator_apart i (mark_no_name mark_42 t) (mark_apart mark_42 refl t (name_apart n u (mark_no_name mark_58 v) (assign_apart v
      (middle_apart x (mark_no_name mark_58 y) (colon y (expression_no_equals z) (expression_apart z (mark_no_name mark_10 w) (end_apart w)))))))
    where
      colon : {a b : Bytes} → Symbol (58 ∷ []) a b → NoEquals b → Apart b → Apart a
      colon (G.symbol s) e p = spaces_apart s (colon_byte e p)

  sign_line_apart : {sign : ℕ} {p bytes : Bytes} → IsSign sign → SignLine language sign p bytes → Apart bytes
  sign_line_apart i (sign_line s n t w) = mark_apart (sign_mark i) (not_colon i) s (name_apart n t (mark_no_name mark_10 w) (end_apart w))
    where
      not_colon : {sign : ℕ} → IsSign sign → eqb sign 58 ≡ false
      not_colon plus = refl
      not_colon minus = refl

-- the symbols of a well-formed line are those that it has without spaces
pub never_joined : NeverJoined
unfolding NeverJoined
never_joined language bytes = (λ source w. (line_apart language w).same, λ sign p i f. (sign_line_apart language i f).same)
