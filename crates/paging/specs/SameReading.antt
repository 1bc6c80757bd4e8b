-- A line with other spaces, or none, is read as the same line, ordinary or paragraph line.
use Rattle.std.specs.Prelude.{◌≡◌, refl, ◌≢◌, ℕ, zero, suc, false, [], ◌∷◌, ◌++◌, eqb, replicate}
use Rattle.std.proofs.Common.{ap, sym, ◌∙◌, subst, append-nil}
use Rattle.std.proofs.lemmas.Bool.{false≢true, eqb-false}
use Rattle.std.proofs.Math.Option.{Option}
use Rattle.aut68.specs.Language.{Language}
use Rattle.aut68.specs.Bytes.{Bytes, name_byte, word_type, word_prop, word_pn, word_eb}
use Rattle.aut68.specs.Source.{Used, Src, Srcs, Middle, SourceLine}
use Rattle.aut68.specs.Procedure.Parse.{word_of}
use Rattle.aut68.specs.Rules.Grammar.{Spaces, no_space, space, Symbol, NameBytes, no_byte, one_more, IsName, UsedForm, a_plain, a_pointed, Expression, lone, call, Arguments, last, another}
use Rattle.aut68.specs.Rules.Grammar.{IndicatorForm, MiddleForm, is_eb, is_pn, is_meaning, Position, WellFormed, line, SignLine, sign_line, IsSign, plus, minus}
use Rattle.aut68.specs.Rules.Grammar as G
use Rattle.aut68.specs.Pages.{without, text_of}
use Rattle.aut68.specs.Printing.{SameReading}
use Rattle.reading.specs.Symbols.{run_name}
use Rattle.paging.specs.Without.{without_same, without_other, text_space, text_byte_lem}

-- ---- symbols

-- neither byte 32 nor byte 10
data Graphic : Bytes → Type 0 where
  empty : Graphic []
  more : {b : ℕ} {w : Bytes} → b ≢ 32 → b ≢ 10 → Graphic w → Graphic (b ∷ w)

graphic : (b : ℕ) {w : Bytes} → eqb b 32 ≡ false → eqb b 10 ≡ false → Graphic w → Graphic (b ∷ w)
graphic b e f w = more (eqb-false b 32 e) (eqb-false b 10 f) w

one : (b : ℕ) → eqb b 32 ≡ false → eqb b 10 ≡ false → Graphic (b ∷ [])
one b e f = graphic b e f empty

name_graphic : {w : Bytes} → NameBytes w → Graphic w
unfolding name_byte
name_graphic no_byte = empty
name_graphic (one_more h n) = more (λ e. false≢true (sym (ap name_byte e) ∙ h)) (λ e. false≢true (sym (ap name_byte e) ∙ h)) (name_graphic n)

type_graphic : Graphic word_type
unfolding word_type word_of name_byte
type_graphic = name_graphic (run_name word_type)

prop_graphic : Graphic word_prop
unfolding word_prop word_of name_byte
prop_graphic = name_graphic (run_name word_prop)

eb_graphic : Graphic word_eb
unfolding word_eb word_of name_byte
eb_graphic = name_graphic (run_name word_eb)

pn_graphic : Graphic word_pn
unfolding word_pn word_of name_byte
pn_graphic = name_graphic (run_name word_pn)

sign_graphic : {sign : ℕ} → IsSign sign → Graphic (sign ∷ [])
sign_graphic plus = one 43 refl refl
sign_graphic minus = one 45 refl refl

-- ---- a change of spaces

-- What changes spaces only, ahead of the end: it drops byte 32 and keeps what is neither 32 nor 10.
record Respaces (f : Bytes → Bytes) : Type 0 where
  drops : (a : Bytes) → f (32 ∷ a) ≡ f a
  keeps : {b : ℕ} (a : Bytes) → b ≢ 32 → b ≢ 10 → f (b ∷ a) ≡ b ∷ f a

module _ {f : Bytes → Bytes} (r : Respaces f) where
  symbol_same : {w : Bytes} → Graphic w → (b : Bytes) → f (w ++ b) ≡ w ++ f b
  symbol_same empty b = refl
  symbol_same (more {b = c} {w = w} h k g) b = r.keeps (w ++ b) h k ∙ ap (◌∷◌ c) (symbol_same g b)

  spaces_same : {a b : Bytes} → Spaces a b → f a ≡ f b
  spaces_same no_space = refl
  spaces_same (space {a} s) = r.drops a ∙ spaces_same s

  symbol_kept : {w a b : Bytes} → Graphic w → Symbol w a b → f a ≡ w ++ f b
  symbol_kept g (G.symbol s) = spaces_same s ∙ symbol_same g _

-- with spaces at most ahead of the end
module _ (language : Language) {f : Bytes → Bytes} (r : Respaces f) (ends : Spaces (f (10 ∷ [])) (10 ∷ [])) where
  symbol_respaced : {w a b : Bytes} → Graphic w → Symbol w a b → Symbol w (f a) (f b)
  symbol_respaced {w} {a} {b} g s = G.symbol (subst (λ (x : Bytes). Spaces x (w ++ f b)) (sym (symbol_kept r g s)) no_space)

  name_respaced : {w a b : Bytes} → IsName language w → Symbol w a b → Symbol w (f a) (f b)
  name_respaced n s = symbol_respaced (name_graphic n.bytes) s

  used_respaced : {u : Used} {a b : Bytes} → UsedForm language u a b → UsedForm language u (f a) (f b)
  used_respaced (a_plain n s) = a_plain n (name_respaced n s)
  used_respaced (a_pointed n s t m u) = a_pointed n (name_respaced n s) (symbol_respaced (one 46 refl refl) t) m (name_respaced m u)

  mutual
    expression_respaced : {place : Position} {x : Src} {a b : Bytes} → Expression language place x a b → Expression language place x (f a) (f b)
    expression_respaced (lone n) = lone (used_respaced n)
    expression_respaced (call n t xs) = call (used_respaced n) (symbol_respaced (one 40 refl refl) t) (arguments_respaced xs)
    expression_respaced (G.application s e t g) =
        G.application (symbol_respaced (one 60 refl refl) s) (expression_respaced e) (symbol_respaced (one 62 refl refl) t) (expression_respaced g)
    expression_respaced (G.abstraction s n t u e v g) =
        G.abstraction (symbol_respaced (one 91 refl refl) s) n (name_respaced n t) (symbol_respaced (one 44 refl refl) u) (expression_respaced e)
        (symbol_respaced (one 93 refl refl) v) (expression_respaced g)
    expression_respaced (G.is_type s) = G.is_type (symbol_respaced type_graphic s)
    expression_respaced (G.is_prop x s) = G.is_prop x (symbol_respaced prop_graphic s)

    arguments_respaced : {xs : Srcs} {a b : Bytes} → Arguments language xs a b → Arguments language xs (f a) (f b)
    arguments_respaced (last e s) = last (expression_respaced e) (symbol_respaced (one 41 refl refl) s)
    arguments_respaced (another e s xs) = another (expression_respaced e) (symbol_respaced (one 44 refl refl) s) (arguments_respaced xs)

  indicator_respaced : {o : Option Used} {a b : Bytes} → IndicatorForm language o a b → IndicatorForm language o (f a) (f b)
  indicator_respaced G.empty = G.empty
  indicator_respaced (G.indicator n) = G.indicator (used_respaced n)

  middle_respaced : {m : Middle} {a b : Bytes} → MiddleForm language m a b → MiddleForm language m (f a) (f b)
  middle_respaced (is_eb s) = is_eb (symbol_respaced eb_graphic s)
  middle_respaced (is_pn s) = is_pn (symbol_respaced pn_graphic s)
  middle_respaced (is_meaning e) = is_meaning (expression_respaced e)

  end_respaced : {a : Bytes} → Symbol (10 ∷ []) a [] → Symbol (10 ∷ []) (f a) []
  end_respaced (G.symbol s) = G.symbol (subst (λ (x : Bytes). Spaces x (10 ∷ [])) (sym (spaces_same r s)) ends)

  -- a well-formed line stays the same line
  line_respaced : {s : SourceLine} {bytes : Bytes} → WellFormed language s bytes → WellFormed language s (f bytes)
  line_respaced (line i t n u v x y z w) =
      line (indicator_respaced i) (symbol_respaced (one 42 refl refl) t) n (name_respaced n u) (symbol_respaced (graphic 58 refl refl (one 61 refl refl)) v)
      (middle_respaced x) (symbol_respaced (one 58 refl refl) y) (expression_respaced z) (end_respaced w)

  sign_respaced : {sign : ℕ} {p bytes : Bytes} → IsSign sign → SignLine language sign p bytes → SignLine language sign p (f bytes)
  sign_respaced i (sign_line s n t w) = sign_line (symbol_respaced (sign_graphic i) s) n (name_respaced n t) (end_respaced w)

-- ---- without spaces, and with some ahead of the end

spaces_dropped : Respaces (without 32)
spaces_dropped = record { drops = without_same 32; keeps = λ a h k. without_other 32 a h }

-- without spaces
pub same_reading : SameReading
unfolding SameReading without
same_reading language bytes = (λ source w. line_respaced language spaces_dropped no_space w, λ sign p i f. sign_respaced language spaces_dropped no_space i f)

-- the text of a line, n spaces and byte 10
unfoldable pub padded : ℕ → Bytes → Bytes
padded n bytes = text_of bytes ++ (replicate n 32 ++ (10 ∷ []))

text_padded : (n : ℕ) → Respaces (padded n)
unfolding padded
text_padded n =
    record { drops = λ a. ap end (text_space a); keeps = λ a h k. ap end (text_byte_lem a h k) }
  where
    end : Bytes → Bytes
    end t = t ++ (replicate n 32 ++ (10 ∷ []))

padded_ends : (n : ℕ) → Spaces (padded n (10 ∷ [])) (10 ∷ [])
unfolding padded text_of without
padded_ends n = spaces n
  where
    spaces : (n : ℕ) → Spaces (replicate n 32 ++ (10 ∷ [])) (10 ∷ [])
    spaces zero = no_space
    spaces (suc n) = space (spaces n)

-- with n spaces ahead of its end, and no others
pub padded_reading : (language : Language) (source : SourceLine) (bytes : Bytes) (n : ℕ) → WellFormed language source bytes → WellFormed language source (padded n bytes)
padded_reading language source bytes n w = line_respaced language (text_padded n) (padded_ends n) w

pub padded_sign : (language : Language) (n : ℕ) {sign : ℕ} {p bytes : Bytes} → IsSign sign → SignLine language sign p bytes → SignLine language sign p (padded n bytes)
padded_sign language n i f = sign_respaced language (text_padded n) (padded_ends n) i f

-- ---- the text of a paragraph line

pub sign_text : (language : Language) {sign : ℕ} {p bytes : Bytes} → IsSign sign → SignLine language sign p bytes → text_of bytes ≡ sign ∷ p
unfolding text_of without
sign_text language {sign} {p} i (sign_line s n t w) =
    symbol_kept kept (sign_graphic i) s ∙ ap (◌∷◌ sign) (symbol_kept kept (name_graphic n.bytes) t ∙ (ap (λ (x : Bytes). p ++ x) (at_end_lem w) ∙ append-nil p))
  where
    kept : Respaces text_of
    kept = record { drops = text_space; keeps = λ a h k. text_byte_lem a h k }

    at_end_lem : {a : Bytes} → Symbol (10 ∷ []) a [] → text_of a ≡ []
    at_end_lem (G.symbol s) = spaces_same kept s
