-- Where expressions begin in a line, and how deep each one is.
use Rattle.std.specs.Prelude.{◌≡◌, ◌≢◌, ℕ, suc, [], ◌∷◌, ◌++◌, length}
use Rattle.aut68.specs.Language.{Language}
use Rattle.aut68.specs.Bytes.{Bytes}
use Rattle.aut68.specs.Source.{Used, Src, Srcs, name, app, abs, nil, cons, meaning, SourceLine}
use Rattle.aut68.specs.Rules.Grammar.{Position, inner, ending, below, Spaces, Symbol, IsName, UsedForm, Expression, Arguments, IndicatorForm, MiddleForm}

-- What is written from a on begins at t, behind its spaces.
pub data Begins (a : Bytes) : Bytes → Type 0 where
  begins : {c : ℕ} {r : Bytes} → Spaces a (c ∷ r) → c ≢ 32 → Begins a (c ∷ r)

-- In the expression x of depth d, written at a place from a up to b, an expression of depth n begins at t.
-- Each argument, domain, body, A and B is one deeper than its expression; so is a sort that is a body.
module _ (language : Language) (n : ℕ) where
  mutual
    pub data Opens : ℕ → Position → Src → Bytes → Bytes → Bytes → Type 0 where
      itself : {d : ℕ} {place : Position} {x : Src} {a b t : Bytes} → d ≡ n → Expression language place x a b → Begins a t → Opens d place x a b t
      in_arguments : {d : ℕ} {place : Position} {u : Used} {a b c e t : Bytes} {xs : Srcs} → UsedForm language u a b → Symbol (40 ∷ []) b c → OpensIn (suc d) xs c e t → Opens d place (name u xs) a e t
      in_a : {d : ℕ} {place : Position} {a b c e f t : Bytes} {x y : Src}
          → Symbol (60 ∷ []) a b → Opens (suc d) inner x b c t → Symbol (62 ∷ []) c e → Expression language inner y e f → Opens d place (app x y) a f t
      in_b : {d : ℕ} {place : Position} {a b c e f t : Bytes} {x y : Src}
          → Symbol (60 ∷ []) a b → Expression language inner x b c → Symbol (62 ∷ []) c e → Opens (suc d) inner y e f t → Opens d place (app x y) a f t
      in_domain : {d : ℕ} {place : Position} {w a b c e f g h t : Bytes} {x y : Src} → Symbol (91 ∷ []) a b → IsName language w → Symbol w b c → Symbol (44 ∷ []) c e
          → Opens (suc d) inner x e f t → Symbol (93 ∷ []) f g → Expression language (below language place) y g h → Opens d place (abs w x y) a h t
      in_body : {d : ℕ} {place : Position} {w a b c e f g h t : Bytes} {x y : Src} → Symbol (91 ∷ []) a b → IsName language w → Symbol w b c → Symbol (44 ∷ []) c e
          → Expression language inner x e f → Symbol (93 ∷ []) f g → Opens (suc d) (below language place) y g h t → Opens d place (abs w x y) a h t

    -- the same for arguments of depth d
    pub data OpensIn : ℕ → Srcs → Bytes → Bytes → Bytes → Type 0 where
      in_last : {d : ℕ} {a b c t : Bytes} {x : Src} → Opens d inner x a b t → Symbol (41 ∷ []) b c → OpensIn d (cons x nil) a c t
      in_first : {d : ℕ} {a b c e t : Bytes} {x : Src} {xs : Srcs} → Opens d inner x a b t → Symbol (44 ∷ []) b c → Arguments language xs c e → OpensIn d (cons x xs) a e t
      in_later : {d : ℕ} {a b c e t : Bytes} {x : Src} {xs : Srcs} → Expression language inner x a b → Symbol (44 ∷ []) b c → OpensIn d xs c e t → OpensIn d (cons x xs) a e t

  -- In the line s, written as a, an expression of depth n begins at t; the middle and the category have depth 1.
  pub data LineOpens (s : SourceLine) : Bytes → Bytes → Type 0 where
    in_middle : {a b c d e f g h t : Bytes} {x : Src} → IndicatorForm language s.indicator a b → Symbol (42 ∷ []) b c → IsName language s.identifier → Symbol s.identifier c d
        → Symbol (58 ∷ 61 ∷ []) d e → s.middle ≡ meaning x → Opens 1 inner x e f t → Symbol (58 ∷ []) f g → Expression language ending s.category g h → Symbol (10 ∷ []) h [] → LineOpens s a t
    in_category : {a b c d e f g h t : Bytes} → IndicatorForm language s.indicator a b → Symbol (42 ∷ []) b c → IsName language s.identifier → Symbol s.identifier c d
        → Symbol (58 ∷ 61 ∷ []) d e → MiddleForm language s.middle e f → Symbol (58 ∷ []) f g → Opens 1 ending s.category g h t → Symbol (10 ∷ []) h [] → LineOpens s a t

  -- In the bytes of a well-formed line an expression of depth n begins at the offset k.
  pub data OpensAt (k : ℕ) (bytes : Bytes) : Type 0 where
    opens_at : {s : SourceLine} (u : Bytes) {t : Bytes} → bytes ≡ u ++ t → length u ≡ k → LineOpens s bytes t → OpensAt k bytes
