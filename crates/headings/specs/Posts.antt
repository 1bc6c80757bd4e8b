-- What the functions on headings and on the ends of lines leave.
use Rattle.std.specs.Prelude.{◌≡◌, ◌≢◌, ◌∷◌, ℕ, ◌+◌, ◌-◌, ◌≤◌, ◌<◌, eqb, length, drop, take, Option, Some, None}
use Rattle.std.proofs.Math.Seq.{slice}
use Rattle.aut68.specs.Language.{aut68}
use Rattle.aut68.specs.Bytes.{Bytes, lines}
use Rattle.aut68.specs.Procedure.Answer.{done, stop, malformed}
use Rattle.aut68.specs.Procedure.Parse.{a_line, an_indicator, a_sign_line, signed}
use Rattle.aut68.specs.Rules.Grammar.{IsSign}
use Rattle.kinds.specs.Kinds.{KindsTable, kind_of}
use Rattle.symbols.specs.declared.Name.{Name}
use Rattle.headings.specs.declared.before_middle.Prefix.{Prefix}
use Rattle.headings.specs.declared.before_middle.Head.{Head}
use Rattle.headings.specs.ReadLine.{after_heading, indicator_in, IndicatorInside}

-- the indicator was read, if there is one
pub record PrefixRead (ks s : Bytes) (p : Prefix) : Type 0 where
  pub inside : p.at ≤ length s
  pub indicated : IndicatorInside s p.indicator
  pub read : KindsTable ks → an_indicator aut68 s ≡ done (indicator_in s p.indicator) (drop p.at s)

abbrev pub PrefixFound : Bytes → Bytes → Option Prefix → Type 0
PrefixFound ks s (Some p) = PrefixRead ks s p
PrefixFound ks s None = KindsTable ks → (rest : Bytes) × (an_indicator aut68 s ≡ stop malformed rest)

-- `indicator*identifier:=` was read
pub record HeadRead (ks s : Bytes) (h : Head) : Type 0 where
  pub inside : h.at ≤ length s
  pub indicated : IndicatorInside s h.indicator
  pub named : h.identifier.start + h.identifier.len ≤ length s
  pub sized : h.identifier.len ≢ 0
  pub read : KindsTable ks
      → a_line aut68 (length s) s ≡ after_heading aut68 (indicator_in s h.indicator) h.identifier.start (slice h.identifier.start (h.identifier.start + h.identifier.len) s) (drop h.at s)

abbrev pub HeadFound : Bytes → Bytes → Option Head → Type 0
HeadFound ks s (Some h) = HeadRead ks s h
HeadFound ks s None = KindsTable ks → (rest : Bytes) × (a_line aut68 (length s) s ≡ stop malformed rest)

-- r is the kind of one of the two signs exactly if the line is a paragraph line with it
pub record SignOf (ks s : Bytes) (r : ℕ) : Type 0 where
  pub opens : KindsTable ks → signed 43 s ≡ eqb r 15
  pub closes : KindsTable ks → signed 45 s ≡ eqb r 16

-- the paragraph line with the sign of kind k was read; its name has length 0 where it is malformed
pub record SignRead (ks s : Bytes) (k start len : ℕ) : Type 0 where
  pub within : start + len ≤ length s
  pub read : KindsTable ks → (sign : ℕ) → IsSign sign → k ≡ kind_of sign → len ≢ 0
      → (rest : Bytes) × (a_sign_line aut68 sign s ≡ done (slice start (start + len) s) rest)
  pub missing : KindsTable ks → (sign : ℕ) → IsSign sign → k ≡ kind_of sign → len ≡ 0 → (rest : Bytes) × (a_sign_line aut68 sign s ≡ stop malformed rest)

-- the name of a paragraph line, if it is well formed
abbrev pub SignNamed : Bytes → Bytes → ℕ → Option Name → Type 0
SignNamed ks s k (Some n) = (n.len ≢ 0) × SignRead ks s k n.start n.len
SignNamed ks s k None = SignRead ks s k 0 0

-- r is the end of the first line of what is left of the book at `at`
pub record LineEnd (book : Bytes) (at r : ℕ) : Type 0 where
  pub from : at < length book → at < r
  pub within : at ≤ length book → r ≤ length book
  pub is : at < length book → lines (drop at book) ≡ take (r - at) (drop at book) ∷ lines (drop r book)
