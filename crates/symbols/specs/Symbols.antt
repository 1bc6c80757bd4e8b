-- Symbols and words of a line s. A place is an index; what is left to read at it is `drop at s`.
use Rattle.std.specs.Prelude.{◌≡◌, ◌≢◌, true, false, [], ◌∷◌, ℕ, ◌+◌, ◌*◌, ◌≤◌, ◌<◌, eqb, length, get_or, drop, Option, Some, None, Result, Ok, Err, IfSome}
use Rattle.std.proofs.Math.Seq.{slice}
use Rattle.aut68.specs.Language.{aut68}
use Rattle.aut68.specs.Bytes.{Bytes}
use Rattle.aut68.specs.Source.{Used, plain, inside}
use Rattle.aut68.specs.Procedure.Answer.{done, stop, malformed}
use Rattle.aut68.specs.Procedure.Parse.{spaces, symbol, word_of, after_word, a_name, a_used}
use Rattle.kinds.specs.Kinds.{KindsTable, kind_of}
use Rattle.symbols.specs.declared.Name.{Name}
use Rattle.symbols.specs.declared.UsedName.{UsedName}

-- the kind of the first byte; 0 where there is none
unfoldable pub first_kind : Bytes → ℕ
first_kind [] = 0
first_kind (b ∷ bs) = kind_of b

-- r is the place of the first byte from `at` on that is no space, the line's end where there is none
pub record PastSpaces (s : Bytes) (at r : ℕ) : Type 0 where
  pub from : at ≤ r
  pub within : at ≤ length s → r ≤ length s
  pub rest : drop r s ≡ spaces (drop at s)

-- k is the kind of the byte at `at`; 0 behind the end
pub record KindAt (ks s : Bytes) (at k : ℕ) : Type 0 where
  pub inside : k ≢ 0 → at < length s
  pub kind : KindsTable ks → k ≡ first_kind (drop at s)

-- r is the place behind the symbol of kind k that stands next, or past the line's end where another stands
pub record PastSymbol (ks s : Bytes) (at k r : ℕ) : Type 0 where
  pub from : at ≤ length s → at < r
  pub within : at ≤ length s → r ≤ length s + 1
  pub read : KindsTable ks → (c : ℕ) → kind_of c ≡ k → 2 ≤ k → r ≤ length s → symbol c (drop at s) ≡ done tt (drop r s)
  pub missing : KindsTable ks → (c : ℕ) → kind_of c ≡ k → 2 ≤ k → length s < r → symbol c (drop at s) ≡ stop malformed (spaces (drop at s))

-- the place behind a symbol; past the line's end where another stands
abbrev pub past_in : Bytes → Option ℕ → ℕ
past_in s (Some r) = r
past_in s None = length s + 1

-- r is the end of the longest run of name bytes from `at` on
pub record WordEnd (ks s : Bytes) (at r : ℕ) : Type 0 where
  pub from : at ≤ r
  pub within : at ≤ length s → r ≤ length s
  pub word : KindsTable ks → at ≤ length s → slice at r s ≡ word_of (drop at s)
  pub rest : KindsTable ks → drop r s ≡ after_word (drop at s)

-- the four bytes of s from i on, as a number; 0 for those behind its end
unfoldable pub four_at : Bytes → ℕ → ℕ
four_at s i = get_or s i 0 + 256 * get_or s (i + 1) 0 + 65536 * get_or s (i + 2) 0 + 16777216 * get_or s (i + 3) 0

-- the name that stands next: its place and its length, 0 where none does
pub record NameAt (ks s : Bytes) (at start len : ℕ) : Type 0 where
  pub from : at ≤ start
  pub ahead : at ≤ length s → drop start s ≡ spaces (drop at s)
  pub within : at ≤ length s → start + len ≤ length s
  pub outside : length s < at → len ≡ 0
  pub read : KindsTable ks → at ≤ length s → len ≢ 0 → a_name aut68 (drop at s) ≡ done (slice start (start + len) s) (drop (start + len) s)
  pub missing : KindsTable ks → at ≤ length s → len ≡ 0 → a_name aut68 (drop at s) ≡ stop malformed (drop at s)

-- the name that stands next, or the place where none does
abbrev pub NameFound : Bytes → Bytes → ℕ → Result Name ℕ → Type 0
NameFound ks s at (Ok n) = (n.len ≢ 0) × NameAt ks s at n.start n.len
NameFound ks s at (Err start) = NameAt ks s at start 0

-- a name where it is used: the len bytes from `start` on, and ahead of the point the size bytes from `title` on, if size is not 0
unfoldable pub used_in : Bytes → ℕ → ℕ → ℕ → ℕ → Used
used_in s title size start len =
    elim (eqb size 0) [ true ↦ plain (slice start (start + len) s) | false ↦ inside (slice title (title + size) s) (slice start (start + len) s) ]

-- a name where it is used, by its bytes and those of the paragraph's name ahead of the point, none if there is no point
unfoldable pub used_by : Bytes → Bytes → Used
used_by [] word = plain word
used_by (c ∷ cs) word = inside (c ∷ cs) word

-- the name that stands next where it is used: len 0 where none does
pub record UsedAt (ks s : Bytes) (at title size start len : ℕ) : Type 0 where
  pub from : at ≤ start
  pub titled : at ≤ length s → title + size ≤ length s
  pub within : at ≤ length s → start + len ≤ length s
  pub read : KindsTable ks → at ≤ length s → len ≢ 0 → a_used aut68 (drop at s) ≡ done (used_in s title size start len) (drop (start + len) s)
  pub missing : KindsTable ks → at ≤ length s → len ≡ 0 → (rest : Bytes) × (a_used aut68 (drop at s) ≡ stop malformed rest)

-- the paragraph's name ahead of the point: its place and its length, 0 if there is no point
abbrev pub title_in : Option Name → ℕ
title_in (Some p) = p.start
title_in None = 0

abbrev pub size_in : Option Name → ℕ
size_in (Some p) = p.len
size_in None = 0

-- the name that stands next where it is used, if one does; a paragraph's name is not empty
abbrev pub UsedFound : Bytes → Bytes → ℕ → Option UsedName → Type 0
UsedFound ks s at (Some u) = (u.name.len ≢ 0) × IfSome u.paragraph (λ p. p.len ≢ 0) × UsedAt ks s at (title_in u.paragraph) (size_in u.paragraph) u.name.start u.name.len
UsedFound ks s at None = UsedAt ks s at 0 0 at 0
