-- Document 01 of a line's bytes from the left: "3 at the first byte that no well-formed line could have there; but 10 if nesting
-- above 32, a lone name being 1, opens before it or in a line without such a byte".
use Rattle.std.specs.Prelude.{◌≡◌, ◌⊎◌, ℕ, suc, ◌<◌, ◌≤◌, [], ◌∷◌, ◌++◌, length}
use Rattle.aut68.specs.Language.{Language}
use Rattle.aut68.specs.Sizes.{nesting}
use Rattle.aut68.specs.Bytes.{Bytes}
use Rattle.aut68.specs.Source.{SourceLine}
use Rattle.aut68.specs.Depths.{line_depth}
use Rattle.aut68.specs.Rules.Grammar.{WellFormed, SignLine, IsSign}
use Rattle.aut68.specs.Rules.Openings.{OpensAt}

module _ (language : Language) where
  -- ---- ordinary lines

  -- The bytes are a well-formed line, nested at most 32 deep: this one, some line.
  abbrev pub ReadableAs : SourceLine → Bytes → Type 0
  ReadableAs s bytes = WellFormed language s bytes × (line_depth s ≤ nesting)

  abbrev pub Readable : Bytes → Type 0
  Readable bytes = (s : SourceLine) × ReadableAs s bytes

  -- Some well-formed line begins with these bytes.
  abbrev pub Viable : Bytes → Type 0
  Viable p = (rest : Bytes) × (s : SourceLine) × WellFormed language s (p ++ rest)

  -- No expression of depth above 32 begins among these bytes, in any well-formed line that begins with them.
  abbrev pub NoneOpens : Bytes → Type 0
  NoneOpens p = (rest : Bytes) (n k : ℕ) → nesting < n → k < length p → ¬ OpensAt language n k (p ++ rest)

  -- The first byte that no well-formed line has there, ahead of any nesting above 32.
  abbrev pub FirstFault : Bytes → Type 0
  FirstFault bytes = (p : Bytes) × (b : ℕ) × (q : Bytes) × (bytes ≡ p ++ (b ∷ q)) × Viable p × (¬ Viable (p ++ (b ∷ []))) × NoneOpens p

  -- No such byte and no nesting above 32, but the line is not ended.
  abbrev pub Unended : Bytes → Type 0
  Unended bytes = (¬ ((y : Bytes) × (bytes ≡ y ++ (10 ∷ [])))) × Viable bytes × NoneOpens bytes

  -- Nesting above 32 opens, ahead of any byte that no well-formed line has there: at this byte, in whatever well-formed line so begins.
  abbrev pub FirstTooDeep : Bytes → Type 0
  FirstTooDeep bytes =
      (p : Bytes)
      × (b : ℕ)
      × (q : Bytes)
      × (bytes ≡ p ++ (b ∷ q))
      × Viable (p ++ (b ∷ []))
      × ((rest : Bytes) (s : SourceLine) → WellFormed language s ((p ++ (b ∷ [])) ++ rest) → OpensAt language (suc nesting) (length p) ((p ++ (b ∷ [])) ++ rest))
      × NoneOpens p

  -- ---- lines of either kind

  -- Some paragraph line begins with these bytes.
  pub record SignViable (p : Bytes) : Type 0 where
    pub sign : ℕ
    pub is_sign : IsSign sign
    pub title : Bytes
    pub rest : Bytes
    pub form : SignLine language sign title (p ++ rest)

  -- Some well-formed line, ordinary or paragraph line, begins with them.
  abbrev pub PieceViable : Bytes → Type 0
  PieceViable p = Viable p ⊎ SignViable p

  -- The first byte that no well-formed line of either kind has there, ahead of any nesting above 32.
  pub record PieceFault (bytes : Bytes) : Type 0 where
    pub front : Bytes
    pub byte : ℕ
    pub back : Bytes
    pub split : bytes ≡ front ++ (byte ∷ back)
    pub could : PieceViable front
    pub could_not : ¬ PieceViable (front ++ (byte ∷ []))
    pub none_opens : NoneOpens front

  -- No such byte and no nesting above 32, but the line is not ended.
  pub record PieceUnended (bytes : Bytes) : Type 0 where
    pub no_end : ¬ ((y : Bytes) × (bytes ≡ y ++ (10 ∷ [])))
    pub could : PieceViable bytes
    pub none_opens : NoneOpens bytes
