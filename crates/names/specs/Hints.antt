-- Hints of name lookup. The first cells of the working store are slots: each has the number of the last line whose identifier and
-- paragraph belong there, and that line's row links to the one before it (cells/Links). A line is checked before it is believed; that
-- no line of a paragraph has a name is read off the end of a chain, by `Hinted`.
use Rattle.std.specs.Prelude.{Bool, true, false, ◌&&◌, List, ℕ, zero, suc, ◌+◌, ◌-◌, ◌*◌, ◌/◌, ◌%◌, eqb, leb, length, get_or}
use Rattle.aut68.specs.Lines.{part_of, row_cell}
use Rattle.aut68.specs.Bytes.{Bytes, same_bytes}
use Rattle.aut68.specs.Sizes.{at_name_start, at_name_length, at_paragraph}
use Rattle.symbols.specs.Symbols.{four_at}
use Rattle.cells.specs.Links.{link_factor, link_of}
use Rattle.names.specs.Chains.{Chains}

-- ---- the slot of a word

-- the first 4 × k bytes of s, mixed
unfoldable pub mixed : Bytes → ℕ → ℕ
mixed s zero = 0
mixed s (suc k) = (mixed s k + four_at s (4 * k)) * 2146121005 % 4294967296

-- with the last four bytes
unfoldable pub hash_of : Bytes → ℕ
hash_of s = (mixed s ((length s - 1) / 4) + four_at s (length s - 4)) * 2146121005 % 4294967296

-- the key of a word with the hash h, in the paragraph q
abbrev pub key_at : ℕ → ℕ → ℕ
key_at h q = (h + 2654435761 * q) % 4294967296

-- a store of n cells has its slots in its first half, and at most so many of them (no limit comes near)
abbrev pub most_slots : ℕ
most_slots = 131072

unfoldable pub slots : ℕ → ℕ
slots n = elim (leb (n / 2) most_slots) [ true ↦ n / 2 | false ↦ most_slots ]

-- the slot of such a word
unfoldable pub slot_at : ℕ → ℕ → ℕ → ℕ
slot_at n h q = key_at h q * slots n / 4294967296

abbrev pub slot_of : ℕ → Bytes → ℕ → ℕ
slot_of n word q = slot_at n (hash_of word) q

-- ---- what the hints say

-- the identifier that the row of line v points to, linked or not
unfoldable pub name_at : Bytes → List ℕ → ℕ → Bytes
name_at book tb v = part_of book (row_cell tb v at_name_start) (row_cell tb v at_name_length % link_factor)

-- the slot of line v
abbrev pub line_slot : Bytes → List ℕ → ℕ → ℕ → ℕ
line_slot book tb n v = slot_of n (name_at book tb v) (row_cell tb v at_paragraph)

-- the first `lines` lines are hinted
pub record Hinted (book tb : List ℕ) (lines : ℕ) (w : List ℕ) : Type 0 where
  pub chains : Chains (line_slot book tb (length w)) (link_of tb) (λ (i : ℕ). get_or w i 0) (slots (length w)) lines

-- the row of line v has the word as its identifier, and the paragraph q
unfoldable pub line_is : Bytes → List ℕ → Bytes → ℕ → ℕ → Bool
line_is book tb word q v = same_bytes word (name_at book tb v) && eqb q (row_cell tb v at_paragraph)
