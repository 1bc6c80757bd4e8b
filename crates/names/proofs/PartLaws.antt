-- A part of a list of bytes, and where the identifier of a line stands.
use mathlib.Core.Path.{◌≡◌, refl, sym, ap, ◌∙◌}
use mathlib.Core.Logic.{◌≢◌}
use mathlib.Core.Bool.{Bool, true, false}
use mathlib.Core.List.{List, []}
use Prim.Native.Nat.{ℕ, ◌+◌, ◌*◌, ◌-◌, ◌≤◌, ◌<◌}
use native.Mathlib.Omega.{arith}
use lib.Dec.{leb}
use lib.ListN.{length, take, drop}
use lib.Seq.{slice, slice_empty, length-slice}
use borrow.Author.Tests.{le-leb, lt-leb, leb-true, leb-false}
use Rattle.aut68.specs.Lines.{identifier_part, part_of, row_cell}
use Rattle.aut68.specs.Bytes.{Bytes, same_bytes}
use Rattle.aut68.specs.Sizes.{row_width, at_name_start, at_name_length}
use Rattle.symbols.proofs.SymbolLaws.{part}
use Rattle.symbols.proofs.SameLaws.{lengths_differ}
use Rattle.names.specs.Known.{identifier_start, IdentifierPlaced}

-- ---- parts

pub part_whole : (s : Bytes) (start len : ℕ) → start + len ≤ length s → part_of s start len ≡ slice start (start + len) s
unfolding part_of
part_whole s start len l = rw (le-leb (start + len) (length s) l, part_of)

pub part_outside : (s : Bytes) (start len : ℕ) → length s < start + len → part_of s start len ≡ []
unfolding part_of
part_outside s start len l = rw (lt-leb (start + len) (length s) l, part_of)

-- a part of another length than the word is another word
pub part_length_differs : (s word : Bytes) (start len : ℕ) → 1 ≤ length word → len ≢ length word → same_bytes word (part_of s start len) ≡ false
part_length_differs s word start len p n = split (leb (start + len) (length s)) refl
  where
    split : (t : Bool) → leb (start + len) (length s) ≡ t → same_bytes word (part_of s start len) ≡ false
    split true e =
        let h = leb-true (start + len) (length s) e in
        lengths_differ word (part_of s start len) (λ q.
        n (sym (q ∙ ap length (part_whole s start len h) ∙ length-slice start (start + len) s h ∙ omega arith)))
    split false e =
        lengths_differ word (part_of s start len) (λ q.
        let z = q ∙ ap length (part_outside s start len (leb-false (start + len) (length s) e)) in omega arith)

pub part_not_whole : (s word : Bytes) (start len : ℕ) → 1 ≤ length word → length s < start + len → same_bytes word (part_of s start len) ≡ false
part_not_whole s word start len p l =
    lengths_differ word (part_of s start len) (λ q. let z = q ∙ ap length (part_outside s start len l) in omega arith)

-- the part that is lent, `s[start..start + len]`
pub part_lent : (s : Bytes) (start len : ℕ) → start + len ≤ length s → take (start + len - start) (drop start s) ≡ part_of s start len
part_lent s start len l = part s start (start + len) (omega arith) ∙ sym (part_whole s start len l)

pub part_compared : (s word : Bytes) (start len : ℕ) → start + len ≤ length s
    → same_bytes word (take (start + len - start) (drop start s)) ≡ same_bytes word (part_of s start len)
part_compared s word start len l = ap (same_bytes word) (part_lent s start len l)

-- what the check of `part_is` needs
pub ruleset parts_compared = (part_length_differs, part_not_whole, part_compared)

-- ---- identifiers

-- no identifier: the empty part at the book's start
not_placed : {book tb : List ℕ} {line : ℕ} → identifier_start book tb line ≡ 0 → identifier_part book tb line ≡ [] → IdentifierPlaced book tb line 0 0
not_placed {book} s p =
    record { start_is = sym s; len_is = sym (ap length p); within = omega arith; bytes_are = slice_empty 0 book ∙ sym p }

pub identifier_of_none : {book tb : List ℕ} {line : ℕ} → line ≡ 0 → IdentifierPlaced book tb line 0 0
unfolding identifier_part identifier_start
identifier_of_none {line = line} e =
    let l = lt-leb 1 line (omega arith) in not_placed (rw (l, identifier_start)) (rw (l, identifier_part))

identifier_part_lem : (book tb : List ℕ) (line : ℕ) {start len : ℕ} → line ≢ 0 → row_width * line ≤ length tb
    → start ≡ row_cell tb line at_name_start → len ≡ row_cell tb line at_name_length → identifier_part book tb line ≡ part_of book start len
unfolding identifier_part
identifier_part_lem book tb line n l es el =
    rw (le-leb 1 line (omega arith), le-leb (row_width * line) (length tb) l, identifier_part) (λ j. part_of book (sym es j) (sym el j))

module _ {book tb : List ℕ} {line : ℕ} (n : line ≢ 0) where
  pub identifier_not_whole : length tb < row_width * line → IdentifierPlaced book tb line 0 0
  unfolding identifier_part identifier_start
  identifier_not_whole l =
      let p = le-leb 1 line (omega arith) in
      let q = lt-leb (row_width * line) (length tb) l in
      not_placed (rw (p, q, identifier_start)) (rw (p, q, identifier_part))

  module _ (l : row_width * line ≤ length tb) {start len : ℕ} (es : start ≡ row_cell tb line at_name_start) (el : len ≡ row_cell tb line at_name_length) where
    pub identifier_outside : length book < start + len → IdentifierPlaced book tb line 0 0
    unfolding identifier_start
    identifier_outside o =
        let p = le-leb 1 line (omega arith) in
        let q = le-leb (row_width * line) (length tb) l in
        let r = lt-leb (row_cell tb line at_name_start + row_cell tb line at_name_length) (length book) (omega arith) in
        not_placed (rw (p, q, r, identifier_start)) (identifier_part_lem book tb line n l es el ∙ part_outside book start len o)

    pub identifier_inside : start + len ≤ length book → IdentifierPlaced book tb line start len
    unfolding identifier_start
    identifier_inside i =
        let p = le-leb 1 line (omega arith) in
        let q = le-leb (row_width * line) (length tb) l in
        let r = le-leb (row_cell tb line at_name_start + row_cell tb line at_name_length) (length book) (omega arith) in
        let is : slice start (start + len) book ≡ identifier_part book tb line = sym (identifier_part_lem book tb line n l es el ∙ part_whole book start len i) in
        record {
          start_is = rw (p, q, r, identifier_start) es;
          len_is = omega (arith, length-slice start (start + len) book i, ap length is);
          within = i;
          bytes_are = is;
        }
