-- A walk, line by line.
use mathlib.Core.Path.{◌≡◌, refl, ap, sym, ◌∙◌}
use mathlib.Core.Bool.{Bool, true, false, false≢true}
use mathlib.Core.Option.{some}
use mathlib.Core.List.{List, [], ◌∷◌, ◌++◌}
use Prim.Native.Nat.{ℕ, ◌+◌, ◌-◌, ◌≤◌, ◌<◌}
use native.Mathlib.Omega.{arith}
use lib.Dec.{eqb}
use lib.ListN.{length, take, drop, length-append, length-drop}
use Rattle.aut68.specs.Bytes.{Bytes, onto, lines, joined}
use Rattle.aut68.specs.Procedure.Parse.{signed}
use Rattle.kinds.specs.Kinds.{KindsTable}
use Rattle.reading.specs.Pieces.{lines_joined}
use Rattle.headings.specs.Posts.{LineEnd}
use Rattle.names.specs.Posts.{number_or}
use Rattle.walks.specs.Walk.{deep_behind, count_behind, opens_here, child_from}
use Rattle.walks.specs.WalkLaws.{count_opening, opens_nothing}
use Rattle.walks.specs.Posts.{LinePassed, Walked}

-- ---- pieces and their bytes

-- the first piece has a byte
first_long : (x : Bytes) {p : Bytes} {ps : List Bytes} → lines x ≡ p ∷ ps → 1 ≤ length p
unfolding lines onto
first_long [] e = let z : ◌≡◌ {A = ℕ} 0 1 = cc in omega arith
first_long (b ∷ bs) e = at (eqb b 10) e
  where
    behind : (ls : List Bytes) {p : Bytes} {ps : List Bytes} → onto b ls ≡ p ∷ ps → 1 ≤ length p
    behind [] {p} e = let i : p ≡ b ∷ [] = cc in omega (arith, ap length i)
    behind (l ∷ ls) {p} e = let i : p ≡ b ∷ l = cc in omega (arith, ap length i)

    at : (t : Bool) {p : Bytes} {ps : List Bytes} → elim t [ true ↦ (10 ∷ []) ∷ lines bs | false ↦ onto b (lines bs) ] ≡ p ∷ ps → 1 ≤ length p
    at true {p} e = let i : p ≡ 10 ∷ [] = cc in omega (arith, ap length i)
    at false e = behind (lines bs) e

joined_more : (ps qs : List Bytes) → length (joined qs) ≤ length (joined (ps ++ qs))
unfolding joined
joined_more [] qs = omega arith
joined_more (p ∷ ps) qs = omega (arith, joined_more ps qs, length-append p (joined (ps ++ qs)))

-- no pieces lead from a place to one ahead of it
no_pieces : (x y : Bytes) (ps : List Bytes) → lines x ≡ ps ++ lines y → length x ≤ length y → ps ≡ []
unfolding joined
no_pieces x y [] e l = refl
no_pieces x y (p ∷ ps) e l =
    absurd (omega (
      arith,
      first_long x e,
      ap length (sym (lines_joined x) ∙ ap joined e),
      length-append p (joined (ps ++ lines y)),
      joined_more ps (lines y),
      ap length (lines_joined y),
    ))

-- to one behind it some do, and the first of them is the first line
first_piece : (x y : Bytes) (ps : List Bytes) {l : Bytes} {ls : List Bytes} → lines x ≡ ps ++ lines y → length y < length x → lines x ≡ l ∷ ls
    → (rest : List Bytes) × (ps ≡ l ∷ rest) × (ls ≡ rest ++ lines y)
first_piece x y [] e n f = absurd (omega (arith, ap length (sym (lines_joined x) ∙ ap joined e ∙ lines_joined y)))
first_piece x y (p ∷ ps) {l} {ls} e n f =
    let i : p ≡ l = cc in
    let j : ls ≡ ps ++ lines y = cc in
    (ps, ap (λ z. z ∷ ps) i, j)

-- ---- the first piece, passed

module _ (w b : Bytes) (deep n : ℕ) (bs : List Bytes) where
  child_later : opens_here w deep b ≡ false → child_from w deep n (b ∷ bs) ≡ child_from w (deep_behind b deep) (count_behind b n) bs
  unfolding child_from
  child_later e = rw (e, child_from)

  child_here : opens_here w deep b ≡ true → child_from w deep n (b ∷ bs) ≡ some (count_behind b n)
  unfolding child_from
  child_here e = rw (e, child_from) (ap some (sym (count_opening b (opens (signed 43 b) refl) n)))
    where
      opens : (t : Bool) → signed 43 b ≡ t → signed 43 b ≡ true
      opens true i = i
      opens false i = absurd (false≢true (sym (opens_nothing b i w deep) ∙ e))

-- ---- the loop

-- what is left to find is found in the pieces that are left
pub record WalkSoFar (ks book : Bytes) (from to q : ℕ) (word : Bytes) (at deep count : ℕ) : Type 0 where
  pub shallow : deep ≤ at
  pub few : count ≤ q + at
  pub left : KindsTable ks → (pieces : List Bytes) → lines (drop from book) ≡ pieces ++ lines (drop to book)
      → (rest : List Bytes) × (lines (drop at book) ≡ rest ++ lines (drop to book)) × (child_from word 0 q pieces ≡ child_from word deep count rest)

pub so_far_start : {ks book word : Bytes} {from to q : ℕ} → WalkSoFar ks book from to q word from 0 q
so_far_start = record { shallow = omega arith; few = omega arith; left = λ t pieces e. (pieces, e, refl) }

module _ {ks book word : Bytes} {from to q at deep count : ℕ} (h : WalkSoFar ks book from to q word at deep count) where
  -- at the end of the way, or of the book
  pub so_far_end : length book - at ≤ length book - to → Walked ks book from to q word 0
  unfolding number_or child_from
  so_far_end l =
      record {
        is = λ t pieces e _.
            let (rest, f, g) = h.left t pieces e in
            let i = no_pieces (drop at book) (drop to book) rest f (omega (arith, length-drop at book, length-drop to book)) in
            sym (ap (number_or 0) (g ∙ ap (child_from word deep count) i));
      }

  module _ (before : at < to) (within : at < length book) {end : ℕ} (e : LineEnd book at end) {d n : ℕ} {found : Bool} (p : LinePassed ks (take (end - at) (drop at book)) word deep count d n found) where
    line : Bytes
    line = take (end - at) (drop at book)

    -- the line is the first piece
    first : (rest : List Bytes) → lines (drop at book) ≡ rest ++ lines (drop to book) → (more : List Bytes) × (rest ≡ line ∷ more) × (lines (drop end book) ≡ more ++ lines (drop to book))
    unfolding line
    first rest f = first_piece (drop at book) (drop to book) rest f (omega (arith, length-drop at book, length-drop to book)) (e.is within)

    pub so_far_line : found ≡ false → WalkSoFar ks book from to q word end d n
    unfolding line
    so_far_line other =
        record {
          shallow = omega (arith, h.shallow, p.shallow, e.from within);
          few = omega (arith, h.few, p.few, e.from within);
          left = λ t pieces i.
              let (rest, f, g) = h.left t pieces i in
              let (more, j, k) = first rest f in
              (more, k, g ∙ ap (child_from word deep count) j ∙ child_later word line deep count more (sym (p.found_is t) ∙ other) ∙ sym (λ z. child_from word (p.deep_is t z) (p.count_is t z) more));
        }

    pub so_far_found : found ≡ true → Walked ks book from to q word n
    unfolding line number_or
    so_far_found y =
        record {
          is = λ t pieces i _.
              let (rest, f, g) = h.left t pieces i in
              let (more, j, k) = first rest f in
              p.count_is t ∙ sym (ap (number_or 0) (g ∙ ap (child_from word deep count) j ∙ child_here word line deep count more (sym (p.found_is t) ∙ y)));
        }
