-- A line that is noted, and what is noted of the state from one line to the next.
use mathlib.Core.Path.{◌≡◌, refl, sym, ap, ap₂, ◌∙◌, subst}
use mathlib.Core.Logic.{inl, ◌≢◌}
use mathlib.Core.Bool.{false}
use mathlib.Core.List.{List, ◌∷◌, ◌++◌}
use Prim.Native.Nat.{ℕ, suc, ◌+◌, ◌-◌, ◌*◌, ◌/◌, ◌%◌, ◌≤◌, ◌<◌}
use native.Mathlib.Omega.{arith}
use lib.ListN.{length, get_or, take, drop, set, length-append, length-drop, length-set}
use lib.Seq.{sets, length-sets, take_at, take-take, length-take-le, get_or-set_same, get_or-set_other}
use Rattle.aut68.specs.Bytes.{Bytes, lines}
use Rattle.aut68.specs.Lines.{Line, identifier_part, part_of, row_cell}
use Rattle.aut68.specs.Paragraphs.{State, with_line}
use Rattle.aut68.specs.Procedure.Parse.{signed}
use Rattle.aut68.specs.Sizes.{line_limit, row_width, at_name_start, at_name_length, at_paragraph, smallest_limit}
use Rattle.lookup.specs.Identifiers.{Distinct}
use Rattle.cells.specs.Layout.{names_at, reader_units}
use Rattle.cells.specs.Links.{link_factor, link_of, link_at, link_row, unlinked, unlinked_more, unlinked_sets}
use Rattle.cells.specs.Stores.{sets_elsewhere}
use Rattle.cells.specs.RowLaws.{row_cell_is, row_cell_behind}
use Rattle.names.specs.Hints.{hash_of, slot_at, slot_of, name_at, line_slot, Hinted}
use Rattle.names.specs.HintLaws.{slots_half, slot_below, identifier_name, hinted_more}
use Rattle.names.specs.Posts.{HeadPost, LinkPost}
use Rattle.notes.specs.Note.{note_end}
use Rattle.notes.specs.NoteLaws.{note_fits, note_beside, levels_same, levels_ordinary, state_noted_more, stands_same}
use Rattle.checking.specs.Progress.{Noted, NotedLine, StandsIn}

-- ---- a line that is noted

-- a slot lies in the first half of a store
slot_inside : (n h q : ℕ) → slot_at n h q ≤ n / 2
slot_inside n h q = omega (arith, slot_below n h q, slots_half n)

pub not_noted : {book tb : List ℕ} (n limit : ℕ) {w : List ℕ} → (suc n < line_limit → reader_units * limit ≤ length w → ⊥) → NotedLine book tb tb n limit w w
not_noted n limit f = record { long = refl; table_long = refl; noted = λ l r p e s. absurd (f l e) }

pub line_noted : {book tb tb' : List ℕ} (n limit : ℕ) (w part : List ℕ) {word : List ℕ} {h q before : ℕ} → reader_units * limit ≤ length w
    → word ≡ identifier_part book tb (n + 1) → h ≡ hash_of word → q ≡ row_cell tb (n + 1) at_paragraph
    → HeadPost (take (reader_units * limit) w) part h q (n + 1) before → LinkPost tb tb' n before → NotedLine book tb tb' n limit w (part ++ drop (reader_units * limit) w)
line_noted {book} {tb} {tb'} n limit w part {word} {h} {q} {before} fits e hash paragraph head link =
    let next : n + 1 ≡ suc n = omega arith in
    let u : List ℕ = take (reader_units * limit) w in
    let long_u : length u ≡ reader_units * limit = length-take-le (reader_units * limit) w fits in
    let m : length part ≡ reader_units * limit = head.long ∙ long_u in
    record {
      long = length-append part (drop (reader_units * limit) w) ∙ omega (arith, length-drop (reader_units * limit) w, m);
      table_long = link.long;
      noted = λ few room one enough small.
          let named : word ≡ name_at book tb (suc n) = e ∙ ap (identifier_part book tb) next ∙ identifier_name book tb (suc n) (omega arith) room small in
          let stands : q ≡ row_cell tb (suc n) at_paragraph = paragraph ∙ ap (λ (v : ℕ). row_cell tb v at_paragraph) next in
          let slot : slot_at (length u) h q ≡ line_slot book tb (length u) (suc n) = ap₂ (slot_at (length u)) (hash ∙ ap hash_of named) stands in
          let inside : slot_at (length u) h q < length u = omega (arith, slot_inside (length u) h q, long_u) in
          let was : before ≡ get_or u (line_slot book tb (length u) (suc n)) 0 = head.was inside (omega arith) ∙ ap (λ (i : ℕ). get_or u i 0) slot in
          record {
            link_is = λ l. link.is few (omega (arith, was)) room (omega (arith, row_cell_behind tb n at_name_length)) ∙ ap (link_row tb n) was;
            head_is = take_at part (drop (reader_units * limit) w) (reader_units * limit) m ∙ head.is inside (omega arith) ∙ (λ i. set u (slot i) (next i));
          };
    }

-- ---- the table, with one row more that is linked

-- the second cell of a row that is written
pub second_cell : (tb : List ℕ) (n a b : ℕ) (rest : List ℕ) → row_width * suc n ≤ length tb → row_cell (sets tb (row_width * n) (a ∷ b ∷ rest)) (suc n) at_name_length ≡ b
second_cell tb n a b rest l =
    let e : row_width * n + at_name_length ≡ suc (row_width * n) = omega arith in
    let w : List ℕ = set (set tb (row_width * n) a) (suc (row_width * n)) b in
    row_cell_behind (sets tb (row_width * n) (a ∷ b ∷ rest)) n at_name_length
    ∙ ap (λ (i : ℕ). get_or (sets w (suc (suc (row_width * n))) rest) i 0) e
    ∙ sets_elsewhere rest w (suc (suc (row_width * n))) (suc (row_width * n)) (inl (omega arith))
    ∙ get_or-set_same (set tb (row_width * n) a) (suc (row_width * n)) b 0 (simp length-set (omega arith))

module _ (tb tb₁ tb₂ row : List ℕ) (n h : ℕ) (written : tb₁ ≡ sets tb (row_width * n) row) (linked : tb₂ ≡ link_row tb₁ n h) where
  -- the rows of the lines before it are as they were
  row_stays : (v k : ℕ) → 1 ≤ v → v ≤ n → k < row_width → row_cell tb₂ v k ≡ row_cell tb v k
  unfolding link_row
  row_stays v k a b l =
      let at : ℕ = row_width * v + k - row_width in
      row_cell_is tb₂ v k (λ z. omega arith)
      ∙ ap (λ (x : List ℕ). get_or x at 0) linked
      ∙ get_or-set_other tb₁ (link_at n) at _ 0 (λ e. omega arith)
      ∙ ap (λ (x : List ℕ). get_or x at 0) written
      ∙ sets_elsewhere row tb (row_width * n) at (inl (omega arith))
      ∙ sym (row_cell_is tb v k (λ z. omega arith))

  name_stays : (book : List ℕ) (v : ℕ) → 1 ≤ v → v ≤ n → name_at book tb₂ v ≡ name_at book tb v
  unfolding name_at
  name_stays book v a b = λ i. part_of book (row_stays v at_name_start a b (omega arith) i) (row_stays v at_name_length a b (omega arith) i % link_factor)

  slot_stays : (book : List ℕ) (m v : ℕ) → 1 ≤ v → v ≤ n → line_slot book tb₂ m v ≡ line_slot book tb m v
  slot_stays book m v a b = ap₂ (slot_of m) (name_stays book v a b) (row_stays v at_paragraph a b (omega arith))

  link_stays : (v : ℕ) → 1 ≤ v → v ≤ n → link_of tb₂ v ≡ link_of tb v
  unfolding link_of
  link_stays v a b = ap (λ (x : ℕ). x / link_factor) (row_stays v at_name_length a b (omega arith))

  module _ (room : row_width * suc n ≤ length tb) (small : row_cell tb₁ (suc n) at_name_length < link_factor) where
    long : length tb₁ ≡ length tb
    long = ap length written ∙ length-sets tb (row_width * n) row

    -- its own row
    length_here : row_cell tb₂ (suc n) at_name_length ≡ row_cell tb₁ (suc n) at_name_length + link_factor * h
    unfolding link_row
    length_here =
        row_cell_behind tb₂ n at_name_length
        ∙ ap (λ (x : List ℕ). get_or x (link_at n) 0) linked
        ∙ get_or-set_same tb₁ (link_at n) _ 0 (omega (arith, long))
        ∙ ap (λ (x : ℕ). x + link_factor * h) (sym (row_cell_behind tb₁ n at_name_length))

    cell_here : (k : ℕ) → k ≢ at_name_length → row_cell tb₂ (suc n) k ≡ row_cell tb₁ (suc n) k
    unfolding link_row
    cell_here k other =
        row_cell_behind tb₂ n k
        ∙ ap (λ (x : List ℕ). get_or x (row_width * n + k) 0) linked
        ∙ get_or-set_other tb₁ (link_at n) (row_width * n + k) _ 0 (λ e. other (omega arith))
        ∙ sym (row_cell_behind tb₁ n k)

    name_here_lem : (book : List ℕ) → name_at book tb₂ (suc n) ≡ name_at book tb₁ (suc n)
    unfolding name_at
    name_here_lem book =
        let e : row_cell tb₂ (suc n) at_name_length % link_factor ≡ row_cell tb₁ (suc n) at_name_length % link_factor = omega (arith, length_here) in
        ap₂ (part_of book) (cell_here at_name_start (λ z. omega arith)) e

    slot_here : (book : List ℕ) (m : ℕ) → line_slot book tb₂ m (suc n) ≡ line_slot book tb₁ m (suc n)
    slot_here book m = ap₂ (slot_of m) (name_here_lem book) (cell_here at_paragraph (λ z. omega arith))

    link_here : link_of tb₂ (suc n) ≡ h
    unfolding link_of
    link_here = omega (arith, length_here)

    pub unlinked_on : unlinked (suc n) tb₂ ≡ sets (unlinked n tb) (row_width * n) row
    unlinked_on =
        ap (unlinked (suc n)) linked
        ∙ unlinked_more n tb₁ h (omega (arith, long)) (omega (arith, row_cell_behind tb₁ n at_name_length))
        ∙ ap (unlinked n) written
        ∙ unlinked_sets n row tb (row_width * n) (omega arith)

-- ---- what is noted, after one line more

module _ {limit : ℕ} (large : smallest_limit ≤ limit) {st : State} {book tb : List ℕ} {n at : ℕ} (w w₂ : List ℕ) (enough : reader_units * limit ≤ length w)
    (long : length w₂ ≡ length w) (same : take (names_at limit) w₂ ≡ take (names_at limit) w) (stands : StandsIn limit st book tb n w at) where
  abbrev u₂ : List ℕ
  u₂ = take (reader_units * limit) w₂

  long_u₂ : length u₂ ≡ reader_units * limit
  long_u₂ = length-take-le (reader_units * limit) w₂ (omega (arith, long))

  -- what is read, named and stored leaves the note
  stands_kept : StandsIn limit st book tb n w₂ at
  stands_kept =
      let m : length (take (reader_units * limit) w) ≡ reader_units * limit = length-take-le (reader_units * limit) w enough in
      stands_same (names_at limit) (subst (λ (k : ℕ). note_end k ≤ names_at limit) (sym m) (note_fits limit large)) (long_u₂ ∙ sym m)
      (take-take (names_at limit) (reader_units * limit) w₂ (omega arith)
      ∙ same
      ∙ sym (take-take (names_at limit) (reader_units * limit) w (omega arith))) stands

  module _ (row tb₁ tb₂ w₃ : List ℕ) (written : tb₁ ≡ sets tb (row_width * n) row) (few : suc n < line_limit) (room : row_width * suc n ≤ length tb)
      (small : row_cell tb₁ (suc n) at_name_length < link_factor) (noted : NotedLine book tb₁ tb₂ n limit w₂ w₃) where
    abbrev slot : ℕ
    slot = line_slot book tb₁ (length u₂) (suc n)

    abbrev before : ℕ
    before = get_or u₂ slot 0

    abbrev u₃ : List ℕ
    u₃ = take (reader_units * limit) w₃

    here : Noted book tb₁ tb₂ n u₂ u₃
    here =
        noted.noted few (omega (arith, ap length written, length-sets tb (row_width * n) row)) (omega arith) (omega (arith, long)) small

    linked : tb₂ ≡ link_row tb₁ n before
    linked = here.link_is (let b = stands_kept.noted.hinted.chains.heads slot (slot_below (length u₂) _ _) in omega arith)

    -- the line itself is hinted
    hinted_on : Hinted book tb₂ (suc n) u₃
    hinted_on =
        hinted_more book tb tb₂ n u₂ u₃ slot (slot_stays tb tb₁ tb₂ row n before written linked book (length u₂)) (link_stays tb tb₁ tb₂ row n before written linked)
        (slot_here tb tb₁ tb₂ row n before written linked room small book (length u₂)) (link_here tb tb₁ tb₂ row n before written linked room small)
        (let s : slot ≤ length u₂ / 2 = slot_inside (length u₂) _ _ in omega (arith, s, long_u₂)) here.head_is stands_kept.noted.hinted

    -- the state with the line is noted, up to the end of its bytes
    pub stands_on : (l : Line) {bytes : Bytes} {next : ℕ} → Distinct (with_line st l) → signed 43 bytes ≡ false → signed 45 bytes ≡ false
        → lines (drop at book) ≡ bytes ∷ lines (drop next book) → at ≤ next → StandsIn limit (with_line st l) book tb₂ (n + 1) w₃ next
    stands_on l distinct opens closes cut from =
        let q : suc n ≡ n + 1 = omega arith in
        let beside = note_beside {w = u₂} {w' = u₃} slot (suc n) (slot_inside (length u₂) _ _) here.head_is in
        record {
          noted = state_noted_more beside l (subst (λ (i : ℕ). Hinted book tb₂ i u₃) q hinted_on) distinct stands_kept.noted;
          walks = levels_ordinary opens closes cut from (levels_same beside stands_kept.noted.place.few stands_kept.walks);
        }

    -- and without its links the table has its row
    pub row_on : unlinked (n + 1) tb₂ ≡ sets (unlinked n tb) (row_width * n) row
    row_on =
        let q : n + 1 ≡ suc n = omega arith in
        ap (λ (i : ℕ). unlinked i tb₂) q ∙ unlinked_on tb tb₁ tb₂ row n before written linked room small
