-- Laws of hints, for those who keep them.
use Rattle.std.specs.Prelude.{◌≡◌, refl, Bool, true, false, List, ℕ, suc, ◌+◌, ◌*◌, ◌/◌, ◌%◌, ◌≤◌, ◌<◌, leb, length, get_or, take, set}
use Rattle.std.proofs.Common.{sym, ap, ◌∙◌, subst, arith, mul-le-mul_right, length-set, get_or-take, get_or-set_same, get_or-set_other, le-leb, leb-true, leb-false}
use Rattle.aut68.specs.Lines.{identifier_part, part_of, row_cell}
use Rattle.aut68.specs.Sizes.{smallest_limit, row_width, at_name_start, at_name_length}
use Rattle.cells.specs.Layout.{names_at, reader_units}
use Rattle.cells.specs.Links.{link_factor, link_of}
use Rattle.names.specs.Chains.{Chains, chains_none, chains_same, chains_more}
use Rattle.names.specs.Hints.{slots, slot_at, name_at, line_slot, Hinted, most_slots}

-- ---- numbers

pub slots_most : (n : ℕ) → slots n ≤ most_slots
unfolding slots
slots_most n = split (leb (n / 2) most_slots) refl
  where
    split : (t : Bool) → leb (n / 2) most_slots ≡ t → elim t as (λ _. ℕ) [ true ↦ n / 2 | false ↦ most_slots ] ≤ most_slots
    split true e = leb-true (n / 2) most_slots e
    split false e = omega arith

pub slots_half : (n : ℕ) → slots n ≤ n / 2
unfolding slots
slots_half n = split (leb (n / 2) most_slots) refl
  where
    split : (t : Bool) → leb (n / 2) most_slots ≡ t → elim t as (λ _. ℕ) [ true ↦ n / 2 | false ↦ most_slots ] ≤ n / 2
    split true e = omega arith
    split false e = omega (arith, leb-false (n / 2) most_slots e)

-- all slots in the store of the reader, below the cells for the lines that a line names
pub slots_fit : (limit : ℕ) → smallest_limit ≤ limit → slots (reader_units * limit) < names_at limit
slots_fit limit l = omega (arith, slots_half (reader_units * limit))

-- every key lands on one of them
pub slot_below : (n h q : ℕ) → slot_at n h q ≤ slots n
unfolding slot_at
slot_below n h q =
    let k : ℕ = (h + 2654435761 * q) % 4294967296 in
    let l : k * slots n ≤ 4294967296 * slots n = mul-le-mul_right (slots n) (omega arith) in
    omega arith

-- ---- names

-- the name that a whole row points to which is not linked is the identifier of its line
pub identifier_name : (book tb : List ℕ) (v : ℕ) → 1 ≤ v → row_width * v ≤ length tb → row_cell tb v at_name_length < link_factor → identifier_part book tb v ≡ name_at book tb v
unfolding identifier_part name_at
identifier_name book tb v p l s =
    let e : row_cell tb v at_name_length ≡ row_cell tb v at_name_length % link_factor = omega arith in
    rw (le-leb 1 v p, le-leb (row_width * v) (length tb) l, identifier_part) (ap (part_of book (row_cell tb v at_name_start)) e)

-- ---- hints that stay

-- no line is hinted at first
pub no_line_hinted : (book tb w : List ℕ) → ((i : ℕ) → i ≤ slots (length w) → get_or w i 0 ≡ 0) → Hinted book tb 0 w
no_line_hinted book tb w z = record { chains = chains_none z }

pub cell_same : (w w' : List ℕ) (n i : ℕ) → take n w' ≡ take n w → i < n → get_or w' i 0 ≡ get_or w i 0
cell_same w w' n i e h = sym (get_or-take n w' i 0 h) ∙ ap (λ x. get_or x i 0) e ∙ get_or-take n w i 0 h

-- hints stay where the slots are as they were
pub hinted_same : {book tb : List ℕ} {lines : ℕ} {w w' : List ℕ} (n : ℕ) → slots (length w) < n → length w' ≡ length w → take n w' ≡ take n w
    → Hinted book tb lines w → Hinted book tb lines w'
hinted_same {book} {tb} {lines} {w} {w'} n h l e H =
    record {
      chains = subst (λ (m : ℕ). Chains (line_slot book tb (length w')) (link_of tb) (λ (i : ℕ). get_or w' i 0) (slots m) lines) (sym l)
          (chains_same (λ v. slot_below (length w) _ _) (λ v a b. ap (λ (m : ℕ). line_slot book tb m v) l) (λ v a b. refl) H.chains
          (λ i k. cell_same w w' n i e (omega arith)));
    }

-- a line more, whose row links to the former head of its slot s, and whose number is the head now
pub hinted_more : (book tb tb' : List ℕ) (lines : ℕ) (w w' : List ℕ) (s : ℕ)
    → ((v : ℕ) → 1 ≤ v → v ≤ lines → line_slot book tb' (length w) v ≡ line_slot book tb (length w) v)
    → ((v : ℕ) → 1 ≤ v → v ≤ lines → link_of tb' v ≡ link_of tb v)
    → line_slot book tb' (length w) (suc lines) ≡ s → link_of tb' (suc lines) ≡ get_or w s 0 → s < length w → w' ≡ set w s (suc lines)
    → Hinted book tb lines w → Hinted book tb' (suc lines) w'
hinted_more book tb tb' lines w w' s slots_same links own link inside is H =
    let long : length w' ≡ length w = ap length is ∙ length-set w s (suc lines) in
    record {
      chains = subst (λ (m : ℕ). Chains (line_slot book tb' m) (link_of tb') (λ (i : ℕ). get_or w' i 0) (slots m) (suc lines)) (sym long)
          (chains_more (λ v. slot_below (length w) _ _) slots_same links H.chains s (subst (λ (i : ℕ). i ≤ slots (length w)) own (slot_below (length w) _ _)) own link
          (ap (λ (x : List ℕ). get_or x s 0) is ∙ get_or-set_same w s (suc lines) 0 inside)
          (λ i l n. ap (λ (x : List ℕ). get_or x i 0) is ∙ get_or-set_other w s i (suc lines) 0 n));
    }
