-- The paragraph opened in a given one under a given name, among those that have an entry, down the chain of the name.
use mathlib.Core.Path.{◌≡◌, refl, sym, ap, ap₂, ◌∙◌, subst}
use mathlib.Core.Logic.{◌≢◌}
use mathlib.Core.Bool.{Bool, true, false, ◌&&◌}
use mathlib.Core.List.{List, ◌∷◌}
use Prim.Native.Nat.{ℕ, min, suc, ◌+◌, ◌/◌, ◌%◌, ◌≤◌, ◌<◌}
use native.Mathlib.Decide.{ℕ_discrete}
use native.Mathlib.Nat.{mod-le}
use native.Mathlib.Omega.{arith}
use lib.Dec.{eqb, leb}
use lib.ListN.{length, get_or}
use borrow.Author.Tests.{eq-eqb, ne_eqb, eqb-true, leb-true, leb-false}
use Rattle.std.specs.Prelude as Prelude
use Rattle.aut68.specs.Sizes.{cell_values}
use Rattle.aut68.specs.Bytes.{Bytes, same_bytes}
use Rattle.aut68.specs.Lines.{part_of}
use Rattle.aut68.specs.Paragraphs.{Paragraph, Place}
use Rattle.aut68.specs.Rules.Names.{Member, here, there, ParagraphIn}
use Rattle.lookup.specs.SameBytes.{same_true, same_refl}
use Rattle.lookup.specs.Tests.{and_true}
use Rattle.lookup.specs.Places.{NumberedFrom, next_number, none_left, RightPlace, numbered_within}
use Rattle.names.specs.Search.{Gives, gives_so}
use Rattle.names.specs.Chains.{Chains, Searching, Found}
use Rattle.names.specs.Chains as Chains
use Rattle.names.specs.Hints.{hash_of, key_at}
use Rattle.names.proofs.FindLaws.{second_fails, second_passes}
use Rattle.notes.specs.Note.{count_cell, capacity, head_cell, title_cell, around_cell, place_factor, chain_factor, title_at, around_at, next_at, chain_of, entry_chain, entry_is, noted, PlaceNoted}
use Rattle.notes.specs.NoteLaws.{noted_most, noted_count, noted_all, chain_below}
use Rattle.notes.specs.Posts.{NotedFound}

-- ---- numbers

pub noted_is : (n count : ℕ) → min count (capacity n) ≡ noted n count
unfolding noted
noted_is n count = split (leb count (capacity n)) refl
  where
    split : (t : Bool) → leb count (capacity n) ≡ t → min count (capacity n) ≡ elim t as (λ _. ℕ) [ true ↦ count | false ↦ capacity n ]
    split true e = omega (arith, leb-true count (capacity n) e)
    split false e = omega (arith, leb-false count (capacity n) e)

pub chain_is_lem : (n h q : ℕ) {k m : ℕ} → k ≡ key_at h q → k < cell_values → m ≡ capacity n → (k % (m + 1) ≡ chain_of n h q) × (k % (m + 1) < cell_values)
unfolding chain_of
chain_is_lem n h q {k} {m} e l f = (λ i. e i % (f i + 1), omega (arith, mod-le k (m + 1)))

pub next_is_lem : (w : List ℕ) (k : ℕ) {x : ℕ} → x ≡ get_or w (around_cell (length w) k) 0 → x / chain_factor ≡ next_at w k
unfolding next_at
next_is_lem w k e = ap (λ (c : ℕ). c / chain_factor) e

-- ---- an entry that has the word and the paragraph

module _ (book w : List ℕ) (word : Bytes) (q k : ℕ) where
  pub entry_not : {x : ℕ} → x ≡ get_or w (around_cell (length w) k) 0 → x % chain_factor ≢ q → entry_is book w word q k ≡ false
  unfolding entry_is around_at
  entry_not e n = second_fails (same_bytes word (title_at book w k)) (ne_eqb q (around_at w k) (λ z. n (ap (λ (c : ℕ). c % chain_factor) e ∙ sym z)))

  pub entry_compared : {x y : ℕ} → x ≡ get_or w (around_cell (length w) k) 0 → x % chain_factor ≡ q → y ≡ get_or w (title_cell (length w) k) 0
      → same_bytes word (part_of book (y % place_factor) (y / place_factor)) ≡ entry_is book w word q k
  unfolding entry_is around_at title_at
  entry_compared e p f =
      second_passes _ (eq-eqb q (around_at w k) (sym p ∙ ap (λ (c : ℕ). c % chain_factor) e)) ∙ (λ i. same_bytes word (part_of book (f i % place_factor) (f i / place_factor)) && eqb q (around_at w k))

  entry_true : entry_is book w word q k ≡ true → (word ≡ title_at book w k) × (q ≡ around_at w k)
  unfolding entry_is
  entry_true e = let (a, b) = and_true _ _ e in (same_true _ _ a, eqb-true _ _ b)

  entry_has : word ≡ title_at book w k → q ≡ around_at w k → entry_is book w word q k ≡ true
  unfolding entry_is
  entry_has e f = rw (ap (same_bytes word) (sym e) ∙ same_refl word, eq-eqb q _ f)

-- ---- paragraphs that are noted

-- the paragraph of a number
numbered_member : {k : ℕ} {ps : List Paragraph} → NumberedFrom k ps → (n : ℕ) → k < n → n ≤ k + length ps → (x : Paragraph) × Member x ps × (x.number ≡ n)
numbered_member none_left n a b = absurd (omega arith)
numbered_member {k} (next_number {x} {xs} e h) n a b = pick (ℕ_discrete n (suc k)) (λ m. numbered_member h n (omega arith) (omega arith))
  where
    pick : Dec (n ≡ suc k) → (n ≢ suc k → (y : Paragraph) × Member y xs × (y.number ≡ n)) → (y : Paragraph) × Member y (x ∷ xs) × (y.number ≡ n)
    pick (yes z) again = (x, here, e ∙ sym z)
    pick (no m) again = let (y, i, z) = again m in (y, there i, z)

module _ {book w : List ℕ} {at : Place} (h : PlaceNoted book at w) (r : RightPlace at) where
  entry_passes : {word : Bytes} {q k : ℕ} → 1 ≤ k → k ≤ noted (length w) (length at.paragraphs) → entry_is book w word q k ≡ true → ParagraphIn at word q k
  entry_passes {word} {q} {k} a b e =
      let (x, m, i) = numbered_member r.numbered k (omega arith) (omega (arith, noted_count (length w) (length at.paragraphs))) in
      let n = h.entries.each x m (omega (arith, i, b, noted_most (length w) (length at.paragraphs))) in
      let (t, s) = entry_true book w word q k e in
      let name : x.name ≡ word = sym n.title_is ∙ ap (title_at book w) i ∙ sym t in
      let around : x.around ≡ q = sym n.around_is ∙ ap (around_at w) i ∙ sym s in
      record { is_paragraph = subst (λ (y : Paragraph). Member y at.paragraphs) (λ j. record { name = name j; number = i j; around = around j }) m }

  paragraph_has : {x : Paragraph} → Member x at.paragraphs → x.number ≤ capacity (length w)
      → (1 ≤ x.number) × (x.number ≤ noted (length w) (length at.paragraphs)) × (entry_is book w x.name x.around x.number ≡ true)
  paragraph_has {x} m l =
      let (a, b) = numbered_within r.numbered m in
      let n = h.entries.each x m l in
      (omega (arith, a), noted_all (length w) (length at.paragraphs) x.number (omega (arith, b)) l, entry_has book w x.name x.around x.number (sym n.title_is) (sym n.around_is))

-- ---- down the chain

-- how many have an entry
abbrev entries : List ℕ → ℕ
entries w = noted (length w) (get_or w (count_cell (length w)) 0)

-- a place is noted, and the word has the hash
pub record Asked (book w : List ℕ) (word : Bytes) (h : ℕ) : Type 0 where
  pub at : Place
  pub place : PlaceNoted book at w
  pub hash : h ≡ hash_of word
  pub long : 1 ≤ length word

module _ (book w : List ℕ) (word : Bytes) (h q : ℕ) {count most : ℕ} (counted : count ≡ get_or w (count_cell (length w)) 0) (limited : most ≡ noted (length w) count) where
  most_is : most ≡ entries w
  most_is = limited ∙ ap (noted (length w)) counted

  pub entries_within : most ≤ capacity (length w)
  entries_within = omega (arith, limited, noted_most (length w) count)

  -- the chain comes to the entry that is sought, if there is one
  pub search_starts : {i k : ℕ} → i ≡ chain_of (length w) h q → k ≡ get_or w (head_cell (length w) i) 0 → Searching (Asked book w word h) (entry_is book w word q) (next_at w) most k
  search_starts e f =
      Chains.search_starts (chain_of (length w) h q) (λ g. chains g.place) (chain_below (length w) h q) same (f ∙ ap (λ (j : ℕ). get_or w (head_cell (length w) j) 0) e)
    where
      chains : {at : Place} → PlaceNoted book at w → Chains (entry_chain book w) (next_at w) (λ (i : ℕ). get_or w (head_cell (length w) i) 0) (capacity (length w)) most
      chains p =
          subst (Chains (entry_chain book w) (next_at w) (λ (i : ℕ). get_or w (head_cell (length w) i) 0) (capacity (length w))) (sym (most_is ∙ ap (noted (length w)) p.count_is)) p.entries.chains

      same : Asked book w word h → (u : ℕ) → entry_is book w word q u ≡ true → entry_chain book w u ≡ chain_of (length w) h q
      same g u p = let (t, s) = entry_true book w word q u p in ap₂ (chain_of (length w)) (ap hash_of (sym t) ∙ sym g.hash) (sym s)

  found : {r : ℕ} → Found (Asked book w word h) (entry_is book w word q) most r → NotedFound book w word h q r
  found {r} f =
      record {
        none = λ at p right l e z x m b n s. (
            let (c, d, i) = paragraph_has p right m b in
            f.fails (record { at = at; place = p; hash = e; long = l }) z x.number c (subst (λ (c : ℕ). x.number ≤ c) (ap (noted (length w)) (sym p.count_is) ∙ sym most_is) d)
            (ap₂ (λ (a : Bytes) (b : ℕ). entry_is book w a b x.number) (sym n) (sym s) ∙ i));
        is = λ at p right l e n.
            entry_passes p right (omega arith) (subst (λ (c : ℕ). r ≤ c) (most_is ∙ ap (noted (length w)) p.count_is) f.within) (f.passes (record { at = at; place = p; hash = e; long = l }) n);
      }

  pub gives_entry : (r : Prelude.Option ℕ) → Gives (Found (Asked book w word h) (entry_is book w word q) most) r → Gives (NotedFound book w word h q) r
  gives_entry = gives_so (Found (Asked book w word h) (entry_is book w word q) most) (NotedFound book w word h q) (λ r f. found f)
