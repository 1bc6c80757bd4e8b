-- One entry more, the first of its chain.
use mathlib.Core.Path.{◌≡◌, sym, ap, ◌∙◌, subst, subst₃}
use mathlib.Core.Logic.{◌≢◌, ⊎_elim}
use mathlib.Core.List.{List, [], ◌∷◌, ◌++◌}
use Prim.Native.Nat.{ℕ, suc, ◌+◌, ◌-◌, ◌*◌, ◌/◌, ◌%◌, ◌≤◌, ◌<◌}
use native.Mathlib.Omega.{arith}
use lib.ListN.{length, get_or, take, drop, length-append}
use Rattle.aut68.specs.Sizes.{cell_values, name_limit, book_limit}
use Rattle.aut68.specs.Bytes.{Bytes}
use Rattle.aut68.specs.Lines.{part_of}
use Rattle.aut68.specs.Paragraphs.{Paragraph}
use Rattle.aut68.specs.Rules.Names.{Member}
use Rattle.cells.specs.Stores.{outside_same, outside_then}
use Rattle.lookup.specs.Lists.{member_snoc}
use Rattle.lookup.specs.Places.{NumberedFrom, numbered_within}
use Rattle.names.specs.Chains.{Chains, chains_more}
use Rattle.names.specs.Hints.{hash_of}
use Rattle.names.proofs.PartLaws.{part_lent}
use Rattle.notes.specs.Note.{capacity, heads, head_cell, titles, arounds, title_cell, around_cell, place_factor, chain_factor, title_at, around_at, next_at, chain_of, entry_chain, EntryIs, EntriesNoted, noted}
use Rattle.notes.specs.NoteLaws.{noted_most, noted_count, noted_all, chain_below}
use Rattle.noting.specs.Posts.{Holds, Put, EntryPost}
use Rattle.noting.proofs.PutLaws.{put_as, put_outside}

-- ---- its cells

-- The entry n is written, x and y in its cells, and is the head of the chain s; all others are as they were.
pub record EntryCells (w w' : List ℕ) (n s x y : ℕ) : Type 0 where
  pub long : length w' ≡ length w
  pub head : get_or w' (head_cell (length w) s) 0 ≡ n
  pub title : get_or w' (title_cell (length w) n) 0 ≡ x
  pub around : get_or w' (around_cell (length w) n) 0 ≡ y
  pub other_heads : (i : ℕ) → i ≤ capacity (length w) → i ≢ s → get_or w' (head_cell (length w) i) 0 ≡ get_or w (head_cell (length w) i) 0
  pub other_titles : (k : ℕ) → 1 ≤ k → k ≢ n → get_or w' (title_cell (length w) k) 0 ≡ get_or w (title_cell (length w) k) 0
  pub other_arounds : (k : ℕ) → 1 ≤ k → k ≢ n → get_or w' (around_cell (length w) k) 0 ≡ get_or w (around_cell (length w) k) 0

pub entry_cells : {w w₁ w₂ w' : List ℕ} {n s x y : ℕ} → Holds (length w) → 1 ≤ n → n ≤ capacity (length w) → s ≤ capacity (length w) → x < cell_values → y < cell_values
    → Put (length w) (heads + s) n w w₁ → Put (length w) (titles + capacity (length w) + 2 * n) x w₁ w₂ → Put (length w) (arounds + capacity (length w) + 2 * n) y w₂ w'
    → EntryCells w w' n s x y
entry_cells {n = n} h a b l f g p q r =
    record {
      long = r.long ∙ q.long ∙ p.long;
      head = r.others _ (λ e. omega arith) ∙ q.others _ (λ e. omega arith) ∙ p.is (omega (arith, h.whole)) (omega (arith, h.small));
      title = r.others _ (λ e. omega arith) ∙ q.is (omega (arith, h.whole)) f;
      around = r.is (omega (arith, h.whole)) g;
      other_heads = λ i k m. r.others _ (λ e. omega arith) ∙ q.others _ (λ e. omega arith) ∙ p.others _ (λ e. m (omega arith));
      other_titles = λ k c m. r.others _ (λ e. omega arith) ∙ q.others _ (λ e. m (omega arith)) ∙ p.others _ (λ e. omega arith);
      other_arounds = λ k c m. r.others _ (λ e. m (omega arith)) ∙ q.others _ (λ e. omega arith) ∙ p.others _ (λ e. omega arith);
    }

-- ---- what they say

module _ (book : Bytes) (ps : List Paragraph) (w : List ℕ) (start len q : ℕ) where
  -- the new paragraph, and its chain
  abbrev new : Paragraph
  new = record { name = part_of book start len; number = suc (length ps); around = q }

  abbrev chain : ℕ
  chain = chain_of (length w) (hash_of (part_of book start len)) q

  abbrev was : ℕ
  was = get_or w (head_cell (length w) chain) 0

  module _ (numbered : NumberedFrom 0 ps) (h : EntriesNoted book ps w) where
    -- where there is no room for it, there is none
    pub entry_none : capacity (length w) < suc (length ps) → EntriesNoted book (ps ++ (new ∷ [])) w
    entry_none l =
        record {
          each = λ x m b. ⊎_elim (λ old. h.each x old b) (λ e. absurd (omega (arith, ap (λ (y : Paragraph). y.number) e))) (member_snoc ps m);
          chains = subst (Chains (entry_chain book w) (next_at w) (λ (i : ℕ). get_or w (head_cell (length w) i) 0) (capacity (length w))) full h.chains;
        }
      where
        full : noted (length w) (length ps) ≡ noted (length w) (length (ps ++ (new ∷ [])))
        full =
            omega (
              arith,
              noted_most (length w) (length ps),
              noted_all (length w) (length ps) (capacity (length w)) (omega arith) (omega arith),
              noted_most (length w) (length (ps ++ (new ∷ []))),
              noted_all (length w) (length (ps ++ (new ∷ []))) (capacity (length w)) (omega (arith, length-append ps (new ∷ []))) (omega arith),
            )

    module _ (room : suc (length ps) ≤ capacity (length w)) (holds : Holds (length w)) where
      pub was_small : was < chain_factor
      was_small = omega (arith, h.chains.heads chain (chain_below (length w) _ _), noted_count (length w) (length ps), holds.small)

      module _ {w' : List ℕ} (inside : q ≤ length ps) (place : start < place_factor) (c : EntryCells w w' (suc (length ps)) chain (start + place_factor * len) (q + chain_factor * was)) where
        -- the new entry
        title_new : title_at book w' (suc (length ps)) ≡ part_of book start len
        unfolding title_at
        title_new =
            let e : get_or w' (title_cell (length w') (suc (length ps))) 0 ≡ start + place_factor * len = ap (λ (n : ℕ). get_or w' (title_cell n (suc (length ps))) 0) c.long ∙ c.title in
            let a : get_or w' (title_cell (length w') (suc (length ps))) 0 % place_factor ≡ start = omega arith in
            let b : get_or w' (title_cell (length w') (suc (length ps))) 0 / place_factor ≡ len = omega arith in
            λ i. part_of book (a i) (b i)

        around_cell_lem : get_or w' (around_cell (length w') (suc (length ps))) 0 ≡ q + chain_factor * was
        around_cell_lem = ap (λ (n : ℕ). get_or w' (around_cell n (suc (length ps))) 0) c.long ∙ c.around

        around_new : around_at w' (suc (length ps)) ≡ q
        unfolding around_at
        around_new = omega (arith, around_cell_lem, holds.small)

        next_new : next_at w' (suc (length ps)) ≡ was
        unfolding next_at
        next_new = omega (arith, around_cell_lem, holds.small)

        -- the others
        module _ (k : ℕ) (a : 1 ≤ k) (b : k ≤ length ps) where
          title_old : title_at book w' k ≡ title_at book w k
          unfolding title_at
          title_old = ap (λ (x : ℕ). part_of book (x % place_factor) (x / place_factor)) (ap (λ (n : ℕ). get_or w' (title_cell n k) 0) c.long ∙ c.other_titles k a (λ e. omega arith))

          around_cell_old : get_or w' (around_cell (length w') k) 0 ≡ get_or w (around_cell (length w) k) 0
          around_cell_old = ap (λ (n : ℕ). get_or w' (around_cell n k) 0) c.long ∙ c.other_arounds k a (λ e. omega arith)

          around_old : around_at w' k ≡ around_at w k
          unfolding around_at
          around_old = ap (λ (x : ℕ). x % chain_factor) around_cell_old

          next_old : next_at w' k ≡ next_at w k
          unfolding next_at
          next_old = ap (λ (x : ℕ). x / chain_factor) around_cell_old

          chain_old : entry_chain book w' k ≡ entry_chain book w k
          chain_old = λ i. chain_of (c.long i) (hash_of (title_old i)) (around_old i)

        each_more : (x : Paragraph) → Member x (ps ++ (new ∷ [])) → x.number ≤ capacity (length w) → EntryIs book w' x
        each_more x m b = ⊎_elim old (λ e. subst (EntryIs book w') (sym e) (record { title_is = title_new; around_is = around_new })) (member_snoc ps m)
          where
            old : Member x ps → EntryIs book w' x
            old i =
                let (l, r) = numbered_within numbered i in
                let y = h.each x i b in
                record { title_is = title_old x.number (omega arith) (omega arith) ∙ y.title_is; around_is = around_old x.number (omega arith) (omega arith) ∙ y.around_is }

        before : noted (length w) (length ps) ≡ length ps
        before = omega (arith, noted_count (length w) (length ps), noted_all (length w) (length ps) (length ps) (omega arith) (omega arith))

        after : suc (length ps) ≡ noted (length w) (length (ps ++ (new ∷ [])))
        after =
            let n = length (ps ++ (new ∷ [])) in
            let e : n ≡ suc (length ps) = omega (arith, length-append ps (new ∷ [])) in
            omega (arith, noted_count (length w) n, noted_all (length w) n n (omega arith) (omega arith))

        chains_now : Chains (entry_chain book w') (next_at w') (λ (i : ℕ). get_or w' (head_cell (length w) i) 0) (capacity (length w)) (suc (length ps))
        chains_now =
            chains_more (λ v. chain_below (length w) _ _) chain_old next_old
            (subst (Chains (entry_chain book w) (next_at w) (λ (i : ℕ). get_or w (head_cell (length w) i) 0) (capacity (length w))) before h.chains)
            chain (chain_below (length w) _ _) (λ i. chain_of (c.long i) (hash_of (title_new i)) (around_new i)) next_new c.head c.other_heads

        pub entry_more : EntriesNoted book (ps ++ (new ∷ [])) w'
        entry_more =
            record {
              each = λ x m b. each_more x m (subst (λ (n : ℕ). x.number ≤ capacity n) c.long b);
              chains = subst (λ (n : ℕ). Chains (entry_chain book w') (next_at w') (λ (i : ℕ). get_or w' (head_cell n i) 0) (capacity n) (noted n (length (ps ++ (new ∷ []))))) (sym c.long)
                  (subst (Chains (entry_chain book w') (next_at w') (λ (i : ℕ). get_or w' (head_cell (length w) i) 0) (capacity (length w))) after chains_now);
            }

-- ---- by the code

-- nothing is written, as there is no room
pub entry_full : (book : Bytes) (start len : ℕ) {n q most : ℕ} {w : List ℕ} → most ≡ capacity (length w) → most < n → EntryPost book start len n q w w
entry_full book start len {n} {q} {w = w} e l =
    record {
      kept = outside_same;
      means = λ ps holds numbered i inside short h.
          subst (λ (k : ℕ). EntriesNoted book (ps ++ (record { name = part_of book start len; number = k; around = q } ∷ [])) w) (sym i)
          (entry_none book ps w start len q numbered h (omega arith));
    }

-- The entry n is to be written: the hash of its name, its chain, and the head of that.
pub record EntryAhead (book : Bytes) (start len n q most h s was : ℕ) (w : List ℕ) : Type 0 where
  pub positive : 0 < n
  pub room : n ≤ most
  pub most_is : most ≡ capacity (length w)
  pub fits : start + len ≤ length book
  pub large : length book ≤ book_limit
  pub hash_is : h ≡ hash_of (take (start + len - start) (drop start book))
  pub chain_is : s ≡ chain_of (length w) h q
  pub was_is : was ≡ get_or w (head_cell (length w) s) 0

module _ {book : Bytes} {start len n q most h s was : ℕ} {w : List ℕ} (a : EntryAhead book start len n q most h s was w) where
  roomy : n ≤ capacity (length w)
  roomy = omega (arith, a.room, a.most_is)

  chain_of_lem : s ≡ chain_of (length w) (hash_of (part_of book start len)) q
  chain_of_lem = a.chain_is ∙ ap (λ (k : ℕ). chain_of (length w) k q) (a.hash_is ∙ ap hash_of (part_lent book start len a.fits))

  below : s ≤ capacity (length w)
  below = omega (arith, chain_of_lem, chain_below (length w) (hash_of (part_of book start len)) q)

  module _ {w₁ w₂ w' : List ℕ} (p : Put (length w) (heads + s) n w w₁) (q₂ : Put (length w₁) (titles + most + 2 * n) (start + place_factor * len) w₁ w₂)
      (q₃ : Put (length w₂) (arounds + most + 2 * n) (q + chain_factor * was) w₂ w') where
    p₂ : Put (length w) (titles + capacity (length w) + 2 * n) (start + place_factor * len) w₁ w₂
    p₂ = put_as p.long (ap (λ (m : ℕ). titles + m + 2 * n) a.most_is) q₂

    p₃ : Put (length w) (arounds + capacity (length w) + 2 * n) (q + chain_factor * was) w₂ w'
    p₃ = put_as (q₂.long ∙ p.long) (ap (λ (m : ℕ). arounds + m + 2 * n) a.most_is) q₃

    written : (ps : List Paragraph) → Holds (length w) → NumberedFrom 0 ps → n ≡ suc (length ps) → q ≤ length ps → len ≤ name_limit → EntriesNoted book ps w
        → EntriesNoted book (ps ++ (record { name = part_of book start len; number = n; around = q } ∷ [])) w'
    written ps holds numbered i inside short h =
        let now : was ≡ get_or w (head_cell (length w) (chain_of (length w) (hash_of (part_of book start len)) q)) 0 = a.was_is ∙ ap (λ (k : ℕ). get_or w (head_cell (length w) k) 0) chain_of_lem in
        let place : start < place_factor = omega (arith, a.fits, a.large) in
        let small = was_small book ps w start len q numbered h (omega (arith, roomy)) holds in
        let c : EntryCells w w' n s (start + place_factor * len) (q + chain_factor * was) = entry_cells holds a.positive roomy below (omega arith) (omega (arith, roomy, holds.small)) p p₂ p₃ in
        subst (λ (k : ℕ). EntriesNoted book (ps ++ (record { name = part_of book start len; number = k; around = q } ∷ [])) w') (sym i)
        (entry_more book ps w start len q numbered h (omega (arith, roomy)) holds inside place
        (subst₃ (λ (k t y : ℕ). EntryCells w w' k t (start + place_factor * len) (q + chain_factor * y)) i chain_of_lem now c))

    pub entry_post : EntryPost book start len n q w w'
    entry_post =
        record {
          kept = outside_then (put_outside (omega arith) (omega (arith, below)) p)
              (outside_then (put_outside (omega (arith, a.positive)) (omega (arith, roomy)) p₂) (put_outside (omega arith) (omega (arith, roomy)) p₃));
          means = written;
        }
