-- Chains of numbered items. Each item, from 1 on, belongs in a slot: the slot has the number of its last item, and an item links to
-- the one before it there. 0: none.
use Rattle.std.specs.Prelude.{Option, Some, None, ◌≡◌, refl, ◌≢◌, Bool, true, false, ℕ, suc, ◌≤◌, ◌<◌, leb}
use Rattle.std.proofs.Common.{sym, ap, ◌∙◌, subst, true≢false, arith, leb-true, leb-false}
use Rattle.std.proofs.Math.Decide.{ℕ_discrete}
use Rattle.names.specs.Search.{Gives}

-- the chain from item u on comes to item v
pub data Chained (link : ℕ → ℕ) (v : ℕ) : ℕ → Type 0 where
  here : {u : ℕ} → u ≡ v → Chained link v u
  later : {u : ℕ} → u ≢ 0 → Chained link v (link u) → Chained link v u

-- The chain of its slot comes to each of the items. Chains go down; the slots up to `most` have items alone.
pub record Chains (slot link head : ℕ → ℕ) (most items : ℕ) : Type 0 where
  pub chained : (v : ℕ) → 1 ≤ v → v ≤ items → Chained link v (head (slot v))
  pub falls : (v : ℕ) → 1 ≤ v → v ≤ items → link v < v
  pub heads : (i : ℕ) → i ≤ most → head i ≤ items

-- ---- chains that are kept

-- no item at first
pub chains_none : {slot link head : ℕ → ℕ} {most : ℕ} → ((i : ℕ) → i ≤ most → head i ≡ 0) → Chains slot link head most 0
chains_none z = record { chained = λ v a b. absurd (omega arith); falls = λ v a b. absurd (omega arith); heads = λ i l. omega (arith, z i l) }

module _ {slot link head slot' link' : ℕ → ℕ} {most items : ℕ} (inside : (v : ℕ) → slot v ≤ most)
    (slots : (v : ℕ) → 1 ≤ v → v ≤ items → slot' v ≡ slot v)
    (links : (v : ℕ) → 1 ≤ v → v ≤ items → link' v ≡ link v)
    (C : Chains slot link head most items) where
  -- a chain of items that were there
  chain_kept : (v u : ℕ) → u ≤ items → Chained link v u → Chained link' v u
  chain_kept v u b (here e) = here e
  chain_kept v u b (later n c) =
      let f = C.falls u (omega arith) b in
      later n (subst (Chained link' v) (sym (links u (omega arith) b)) (chain_kept v (link u) (omega arith) c))

  chained_kept : (v : ℕ) → 1 ≤ v → v ≤ items → Chained link' v (head (slot' v))
  chained_kept v a b =
      subst (λ (i : ℕ). Chained link' v (head i)) (sym (slots v a b)) (chain_kept v _ (C.heads _ (inside v)) (C.chained v a b))

  slot_kept : (v : ℕ) → 1 ≤ v → v ≤ items → slot' v ≤ most
  slot_kept v a b = omega (arith, slots v a b, inside v)

  falls_kept : (v : ℕ) → 1 ≤ v → v ≤ items → link' v < v
  falls_kept v a b = omega (arith, links v a b, C.falls v a b)

  -- all as it was
  pub chains_same : {head' : ℕ → ℕ} → ((i : ℕ) → i ≤ most → head' i ≡ head i) → Chains slot' link' head' most items
  chains_same same =
      record {
        chained = λ v a b. subst (Chained link' v) (sym (same _ (slot_kept v a b))) (chained_kept v a b);
        falls = falls_kept;
        heads = λ i l. omega (arith, same i l, C.heads i l);
      }

  -- one item more, linked to the former head of its slot, and its head now
  module _ {head' : ℕ → ℕ} (s : ℕ) (low : s ≤ most) (own : slot' (suc items) ≡ s) (linked : link' (suc items) ≡ head s) (first : head' s ≡ suc items)
      (others : (i : ℕ) → i ≤ most → i ≢ s → head' i ≡ head i) where
    chained_old : (v : ℕ) → 1 ≤ v → v ≤ items → Dec (slot' v ≡ s) → Chained link' v (head' (slot' v))
    chained_old v a b (no n) = subst (Chained link' v) (sym (others (slot' v) (slot_kept v a b) n)) (chained_kept v a b)
    chained_old v a b (yes e) =
        let c : Chained link' v (link' (suc items)) = subst (Chained link' v) (ap head e ∙ sym linked) (chained_kept v a b) in
        subst (Chained link' v) (sym (ap head' e ∙ first)) (later (λ z. omega arith) c)

    chained_new : (v : ℕ) → v ≡ suc items → Chained link' v (head' (slot' v))
    chained_new v e = here (ap head' (ap slot' e ∙ own) ∙ first ∙ sym e)

    chained_more : (v : ℕ) (t : Bool) → leb v items ≡ t → 1 ≤ v → v ≤ suc items → Chained link' v (head' (slot' v))
    chained_more v true e a b = chained_old v a (leb-true v items e) (ℕ_discrete (slot' v) s)
    chained_more v false e a b = chained_new v (omega (arith, leb-false v items e))

    falls_more : (v : ℕ) (t : Bool) → leb v items ≡ t → 1 ≤ v → v ≤ suc items → link' v < v
    falls_more v true e a b = falls_kept v a (leb-true v items e)
    falls_more v false e a b =
        let q : v ≡ suc items = omega (arith, leb-false v items e) in
        omega (arith, ap link' q, linked, C.heads s low)

    heads_more : (i : ℕ) → i ≤ most → Dec (i ≡ s) → head' i ≤ suc items
    heads_more i l (yes e) = omega (arith, ap head' e, first)
    heads_more i l (no n) = omega (arith, others i l n, C.heads i l)

    pub chains_more : Chains slot' link' head' most (suc items)
    chains_more =
        record {
          chained = λ v a b. chained_more v (leb v items) refl a b;
          falls = λ v a b. falls_more v (leb v items) refl a b;
          heads = λ i l. heads_more i l (ℕ_discrete i s);
        }

-- ---- down a chain, on the condition G

-- the chain from v on comes to each item that passes the test
pub record Searching (G : Type 0) (is : ℕ → Bool) (link : ℕ → ℕ) (items v : ℕ) : Type 0 where
  pub within : G → v ≤ items
  pub falls : G → (u : ℕ) → 1 ≤ u → u ≤ items → link u < u
  pub comes : G → (u : ℕ) → 1 ≤ u → u ≤ items → is u ≡ true → Chained link u v

-- r is an item that passes the test; 0: none does
pub record Found (G : Type 0) (is : ℕ → Bool) (items r : ℕ) : Type 0 where
  pub within : r ≤ items
  pub passes : G → r ≢ 0 → is r ≡ true
  pub fails : G → r ≡ 0 → (u : ℕ) → 1 ≤ u → u ≤ items → is u ≢ true

-- from the head of the slot of all that pass
pub search_starts : {G : Type 0} {is : ℕ → Bool} {slot link head : ℕ → ℕ} {most items v : ℕ} (i : ℕ) → (G → Chains slot link head most items) → i ≤ most
    → (G → (u : ℕ) → is u ≡ true → slot u ≡ i) → v ≡ head i → Searching G is link items v
search_starts {link = link} {head} i C l slots e =
    record {
      within = λ g. omega (arith, e, (C g).heads i l);
      falls = λ g. (C g).falls;
      comes = λ g u a b p. subst (Chained link u) (ap head (slots g u p) ∙ sym e) ((C g).chained u a b);
    }

pub found_here : {G : Type 0} {is : ℕ → Bool} {items v : ℕ} {t : Bool} → v ≢ 0 → v ≤ items → (G → t ≡ is v) → t ≡ true → Found G is items v
found_here n b p e = record { within = b; passes = λ g m. sym (p g) ∙ e; fails = λ g z. absurd (n z) }

no_condition : {G : Type 0} {is : ℕ → Bool} {items : ℕ} → (G → ⊥) → Found G is items 0
no_condition f = record { within = omega arith; passes = λ g n. absurd (n refl); fails = λ g. absurd (f g) }

module _ {G : Type 0} {is : ℕ → Bool} {link : ℕ → ℕ} {items v : ℕ} (h : Searching G is link items v) where
  pub found_nothing : v ≡ 0 → Found G is items 0
  found_nothing z = record { within = omega arith; passes = λ g n. absurd (n refl); fails = λ g e u a b p. ends u a z (h.comes g u a b p) }
    where
      ends : (u : ℕ) → 1 ≤ u → {n : ℕ} → n ≡ 0 → Chained link u n → ⊥
      ends u a e (here q) = omega arith
      ends u a e (later n c) = n e

  -- the chain leaves the items, or goes up
  pub found_outside : items < v → Found G is items 0
  found_outside l = no_condition (λ g. let b = h.within g in omega arith)

  pub found_upward : v ≢ 0 → {next : ℕ} → next ≡ link v → v ≤ next → Found G is items 0
  found_upward n e l = no_condition (λ g. omega (arith, h.falls g v (omega arith) (h.within g)))

  pub search_on : {t : Bool} → (G → t ≡ is v) → t ≡ false → {next : ℕ} → next ≡ link v → next < v → Searching G is link items next
  search_on p f {next} e l =
      record {
        within = λ g. (let b = h.within g in omega arith);
        falls = h.falls;
        comes = λ g u a b q. subst (Chained link u) (sym e) (onward u q (sym (p g) ∙ f) (h.comes g u a b q));
      }
    where
      onward : (u : ℕ) → is u ≡ true → is v ≡ false → Chained link u v → Chained link u (link v)
      onward u p q (here r) = absurd (true≢false (sym p ∙ ap is (sym r) ∙ q))
      onward u p q (later m c) = c

-- ---- how a search goes

-- From item v down to what it gives: what the test may say of an item, and which item it may be linked to.
pub data WentDown (passes : ℕ → Bool → Type 0) (links : ℕ → ℕ → Type 0) (items : ℕ) : ℕ → Option ℕ → Type 0 where
  ended : {v : ℕ} → v ≡ 0 → WentDown passes links items v None
  outside : {v : ℕ} → items < v → WentDown passes links items v None
  passed : {v : ℕ} → v ≢ 0 → v ≤ items → passes v true → WentDown passes links items v (Some v)
  upward : {v next : ℕ} → v ≢ 0 → v ≤ items → passes v false → links v next → v ≤ next → WentDown passes links items v None
  onward : {v next : ℕ} {r : Option ℕ} → v ≢ 0 → v ≤ items → passes v false → links v next → next < v → WentDown passes links items next r → WentDown passes links items v r

-- What it gives is found, where the test and the links are those of the search.
module _ {G : Type 0} {is : ℕ → Bool} {link : ℕ → ℕ} {passes : ℕ → Bool → Type 0} {links : ℕ → ℕ → Type 0} {items : ℕ}
    (tests : (u : ℕ) → 1 ≤ u → u ≤ items → (t : Bool) → passes u t → G → t ≡ is u) (linked : (u : ℕ) → 1 ≤ u → u ≤ items → (n : ℕ) → links u n → n ≡ link u) where
  pub down_finds : {v : ℕ} {r : Option ℕ} → Searching G is link items v → WentDown passes links items v r → Gives (Found G is items) r
  down_finds s (ended e) = found_nothing s e
  down_finds s (outside l) = found_outside s l
  down_finds s (passed n b p) = (omega arith, found_here n b (tests _ (omega arith) b _ p) refl)
  down_finds s (upward n b p l u) = found_upward s n (linked _ (omega arith) b _ l) u
  down_finds s (onward n b p l d w) = down_finds (search_on s (tests _ (omega arith) b _ p) refl (linked _ (omega arith) b _ l) d) w
