-- The context of a line, by following indicators.
use mathlib.Core.Path.{◌≡◌, refl, sym, ap, ap₂, ◌∙◌}
use mathlib.Core.Logic.{◌≢◌}
use mathlib.Core.Bool.{Bool, true, false, ◌||◌}
use mathlib.Core.List.{List, [], ◌∷◌, ◌++◌}
use Prim.Native.Nat.{ℕ, zero, suc, ◌≤◌, ◌<◌}
use native.Mathlib.Omega.{arith}
use lib.Dec.{eqb}
use borrow.Author.Tests.{eq-eqb, ne_eqb, eqb-true, eqb-false}
use Rattle.aut68.specs.Bytes.{Bytes}
use Rattle.aut68.specs.Lines.{Line, Lines, row_cell}
use Rattle.aut68.specs.Procedure.Resolve.{member, context_at}
use Rattle.aut68.specs.Rules.Names.{IsLine, Context}
use Rattle.aut68.specs.Sizes.{at_indicator}
use Rattle.lookup.specs.Contexts.{line_context, context_at_lem}
use Rattle.names.specs.Known.{Known}
use Rattle.names.proofs.FindLaws.{line_at}
use Rattle.meanings.specs.Posts.{OnChain}

or_assoc : (x y z : Bool) → (x || (y || z)) ≡ ((x || y) || z)
or_assoc true y z = refl
or_assoc false y z = refl

or_none : (x : Bool) → (x || false) ≡ x
or_none true = refl
or_none false = refl

or_true : (x : Bool) → (x || true) ≡ true
or_true true = refl
or_true false = refl

member_last : (v : ℕ) (xs : List ℕ) (c : ℕ) → member v (xs ++ (c ∷ [])) ≡ (member v xs || eqb v c)
unfolding member
member_last v [] c = or_none (eqb v c)
member_last v (x ∷ xs) c = ap (λ t. eqb v x || t) (member_last v xs c) ∙ or_assoc (eqb v x) (member v xs) (eqb v c)

pub zero_context : (ls : Lines) → context_at ls 0 ≡ []
unfolding context_at
zero_context ls = refl

module _ {ls : Lines} {book tb : List ℕ} {lines : ℕ} (k : Known ls book tb lines) where
  pub context_is_lem : {v : ℕ} {vs : List ℕ} → Context ls v vs → context_at ls v ≡ vs
  context_is_lem c = context_at_lem (λ v l h. k.contexts h) c

  -- the context that ends with line c is that of its indicator, and c
  member_step : (v : ℕ) {c : ℕ} {l : Line} → IsLine ls c l → member v (context_at ls c) ≡ (member v (context_at ls l.indicator) || eqb v c)
  member_step v {c} {l} h =
      ap (member v) (line_context h) ∙ member_last v l.context c ∙ ap (λ xs. member v xs || eqb v c) (sym (context_is_lem (k.contexts h)))

  -- every line of the context is at most the last
  above_step : (n v c : ℕ) → ((d : ℕ) → d ≤ n → d ≤ lines → d < v → member v (context_at ls d) ≡ false)
      → c ≤ suc n → c ≤ lines → c < v → member v (context_at ls c) ≡ false
  unfolding member
  above_step n v zero ih b d l = ap (member v) (zero_context ls)
  above_step n v (suc c) ih b d l =
      let (x, h) = line_at k (suc c) (omega arith) d in
      let i = k.behind h in
      member_step v h ∙ ap₂ ◌||◌ (ih x.indicator (omega arith) (omega arith) (omega arith)) (ne_eqb v (suc c) (λ e. omega arith))

  member_above : (n v c : ℕ) → c ≤ n → c ≤ lines → c < v → member v (context_at ls c) ≡ false
  unfolding member
  member_above zero v c b d l =
      let e : c ≡ 0 = omega arith in
      ap (λ x. member v (context_at ls x)) e ∙ ap (member v) (zero_context ls)
  member_above (suc n) v c b d l = above_step n v c (member_above n v) b d l

-- following indicators from `last` came to c
pub record ChainSoFar (tb : List ℕ) (last v c : ℕ) : Type 0 where
  pub within : c ≤ last
  pub rest : (ls : Lines) (book : Bytes) (lines : ℕ) → Known ls book tb lines → last ≤ lines → member v (context_at ls last) ≡ member v (context_at ls c)

pub chain_start : {tb : List ℕ} {last v : ℕ} → ChainSoFar tb last v last
chain_start = record { within = omega arith; rest = λ ls book lines k b. refl }

module _ {tb : List ℕ} {last v c : ℕ} (h : ChainSoFar tb last v c) where
  module _ (l : v < c) {next : ℕ} (e : next ≡ row_cell tb c at_indicator) where
    next_is_lem : (ls : Lines) (book : Bytes) (lines : ℕ) → Known ls book tb lines → last ≤ lines → (x : Line) × IsLine ls c x × (next ≡ x.indicator)
    next_is_lem ls book lines k b =
        let (x, i) = line_at k c (omega arith) (omega (arith, h.within)) in
        (x, i, e ∙ (k.rows.row i).indicator_is)

    pub chain_more : next < c → ChainSoFar tb last v next
    chain_more b =
        record {
          within = omega (arith, h.within);
          rest = λ ls book lines k d.
              let (x, i, q) = next_is_lem ls book lines k d in
              h.rest ls book lines k d
              ∙ member_step k v i
              ∙ ap₂ ◌||◌ (ap (λ n. member v (context_at ls n)) (sym q)) (ne_eqb v c (λ z. omega arith))
              ∙ or_none (member v (context_at ls next));
        }

    pub chain_broken : c ≤ next → OnChain tb last v false
    chain_broken b =
        record {
          is = λ ls book lines k d p.
              let (x, i, q) = next_is_lem ls book lines k d in
              absurd (omega (arith, k.behind i));
        }

  chain_found : c ≡ v → OnChain tb last v true
  chain_found e =
      record {
        is = λ ls book lines k d p.
            let (x, i) = line_at k c (omega arith) (omega (arith, h.within)) in
            sym (h.rest ls book lines k d ∙ member_step k v i ∙ ap (λ t. member v (context_at ls x.indicator) || t) (eq-eqb v c (sym e)) ∙ or_true (member v (context_at ls x.indicator)));
      }

  chain_passed : c ≤ v → c ≢ v → OnChain tb last v false
  chain_passed b n =
      record {
        is = λ ls book lines k d p. sym (h.rest ls book lines k d ∙ member_above k c v c (omega arith) (omega (arith, h.within)) (omega arith));
      }

  pub chain_end : c ≤ v → OnChain tb last v (eqb c v)
  chain_end b = split (eqb c v) refl
    where
      split : (t : Bool) → eqb c v ≡ t → OnChain tb last v t
      split true e = chain_found (eqb-true c v e)
      split false e = chain_passed b (eqb-false c v e)
