-- The context of a line by what is noted of it. A variable's number among the variables is the length of its own context.
use mathlib.Core.Path.{◌≡◌, refl, sym, ap, ◌∙◌}
use mathlib.Core.Logic.{◌≢◌}
use mathlib.Core.Bool.{Bool, true, false, ◌||◌, false≢true}
use mathlib.Core.List.{List, [], ◌∷◌, ◌++◌}
use Prim.Native.Nat.{ℕ, zero, suc, ◌+◌, ◌*◌, ◌/◌, ◌≤◌, ◌<◌}
use native.Mathlib.Omega.{arith}
use lib.Dec.{eqb, leb}
use lib.ListN.{length, get_or, set, length-append, get_or-append}
use lib.Seq.{get_or-append_seam, get_or-set_same, get_or-set_other}
use borrow.Author.Tests.{eq-eqb, eqb-true, eqb-false, leb-true, leb-false}
use Rattle.aut68.specs.Bytes.{Bytes}
use Rattle.aut68.specs.Lines.{Line, Lines, row_cell}
use Rattle.aut68.specs.Procedure.Resolve.{member, context_at}
use Rattle.aut68.specs.Rules.Names.{IsLine, Context, no_context, within}
use Rattle.aut68.specs.Sizes.{cell_values, at_indicator, at_context}
use Rattle.lookup.specs.Contexts.{line_context, context_unique}
use Rattle.cells.specs.Cells.{Outside}
use Rattle.cells.specs.Stores.{outside_same, outside_then, outside_more, outside_sets}
use Rattle.cells.specs.Layout.{context_unit, line_unit, reader_units}
use Rattle.names.specs.Known.{Known}
use Rattle.names.proofs.FindLaws.{line_at}
use Rattle.meanings.specs.Posts.{OnChain, InContext, VariablePut, ContextPost}
use Rattle.meanings.proofs.ContextLaws.{context_is_lem, zero_context}
use Rattle.meanings.specs.NotedContext.{variable_at, noted_variables}

-- ---- members by their numbers

pub member_at : (v : ℕ) (xs : List ℕ) (j : ℕ) → j < length xs → get_or xs j 0 ≡ v → member v xs ≡ true
unfolding member
member_at v [] j l e = absurd (omega arith)
member_at v (x ∷ xs) zero l e = ap (λ t. t || member v xs) (eq-eqb v x (sym e))
member_at v (x ∷ xs) (suc j) l e = split (eqb v x) (member_at v xs j (omega arith) e)
  where
    split : (t : Bool) → member v xs ≡ true → (t || member v xs) ≡ true
    split true h = refl
    split false h = h

-- v stands at the place j of xs
record Stands (v : ℕ) (xs : List ℕ) : Type 0 where
  place : ℕ
  inside : place < length xs
  is : get_or xs place 0 ≡ v

stands : (v : ℕ) (xs : List ℕ) → member v xs ≡ true → Stands v xs
unfolding member
stands v [] e = absurd (false≢true e)
stands v (x ∷ xs) e = split (eqb v x) refl e (stands v xs)
  where
    split : (t : Bool) → eqb v x ≡ t → (t || member v xs) ≡ true → (member v xs ≡ true → Stands v xs) → Stands v (x ∷ xs)
    split true q h again = record { place = 0; inside = omega arith; is = sym (eqb-true v x q) }
    split false q h again = let r = again h in record { place = suc r.place; inside = omega (arith, r.inside); is = r.is }

-- each line of the list has its place as its number
pub record Numbers (tb vs : List ℕ) : Type 0 where
  pub number : (j : ℕ) → j < length vs → row_cell tb (get_or vs j 0) at_context ≡ j

numbers_more : (tb vs : List ℕ) (v : ℕ) → Numbers tb vs → row_cell tb v at_context ≡ length vs → Numbers tb (vs ++ (v ∷ []))
numbers_more tb vs v ns e = record { number = λ j l. split j l (leb (suc j) (length vs)) refl }
  where
    split : (j : ℕ) → j < length (vs ++ (v ∷ [])) → (t : Bool) → leb (suc j) (length vs) ≡ t → row_cell tb (get_or (vs ++ (v ∷ [])) j 0) at_context ≡ j
    split j l true q =
        let h = leb-true (suc j) (length vs) q in
        ap (λ u. row_cell tb u at_context) (get_or-append vs (v ∷ []) 0 j (omega arith)) ∙ ns.number j (omega arith)
    split j l false q =
        let h = leb-false (suc j) (length vs) q in
        let r : j ≡ length vs = omega (arith, length-append vs (v ∷ [])) in
        ap (λ i. row_cell tb (get_or (vs ++ (v ∷ [])) i 0) at_context) r ∙ ap (λ u. row_cell tb u at_context) (get_or-append_seam vs v [] 0) ∙ e ∙ sym r

module _ {tb : List ℕ} (v : ℕ) (vs : List ℕ) (ns : Numbers tb vs) where
  -- a line of the list stands at its number
  pub at_number_lem : member v vs ≡ true → (row_cell tb v at_context < length vs) × (get_or vs (row_cell tb v at_context) 0 ≡ v)
  at_number_lem m =
      let s = stands v vs m in
      let q : row_cell tb v at_context ≡ s.place = ap (λ u. row_cell tb u at_context) (sym s.is) ∙ ns.number s.place s.inside in
      (omega (arith, s.inside), ap (λ i. get_or vs i 0) q ∙ s.is)

  not_there : length vs ≤ row_cell tb v at_context → member v vs ≡ false
  not_there l = split (member v vs) refl
    where
      split : (t : Bool) → member v vs ≡ t → t ≡ false
      split true m = let (h, e) = at_number_lem m in absurd (omega arith)
      split false m = refl

  by_number : row_cell tb v at_context < length vs → {x : ℕ} → x ≡ get_or vs (row_cell tb v at_context) 0 → eqb x v ≡ member v vs
  by_number l {x} e = split (eqb x v) refl
    where
      other : (t : Bool) → member v vs ≡ t → x ≢ v → false ≡ t
      other true m n = let (h, q) = at_number_lem m in absurd (n (e ∙ q))
      other false m n = refl

      split : (t : Bool) → eqb x v ≡ t → t ≡ member v vs
      split true q = sym (member_at v vs (row_cell tb v at_context) l (sym e ∙ eqb-true x v q))
      split false q = other (member v vs) refl (eqb-false x v q)

module _ {ls : Lines} {book tb : List ℕ} {lines : ℕ} (k : Known ls book tb lines) where
  pub context_numbers : {c : ℕ} {vs : List ℕ} → Context ls c vs → Numbers tb vs
  context_numbers no_context = record { number = λ j l. absurd (omega arith) }
  context_numbers (within {v} {l} {vs} h e c) =
      numbers_more tb vs v (context_numbers c) ((k.rows.row h).context_is ∙ ap length (context_unique (k.contexts h) c))

  -- the context that ends with line c: that of its indicator, and c
  context_opens : {c : ℕ} {l : Line} → IsLine ls c l → context_at ls c ≡ context_at ls l.indicator ++ (c ∷ [])
  context_opens {c} h = line_context h ∙ ap (λ xs. xs ++ (c ∷ [])) (sym (context_is_lem k (k.contexts h)))

  number_is_lem : {c : ℕ} {l : Line} → IsLine ls c l → row_cell tb c at_context ≡ length (context_at ls l.indicator)
  number_is_lem h = (k.rows.row h).context_is ∙ ap length (sym (context_is_lem k (k.contexts h)))

  pub at_numbers : (c : ℕ) → 0 < c → c ≤ lines → Numbers tb (context_at ls c)
  at_numbers c p b =
      let (l, h) = line_at k c p b in
      rw (context_opens h) (numbers_more tb (context_at ls l.indicator) c (rw (context_is_lem k (k.contexts h)) (context_numbers (k.contexts h))) (number_is_lem h))

  pub at_length : (c : ℕ) → 0 < c → c ≤ lines → length (context_at ls c) ≡ suc (row_cell tb c at_context)
  at_length c p b =
      let (l, h) = line_at k c p b in
      ap length (context_opens h) ∙ length-append (context_at ls l.indicator) (c ∷ []) ∙ omega (arith, number_is_lem h)

-- ---- is a line in the context?

pub in_no_context : {tb w : List ℕ} {last v : ℕ} → last ≡ 0 → InContext tb w last v false
unfolding member
in_no_context {v = v} e =
    record { is = λ ls book lines k c b p. sym (ap (λ n. member v (context_at ls n)) e ∙ ap (member v) (zero_context ls)) }

module _ {tb w : List ℕ} {last v i : ℕ} (n : last ≢ 0) (ei : i ≡ row_cell tb v at_context) where
  pub number_too_large : {most : ℕ} → most ≡ row_cell tb last at_context → most < i → InContext tb w last v false
  number_too_large em l =
      record {
        is = λ ls book lines k c b p.
            sym (not_there v (context_at ls last) (at_numbers k last (omega arith) b) (omega (arith, at_length k last (omega arith) b)));
      }

  pub number_noted : {most x : ℕ} → most ≡ row_cell tb last at_context → i ≤ most → most < i + noted_variables → i < length w / reader_units
      → x ≡ get_or w (variable_at w i) 0 → InContext tb w last v (eqb x v)
  number_noted {most} {x} em l near u ex =
      record {
        is = λ ls book lines k c b p.
            let a : i < length (context_at ls last) = omega (arith, at_length k last (omega arith) b) in
            let d : length (context_at ls last) ≤ i + noted_variables = omega (arith, at_length k last (omega arith) b) in
            by_number v (context_at ls last) (at_numbers k last (omega arith) b) (omega arith)
            (ex ∙ c.variable i a d u ∙ ap (λ j. get_or (context_at ls last) j 0) ei);
      }

pub by_chain : {tb w : List ℕ} {last v : ℕ} {r : Bool} → OnChain tb last v r → InContext tb w last v r
by_chain h = record { is = λ ls book lines k c b p. h.is ls book lines k b p }

-- ---- a variable noted

pub not_put : {w : List ℕ} {i c : ℕ} → (c < cell_values → i < length w / reader_units → ⊥) → VariablePut w w i c
not_put n = record { kept = outside_same; others = λ j d. refl; put = λ s u. absurd (n s u) }

pub was_put : {w : List ℕ} {i c : ℕ} → i < length w / reader_units → VariablePut w (set w (variable_at w i) c) i c
was_put {w} {i} {c} u =
    record {
      kept = outside_more (omega arith) (omega arith) (outside_sets w (c ∷ []) (variable_at w i));
      others = λ j d. get_or-set_other w (variable_at w i) (variable_at w j) c 0 (λ e. d (omega arith));
      put = λ s u. get_or-set_same w (variable_at w i) c 0 (omega arith);
    }

-- ---- the loop that notes a context

-- the lines of the context from c on are left to be noted
pub record NotedSoFar (tb w₀ w : List ℕ) (last c : ℕ) : Type 0 where
  pub within : c ≤ last
  pub kept : Outside (context_unit * (length w₀ / reader_units)) (line_unit * (length w₀ / reader_units)) w₀ w
  pub before : (ls : Lines) (book : Bytes) (lines : ℕ) → Known ls book tb lines → last ≤ lines
      → (i : ℕ) → i < length (context_at ls c) → (i < length (context_at ls last)) × (get_or (context_at ls last) i 0 ≡ get_or (context_at ls c) i 0)
  pub noted : (ls : Lines) (book : Bytes) (lines : ℕ) → Known ls book tb lines → last ≤ lines
      → (i : ℕ) → length (context_at ls c) ≤ i → i < length (context_at ls last) → i < length w₀ / reader_units
      → get_or w (variable_at w₀ i) 0 ≡ get_or (context_at ls last) i 0

pub noted_start : {tb w : List ℕ} {last : ℕ} → NotedSoFar tb w w last last
noted_start =
    record {
      within = omega arith;
      kept = outside_same;
      before = λ ls book lines k b i l. (l, refl);
      noted = λ ls book lines k b i l m u. absurd (omega arith);
    }

module _ {tb w₀ w : List ℕ} {last c : ℕ} (h : NotedSoFar tb w₀ w last c) where
  pub noted_all : c ≤ 0 → ContextPost tb w₀ w last
  noted_all z =
      record {
        kept = h.kept;
        noted = λ ls book lines k b.
            record {
              variable = λ i a d u.
                  let none : length (context_at ls c) ≡ 0 = ap (λ n. length (context_at ls n)) {y = 0} (omega arith) ∙ ap length (zero_context ls) in
                  let q : length w / reader_units ≡ length w₀ / reader_units = ap (λ n. n / reader_units) h.kept.long in
                  ap (λ n. get_or w (context_unit * n + i) 0) q ∙ h.noted ls book lines k b i (omega arith) a (omega arith);
            };
      }

  module _ (p : 0 < c) {next : ℕ} (en : next ≡ row_cell tb c at_indicator) where
    pub noted_broken : c ≤ next → ContextPost tb w₀ w last
    noted_broken l =
        record {
          kept = h.kept;
          noted = λ ls book lines k b.
              let (x, i) = line_at k c p (omega (arith, h.within)) in
              absurd (omega (arith, k.behind i, (k.rows.row i).indicator_is));
        }

    -- the variables from c's on are not among the last
    pub noted_enough : {i end : ℕ} → i ≡ row_cell tb c at_context → end ≡ row_cell tb last at_context → i + noted_variables ≤ end → ContextPost tb w₀ w last
    noted_enough {i} {end} ei ee far =
        record {
          kept = h.kept;
          noted = λ ls book lines k b.
              record {
                variable = λ j a d u.
                    let q : length w / reader_units ≡ length w₀ / reader_units = ap (λ n. n / reader_units) h.kept.long in
                    let m : length (context_at ls c) ≡ suc (row_cell tb c at_context) = at_length k c p (omega (arith, h.within)) in
                    let n : length (context_at ls last) ≡ suc (row_cell tb last at_context) = at_length k last (omega (arith, h.within)) b in
                    ap (λ n. get_or w (context_unit * n + j) 0) q ∙ h.noted ls book lines k b j (omega arith) a (omega arith);
              };
        }

    module _ {i : ℕ} {w₁ : List ℕ} (l : next < c) (ei : i ≡ row_cell tb c at_context) (q : VariablePut w w₁ i c) where
      -- the context up to c is that up to next, and c
      opens : (ls : Lines) (book : Bytes) (lines : ℕ) → Known ls book tb lines → last ≤ lines
          → (context_at ls c ≡ context_at ls next ++ (c ∷ [])) × (i ≡ length (context_at ls next))
      opens ls book lines k b =
          let (x, r) = line_at k c p (omega (arith, h.within)) in
          let e : x.indicator ≡ next = sym (en ∙ (k.rows.row r).indicator_is) in
          (context_opens k r ∙ ap (λ n. context_at ls n ++ (c ∷ [])) e, ei ∙ number_is_lem k r ∙ ap (λ n. length (context_at ls n)) e)

      units : length w / reader_units ≡ length w₀ / reader_units
      units = ap (λ n. n / reader_units) h.kept.long

      module _ (ls : Lines) (book : Bytes) (lines : ℕ) (k : Known ls book tb lines) (b : last ≤ lines) where
        longer : length (context_at ls c) ≡ suc i
        longer =
            let (e, n) = opens ls book lines k b in
            ap length e ∙ length-append (context_at ls next) (c ∷ []) ∙ omega arith

        earlier : (j : ℕ) → j < length (context_at ls next) → (j < length (context_at ls last)) × (get_or (context_at ls last) j 0 ≡ get_or (context_at ls next) j 0)
        earlier j a =
            let (e, n) = opens ls book lines k b in
            let (d, g) = h.before ls book lines k b j (omega (arith, longer)) in
            (d, g ∙ ap (λ xs. get_or xs j 0) e ∙ get_or-append (context_at ls next) (c ∷ []) 0 j a)

        here : get_or (context_at ls last) i 0 ≡ c
        here =
            let (e, n) = opens ls book lines k b in
            let (d, g) = h.before ls book lines k b i (omega (arith, longer)) in
            g ∙ ap (λ xs. get_or xs i 0) e ∙ ap (λ j. get_or (context_at ls next ++ (c ∷ [])) j 0) n ∙ get_or-append_seam (context_at ls next) c [] 0

        later : (j : ℕ) → i ≤ j → j < length (context_at ls last) → j < length w₀ / reader_units → (t : Bool) → eqb j i ≡ t
            → get_or w₁ (variable_at w₀ j) 0 ≡ get_or (context_at ls last) j 0
        later j a d u true e =
            let r : j ≡ i = eqb-true j i e in
            ap (λ m. get_or w₁ (variable_at w₀ m) 0) r
            ∙ ap (λ n. get_or w₁ (context_unit * n + i) 0) (sym units)
            ∙ q.put (omega (arith, h.within, k.few)) (omega (arith, units))
            ∙ sym here
            ∙ ap (λ m. get_or (context_at ls last) m 0) (sym r)
        later j a d u false e =
            let n = eqb-false j i e in
            ap (λ n. get_or w₁ (context_unit * n + j) 0) (sym units)
            ∙ q.others j n
            ∙ ap (λ n. get_or w (context_unit * n + j) 0) units
            ∙ h.noted ls book lines k b j (omega (arith, longer)) d u

      pub noted_more : NotedSoFar tb w₀ w₁ last next
      noted_more =
          record {
            within = omega (arith, h.within);
            kept = outside_then h.kept (outside_more (omega (arith, units)) (omega (arith, units)) q.kept);
            before = λ ls book lines k b j a. earlier ls book lines k b j a;
            noted = λ ls book lines k b j a d u.
                let (e, n) = opens ls book lines k b in
                later ls book lines k b j (omega arith) d u (eqb j i) refl;
          }
