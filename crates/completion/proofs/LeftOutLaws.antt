-- The last variable left out: found along the chain, it decides by one comparison whether all of them can be put in.
use mathlib.Core.Path.{◌≡◌, sym, ap, ◌∙◌, subst}
use Rattle.std.specs.Prelude.{None, Some}
use mathlib.Core.Bool.{Bool, true, false, false≢true}
use mathlib.Core.List.{List, [], ◌∷◌, ◌++◌}
use Prim.Native.Nat.{ℕ, zero, suc, ◌+◌, ◌-◌, ◌≤◌, ◌<◌}
use native.Mathlib.Omega.{arith}
use native.Mathlib.Decide.{dec_lt}
use lib.ListN.{length, get_or, take, length-append, get_or-append}
use lib.Seq.{take-append-le, take_all, get_or_at, length-take-le}
use Rattle.aut68.specs.Lines.{Line, Lines, row_cell}
use Rattle.aut68.specs.Procedure.Answer.{wrong_arity}
use Rattle.aut68.specs.Procedure.Resolve.{found, refused, member, left_out, context_at}
use Rattle.aut68.specs.Rules.Names.{IsLine, Context}
use Rattle.aut68.specs.Sizes.{at_indicator, at_context}
use Rattle.lookup.specs.Completing.{left_out_complete}
use Rattle.lookup.specs.Contexts.{line_context}
use Rattle.lookup.specs.LineNumbers.{line_within}
use Rattle.lookup.specs.OneComparison.{context_prefix, left_out_take, cannot_be_put_in}
use Rattle.names.specs.Known.{Known}
use Rattle.names.proofs.FindLaws.{line_at}
use Rattle.meanings.specs.Posts.{InContext}
use Rattle.meanings.proofs.ContextLaws.{context_is_lem, zero_context}
use Rattle.meanings.proofs.NotedLaws.{member_at, at_number_lem, context_numbers, at_numbers}
use Rattle.completion.specs.Posts.{LineUp, LastLeftOut}
use Rattle.completion.proofs.UpLaws.{context_chain, up_within}

module _ {ls : Lines} {book tb : List ℕ} {lines : ℕ} (k : Known ls book tb lines) where
  -- a context up to one of its variables is the context that ends with that variable
  up_to : {c : ℕ} {vs : List ℕ} → Context ls c vs → (n : ℕ) → n < length vs → context_at ls (get_or vs n 0) ≡ take (suc n) vs
  up_to c n a = context_is_lem k (context_prefix c n a)

  up_to_last : {c : ℕ} {l : Line} → IsLine ls c l → (n : ℕ) → n < length (l.context ++ (c ∷ [])) → Dec (n < length l.context)
      → context_at ls (get_or (l.context ++ (c ∷ [])) n 0) ≡ take (suc n) (l.context ++ (c ∷ []))
  up_to_last {c} {l} h n a (yes p) =
      ap (context_at ls) (get_or-append l.context (c ∷ []) 0 n p)
      ∙ up_to (k.contexts h) n p
      ∙ sym (take-append-le (suc n) l.context (c ∷ []) p)
  up_to_last {c} {l} h n a (no p) =
      let q = length-append l.context (c ∷ []) in
      ap (context_at ls) (get_or_at l.context c [] 0 n (omega arith))
      ∙ line_context h
      ∙ sym (take_all (suc n) (l.context ++ (c ∷ [])) (omega arith))

  at_up_to : (c : ℕ) → c ≤ lines → (n : ℕ) → n < length (context_at ls c) → context_at ls (get_or (context_at ls c) n 0) ≡ take (suc n) (context_at ls c)
  at_up_to zero b n a = absurd (omega (arith, ap length (zero_context ls)))
  at_up_to (suc c) b n a =
      let (l, h) = line_at k (suc c) (omega arith) b in
      rw (line_context h) (up_to_last h n (rw (line_context h) at a) (dec_lt n (length l.context)))

  -- n variables of the constant's context stand before the last that is left out
  module _ {c : ℕ} {of : List ℕ} (x : Context ls c of) {count last : ℕ} (u : LineUp tb c count last) (n : ℕ) (e : n + suc count ≡ length of) where
    at_place : get_or of n 0 ≡ last
    at_place = (context_chain k x).up n count e ∙ sym u.is

    its_context : context_at ls last ≡ take (suc n) of
    its_context = ap (context_at ls) (sym at_place) ∙ up_to x n (omega arith)

    its_number : row_cell tb last at_context ≡ n
    its_number = ap (λ i. row_cell tb i at_context) (sym at_place) ∙ (context_numbers k x).number n (omega arith)

    positive : 0 < last
    positive = go last its_context
      where
        go : (i : ℕ) → context_at ls i ≡ take (suc n) of → 0 < i
        go zero q = absurd (omega (arith, ap length (sym (zero_context ls) ∙ q), length-take-le (suc n) of (omega arith)))
        go (suc i) q = omega arith

    cannot : (own : List ℕ) → member last own ≡ false → left_out count of own tt ≡ refused wrong_arity
    cannot own m = cannot_be_put_in of own count n (omega arith) (λ (a, q). false≢true (sym m ∙ member_at last own n a (sym q ∙ at_place)))

    can : (indicator : ℕ) → indicator ≤ lines → member last (context_at ls indicator) ≡ true → left_out count of (context_at ls indicator) tt ≡ found (context_at ls last)
    unfolding member
    can zero b m = absurd (false≢true (ap (member last) (sym (zero_context ls)) ∙ m))
    can (suc i) b m =
        let own = context_at ls (suc i) in
        let (a, q) = at_number_lem last own (at_numbers k (suc i) (omega arith) b) m in
        let d : n < length own = omega (arith, its_number) in
        let r : get_or own n 0 ≡ last = ap (λ j. get_or own j 0) (sym its_number) ∙ q in
        let same : take (suc n) of ≡ take (suc n) own = sym its_context ∙ ap (context_at ls) (sym r) ∙ at_up_to (suc i) b n d in
        left_out_complete (left_out_take (suc n) of own same (omega arith) d) ∙ ap (λ us. found us) (sym its_context)

  -- the context of the constant ends with the line that its row has as indicator
  of_constant_lem : {v own : ℕ} {l : Line} → IsLine ls v l → own ≡ row_cell tb v at_indicator → (own ≤ lines) × Context ls own l.context
  of_constant_lem {v} {own} {l} h e =
      let q : own ≡ l.indicator = e ∙ (k.rows.row h).indicator_is in
      (omega (arith, k.behind h, line_within h, k.count), rw q (k.contexts h))

module _ {tb w : List ℕ} {indicator v own count last : ℕ} {t : Bool} (e : own ≡ row_cell tb v at_indicator) (u : LineUp tb own count last)
    (i : InContext tb w indicator last t) where
  pub left_out_here : t ≡ true → LastLeftOut tb w indicator v count (Some last)
  left_out_here r =
      record {
        none = λ ls book lines k c b l h m z. absurd (cc);
        some = λ ls book lines k c b l h m y z.
            let (s, x) = of_constant_lem k h e in
            let n = length l.context - suc count in
            let p : 0 < last = positive k x u n (omega arith) in
            let q : last ≡ y = cc in
            subst (λ y. (1 ≤ y) × (y ≤ lines) × (left_out count l.context (context_at ls indicator) tt ≡ found (context_at ls y))) q
            (p, omega (arith, u.is, up_within k own s count), can k x u n (omega arith) indicator b (sym (i.is ls book lines k c b p) ∙ r));
      }

  pub left_out_nowhere : t ≡ false → LastLeftOut tb w indicator v count None
  left_out_nowhere r =
      record {
        none = λ ls book lines k c b l h m z.
            let (s, x) = of_constant_lem k h e in
            let n = length l.context - suc count in
            cannot k x u n (omega arith) (context_at ls indicator) (sym (i.is ls book lines k c b (positive k x u n (omega arith))) ∙ r);
        some = λ ls book lines k c b l h m y z. absurd (cc);
      }
