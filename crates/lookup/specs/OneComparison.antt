-- For the program: contexts are paths in a tree, so two of them that have one line at one place agree up to it. One comparison
-- therefore decides whether the arguments left out can be put in.
use Rattle.std.specs.Prelude.{◌≡◌, refl, ℕ, zero, suc, ◌+◌, ◌≤◌, ◌<◌, List, [], ◌∷◌, ◌++◌, length, get_or, take}
use Rattle.std.proofs.Common.{ap, sym, ◌∙◌, subst, subst₂, arith, length-append, take_all}
use Rattle.std.proofs.Math.Decide.{dec_lt}
use Rattle.std.proofs.Math.ListN.{get_or-append}
use Rattle.std.proofs.lemmas.List.{take-append-le, get_or_at}
use Rattle.aut68.specs.Procedure.Answer.{Answer, done, stop, wrong_arity}
use Rattle.aut68.specs.Procedure.Resolve.{found, refused, left_out}
use Rattle.aut68.specs.Lines.{Lines}
use Rattle.aut68.specs.Rules.Names.{Context, no_context, within, LeftOut, all_written, first_left_out}
use Rattle.lookup.specs.Completing.{left_out_count, left_out_sound, left_out_complete, left_out_refuses}
use Rattle.lookup.specs.Contexts.{context_unique}

-- the context up to a variable is that variable's path
pub context_prefix : {ls : Lines} {v : ℕ} {vs : List ℕ} → Context ls v vs → (n : ℕ) → n < length vs → Context ls (get_or vs n 0) (take (suc n) vs)
context_prefix no_context n h = absurd (omega arith)
context_prefix {ls} (within {v} {l} {vs} i k c) n h = at (dec_lt n (length vs)) (λ p. context_prefix c n p)
  where
    at : Dec (n < length vs) → (n < length vs → Context ls (get_or vs n 0) (take (suc n) vs)) → Context ls (get_or (vs ++ (v ∷ [])) n 0) (take (suc n) (vs ++ (v ∷ [])))
    at (yes p) again =
        subst₂ (Context ls) (sym (get_or-append vs (v ∷ []) 0 n p)) (sym (take-append-le (suc n) vs (v ∷ []) (omega arith))) (again p)
    at (no p) again =
        let a = length-append vs (v ∷ []) in
        let e : length vs ≡ n = omega arith in
        subst₂ (Context ls) (sym (get_or_at vs v [] 0 n e)) (sym (take_all (suc n) (vs ++ (v ∷ [])) (omega arith))) (within i k c)

pub left_out_take : {j : ℕ} (n : ℕ) (of own : List ℕ) → take n of ≡ take n own → n + j ≡ length of → n ≤ length own → LeftOut j of own (take n of)
left_out_take {j} zero of own e c h = let q : j ≡ length of = omega arith in all_written q
left_out_take (suc n) [] own e c h = absurd (omega arith)
left_out_take (suc n) (v ∷ of) [] e c h = absurd (omega arith)
left_out_take {j} (suc n) (v ∷ of) (u ∷ own) e c h =
    let p : v ≡ u = cc in
    let q : take n of ≡ take n own = cc in
    subst (λ x. LeftOut j (v ∷ of) (x ∷ own) (v ∷ take n of)) p (first_left_out (left_out_take n of own q (omega arith) (omega arith)))

-- n + 1 are left out, and the last of them is the same line in both contexts: they can be put in
pub one_comparison : {ls : Lines} {a b j : ℕ} {of own : List ℕ} → Context ls a of → Context ls b own → (n : ℕ) → suc n + j ≡ length of → n < length own → get_or of n 0 ≡ get_or own n 0
    → LeftOut j of own (take (suc n) of)
one_comparison {ls} {of = of} {own = own} c d n e h q =
    let p : n < length of = omega arith in
    left_out_take (suc n) of own (context_unique (subst (λ u. Context ls u (take (suc n) of)) q (context_prefix c n p)) (context_prefix d n h)) e (omega arith)

-- and only then
pub comparison_holds : {j : ℕ} {of own us : List ℕ} → LeftOut j of own us → (n : ℕ) → suc n + j ≡ length of → (n < length own) × (get_or of n 0 ≡ get_or own n 0)
comparison_holds (all_written e) n q = absurd (omega arith)
comparison_holds (first_left_out h) zero q = (omega arith, refl)
comparison_holds (first_left_out h) (suc n) q = let (a, b) = comparison_holds h n (omega arith) in (omega arith, b)

-- ---- what `left_out` answers, by count and one comparison

refuse_unless : (j : ℕ) (of own : List ℕ) → ((us : List ℕ) → ¬ LeftOut j of own us) → left_out j of own tt ≡ refused wrong_arity
refuse_unless j of own n = go (left_out j of own tt) refl
  where
    go : (f : Answer (Unit {0}) (List ℕ)) → left_out j of own tt ≡ f → left_out j of own tt ≡ refused wrong_arity
    go (done us tt) e = absurd (n us (left_out_sound j of own e))
    go (stop r tt) e = e ∙ ap (λ x. refused x) (sym (left_out_refuses j of own e))

pub all_written_lem : (of own : List ℕ) {j : ℕ} → j ≡ length of → left_out j of own tt ≡ found []
all_written_lem of own e = left_out_complete (all_written e)

pub too_many : (of own : List ℕ) (j : ℕ) → length of < j → left_out j of own tt ≡ refused wrong_arity
too_many of own j h = refuse_unless j of own (λ us k. (let a = left_out_count k in omega (arith, a, h)))

pub can_be_put_in : {ls : Lines} {a b : ℕ} {of own : List ℕ} (j : ℕ) → Context ls a of → Context ls b own → (n : ℕ) → suc n + j ≡ length of → n < length own → get_or of n 0 ≡ get_or own n 0
    → left_out j of own tt ≡ found (take (suc n) of)
can_be_put_in j c d n e h q = left_out_complete (one_comparison c d n e h q)

pub cannot_be_put_in : (of own : List ℕ) (j n : ℕ) → suc n + j ≡ length of → ¬ ((n < length own) × (get_or of n 0 ≡ get_or own n 0)) → left_out j of own tt ≡ refused wrong_arity
cannot_be_put_in of own j n e h = refuse_unless j of own (λ us k. h (comparison_holds k n e))
