-- The arguments left out: `left_out` finds them where the rules have them; they are variables of the line's own context; and what is
-- put in front of the written ones.
use Rattle.std.specs.Prelude.{◌≡◌, refl, ℕ, suc, ◌+◌, ◌≤◌, max, Bool, true, false, List, [], ◌∷◌, map, length, eqb}
use Rattle.std.proofs.Common.{ap, sym, ◌∙◌, subst, arith, eqb-true, eq-eqb, ne_eqb}
use Rattle.std.proofs.lemmas.List.{length-map}
use Rattle.aut68.specs.Expr.{Exprs, in_front, levels, levelss, count_exprs}
use Rattle.aut68.specs.Procedure.Answer.{Answer, ◌>>=◌, give, refuse, Refusal, wrong_arity}
use Rattle.aut68.specs.Procedure.Resolve.{Naming, found, refused, left_out}
use Rattle.aut68.specs.Rules.Names.{Member, here, there, LeftOut, all_written, first_left_out}
use Rattle.lookup.specs.Lists.{Each}
use Rattle.lookup.specs.Answers.{stop≢done, done_then, Judged, is_done, is_stop, judged_done, judged_stop, judged_then}

-- ---- counts

pub left_out_count : {j : ℕ} {of own us : List ℕ} → LeftOut j of own us → length us + j ≡ length of
left_out_count (all_written e) = omega (arith, e)
left_out_count (first_left_out h) = let e = left_out_count h in omega (arith, e)

pub count_in_front : (us : List ℕ) (es : Exprs) → count_exprs (in_front us es) ≡ length us + count_exprs es
unfolding in_front count_exprs
count_in_front [] es = omega arith
count_in_front (u ∷ us) es = let e = count_in_front us es in omega (arith, e)

-- a completed constant has as many arguments as its line's context has variables
pub completed_count : {of own us : List ℕ} (es : Exprs) {all : Exprs} → LeftOut (count_exprs es) of own us → all ≡ in_front us es → count_exprs all ≡ length of
completed_count {us = us} es h e = ap count_exprs e ∙ count_in_front us es ∙ left_out_count h

-- with all arguments written nothing is put in
pub full_nothing : {j : ℕ} {of own us : List ℕ} → LeftOut j of own us → j ≡ length of → us ≡ []
full_nothing (all_written e) q = refl
full_nothing (first_left_out h) q = let e = left_out_count h in absurd (omega (arith, e, q))

pub no_context_lem : {j : ℕ} {own us : List ℕ} → LeftOut j [] own us → (j ≡ 0) × (us ≡ [])
no_context_lem (all_written e) = (e, refl)

-- what is put in stands one level deeper than its constant
pub levels_in_front : (u : ℕ) (us : List ℕ) (es : Exprs) → levelss (in_front (u ∷ us) es) ≡ max 1 (levelss es)
unfolding in_front levels
levels_in_front u [] es = refl
levels_in_front u (v ∷ us) es = let e = levels_in_front v us es in omega (arith, e)

pub front_levels : (us : List ℕ) (es : Exprs) → (levelss es ≤ levelss (in_front us es)) × (levelss (in_front us es) ≤ max 1 (levelss es))
unfolding in_front
front_levels [] es = (omega arith, omega arith)
front_levels (u ∷ us) es = let e = levels_in_front u us es in (omega (arith, e), omega (arith, e))

-- ---- they are variables of the line's own context

pub left_out_own : {j : ℕ} {of own us : List ℕ} → LeftOut j of own us → (u : ℕ) → Member u us → Member u own
left_out_own (all_written e) u m = elim m [ ]
left_out_own (first_left_out h) u here = here
left_out_own (first_left_out h) u (there m) = there (left_out_own h u m)

pub left_out_each : (S : ℕ → Type 0) {j : ℕ} {of own us : List ℕ} → LeftOut j of own us → Each S own → Each S us
left_out_each S (all_written e) s = tt
left_out_each S (first_left_out h) s = (s.0, left_out_each S h s.1)

-- under new numbers
pub left_out_map : (ρ : ℕ → ℕ) {j : ℕ} {of own us : List ℕ} → LeftOut j of own us → LeftOut j (map ρ of) (map ρ own) (map ρ us)
left_out_map ρ (all_written {of} e) = all_written (e ∙ sym (length-map of ρ))
left_out_map ρ (first_left_out h) = first_left_out (left_out_map ρ h)

-- ---- the procedure finds them

-- `left_out` finds what is left out, and refuses only a count.
abbrev Looked : ℕ → List ℕ → List ℕ → Naming (List ℕ) → Type 0
Looked j of own m = Judged (LeftOut j of own) (λ r. wrong_arity ≡ r) (m tt)

counted : {j : ℕ} (of own : List ℕ) (t : Bool) → (t ≡ true → j ≡ length of) → (m : Naming (List ℕ)) → Looked j of own m
    → Looked j of own (elim t as (λ _. Naming (List ℕ)) [ true ↦ give [] | false ↦ m ])
counted of own true c m h = is_done (all_written (c refl))
counted of own false c m h = h

compared : {j : ℕ} (v u : ℕ) (of own : List ℕ) (t : Bool) → (t ≡ true → v ≡ u) → Looked j of own (left_out j of own)
    → Looked j (v ∷ of) (u ∷ own) (elim t as (λ _. Naming (List ℕ)) [ true ↦ (left_out j of own >>= λ us. give (v ∷ us)) | false ↦ refuse wrong_arity ])
compared {j} v u of own true c h =
    judged_then _ h (λ r e. e) (λ us _ k. is_done (subst (λ x. LeftOut j (v ∷ of) (x ∷ own) (v ∷ us)) (c refl) (first_left_out k)))
compared v u of own false c h = is_stop refl

left_out_looked : (j : ℕ) (of own : List ℕ) → Looked j of own (left_out j of own)
unfolding left_out
left_out_looked j [] own = counted [] own (eqb j 0) (eqb-true _ _) _ (is_stop refl)
left_out_looked j (v ∷ of) [] = counted (v ∷ of) [] (eqb j (suc (length of))) (eqb-true _ _) _ (is_stop refl)
left_out_looked j (v ∷ of) (u ∷ own) =
    counted (v ∷ of) (u ∷ own) (eqb j (suc (length of))) (eqb-true _ _) _ (compared v u of own (eqb v u) (eqb-true _ _) (left_out_looked j of own))

pub left_out_sound : (j : ℕ) (of own : List ℕ) {us : List ℕ} → left_out j of own tt ≡ found us → LeftOut j of own us
left_out_sound j of own h = judged_done (left_out_looked j of own) h

pub left_out_refuses : (j : ℕ) (of own : List ℕ) {r : Refusal} → left_out j of own tt ≡ refused r → wrong_arity ≡ r
left_out_refuses j of own h = judged_stop (left_out_looked j of own) h

pub left_out_complete : {j : ℕ} {of own us : List ℕ} → LeftOut j of own us → left_out j of own tt ≡ found us
unfolding left_out
left_out_complete (all_written {of} {own} e) = go of own e
  where
    go : {j : ℕ} (of own : List ℕ) → j ≡ length of → left_out j of own tt ≡ found []
    go {j} [] own e = rw (eq-eqb j 0 e, left_out)
    go {j} (v ∷ of) [] e = rw (eq-eqb j (suc (length of)) e, left_out)
    go {j} (v ∷ of) (u ∷ own) e = rw (eq-eqb j (suc (length of)) e, left_out)
left_out_complete {j} (first_left_out {v} {of} h) =
    let e = left_out_count h in
    rw (ne_eqb j (suc (length of)) (λ q. omega (arith, e, q)), eq-eqb v v refl, left_out) (done_then _ (left_out_complete h) refl)

-- a refusal shows that nothing can be put in, and the other way round
pub left_out_none : {j : ℕ} {of own us : List ℕ} {r : Refusal} → left_out j of own tt ≡ refused r → ¬ LeftOut j of own us
left_out_none h k = stop≢done (sym h ∙ left_out_complete k)

pub left_out_refused : (j : ℕ) (of own : List ℕ) → ((us : List ℕ) → ¬ LeftOut j of own us) → left_out j of own tt ≡ refused wrong_arity
left_out_refused j of own n = go (left_out_looked j of own)
  where
    go : {m : Answer (Unit {0}) (List ℕ)} → Judged (LeftOut j of own) (λ r. wrong_arity ≡ r) m → m ≡ refused wrong_arity
    go (is_done h) = absurd (n _ h)
    go (is_stop e) = ap refused (sym e)
