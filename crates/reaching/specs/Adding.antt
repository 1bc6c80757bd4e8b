-- Marks added to a store.
use Rattle.std.specs.Prelude.{◌≡◌, refl, ◌⊎◌, Bool, true, false, List, [], ◌∷◌, ◌++◌, ℕ, ◌*◌, ◌<◌, length}
use Rattle.std.proofs.Common.{sym, subst, ◌∙◌, inl, inr, ⊎_elim, arith}
use Rattle.std.proofs.lemmas.Bool.{false≢true}
use Rattle.std.proofs.Math.Decide.{dec_lt, ℕ_discrete}
use Rattle.aut68.specs.Rules.Names.{Member, here}
use Rattle.lookup.specs.Lists.{member_one, no_member, member_append, member_left, member_right}
use Rattle.marks.specs.Marks.{cell_marks, marked, MarkPost}
use Rattle.marks.specs.MarkLaws.{past_marked}

-- the numbers xs are marked, as far as the store has bits for them, and nothing else has changed
pub record AddsMarks (xs w w' : List ℕ) : Type 0 where
  pub long : length w' ≡ length w
  pub kept : (u : ℕ) → marked w u ≡ true → marked w' u ≡ true
  pub added : (u : ℕ) → Member u xs → u < cell_marks * length w → marked w' u ≡ true
  pub only : (u : ℕ) → marked w' u ≡ true → (marked w u ≡ true) ⊎ Member u xs

pub adds_none : {w : List ℕ} → AddsMarks [] w w
adds_none = record { long = refl; kept = λ u m. m; added = λ u h. absurd (no_member h); only = λ u m. inl m }

-- a marked number has a bit
marked_within : (w : List ℕ) (v : ℕ) → marked w v ≡ true → v < cell_marks * length w
marked_within w v m = at (dec_lt v (cell_marks * length w))
  where
    at : Dec (v < cell_marks * length w) → v < cell_marks * length w
    at (yes h) = h
    at (no h) = absurd (false≢true (sym (past_marked w v (omega arith)) ∙ m))

pub adds_one : {w w' : List ℕ} {v : ℕ} → MarkPost w w' v → AddsMarks (v ∷ []) w w'
adds_one {w} {w'} {v} p =
    record {
      long = p.long;
      kept = λ u m. kept u m (ℕ_discrete u v);
      added = λ u h k. subst (λ n. marked w' n ≡ true) (sym (member_one h)) (p.here (subst (λ n. n < cell_marks * length w) (member_one h) k));
      only = λ u m. only u m (ℕ_discrete u v);
    }
  where
    kept : (u : ℕ) → marked w u ≡ true → Dec (u ≡ v) → marked w' u ≡ true
    kept u m (yes e) = subst (λ n. marked w' n ≡ true) (sym e) (p.here (marked_within w v (subst (λ n. marked w n ≡ true) e m)))
    kept u m (no n) = p.others u n ∙ m

    only : (u : ℕ) → marked w' u ≡ true → Dec (u ≡ v) → (marked w u ≡ true) ⊎ Member u (v ∷ [])
    only u m (yes e) = inr (subst (λ n. Member u (n ∷ [])) e here)
    only u m (no n) = inl (sym (p.others u n) ∙ m)

-- first the numbers xs, then the numbers ys
pub adds_append : {xs ys w v w' : List ℕ} → AddsMarks xs w v → AddsMarks ys v w' → AddsMarks (xs ++ ys) w w'
adds_append {xs} {ys} {w} {v} {w'} a b =
    record {
      long = b.long ∙ a.long;
      kept = λ u m. b.kept u (a.kept u m);
      added = λ u h k. ⊎_elim (λ g. b.kept u (a.added u g k)) (λ g. b.added u g (rw a.long k)) (member_append xs h);
      only = λ u m. ⊎_elim (λ g. ⊎_elim inl (λ i. inr (member_left ys i)) (a.only u g)) (λ i. inr (member_right xs i)) (b.only u m);
    }

-- what is not among the numbers is marked as before
pub adds_other : {xs w w' : List ℕ} → AddsMarks xs w w' → (u : ℕ) → ¬ Member u xs → marked w' u ≡ marked w u
adds_other {xs} {w} {w'} a u n = at (marked w' u) refl (marked w u) refl
  where
    at : (s : Bool) → marked w' u ≡ s → (t : Bool) → marked w u ≡ t → marked w' u ≡ marked w u
    at true e true f = e ∙ sym f
    at true e false f = ⊎_elim (λ m. e ∙ sym m) (λ h. absurd (n h)) (a.only u e)
    at false e true f = a.kept u f ∙ sym f
    at false e false f = e ∙ sym f
