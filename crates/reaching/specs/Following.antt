-- Following names downwards, a line a turn: the beginning, a turn, and what is known at the end.
use Rattle.std.specs.Prelude.{◌≡◌, refl, Bool, false, ℕ, zero, suc, ◌+◌, ◌≤◌, ◌<◌, eqb, length, replicate}
use Rattle.std.proofs.Common.{sym, ◌∙◌, ⊎_elim, arith}
use Rattle.std.proofs.Math.Path.{subst, ap}
use Rattle.std.proofs.Math.Bool.{true}
use Rattle.std.proofs.lemmas.Bool.{false≢true}
use mathlib.Core.List.{List, []}
use Rattle.std.proofs.Math.Decide.{ℕ_discrete}
use borrow.Author.Tests.{eqb-true, eq-eqb, ne_eqb}
use Rattle.aut68.specs.Sizes.{at_kind}
use Rattle.aut68.specs.Lines.{Line, Lines, Kind, variable, primitive, abbreviation, kind_number, row_cell}
use Rattle.aut68.specs.Rules.Names.{IsLine, Member}
use Rattle.aut68.specs.Index.{mentioned_by}
use Rattle.aut68.specs.Rules.Following.{NamesLine, Reaches, itself, onward, Beneath, RestsOn}
use Rattle.lookup.specs.Lists.{no_member}
use Rattle.lookup.specs.LineNumbers.{line_positive, line_unique, line_at_lem}
use Rattle.lookup.specs.Following.{HasLine, reaches_within}
use Rattle.lookup.specs.Tests.{and_true}
use Rattle.marks.specs.Marks.{marked, MarkPost}
use Rattle.marks.specs.MarkLaws.{none_marked}
use Rattle.reaching.specs.Adding.{AddsMarks, adds_none, adds_other}
use Rattle.reaching.specs.RowNames.{row_names, row_names_lem}
use Rattle.reaching.specs.Primitives.{marked_kind, unmarked_primitive, is_marked_primitive, marked_primitives, one_if, primitives_length, primitives_same, primitive_within, primitive_member, primitives_ascend}
use Rattle.reaching.specs.Posts.{visited, VisitPost, Followable, Followed, ReachedPost, MarkedPost, Answered, BeneathPost}

-- ---- the kind on a row

one_is_primitive : (k : Kind) → kind_number k ≡ 1 → k ≡ primitive
unfolding kind_number
one_is_primitive variable e = absurd (omega arith)
one_is_primitive primitive e = refl
one_is_primitive (abbreviation m) e = absurd (omega arith)

module _ (tb w : List ℕ) (v : ℕ) where
  marked_primitive : is_marked_primitive tb w v ≡ true → (marked w v ≡ true) × (row_cell tb v at_kind ≡ 1)
  unfolding is_marked_primitive
  marked_primitive e = let (a, b) = and_true (marked w v) (eqb (row_cell tb v at_kind) 1) e in (a, eqb-true _ _ b)

  primitive_marked : marked w v ≡ true → row_cell tb v at_kind ≡ 1 → is_marked_primitive tb w v ≡ true
  unfolding is_marked_primitive
  primitive_marked a b = rw (a, eq-eqb (row_cell tb v at_kind) 1 b, is_marked_primitive)

-- ---- a visit

module _ (tb ts w : List ℕ) (v : ℕ) where
  visited_marked : marked w v ≡ true → visited tb ts w v ≡ row_names tb ts v
  unfolding visited
  visited_marked e = rw (e, visited)

  visited_unmarked : marked w v ≡ false → visited tb ts w v ≡ []
  unfolding visited
  visited_unmarked e = rw (e, visited)

  module _ {w' : List ℕ} {k : ℕ} (e : marked w v ≡ true) (a : AddsMarks (row_names tb ts v) w w') (f : k ≡ row_cell tb v at_kind) where
    pub visit_marked : {count : ℕ} → count ≡ one_if (eqb k 1) → VisitPost tb ts v w count w'
    visit_marked c =
        record { adds = subst (λ xs. AddsMarks xs w w') (sym (visited_marked e)) a; count_is = c ∙ ap one_if (sym (marked_kind tb w v e f)) }

    pub visit_primitive : k ≡ 1 → VisitPost tb ts v w 1 w'
    unfolding one_if
    visit_primitive q = visit_marked (ap one_if (sym (eq-eqb k 1 q)))

    pub visit_other : (k ≡ 1 → ⊥) → VisitPost tb ts v w 0 w'
    unfolding one_if
    visit_other q = visit_marked (ap one_if (sym (ne_eqb k 1 q)))

  pub visit_unmarked : marked w v ≡ false → VisitPost tb ts v w 0 w
  unfolding one_if
  visit_unmarked e =
      record { adds = subst (λ xs. AddsMarks xs w w) (sym (visited_unmarked e)) adds_none; count_is = ap one_if (sym (unmarked_primitive tb w v e)) }

pub visit_few : {tb ts w w' : List ℕ} {v count : ℕ} → VisitPost tb ts v w count w' → count ≤ 1
unfolding one_if
visit_few {tb} {w = w} {v = v} p = at (is_marked_primitive tb w v) p.count_is
  where
    at : {n : ℕ} (t : Bool) → n ≡ one_if t → n ≤ 1
    at true e = omega arith
    at false e = omega arith

-- ---- the pass

module _ {ls : Lines} {tb ts : List ℕ} {line size : ℕ} (can : Followable ls tb ts line size) where
  pub follow_begin : {w w' : List ℕ} → length w ≡ size → w ≡ replicate (length w) 0 → MarkPost w w' line → Followed ls tb line line w' 0
  unfolding marked_primitives
  follow_begin {w} {w'} s z p =
      record {
        reached = λ u m. at u m (ℕ_discrete u line);
        itself = p.here (rw s can.room);
        onward = λ u x l h m. absurd (omega (arith, reaches_within can.before (at u m (ℕ_discrete u line))));
        count_is = counted;
      }
    where
      at : (u : ℕ) → marked w' u ≡ true → Dec (u ≡ line) → Reaches ls line u
      at u m (yes e) = subst (Reaches ls line) (sym e) itself
      at u m (no n) = absurd (false≢true (sym (p.others u n ∙ ap (λ (x : List ℕ). marked x u) z ∙ none_marked (length w) u) ∙ m))

      counted : (n : ℕ) → line + n ≡ line → 0 ≡ length (marked_primitives tb w' line n)
      counted zero e = refl
      counted (suc n) e = absurd (omega arith)

  module _ {v u count count' : ℕ} {w w' : List ℕ} (next : v ≡ suc u) (h : v ≤ line) (long : length w ≡ size)
      (f : Followed ls tb line v w count) (p : VisitPost tb ts v w count' w') where
    l : HasLine ls v
    l = line_at_lem ls v (omega arith) (let k = can.within in omega arith)

    names_are : marked w v ≡ true → visited tb ts w v ≡ mentioned_by l.0
    names_are e = visited_marked tb ts w v e ∙ row_names_lem can.rows can.stored l.1

    -- the visit marks lines that line v names, if it is marked
    names : {x : ℕ} → Member x (visited tb ts w v) → (marked w v ≡ true) × NamesLine l.0 x
    names {x} m = at (marked w v) refl
      where
        at : (t : Bool) → marked w v ≡ t → (marked w v ≡ true) × NamesLine l.0 x
        at true e = (e, subst (Member x) (names_are e) m)
        at false e = absurd (no_member (subst (Member x) (visited_unmarked tb ts w v e) m))

    earlier : {x : ℕ} → NamesLine l.0 x → x < v
    earlier m = (can.before v l.0 _ l.1 m).1

    named : {x : ℕ} → marked w v ≡ true → NamesLine l.0 x → marked w' x ≡ true
    named {x} e m =
        let k = can.room in
        p.adds.added x (subst (Member x) (sym (names_are e)) m) (rw long (omega (arith, earlier m)))

    same : (x : ℕ) → v ≤ x → marked w' x ≡ marked w x
    same x k = adds_other p.adds x (λ m. omega (arith, earlier (names m).1))

    pub follow_turn : Followed ls tb line u w' (count + count')
    follow_turn =
        record {
          reached = λ x m. ⊎_elim (f.reached x) (λ k. let (a, b) = names k in onward (f.reached v a) l.1 b) (p.adds.only x m);
          itself = p.adds.kept line f.itself;
          onward = λ y x k b m i n. at y x k b m i n (ℕ_discrete y v);
          count_is = counted;
        }
      where
        at : (y x : ℕ) (k : Line) → u < y → marked w' y ≡ true → IsLine ls y k → NamesLine k x → Dec (y ≡ v) → marked w' x ≡ true
        at y x k b m i n (yes e) =
            named
            (sym (same v (omega arith)) ∙ ap (marked w') (sym e) ∙ m)
            (subst (λ j. NamesLine j x) (line_unique (subst (λ j. IsLine ls j k) e i) l.1) n)
        at y x k b m i n (no e) = p.adds.kept x (f.onward y x k (omega arith) (sym (same y (omega arith)) ∙ m) i n)

        counted : (n : ℕ) → u + n ≡ line → count + count' ≡ length (marked_primitives tb w' u n)
        counted zero e = absurd (omega arith)
        counted (suc n) e =
            omega (
              arith,
              ap length (primitives_same tb w w' u (suc n) (λ x g. same x (omega arith))),
              primitives_length tb w u n,
              f.count_is n (omega arith),
              ap (λ (x : ℕ). length (marked_primitives tb w x n)) next,
              p.count_is,
              ap (λ (x : ℕ). one_if (is_marked_primitive tb w x)) next,
            )

  module _ {w : List ℕ} {count : ℕ} (f : Followed ls tb line 0 w count) where
    -- what is reached is marked
    all_marked : {u : ℕ} → Reaches ls line u → marked w u ≡ true
    all_marked itself = f.itself
    all_marked (onward {u} {w = x} {l} r i m) = f.onward u x l (line_positive i) (all_marked r) i m

    follow_end : RestsOn ls line (marked_primitives tb w 0 line)
    unfolding kind_number
    follow_end = record { ascends = primitives_ascend tb w 0 line; exactly = λ u. (to u, from u) }
      where
        to : (u : ℕ) → Member u (marked_primitives tb w 0 line) → Beneath ls line u
        to u m =
            let (a, b, e) = primitive_within tb w 0 line m in
            let (p, q) = marked_primitive tb w u e in
            let (l, i) = line_at_lem ls u a (let k = can.within in omega arith) in
            record { line = l; is_line = i; is_primitive = one_is_primitive l.kind (sym (can.rows.row i).kind_is ∙ q); reached = f.reached u p }

        from : (u : ℕ) → Beneath ls line u → Member u (marked_primitives tb w 0 line)
        from u b =
            let k = reaches_within can.before b.reached in
            primitive_member tb w 0 line (line_positive b.is_line) (omega arith)
            (primitive_marked tb w u (all_marked b.reached) ((can.rows.row b.is_line).kind_is ∙ ap kind_number b.is_primitive))

    answered : {old new : List ℕ} → (count ≤ length old → MarkedPost tb line w old new) → (length old < count → new ≡ old) → Answered ls line old count new
    answered put not =
        let e = f.count_is line (omega arith) in
        record {
          list = marked_primitives tb w 0 line;
          rests_on = follow_end;
          count_is = e;
          written = λ h. (put (omega arith)).written h;
          untouched = λ h. not (omega arith);
        }

-- the store is w when the names are followed, then u, then cleared
pub beneath_post : {tb ts w u w' old new : List ℕ} {line count : ℕ} → ReachedPost tb ts line w count u → (count ≤ length old → MarkedPost tb line u old new)
    → (length old < count → new ≡ old) → w' ≡ replicate (length u) 0 → BeneathPost tb ts line w old count w' new
beneath_post {tb} {ts} {w} {line = line} r put not z =
    record {
      zeros = z ∙ ap (λ (n : ℕ). replicate n 0) r.long;
      few = r.few;
      answered = λ ls can e. answered can (r.followed ls can e) put not;
    }
