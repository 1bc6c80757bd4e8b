-- A constant's arguments, one after the other.
use mathlib.Core.Path.{◌≡◌, refl, sym, ap, subst, ◌∙◌}
use mathlib.Core.Logic.{◌≢◌, inl}
use mathlib.Core.List.{List, [], ◌∷◌, ◌++◌}
use Prim.Native.Nat.{ℕ, zero, suc, ◌+◌, ◌*◌, ◌≤◌, ◌<◌}
use native.Mathlib.Omega.{arith}
use native.Mathlib.Numerals.{add-one}
use lib.ListN.{length, get_or, drop, length-append, length-drop}
use lib.Seq.{drop-cons}
use Rattle.aut68.specs.Sizes.{largest_limit, work_units, nesting, at_context}
use Rattle.aut68.specs.Procedure.Answer.{Answer, done, and_then}
use Rattle.aut68.specs.Expr.{Expr, Exprs, nil, cons, snoc, size, sizes, cells, cellss, count_exprs}
use Rattle.aut68.specs.Lines.{Line, Lines, row_cell}
use Rattle.aut68.specs.Rules.Names.{IsLine, Member, here, there}
use Rattle.calculus.specs.Resolved.{AllKnown}
use Rattle.cells.specs.Cells.{At, copy_cells}
use Rattle.cells.specs.Layout.{unit_at, level_unit}
use Rattle.cells.specs.Forests.{join, count_join, size_is_length, sizes_is_length, at_inside}
use Rattle.lookup.specs.Answers.{code_nonzero}
use Rattle.cells.specs.Results.{Result, passed, refused, then_refused}
use Rattle.cells.specs.Stores.{outside_same, at_kept}
use Rattle.cells.specs.CopyLaws.{copy_at}
use Rattle.cells.specs.declared.scope.Scope.{Scope}
use Rattle.terms.specs.Made.{start_of, StartedTo}
use Rattle.terms.specs.Starts.{start_join, started_none}
use Rattle.heads.specs.Book.{Book}
use Rattle.reduction.specs.Frames.{frame_of}
use Rattle.levels.specs.Places.{LieAll, Awaits}
use Rattle.levels.specs.FoundPosts.{Frame}
use Rattle.levels.specs.ContextPosts.{ContextOf, ContextVariable}
use Rattle.levels.specs.Spots.{frames, level_inside, at_join, next_unit}
use Rattle.levels.specs.ArgumentPosts.{KeptArgument, NextStart}
use Rattle.typing.specs.FittingPosts.{wanted_fits}
use Rattle.categories.specs.AnyDepth.{category68, arguments68}
use Rattle.categories.specs.Places.{Expression, Arguments}
use Rattle.categories.specs.Posts.{ArgumentsPost}
use Rattle.categories.proofs.Clauses.{argument_clause, none_left, passed_holds}
use Rattle.categories.proofs.Within.{part}
use Rattle.categories.proofs.Strings.{ArgumentPost, known_front, sizes_join, join_snoc, count_snoc, cells_snoc, argument_lies, argument_in, started_front, started_next}

-- i arguments have passed, which end at index `at`; they lie in the level's unit of w, and starts has where
pub record Going (ls : Lines) (limit : ℕ) (sc : List Expr) (context : List ℕ) (budget level : ℕ) (xs : Exprs) (i at rest : ℕ) (starts w : List ℕ) : Type 0 where
  pub earlier : Exprs
  pub others : Exprs
  pub whole : xs ≡ join earlier others
  pub counted : count_exprs earlier ≡ i
  pub ends : at ≡ length (cellss earlier)
  pub goes : arguments68 ls limit sc xs context context nil budget ≡ arguments68 ls limit sc others (drop i context) context earlier rest
  pub started : StartedTo i xs starts
  pub behind : List ℕ
  pub lies : At w (unit_at limit (level_unit level)) (cellss earlier) behind

pub record Turns (tb ts s : List ℕ) (scope : Scope) (w₀ : List ℕ) (limit budget level v i at rest : ℕ) (starts w : List ℕ) : Type 0 where
  pub long : length starts ≡ 64
  pub frame : Frame limit level w₀ w
  pub going : {ls : Lines} {l : Line} {sc : List Expr} {xs : Exprs} → Book ls limit tb ts → work_units * limit ≤ length w₀ → IsLine ls v l → count_exprs xs ≡ length l.context
      → Arguments ls ts s scope limit level sc xs → Going ls limit sc l.context budget level xs i at rest starts w

pub turns_start : {tb ts s : List ℕ} {scope : Scope} {w₀ : List ℕ} {limit budget level v : ℕ} {starts : List ℕ} → length starts ≡ 64 → get_or starts 0 0 ≡ 0
    → Turns tb ts s scope w₀ limit budget level v 0 0 budget starts w₀
unfolding join count_exprs cellss
turns_start {w₀ = w₀} {limit} {level = level} q h = record {
  long = q;
  frame = λ small. outside_same;
  going = λ {ls} {l} {sc} {xs} B room j c X. record {
    earlier = nil;
    others = xs;
    whole = refl;
    counted = refl;
    ends = refl;
    goes = refl;
    started = started_none h;
    behind = drop (unit_at limit (level_unit level)) w₀;
    lies = record { is = refl };
  };
}

-- the earlier arguments, as they lie
going_lie : {ls : Lines} {ts s : List ℕ} {scope : Scope} {limit : ℕ} {sc : List Expr} {context : List ℕ} {budget level : ℕ} {xs : Exprs} {i at rest : ℕ} {starts w : List ℕ}
    → Arguments ls ts s scope limit level sc xs → (G : Going ls limit sc context budget level xs i at rest starts w) → LieAll w limit level starts G.earlier
going_lie {xs = xs} {i} {starts = starts} X G = record {
  small = omega (arith, ap sizes G.whole, sizes_join G.earlier G.others, X.small);
  started = started_front G.earlier G.others (rw (G.whole, sym G.counted) at G.started);
  behind = G.behind;
  at = G.lies;
}

-- the first of the arguments that are left
record NextArgument (xs : Exprs) : Type 0 where
  pub argument : Expr
  pub more : Exprs
  pub is : xs ≡ cons argument more

next_argument : (xs : Exprs) → 1 ≤ count_exprs xs → NextArgument xs
unfolding count_exprs
next_argument nil h = absurd (omega arith)
next_argument (cons a xs) h = record { argument = a; more = xs; is = refl }

-- an answer that passed
passes_done : {P : Type 0} {code rest : ℕ} {m : Answer ℕ (Unit {0})} → code ≡ 0 → Result (λ _. P) code rest m → m ≡ done tt rest
passes_done z (passed e h) = refl
passes_done z (refused {r} e) = absurd (code_nonzero r (sym e ∙ z))

member_at : (xs : List ℕ) (i : ℕ) → i < length xs → Member (get_or xs i 0) xs
member_at [] i h = absurd (omega arith)
member_at (x ∷ xs) zero h = here
member_at (x ∷ xs) (suc i) h = there (member_at xs i (omega arith))

module _ {tb ts s : List ℕ} {scope : Scope} {w₀ : List ℕ} {limit budget level v i at rest : ℕ} {starts w : List ℕ} {count : ℕ} {lines : List ℕ} {wanted base : ℕ} {w₁ : List ℕ}
    {code n rest₁ : ℕ} (low : level < nesting) (T : Turns tb ts s scope w₀ limit budget level v i at rest starts w) (pc : count ≡ row_cell tb v at_context) (h : i < count)
    (N : ContextOf tb v count lines) (W : ContextVariable tb v lines i wanted) (pb : limit ≤ largest_limit → base ≡ unit_at limit (level_unit level))
    (F : ArgumentPost tb ts (part s at) scope w limit rest level wanted base i starts w₁ code n rest₁) where
  turn_frame : Frame limit level w₀ w₁
  turn_frame small = frames (omega (arith, next_unit limit level)) (T.frame small) (F.frame small)

  ahead : {ls : Lines} {l : Line} → Book ls limit tb ts → IsLine ls v l → i < length l.context
  ahead B j = omega (arith, pc, (B.rows.row j).context_is)

  module _ {ls : Lines} {l : Line} {sc : List Expr} {xs : Exprs} (B : Book ls limit tb ts) (room : work_units * limit ≤ length w₀) (j : IsLine ls v l)
      (c : count_exprs xs ≡ length l.context) (X : Arguments ls ts s scope limit level sc xs) where
    G : Going ls limit sc l.context budget level xs i at rest starts w
    G = T.going B room j c X

    M : NextArgument G.others
    M = next_argument G.others (omega (arith, ap count_exprs G.whole, count_join G.earlier G.others, G.counted, ahead B j))

    whole_string : xs ≡ join G.earlier (cons M.argument M.more)
    whole_string = G.whole ∙ ap (join G.earlier) M.is

    wanted_is : wanted ≡ get_or l.context i 0
    wanted_is = W.means (N.means pc) B j (ahead B j)

    turn_known : AllKnown ls (length sc) G.earlier
    turn_known = (known_front ls (length sc) G.earlier G.others (subst (AllKnown ls (length sc)) G.whole X.known)).0

    turn_awaits : Awaits ls w limit level (length sc) base i starts wanted v l G.earlier
    turn_awaits = record {
      is_line = j;
      in_context = rw wanted_is (member_at l.context i (ahead B j));
      base_is = pb B.limit;
      counted = G.counted;
      few = X.holds.few;
      known = turn_known;
      lie = going_lie X G;
    }

    turn_expression : Expression ls ts (part s at) scope limit (level + 1) sc M.argument
    turn_expression = argument_in G.earlier M.argument M.more G.ends (rw whole_string at X)

    turn_answer : Result (λ _. n ≡ size M.argument) code rest₁ (and_then (wanted_fits ls limit l.context G.earlier (get_or l.context i 0)) (category68 ls limit sc M.argument rest))
    turn_answer =
        let o = (T.frame B.limit).long in
        subst (λ (u : ℕ). Result (λ _. n ≡ size M.argument) code rest₁ (and_then (wanted_fits ls limit l.context G.earlier u) (category68 ls limit sc M.argument rest))) wanted_is
        (F.means M.argument B (omega arith) turn_awaits turn_expression)

    -- this argument, and then the others
    turn_clause : arguments68 ls limit sc xs l.context l.context nil budget
        ≡ and_then (λ _. arguments68 ls limit sc M.more (drop (i + 1) l.context) l.context (snoc G.earlier M.argument))
        (and_then (wanted_fits ls limit l.context G.earlier (get_or l.context i 0)) (category68 ls limit sc M.argument rest))
    turn_clause =
        let d : drop i l.context ≡ get_or l.context i 0 ∷ drop (i + 1) l.context =
        drop-cons l.context i 0 (ahead B j) ∙ ap (λ (k : ℕ). get_or l.context i 0 ∷ drop k l.context) (sym (add-one i))
        in
        G.goes
        ∙ ap (λ (ys : Exprs). arguments68 ls limit sc ys (drop i l.context) l.context G.earlier rest) M.is
        ∙ ap (λ (us : List ℕ). arguments68 ls limit sc (cons M.argument M.more) us l.context G.earlier rest) d
        ∙ argument_clause ls limit sc rest M.argument M.more (get_or l.context i 0) (drop (i + 1) l.context) l.context G.earlier

    turn_more : {w₂ starts' : List ℕ} → code ≡ 0 → KeptArgument s at n w₁ base w₂ → NextStart starts (i + 1) (at + n) starts'
        → Going ls limit sc l.context budget level xs (i + 1) (at + n) rest₁ starts' w₂
    unfolding and_then
    turn_more {w₂} {starts'} z K Q =
        let a = M.argument in
        let U = unit_at limit (level_unit level) in
        let small = B.limit in
        let o₀ = (T.frame small).long in
        let o₁ = F.frame small in
        let pu : base ≡ U = pb small in
        let e : n ≡ length (cells a) = passed_holds z turn_answer ∙ size_is_length a in
        let whole : xs ≡ join (snoc G.earlier a) M.more = whole_string ∙ sym (join_snoc G.earlier a M.more) in
        let ends : at + n ≡ length (cellss (snoc G.earlier a)) =
        omega (arith, ap length (cells_snoc G.earlier a), length-append (cellss G.earlier) (cells a), G.ends)
        in
        let counted : count_exprs (snoc G.earlier a) ≡ i + 1 = count_snoc G.earlier a ∙ ap (λ (k : ℕ). k + 1) G.counted in
        let fits : at + n ≤ limit =
        omega (arith, ap sizes whole, sizes_join (snoc G.earlier a) M.more, sizes_is_length (snoc G.earlier a), X.small)
        in
        let place : at + n ≡ start_of xs (i + 1) = ends ∙ sym (rw (sym whole, counted) at (start_join (snoc G.earlier a) M.more)) in
        let k : At s at (cells a) (cellss M.more ++ X.behind) =
        rw (sym G.ends) at (argument_lies G.earlier a M.more (subst (λ (ys : Exprs). At s 0 (cellss ys) X.behind) whole_string X.at))
        in
        let inside : U + limit ≤ work_units * limit = level_inside limit (omega arith) in
        let c₁ : w₂ ≡ copy_cells s at (length (cells a)) w₁ (U + at) =
        K.copied (omega (arith, o₁.long)) ∙ ap (λ (m : ℕ). copy_cells s at m w₁ (base + at)) e ∙ ap (λ (m : ℕ). copy_cells s at (length (cells a)) w₁ (m + at)) pu
        in
        let new : At w₂ (U + at) (cells a) (drop (U + at + length (cells a)) w₁) = rw c₁ (copy_at s at w₁ (U + at) k (omega (arith, at_inside a k)) (omega (arith, o₁.long))) in
        let old₁ = at_kept o₁ (inl (omega (arith, next_unit limit level, G.ends))) G.lies in
        let old = at_kept K.frame (inl (omega (arith, G.ends))) old₁ in
        record {
          earlier = snoc G.earlier a;
          others = M.more;
          whole = whole;
          counted = counted;
          ends = ends;
          goes = turn_clause ∙ ap (and_then (λ _. arguments68 ls limit sc M.more (drop (i + 1) l.context) l.context (snoc G.earlier a))) (passes_done z turn_answer);
          started = started_next T.long G.started Q place (omega arith);
          behind = drop (U + at + length (cells a)) w₁;
          lies = rw (cells_snoc G.earlier a) (at_join (omega (arith, G.ends)) old new);
        }

    turn_stops : {P : Type 0} → code ≢ 0 → Result (λ _. P) code rest₁ (arguments68 ls limit sc xs l.context l.context nil budget)
    turn_stops g = rw turn_clause (then_refused _ g turn_answer)

  pub turns_more : {w₂ starts' : List ℕ} → code ≡ 0 → KeptArgument s at n w₁ base w₂ → NextStart starts (i + 1) (at + n) starts'
      → Turns tb ts s scope w₀ limit budget level v (i + 1) (at + n) rest₁ starts' w₂
  turns_more z K Q = record {
    long = Q.long ∙ T.long;
    frame = λ small. frames {a' = unit_at limit (level_unit level)} (omega arith) (turn_frame small) (frame_of K.frame (omega (arith, pb small)));
    going = λ B room j c X. turn_more B room j c X z K Q;
  }

  pub turns_stop : {starts' : List ℕ} → code ≢ 0 → ArgumentsPost tb ts s scope w₀ limit budget level v w₁ code 0 starts' rest₁
  turns_stop g = record {
    frame = turn_frame;
    within = omega arith;
    means = λ B room j c X. turn_stops B room j c X g;
  }

join_none : (es fs : Exprs) → count_exprs fs ≡ 0 → join es fs ≡ es
unfolding join count_exprs
join_none nil nil h = refl
join_none nil (cons f fs) h = absurd (omega arith)
join_none (cons e es) fs h = ap (cons e) (join_none es fs h)

pub turns_end : {tb ts s : List ℕ} {scope : Scope} {w₀ : List ℕ} {limit budget level v i at rest count : ℕ} {starts w : List ℕ} → count ≡ row_cell tb v at_context → i ≤ count → count ≤ i
    → at ≤ length s → Turns tb ts s scope w₀ limit budget level v i at rest starts w → ArgumentsPost tb ts s scope w₀ limit budget level v w 0 at starts rest
turns_end {w₀ = w₀} {limit} {budget} {level} {v} {i} {at} {rest} {starts = starts} {w} pc le ge inside T = record {
  frame = T.frame;
  within = inside;
  means = λ {ls} {l} {sc} {xs} B room j c X.
      let G = T.going B room j c X in
      let n : i ≡ length l.context = omega (arith, pc, (B.rows.row j).context_is) in
      let none : count_exprs G.others ≡ 0 = omega (arith, ap count_exprs G.whole, count_join G.earlier G.others, G.counted) in
      let all : xs ≡ G.earlier = G.whole ∙ join_none G.earlier G.others none in
      let e : arguments68 ls limit sc xs l.context l.context nil budget ≡ done tt rest =
      G.goes ∙ none_left ls limit sc G.others (drop i l.context) l.context G.earlier rest none (length-drop i l.context ∙ omega arith)
      in
      rw e (passed refl (subst (LieAll w limit level starts) (sym all) (going_lie X G), G.ends ∙ sym (sizes_is_length G.earlier) ∙ ap sizes (sym all)));
}
