-- An argument of a constant: what was found for it against the wanted category, with the arguments before it put in.
use mathlib.Core.Path.{◌≡◌, refl, sym, ap, subst, ◌∙◌}
use mathlib.Core.Logic.{◌≢◌}
use mathlib.Core.Bool.{Bool, true}
use mathlib.Core.List.{List, [], ◌++◌}
use Prim.Native.Nat.{ℕ, ◌+◌, ◌*◌, ◌-◌, ◌≤◌, ◌<◌, zero, suc}
use native.Mathlib.Omega.{arith}
use lib.ListN.{length, take, drop}
use Rattle.aut68.specs.Sizes.{nesting, largest_limit, work_units, at_category, at_end}
use Rattle.aut68.specs.Language.{aut68}
use Rattle.aut68.specs.Expr.{Expr, Exprs, nil, size, cells}
use Rattle.aut68.specs.Substitution.{instantiate}
use Rattle.aut68.specs.Lines.{Line, Lines, row_cell}
use Rattle.aut68.specs.Rules.Names.{IsLine}
use Rattle.aut68.specs.Procedure.Compare.{compare, Comparison, same, next, sides, compare_at}
use Rattle.aut68.specs.Rules.Resolved.{Scoped, VariableOf}
use Rattle.aut68.specs.Procedure.Answer.{done}
use Rattle.calculus.specs.Resolved.{KnownCategory}
use Rattle.calculus.specs.Known.{known_wanted}
use Rattle.cells.specs.Cells.{At, AnyVariable, Outside}
use Rattle.cells.specs.Layout.{levels, unit_at, level_unit, unit_below}
use Rattle.cells.specs.Forests.{size_is_length, cells_unique}
use Rattle.cells.specs.Results.{passed, then_refused, then_passed}
use Rattle.cells.specs.Slices.{run_is_slice}
use Rattle.cells.specs.Stores.{outside_same, at_taken}
use Rattle.terms.specs.Made.{Made, InstantiatePost, InstancePost}
use Rattle.terms.specs.MadeLaws.{made_large}
use Rattle.instances.specs.Unchanged.{instantiate_none}
use Rattle.heads.specs.Book.{Book, all_known_wf, category_wf}
use Rattle.reduction.specs.Places.{wanted_numbered}
use Rattle.reduction.specs.Frames.{frame_of}
use Rattle.sides.specs.Sides.{identical_self}
use Rattle.levels.specs.Places.{FoundAt, Awaits}
use Rattle.levels.specs.FoundPosts.{Passes}
use Rattle.levels.specs.LeafPosts.{StoredPost}
use Rattle.levels.specs.Spots.{frames, level_below, level_inside, lies_kept, next_unit, awaits_kept}
use Rattle.levels.proofs.Making.{made_passed, made_refused, made_found}
use Rattle.levels.proofs.Instances.{arguments_lie, made_is, instance_made}
use Rattle.typing.specs.ComparisonPosts.{ComparePost}
use Rattle.typing.specs.FittingPosts.{WantedPost, StoredFitsPost, ArgumentFitsPost, wanted_fits}
use Rattle.typing.specs.Answers.{result_and, at_line}

-- a frame of a deeper level
frame_out : (limit level : ℕ) {w w' : List ℕ} → Outside (unit_at limit (level_unit (level + 2))) (length w) w w' → Outside (unit_at limit (level_unit (level + 1))) (length w) w w'
frame_out limit level o = frame_of o (omega (arith, unit_below limit {j = level_unit (level + 1)} {k = level_unit (level + 2)} (omega arith)))

module _ {ls : Lines} {w : List ℕ} {limit level k base count : ℕ} {starts : List ℕ} {wanted v : ℕ} {l : Line} {earlier : Exprs} where
  -- the line of the context variable
  wanted_line : {tb ts : List ℕ} → Book ls limit tb ts → Awaits ls w limit level k base count starts wanted v l earlier → VariableOf ls l.context wanted
  wanted_line B A = (B.resolved.at A.is_line).context A.in_context

-- ---- the wanted category, two levels deeper

module _ {tb ts w w₁ : List ℕ} {limit : ℕ} (level wanted : ℕ) {base count : ℕ} {starts : List ℕ} {from to n : ℕ} (h : level + 2 < levels) (pf : from ≡ row_cell tb wanted at_category)
    (pt : limit ≤ largest_limit → to ≡ unit_at limit (level_unit (level + 2))) (P : InstantiatePost tb ts w w₁ from base count starts to limit n) where
  wanted_frame : limit ≤ largest_limit → Outside (unit_at limit (level_unit (level + 2))) (length w) w w₁
  wanted_frame small = frame_of P.confined.outside (omega (arith, pt small))

  wanted_made : {ls : Lines} {k v : ℕ} {l y : Line} {earlier : Exprs} → Book ls limit tb ts → work_units * limit ≤ length w
      → Awaits ls w limit level k base count starts wanted v l earlier → IsLine ls wanted y
      → Made limit (instantiate l.context earlier 0 y.category) n (unit_at limit (level_unit (level + 2))) w w₁
  wanted_made {l = l} {earlier = earlier} B room A jy =
      let P₁ : InstantiatePost tb ts w w₁ from base count starts (unit_at limit (level_unit (level + 2))) limit n = rw (pt B.limit) at P in
      instance_made P₁ l.context earlier B (omega (arith, level_inside limit {level = level + 2} (omega arith)))
      (unit_below limit {j = level_unit level} {k = level_unit (level + 2)} (omega arith)) jy (wanted_numbered B A.is_line A.in_context jy earlier)
      A.base_is A.counted A.few A.known A.lie pf

  pub wanted_too_large : {budget code rest : ℕ} → (limit ≤ largest_limit → limit < n) → code ≡ 10 → rest ≡ budget → WantedPost tb ts w limit budget level wanted base count starts w₁ code rest
  unfolding wanted_fits
  wanted_too_large {budget} g z q = record {
    frame = wanted_frame;
    means = λ {ls} {k} {v} {l} {earlier} {c} B room A lc kc.
        let X = wanted_line B A in
        let e = instantiate l.context earlier 0 X.line.category in
        at_line _ budget X.is_line (rw (z, q) (then_refused {R = λ _. Unit {0}} _ (λ x. omega arith)
        (made_refused e (made_large (wanted_made B room A X.is_line) (g B.limit)) refl refl)));
  }

  pub wanted_compared : {w₂ : List ℕ} {budget code rest : ℕ} → n ≤ limit → ComparePost tb ts w₁ limit budget (level + 1) (level + 2) w₂ code rest
      → WantedPost tb ts w limit budget level wanted base count starts w₂ code rest
  unfolding wanted_fits
  wanted_compared {w₂} {budget} g C = record {
    frame = λ small. frames (omega (arith, level_below limit {level = level + 2} (omega arith))) (wanted_frame small) (C.frame small);
    means = λ {ls} {k} {v} {l} {earlier} {c} B room A lc kc.
        let X = wanted_line B A in
        let e = instantiate l.context earlier 0 X.line.category in
        let m = wanted_made B room A X.is_line in
        let small = B.limit in
        let o = wanted_frame small in
        let F : FoundAt w₁ limit (level + 2) n e = made_found e (omega arith) room small g m in
        let y : KnownCategory ls k e = known_wanted ls B.resolved k l.context earlier X.is_line A.known in
        let b : unit_at limit (level_unit (level + 1)) + limit ≤ unit_at limit (level_unit (level + 2)) = unit_below limit (omega arith) in
        at_line _ budget X.is_line (then_passed _ refl
        (made_passed {R = λ a. FoundAt w₁ limit (level + 2) n a × KnownCategory ls k a} e F.lies.small refl refl (F, y))
        (λ a q. C.means B (omega (arith, o.long)) A.few kc q.1 (lies_kept limit (level + 1) o b lc) q.0.lies));
  }

-- ---- a comparison with itself

next_self : (ls : Lines) (e : Expr) → next ls e e ≡ same
unfolding next
next_self ls e = rw (identical_self e, next)

sides_self : (ls : Lines) (L : ℕ) (deeper : Comparison) (e : Expr) (b : ℕ) → sides aut68 ls L deeper e e b ≡ done tt b
unfolding sides
sides_self ls L deeper e zero = rw (next_self ls e, sides)
sides_self ls L deeper e (suc b) = rw (next_self ls e, sides)

pub compare_self : (ls : Lines) (L : ℕ) (e : Expr) (b : ℕ) → compare aut68 ls L e e b ≡ done tt b
unfolding compare compare_at
compare_self ls L e b = sides_self ls L (compare_at aut68 ls L (nesting - 1)) e b

-- ---- it is seen to be the found one

instance_same : {tb ts : List ℕ} {from stop : ℕ} {w : List ℕ} {limit level base count : ℕ} {starts f : List ℕ} {at n wanted : ℕ} {r : Bool}
    → InstancePost tb ts from stop w base count starts f at n r → r ≡ true → from ≡ row_cell tb wanted at_category → stop ≡ row_cell tb wanted at_end
    → {ls : Lines} {k v : ℕ} {l y : Line} {earlier : Exprs} (k' : ℕ) (c : Expr) (behind : List ℕ) → Book ls limit tb ts → Awaits ls w limit level k base count starts wanted v l earlier
    → IsLine ls wanted y → KnownCategory ls k' c → At f at (cells c) behind → n ≡ size c → c ≡ instantiate l.context earlier 0 y.category
instance_same {tb} {f = f} {at} {n} I t pf ps {ls} {k} {l = l} {y} {earlier} k' c behind B A jy kc a s =
    let C = B.stored.cells_of jy in
    let e = instantiate l.context earlier 0 y.category in
    let z = I.is t l.context earlier y.category C.after_category (wanted_numbered B A.is_line A.in_context jy earlier)
    (arguments_lie earlier A.base_is (all_known_wf B.rows k earlier A.known) A.counted A.lie) (rw pf C.category_at)
    (omega (arith, C.category_ends, size_is_length y.category))
    in
    let q : length (cells c) ≡ n = omega (arith, size_is_length c) in
    let g : cells c ≡ cells e = sym (at_taken a) ∙ ap (λ (i : ℕ). take i (drop at f)) q ∙ sym (run_is_slice at n f) ∙ z.1 in
    (cells_unique AnyVariable AnyVariable tb c e [] [] (category_wf B.rows k' c kc)
    (category_wf B.rows k e (known_wanted ls B.resolved k l.context earlier jy A.known)) (ap (λ (x : List ℕ). x ++ []) g)).0

fits_same : {ls : Lines} {limit : ℕ} (context : List ℕ) (earlier : Exprs) {wanted budget : ℕ} {y : Line} (c : Expr) → IsLine ls wanted y
    → c ≡ instantiate context earlier 0 y.category → size c ≤ limit → Passes 0 budget (wanted_fits ls limit context earlier wanted c budget)
unfolding wanted_fits
fits_same {ls} {limit} context earlier {wanted} {budget} {y} c j e h =
    at_line _ budget j (then_passed _ refl
    (made_passed {R = λ a. c ≡ a} (instantiate context earlier 0 y.category) (rw (sym e) h) refl refl e)
    (λ a q. subst (λ z. Passes 0 budget (compare aut68 ls limit c z budget)) q (rw (compare_self ls limit c budget) (passed refl tt))))

-- ---- the category is stored

-- the category of a line, under any bindings
line_known : {ls : Lines} {tb ts : List ℕ} {limit u : ℕ} {d : Line} (k : ℕ) → Book ls limit tb ts → IsLine ls u d → KnownCategory ls k d.category
unfolding Scoped
line_known {ls} {d = d} k B j = rw (instantiate_none nil 0 d.category) at (known_wanted ls B.resolved k [] nil j tt)

module _ {tb ts w : List ℕ} {limit budget level u wanted base count : ℕ} {starts : List ℕ} where
  pub stored_fits_same : {at end from stop n : ℕ} {r : Bool} → at ≡ row_cell tb u at_category → end ≡ row_cell tb u at_end → from ≡ row_cell tb wanted at_category → stop ≡ row_cell tb wanted at_end
      → n ≡ end - at → InstancePost tb ts from stop w base count starts ts at n r → r ≡ true
      → StoredFitsPost tb ts w limit budget level u wanted base count starts w 0 budget
  stored_fits_same {at} {end} {n = n} pa pe pf ps pn I t = record {
    frame = λ small. outside_same;
    means = λ {ls} {k} {v} {l} {d} {earlier} B room A j.
        let X = wanted_line B A in
        let C = B.stored.cells_of j in
        let c = d.category in
        let s : n ≡ size c = omega (arith, C.category_ends, size_is_length c) in
        let e = instance_same I t pf ps k c C.after_category B A X.is_line (line_known k B j) (rw pa C.category_at) s in
        then_passed _ refl
        (made_passed {R = λ a. c ≡ a} c (B.category_size j) refl refl refl)
        (λ a q. subst (λ z. Passes 0 budget (wanted_fits ls limit l.context earlier wanted z budget)) q (fits_same l.context earlier c X.is_line e (B.category_size j)));
  }

  module _ {w₁ : List ℕ} {found size extent rest₁ : ℕ} (low : level + 2 < levels) (S : StoredPost tb ts w limit budget (level + 1) u w₁ found size extent rest₁) where
    pub stored_fits_refused : found ≢ 0 → StoredFitsPost tb ts w limit budget level u wanted base count starts w₁ found rest₁
    stored_fits_refused g = record {
      frame = S.frame;
      means = λ {ls} B room A j. then_refused _ g (S.means B room j);
    }

    pub stored_fits_compared : {w₂ : List ℕ} {code rest : ℕ} → found ≡ 0 → WantedPost tb ts w₁ limit rest₁ level wanted base count starts w₂ code rest
        → StoredFitsPost tb ts w limit budget level u wanted base count starts w₂ code rest
    stored_fits_compared {w₂} z W = record {
      frame = λ small. frames (omega arith) (S.frame small) (frame_out limit level (W.frame small));
      means = λ {ls} {k} {v} {l} {d} {earlier} B room A j.
          let o = S.frame B.limit in
          then_passed _ z
          (result_and (S.means B room j) (λ a q. made_is limit d.category budget a rest₁ q))
          (λ a q. W.means B (omega (arith, o.long)) (awaits_kept o (next_unit limit level) A) q.0.lies
          (subst (KnownCategory ls k) (sym q.1) (line_known k B j)));
    }

-- ---- any other argument

module _ {tb ts w : List ℕ} {limit found size budget level wanted base count : ℕ} {starts : List ℕ} where
  pub fits_refused : found ≢ 0 → ArgumentFitsPost tb ts w limit found size budget level wanted base count starts w found budget
  fits_refused g = record { frame = λ small. outside_same; means = λ B room A x. then_refused _ g x }

  pub fits_seen : {from stop at : ℕ} {r : Bool} → found ≡ 0 → from ≡ row_cell tb wanted at_category → stop ≡ row_cell tb wanted at_end
      → (limit ≤ largest_limit → at ≡ unit_at limit (level_unit (level + 1))) → InstancePost tb ts from stop w base count starts w at size r → r ≡ true
      → ArgumentFitsPost tb ts w limit found size budget level wanted base count starts w 0 budget
  fits_seen z pf ps pa I t = record {
    frame = λ small. outside_same;
    means = λ {ls} {k} {v} {l} {earlier} {m} B room A x. then_passed _ z x (λ c F.
        let X = wanted_line B A in
        fits_same l.context earlier c X.is_line (instance_same I t pf ps k c F.0.lies.behind B A X.is_line F.1 (rw (pa B.limit) F.0.lies.at) F.0.sized) F.0.lies.small);
  }

  pub fits_compared : {w₁ : List ℕ} {code rest : ℕ} → found ≡ 0 → WantedPost tb ts w limit budget level wanted base count starts w₁ code rest
      → ArgumentFitsPost tb ts w limit found size budget level wanted base count starts w₁ code rest
  fits_compared z W = record {
    frame = λ small. frame_out limit level (W.frame small);
    means = λ B room A x. then_passed _ z x (λ c F. W.means B room A F.0.lies F.1);
  }
