-- What is written of an expression, from what is written of its parts.
use mathlib.Core.Path.{◌≡◌, refl, sym, ap, ap₂, ◌∙◌, subst}
use mathlib.Core.Logic.{◌≢◌}
use mathlib.Core.List.{List, [], ◌∷◌, ◌++◌}
use Prim.Native.Nat.{ℕ, suc, ◌+◌, ◌*◌, ◌-◌, ◌≤◌, max}
use native.Mathlib.Omega.{arith}
use lib.ListN.{length}
use Rattle.aut68.specs.Bytes.{Bytes}
use Rattle.aut68.specs.Source.{Src, Srcs, name, nil, cons, count_srcs}
use Rattle.aut68.specs.Source as Source
use Rattle.aut68.specs.Expr.{Expr, Exprs, cells, cellss, levels, levelss, in_front}
use Rattle.aut68.specs.Expr as Expr
use Rattle.aut68.specs.Paragraphs.{State}
use Rattle.aut68.specs.Procedure.Answer.{Answer, and_then, ◌>>=◌, give, code_of}
use Rattle.aut68.specs.Procedure.Resolve.{Naming, found, Meaning, a_bound, a_variable, a_constant, left_out, resolve, resolves, wanted, build, context_at}
use Rattle.aut68.specs.Sizes.{cell_factor, nesting}
use Rattle.lookup.specs.Answers.{done_value}
use Rattle.lookup.specs.Completing.{left_out_sound, no_context_lem}
use Rattle.lookup.specs.Answers.{code_nonzero}
use Rattle.cells.specs.declared.scope.Scope.{Scope}
use Rattle.names.specs.Known.{Known}
use Rattle.kinds.specs.Kinds.{KindsTable}
use Rattle.notes.specs.Note.{StateNoted}
use Rattle.meanings.specs.Bindings.{bound_names}
use Rattle.meanings.specs.NotedContext.{ContextNoted}
use Rattle.meanings.specs.Posts.{BindingFound}
use Rattle.meanings.specs.Meanings.{cell_of, Meant, means, means_nothing}
use Rattle.completion.specs.Posts.{variable_cells}
use Rattle.expressions.specs.Posts.{UsedPlace, NameMeaning, used_of, NameSought, Inserted, Filled, put_in, wrong, Completed}
use Rattle.expressions.specs.Walk.{Walked, SameBelow, CellPut, Laid, Faulted, whole, faulty, Written}
use Rattle.expressions.proofs.StoreLaws.{below_then}
use Rattle.expressions.proofs.LaidLaws.{nothing_laid, laid_append, laid_cell, laid_in_front}

-- ---- `<A>B` and `[x,A]B`

module _ {w w₁ wA wB : List ℕ} {to x next toA toB d : ℕ} (put : CellPut w w₁ to x next) (sA : SameBelow next w₁ wA) (lA : next ≤ toA)
    (sB : SameBelow toA wA wB) (lB : toA ≤ toB) (g : Expr → Expr → Expr) (cells_are : (a b : Expr) → cells (g a b) ≡ x ∷ cells a ++ cells b)
    (levels_are : (a b : Expr) → levels (g a b) ≡ suc (max (levels a) (levels b))) where
  pair_laid : (a b : Expr) → Laid wA next toA d (cells a) (levels a) → Laid wB toA toB d (cells b) (levels b) → Laid wB to toB (suc d) (cells (g a b)) (levels (g a b))
  pair_laid a b A B =
      subst (λ n. Laid wB to toB (suc d) (cells (g a b)) n) (sym (levels_are a b))
      (subst (λ xs. Laid wB to toB (suc d) xs (suc (max (levels a) (levels b)))) (sym (cells_are a b))
      (laid_cell put (below_then sA lA sB) (omega arith) (laid_append sB lA lB A B)))

  pair_found : {faultA faultB : ℕ} {fa : Answer (Unit {0}) Expr} (fb : Naming Expr) → Faulted cells levels wA next toA d faultA fa → (faultA ≢ 0 → faultB ≡ faultA)
      → (faultA ≡ 0 → Faulted cells levels wB toA toB d faultB (fb tt)) → Faulted cells levels wB to toB (suc d) faultB (and_then (λ a. fb >>= λ b. give (g a b)) fa)
  unfolding and_then
  pair_found {faultB = faultB} fb (faulty {r} e) kept names = faulty (kept (λ z. code_nonzero r (sym e ∙ z)) ∙ e)
  pair_found {faultB = faultB} fb (whole {a} e A) kept names = second (names e)
    where
      second : {y : Answer (Unit {0}) Expr} → Faulted cells levels wB toA toB d faultB y → Faulted cells levels wB to toB (suc d) faultB (and_then (λ b. give (g a b)) y)
      second (faulty e) = faulty e
      second (whole {a = b} e B) = whole e (pair_laid a b A B)

  pub pair_written : {fault faultA faultB : ℕ} {ra rb rc : Src → Naming Expr} {a b e : Src} → rc e tt ≡ (ra a >>= λ a. rb b >>= λ b. give (g a b)) tt
      → Written cells levels ra w₁ wA next toA d fault faultA a → Written cells levels rb wA wB toA toB d faultA faultB b
      → Written cells levels rc w wB to toB (suc d) fault faultB e
  pair_written {faultB = faultB} {rb = rb} {b = b} meaningIs A B =
      record {
        kept = λ n. B.kept (λ z. n (sym (A.kept n) ∙ z)) ∙ A.kept n;
        names = λ z. subst (λ m. Faulted cells levels wB to toB (suc d) faultB m) (sym meaningIs) (pair_found (rb b) (A.names z) B.kept B.names);
      }

module _ (st : State) (context : List ℕ) (bs : List Bytes) {w w₁ wA wB : List ℕ} {to next toA toB d fault faultA faultB : ℕ} {a b : Src} where
  pub application_written : CellPut w w₁ to 4 next → SameBelow next w₁ wA → next ≤ toA → SameBelow toA wA wB → toA ≤ toB
      → Written cells levels (resolve st context bs) w₁ wA next toA d fault faultA a
      → Written cells levels (resolve st context bs) wA wB toA toB d faultA faultB b
      → Written cells levels (resolve st context bs) w wB to toB (suc d) fault faultB (Source.app a b)
  unfolding cells levels resolve
  application_written put sA lA sB lB A B =
      pair_written put sA lA sB lB Expr.app (λ x y. refl) (λ x y. refl) {rc = resolve st context bs} {e = Source.app a b} refl A B

  pub abstraction_written : {x : Bytes} → CellPut w w₁ to 5 next → SameBelow next w₁ wA → next ≤ toA → SameBelow toA wA wB → toA ≤ toB
      → Written cells levels (resolve st context bs) w₁ wA next toA d fault faultA a
      → Written cells levels (resolve st context (x ∷ bs)) wA wB toA toB d faultA faultB b
      → Written cells levels (resolve st context bs) w wB to toB (suc d) fault faultB (Source.abs x a b)
  unfolding cells levels resolve
  abstraction_written {x} put sA lA sB lB A B =
      pair_written put sA lA sB lB Expr.abs (λ x y. refl) (λ x y. refl) {rc = resolve st context bs} {e = Source.abs x a b} refl A B

-- ---- argument strings

cons_found : {w w₁ : List ℕ} {to toA toB d faultA faultB : ℕ} {fa : Answer (Unit {0}) Expr} (fb : Naming Exprs) → SameBelow toA w w₁ → to ≤ toA → toA ≤ toB
    → Faulted cells levels w to toA d faultA fa → (faultA ≢ 0 → faultB ≡ faultA) → (faultA ≡ 0 → Faulted cellss levelss w₁ toA toB d faultB (fb tt))
    → Faulted cellss levelss w₁ to toB d faultB (and_then (λ a. fb >>= λ b. give (Expr.cons a b)) fa)
unfolding and_then cellss levelss
cons_found fb s l m (faulty {r} e) kept names = faulty (kept (λ z. code_nonzero r (sym e ∙ z)) ∙ e)
cons_found {w} {w₁} {to} {toA} {toB} {d} {faultB = faultB} fb s l m (whole {a} e A) kept names = second (names e)
  where
    second : {y : Answer (Unit {0}) Exprs} → Faulted cellss levelss w₁ toA toB d faultB y → Faulted cellss levelss w₁ to toB d faultB (and_then (λ b. give (Expr.cons a b)) y)
    second (faulty e) = faulty e
    second (whole {a = b} e B) = whole e (laid_append s l m A B)

module _ (st : State) (context : List ℕ) (bs : List Bytes) where
  pub no_arguments_written : (w : List ℕ) (to d fault : ℕ) → Written cellss levelss (resolves st context bs) w w to to d fault fault nil
  unfolding cellss levelss resolves
  no_arguments_written w to d fault = record { kept = λ n. refl; names = λ z. whole z nothing_laid }

  pub argument_written : {w w₁ w₂ : List ℕ} {to toA toB d fault faultA faultB : ℕ} {a : Src} {xs : Srcs} → SameBelow toA w₁ w₂ → to ≤ toA → toA ≤ toB
      → Written cells levels (resolve st context bs) w w₁ to toA d fault faultA a
      → Written cellss levelss (resolves st context bs) w₁ w₂ toA toB d faultA faultB xs
      → Written cellss levelss (resolves st context bs) w w₂ to toB d fault faultB (cons a xs)
  unfolding resolves
  argument_written {xs = xs} s l m A B =
      record {
        kept = λ n. B.kept (λ z. n (sym (A.kept n) ∙ z)) ∙ A.kept n;
        names = λ z. cons_found (resolves st context bs xs) s l m (A.names z) B.kept B.names;
      }

-- ---- a name with its arguments

cells_in_front : (us : List ℕ) (es : Exprs) → cellss (in_front us es) ≡ variable_cells us ++ cellss es
unfolding in_front cells variable_cells
cells_in_front [] es = refl
cells_in_front (u ∷ us) es = ap (λ xs. (cell_factor * u + 1) ∷ xs) (cells_in_front us es)

module _ (st : State) (context : List ℕ) (bs : List Bytes) where
  resolves_none : (xs : Srcs) → count_srcs xs ≡ 0 → resolves st context bs xs tt ≡ found Expr.nil
  unfolding resolves count_srcs
  resolves_none nil e = refl
  resolves_none (cons a xs) e = absurd (omega arith)

  -- what a name without a context means has no arguments
  lone : (xs : Srcs) {us : List ℕ} {es : Exprs} → left_out (count_srcs xs) [] context tt ≡ found us → resolves st context bs xs tt ≡ found es → in_front us es ≡ Expr.nil
  unfolding in_front
  lone xs {us} {es} h f =
      let (z, n) = no_context_lem (left_out_sound (count_srcs xs) [] context h) in
      ap₂ in_front n (sym (done_value (sym (resolves_none xs z) ∙ f)))

  -- a name's cells: its own, then those of its arguments, one level deeper
  record Built (m : Meaning) (us : List ℕ) (es : Exprs) : Type 0 where
    cells_are : cells (build st context m (in_front us es)) ≡ cell_of m ∷ variable_cells us ++ cellss es
    levels_are : levels (build st context m (in_front us es)) ≡ suc (levelss (in_front us es))

  built : (m : Meaning) (xs : Srcs) (us : List ℕ) (es : Exprs) → left_out (count_srcs xs) (wanted st context m) context tt ≡ found us → resolves st context bs xs tt ≡ found es → Built m us es
  unfolding wanted build cells levels cell_of
  built (a_bound i) xs us es h f =
      let e = lone xs h f in
      record { cells_are = ap (λ x. (cell_factor * i + 2) ∷ cellss x) (sym e) ∙ ap (λ ys. (cell_factor * i + 2) ∷ ys) (cells_in_front us es); levels_are = ap (λ x. suc (levelss x)) (sym e) }
  built (a_variable v) xs us es h f =
      let e = lone xs h f in
      record { cells_are = ap (λ x. (cell_factor * v + 1) ∷ cellss x) (sym e) ∙ ap (λ ys. (cell_factor * v + 1) ∷ ys) (cells_in_front us es); levels_are = ap (λ x. suc (levelss x)) (sym e) }
  built (a_constant v) xs us es h f =
      record { cells_are = ap (λ ys. (cell_factor * v + 3) ∷ ys) (cells_in_front us es); levels_are = refl }

  module _ {w w₁ wA w' : List ℕ} {to cell first toA end d fault faultA fault' : ℕ} (xs : Srcs)
      (put : CellPut w w₁ to cell first) (sA : SameBelow first w₁ wA) (lA : first ≤ toA) (s : SameBelow first wA w') (l : toA ≤ end)
      (kept : fault ≢ 0 → faultA ≡ fault) (names : fault ≡ 0 → Faulted cellss levelss wA first toA d faultA (resolves st context bs xs tt))
      (stays : fault ≢ 0 → fault' ≡ faultA) where
    name_laid : (m : Meaning) → cell ≡ cell_of m → (us : List ℕ) (es : Exprs) → Built m us es → Laid wA first toA d (cellss es) (levelss es)
        → Inserted wA w' first toA end d us → Laid w' to end (suc d) (cells (build st context m (in_front us es))) (levels (build st context m (in_front us es)))
    name_laid m c us es b A h =
        subst (λ n. Laid w' to end (suc d) (cells (build st context m (in_front us es))) n) (sym b.levels_are)
        (subst (λ ys. Laid w' to end (suc d) ys (suc (levelss (in_front us es)))) (ap (λ x. x ∷ variable_cells us ++ cellss es) c ∙ sym b.cells_are)
        (laid_cell put (below_then sA (omega arith) s) (omega arith) (laid_in_front us es lA l s.long A h)))

    arguments_found : (m : Meaning) → cell ≡ cell_of m → (us : List ℕ) → fault' ≡ faultA → Inserted wA w' first toA end d us → {fes : Answer (Unit {0}) Exprs}
        → ((es : Exprs) → fes ≡ found es → Built m us es) → Faulted cellss levelss wA first toA d faultA fes
        → Faulted cells levels w' to end (suc d) fault' (and_then (λ es. give (build st context m (in_front us es))) fes)
    unfolding and_then
    arguments_found m c us f h b (faulty e) = faulty (f ∙ e)
    arguments_found m c us f h b (whole {a} e A) = whole (f ∙ e) (name_laid m c us a (b a refl) A h)

    filled_found : (m : Meaning) → fault ≡ 0 → cell ≡ cell_of m → {fus : Answer (Unit {0}) (List ℕ)}
        → ((us : List ℕ) → fus ≡ found us → (es : Exprs) → resolves st context bs xs tt ≡ found es → Built m us es)
        → Filled wA w' first toA end d faultA fault' fus
        → Faulted cells levels w' to end (suc d) fault' (and_then (λ us. resolves st context bs xs >>= λ es. give (build st context m (in_front us es))) fus)
    unfolding and_then code_of
    filled_found m z c b (put_in {us} f h) = arguments_found m c us f h (b us refl) (names z)
    filled_found m z c b (wrong e) = faulty e

    pub name_found : {count : ℕ} {fm : Answer (Unit {0}) Meaning} → Meant st context fault cell count fm
        → ((m : Meaning) → fault ≡ 0 → cell ≡ cell_of m → count ≡ length (wanted st context m) → Filled wA w' first toA end d faultA fault' (left_out (count_srcs xs) (wanted st context m) context tt))
        → Faulted cells levels w' to end (suc d) fault'
        (and_then (λ m. left_out (count_srcs xs) (wanted st context m) context >>= λ us. resolves st context bs xs >>= λ es. give (build st context m (in_front us es))) fm)
    unfolding and_then
    name_found (means_nothing {r} e) h =
        let n : fault ≢ 0 = λ z. code_nonzero r (sym e ∙ z) in
        faulty (stays n ∙ kept n ∙ e)
    name_found (means {m} z c q) h = filled_found m z c (λ us e es f. built m xs us es e f) (h m z c q)

-- the name, its arguments xs and what was left out of them
pub name_written : (st : State) {ks s : Bytes} {b : ℕ} {scope : Scope} {book tb : List ℕ} {lines indicator : ℕ} {w w₁ wA w' : List ℕ} {to first fault : ℕ} {u : UsedPlace} {m : NameMeaning}
    → NameSought ks s b book tb lines indicator w fault u m → CellPut w w₁ to m.cell first → KindsTable ks → Known st.earlier book tb lines → StateNoted st book tb lines w
    → ContextNoted st.earlier indicator w → ContextNoted st.earlier indicator wA → indicator ≤ lines → BindingFound s scope (used_of s u) b
    → scope.bound ≤ nesting → 1 ≤ u.len → u.start + u.len ≤ length s → u.title + u.size ≤ length s → SameBelow first w₁ wA → {a r : Walked} (xs : Srcs)
    → Completed tb indicator wA w' first scope.depth a m r → a.code ≡ 0 → first ≤ a.to → a.to ≤ length wA + 1 → a.count ≡ count_srcs xs
    → Written cellss levelss (resolves st (context_at st.earlier indicator) (bound_names s scope)) w₁ wA first a.to (nesting - 1 - scope.depth) m.fault a.fault xs
    → Written cells levels (resolve st (context_at st.earlier indicator) (bound_names s scope)) w w' to r.to (suc (nesting - 1 - scope.depth)) fault r.fault
    (name (used_of s u) xs)
unfolding resolve
name_written st {s = s} {scope = scope} {book} {lines = lines} {indicator} {wA = wA} {w'} {first = first} sought put t k g context noted i h d l e f sA {a} {r} xs C z up small number A =
    record {
      kept = λ n.
          let f = sought.kept n in
          C.kept (λ q. n (sym f ∙ q)) ∙ A.kept (λ q. n (sym f ∙ q)) ∙ f;
      names = λ q.
          name_found st (context_at st.earlier indicator) (bound_names s scope) xs put sA up C.below (C.up small) A.kept A.names C.kept
          (sought.meant q l e f st t k g context i scope h d)
          (λ x q c n.
          subst (λ j. Filled wA w' first a.to r.to (nesting - 1 - scope.depth) a.fault r.fault
          (left_out j (wanted st (context_at st.earlier indicator) x) (context_at st.earlier indicator) tt)) number
          (C.filled z q up small st book lines k noted i x c n));
    }
