-- Laws about the cells of expressions: the first cell and the parts after it, a forest of pending expressions passed cell by
-- cell, and unique reading.
use Rattle.std.specs.Prelude.{ℕ, zero, suc, ◌+◌, ◌*◌, ◌-◌, ◌≤◌, ◌<◌, ◌%◌, ◌/◌, ◌≡◌, true, false, eqb}
use Rattle.std.proofs.Common.{zero-le, ◌∙◌, add-zero, arith, length-drop, get_or-drop, drop-drop}
use Rattle.std.proofs.Math.Path.{refl, sym, ap, ap₂}
use mathlib.Core.List.{List, [], ◌∷◌, ◌++◌, append-nil, append_assoc}
use Rattle.std.proofs.Math.ListN.{length, get_or, drop, length-append}
use Rattle.aut68.specs.Lines.{row_cell}
use Rattle.aut68.specs.Sizes.{cell_factor, at_context}
use Rattle.aut68.specs.Expr.{Expr, Exprs, type, prop, var, bound, const, app, abs, nil, cons, size, sizes, first_cell, parts, cells, cellss, count_exprs}
use Rattle.cells.specs.Cells.{parts_after, Formed, AllFormed, RightCount, At}

-- ---- a cell and its parts

-- what a cell's number and kind are
pub kind_of : (v k : ℕ) → k < cell_factor → (cell_factor * v + k) % cell_factor ≡ k
kind_of v k h = omega arith

pub number_of : (v k : ℕ) → k < cell_factor → (cell_factor * v + k) / cell_factor ≡ v
number_of v k h = omega arith

pub cells_split : (e : Expr) → cells e ≡ first_cell e ∷ cellss (parts e)
unfolding cells cellss first_cell parts
cells_split type = refl
cells_split prop = refl
cells_split (var v) = refl
cells_split (bound i) = refl
cells_split (const v xs) = refl
cells_split (app a b) = rw append-nil
cells_split (abs p t) = rw append-nil

mutual
  unfolding size sizes cells cellss

  pub size_is_length : (e : Expr) → size e ≡ length (cells e)
  size_is_length type = refl
  size_is_length prop = refl
  size_is_length (var v) = refl
  size_is_length (bound i) = refl
  size_is_length (const v xs) = ap suc (sizes_is_length xs)
  size_is_length (app a b) = omega (arith, size_is_length a, size_is_length b, length-append (cells a) (cells b))
  size_is_length (abs p t) = omega (arith, size_is_length p, size_is_length t, length-append (cells p) (cells t))

  pub sizes_is_length : (es : Exprs) → sizes es ≡ length (cellss es)
  sizes_is_length nil = refl
  sizes_is_length (cons a xs) = omega (arith, size_is_length a, sizes_is_length xs, length-append (cells a) (cellss xs))

pub size_positive : (e : Expr) → 1 ≤ size e
unfolding size
size_positive type = omega arith
size_positive prop = omega arith
size_positive (var v) = omega arith
size_positive (bound i) = omega arith
size_positive (const v xs) = omega arith
size_positive (app a b) = omega arith
size_positive (abs p t) = omega arith

-- an expression has at least one cell, and a forest at least as many as expressions
pub cells_long : (e : Expr) → 1 ≤ length (cells e)
cells_long e = omega (arith, size_is_length e, size_positive e)

pub count_long : (es : Exprs) → count_exprs es ≤ length (cellss es)
unfolding count_exprs cellss
count_long nil = zero-le
count_long (cons e es) = omega (arith, cells_long e, count_long es, length-append (cells e) (cellss es))

-- ---- two forests, one after the other

unfoldable pub join : Exprs → Exprs → Exprs
join nil fs = fs
join (cons e es) fs = cons e (join es fs)

pub cells_join : (es fs : Exprs) → cellss (join es fs) ≡ cellss es ++ cellss fs
unfolding join cellss
cells_join nil fs = refl
cells_join (cons e es) fs = rw (cells_join es fs, append_assoc)

pub count_join : (es fs : Exprs) → count_exprs (join es fs) ≡ count_exprs es + count_exprs fs
unfolding join count_exprs
count_join nil fs = omega arith
count_join (cons e es) fs = omega (arith, count_join es fs)

-- the cells of one expression as those of a forest
pub cells_one : (e : Expr) → cellss (cons e nil) ≡ cells e
unfolding cellss
cells_one e = append-nil (cells e)

module _ (X : ℕ → Type 0) (C : ℕ → ℕ → Type 0) where
  pub formed_join : (es fs : Exprs) → AllFormed X C es → AllFormed X C fs → AllFormed X C (join es fs)
  unfolding join AllFormed
  formed_join nil fs p q = q
  formed_join (cons e es) fs p q = (p.0, formed_join es fs p.1 q)

  pub formed_parts : (e : Expr) → Formed X C e → AllFormed X C (parts e)
  unfolding parts Formed AllFormed
  formed_parts type w = tt
  formed_parts prop w = tt
  formed_parts (var v) w = tt
  formed_parts (bound i) w = tt
  formed_parts (const v xs) w = w.1
  formed_parts (app a b) w = (w.0, (w.1, tt))
  formed_parts (abs p t) w = (w.0, (w.1, tt))

-- the same as parts_after, by kind and number
unfoldable pub parts_of_kind : List ℕ → ℕ → ℕ → ℕ
parts_of_kind tb k v = elim (eqb k 3) [ true ↦ row_cell tb v at_context | false ↦ elim (eqb k 4) [ true ↦ 2 | false ↦ elim (eqb k 5) [ true ↦ 2 | false ↦ 0 ] ] ]

pub parts_of_kind_lem : (tb : List ℕ) (v k : ℕ) → k < cell_factor → parts_after tb (cell_factor * v + k) ≡ parts_of_kind tb k v
unfolding parts_after parts_of_kind
parts_of_kind_lem tb v k h = ap₂ (parts_of_kind tb) (kind_of v k h) (number_of v k h)

-- as many parts follow a first cell as the expression has
pub parts_count : (X : ℕ → Type 0) (tb : List ℕ) (e : Expr) → Formed X (RightCount tb) e → parts_after tb (first_cell e) ≡ count_exprs (parts e)
unfolding parts_of_kind parts_after first_cell parts count_exprs Formed
parts_count X tb type w = refl
parts_count X tb prop w = refl
parts_count X tb (var v) w = parts_of_kind_lem tb v 1 (omega arith)
parts_count X tb (bound i) w = parts_of_kind_lem tb i 2 (omega arith)
parts_count X tb (const v xs) w = parts_of_kind_lem tb v 3 (omega arith) ∙ sym w.0
parts_count X tb (app a b) w = refl
parts_count X tb (abs p t) w = refl

-- ---- what stands at an index

pub at_head : (s : List ℕ) (i x : ℕ) (l : List ℕ) → drop i s ≡ x ∷ l → get_or s i 0 ≡ x
at_head s i x l h = ap (λ (k : ℕ). get_or s k 0) (sym (add-zero i)) ∙ sym (get_or-drop i s 0 0) ∙ ap (λ (m : List ℕ). get_or m 0 0) h

pub at_tail : (s : List ℕ) (i x : ℕ) (l : List ℕ) → drop i s ≡ x ∷ l → drop (i + 1) s ≡ l
at_tail s i x l h = sym (drop-drop 1 i s) ∙ ap (drop 1) h

pub at_length : {s : List ℕ} {i : ℕ} {xs rest : List ℕ} → At s i xs rest → length s - i ≡ length xs + length rest
at_length {s} {i} {xs} {rest} h = sym (length-drop i s) ∙ ap length h.is ∙ length-append xs rest

-- where an expression lies, there is a store
pub at_inside : {s : List ℕ} {i : ℕ} (e : Expr) {rest : List ℕ} → At s i (cells e) rest → i + length (cells e) + length rest ≡ length s
at_inside {s} {i} e {rest} h = omega (arith, at_length h, cells_long e)

-- the cells of an expression: its first one, and then those of its parts
pub at_first : {s : List ℕ} {i : ℕ} (e : Expr) {rest : List ℕ} → At s i (cells e) rest → get_or s i 0 ≡ first_cell e
at_first {s} {i} e {rest} a = at_head s i (first_cell e) (cellss (parts e) ++ rest) (a.is ∙ ap (λ (l : List ℕ). l ++ rest) (cells_split e))

pub at_parts : {s : List ℕ} {i : ℕ} (e : Expr) {rest : List ℕ} → At s i (cells e) rest → At s (i + 1) (cellss (parts e)) rest
at_parts {s} {i} e {rest} a =
    record { is = at_tail s i (first_cell e) (cellss (parts e) ++ rest) (a.is ∙ ap (λ (l : List ℕ). l ++ rest) (cells_split e)) }

-- of two runs one after the other, the first and the second
pub at_front : {s : List ℕ} {i : ℕ} (xs ys : List ℕ) {rest : List ℕ} → At s i (xs ++ ys) rest → At s i xs (ys ++ rest)
at_front xs ys {rest} a = record { is = a.is ∙ append_assoc xs ys rest }

drop_front : (xs ys : List ℕ) → drop (length xs) (xs ++ ys) ≡ ys
drop_front [] ys = refl
drop_front (x ∷ xs) ys = drop_front xs ys

pub at_behind : {s : List ℕ} {i : ℕ} {xs rest : List ℕ} → At s i xs rest → At s (i + length xs) [] rest
at_behind {s} {i} {xs} {rest} a = record { is = sym (drop-drop (length xs) i s) ∙ ap (drop (length xs)) a.is ∙ drop_front xs rest }

pub at_second : {s : List ℕ} {i : ℕ} (xs ys : List ℕ) {rest : List ℕ} → At s i (xs ++ ys) rest → At s (i + length xs) ys rest
at_second xs ys a = record { is = (at_behind (at_front xs ys a)).is }

pub at_one : {s : List ℕ} {i : ℕ} (e : Expr) {rest : List ℕ} → At s i (cells e) rest → At s i (cellss (cons e nil)) rest
at_one e {rest} a = record { is = a.is ∙ ap (λ (l : List ℕ). l ++ rest) (sym (cells_one e)) }

-- ---- a forest of n pending expressions, with rest behind it

pub record Pending (X : ℕ → Type 0) (tb s : List ℕ) (i n : ℕ) (rest : List ℕ) : Type 0 where
  pub todo : Exprs
  pub counted : count_exprs todo ≡ n
  pub formed : AllFormed X (RightCount tb) todo
  pub at : At s i (cellss todo) rest

module _ {X : ℕ → Type 0} {tb s : List ℕ} {i : ℕ} {rest : List ℕ} where
  -- one cell is passed: one expression fewer is pending, and its parts more
  pub pass_cell : {n : ℕ} → 0 < n → Pending X tb s i n rest → Pending X tb s (i + 1) (n - 1 + parts_after tb (get_or s i 0)) rest
  unfolding count_exprs AllFormed cellss
  pass_cell {n} pos p = go p.todo p.counted p.formed p.at
    where
      go : (es : Exprs) → count_exprs es ≡ n → AllFormed X (RightCount tb) es → At s i (cellss es) rest
          → Pending X tb s (i + 1) (n - 1 + parts_after tb (get_or s i 0)) rest
      go nil c w a = absurd (omega arith)
      go (cons e es) c w a =
          let a' : drop i s ≡ first_cell e ∷ (cellss (parts e) ++ cellss es ++ rest) = a.is ∙ rw (cells_split e) in
          record {
            todo = join (parts e) es;
            counted = rw (at_head s i _ _ a', parts_count X tb e w.0, count_join) (omega arith);
            formed = formed_join X (RightCount tb) (parts e) es (formed_parts X (RightCount tb) e w.0) w.1;
            at = record { is = rw cells_join (at_tail s i _ _ a') };
          }

  pub pending_one : (e : Expr) → Formed X (RightCount tb) e → At s i (cells e) rest → Pending X tb s i 1 rest
  unfolding count_exprs AllFormed
  pending_one e w a = record { todo = cons e nil; counted = refl; formed = (w, tt); at = at_one e a }

  -- as many cells are left as expressions are pending
  pub pending_long : {n : ℕ} → Pending X tb s i n rest → n + length rest ≤ length s - i
  pending_long p = omega (arith, at_length p.at, count_long p.todo, p.counted)

  -- nothing is pending: the rest stands there
  pub pending_none : Pending X tb s i 0 rest → drop i s ≡ rest
  unfolding count_exprs cellss
  pending_none p = go p.todo p.counted p.at
    where
      go : (es : Exprs) → count_exprs es ≡ 0 → At s i (cellss es) rest → drop i s ≡ rest
      go nil c a = a.is
      go (cons e es) c a = absurd (omega arith)

-- the forest xs began at `start`, nothing of it is pending at i
pub pending_ends : {X : ℕ → Type 0} {tb s : List ℕ} {start i : ℕ} {xs rest : List ℕ} → i ≤ length s → start ≤ length s → At s start xs rest
    → Pending X tb s i 0 rest → i ≡ start + length xs
pending_ends {s = s} {i = i} h k a p = omega (arith, at_length a, sym (length-drop i s) ∙ ap length (pending_none p))

-- ---- unique reading: two expressions that begin one list of cells are one

first_of : Exprs → Expr
first_of nil = type
first_of (cons a xs) = a

rest_of : Exprs → Exprs
rest_of nil = nil
rest_of (cons a xs) = xs

-- the expression of a first cell's kind and number, and of its parts
rebuild : ℕ → ℕ → Exprs → Expr
rebuild k v ps =
    elim (eqb k 0) [
      | true ↦ type
      | false ↦
          elim (eqb k 1) [
            | true ↦ var v
            | false ↦
                elim (eqb k 2) [
                  | true ↦ bound v
                  | false ↦
                      elim (eqb k 3) [
                        | true ↦ const v ps
                        | false ↦
                            elim (eqb k 4) [
                              | true ↦ app (first_of ps) (first_of (rest_of ps))
                              | false ↦ elim (eqb k 5) [ true ↦ abs (first_of ps) (first_of (rest_of ps)) | false ↦ prop ]
                            ]
                      ]
                ]
          ]
    ]

rebuilt : (e : Expr) → rebuild (first_cell e % cell_factor) (first_cell e / cell_factor) (parts e) ≡ e
unfolding rebuild first_cell parts first_of rest_of
rebuilt type = refl
rebuilt prop = refl
rebuilt (var v) = ap₂ (λ (k n : ℕ). rebuild k n nil) (kind_of v 1 (omega arith)) (number_of v 1 (omega arith))
rebuilt (bound i) = ap₂ (λ (k n : ℕ). rebuild k n nil) (kind_of i 2 (omega arith)) (number_of i 2 (omega arith))
rebuilt (const v xs) = ap₂ (λ (k n : ℕ). rebuild k n xs) (kind_of v 3 (omega arith)) (number_of v 3 (omega arith))
rebuilt (app a b) = refl
rebuilt (abs p t) = refl

-- two forests of as many expressions each that begin one forest
join_same : (es es' fs fs' : Exprs) → count_exprs es ≡ count_exprs es' → join es fs ≡ join es' fs' → (es ≡ es') × (fs ≡ fs')
unfolding count_exprs join
join_same nil nil fs fs' c h = (refl, h)
join_same nil (cons e' es') fs fs' c h = absurd (omega arith)
join_same (cons e es) nil fs fs' c h = absurd (omega arith)
join_same (cons e es) (cons e' es') fs fs' c h =
    let r = join_same es es' fs fs' (omega arith) (cc) in
    let q : e ≡ e' = cc in
    (ap₂ cons q r.0, r.1)

module _ (X Y : ℕ → Type 0) (tb : List ℕ) where
  -- two forests of at most n cells that begin one list are one
  abbrev UniqueBy : ℕ → Type 0
  UniqueBy n =
      (es es' : Exprs) (r r' : List ℕ) → length (cellss es) ≤ n → count_exprs es ≡ count_exprs es' → AllFormed X (RightCount tb) es
      → AllFormed Y (RightCount tb) es' → cellss es ++ r ≡ cellss es' ++ r' → (es ≡ es') × (r ≡ r')

  unique_more : (n : ℕ) → UniqueBy n → UniqueBy (suc n)
  unfolding count_exprs cellss AllFormed
  unique_more n u nil nil r r' l c w w' h = (refl, h)
  unique_more n u nil (cons e' es') r r' l c w w' h = absurd (omega arith)
  unique_more n u (cons e es) nil r r' l c w w' h = absurd (omega arith)
  unique_more n u (cons e es) (cons e' es') r r' l c w w' h =
      let k : first_cell e ∷ (cellss (parts e) ++ cellss es ++ r) ≡ first_cell e' ∷ (cellss (parts e') ++ cellss es' ++ r') =
      sym (rw (cells_split e)) ∙ h ∙ rw (cells_split e')
      in
      let f : first_cell e ≡ first_cell e' = ap (λ (m : List ℕ). get_or m 0 0) k in
      let m : count_exprs (parts e) ≡ count_exprs (parts e') =
      sym (parts_count X tb e w.0) ∙ ap (parts_after tb) f ∙ parts_count Y tb e' w'.0
      in
      let v = u (join (parts e) es) (join (parts e') es') r r'
      (rw cells_join (omega (arith, length-append (cells e) (cellss es), length-append (cellss (parts e)) (cellss es), ap length (cells_split e))))
      (rw (count_join (parts e) es, count_join (parts e') es') (omega arith))
      (formed_join X (RightCount tb) (parts e) es (formed_parts X (RightCount tb) e w.0) w.1)
      (formed_join Y (RightCount tb) (parts e') es' (formed_parts Y (RightCount tb) e' w'.0) w'.1)
      (rw (cells_join (parts e) es, cells_join (parts e') es') (ap (drop 1) k))
      in
      let j = join_same (parts e) (parts e') es es' m v.0 in
      (ap₂ cons (sym (rebuilt e) ∙ ap₂ (λ (c : ℕ) (ps : Exprs). rebuild (c % cell_factor) (c / cell_factor) ps) f j.0 ∙ rebuilt e') j.1, v.1)

  unique_none : UniqueBy 0
  unfolding count_exprs cellss
  unique_none nil nil r r' l c w w' h = (refl, h)
  unique_none nil (cons e' es') r r' l c w w' h = absurd (omega arith)
  unique_none (cons e es) es' r r' l c w w' h = absurd (omega (arith, cells_long e, length-append (cells e) (cellss es)))

  unique_by : (n : ℕ) → UniqueBy n
  unique_by zero = unique_none
  unique_by (suc n) = unique_more n (unique_by n)

  pub cellss_unique : (es es' : Exprs) (r r' : List ℕ) → count_exprs es ≡ count_exprs es' → AllFormed X (RightCount tb) es → AllFormed Y (RightCount tb) es'
      → cellss es ++ r ≡ cellss es' ++ r' → (es ≡ es') × (r ≡ r')
  cellss_unique es es' r r' c w w' h = unique_by (length (cellss es)) es es' r r' (omega arith) c w w' h

  pub cells_unique : (e e' : Expr) (r r' : List ℕ) → Formed X (RightCount tb) e → Formed Y (RightCount tb) e' → cells e ++ r ≡ cells e' ++ r' → (e ≡ e') × (r ≡ r')
  unfolding count_exprs AllFormed first_of
  cells_unique e e' r r' w w' h =
      let u = cellss_unique (cons e nil) (cons e' nil) r r' refl (w, tt) (w', tt) (rw (cells_one e, cells_one e') h) in
      (ap first_of u.0, u.1)
