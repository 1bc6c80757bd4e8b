-- Tables of the same lines, whose identifiers begin elsewhere in a book, differ in the first cell of each row and nowhere else.
use Rattle.std.specs.Prelude.{◌≡◌, refl, ◌⊎◌, ◌≢◌, List, [], ◌∷◌, ◌++◌, ℕ, zero, suc, ◌+◌, ◌*◌, ◌%◌, ◌≤◌, length, get_or, drop}
use Rattle.std.proofs.Common.{ap, sym, ◌∙◌, inl, inr, arith}
use Rattle.aut68.specs.Sizes.{row_width}
use Rattle.aut68.specs.Lines.{Lines, line_cells, row_of, rows_from, table_of}
use Rattle.aut68.specs.Procedure.Run.{over}

-- a cell that tells no place, of a table with n rows: not the first of its row, or behind the rows
abbrev NoPlace : ℕ → ℕ → Type 0
NoPlace n i = (i % row_width ≢ 0) ⊎ (row_width * n ≤ i)

rows_as_long : (s : ℕ) (fs gs : List ℕ) (ls : Lines) → length fs ≡ length gs → length (rows_from s fs ls) ≡ length (rows_from s gs ls)
unfolding rows_from row_of
rows_as_long s fs gs [] e = refl
rows_as_long s [] [] (l ∷ ls) e = refl
rows_as_long s [] (g ∷ gs) (l ∷ ls) e = absurd (omega arith)
rows_as_long s (f ∷ fs) [] (l ∷ ls) e = absurd (omega arith)
rows_as_long s (f ∷ fs) (g ∷ gs) (l ∷ ls) e = let h = rows_as_long (s + length (line_cells l)) fs gs ls (omega arith) in omega arith

-- one row ahead of others: any cell but its first
row_agrees : (f g : ℕ) (cells xs ys : List ℕ) (i : ℕ) → i ≢ 0 → ((j : ℕ) → i ≡ suc (length cells + j) → get_or xs j 0 ≡ get_or ys j 0) → get_or (f ∷ (cells ++ xs)) i 0 ≡ get_or (g ∷ (cells ++ ys)) i 0
row_agrees f g cells xs ys zero n h = absurd (n refl)
row_agrees f g [] xs ys (suc i) n h = h i (omega arith)
row_agrees f g (c ∷ cells) xs ys (suc zero) n h = refl
row_agrees f g (c ∷ cells) xs ys (suc (suc i)) n h = row_agrees c c cells xs ys (suc i) (λ e. omega arith) (λ j e. h j (omega arith))

no_place_first : (n : ℕ) {i : ℕ} → NoPlace (suc n) i → i ≢ 0
no_place_first n (inl h) e = h (omega arith)
no_place_first n (inr h) e = omega arith

no_place_rest : (n : ℕ) {i : ℕ} (j : ℕ) → i ≡ row_width + j → NoPlace (suc n) i → NoPlace n j
no_place_rest n j e (inl h) = inl (λ z. h (omega arith))
no_place_rest n j e (inr h) = inr (omega arith)

rows_agree : (s : ℕ) (fs gs : List ℕ) (ls : Lines) (rest : List ℕ) → length fs ≡ length ls → length gs ≡ length ls
    → (i : ℕ) → NoPlace (length ls) i → get_or (rows_from s fs ls ++ rest) i 0 ≡ get_or (rows_from s gs ls ++ rest) i 0
unfolding rows_from row_of
rows_agree s fs gs [] rest e q i n = refl
rows_agree s [] gs (l ∷ ls) rest e q i n = absurd (omega arith)
rows_agree s (f ∷ fs) [] (l ∷ ls) rest e q i n = absurd (omega arith)
rows_agree s (f ∷ fs) (g ∷ gs) (l ∷ ls) rest e q i n =
    let t = s + length (line_cells l) in
    row_agrees f g (drop 1 (row_of 0 s l)) (rows_from t fs ls ++ rest) (rows_from t gs ls ++ rest) i (no_place_first (length ls) n)
    (λ j p. rows_agree t fs gs ls rest (omega arith) (omega arith) j (no_place_rest (length ls) j (omega arith) n))

-- the tables over one store
pub tables_agree : (fs gs : List ℕ) (ls : Lines) (old : List ℕ) → length fs ≡ length ls → length gs ≡ length ls
    → (i : ℕ) → NoPlace (length ls) i → get_or (over (table_of fs ls) old) i 0 ≡ get_or (over (table_of gs ls) old) i 0
unfolding over table_of
tables_agree fs gs ls old e q i n =
    rows_agree 0 fs gs ls (drop (length (rows_from 0 fs ls)) old) e q i n
    ∙ ap (λ (k : ℕ). get_or (rows_from 0 gs ls ++ drop k old) i 0) (rows_as_long 0 fs gs ls (e ∙ sym q))
