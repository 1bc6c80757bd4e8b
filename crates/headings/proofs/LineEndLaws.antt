-- Where a line of a book ends.
use mathlib.Core.Path.{◌≡◌, refl, sym, ap, subst, ◌∙◌}
use mathlib.Core.Logic.{◌≢◌}
use mathlib.Core.List.{List, [], ◌∷◌, ◌++◌}
use Prim.Native.Nat.{ℕ, zero, suc, ◌+◌, ◌-◌, ◌≤◌, ◌<◌}
use native.Mathlib.Omega.{arith}
use lib.ListN.{length, get_or, drop, take, length-drop, length-take}
use lib.Seq.{take-suc, take-add, get_or-take, get_or-drop, drop-drop}
use borrow.Author.Tests.{ne_eqb, eq-eqb}
use lib.Dec.{eqb}
use mathlib.Core.Bool.{false, false≢true}
use Rattle.std.specs.List.{list_any}
use Rattle.std.proofs.lemmas.List.Folds.{list_any_at}
use Rattle.aut68.specs.Bytes.{Bytes, onto, lines}
use Rattle.aut68.specs.Procedure.Answer.{done, stop, malformed}
use Rattle.aut68.specs.Procedure.Parse.{line_end}
use Rattle.symbols.proofs.SymbolLaws.{step, ended}
use Rattle.headings.specs.Posts.{LineEnd}

-- bytes without byte 10, in front of lines
pub onto_all : Bytes → List Bytes → List Bytes
onto_all [] ls = ls
onto_all (b ∷ bs) ls = onto b (onto_all bs ls)

all_onto : (xs : Bytes) (b : ℕ) (ls : List Bytes) → onto_all (xs ++ (b ∷ [])) ls ≡ onto_all xs (onto b ls)
unfolding onto_all
all_onto [] b ls = refl
all_onto (x ∷ xs) b ls = ap (onto x) (all_onto xs b ls)

all_cons : (xs l : Bytes) (ls : List Bytes) → onto_all xs (l ∷ ls) ≡ (xs ++ l) ∷ ls
unfolding onto_all onto
all_cons [] l ls = refl
all_cons (x ∷ xs) l ls = ap (onto x) (all_cons xs l ls)

all_last : (xs : Bytes) → length xs ≢ 0 → onto_all xs [] ≡ xs ∷ []
unfolding onto_all onto
all_last [] n = absurd (n refl)
all_last (x ∷ []) n = refl
all_last (x ∷ (y ∷ ys)) n = ap (onto x) (all_last (y ∷ ys) (λ e. omega arith))

lines_end : (bs : Bytes) → lines (10 ∷ bs) ≡ (10 ∷ []) ∷ lines bs
unfolding lines
lines_end bs = refl

lines_on : (b : ℕ) (bs : Bytes) → b ≢ 10 → lines (b ∷ bs) ≡ onto b (lines bs)
unfolding lines
lines_on b bs n = rw (ne_eqb b 10 n, lines)

no_lines_lem : lines [] ≡ []
unfolding lines
no_lines_lem = refl

-- no byte 10 from `at` up to i
pub record NoEndSoFar (book : Bytes) (at i : ℕ) : Type 0 where
  pub from : at ≤ i
  pub within : at ≤ length book → i ≤ length book
  pub rest : lines (drop at book) ≡ onto_all (take (i - at) (drop at book)) (lines (drop i book))

pub no_end_start : (book : Bytes) (at : ℕ) → NoEndSoFar book at at
unfolding onto_all
no_end_start book at =
    let e : at - at ≡ 0 = omega arith in
    record { from = omega arith; within = λ l. l; rest = ap (λ n. onto_all (take n (drop at book)) (lines (drop at book))) (sym e) }

-- one byte more
taken_more : (book : Bytes) (at i : ℕ) → at ≤ i → i < length book → take (i + 1 - at) (drop at book) ≡ take (i - at) (drop at book) ++ (get_or book i 0 ∷ [])
taken_more book at i l m =
    let e : i + 1 - at ≡ suc (i - at) = omega arith in
    let q : at + (i - at) ≡ i = omega arith in
    ap (λ n. take n (drop at book)) e
    ∙ take-suc (drop at book) (i - at) 0 (omega (arith, length-drop at book))
    ∙ ap (λ x. take (i - at) (drop at book) ++ (x ∷ [])) (get_or-drop at book (i - at) 0 ∙ ap (λ n. get_or book n 0) q)

module _ {book : Bytes} {at i : ℕ} (h : NoEndSoFar book at i) where
  pub no_end_more : i < length book → get_or book i 0 ≢ 10 → NoEndSoFar book at (i + 1)
  no_end_more l n =
      record {
        from = omega (arith, h.from);
        within = λ m. omega arith;
        rest =
            h.rest
            ∙ ap (onto_all (take (i - at) (drop at book))) (ap lines (step book i l) ∙ lines_on (get_or book i 0) (drop (i + 1) book) n)
            ∙ sym (all_onto (take (i - at) (drop at book)) (get_or book i 0) (lines (drop (i + 1) book)))
            ∙ ap (λ xs. onto_all xs (lines (drop (i + 1) book))) (sym (taken_more book at i h.from l));
      }

  pub line_ends_here : i < length book → get_or book i 0 ≡ 10 → LineEnd book at (i + 1)
  line_ends_here l e =
      record {
        from = λ m. omega (arith, h.from);
        within = λ m. omega arith;
        is = λ m.
            h.rest
            ∙ ap (onto_all (take (i - at) (drop at book))) (ap lines (step book i l ∙ ap (λ b. b ∷ drop (i + 1) book) e) ∙ lines_end (drop (i + 1) book))
            ∙ all_cons (take (i - at) (drop at book)) (10 ∷ []) (lines (drop (i + 1) book))
            ∙ ap (λ xs. xs ∷ lines (drop (i + 1) book)) (sym (taken_more book at i h.from l ∙ ap (λ b. take (i - at) (drop at book) ++ (b ∷ [])) e));
      }

  pub book_ends_here : {r : ℕ} → length book ≤ i → length book ≤ r → (at ≤ length book → r ≤ length book) → LineEnd book at r
  book_ends_here {r} l e f =
      record {
        from = λ m. omega arith;
        within = f;
        is = λ m.
            let z : i ≡ r = omega (arith, h.within (omega arith), f (omega arith)) in
            h.rest
            ∙ ap (onto_all (take (i - at) (drop at book))) (ap lines (ended book i l) ∙ no_lines_lem)
            ∙ all_last (take (i - at) (drop at book)) (λ e. omega (arith, length-take (i - at) (drop at book), length-drop at book))
            ∙ ap (λ (j : ℕ). take (j - at) (drop at book) ∷ []) z
            ∙ ap (λ ls. take (r - at) (drop at book) ∷ ls) (sym (ap lines (ended book r e) ∙ no_lines_lem));
      }

  -- what ends the line from i on ends it from `at` on
  pub line_ends_later : {r : ℕ} → i < length book → LineEnd book i r → LineEnd book at r
  line_ends_later {r} l e =
      record {
        from = λ m. omega (arith, h.from, e.from l);
        within = λ m. e.within (omega arith);
        is = λ m.
            h.rest
            ∙ ap (onto_all (take (i - at) (drop at book))) (e.is l)
            ∙ all_cons (take (i - at) (drop at book)) (take (r - i) (drop i book)) (lines (drop r book))
            ∙ ap (λ xs. xs ∷ lines (drop r book)) (taken_on (e.from l));
      }
    where
      taken_on : i < r → take (i - at) (drop at book) ++ take (r - i) (drop i book) ≡ take (r - at) (drop at book)
      taken_on n =
          let p : at + (i - at) ≡ i = omega (arith, h.from) in
          let q : (i - at) + (r - i) ≡ r - at = omega (arith, h.from) in
          ap (λ d. take (i - at) (drop at book) ++ take (r - i) d) (ap (λ n. drop n book) (sym p) ∙ sym (drop-drop (i - at) at book))
          ∙ sym (take-add (i - at) (r - i) (drop at book))
          ∙ ap (λ n. take n (drop at book)) q

-- n bytes more
no_end_many : {book : Bytes} {at i : ℕ} (n : ℕ) → NoEndSoFar book at i → i + n ≤ length book → ((j : ℕ) → j < n → get_or book (i + j) 0 ≢ 10) → NoEndSoFar book at (i + n)
no_end_many {book} {at} {i} zero h l f = subst (NoEndSoFar book at) (omega arith) h
no_end_many {book} {at} {i} (suc n) h l f =
    let e : i + n + 1 ≡ i + suc n = omega arith in
    subst (NoEndSoFar book at) e (no_end_more (no_end_many n h (omega arith) (λ j m. f j (omega arith))) (omega arith) (f n (omega arith)))

-- 32 bytes at once, none of them 10
pub no_end_part : {book : Bytes} {at i : ℕ} → NoEndSoFar book at i → i + 32 ≤ length book → false ≡ list_any (λ b. eqb b 10) (take (i + 32 - i) (drop i book)) → NoEndSoFar book at (i + 32)
no_end_part {book} {at} {i} h l f =
    no_end_many 32 h l (λ j m e.
    false≢true (f
    ∙ list_any_at (λ b. eqb b 10) (take (i + 32 - i) (drop i book)) j 0 (omega (arith, length-take (i + 32 - i) (drop i book), length-drop i book))
    (eq-eqb _ 10 (get_or-take (i + 32 - i) (drop i book) j 0 (omega arith) ∙ get_or-drop i book j 0 ∙ e))))

-- ---- a line that is read

pub line_ends : (s : Bytes) (at : ℕ) → length s ≤ at → line_end (drop at s) ≡ done tt (drop at s)
unfolding line_end
line_ends s at l = let e = ended s at l in ap line_end e ∙ ap (done tt) (sym e)

pub line_goes_on : (bs : Bytes) → length bs ≢ 0 → line_end bs ≡ stop malformed bs
unfolding line_end
line_goes_on [] n = absurd (n refl)
line_goes_on (b ∷ bs) n = refl
