-- The bytes of a row: its number, its blanks and its end are put, then its text.
use mathlib.Core.Path.{◌≡◌, refl, sym, ap, ap₂, subst, ◌∙◌}
use mathlib.Core.List.{[], ◌∷◌, ◌++◌, append_assoc}
use Prim.Native.Nat.{ℕ, suc, ◌+◌, ◌-◌, ◌≤◌}
use native.Mathlib.Omega.{arith}
use lib.ListN.{length, set, take, drop, replicate, length-append, length-take, length-drop, length-replicate, replicate-append-replicate}
use lib.Seq.{drop_at}
use Rattle.aut68.specs.Sizes.{number_columns, text_columns, page_row}
use Rattle.aut68.specs.Bytes.{Bytes}
use Rattle.aut68.specs.Procedure.Run.{over}
use Rattle.aut68.specs.Pages.{text_of, numbered, row, text_in}
use Rattle.page_rows.specs.Posts.{TextPut, RowPut}

-- the five columns of the number, put one after the other
pub columns_put : (a b c d e : ℕ) (part : Bytes) → length part ≡ number_columns → set (set (set (set (set part 0 a) 1 b) 2 c) 3 d) 4 e ≡ a ∷ b ∷ c ∷ d ∷ e ∷ []
columns_put a b c d e [] l = absurd (omega arith)
columns_put a b c d e (u ∷ []) l = absurd (omega arith)
columns_put a b c d e (u ∷ (v ∷ [])) l = absurd (omega arith)
columns_put a b c d e (u ∷ (v ∷ (w ∷ []))) l = absurd (omega arith)
columns_put a b c d e (u ∷ (v ∷ (w ∷ (x ∷ [])))) l = absurd (omega arith)
columns_put a b c d e (u ∷ (v ∷ (w ∷ (x ∷ (y ∷ []))))) l = refl
columns_put a b c d e (u ∷ (v ∷ (w ∷ (x ∷ (y ∷ (z ∷ zs)))))) l = absurd (omega arith)

-- ---- every row is as long

padded_long : (front text : Bytes) → length front ≡ number_columns → length text ≤ text_columns → length (row front text) ≡ page_row
unfolding row
padded_long front text e l = simp (length-append, length-replicate) (omega arith)

-- a row that takes its text from the front of a longer one
pub row_long : (front text : Bytes) → length front ≡ number_columns → length (row front (take text_columns text)) ≡ page_row
row_long front text e = padded_long front (take text_columns text) e (omega (arith, length-take text_columns text))

-- the number has its columns
pub numbered_long : (n : ℕ) → length (numbered n) ≡ number_columns
unfolding numbered
numbered_long n = refl

-- what put_row leaves is a row long
pub row_put_long : {line : Bytes} {at n r : ℕ} {new : Bytes} → RowPut line at n r new → length new ≡ page_row
row_put_long {line} {at} {n} h = ap length h.put ∙ row_long (numbered n) (text_of (drop at line)) (numbered_long n)

-- ---- the text in its columns

-- a row with this text in its columns
abbrev pub with_text : Bytes → Bytes → Bytes
with_text part text = take (suc number_columns) part ++ (text ++ drop text_columns (drop (suc number_columns) part))

drop_replicate : (m n x : ℕ) → m ≤ n → drop m (replicate n x) ≡ replicate (n - m) x
drop_replicate m n x l =
    let e : m + (n - m) ≡ n = omega arith in
    ap (λ k. drop m (replicate k x)) (sym e)
    ∙ ap (drop m) (sym (replicate-append-replicate m (n - m) x))
    ∙ drop_at (replicate m x) (replicate (n - m) x) m (length-replicate m x)

-- text over the blanks of a row without text
text_over : (n : ℕ) (text : Bytes) → length text ≤ text_columns → with_text (row (numbered n) []) (over text (text_in (row (numbered n) []))) ≡ row (numbered n) text
unfolding numbered row over text_in
text_over n text l =
    ap (λ x. numbered n ++ (32 ∷ (text ++ x ++ (10 ∷ [])))) (drop_replicate (length text) text_columns 32 l)
    ∙ ap (λ x. numbered n ++ (32 ∷ x)) (append_assoc text (replicate (text_columns - length text) 32) (10 ∷ []))

-- the same of what put_text leaves
text_put : (n : ℕ) {line : Bytes} {at r : ℕ} {text : Bytes} → TextPut line at (text_in (row (numbered n) [])) r text
    → RowPut line at n r (with_text (row (numbered n) []) text)
unfolding numbered row text_in
text_put n {line} {at} {r} {text} h =
    record {
      put =
          ap (with_text (row (numbered n) [])) h.put
          ∙ text_over n (take text_columns (text_of (drop at line))) (omega (arith, length-take text_columns (text_of (drop at line))));
      left = h.left;
    }

-- ---- what is put ahead of the text

-- the number is put, then the blanks, then the end
abbrev pub unfilled : Bytes → Bytes → Bytes → Bytes
unfilled part number blanks =
    let p = number ++ drop number_columns part in
    set (take number_columns p ++ (blanks ++ drop (suc text_columns) (drop number_columns p))) (page_row - 1) 10

end_put : (n : ℕ) (end : Bytes) → length end ≡ 1 → set (numbered n ++ (replicate (suc text_columns) 32 ++ end)) (page_row - 1) 10 ≡ row (numbered n) []
unfolding numbered row
end_put n [] e = absurd (omega arith)
end_put n (x ∷ []) e = refl
end_put n (x ∷ (y ∷ ys)) e = absurd (omega arith)

module _ (n : ℕ) (part number blanks : Bytes) (l : length part ≡ page_row) (e : number ≡ numbered n)
    (b : blanks ≡ replicate (length (take (suc text_columns) (drop number_columns (number ++ drop number_columns part)))) 32) where
  -- it is a row without text
  unfilled_is : unfilled part number blanks ≡ row (numbered n) []
  unfolding numbered
  unfilled_is =
      let p = number ++ drop number_columns part in
      let w : length (take (suc text_columns) (drop number_columns p)) ≡ suc text_columns =
      omega (
        arith,
        length-take (suc text_columns) (drop number_columns p),
        length-drop number_columns p,
        length-append number (drop number_columns part),
        length-drop number_columns part,
        ap length e,
      ) in
      ap₂ (unfilled part) {v = replicate (suc text_columns) 32} e (b ∙ ap (λ k. replicate k 32) w)
      ∙ end_put n (drop (suc text_columns) (drop number_columns part))
      (omega (arith, length-drop (suc text_columns) (drop number_columns part), length-drop number_columns part))

  pub unfilled_long : length (unfilled part number blanks) ≡ page_row
  unfilled_long = ap length unfilled_is ∙ padded_long (numbered n) [] (numbered_long n) (omega arith)

  -- with the text in its columns it is the row
  pub row_put : {line : Bytes} {at r : ℕ} {old text : Bytes} → TextPut line at old r text → old ≡ text_in (unfilled part number blanks)
      → RowPut line at n r (with_text (unfilled part number blanks) text)
  row_put {line} {at} {r} {old} {text} h f =
      subst (λ x. RowPut line at n r (with_text x text)) (sym unfilled_is)
      (text_put n (subst (λ x. TextPut line at x r text) (f ∙ ap text_in unfilled_is) h))
