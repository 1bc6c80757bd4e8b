-- Lines reached along the chain of indicators: they are those of a context, from its end on.
use mathlib.Core.Path.{◌≡◌, refl, sym, ap, ◌∙◌}
use mathlib.Core.List.{List, [], ◌∷◌, ◌++◌}
use Prim.Native.Nat.{ℕ, zero, suc, ◌+◌, ◌≤◌, ◌<◌}
use native.Mathlib.Omega.{arith}
use lib.ListN.{length, get_or, length-append, get_or-append}
use lib.Seq.{get_or_at}
use Rattle.aut68.specs.Lines.{Lines, row_cell}
use Rattle.aut68.specs.Procedure.Resolve.{context_at}
use Rattle.aut68.specs.Rules.Names.{Context, no_context, within}
use Rattle.aut68.specs.Sizes.{at_indicator}
use Rattle.lookup.specs.Contexts.{line_context}
use Rattle.cells.specs.RowLaws.{row_cell_of_none}
use Rattle.names.specs.Known.{Known}
use Rattle.names.proofs.FindLaws.{line_at}
use Rattle.completion.specs.Posts.{line_up, LineUp}

pub up_none : {tb : List ℕ} {c n : ℕ} → n ≡ 0 → LineUp tb c n c
unfolding line_up
up_none {tb} {c} e = record { is = ap (line_up tb c) (sym e) }

pub up_more : {tb : List ℕ} {c n m up next : ℕ} → LineUp tb c n up → m ≡ suc n → next ≡ row_cell tb up at_indicator → LineUp tb c m next
unfolding line_up
up_more {tb} {c} h e q = record { is = q ∙ ap (λ u. row_cell tb u at_indicator) h.is ∙ ap (line_up tb c) (sym e) }

pub up_all : {tb : List ℕ} {c n m r : ℕ} → LineUp tb c n r → n ≡ m → LineUp tb c m r
up_all h e = rw e at h

up_first : (tb : List ℕ) (c n : ℕ) → line_up tb (row_cell tb c at_indicator) n ≡ line_up tb c (suc n)
unfolding line_up
up_first tb c zero = refl
up_first tb c (suc n) = ap (λ u. row_cell tb u at_indicator) (up_first tb c n)

-- the lines of the list are those up from c, the last first
pub record Chain (tb : List ℕ) (c : ℕ) (vs : List ℕ) : Type 0 where
  pub up : (i j : ℕ) → i + suc j ≡ length vs → get_or vs i 0 ≡ line_up tb c j

chain_more : {tb : List ℕ} {c next : ℕ} {vs : List ℕ} → next ≡ row_cell tb c at_indicator → Chain tb next vs → Chain tb c (vs ++ (c ∷ []))
unfolding line_up
chain_more {tb} {c} {next} {vs} q h = record { up = λ i j e. go i j (omega (arith, length-append vs (c ∷ []))) }
  where
    go : (i j : ℕ) → i + j ≡ length vs → get_or (vs ++ (c ∷ [])) i 0 ≡ line_up tb c j
    go i zero e = get_or_at vs c [] 0 i (omega arith)
    go i (suc j) e = get_or-append vs (c ∷ []) 0 i (omega arith) ∙ h.up i j e ∙ ap (λ u. line_up tb u j) q ∙ up_first tb c j

module _ {ls : Lines} {book tb : List ℕ} {lines : ℕ} (k : Known ls book tb lines) where
  pub context_chain : {c : ℕ} {vs : List ℕ} → Context ls c vs → Chain tb c vs
  context_chain no_context = record { up = λ i j e. absurd (omega arith) }
  context_chain (within h e c) = chain_more (sym (k.rows.row h).indicator_is) (context_chain c)

  -- also where the last line is no variable
  pub at_chain : (c : ℕ) → 0 < c → c ≤ lines → Chain tb c (context_at ls c)
  at_chain c p b =
      let (l, h) = line_at k c p b in
      rw (line_context h) (chain_more (sym (k.rows.row h).indicator_is) (context_chain (k.contexts h)))

  indicator_within : (c : ℕ) → c ≤ lines → row_cell tb c at_indicator ≤ lines
  indicator_within zero b = omega (arith, row_cell_of_none tb 0 at_indicator refl)
  indicator_within (suc c) b =
      let (l, h) = line_at k (suc c) (omega arith) b in
      omega (arith, k.behind h, (k.rows.row h).indicator_is)

  pub up_within : (c : ℕ) → c ≤ lines → (n : ℕ) → line_up tb c n ≤ lines
  unfolding line_up
  up_within c b zero = b
  up_within c b (suc n) = indicator_within (line_up tb c n) (up_within c b n)
