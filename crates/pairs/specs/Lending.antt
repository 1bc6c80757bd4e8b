-- A `&κ mut [T]` that is lent for the time of a call, and comes back: as a `&mut [T]`, at the list that the callee left, or as a `&[T]`, at its own list. For each loan a lifetime ν is made, with its whole token, and for a `&mut` a name δ. It says nothing of the crate.
--     Mut, Shr         what a `&κ mut [T]` and a `&κ [T]` own, at the machine value v.        Loan, under      a loan's ν and δ, and its reference
--     MutKept, ShrKept     what the holder keeps meanwhile: the lender's part at ν, and its own borrow at κ, open, with both halves of its ghost variable.        MutLoan, ShrLoan     [ν], what the callee is handed, and what is kept
--     lends_mut        Mut κ x ∗ [κ]_q  ⊢ ⇛ ∃ ν δ. [ν] ∗ Mut ν (x under δ) ∗ MutKept
--     mut_back         given that zs is as long as x's list:  [ν] ∗ MutKept ∗ finally δ zs  ⊢ ⇛ (Mut κ (x at zs) ∗ [κ]_q)
--     lends_shr        given that a token of ν shares out a borrow of a T at ν (`Shares` at each [ν], which a `Copied` T has):  Mut κ x ∗ [κ]_q  ⊢ ⇛ ∃ ν. [ν] ∗ Shr ν x ∗ ShrKept
--     shr_back         [ν] ∗ ShrKept  ⊢ ⇛ (Mut κ x ∗ [κ]_q)
--     apart            the head of a context taken apart into a list of entries
-- Assumes `Logic`.
use Rattle.std.specs.Prelude.{◌≡◌, refl, ℕ, List, [], ◌∷◌, ◌++◌, length}
use Rattle.std.proofs.Common.{sym, ◌∙◌, ap, subst}
use seplogic.Ra.Ura.{Ura}
use base.Fraction.{full_share}
use mir.Syntax.{erased, w32}
use mir.Val.{Val}
use base.Logic.{ent, sep, ex}
use base.Fml.{Lft, GName, Share, Fml, Incl-refl, fsep, flft, fobs, fauth, flent, fobor}
use types.Logic.{Logic, sem}
use types.Kit.{Item, Goal, Step, ‵, ◌⊛◌, mean, ⋆, some, later, ◌$◌, ◌∵◌, !, cut, qed, move, use1, use2, use3, drop, rewrite, split, pick, fsplit, fjoin, feq_i, frame, await, updating, now as at_once, show, done}
use types.Tokens.{lft_new, lft_end, lent_back}
use types.SemTy.{cells, Arr}
use types.Share.{arr_parts}
use Rattle.std.specs.Borrow.{RattleType}
use denote.Shadow.{pure_l, pure_i}
use denote.Memory.{mem, shares}
use denote.Ref.{Bor, MutBor, at_last}
use denote.Slice.{slice_val, shr_slice_vals, mut_slice_vals, MutSlice, ShrSlice, heres, Room, finally, mut_slice_at, coded_holeys}
use denote.Shares.{Shares}
use denote.Copied.{Copied, uint_Copied}
use denote.Builtin.{u32}
use denote.Lend.{Held, lends_slice, slice_back, lends_shr_slice}
use denote.Index.{row, whole_out, whole_in, opens_slice, closes_slice}

abbrev pub apart : {M : Type 1} {𝓤 : Ura M} {K : Type 0} (𝓛 : Logic 𝓤) {Γ : List (Item 𝓤)} {G : Goal 𝓤 𝓛.H} {i : Item 𝓤} (Δ : List (Item 𝓤))
    → ent 𝓤 (mean 𝓛 i) (⋆ 𝓛 Δ) → Step K 𝓛 (Δ ++ Γ) G (i ∷ Γ) G
apart 𝓛 {Γ} {G} {i} Δ h = cut (i ∷ []) Δ Γ h

-- what a reference owns does not depend on the name that MIR has for its lifetime
abbrev pub Mut : Lft → (R : RattleType) → MutBor (List R.Denot) → Val → Fml
Mut κ R x v = (MutSlice erased κ R).own_val x (v ∷ [])

abbrev pub Shr : Lft → (R : RattleType) → Bor (List R.Denot) → Val → Fml
Shr κ R x v = (ShrSlice erased κ R).own_val x (v ∷ [])

abbrev pub Loan : Type 0
Loan = ℕ × GName

abbrev pub under : {X : Type 0} → MutBor X → Loan → MutBor X
under x p = record { ref_ptr = x.ref_ptr; ghost_name = p.1; now = x.now }

-- the same place and list, as a shared slice sees them
abbrev pub shared : {X : Type 0} → MutBor X → Bor X
shared x = record { ref_ptr = x.ref_ptr; now = x.now }

module _ (R : RattleType) (κ : Lft) (q : Share) (x : MutBor (List R.Denot)) (v : Val) where
  abbrev b : ℕ
  b = x.ref_ptr.0

  abbrev o : ℕ
  o = x.ref_ptr.1

  -- what the reference says that is no resource, and its borrow, open
  abbrev Open : Fml
  Open = fsep (mut_slice_at R x (v ∷ [])) (fsep (fobor κ q (Held R (length x.now) b o x.ghost_name)) (fsep (fobs x.ghost_name ((coded_holeys R).code (heres R x.now))) (fauth x.ghost_name ((coded_holeys R).code (heres R x.now)))))

  abbrev pub MutKept : Loan → Fml
  MutKept p = fsep (flent (p.0 ∷ []) (Held R (length x.now) b o p.1)) Open

  abbrev pub ShrKept : Loan → Fml
  ShrKept p = fsep (flent (p.0 ∷ []) ((arr_parts (shares R) (length x.now)).part full_share x.now b o)) Open

  module _ {M : Type 1} (𝓤 : Ura M) where
    abbrev pub MutLoan : Loan → Item 𝓤
    MutLoan p = ‵ (flft (p.0 ∷ []) full_share) ⊛ ‵ (Mut (p.0 ∷ []) R (under x p) v) ⊛ ‵ (MutKept p)

    abbrev pub ShrLoan : Loan → Item 𝓤
    ShrLoan p = ‵ (flft (p.0 ∷ []) full_share) ⊛ ‵ (Shr (p.0 ∷ []) R (shared x) v) ⊛ ‵ (ShrKept p)

  module _ {M : Type 1} {𝓤 : Ura M} (𝓛 : Logic 𝓤) where
    open 𝓛 use {H, A}

    pub lends_mut : ent 𝓤 (sep 𝓤 (sem 𝓛 (Mut κ R x v)) (A.lft κ q)) (H.⇛ (ex 𝓤 (λ (p : Loan). mean 𝓛 (MutLoan 𝓤 p))))
    lends_mut =
        qed 𝓛 (‵ (Mut κ R x v) ∷ ‵ (flft κ q) ∷ []) ∵ updating ! $ fsplit ! $ pure_l ! (mut_slice_at R x (v ∷ [])) (λ g. fsplit ! $ opens_slice ! tt R x.now b o $
        use1 𝓛 (‵ (cells (mem R) x.now b o)) (whole_in 𝓛 R x.now b o) $ lft_new ! tt (λ ν. move ! (1 ∷ []) $
        use1 𝓛 (later (some (λ (δ : GName). ‵ ((MutSlice erased (ν ∷ []) R).own_val (under x (ν, δ)) (mut_slice_vals x)) ⊛ ‵ (flent (ν ∷ []) (Held R (length x.now) b o δ))))) (lends_slice 𝓛 R erased (ν ∷ []) x.now b o g.1) $ await ! tt $ pick ! (λ δ. split ! $
        -- [the loan's slice; the lender's part at ν; [ν]; the open borrow at κ; obs; auth]
        rewrite ! 0 (λ (us : List Val). ‵ ((MutSlice erased (ν ∷ []) R).own_val (under x (ν, δ)) us)) (sym g.0) refl $
        at_once ! $ show ! (λ (p : Loan). mean 𝓛 (MutLoan 𝓤 p)) (ν, δ) $ move ! (2 ∷ 0 ∷ []) $ frame ! $ frame ! $
        move ! (2 ∷ 3 ∷ []) $ fjoin ! $ move ! (2 ∷ 0 ∷ []) $ fjoin ! $ pure_i ! (mut_slice_at R x (v ∷ [])) (tt, (tt, tt)) g $ fjoin ! $ move ! (1 ∷ 0 ∷ []) $ fjoin ! $ done !)))

    pub mut_back : (p : Loan) (zs : List R.Denot) → length zs ≡ length x.now
        → ent 𝓤 (sep 𝓤 (A.lft (p.0 ∷ []) full_share) (sep 𝓤 (sem 𝓛 (MutKept p)) (sem 𝓛 (finally R p.1 zs)))) (H.⇛ (sep 𝓤 (sem 𝓛 (Mut κ R (at_last x zs) v)) (A.lft κ q)))
    mut_back p zs e =
        qed 𝓛 (‵ (flft (p.0 ∷ []) full_share) ∷ ‵ (MutKept p) ∷ ‵ (finally R p.1 zs) ∷ []) ∵ updating ! $ lft_end ! tt $ move ! (1 ∷ []) $ fsplit ! $ move ! (2 ∷ 0 ∷ 3 ∷ []) $
        use3 𝓛 (later (‵ ((Arr (mem R) (length x.now)).own_at zs b o))) (slice_back 𝓛 R (p.0 ∷ []) p.1 zs (length x.now) b o) $ await ! tt $ fsplit ! $ drop ! $ use1 𝓛 (‵ (row R full_share zs b o)) (whole_out 𝓛 R zs b o) $
        -- [zs in memory; what was kept at κ]
        move ! (1 ∷ []) $ fsplit ! $ pure_l ! (mut_slice_at R x (v ∷ [])) (λ g. fsplit ! $ move ! (1 ∷ []) $ fsplit ! $ move ! (3 ∷ 2 ∷ 0 ∷ 1 ∷ []) $ closes_slice ! tt R x.now zs e b o $ at_once ! $
        fjoin ! $ pure_i ! (mut_slice_at R (at_last x zs) (v ∷ [])) (tt, (tt, tt)) (g.0 ∙ ap (λ (m : ℕ). slice_val x.ref_ptr m ∷ []) (sym e), subst (Room R) (sym e) g.1) $ fjoin ! $ done !)

    pub lends_shr : ((ν : ℕ) → Shares 𝓛 R (ν ∷ [])) → ent 𝓤 (sep 𝓤 (sem 𝓛 (Mut κ R x v)) (A.lft κ q)) (H.⇛ (ex 𝓤 (λ (p : Loan). mean 𝓛 (ShrLoan 𝓤 p))))
    lends_shr s =
        qed 𝓛 (‵ (Mut κ R x v) ∷ ‵ (flft κ q) ∷ []) ∵ updating ! $ fsplit ! $ pure_l ! (mut_slice_at R x (v ∷ [])) (λ g. fsplit ! $ opens_slice ! tt R x.now b o $
        feq_i ! ℕ (length x.now) (length x.now) refl $ fjoin ! $ lft_new ! tt (λ ν. move ! (1 ∷ 0 ∷ []) $
        use2 𝓛 (later ((‵ ((ShrSlice erased (ν ∷ []) R).own_val (shared x) (shr_slice_vals (shared x))) ⊛ ‵ (flent (ν ∷ []) ((arr_parts (shares R) (length x.now)).part full_share x.now b o))) ⊛ ‵ (flft (ν ∷ []) full_share)))
        (lends_shr_slice 𝓛 R erased (ν ∷ []) full_share x.now b o g.1 (ν ∷ []) (s ν) ((ν ∷ [], full_share) ∷ []) (Incl-refl (ν ∷ [])) (Incl-refl (ν ∷ []))) $ await ! tt $ split ! $ split ! $
        -- [the loan's slice; the lender's part at ν; [ν]; the open borrow at κ; obs; auth]
        rewrite ! 0 (λ (us : List Val). ‵ ((ShrSlice erased (ν ∷ []) R).own_val (shared x) us)) (sym g.0) refl $
        at_once ! $ show ! (λ (p : Loan). mean 𝓛 (ShrLoan 𝓤 p)) (ν, 0) $ move ! (2 ∷ 0 ∷ []) $ frame ! $ frame ! $
        move ! (2 ∷ 3 ∷ []) $ fjoin ! $ move ! (2 ∷ 0 ∷ []) $ fjoin ! $ pure_i ! (mut_slice_at R x (v ∷ [])) (tt, (tt, tt)) g $ fjoin ! $ move ! (1 ∷ 0 ∷ []) $ fjoin ! $ done !))

    pub shr_back : (p : Loan) → ent 𝓤 (sep 𝓤 (A.lft (p.0 ∷ []) full_share) (sem 𝓛 (ShrKept p))) (H.⇛ (sep 𝓤 (sem 𝓛 (Mut κ R x v)) (A.lft κ q)))
    shr_back p =
        qed 𝓛 (‵ (flft (p.0 ∷ []) full_share) ∷ ‵ (ShrKept p) ∷ []) ∵ updating ! $ lft_end ! tt $ move ! (1 ∷ []) $ fsplit ! $ move ! (2 ∷ 0 ∷ []) $ lent_back ! tt $ fsplit ! $ drop ! $
        -- [the list in memory; what was kept at κ]
        move ! (1 ∷ []) $ fsplit ! $ pure_l ! (mut_slice_at R x (v ∷ [])) (λ g. fsplit ! $ move ! (1 ∷ []) $ fsplit ! $ move ! (3 ∷ 2 ∷ 0 ∷ 1 ∷ []) $ closes_slice ! tt R x.now x.now refl b o $ at_once ! $
        fjoin ! $ pure_i ! (mut_slice_at R x (v ∷ [])) (tt, (tt, tt)) g $ fjoin ! $ done !)

-- of a type whose values are copied the premise is a law; so of numbers nothing is left to give
module _ (R : RattleType) (κ : Lft) (q : Share) (x : MutBor (List R.Denot)) (v : Val) {M : Type 1} {𝓤 : Ura M} (𝓛 : Logic 𝓤) where
  open 𝓛 use {H, A}

  pub lends_copied : Copied 𝓛 R → ent 𝓤 (sep 𝓤 (sem 𝓛 (Mut κ R x v)) (A.lft κ q)) (H.⇛ (ex 𝓤 (λ (p : Loan). mean 𝓛 (ShrLoan R κ q x v 𝓤 p))))
  lends_copied c = lends_shr R κ q x v 𝓛 (λ ν. c.shares full_share (ν ∷ []))

module _ (κ : Lft) (q : Share) (x : MutBor (List ℕ)) (v : Val) {M : Type 1} {𝓤 : Ura M} (𝓛 : Logic 𝓤) where
  open 𝓛 use {H, A}

  pub lends_cells : ent 𝓤 (sep 𝓤 (sem 𝓛 (Mut κ u32 x v)) (A.lft κ q)) (H.⇛ (ex 𝓤 (λ (p : Loan). mean 𝓛 (ShrLoan u32 κ q x v 𝓤 p))))
  lends_cells = lends_copied u32 κ q x v 𝓛 (uint_Copied 𝓛 w32)
