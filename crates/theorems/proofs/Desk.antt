-- Two strings compared over an accepted book (paper 9): what is judged of them is right, kept under larger budgets and limits, and one answer
-- of both comparisons.
use Rattle.std.specs.Prelude.{◌≡◌, refl, ◌≢◌, Bool, not, List, [], ℕ, ◌-◌, ◌≤◌}
use Rattle.std.proofs.Math.Path.{sym, ap₂, subst}
use Rattle.std.proofs.Common.{ap, ◌∙◌, inl, inr, append-nil, arith}
use Rattle.std.proofs.Math.Logic.{⊎_elim}
use Rattle.std.proofs.Math.Bool.{true, false}
use Rattle.aut68.specs.Language.{aut68}
use Rattle.aut68.specs.Stores.{Stores, limits_of}
use Rattle.aut68.specs.Bytes.{Bytes, lines}
use Rattle.aut68.specs.Expr.{Expr, cells}
use Rattle.aut68.specs.Lines.{Lines}
use Rattle.aut68.specs.Procedure.Answer.{Answer, done, stop, code_in, rest_in, code_of, mismatch}
use Rattle.aut68.specs.Procedure.Calls.{decline_code}
use Rattle.aut68.specs.Procedure.Run.{Ending, run, code_at, recorded_at, state_of}
use Rattle.aut68.specs.Rules.Steps.{Equal}
use Rattle.aut68.specs.Rules.Strings.{Reads, Whole}
use Rattle.aut68.specs.Comparing.{FindsEquality, KeepsAnswers, Ends, BothComparisons, ComparisonsAgree}
use Rattle.aut68.specs.Demands.{Determined}
use Rattle.aut68.specs.Desk.{comparison_of, Judged, is_not_whole, is_too_large, is_compared, Between, ComparesStrings}
use Rattle.lookup.specs.Answers.{code_injective, code_nonzero}
use Rattle.cells.specs.Cells.{Formed, Wf, AnyVariable}
use Rattle.cells.specs.Forests.{cells_unique}
use Rattle.cells.specs.Rows.{Rows}
use Rattle.heads.specs.Book.{known_wf}
use Rattle.records.specs.OnRecord.{on_record}
use Rattle.theorems.proofs.Admission.{accepted_lines, accepted_code, verdict, admits_refused, admits_answered}
use Rattle.theorems.specs.Comparisons.{comparisons_agree}

-- ---- unique reading

-- a whole string is one expression, whatever table has the rows of the lines
module _ {ls : Lines} {tb : List ℕ} (R : Rows ls tb) where
  reads_wf : {s : List ℕ} {e : Expr} → Reads ls s e → Wf tb e
  unfolding Formed
  reads_wf {s} {e} r = ⊎_elim (λ q. subst (Wf tb) (sym q) tt) (λ w. known_wf R 0 e w) r.known

  pub reads_once : (s : List ℕ) (e f : Expr) → Reads ls s e → Reads ls s f → e ≡ f
  reads_once s e f r q =
      (cells_unique AnyVariable AnyVariable tb e f [] [] (reads_wf r) (reads_wf q) (append-nil (cells e) ∙ sym r.cells_are ∙ q.cells_are ∙ sym (append-nil (cells f)))).0

-- ---- what is judged of two strings

value : (m : Answer ℕ (Unit {0})) → code_in m ≡ 0 → (b : ℕ) × (m ≡ done tt b)
unfolding code_in
value (done tt b) e = (b, refl)
value (stop r b) e = absurd (code_nonzero r e)

refusal : (m : Answer ℕ (Unit {0})) → code_in m ≡ code_of mismatch → (b : ℕ) × (m ≡ stop mismatch b)
unfolding code_in code_of
refusal (done tt b) e = absurd (omega arith)
refusal (stop r b) e = (b, ap (λ s. stop s b) (code_injective r mismatch e))

-- a whole string is one expression, so what is judged is determined
module _ {ls : Lines} (once : (s : List ℕ) (e f : Expr) → Reads ls s e → Reads ls s f → e ≡ f) {second : Bool} {L N : ℕ} {left right : List ℕ} {code steps code' steps' : ℕ} where
  pub judged_once : Judged second ls L N left right code steps → Judged second ls L N left right code' steps' → (code' ≡ code) × (steps' ≡ steps)
  unfolding Whole
  judged_once (is_not_whole n c z) (is_not_whole n' c' z') = (c' ∙ sym c, z' ∙ sym z)
  judged_once (is_not_whole n c z) (is_too_large u v m c' z') = absurd (n (u, v))
  judged_once (is_not_whole n c z) (is_compared l r u v m m' c' z') = absurd (n ((l, u), (r, v)))
  judged_once (is_too_large u v m c z) (is_not_whole n c' z') = absurd (n (u, v))
  judged_once (is_too_large u v m c z) (is_too_large u' v' m' c' z') = (c' ∙ sym c, z' ∙ sym z)
  judged_once (is_too_large u v (inl n) c z) (is_compared l r u' v' m m' c' z') = absurd (omega arith)
  judged_once (is_too_large u v (inr n) c z) (is_compared l r u' v' m m' c' z') = absurd (omega arith)
  judged_once (is_compared l r u v m m' c z) (is_not_whole n c' z') = absurd (n ((l, u), (r, v)))
  judged_once (is_compared l r u v m m' c z) (is_too_large u' v' (inl n) c' z') = absurd (omega arith)
  judged_once (is_compared l r u v m m' c z) (is_too_large u' v' (inr n) c' z') = absurd (omega arith)
  judged_once (is_compared l r u v m m' c z) (is_compared l' r' u' v' n n' c' z') =
      let p = once left l' l u' u in
      let q = once right r' r v' v in
      (c' ∙ ap₂ (λ a b. code_in (comparison_of second ls L a b N)) p q ∙ sym c, z' ∙ ap₂ (λ a b. N - rest_in (comparison_of second ls L a b N)) p q ∙ sym z)

module _ {ls : Lines} (both : BothComparisons ls) (once : (s : List ℕ) (e f : Expr) → Reads ls s e → Reads ls s f → e ≡ f) where
  finds : (second : Bool) → FindsEquality ls (comparison_of second ls)
  unfolding comparison_of
  finds false = both.first
  finds true = both.second

  keeps : (second : Bool) → KeepsAnswers (comparison_of second ls)
  unfolding comparison_of
  keeps false = both.first_kept
  keeps true = both.second_kept

  agree : (second : Bool) (L N L' N' : ℕ) (l r : Expr) → Ends (code_in (comparison_of second ls L l r N)) → Ends (code_in (comparison_of (not second) ls L' l r N'))
      → code_in (comparison_of (not second) ls L' l r N') ≡ code_in (comparison_of second ls L l r N)
  unfolding comparison_of
  agree false L N L' N' l r p q = sym (both.one_answer L N L' N' l r p q)
  agree true L N L' N' l r p q = both.one_answer L' N' L N l r q p

  module _ {second : Bool} {L N : ℕ} {left right : List ℕ} {code steps : ℕ} where
    judged_equal : Judged second ls L N left right code steps → code ≡ 0 → Between ls left right (Equal ls)
    unfolding decline_code code_of
    judged_equal (is_not_whole n c z) e = absurd (omega arith)
    judged_equal (is_too_large u v n c z) e = absurd (omega arith)
    judged_equal (is_compared l r u v m n c z) e =
        let (b, q) = value (comparison_of second ls L l r N) (sym c ∙ e) in
        record { left_side = l; right_side = r; left_reads = u; right_reads = v; related = (finds second).equal L N b l r q }

    judged_different : Judged second ls L N left right code steps → code ≡ code_of mismatch → Between ls left right (λ l r. ¬ Equal ls l r)
    unfolding decline_code code_of
    judged_different (is_not_whole n c z) e = absurd (omega arith)
    judged_different (is_too_large u v n c z) e = absurd (omega arith)
    judged_different (is_compared l r u v m n c z) e =
        let (b, q) = refusal (comparison_of second ls L l r N) (sym c ∙ e) in
        record { left_side = l; right_side = r; left_reads = u; right_reads = v; related = (finds second).different L N b l r q }

    judged_kept : {L' N' code' steps' : ℕ} → Judged second ls L N left right code steps → Ends code → L ≤ L' → N ≤ N' → Judged second ls L' N' left right code' steps'
        → (code' ≡ code) × (steps' ≡ steps)
    unfolding Whole decline_code code_of
    judged_kept (is_not_whole n c z) e h k (is_not_whole n' c' z') = (c' ∙ sym c, z' ∙ sym z)
    judged_kept (is_not_whole n c z) e h k (is_too_large u v m c' z') = absurd (n (u, v))
    judged_kept (is_not_whole n c z) e h k (is_compared l r u v m m' c' z') = absurd (n ((l, u), (r, v)))
    judged_kept (is_too_large u v m c z) e h k J = absurd (e.0 c)
    judged_kept (is_compared l r u v m m' c z) e h k (is_not_whole n c' z') = absurd (n ((l, u), (r, v)))
    judged_kept (is_compared l r u v m m' c z) e h k (is_too_large u' v' (inl n) c' z') = absurd (omega arith)
    judged_kept (is_compared l r u v m m' c z) e h k (is_too_large u' v' (inr n) c' z') = absurd (omega arith)
    judged_kept {L'} {N'} (is_compared l r u v m m' c z) e h k (is_compared l' r' u' v' n n' c' z') =
        let p = once left l' l u' u in
        let q = once right r' r v' v in
        let (x, y) = (keeps second).kept L L' N N' l r h k (subst Ends c e) in
        (c' ∙ ap₂ (λ a b. code_in (comparison_of second ls L' a b N')) p q ∙ x ∙ sym c, z' ∙ ap₂ (λ a b. N' - rest_in (comparison_of second ls L' a b N')) p q ∙ y ∙ sym z)

    judged_alike : {L' N' code' steps' : ℕ} → Judged second ls L N left right code steps → Ends code → Judged (not second) ls L' N' left right code' steps' → Ends code' → code' ≡ code
    unfolding Whole decline_code code_of
    judged_alike (is_not_whole n c z) e (is_not_whole n' c' z') e' = c' ∙ sym c
    judged_alike (is_not_whole n c z) e (is_too_large u v m c' z') e' = absurd (n (u, v))
    judged_alike (is_not_whole n c z) e (is_compared l r u v m m' c' z') e' = absurd (n ((l, u), (r, v)))
    judged_alike (is_too_large u v m c z) e J e' = absurd (e.0 c)
    judged_alike (is_compared l r u v m m' c z) e (is_not_whole n c' z') e' = absurd (n ((l, u), (r, v)))
    judged_alike (is_compared l r u v m m' c z) e (is_too_large u' v' n c' z') e' = absurd (e'.0 c')
    judged_alike {L'} {N'} (is_compared l r u v m m' c z) e (is_compared l' r' u' v' n n' c' z') e' =
        let d = c' ∙ ap₂ (λ a b. code_in (comparison_of (not second) ls L' a b N')) (once left l' l u' u) (once right r' r v' v) in
        d ∙ agree second L N L' N' l r (subst Ends c e) (subst Ends d e') ∙ sym c

-- ---- the calls

module _ (book : Bytes) (N L : ℕ) (s : Stores) where
  abbrev ending : Ending
  ending = run aut68 book (limits_of N L s)

  abbrev ls : Lines
  ls = (recorded_at ending).recorded

  module _ {code line steps : ℕ} {s' : Stores} (d : Determined ending L s code line steps s') {second : Bool} {left right : List ℕ} {budget : ℕ} where
    -- a refusal is passed on
    pub strings_refused : code ≢ 0 → {c l n k : ℕ} → c ≡ code → l ≡ line → n ≡ steps → k ≡ 0 → ComparesStrings second book N L s left right budget c l n k s'
    strings_refused r e f g z =
        let no : code_at ending ≡ 0 → ⊥ = λ a. r (d.code_is ∙ a) in
        record {
          admits_first = admits_refused aut68 book N L s d r e f g z tt;
          read_once = λ a. absurd (no a);
          equal = λ q. absurd (r (sym e ∙ q));
          different = λ a. absurd (no a);
          kept = λ a. absurd (no a);
          one_answer = λ a. absurd (no a);
        }

    -- the strings are judged over the lines of an accepted book
    pub strings_judged : code ≡ 0 → {c n : ℕ} → Judged second ls L budget left right c n → ComparesStrings second book N L s left right budget c 0 n 0 s'
    unfolding ComparisonsAgree decline_code
    strings_judged a J =
        let z = accepted_code aut68 book N L s d a in
        let both : BothComparisons ls = comparisons_agree (lines book) (state_of (recorded_at ending)) (accepted_lines aut68 book N L s z).1 in
        let once = reads_once (on_record aut68 book N L s (verdict aut68 book N L s d a)).held.rows in
        record {
          admits_first = admits_answered aut68 book N L s d a (refl, J);
          read_once = λ _. once;
          equal = λ q. judged_equal both once J q;
          different = λ _ q. judged_different both once J q;
          kept = λ _ e L' N' c' n' h k J'. judged_kept both once J e h k J';
          one_answer = λ _ e L' N' c' n' J' e'. judged_alike both once J e J' e';
        }
