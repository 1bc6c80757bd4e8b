-- The bytes of any line of a book from the left, ordinary or paragraph line: 3 at the first byte that no well-formed line of either
-- kind has there.
use Rattle.std.proofs.Math.Path.{◌≡◌, refl}
use Rattle.std.proofs.Common.{ap, sym, ◌∙◌, subst, inl, inr, arith, true≢false, length-append, eqb-true}
use Rattle.std.specs.Prelude.{◌⊎◌, ◌↔◌, ℕ, suc, Bool, length}
use Rattle.std.proofs.Math.Bool.{true, false}
use mathlib.Core.List.{[], ◌∷◌, ◌++◌, append_assoc, append-nil, cons≢nil}
use Rattle.std.proofs.Math.Dec.{eqb}
use Rattle.aut68.specs.Language.{Language}
use Rattle.aut68.specs.Sizes.{nesting}
use Rattle.aut68.specs.Bytes.{Bytes}
use Rattle.aut68.specs.Procedure.Answer.{Answer, done, stop, malformed, too_large}
use Rattle.aut68.specs.Procedure.Parse.{spaces, a_line, a_sign_line, signed}
use Rattle.aut68.specs.Rules.Grammar.{Symbol, SignLine, sign_line, IsSign}
use Rattle.aut68.specs.Rules.Openings.{OpensAt, opens_at, LineOpens, in_middle, in_category}
use Rattle.aut68.specs.Rules.LineBytes.{Viable, NoneOpens, FirstFault, Unended, FirstTooDeep, PieceViable, PieceFault, PieceUnended}
use Rattle.reading.specs.Closing.{sign_closed}
use Rattle.reading.specs.Stops.{sign_stops}
use Rattle.reading.specs.Complete.{mark_10, symbol_ends}
use Rattle.reading.specs.Signs.{sign_mark, sign_sound, sign_starts, sign_signed, indicator_starts, ordinary_starts}
use Rattle.faults.specs.Machine.{Lead, mark, name_here, lead, Stack, refused, step, well, bad, go, go_step, onward_refused, step_space}
use Rattle.faults.specs.AgreesWords.{Agrees, goes, is_bad, agrees_mark, agrees_name, agrees_then, starts_cons}
use Rattle.faults.specs.AgreesLines.{agrees_end}
use Rattle.faults.specs.Forms.{Matches, lead_of, mark_of, name_of}
use Rattle.faults.specs.Viability.{Reaches, here, onto, reaches_back, reaches_viable}
use Rattle.faults.specs.Completions.{complete}
use Rattle.faults.specs.Leading.{mark_passed, name_passed, end_passed}
use Rattle.faults.specs.FirstFault.{none_opens_lem, wants, refuses, BadAt, bad_at, bad_at_lem, reaches_go, well≢bad, closed_ends, malformed_where, too_large_where}
use Rattle.faults.specs.Converses.{closed_end, malformed_if, too_large_if}

-- ---- a front part of a line

spaces_append : (x y : Bytes) {c : ℕ} {r : Bytes} → spaces x ≡ c ∷ r → spaces (x ++ y) ≡ c ∷ (r ++ y)
unfolding spaces
spaces_append [] y e = absurd (cons≢nil (sym e))
spaces_append (b ∷ x) y {c} {r} e = at (eqb b 32) e (spaces_append x y)
  where
    at : (t : Bool) → elim t as (λ _. Bytes) [ true ↦ spaces x | false ↦ b ∷ x ] ≡ c ∷ r → (spaces x ≡ c ∷ r → spaces (x ++ y) ≡ c ∷ (r ++ y))
        → elim t as (λ _. Bytes) [ true ↦ spaces (x ++ y) | false ↦ b ∷ (x ++ y) ] ≡ c ∷ (r ++ y)
    at true h k = k h
    at false h k = ap (λ z. z ++ y) h

-- unless it is bytes 32 only, it decides the kind of the line
front_signed : (s : ℕ) (x y z : Bytes) {c : ℕ} {r : Bytes} → spaces x ≡ c ∷ r → signed s (x ++ y) ≡ signed s (x ++ z)
unfolding signed
front_signed s x y z e = starts_cons (eqb s) (spaces_append x y e) ∙ sym (starts_cons (eqb s) (spaces_append x z e))

module _ (language : Language) where
  -- bytes 32 only lead nowhere
  spaces_reach : (l : Lead) (K : Stack) (x : Bytes) → spaces x ≡ [] → Reaches language (lead l ∷ K) x (lead l ∷ K)
  unfolding spaces
  spaces_reach l K [] e = here
  spaces_reach l K (b ∷ x) e = at (eqb b 32) refl e (spaces_reach l K x)
    where
      at : (t : Bool) → eqb b 32 ≡ t → ◌≡◌ {A = Bytes} (elim t [ true ↦ spaces x | false ↦ b ∷ x ]) [] → (spaces x ≡ [] → Reaches language (lead l ∷ K) x (lead l ∷ K))
          → Reaches language (lead l ∷ K) (b ∷ x) (lead l ∷ K)
      at true q h k = onto (ap (step language (lead l ∷ K)) (eqb-true b 32 q) ∙ step_space language l K) (k h)
      at false q h k = absurd (cons≢nil h)

  -- ---- ordinary lines

  module _ (bytes : Bytes) (ordinary : (s : ℕ) → IsSign s → signed s bytes ≡ false) where
    -- a front part of such a line is no front part of a paragraph line, but for bytes 32
    viable_from : (x y : Bytes) → bytes ≡ x ++ y → PieceViable language x → Viable language x
    viable_from x y e (inl v) = v
    viable_from x y e (inr v) = at (spaces x) refl
      where
        at : (z : Bytes) → spaces x ≡ z → Viable language x
        at [] q = reaches_viable language (spaces_reach _ _ x q)
        at (c ∷ r) q =
            absurd (true≢false (sym (sign_signed language v.is_sign v.form) ∙ front_signed v.sign x v.rest y q
            ∙ subst (λ z. signed v.sign z ≡ false) e (ordinary v.sign v.is_sign)))

    ordinary_fault : (PieceFault language bytes ⊎ PieceUnended language bytes) ↔ (FirstFault language bytes ⊎ Unended language bytes)
    ordinary_fault = (to, from)
      where
        to : PieceFault language bytes ⊎ PieceUnended language bytes → FirstFault language bytes ⊎ Unended language bytes
        to (inl f) = inl (f.front, f.byte, f.back, f.split, viable_from f.front _ f.split f.could, (λ v. f.could_not (inl v)), f.none_opens)
        to (inr u) = inr (u.no_end, viable_from bytes [] (sym (append-nil bytes)) u.could, u.none_opens)

        from : FirstFault language bytes ⊎ Unended language bytes → PieceFault language bytes ⊎ PieceUnended language bytes
        from (inl (p, b, q, e, v, m, g)) = inl (record {
          front = p;
          byte = b;
          back = q;
          split = e;
          could = inl v;
          could_not = λ z. m (viable_from (p ++ (b ∷ [])) q (e ∙ sym (append_assoc p (b ∷ []) q)) z);
          none_opens = g;
        })
        from (inr (m, v, g)) = inr (record { no_end = m; could = inl v; none_opens = g })

    -- 3 exactly at the first fault or the missing end; 10 exactly where nesting opens too deep first
    pub ordinary_malformed : (k : ℕ) → ((rest : Bytes) × (a_line language k bytes ≡ stop malformed rest)) ↔ (PieceFault language bytes ⊎ PieceUnended language bytes)
    ordinary_malformed k = (λ (rest, e). ordinary_fault.1 (malformed_where language k bytes e), λ h. malformed_if language k bytes (ordinary_fault.0 h))

    pub ordinary_deep : (k : ℕ) → ((rest : Bytes) × (a_line language k bytes ≡ stop too_large rest)) ↔ FirstTooDeep language bytes
    ordinary_deep k = (λ (rest, e). too_large_where language k bytes e, λ h. too_large_if language k bytes h)

  -- ---- paragraph lines

  -- the stack of a whole paragraph line
  abbrev sign_stack : ℕ → Stack
  sign_stack s = lead (mark s) ∷ lead name_here ∷ lead (mark 10) ∷ []

  agrees_sign : (s : ℕ) (bytes : Bytes) → Agrees language (λ _. []) (go language (sign_stack s) bytes) (a_sign_line language s bytes)
  unfolding a_sign_line
  agrees_sign s bytes =
      agrees_then _ (agrees_mark language s _ bytes) λ _ s₁ _.
      agrees_then _ (agrees_name language _ _ s₁) λ _ s₂ _.
      agrees_then _ (agrees_mark language 10 _ s₂) λ _ s₃ _.
      agrees_then _ (agrees_end language s₃) λ _ s₄ _. goes refl

  sign_matches : (s : ℕ) (a : Bytes) → Matches language (sign_stack s) a → (p : Bytes) × SignLine language s p a
  sign_matches s a (q₁, m₁, (q₂, m₂, (q₃, m₃, e))) =
      let (w, n, t) = name_of (lead_of m₂) in
      (w, sign_line (mark_of (lead_of m₁)) n t (subst (λ z. Symbol (10 ∷ []) q₂ z) e (mark_of (lead_of m₃))))

  -- some paragraph line with this sign begins with the bytes
  abbrev SignBegins : ℕ → Bytes → Type 0
  SignBegins s x = (title rest : Bytes) × SignLine language s title (x ++ rest)

  sign_reached : (s : ℕ) {p : Bytes} {M : Stack} → Reaches language (sign_stack s) p M → SignBegins s p
  sign_reached s {p} {M} r =
      let (h, f) = reaches_back language r (tt, (tt, (tt, tt))) in
      let (q, m) = complete language M h in
      let (w, g) = sign_matches s (p ++ q) (f q m) in
      (w, q, g)

  -- the machine goes through a paragraph line
  sign_led : {s : ℕ} → IsSign s → {p a : Bytes} → SignLine language s p a → go language (sign_stack s) a ≡ well
  sign_led i (sign_line t n u w) = mark_passed language _ (sign_mark i) t ∙ (name_passed language _ _ n u (symbol_ends mark_10.not_name w) ∙ end_passed language w)

  opens_ordinary : {s n k : ℕ} {a : Bytes} → IsSign s → OpensAt language n k a → signed s a ≡ false
  opens_ordinary {s} i (opens_at u e q o) = at o
    where
      at : {n : ℕ} {l : _} {a t : Bytes} → LineOpens language n l a t → signed s a ≡ false
      at (in_middle x v m u w q o y z e) = indicator_starts language i x v
      at (in_category x v m u w y z o e) = indicator_starts language i x v

  module _ (bytes : Bytes) {s : ℕ} (i : IsSign s) (h : signed s bytes ≡ true) where
    sign_ahead : (x y : Bytes) → bytes ≡ x ++ y → signed s (x ++ y) ≡ true
    sign_ahead x y e = subst (λ z. signed s z ≡ true) e h

    sign_viable : {p : Bytes} → SignBegins s p → PieceViable language p
    sign_viable (w, q, g) = inr (record { sign = s; is_sign = i; title = w; rest = q; form = g })

    -- a front part of such a line begins only paragraph lines with its sign, unless it is bytes 32
    front_sign : (x y : Bytes) → bytes ≡ x ++ y → PieceViable language x → SignBegins s x
    front_sign x y q v = at (spaces x) refl v
      where
        at : (z : Bytes) → spaces x ≡ z → PieceViable language x → SignBegins s x
        at [] e v = sign_reached s (spaces_reach (mark s) _ x e)
        at (c ∷ r) e (inl (rest, l, w)) = absurd (true≢false (sym (sign_ahead x y q) ∙ front_signed s x y rest e ∙ ordinary_starts language i w))
        at (c ∷ r) e (inr v) =
            let same : s ≡ v.sign = eqb-true s v.sign (sym (sign_starts language s v.is_sign v.form) ∙ front_signed s x v.rest y e ∙ sign_ahead x y q) in
            (v.title, v.rest, subst (λ z. SignLine language z v.title (x ++ v.rest)) (sym same) v.form)

    -- no expression opens in it
    none_in_sign : (p y : Bytes) → bytes ≡ p ++ y → NoneOpens language p
    none_in_sign p y q = at (spaces p) refl
      where
        at : (z : Bytes) → spaces p ≡ z → NoneOpens language p
        at [] e = none_opens_lem language (spaces_reach _ _ p e)
        at (c ∷ r) e = λ rest n k l m o. true≢false (sym (sign_ahead p y q) ∙ front_signed s p y rest e ∙ opens_ordinary i o)

    -- the machine refuses b: no line of either kind has it there
    refused_sign : {p : Bytes} {M : Stack} (b : ℕ) (q : Bytes) → bytes ≡ p ++ (b ∷ q) → Reaches language (sign_stack s) p M → step language M b ≡ refused → ¬ PieceViable language (p ++ (b ∷ []))
    refused_sign {p} {M} b q e r z v =
        let (w, rest, f) = front_sign (p ++ (b ∷ [])) q (e ∙ sym (append_assoc p (b ∷ []) q)) v in
        well≢bad (sym (sign_led i f) ∙ stops rest)
      where
        stops : (rest : Bytes) → go language (sign_stack s) ((p ++ (b ∷ [])) ++ rest) ≡ bad (b ∷ rest)
        stops rest = ap (go language (sign_stack s)) (append_assoc p (b ∷ []) rest) ∙ (reaches_go language r (b ∷ rest) ∙ (go_step language M b rest z ∙ onward_refused language b rest))

    -- bytes are wanting: the line is not ended
    not_ended : go language (sign_stack s) bytes ≡ bad [] → SignBegins s bytes → ¬ ((y : Bytes) × (bytes ≡ y ++ (10 ∷ [])))
    not_ended e (w, [], f) (y, q) = well≢bad (sym (sign_led i (subst (SignLine language s w) (append-nil bytes) f)) ∙ e)
    not_ended e (w, c ∷ r, f) (y, q) = closed_ends (sign_closed language i f) y c r (ap (λ x. x ++ (c ∷ r)) q ∙ append_assoc y (10 ∷ []) (c ∷ r))

    stalled : {t : Bytes} → go language (sign_stack s) bytes ≡ bad t → BadAt language (sign_stack s) bytes t → PieceFault language bytes ⊎ PieceUnended language bytes
    stalled g (bad_at p e r (refuses {b = b} {q = q} z)) = inl (record {
      front = p;
      byte = b;
      back = q;
      split = e;
      could = sign_viable (sign_reached s r);
      could_not = refused_sign b q e r z;
      none_opens = none_in_sign p (b ∷ q) e;
    })
    stalled g (bad_at p e r wants) =
        let z : p ≡ bytes = sym (append-nil p) ∙ sym e in
        let v = subst (SignBegins s) z (sign_reached s r) in
        inr (record { no_end = not_ended g v; could = sign_viable v; none_opens = none_in_sign bytes [] (sym (append-nil bytes)) })

    read_right : {p : Bytes} → SignLine language s p bytes → PieceFault language bytes ⊎ PieceUnended language bytes → ⊥
    read_right {p} f (inl g) = g.could_not (sign_viable (p, g.back, subst (SignLine language s p) (g.split ∙ sym (append_assoc g.front (g.byte ∷ []) g.back)) f))
    read_right f (inr g) = g.no_end (closed_end (sign_closed language i f))

    -- 3 exactly at the first fault or the missing end
    pub sign_malformed : ((rest : Bytes) × (a_sign_line language s bytes ≡ stop malformed rest)) ↔ (PieceFault language bytes ⊎ PieceUnended language bytes)
    sign_malformed = (λ (rest, e). to rest (subst (Agrees language (λ _. []) (go language (sign_stack s) bytes)) e (agrees_sign s bytes)), λ g. from (a_sign_line language s bytes) refl g)
      where
        to : (rest : Bytes) → Agrees language {A = Bytes} (λ _. []) (go language (sign_stack s) bytes) (stop malformed rest) → PieceFault language bytes ⊎ PieceUnended language bytes
        to rest (is_bad {t = t} g) = stalled g (bad_at_lem language (sign_stack s) bytes t g)

        from : (m : Answer Bytes Bytes) → a_sign_line language s bytes ≡ m → PieceFault language bytes ⊎ PieceUnended language bytes → (rest : Bytes) × (a_sign_line language s bytes ≡ stop malformed rest)
        from (done p rest) e g = absurd (read_right (sign_sound language s bytes e) g)
        from (stop r rest) e g = (rest, e ∙ ap (λ z. stop z rest) (sign_stops language s bytes e))

    -- and never 10
    pub sign_shallow : ¬ FirstTooDeep language bytes
    sign_shallow (p, b, q, e, (rest, l, w), f, g) =
        none_in_sign (p ++ (b ∷ [])) q (e ∙ sym (append_assoc p (b ∷ []) q)) rest (suc nesting) (length p) (omega arith) (omega (arith, length-append p (b ∷ []))) (f rest l w)
