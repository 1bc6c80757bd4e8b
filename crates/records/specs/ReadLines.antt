-- What a line that is read is: its meaning, where its identifier stands, its sizes and its nesting.
use Rattle.std.specs.Prelude.{◌≡◌, refl, Bool, true, false, [], ◌∷◌, ◌++◌, ℕ, ◌+◌, ◌-◌, ◌≤◌, eqb, length, drop}
use Rattle.std.proofs.Common.{sym, ap, ap₂, ◌∙◌, subst, append_assoc, arith, length-append, take_at, drop_at}
use Rattle.std.proofs.Math.Option.{Option, none, some}
use Rattle.std.proofs.Math.Seq.{slice}
use Rattle.aut68.specs.Language.{Language}
use Rattle.aut68.specs.Sizes.{nesting}
use Rattle.aut68.specs.Stores.{Limits}
use Rattle.aut68.specs.Bytes.{Bytes, name_byte}
use Rattle.aut68.specs.Source.{Used, plain, inside, SourceLine}
use Rattle.aut68.specs.Expr.{Expr, levels, cells}
use Rattle.aut68.specs.Lines.{Kind, variable, primitive, abbreviation, kind_cells}
use Rattle.aut68.specs.Paragraphs.{State}
use Rattle.aut68.specs.Procedure.Answer.{Answer, done, stop, and_then, malformed}
use Rattle.aut68.specs.Procedure.Parse.{Placed, a_line, spaces, byte, symbol, starts, word_of, after_word, word_ahead, name_fits, a_name, point_if_any, a_used, an_indicator, bytes_left}
use Rattle.aut68.specs.Procedure.Resolve.{found}
use Rattle.aut68.specs.Procedure.CheckLine.{Passed, middle_within_limits, read_line, room, check_line}
use Rattle.lookup.specs.Answers.{stop≢done, done_value, done_rest, after}
use Rattle.lookup.specs.Tests.{within_limits_lem, middle_limits}
use Rattle.lookup.specs.Contexts.{RightContexts}
use Rattle.reading.specs.Symbols.{run_whole}
use Rattle.reading.specs.Readings.{Reading}
use Rattle.reading.specs.Stages.{ReadAs, read_as, check_passed}
use Rattle.cells.specs.Forests.{size_is_length}

-- ---- where the identifier stands

-- b is what is left of a
record Ending (a b : Bytes) : Type 0 where
  ahead : Bytes
  is : a ≡ ahead ++ b

ending_same : {a : Bytes} → Ending a a
ending_same = record { ahead = []; is = refl }

ending_cons : (x : ℕ) {a b : Bytes} → Ending a b → Ending (x ∷ a) b
ending_cons x e = record { ahead = x ∷ e.ahead; is = ap (◌∷◌ x) e.is }

ending_then : {a b c : Bytes} → Ending a b → Ending b c → Ending a c
ending_then {c = c} e f =
    record { ahead = e.ahead ++ f.ahead; is = e.is ∙ ap (λ (x : Bytes). e.ahead ++ x) f.is ∙ sym (append_assoc e.ahead f.ahead c) }

spaces_ending : (a : Bytes) → Ending a (spaces a)
unfolding spaces
spaces_ending [] = ending_same
spaces_ending (b ∷ bs) = go (eqb b 32) (spaces_ending bs)
  where
    go : (t : Bool) → Ending bs (spaces bs) → Ending (b ∷ bs) (elim t [ true ↦ spaces bs | false ↦ b ∷ bs ])
    go true h = ending_cons b h
    go false h = ending_same

-- a name is the word that stands next
name_is : (language : Language) (a : Bytes) {w b : Bytes} → a_name language a ≡ done w b → (w ≡ word_of (spaces a)) × (b ≡ after_word (spaces a))
unfolding a_name word_ahead
name_is language a {w} {b} h = go (name_fits language (word_ahead a)) h
  where
    go : (t : Bool) → elim t as (λ _. Answer Bytes Bytes) [ true ↦ done (word_of (spaces a)) (after_word (spaces a)) | false ↦ stop malformed a ] ≡ done w b
        → (w ≡ word_of (spaces a)) × (b ≡ after_word (spaces a))
    go true h = (sym (done_value h), sym (done_rest h))
    go false h = absurd (stop≢done h)

name_ending : (language : Language) (a : Bytes) {w b : Bytes} → a_name language a ≡ done w b → Ending a b
name_ending language a {b = b} h =
    let (p, q) = name_is language a h in
    let e : Ending (spaces a) (after_word (spaces a)) = record { ahead = word_of (spaces a); is = run_whole (spaces a) } in
    ending_then (spaces_ending a) (subst (λ (x : Bytes). Ending (spaces a) x) (sym q) e)

byte_ending : (c : ℕ) (a : Bytes) {b : Bytes} {u : Unit {0}} → byte c a ≡ done u b → Ending a b
unfolding byte
byte_ending c [] h = absurd (stop≢done h)
byte_ending c (x ∷ a) {b} {u} h = go (eqb x c) h
  where
    go : (t : Bool) → elim t as (λ _. Answer Bytes (Unit {0})) [ true ↦ done tt a | false ↦ stop malformed (x ∷ a) ] ≡ done u b → Ending (x ∷ a) b
    go true h = ending_cons x (subst (λ (y : Bytes). Ending a y) (done_rest h) ending_same)
    go false h = absurd (stop≢done h)

symbol_ending : (c : ℕ) (a : Bytes) {b : Bytes} {u : Unit {0}} → symbol c a ≡ done u b → Ending a b
unfolding symbol
symbol_ending c a h = ending_then (spaces_ending a) (byte_ending c (spaces a) h)

point_ending : (language : Language) (w a : Bytes) {u : Used} {b : Bytes} → point_if_any language w a ≡ done u b → Ending a b
unfolding point_if_any
point_ending language w a {u} {b} h = go (starts (eqb 46) (spaces a)) h
  where
    go : (t : Bool) → elim t as (λ _. Answer Bytes Used) [ true ↦ and_then (λ _ c. and_then (λ x r. done (inside w x) r) (a_name language c)) (symbol 46 a) | false ↦ done (plain w) a ] ≡ done u b → Ending a b
    go true h =
        after _ _ h λ x c e₁ h₁.
        after _ _ h₁ λ y d e₂ h₂.
        subst (λ (z : Bytes). Ending a z) (done_rest h₂) (ending_then (symbol_ending 46 a e₁) (name_ending language c e₂))
    go false h = subst (λ (x : Bytes). Ending a x) (done_rest h) ending_same

used_ending : (language : Language) (a : Bytes) {u : Used} {b : Bytes} → a_used language a ≡ done u b → Ending a b
unfolding a_used
used_ending language a h = after _ _ h λ w c e₁ h₁. ending_then (name_ending language a e₁) (point_ending language w c h₁)

indicator_ending : (language : Language) (a : Bytes) {o : Option Used} {b : Bytes} → an_indicator language a ≡ done o b → Ending a b
unfolding an_indicator
indicator_ending language a {o} {b} h = go (starts name_byte (spaces a)) h
  where
    go : (t : Bool) → elim t as (λ _. Answer Bytes (Option Used)) [ true ↦ and_then (λ u. λ r. done (some u) r) (a_used language a) | false ↦ done none a ] ≡ done o b → Ending a b
    go true h = after _ _ h λ w c e h₁. subst (λ (x : Bytes). Ending a x) (done_rest h₁) (used_ending language a e)
    go false h = subst (λ (x : Bytes). Ending a x) (done_rest h) ending_same

-- the identifier is the part of the line's bytes behind those ahead of it
pub record Identifies (bytes : Bytes) (before : ℕ) (w : Bytes) : Type 0 where
  pub within : before + length w ≤ length bytes
  pub is : slice before (before + length w) bytes ≡ w

identifies : (bytes front w rest : Bytes) (left : ℕ) → bytes ≡ front ++ (w ++ rest) → left ≡ length (w ++ rest) → Identifies bytes (length bytes - left) w
identifies bytes front w rest left e q =
    let n : length bytes ≡ length front + (length w + length rest) = ap length e ∙ length-append front (w ++ rest) ∙ ap (λ (k : ℕ). length front + k) (length-append w rest) in
    let k : length bytes - left ≡ length front = omega (arith, n, q, length-append w rest) in
    let t : length (front ++ w) ≡ length bytes - left + length w = omega (arith, k, length-append front w) in
    record {
      within = omega arith;
      is =
          ap (λ (x : Bytes). slice (length bytes - left) (length bytes - left + length w) x) (e ∙ sym (append_assoc front w rest))
          ∙ ap (drop (length bytes - left)) (take_at (front ++ w) rest (length bytes - left + length w) t)
          ∙ drop_at front w (length bytes - left) (sym k);
    }

pub identifier_place : (language : Language) (bytes : Bytes) {p : Placed} {rest : Bytes} → a_line language (length bytes) bytes ≡ done p rest → Identifies bytes p.before p.line.identifier
unfolding a_line bytes_left
identifier_place language bytes h =
    after _ _ h λ o b e₁ h₁.
    after _ _ h₁ λ u₂ c e₂ h₂.
    after _ _ h₂ λ left c' e₃ h₃.
    after _ _ h₃ λ w d e₄ h₄.
    after _ _ h₄ λ u₅ e e₅ h₅.
    after _ _ h₅ λ u₆ f e₆ h₆.
    after _ _ h₆ λ m g e₇ h₇.
    after _ _ h₇ λ u₈ i e₈ h₈.
    after _ _ h₈ λ k j e₉ h₉.
    after _ _ h₉ λ u₁₀ l e₁₀ h₁₀.
    after _ _ h₁₀ λ u₁₁ r e₁₁ h₁₁.
    subst (λ (p : Placed). Identifies bytes p.before p.line.identifier) (done_value h₁₁)
    (at b c c' left w d (ending_then (indicator_ending language bytes e₁) (symbol_ending 42 b e₂)) e₃ e₄)
  where
    at : (b c c' : Bytes) (left : ℕ) (w d : Bytes) → Ending bytes c → done (length (spaces c)) c ≡ done left c' → a_name language c' ≡ done w d
        → Identifies bytes (length bytes - left) w
    at b c c' left w d n e₃ e₄ =
        let (p, q) = name_is language c (subst (λ (x : Bytes). a_name language x ≡ done w d) (sym (done_rest e₃)) e₄) in
        let s = ending_then n (spaces_ending c) in
        let z : spaces c ≡ w ++ d = run_whole (spaces c) ∙ ap₂ ◌++◌ (sym p) (sym q) in
        identifies bytes s.ahead w d left (s.is ∙ ap (λ (x : Bytes). s.ahead ++ x) z) (sym (done_value e₃) ∙ ap length z)

-- ---- a line that is read

-- everything that is known of a line ahead of its storage and its categories
pub record LineRead (language : Language) (st : State) (L : ℕ) (bytes : Bytes) (p : Passed) : Type 0 where
  pub source : SourceLine
  pub reading : Reading language st bytes source p.line
  pub middle_fits : length (kind_cells p.line.kind) ≤ L
  pub middle_shallow : (m : Expr) → p.line.kind ≡ abbreviation m → levels m ≤ nesting
  pub category_fits : length (cells p.line.category) ≤ L
  pub category_shallow : levels p.line.category ≤ nesting
  pub named : Identifies bytes p.before p.line.identifier

middle_fits_lem : (L : ℕ) (k : Kind) → middle_within_limits L k ≡ true → length (kind_cells k) ≤ L
unfolding kind_cells middle_within_limits
middle_fits_lem L variable h = omega arith
middle_fits_lem L primitive h = omega arith
middle_fits_lem L (abbreviation m) h = omega (arith, (within_limits_lem L m h).0, size_is_length m)

known_line : (language : Language) (st : State) (L : ℕ) (bytes : Bytes) {p : Passed} → ReadAs language st L bytes p → LineRead language st L bytes p
known_line language st L bytes {p} r =
    let l = p.line in
    record {
      source = r.placed.line;
      reading = r.reading;
      middle_fits = middle_fits_lem L l.kind r.middle_within;
      middle_shallow = λ m e. (within_limits_lem L m (middle_limits L r.middle_within m e)).1;
      category_fits = omega (arith, (within_limits_lem L l.category r.category_within).0, size_is_length l.category);
      category_shallow = (within_limits_lem L l.category r.category_within).1;
      named =
          subst (λ (n : ℕ). Identifies bytes n l.identifier) r.before_is
          (subst (Identifies bytes r.placed.before) (sym r.reading.identifier_is) (identifier_place language bytes r.parsed));
    }

pub line_read : (language : Language) (st : State) (L : ℕ) (bytes : Bytes) → RightContexts st.earlier → {p : Passed} → read_line language st L bytes tt ≡ found p → LineRead language st L bytes p
line_read language st L bytes c h = known_line language st L bytes (read_as language st L bytes c h)

-- a line that passed was read, and there was room for it
pub passed_read : (language : Language) (st : State) (m : Limits) (bytes : Bytes) (b : ℕ) → RightContexts st.earlier → {p : Passed} {b' : ℕ} → check_line language st m bytes b ≡ done p b'
    → LineRead language st m.limit bytes p × (room st.earlier m p.line ≡ true)
passed_read language st m bytes b c h =
    let x = check_passed language st m bytes b c h in
    (known_line language st m.limit bytes x.read, x.fits)
