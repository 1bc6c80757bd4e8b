-- The line of a paragraph with a given identifier, down the chain of its slot.
use mathlib.Core.Path.{◌≡◌, refl, sym, ap, ap₂, ◌∙◌}
use mathlib.Core.Logic.{◌≢◌}
use mathlib.Core.Bool.{Bool, true, false, ◌&&◌}
use mathlib.Core.Option.{Option, none, some}
use mathlib.Core.List.{List}
use Prim.Native.Nat.{ℕ, ◌%◌, ◌≤◌, ◌<◌}
use native.Mathlib.Decide.{ℕ_discrete}
use native.Mathlib.Omega.{arith}
use lib.Dec.{eqb}
use lib.ListN.{length, get_or}
use borrow.Author.Tests.{eq-eqb, ne_eqb, eqb-true}
use Rattle.std.specs.Prelude as Prelude
use Rattle.aut68.specs.Bytes.{Bytes, same_bytes}
use Rattle.aut68.specs.Lines.{Line, Lines, number_in, part_of, row_cell}
use Rattle.aut68.specs.Rules.Names.{IsLine, LineIn}
use Rattle.aut68.specs.Sizes.{at_name_start, at_name_length, at_paragraph}
use Rattle.lookup.specs.LineNumbers.{line_at_lem, line_positive, line_within}
use Rattle.lookup.specs.SameBytes.{same_true, same_refl}
use Rattle.lookup.specs.Tests.{and_true}
use Rattle.lookup.specs.Identifiers.{line_in_sound, line_in_none, line_in_unique}
use Rattle.cells.specs.Links.{link_factor, link_of, row_unlinked, length_unlinked}
use Rattle.names.specs.Search.{Gives, gives_so}
use Rattle.names.specs.Known.{Known}
use Rattle.names.specs.Chains.{Searching, Found}
use Rattle.names.specs.Chains as Chains
use Rattle.names.specs.Hints.{hash_of, slot_at, name_at, Hinted, line_is}
use Rattle.names.specs.HintLaws.{slot_below}
use Rattle.names.specs.Posts.{number_or, LineFound}
use Rattle.names.proofs.PartLaws.{part_whole}

-- ---- a row that has the word and the paragraph

pub second_fails : (s : Bool) {t : Bool} → t ≡ false → (s && t) ≡ false
second_fails true e = e
second_fails false e = refl

pub second_passes : (s : Bool) {t : Bool} → t ≡ true → s ≡ (s && t)
second_passes true e = sym e
second_passes false e = refl

module _ (book tb : List ℕ) (word : Bytes) (q v : ℕ) where
  pub is_not : {paragraph : ℕ} → paragraph ≡ row_cell tb v at_paragraph → paragraph ≢ q → line_is book tb word q v ≡ false
  unfolding line_is
  is_not e n = second_fails (same_bytes word (name_at book tb v)) (ne_eqb q (row_cell tb v at_paragraph) (λ z. n (e ∙ sym z)))

  pub is_compared_lem : {paragraph start size : ℕ} → paragraph ≡ row_cell tb v at_paragraph → paragraph ≡ q → start ≡ row_cell tb v at_name_start → size ≡ row_cell tb v at_name_length
      → same_bytes word (part_of book start (size % link_factor)) ≡ line_is book tb word q v
  unfolding line_is name_at
  is_compared_lem e p es ez = second_passes _ (eq-eqb q (row_cell tb v at_paragraph) (sym p ∙ e)) ∙ (λ i. same_bytes word (part_of book (es i) (ez i % link_factor)) && eqb q (row_cell tb v at_paragraph))

is_true : (book tb : List ℕ) (word : Bytes) (q v : ℕ) → line_is book tb word q v ≡ true → (word ≡ name_at book tb v) × (q ≡ row_cell tb v at_paragraph)
unfolding line_is
is_true book tb word q v e = let (a, b) = and_true _ _ e in (same_true _ _ a, eqb-true _ _ b)

-- ---- lines that are known

module _ {ls : Lines} {book tb : List ℕ} {lines : ℕ} (k : Known ls book tb lines) where
  pub line_at : (c : ℕ) → 0 < c → c ≤ lines → (l : Line) × IsLine ls c l
  line_at c p b = line_at_lem ls c p (omega (arith, k.count))

  -- the row of a line points to its identifier
  name_known : {v : ℕ} {l : Line} → IsLine ls v l → name_at book tb v ≡ l.identifier
  unfolding name_at
  name_known {v} h =
      let n = k.named.name_of h in
      let s = row_unlinked lines tb v at_name_start (omega arith) (λ e. omega arith) in
      let z = length_unlinked lines tb v (line_positive h) (omega (arith, line_within h, k.count)) in
      sym (λ i. part_of book (s i) (z i)) ∙ part_whole book _ _ n.within ∙ n.bytes_are

  line_passes : {word : Bytes} {q v : ℕ} → 1 ≤ v → v ≤ lines → line_is book tb word q v ≡ true → LineIn ls word q v
  line_passes {word} {q} {v} a b e =
      let (l, h) = line_at v a b in
      let (n, p) = is_true book tb word q v e in
      record { the_line = l; is_line = h; identifier_is = sym (n ∙ name_known h); paragraph_is = sym (p ∙ (k.rows.row h).paragraph_is) }

  line_has : {word : Bytes} {q v : ℕ} → LineIn ls word q v → line_is book tb word q v ≡ true
  unfolding line_is
  line_has {word} {q} {v} h =
      let n : word ≡ name_at book tb v = sym (name_known h.is_line ∙ h.identifier_is) in
      let p : q ≡ row_cell tb v at_paragraph = sym ((k.rows.row h.is_line).paragraph_is ∙ h.paragraph_is) in
      rw (ap (same_bytes word) (sym n) ∙ same_refl word, eq-eqb q _ p)

-- ---- down the chain

-- the hints are there, and the word with its hash
pub record Asked (book tb : List ℕ) (lines : ℕ) (w : List ℕ) (word : Bytes) (h : ℕ) : Type 0 where
  pub hinted : Hinted book tb lines w
  pub any : 1 ≤ length word
  pub hashed : h ≡ hash_of word

abbrev pub SearchingLine : List ℕ → List ℕ → ℕ → List ℕ → Bytes → ℕ → ℕ → ℕ → Type 0
SearchingLine book tb lines w word h q v = Searching (Asked book tb lines w word h) (line_is book tb word q) (link_of tb) lines v

module _ {book tb : List ℕ} {lines : ℕ} {w : List ℕ} {word : Bytes} {h : ℕ} where
  pub search_starts : (q : ℕ) {v : ℕ} → v ≡ get_or w (slot_at (length w) h q) 0 → SearchingLine book tb lines w word h q v
  search_starts q e =
      Chains.search_starts (slot_at (length w) h q) (λ g. g.hinted.chains) (slot_below (length w) h q)
      (λ g u p. let (n, s) = is_true book tb word q u p in ap₂ (slot_at (length w)) (ap hash_of (sym n) ∙ sym g.hashed) (sym s)) e

  pub line_found : {q r : ℕ} → Found (Asked book tb lines w word h) (line_is book tb word q) lines r → LineFound book tb lines w word h q r
  unfolding number_or
  line_found {q} {r} f = record { within = f.within; is = λ ls k g p e. number ls k (record { hinted = g; any = p; hashed = e }) (number_in ls word q) refl (ℕ_discrete r 0) }
    where
      number : (ls : Lines) (k : Known ls book tb lines) → Asked book tb lines w word h → (o : Option ℕ) → number_in ls word q ≡ o → Dec (r ≡ 0) → r ≡ number_or 0 o
      number ls k g none e (yes z) = z
      number ls k g none e (no n) = absurd (line_in_none e r (line_passes k (omega arith) f.within (f.passes g n)))
      number ls k g (some u) e (yes z) =
          let i = line_in_sound e in
          absurd (f.fails g z u (line_positive i.is_line) (omega (arith, line_within i.is_line, k.count)) (line_has k i))
      number ls k g (some u) e (no n) =
          line_in_unique k.distinct (line_passes k (omega arith) f.within (f.passes g n)) (line_in_sound e)

pub gives_line : (book tb : List ℕ) (lines : ℕ) (w : List ℕ) (word : Bytes) (h q : ℕ) (r : Prelude.Option ℕ) → Gives (Found (Asked book tb lines w word h) (line_is book tb word q) lines) r
    → Gives (LineFound book tb lines w word h q) r
gives_line book tb lines w word h q =
    gives_so (Found (Asked book tb lines w word h) (line_is book tb word q) lines) (LineFound book tb lines w word h q) (λ r f. line_found f)
