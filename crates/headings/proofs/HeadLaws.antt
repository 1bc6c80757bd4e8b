-- `indicator*identifier:=`.
use mathlib.Core.Path.{◌≡◌, refl, sym, ap, ◌∙◌, subst}
use mathlib.Core.Logic.{◌≢◌}
use mathlib.Core.Bool.{Bool, true, false}
use mathlib.Core.Option.{none, some}
use mathlib.Core.List.{[], ◌∷◌}
use Rattle.std.specs.Prelude.{Option, Some, None}
use Prim.Native.Nat.{ℕ, ◌+◌, ◌-◌, ◌≤◌, ◌<◌}
use native.Mathlib.Omega.{arith}
use lib.ListN.{length, get_or, drop, length-drop}
use lib.Seq.{slice}
use borrow.Author.Tests.{eq-eqb, ne_eqb}
use Rattle.aut68.specs.Language.{aut68}
use Rattle.aut68.specs.Bytes.{Bytes, name_byte}
use Rattle.aut68.specs.Source.{Used}
use Rattle.aut68.specs.Procedure.Answer.{done, stop, and_then, malformed}
use Rattle.aut68.specs.Procedure.Parse.{spaces, starts, byte, a_used, an_indicator, a_line, bytes_left}
use Rattle.kinds.specs.Kinds.{KindsTable, kind_of, place_or0, kind_of_name, name_of_kind, one_of_kind}
use Rattle.symbols.specs.Symbols.{first_kind, PastSpaces, KindAt, PastSymbol, NameAt, used_in, title_in, size_in, UsedAt, UsedFound}
use Rattle.symbols.specs.declared.UsedName.{UsedName}
use Rattle.symbols.proofs.SymbolLaws.{step, byte_here, byte_missing, byte_end}
use Rattle.symbols.proofs.NextLaws.{after_stop, after_done}
use Rattle.headings.specs.declared.before_middle.Prefix.{Prefix}
use Rattle.headings.specs.declared.before_middle.Head.{Head}
use Rattle.headings.specs.ReadLine.{after_heading, used_or, indicator_in}
use Rattle.headings.specs.Posts.{PrefixRead, PrefixFound, HeadRead, HeadFound}

-- ---- a name that may be missing

module _ (s : Bytes) (title size start len : ℕ) where
  pub used_none : len ≡ 0 → used_or s title size start len ≡ none
  unfolding used_or
  used_none e = rw (eq-eqb len 0 e, used_or)

  pub used_some : len ≢ 0 → used_or s title size start len ≡ some (used_in s title size start len)
  unfolding used_or
  used_some n = rw (ne_eqb len 0 n, used_or)

-- ---- the indicator

starts_name : (bs : Bytes) → first_kind bs ≡ 1 → starts name_byte bs ≡ true
unfolding starts first_kind
starts_name [] e = absurd (omega arith)
starts_name (b ∷ bs) e = name_of_kind b e

starts_no_name : (bs : Bytes) → first_kind bs ≢ 1 → starts name_byte bs ≡ false
unfolding starts first_kind
starts_no_name [] n = refl
starts_no_name (b ∷ bs) n = split (name_byte b) refl
  where
    split : (t : Bool) → name_byte b ≡ t → name_byte b ≡ false
    split false e = e
    split true e = absurd (n (kind_of_name b e))

no_indicator_lem : (bs : Bytes) → first_kind (spaces bs) ≢ 1 → an_indicator aut68 bs ≡ done none bs
unfolding an_indicator
no_indicator_lem bs n = rw (starts_no_name (spaces bs) n, an_indicator)

indicator_read : (bs : Bytes) {u : Used} {rest : Bytes} → first_kind (spaces bs) ≡ 1 → a_used aut68 bs ≡ done u rest → an_indicator aut68 bs ≡ done (some u) rest
unfolding an_indicator and_then
indicator_read bs e f = rw (starts_name (spaces bs) e, an_indicator, f) refl

indicator_missing : (bs : Bytes) {rest : Bytes} → first_kind (spaces bs) ≡ 1 → a_used aut68 bs ≡ stop malformed rest → an_indicator aut68 bs ≡ stop malformed rest
unfolding an_indicator and_then
indicator_missing bs e f = rw (starts_name (spaces bs) e, an_indicator, f) refl

module _ {ks s : Bytes} {start k : ℕ} (p : PastSpaces s 0 start) (q : KindAt ks s start k) where
  first_kind_lem : KindsTable ks → k ≡ first_kind (spaces s)
  first_kind_lem t = q.kind t ∙ ap first_kind p.rest

  pub prefix_empty : k ≢ 1 → PrefixRead ks s (record { at = 0; indicator = None })
  prefix_empty n =
      record {
        inside = omega arith;
        indicated = tt;
        read = λ t. no_indicator_lem s (λ e. n (first_kind_lem t ∙ e));
      }

  module _ (e : k ≡ 1) where
    pub prefix_malformed : UsedAt ks s 0 0 0 0 0 → PrefixFound ks s None
    prefix_malformed n t = let (rest, m) = n.missing t (omega arith) refl in (rest, indicator_missing s (sym (first_kind_lem t) ∙ e) m)

    pub prefix_named : {u : UsedName} → UsedFound ks s 0 (Some u) → PrefixRead ks s (record { at = u.name.start + u.name.len; indicator = Some u })
    prefix_named {u} (z, l, n) =
        record {
          inside = n.within (omega arith);
          indicated = (n.titled (omega arith), n.within (omega arith), z, l);
          read = λ t.
              indicator_read s (sym (first_kind_lem t) ∙ e) (n.read t (omega arith) z)
              ∙ ap (λ o. done o (drop (u.name.start + u.name.len) s)) (sym (used_some s (title_in u.paragraph) (size_in u.paragraph) u.name.start u.name.len z));
        }

pub prefix_none : {ks : Bytes} (s : Bytes) {r : Option Prefix} → r ≡ None → PrefixFound ks s None → PrefixFound ks s r
prefix_none {ks} s e m = subst (PrefixFound ks s) (sym e) m

-- ---- the whole heading

heading_kinds : (kind_of 42 ≡ 4) × (kind_of 58 ≡ 5) × (kind_of 61 ≡ 6)
unfolding kind_of place_or0 name_byte
heading_kinds = (refl, refl, refl)

-- the byte of a kind from 2 on
byte_of_kind : {ks s : Bytes} {at k : ℕ} (c : ℕ) → KindAt ks s at k → KindsTable ks → kind_of c ≡ k → 2 ≤ k → byte c (drop at s) ≡ done tt (drop (at + 1) s)
unfolding first_kind
byte_of_kind {s = s} {at} c q t e l =
    let i = q.inside (λ z. omega arith) in
    byte_here s c at i (one_of_kind (get_or s at 0) c (omega (arith, e)) (sym (ap first_kind (step s at i)) ∙ sym (q.kind t) ∙ sym e))

byte_of_other : {ks s : Bytes} {at k : ℕ} (c : ℕ) → KindAt ks s at k → KindsTable ks → kind_of c ≢ k → byte c (drop at s) ≡ stop malformed (drop at s)
unfolding first_kind
byte_of_other {s = s} {at} c q t n = split _ refl
  where
    split : (bs : Bytes) → drop at s ≡ bs → byte c (drop at s) ≡ stop malformed (drop at s)
    split [] e = ap (byte c) e ∙ no_byte c ∙ ap (stop malformed) (sym e)
      where
        no_byte : (c : ℕ) → byte c [] ≡ stop malformed []
        no_byte c = byte_end [] c 0 (omega arith)
    split (b ∷ bs) e = ap (byte c) e ∙ byte_missing (b ∷ bs) c 0 (omega arith) (λ z. n (sym (q.kind t ∙ ap first_kind e ∙ ap kind_of z))) ∙ ap (stop malformed) (sym e)

pub head_none : {ks : Bytes} (s : Bytes) {r : Option Head} → r ≡ None → HeadFound ks s None → HeadFound ks s r
head_none {ks} s e m = subst (HeadFound ks s) (sym e) m

bytes_left_lem : (bs : Bytes) → bytes_left bs ≡ done (length (spaces bs)) bs
unfolding bytes_left
bytes_left_lem bs = refl

pub heading_no_indicator : {ks : Bytes} (s : Bytes) → PrefixFound ks s None → HeadFound ks s None
unfolding a_line
heading_no_indicator s P t = let (rest, e) = P t in (rest, after_stop _ e)

module _ {ks s : Bytes} {p : Prefix} (P : PrefixRead ks s p) {star : ℕ} (q : PastSymbol ks s p.at 4 star) where
  pub heading_no_star : length s < star → HeadFound ks s None
  unfolding a_line
  heading_no_star m t = (_, after_done _ (P.read t) ∙ after_stop _ (q.missing t 42 heading_kinds.0 (omega arith) m))

  module _ (i : star ≤ length s) {first size : ℕ} (n : NameAt ks s star first size) where
    pub heading_no_name : size ≡ 0 → HeadFound ks s None
    unfolding a_line
    heading_no_name e t = (
      _,
      after_done _ (P.read t) ∙ after_done _ (q.read t 42 heading_kinds.0 (omega arith) i) ∙ after_done _ (bytes_left_lem (drop star s))
          ∙ after_stop _ (n.missing t i e),
    )

    module _ (e : size ≢ 0) {colon : ℕ} (c : PastSymbol ks s (first + size) 5 colon) where
      pub heading_no_colon : length s < colon → HeadFound ks s None
      unfolding a_line
      heading_no_colon m t = (
        _,
        after_done _ (P.read t) ∙ after_done _ (q.read t 42 heading_kinds.0 (omega arith) i) ∙ after_done _ (bytes_left_lem (drop star s))
            ∙ after_done _ (n.read t i e) ∙ after_stop _ (c.missing t 58 heading_kinds.1 (omega arith) m),
      )

      module _ (j : colon ≤ length s) {k : ℕ} (d : KindAt ks s colon k) where
        pub heading_no_equals : k ≢ 6 → HeadFound ks s None
        unfolding a_line
        heading_no_equals m t = (
          _,
          after_done _ (P.read t) ∙ after_done _ (q.read t 42 heading_kinds.0 (omega arith) i) ∙ after_done _ (bytes_left_lem (drop star s))
              ∙ after_done _ (n.read t i e) ∙ after_done _ (c.read t 58 heading_kinds.1 (omega arith) j)
              ∙ after_stop _ (byte_of_other 61 d t (λ x. m (sym x ∙ heading_kinds.2))),
        )

        pub heading_read : k ≡ 6 → HeadRead ks s (record { at = colon + 1; indicator = p.indicator; identifier = record { start = first; len = size } })
        unfolding a_line after_heading
        heading_read x =
            record {
              inside = omega (arith, d.inside (λ y. omega arith));
              indicated = P.indicated;
              named = n.within i;
              sized = e;
              read = λ t.
                  let before : length s - length (spaces (drop star s)) ≡ first =
                  ap (λ bs. length s - length bs) (sym (n.ahead i)) ∙ omega (arith, length-drop first s, n.within i) in
                  after_done _ (P.read t) ∙ after_done _ (q.read t 42 heading_kinds.0 (omega arith) i) ∙ after_done _ (bytes_left_lem (drop star s))
                  ∙ after_done _ (n.read t i e) ∙ after_done _ (c.read t 58 heading_kinds.1 (omega arith) j)
                  ∙ after_done _ (byte_of_kind 61 d t (heading_kinds.2 ∙ sym x) (omega arith))
                  ∙ ap (λ b. after_heading aut68 (indicator_in s p.indicator) b (slice first (first + size) s) (drop (colon + 1) s)) before;
            }
