-- Paragraph lines.
use mathlib.Core.Path.{◌≡◌, refl, sym, ap, ◌∙◌, subst}
use mathlib.Core.Logic.{◌≢◌}
use mathlib.Core.Bool.{Bool, true, false}
use Rattle.std.specs.Prelude.{Option, None}
use Rattle.symbols.specs.declared.Name.{Name}
use Prim.Native.Nat.{ℕ, ◌+◌, ◌≤◌, ◌<◌}
use native.Mathlib.Omega.{arith}
use lib.Dec.{eqb, leb}
use lib.ListN.{length, drop, length-drop}
use borrow.Author.Tests.{leb-true, leb-false, ne_eqb}
use Rattle.aut68.specs.Language.{aut68}
use Rattle.aut68.specs.Bytes.{Bytes, name_byte}
use Rattle.aut68.specs.Rules.Grammar.{IsSign, plus, minus}
use Rattle.aut68.specs.Procedure.Answer.{done, stop, malformed}
use Rattle.aut68.specs.Procedure.Parse.{spaces, symbol, a_sign_line, signed}
use Rattle.kinds.specs.Kinds.{KindsTable, kind_of, place_or0, kind_last}
use Rattle.symbols.specs.Symbols.{first_kind, PastSpaces, KindAt, PastSymbol, NameAt}
use Rattle.symbols.proofs.NextLaws.{after_stop, after_done, starts_kind}
use Rattle.headings.specs.Posts.{SignOf, SignRead, SignNamed}
use Rattle.headings.proofs.LineEndLaws.{line_ends, line_goes_on}

sign_kinds : (kind_of 43 ≡ 15) × (kind_of 45 ≡ 16) × (kind_of 10 ≡ 13)
unfolding kind_of place_or0 name_byte
sign_kinds = (refl, refl, refl)

pub sign_is_lem : {ks s : Bytes} {start k : ℕ} → PastSpaces s 0 start → KindAt ks s start k → SignOf ks s k
unfolding signed
sign_is_lem {ks} {s} {start} {k} p q =
    record {
      opens = λ t. starts_kind 43 (spaces s) (omega (arith, sign_kinds.0)) ∙ ap (λ n. eqb n (kind_of 43)) (sym (first t)) ∙ ap (eqb k) sign_kinds.0;
      closes = λ t. starts_kind 45 (spaces s) (omega (arith, sign_kinds.1)) ∙ ap (λ n. eqb n (kind_of 45)) (sym (first t)) ∙ ap (eqb k) sign_kinds.1;
    }
  where
    first : KindsTable ks → k ≡ first_kind (spaces s)
    first t = q.kind t ∙ ap first_kind p.rest

pub sign_other : {ks s : Bytes} {k : ℕ} → SignOf ks s k → k ≢ 15 → k ≢ 16 → SignOf ks s 0
sign_other {ks} {s} {k} h n m = record { opens = λ t. h.opens t ∙ ne_eqb k 15 n; closes = λ t. h.closes t ∙ ne_eqb k 16 m }

-- ---- the name behind the sign

pub sign_none : {ks s : Bytes} {k : ℕ} {r : Option Name} → r ≡ None → SignRead ks s k 0 0 → SignNamed ks s k r
sign_none {ks} {s} {k} e m = subst (SignNamed ks s k) (sym e) m

-- a kind is that of its number; a number that is no kind's is no sign's
pub kind_read : {ks s : Bytes} {j k start len : ℕ} → (k ≤ 16 → j ≡ k) → SignRead ks s j start len → SignRead ks s k start len
kind_read f h =
    record {
      within = h.within;
      read = λ t sign i e n. h.read t sign i (f (omega (arith, kind_last sign)) ∙ e) n;
      missing = λ t sign i e z. h.missing t sign i (f (omega (arith, kind_last sign)) ∙ e) z;
    }

sign_kind : {sign : ℕ} → IsSign sign → 2 ≤ kind_of sign
sign_kind plus = omega (arith, sign_kinds.0)
sign_kind minus = omega (arith, sign_kinds.1)

malformed_sign : {ks s : Bytes} {k : ℕ} → (KindsTable ks → (sign : ℕ) → IsSign sign → k ≡ kind_of sign → (rest : Bytes) × (a_sign_line aut68 sign s ≡ stop malformed rest))
    → SignRead ks s k 0 0
malformed_sign f = record { within = omega arith; read = λ t sign i e n. absurd (n refl); missing = λ t sign i e z. f t sign i e }

module _ {ks s : Bytes} {k at : ℕ} (p : PastSymbol ks s 0 k at) where
  pub sign_missing : length s < at → SignRead ks s k 0 0
  unfolding a_sign_line
  sign_missing l = malformed_sign (λ t sign i e. (_, after_stop _ (p.missing t sign (sym e) (omega (arith, sign_kind i)) l)))

  module _ (l : at ≤ length s) where
    past_sign : KindsTable ks → {sign : ℕ} → IsSign sign → k ≡ kind_of sign → symbol sign s ≡ done tt (drop at s)
    past_sign t {sign} i e = p.read t sign (sym e) (omega (arith, sign_kind i)) l

    module _ {start len : ℕ} (n : NameAt ks s at start len) where
      pub sign_unnamed : len ≡ 0 → SignRead ks s k 0 0
      unfolding a_sign_line
      sign_unnamed z = malformed_sign (λ t sign i e. (_, after_done _ (past_sign t i e) ∙ after_stop _ (n.missing t l z)))

      module _ (m : len ≢ 0) {end : ℕ} (q : PastSymbol ks s (start + len) 13 end) where
        -- another byte stands behind the name, or more behind byte 10
        pub sign_unended : end ≢ length s → SignRead ks s k 0 0
        unfolding a_sign_line
        sign_unended d = malformed_sign (λ t sign i e. split t i e (leb end (length s)) refl)
          where
            split : KindsTable ks → {sign : ℕ} → IsSign sign → k ≡ kind_of sign → (b : Bool) → leb end (length s) ≡ b
                → (rest : Bytes) × (a_sign_line aut68 sign s ≡ stop malformed rest)
            split t i e true h =
                let j = leb-true end (length s) h in (
                  _,
                  after_done _ (past_sign t i e) ∙ after_done _ (n.read t l m) ∙ after_done _ (q.read t 10 sign_kinds.2 (omega arith) j)
                      ∙ after_stop _ (line_goes_on (drop end s) (λ z. d (omega (arith, length-drop end s)))),
                )
            split t i e false h = (
              _,
              after_done _ (past_sign t i e) ∙ after_done _ (n.read t l m)
                  ∙ after_stop _ (q.missing t 10 sign_kinds.2 (omega arith) (leb-false end (length s) h)),
            )

        pub sign_read : end ≡ length s → SignRead ks s k start len
        unfolding a_sign_line
        sign_read d =
            record {
              within = n.within l;
              read = λ t sign i e z. (
                _,
                after_done _ (past_sign t i e) ∙ after_done _ (n.read t l m) ∙ after_done _ (q.read t 10 sign_kinds.2 (omega arith) (omega arith))
                    ∙ after_done _ (line_ends s end (omega arith)),
              );
              missing = λ t sign i e z. absurd (m z);
            }
