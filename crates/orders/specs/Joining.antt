-- Two correct books without paragraph lines and without a common identifier, one after the other, are a correct book: the second's lines are
-- renumbered.
use Rattle.std.specs.Prelude.{◌≡◌, ◌≢◌, ◌⊎◌, List, [], ◌∷◌, ◌++◌, map, ℕ, suc, ◌+◌, length}
use Rattle.std.proofs.Common.{ap, sym, ◌∙◌, subst, inl, inr, append-nil, append_assoc, arith}
use Rattle.std.proofs.lemmas.List.{map-append}
use Rattle.aut68.specs.Language.{Language}
use Rattle.aut68.specs.Bytes.{Bytes}
use Rattle.aut68.specs.Lines.{Line, Lines}
use Rattle.aut68.specs.Renumbering.{renumber_line}
use Rattle.aut68.specs.Source.{Used}
use Rattle.aut68.specs.Rules.Names.{IsLine, Denotes}
use Rattle.aut68.specs.Rules.Orders.{Names}
use Rattle.aut68.specs.Rules.Derivation.{Derivation}
use Rattle.lookup.specs.LineNumbers.{no_line_lem, line_append, line_seam, line_behind, line_cases, line_map, line_unmap}
use Rattle.orders.specs.FlatBooks.{flat, Flat, no_more, line, derived_append, derived_extends, AllOutside, outside_snoc, flat_named, denotes_flat, unused_flat, unused_outside}
use Rattle.orders.specs.RenumberedSteps.{Renumbered}
use Rattle.orders.specs.RenumberedNames.{KeptName, derivation_renumbered}
use Rattle.orders.specs.Appending.{Any, line_any}

module _ (ks : Lines) where
  -- the numbers behind the lines ks
  abbrev pub behind_lines : ℕ → ℕ
  behind_lines v = length ks + v

  abbrev pub joined_lines : Lines → Lines
  joined_lines ls = ks ++ map (renumber_line behind_lines) ls

  pub joined_renumbered : (ls : Lines) → Renumbered ls Any behind_lines (joined_lines ls)
  joined_renumbered ls = record {
    closed = λ {v} {l} s i. line_any l;
    placed = λ {v} {l} s i. line_behind ks (line_map (renumber_line behind_lines) i);
    injective = λ v w s t e. omega arith;
  }

  joined_snoc : (ls : Lines) (l : Line) → joined_lines (ls ++ (l ∷ [])) ≡ joined_lines ls ++ (renumber_line behind_lines l ∷ [])
  joined_snoc ls l = ap (◌++◌ ks) (map-append (renumber_line behind_lines) ls (l ∷ [])) ∙ sym (append_assoc ks (map (renumber_line behind_lines) ls) (renumber_line behind_lines l ∷ []))

  module _ {language : Language} {all : Lines} (apart : (u v : ℕ) (k l : Line) → IsLine ks u k → IsLine all v l → k.identifier ≢ l.identifier) where
    join_line : {ls : Lines} (rest : Lines) {b : Bytes} {l : Line} → all ≡ ls ++ (l ∷ []) ++ rest → AllOutside ls → Derivation language (flat ls) b l
        → Derivation language (flat (joined_lines ls)) b (renumber_line behind_lines l)
    join_line {ls} rest {b} {l} e o d = derivation_renumbered (flat ls) (flat (joined_lines ls)) (joined_renumbered ls) d (line_any l) kept (unused_flat fresh) d.paragraph_is
      where
        kept : (u : Used) → Names d.source u → KeptName (flat ls) Any behind_lines (flat (joined_lines ls)) u
        kept u n x h s =
            let (w, q, k) = flat_named h in
            subst (λ z. Denotes (flat (joined_lines ls)) z (behind_lines x)) (sym q) (denotes_flat ((joined_renumbered ls).placed tt k.is_line) k.identifier_is k.paragraph_is)

        at : {v : ℕ} {k : Line} → IsLine ks v k ⊎ ((u : ℕ) × (v ≡ length ks + u) × IsLine (map (renumber_line behind_lines) ls) u k) → k.identifier ≢ l.identifier
        at {v} {k} (inl i) q = apart v (suc (length ls)) k l i (rw e (line_append rest (line_seam ls l []))) q
        at (inr (u, x, i)) q =
            let (j, a, r) = line_unmap (renumber_line behind_lines) ls i in
            unused_outside d.unused (record { the_line = j; is_line = a; identifier_is = sym (ap (λ x. x.identifier) r) ∙ q; paragraph_is = o _ j a })

        fresh : (v : ℕ) (k : Line) → IsLine (joined_lines ls) v k → k.identifier ≢ l.identifier
        fresh v k i = at (line_cases ks i)

    join_derived : {ls : Lines} {ps : List Bytes} → Flat language ls ps all → AllOutside ls → Flat language (joined_lines ls) ps (joined_lines all)
    join_derived no_more o = no_more
    join_derived (line {ls} {bytes} {more} {l} d r) o =
        let (rest, e) = derived_extends r in
        line (join_line rest e o d) (subst (λ x. Flat language x more (joined_lines all)) (joined_snoc ls l) (join_derived r (outside_snoc o d)))

-- one book, then the other
pub books_joined : {language : Language} {ks ls : Lines} {ps qs : List Bytes} → Flat language [] ps ks → Flat language [] qs ls
    → ((u v : ℕ) (k l : Line) → IsLine ks u k → IsLine ls v l → k.identifier ≢ l.identifier)
    → Flat language [] (ps ++ qs) (joined_lines ks ls)
books_joined {language} {ks} {ls} {ps} {qs} d e apart = derived_append d (subst (λ x. Flat language x qs (joined_lines ks ls)) (append-nil ks) (join_derived ks apart e (λ v k i. absurd (no_line_lem i))))
