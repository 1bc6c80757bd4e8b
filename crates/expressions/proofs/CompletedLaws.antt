-- The arguments of a name, with those left out: at each end of `completed`.
use Rattle.std.specs.Prelude.{Option, None, Some}
use mathlib.Core.Path.{◌≡◌, refl, sym, ◌∙◌, subst}
use mathlib.Core.Logic.{◌≢◌, inl, inr}
use mathlib.Core.List.{List, []}
use Prim.Native.Nat.{ℕ, ◌+◌, ◌-◌, ◌/◌, ◌≤◌, ◌<◌}
use native.Mathlib.Omega.{arith}
use lib.ListN.{length}
use Rattle.aut68.specs.Bytes.{Bytes}
use Rattle.aut68.specs.Lines.{Line, line_of}
use Rattle.aut68.specs.Paragraphs.{State}
use Rattle.aut68.specs.Procedure.Answer.{Answer, wrong_arity}
use Rattle.aut68.specs.Procedure.Resolve.{found, refused, Meaning, a_bound, a_variable, a_constant, left_out, wanted, context_at}
use Rattle.aut68.specs.Rules.Names.{IsLine}
use Rattle.aut68.specs.Sizes.{cell_factor, nesting}
use Rattle.lookup.specs.LineNumbers.{context_of_line}
use Rattle.lookup.specs.OneComparison.{all_written_lem, too_many}
use Rattle.cells.specs.Stores.{outside_below}
use Rattle.names.specs.Known.{Known}
use Rattle.meanings.specs.NotedContext.{ContextNoted}
use Rattle.meanings.specs.Meanings.{cell_of}
use Rattle.meanings.proofs.NotedLaws.{at_length}
use Rattle.completion.specs.Posts.{variable_cells, LastLeftOut, PutIn}
use Rattle.expressions.specs.Walk.{Walked}
use Rattle.expressions.specs.Posts.{NameMeaning, Inserted, Filled, put_in, wrong, Completed}
use Rattle.expressions.proofs.StoreLaws.{below_same}

-- a name that wants arguments is a constant, and its cell has its line
of_constant_lem : (st : State) (context : List ℕ) (x : Meaning) {cell count : ℕ} → cell ≡ cell_of x → count < length (wanted st context x) → (P : List ℕ → Type 0)
    → ((l : Line) → IsLine st.earlier (cell / cell_factor) l → count < length l.context → P l.context) → P (wanted st context x)
unfolding wanted cell_of
of_constant_lem st context (a_bound i) e l P f = absurd (omega arith)
of_constant_lem st context (a_variable v) e l P f = absurd (omega arith)
of_constant_lem st context (a_constant v) {cell} e l P f =
    let q : v ≡ cell / cell_factor = omega arith in
    f (line_of st.earlier v) (subst (λ u. IsLine st.earlier u (line_of st.earlier v)) q (context_of_line st.earlier v (omega arith))) l

refused_with : {w w' : List ℕ} {first end end' d fault fault' : ℕ} {us : Answer (Unit {0}) (List ℕ)} → fault' ≡ 6 → us ≡ refused wrong_arity → Filled w w' first end end' d fault fault' us
refused_with {w} {w'} {first} {end} {end'} {d} {fault} {fault'} e q = subst (λ us. Filled w w' first end end' d fault fault' us) (sym q) (wrong e)

nothing_inserted : {w : List ℕ} {first end d : ℕ} → Inserted w w first end end d []
unfolding variable_cells
nothing_inserted = record { fits = λ r. (refl, inl refl); over = λ r. inl (omega arith) }

module _ {tb : List ℕ} {indicator : ℕ} {w : List ℕ} {first : ℕ} (depth : ℕ) {a : Walked} {m : NameMeaning} where
  -- the arguments as they are
  unchanged : (m.fault ≡ 0 → a.code ≡ 0 → (st : State) (book : Bytes) (lines : ℕ) → Known st.earlier book tb lines → ContextNoted st.earlier indicator w → indicator ≤ lines
      → (x : Meaning) → m.cell ≡ cell_of x → m.wanted ≡ length (wanted st (context_at st.earlier indicator) x)
      → left_out a.count (wanted st (context_at st.earlier indicator) x) (context_at st.earlier indicator) tt ≡ found [])
      → Completed tb indicator w w first depth a m a
  unchanged h =
      record {
        below = below_same first w;
        up = λ s. omega arith;
        small = λ s. s;
        code = refl;
        at = refl;
        kept = λ n. refl;
        filled = λ z f l s st book lines k noted i x c n.
            subst (λ us. Filled w w first a.to a.to (nesting - 1 - depth) a.fault a.fault us) (sym (h f z st book lines k noted i x c n))
            (put_in refl nothing_inserted);
      }

  pub completed_refused : a.code ≢ 0 → Completed tb indicator w w first depth a m a
  completed_refused n = unchanged (λ f z. absurd (n z))

  pub completed_faulty : m.fault ≢ 0 → Completed tb indicator w w first depth a m a
  completed_faulty n = unchanged (λ f. absurd (n f))

  pub completed_written : a.count ≡ m.wanted → Completed tb indicator w w first depth a m a
  completed_written e = unchanged (λ f z st book lines k noted i x c n. all_written_lem (wanted st (context_at st.earlier indicator) x) (context_at st.earlier indicator) (e ∙ n))

  module _ (r : Walked) (code : r.code ≡ a.code) (at : r.at ≡ a.at) (f₀ : m.fault ≡ 0) where
    -- 6 as the fault
    miscounted : r.to ≡ a.to → r.fault ≡ 6
        → ((st : State) (book : Bytes) (lines : ℕ) → Known st.earlier book tb lines → ContextNoted st.earlier indicator w → indicator ≤ lines
        → (x : Meaning) → m.cell ≡ cell_of x → m.wanted ≡ length (wanted st (context_at st.earlier indicator) x)
        → Filled w w first a.to r.to (nesting - 1 - depth) a.fault r.fault (left_out a.count (wanted st (context_at st.earlier indicator) x) (context_at st.earlier indicator) tt))
        → Completed tb indicator w w first depth a m r
    miscounted to fault h =
        record {
          below = below_same first w;
          up = λ s. omega (arith, to);
          small = λ s. omega (arith, to);
          code = code;
          at = at;
          kept = λ n. absurd (n f₀);
          filled = λ z f l s st book lines k noted i x c n. h st book lines k noted i x c n;
        }

    pub completed_too_many : r.to ≡ a.to → r.fault ≡ 6 → m.wanted < a.count → Completed tb indicator w w first depth a m r
    completed_too_many to fault l =
        miscounted to fault (λ st book lines k noted i x c n.
        refused_with fault (too_many (wanted st (context_at st.earlier indicator) x) (context_at st.earlier indicator) a.count (omega arith)))

    module _ (l : a.count < m.wanted) {v : ℕ} (ev : v ≡ m.cell / cell_factor) {o : Option ℕ} (h : LastLeftOut tb w indicator v a.count o) where
      pub completed_cannot : r.to ≡ a.to → r.fault ≡ 6 → o ≡ None → Completed tb indicator w w first depth a m r
      completed_cannot to fault z =
          miscounted to fault (λ st book lines k noted i x c n.
          of_constant_lem st (context_at st.earlier indicator) x c (omega arith)
          (λ of. Filled w w first a.to r.to (nesting - 1 - depth) a.fault r.fault (left_out a.count of (context_at st.earlier indicator) tt))
          (λ b is q. refused_with fault (h.none st.earlier book lines k noted i b (subst (λ u. IsLine st.earlier u b) (sym ev) is) q z)))

      -- what was found is put in
      inserted : {w' : List ℕ} {last : ℕ} → r.fault ≡ a.fault → o ≡ Some last
          → ((st : State) (book : Bytes) (lines : ℕ) → Known st.earlier book tb lines → 1 ≤ last → last ≤ lines → first ≤ a.to → Inserted w w' first a.to r.to (nesting - 1 - depth) (context_at st.earlier last))
          → first ≤ a.to → (st : State) (book : Bytes) (lines : ℕ) → Known st.earlier book tb lines → ContextNoted st.earlier indicator w → indicator ≤ lines
          → (x : Meaning) → m.cell ≡ cell_of x → m.wanted ≡ length (wanted st (context_at st.earlier indicator) x)
          → Filled w w' first a.to r.to (nesting - 1 - depth) a.fault r.fault (left_out a.count (wanted st (context_at st.earlier indicator) x) (context_at st.earlier indicator) tt)
      inserted {w'} {last} fault n ins u st book lines k noted i x c e =
          of_constant_lem st (context_at st.earlier indicator) x c (omega arith)
          (λ of. Filled w w' first a.to r.to (nesting - 1 - depth) a.fault r.fault (left_out a.count of (context_at st.earlier indicator) tt))
          (λ b is q.
          let (x₀, y, p) = h.some st.earlier book lines k noted i b (subst (λ z. IsLine st.earlier z b) (sym ev) is) q last n in
          subst (λ us. Filled w w' first a.to r.to (nesting - 1 - depth) a.fault r.fault us) (sym p) (put_in fault (ins st book lines k x₀ y u)))

      pub completed_too_deep : {last : ℕ} → r.to ≡ length w + 1 → r.fault ≡ a.fault → o ≡ Some last → nesting ≤ depth + 1 → Completed tb indicator w w first depth a m r
      completed_too_deep {last} to fault n deep =
          record {
            below = below_same first w;
            up = λ s. omega (arith, to);
            small = λ s. omega (arith, to);
            code = code;
            at = at;
            kept = λ n. absurd (n f₀);
            filled = λ z f l s.
                inserted fault n
                (λ st book lines k p y u.
                record { fits = λ x. absurd (omega (arith, to)); over = λ x. inr (omega (arith, at_length k last p y), omega arith) }) l;
          }

      pub completed_put_in : {w' : List ℕ} {last end : ℕ} → PutIn tb w w' first a.to last end → r.to ≡ end → r.fault ≡ a.fault → o ≡ Some last
          → depth + 1 < nesting → Completed tb indicator w w' first depth a m r
      completed_put_in {w'} {last} put to fault n shallow =
          let P : PutIn tb w w' first a.to last r.to = subst (λ e. PutIn tb w w' first a.to last e) (sym to) put in
          record {
            below = record { long = P.kept.long; is = outside_below {n = first} (omega arith) P.kept };
            up = P.up;
            small = λ s. P.small;
            code = code;
            at = at;
            kept = λ n. absurd (n f₀);
            filled = λ z f l s.
                inserted fault n
                (λ st book lines k p y u.
                record { fits = λ x. (P.put st.earlier book lines k p y u x, inr (omega arith)); over = λ x. inl (P.over st.earlier book lines k p y u x) }) l;
          }
