-- What stands for a used name, and what it means.
use mathlib.Core.Path.{◌≡◌, refl, sym, ap, ◌∙◌, subst}
use mathlib.Core.Logic.{◌≢◌}
use mathlib.Core.Bool.{Bool, true, false}
use mathlib.Core.Option.{Option, none, some}
use mathlib.Core.List.{List, [], ◌∷◌}
use Prim.Native.Nat.{ℕ, ◌+◌, ◌*◌, ◌≤◌, ◌<◌}
use native.Mathlib.Omega.{arith}
use lib.ListN.{length}
use Rattle.aut68.specs.Bytes.{Bytes}
use Rattle.aut68.specs.Lines.{Line, Lines, Kind, variable, primitive, abbreviation, line_of, kind_number, row_cell}
use Rattle.aut68.specs.Paragraphs.{State}
use Rattle.aut68.specs.Procedure.Lookup.{number_of}
use Rattle.aut68.specs.Procedure.Answer.{Refusal, code_of}
use Rattle.aut68.specs.Procedure.Resolve.{refused, member, answered, look_up, sought, wanted, context_at}
use Rattle.aut68.specs.Procedure.Resolve as Resolve
use Rattle.aut68.specs.Sizes.{cell_factor, line_limit, nesting, at_context, at_kind}
use Rattle.lookup.specs.LineNumbers.{line_line_of}
use Rattle.lookup.specs.Identifiers.{number_sound}
use Rattle.names.specs.Known.{Known}
use Rattle.names.proofs.FindLaws.{line_at}
use Rattle.symbols.specs.Symbols.{used_by}
use Rattle.kinds.specs.Kinds.{KindsTable}
use Rattle.notes.specs.Note.{StateNoted}
use Rattle.paragraphs.specs.Posts.{UsedFound}
use Rattle.paragraphs.proofs.NumberLaws.{number_some, number_none, used_number}
use Rattle.meanings.specs.Bindings.{word_in}
use Rattle.meanings.specs.Posts.{InContext}
use Rattle.meanings.specs.Meanings.{told, SoughtFound, cell_of, Meant, means, means_nothing, MeaningFound}
use Rattle.meanings.specs.declared.meanings.Sought.{Sought}

-- ---- what stands for a name

module _ (st : State) (context : List ℕ) (v : ℕ) where
  kind_variable : (line_of st.earlier v).kind ≡ variable → member v context ≡ true → look_up st context (some v) ≡ told (Sought.Variable v)
  unfolding look_up told
  kind_variable e m = rw (e, m, look_up)

  kind_outside : (line_of st.earlier v).kind ≡ variable → member v context ≡ false → look_up st context (some v) ≡ told (Sought.NotInForce v)
  unfolding look_up told
  kind_outside e m = rw (e, m, look_up)

  kind_constant : (k : Kind) → (line_of st.earlier v).kind ≡ k → kind_number k ≢ 0 → look_up st context (some v) ≡ told (Sought.Constant v)
  unfolding look_up told kind_number
  kind_constant variable e n = absurd (n refl)
  kind_constant primitive e n = rw (e, look_up)
  kind_constant (abbreviation m) e n = rw (e, look_up)

is_variable_lem : (k : Kind) → kind_number k ≡ 0 → k ≡ variable
unfolding kind_number
is_variable_lem variable e = refl
is_variable_lem primitive e = absurd (omega arith)
is_variable_lem (abbreviation m) e = absurd (omega arith)

variable_line : {ls : Lines} {book tb : List ℕ} {lines v kind : ℕ} → Known ls book tb lines → v ≢ 0 → v ≤ lines → kind ≡ row_cell tb v at_kind → kind ≡ 0
    → (line_of ls v).kind ≡ variable
variable_line {v = v} k n l ek z =
    let (x, h) = line_at k v (omega arith) l in
    ap (λ (y : Line). y.kind) (line_line_of h) ∙ is_variable_lem x.kind (sym (k.rows.row h).kind_is ∙ sym ek ∙ z)

-- the line that was found is looked at
line_is_lem : {ks book tb : List ℕ} {lines : ℕ} {w : List ℕ} {title word : Bytes} {v : ℕ} (st : State) (context : List ℕ) → UsedFound ks book tb lines w title word v → v ≢ 0
    → KindsTable ks → Known st.earlier book tb lines → StateNoted st book tb lines w → 1 ≤ length word → look_up st context (number_of st (used_by title word)) ≡ look_up st context (some v)
line_is_lem {title = title} {word} st context hv n t k g p = ap (look_up st context) (number_some (number_of st (used_by title word)) (hv.is st t k g p) n)

module _ {ks book tb : List ℕ} {lines indicator : ℕ} {w : List ℕ} {title word : Bytes} {v : ℕ} (hv : UsedFound ks book tb lines w title word v) where
  pub sought_nothing : v ≡ 0 → SoughtFound ks book tb lines indicator w title word Sought.NoLine
  unfolding look_up told
  sought_nothing e =
      record {
        small = omega arith;
        is = λ st t k g o i p. ap (look_up st (context_at st.earlier indicator)) (number_none (number_of st (used_by title word)) (hv.is st t k g p) e (used_number st _));
      }

  pub sought_too_many : line_limit ≤ v → SoughtFound ks book tb lines indicator w title word Sought.NoLine
  sought_too_many m = record { small = omega arith; is = λ st t k g o i p. absurd (omega (arith, k.few, hv.within)) }

  module _ (n : v ≢ 0) (m : v < line_limit) {kind : ℕ} (ek : kind ≡ row_cell tb v at_kind) where
    pub sought_constant : kind ≢ 0 → SoughtFound ks book tb lines indicator w title word (Sought.Constant v)
    sought_constant z =
        record {
          small = m;
          is = λ st t k g o i p.
              let (x, h) = line_at k v (omega arith) hv.within in
              let e : kind ≡ kind_number x.kind = ek ∙ (k.rows.row h).kind_is in
              line_is_lem st (context_at st.earlier indicator) hv n t k g p
              ∙ kind_constant st (context_at st.earlier indicator) v x.kind (ap (λ (y : Line). y.kind) (line_line_of h)) (λ y. z (e ∙ y));
        }

    module _ (z : kind ≡ 0) {r : Bool} (c : InContext tb w indicator v r) where
      pub sought_variable : r ≡ true → SoughtFound ks book tb lines indicator w title word (Sought.Variable v)
      sought_variable f =
          record {
            small = m;
            is = λ st t k g o i p.
                line_is_lem st (context_at st.earlier indicator) hv n t k g p
                ∙ kind_variable st (context_at st.earlier indicator) v (variable_line k n hv.within ek z) (sym (c.is st.earlier book lines k o i (omega arith)) ∙ f);
          }

      pub sought_outside : r ≡ false → SoughtFound ks book tb lines indicator w title word (Sought.NotInForce v)
      sought_outside f =
          record {
            small = m;
            is = λ st t k g o i p.
                line_is_lem st (context_at st.earlier indicator) hv n t k g p
                ∙ kind_outside st (context_at st.earlier indicator) v (variable_line k n hv.within ek z) (sym (c.is st.earlier book lines k o i (omega arith)) ∙ f);
          }

-- ---- what it means

used_word : (title word : Bytes) → 1 ≤ length word → 1 ≤ length (word_in (used_by title word))
unfolding used_by word_in
used_word [] word p = p
used_word (c ∷ cs) word p = p

-- the number of the line that is told of
number_told : Resolve.Sought → Option ℕ
number_told (Resolve.means (Resolve.a_bound i)) = none
number_told (Resolve.means (Resolve.a_variable v)) = some v
number_told (Resolve.means (Resolve.a_constant v)) = some v
number_told Resolve.no_line = none
number_told (Resolve.not_in_force v) = some v

number_sought : (st : State) (context : List ℕ) (o : Option ℕ) → number_told (look_up st context o) ≡ o
unfolding number_told look_up
number_sought st context none = refl
number_sought st context (some v) = split (line_of st.earlier v).kind (member v context)
  where
    split : (k : Kind) (t : Bool)
        → number_told (elim k as (λ _. Resolve.Sought) [
          | variable ↦ elim t as (λ _. Resolve.Sought) [ true ↦ Resolve.means (Resolve.a_variable v) | false ↦ Resolve.not_in_force v ]
          | primitive ↦ Resolve.means (Resolve.a_constant v)
          | abbreviation m ↦ Resolve.means (Resolve.a_constant v)
        ])
        ≡ some v
    split variable true = refl
    split variable false = refl
    split primitive t = refl
    split (abbreviation m) t = refl

-- the line of a constant that is told of has the name
line_of_lem : (st : State) (context : List ℕ) (o : Option ℕ) {v : ℕ} → look_up st context o ≡ told (Sought.Constant v) → o ≡ some v
unfolding number_told told
line_of_lem st context o {v} e = sym (number_sought st context o) ∙ ap number_told e

module _ {b : ℕ} {ks book tb : List ℕ} {lines indicator : ℕ} {w : List ℕ} {title word : Bytes} where
  pub means_bound : b < nesting → MeaningFound b ks book tb lines indicator w title word 0 (cell_factor * b + 2) 0
  unfolding cell_of wanted sought answered
  means_bound l =
      record {
        is = λ st t k g o i s scope hb d p. rw (hb.bound d (used_word title word p) l, sought) (means refl refl refl);
      }

  module _ (l : nesting ≤ b) {r : Sought} (h : SoughtFound ks book tb lines indicator w title word r) where
    means_sought : {fault cell count : ℕ}
        → ((st : State) → Known st.earlier book tb lines → look_up st (context_at st.earlier indicator) (number_of st (used_by title word)) ≡ told r
        → Meant st (context_at st.earlier indicator) fault cell count (answered (told r) tt))
        → MeaningFound b ks book tb lines indicator w title word fault cell count
    unfolding sought
    means_sought {fault} {cell} {count} f =
        record {
          is = λ st t k g o i s scope hb d p.
              let e = h.is st t k g o i p in
              rw (hb.free d (used_word title word p) l, sought) (subst (λ x. Meant st (context_at st.earlier indicator) fault cell count (answered x tt)) (sym e) (f st k e));
        }

    pub means_nothing_lem : {x : Refusal} {fault : ℕ} → fault ≡ code_of x → answered (told r) tt ≡ refused x → MeaningFound b ks book tb lines indicator w title word fault 0 0
    means_nothing_lem {fault = fault} c e = means_sought (λ st k q. subst (λ m. Meant st (context_at st.earlier indicator) fault 0 0 m) (sym e) (means_nothing c))

  module _ (l : nesting ≤ b) {v : ℕ} where
    pub means_variable : SoughtFound ks book tb lines indicator w title word (Sought.Variable v) → MeaningFound b ks book tb lines indicator w title word 0 (cell_factor * v + 1) 0
    unfolding cell_of wanted told answered
    means_variable h = means_sought l h λ st y q. means refl refl refl

    pub means_constant : SoughtFound ks book tb lines indicator w title word (Sought.Constant v) → {count : ℕ} → count ≡ row_cell tb v at_context
        → MeaningFound b ks book tb lines indicator w title word 0 (cell_factor * v + 3) count
    unfolding cell_of wanted told answered
    means_constant h ec =
        means_sought l h λ st y q.
        let (x, i, u) = number_sound (line_of_lem st (context_at st.earlier indicator) (number_of st (used_by title word)) q) in
        means refl refl (ec ∙ (y.rows.row i).context_is ∙ ap (λ (z : Line). length z.context) (sym (line_line_of i)))
