-- The names that a scope binds, and the innermost binding of a word.
use mathlib.Core.Path.{◌≡◌, refl, sym, ap, ◌∙◌}
use mathlib.Core.Bool.{true, false}
use mathlib.Core.Option.{none, some}
use mathlib.Core.List.{List, [], ◌∷◌}
use Prim.Native.Nat.{ℕ, zero, suc, ◌-◌, ◌≤◌, ◌<◌}
use native.Mathlib.Omega.{arith}
use lib.ListN.{length, get_or, set}
use lib.Seq.{get_or-set_same, get_or-set_other}
use Rattle.aut68.specs.Lines.{part_of}
use Rattle.aut68.specs.Bytes.{Bytes, same_bytes}
use Rattle.aut68.specs.Source.{plain, inside}
use Rattle.aut68.specs.Procedure.Resolve.{is_plain, place_from}
use Rattle.aut68.specs.Sizes.{nesting}
use Rattle.cells.specs.declared.scope.Scope.{Scope}
use Rattle.cells.specs.Posts.{Nested, Bindable, Bound}
use Rattle.meanings.specs.Bindings.{names_from, bound_names, word_in}
use Rattle.meanings.specs.Posts.{BindingFound}

-- ---- bound names

-- binding n says nothing of those before it
names_below : (s : Bytes) (starts lens : List ℕ) (n x y i : ℕ) → i ≤ n → names_from s (set starts n x) (set lens n y) i ≡ names_from s starts lens i
unfolding names_from
names_below s starts lens n x y zero l = refl
names_below s starts lens n x y (suc i) l =
    let p = get_or-set_other starts n i x 0 (λ e. omega arith) in
    let q = get_or-set_other lens n i y 0 (λ e. omega arith) in
    let r = names_below s starts lens n x y i (omega arith) in
    λ j. part_of s (p j) (q j) ∷ r j

-- the names of a scope with one binding more
pub bound_names_lem : (s : Bytes) {scope inner : Scope} {start len : ℕ} → Bound scope start len inner → Bindable scope start len
    → length scope.starts ≡ nesting → length scope.lens ≡ nesting
    → bound_names s inner ≡ part_of s start len ∷ bound_names s scope
unfolding bound_names names_from
bound_names_lem s {scope} {inner} {start} {len} b f m n =
    let d = scope.bound in
    let e : inner.bound ≡ suc d = b.more f ∙ omega arith in
    let p = get_or-set_same scope.starts d start 0 (omega (arith, f.few)) in
    let q = get_or-set_same scope.lens d len 0 (omega (arith, f.few)) in
    let r = names_below s scope.starts scope.lens d start len d (omega arith) in
    (λ j. names_from s (b.starts_are f j) (b.lens_are f j) (e j))
    ∙ (λ j. part_of s (p j) (q j) ∷ r j)

-- and of one with no binding more
pub nested_names : (s : Bytes) {scope inner : Scope} → Nested scope inner → bound_names s inner ≡ bound_names s scope
unfolding bound_names
nested_names s h = λ j. names_from s (h.starts_are j) (h.lens_are j) (h.bound_is j)

pub no_names : (s : Bytes) (scope : Scope) → scope.bound ≡ 0 → bound_names s scope ≡ []
unfolding bound_names names_from
no_names s scope e = ap (names_from s scope.starts scope.lens) e

-- ---- the loop of binding

place_here : (k : ℕ) (w x : Bytes) (xs : List Bytes) → same_bytes w x ≡ true → place_from k (plain w) (x ∷ xs) ≡ some k
unfolding place_from is_plain
place_here k w x xs e = rw (e, place_from)

place_later : (k : ℕ) (w x : Bytes) (xs : List Bytes) → same_bytes w x ≡ false → place_from k (plain w) (x ∷ xs) ≡ place_from (suc k) (plain w) xs
unfolding place_from is_plain
place_later k w x xs e = rw (e, place_from)

-- the word is none of the bound names of the bindings from i on
pub record BoundSoFar (s : Bytes) (scope : Scope) (word : Bytes) (i : ℕ) : Type 0 where
  pub few : scope.bound ≤ nesting
  pub within : i ≤ scope.bound
  pub rest : 1 ≤ length word → place_from 0 (plain word) (bound_names s scope) ≡ place_from (scope.bound - i) (plain word) (names_from s scope.starts scope.lens i)

pub bound_start : {s : Bytes} {scope : Scope} {word : Bytes} → scope.bound ≤ nesting → BoundSoFar s scope word scope.bound
unfolding bound_names
bound_start {s} {scope} {word} l =
    let e : 0 ≡ scope.bound - scope.bound = omega arith in
    record { few = l; within = omega arith; rest = λ p. ap (λ k. place_from k (plain word) (names_from s scope.starts scope.lens scope.bound)) e }

-- binding i - 1 is n bytes from `first` on
module _ {s : Bytes} {scope : Scope} {word : Bytes} {i n first : ℕ} (h : BoundSoFar s scope word i) (l : 0 < i)
    (en : n ≡ get_or scope.lens (i - 1) 0) (ef : first ≡ get_or scope.starts (i - 1) 0) where
  entry : names_from s scope.starts scope.lens i ≡ part_of s first n ∷ names_from s scope.starts scope.lens (i - 1)
  unfolding names_from
  entry =
      let e : i ≡ suc (i - 1) = omega arith in
      ap (names_from s scope.starts scope.lens) e
      ∙ (λ j. part_of s (sym ef j) (sym en j) ∷ names_from s scope.starts scope.lens (i - 1))

  pub bound_more : (1 ≤ length word → same_bytes word (part_of s first n) ≡ false) → BoundSoFar s scope word (i - 1)
  bound_more e =
      let q : suc (scope.bound - i) ≡ scope.bound - (i - 1) = omega (arith, h.within) in
      record {
        few = h.few;
        within = omega (arith, h.within);
        rest = λ p.
            h.rest p
            ∙ ap (place_from (scope.bound - i) (plain word)) entry
            ∙ place_later (scope.bound - i) word (part_of s first n) _ (e p)
            ∙ ap (λ k. place_from k (plain word) (names_from s scope.starts scope.lens (i - 1))) q;
      }

  pub bound_found : {r : ℕ} → r ≡ scope.bound - i → (1 ≤ length word → same_bytes word (part_of s first n) ≡ true) → BindingFound s scope (plain word) r
  unfolding word_in
  bound_found {r} er e =
      record {
        within = omega (arith, h.few);
        bound = λ d p q.
            h.rest p
            ∙ ap (place_from (scope.bound - i) (plain word)) entry
            ∙ place_here (scope.bound - i) word (part_of s first n) _ (e p)
            ∙ ap some (sym er);
        free = λ d p q. absurd (omega (arith, h.within, h.few));
      }

pub bound_nowhere : {s : Bytes} {scope : Scope} {word : Bytes} {i : ℕ} → BoundSoFar s scope word i → i ≤ 0 → BindingFound s scope (plain word) nesting
unfolding names_from place_from word_in
bound_nowhere {s} {scope} {word} {i} h l =
    let e : i ≡ 0 = omega arith in
    record {
      within = omega arith;
      bound = λ d p q. absurd (omega arith);
      free = λ d p q. h.rest p ∙ ap (λ k. place_from (scope.bound - i) (plain word) (names_from s scope.starts scope.lens k)) e;
    }

-- a name behind a point is never bound
place_inside : (k : ℕ) (p a : Bytes) (xs : List Bytes) → place_from k (inside p a) xs ≡ none
unfolding place_from is_plain
place_inside k p a [] = refl
place_inside k p a (x ∷ xs) = place_inside (suc k) p a xs

pub bound_inside : {s : Bytes} {scope : Scope} {p a : Bytes} → BindingFound s scope (inside p a) nesting
bound_inside {s} {scope} {p} {a} = record { within = omega arith; bound = λ d l q. absurd (omega arith); free = λ d l q. place_inside 0 p a (bound_names s scope) }
