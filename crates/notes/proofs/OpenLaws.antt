-- Whether a paragraph is open: its number is looked for among those of the open ones, the innermost first.
use mathlib.Core.Path.{◌≡◌, refl, sym, ap, ◌∙◌, subst}
use mathlib.Core.Logic.{◌≢◌}
use mathlib.Core.Bool.{true, false, ◌||◌}
use mathlib.Core.List.{List, [], ◌∷◌}
use Prim.Native.Nat.{ℕ, ◌-◌, ◌<◌}
use native.Mathlib.Omega.{arith}
use lib.ListN.{length, get_or}
use borrow.Author.Tests.{eq-eqb, ne_eqb}
use Rattle.aut68.specs.Bytes.{Bytes}
use Rattle.aut68.specs.Paragraphs.{Opened, Place, current, is_open}
use Rattle.notes.specs.Note.{numbers, depth_cell, PlaceNoted}
use Rattle.notes.specs.NoteLaws.{Outer, outer_all, outer_none, outer_next, level_number}
use Rattle.notes.specs.Posts.{OfLevel, OpenTold}

-- n is an open paragraph if it is one of the i outer ones
pub record AmongOuter (w : List ℕ) (n i : ℕ) : Type 0 where
  pub is : (book : Bytes) (at : Place) → PlaceNoted book at w → (os : List Opened) × Outer book at w i os × (is_open n at.opened ≡ is_open n os)

pub among_all : (w : List ℕ) (n : ℕ) {i : ℕ} → i ≡ get_or w (depth_cell (length w)) 0 → AmongOuter w n i
among_all w n e = record { is = λ book at p. (at.opened, outer_all p e, refl) }

module _ {w : List ℕ} {n i : ℕ} (h : AmongOuter w n i) where
  pub among_none : i ≡ 0 → OpenTold w n false
  unfolding is_open
  among_none z = record { is = λ book at p. (let (os, o, e) = h.is book at p in sym (e ∙ ap (is_open n) (outer_none z o))) }

  module _ {j r : ℕ} (l : OfLevel numbers w j r) (same : j ≡ i) (p : 0 < i) where
    level : OfLevel numbers w i r
    level = subst (λ (k : ℕ). OfLevel numbers w k r) same l

    this_open : {book : Bytes} {at : Place} (os : List Opened) → Outer book at w i os → r ≡ n → is_open n os ≡ true
    unfolding is_open current
    this_open [] o e = absurd (omega (arith, o.count))
    this_open (x ∷ os) o e = ap (λ t. t || is_open n os) (eq-eqb n x.number (sym e ∙ level_number o level))

    pub among_this : r ≡ n → OpenTold w n true
    among_this e = record { is = λ book at q. (let (os, o, s) = h.is book at q in sym (s ∙ this_open os o e)) }

    others_open : {book : Bytes} {at : Place} (os : List Opened) → Outer book at w i os → r ≢ n → (rest : List Opened) × Outer book at w (i - 1) rest × (is_open n os ≡ is_open n rest)
    unfolding is_open current
    others_open [] o e = absurd (omega (arith, o.count))
    others_open (x ∷ os) o m = (os, outer_next o, ap (λ t. t || is_open n os) (ne_eqb n x.number (λ e. m (level_number o level ∙ sym e))))

    pub among_others : r ≢ n → AmongOuter w n (i - 1)
    among_others m =
        record { is = λ book at q. (let (os, o, s) = h.is book at q in let (rest, k, t) = others_open os o m in (rest, k, s ∙ t)) }
