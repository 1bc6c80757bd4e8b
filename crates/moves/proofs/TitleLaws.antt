-- The open paragraphs by value: where their names stand.
use mathlib.Core.Path.{◌≡◌, refl, sym, ap, ◌∙◌}
use mathlib.Core.Logic.{◌≢◌}
use mathlib.Core.Bool.{Bool, false, false≢true}
use mathlib.Core.List.{List, [], ◌∷◌}
use Prim.Native.Nat.{ℕ, suc, ◌+◌, ◌-◌, ◌≤◌, ◌<◌}
use native.Mathlib.Omega.{arith}
use lib.ListN.{length, get_or, set, length-set}
use lib.Seq.{get_or-set_same, get_or-set_other}
use Rattle.aut68.specs.Sizes.{open_limit}
use Rattle.aut68.specs.Bytes.{Bytes, same_bytes}
use Rattle.aut68.specs.Lines.{part_of}
use Rattle.aut68.specs.Paragraphs.{Opened}
use Rattle.moves.specs.declared.Title.{Title}
use Rattle.moves.specs.declared.Open.{Open}
use Rattle.moves.specs.Posts.{nowhere, Titled, no_title, next_title, OpenNamed, OneOpened, innermost_is, InnermostTold}

-- ---- one more

-- what is set behind the names leaves them as they were
titles_kept : {book : Bytes} {titles : List Title} {os : List Opened} (d : ℕ) (title : Title) → length os ≤ d → Titled book titles os → Titled book (set titles d title) os
titles_kept d title l no_title = no_title
titles_kept {book} {titles} d title l (next_title {os = os} e r) =
    next_title
    (ap (λ (t : Title). part_of book t.start t.len) (get_or-set_other titles d (length os) title nowhere (λ z. omega arith)) ∙ e)
    (titles_kept d title (omega arith) r)

pub one_opened : (o : Open) (start len : ℕ) → o.depth < open_limit
    → OneOpened o start len (record { titles = set o.titles o.depth (record { start = start; len = len }); depth = o.depth + 1 })
one_opened o start len l = record {
  named = λ {book} {os} x e h.
      record {
        long = length-set o.titles o.depth (record { start = start; len = len }) ∙ h.long;
        depth_is = omega (arith, h.depth_is);
        titled = next_title
            (ap (λ (k : ℕ). part_of book (get_or (set o.titles o.depth (record { start = start; len = len })) k nowhere).start (get_or (set o.titles o.depth (record { start = start; len = len })) k nowhere).len) (sym h.depth_is)
            ∙ ap (λ (t : Title). part_of book t.start t.len) (get_or-set_same o.titles o.depth (record { start = start; len = len }) nowhere (omega (arith, h.long)))
            ∙ e)
            (titles_kept o.depth (record { start = start; len = len }) (omega (arith, h.depth_is)) h.titled);
      };
}

-- ---- the innermost

module _ {book : Bytes} {o : Open} {word : Bytes} where
  pub innermost_none : o.depth ≡ 0 → InnermostTold book o word false
  unfolding innermost_is
  innermost_none z = record { some = λ e. absurd (false≢true e); is = λ os h l p. none os h }
    where
      none : (os : List Opened) → OpenNamed book o os → false ≡ innermost_is word os
      none [] h = refl
      none (x ∷ os) h = absurd (omega (arith, h.depth_is))

  pub innermost_deep : open_limit < o.depth → InnermostTold book o word false
  innermost_deep d = record { some = λ e. absurd (false≢true e); is = λ os h l p. absurd (omega (arith, h.depth_is)) }

  pub innermost_told : {r : Bool} → o.depth ≢ 0 → (1 ≤ length word → r ≡ same_bytes word (part_of book (get_or o.titles (o.depth - 1) nowhere).start (get_or o.titles (o.depth - 1) nowhere).len))
      → InnermostTold book o word r
  unfolding innermost_is
  innermost_told {r} n e = record { some = λ t. omega arith; is = λ os h l p. told os h (e p) }
    where
      title : {x : Opened} {os : List Opened} → o.depth ≡ suc (length os) → Titled book o.titles (x ∷ os)
          → part_of book (get_or o.titles (o.depth - 1) nowhere).start (get_or o.titles (o.depth - 1) nowhere).len ≡ x.name
      title {os = os} d (next_title i r) =
          let k : o.depth - 1 ≡ length os = omega arith in ap (λ (j : ℕ). part_of book (get_or o.titles j nowhere).start (get_or o.titles j nowhere).len) k ∙ i

      told : (os : List Opened) → OpenNamed book o os → r ≡ same_bytes word (part_of book (get_or o.titles (o.depth - 1) nowhere).start (get_or o.titles (o.depth - 1) nowhere).len) → r ≡ innermost_is word os
      told [] h i = absurd (n h.depth_is)
      told (x ∷ os) h i = i ∙ ap (same_bytes word) (title h.depth_is h.titled)

-- one less
pub named_outer : {book : Bytes} {o : Open} {x : Opened} {os : List Opened} → OpenNamed book o (x ∷ os)
    → OpenNamed book (record { titles = o.titles; depth = o.depth - 1 }) os
named_outer {book} {o} h = record { long = h.long; depth_is = omega (arith, h.depth_is); titled = outer h.titled }
  where
    outer : {x : Opened} {os : List Opened} → Titled book o.titles (x ∷ os) → Titled book o.titles os
    outer (next_title e r) = r
