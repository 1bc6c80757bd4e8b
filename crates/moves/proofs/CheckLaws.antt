-- The check of a paragraph line by what is found of it.
use mathlib.Core.Path.{◌≡◌, refl, ap}
use mathlib.Core.Bool.{true, false}
use mathlib.Core.List.{List, [], ◌∷◌}
use Prim.Native.Nat.{ℕ}
use native.Mathlib.Omega.{arith}
use lib.Dec.{eqb, ltb}
use lib.ListN.{length}
use borrow.Author.Tests.{eqb-true, ne_eqb}
use Rattle.aut68.specs.Language.{aut68}
use Rattle.aut68.specs.Sizes.{open_limit}
use Rattle.aut68.specs.Bytes.{Bytes}
use Rattle.aut68.specs.Paragraphs.{Opened, State, opening, closed_to}
use Rattle.aut68.specs.Procedure.Answer.{Answer, done, stop, aside, ensure, malformed, duplicate, out_of_space, unbalanced}
use Rattle.aut68.specs.Procedure.Parse.{starts, spaces, a_sign_line, signed}
use Rattle.aut68.specs.Procedure.Lookup.{unused}
use Rattle.aut68.specs.Procedure.CheckPiece.{check_opening, closing, check_closing}
use Rattle.lookup.specs.Answers.{done_then, stop_then}
use Rattle.moves.specs.Posts.{innermost_is}

-- no line has both signs
pub minus_not_plus : (bytes : Bytes) → signed 45 bytes ≡ true → signed 43 bytes ≡ false
unfolding signed starts
minus_not_plus bytes e = go (spaces bytes) e
  where
    go : (s : Bytes) → starts (eqb 45) s ≡ true → starts (eqb 43) s ≡ false
    go [] e = refl
    go (b ∷ s) e = ne_eqb 43 b (λ q. omega (arith, eqb-true 45 b e))

module _ (st : State) (bytes : Bytes) (c : ℕ) where
  -- ---- an opening

  pub opening_malformed : {rest : Bytes} → a_sign_line aut68 43 bytes ≡ stop malformed rest → check_opening aut68 st bytes c ≡ stop malformed c
  unfolding check_opening aside
  opening_malformed e = stop_then _ (ap (λ (m : Answer Bytes Bytes). aside m c) e)

  module _ {p rest : Bytes} (r : a_sign_line aut68 43 bytes ≡ done p rest) where
    pub opening_taken : unused p st ≡ false → check_opening aut68 st bytes c ≡ stop duplicate c
    unfolding check_opening aside ensure
    opening_taken u = done_then _ (ap (λ (m : Answer Bytes Bytes). aside m c) r) (stop_then _ (ap (λ t. ensure t duplicate c) u))

    module _ (u : unused p st ≡ true) where
      pub opening_deep : ltb (length st.place.opened) open_limit ≡ false → check_opening aut68 st bytes c ≡ stop out_of_space c
      unfolding check_opening aside ensure
      opening_deep d =
          done_then _ (ap (λ (m : Answer Bytes Bytes). aside m c) r)
          (done_then _ (ap (λ t. ensure t duplicate c) u) (stop_then _ (ap (λ t. ensure t out_of_space c) d)))

      pub opening_passes : ltb (length st.place.opened) open_limit ≡ true → check_opening aut68 st bytes c ≡ done (opening p st.place) c
      unfolding check_opening aside ensure
      opening_passes d =
          done_then _ (ap (λ (m : Answer Bytes Bytes). aside m c) r)
          (done_then _ (ap (λ t. ensure t duplicate c) u) (done_then _ (ap (λ t. ensure t out_of_space c) d) refl))

  -- ---- a closing

  pub closing_malformed : {rest : Bytes} → a_sign_line aut68 45 bytes ≡ stop malformed rest → check_closing aut68 st bytes c ≡ stop malformed c
  unfolding check_closing aside
  closing_malformed e = stop_then _ (ap (λ (m : Answer Bytes Bytes). aside m c) e)

  module _ {p rest : Bytes} (r : a_sign_line aut68 45 bytes ≡ done p rest) where
    pub closing_another : innermost_is p st.place.opened ≡ false → check_closing aut68 st bytes c ≡ stop unbalanced c
    unfolding check_closing closing aside innermost_is
    closing_another e = done_then _ (ap (λ (m : Answer Bytes Bytes). aside m c) r) (not_this_lem st.place.opened refl e)
      where
        not_this_lem : (opened : List Opened) → st.place.opened ≡ opened → innermost_is p opened ≡ false → closing p st.place c ≡ stop unbalanced c
        not_this_lem [] i e = rw (i, closing)
        not_this_lem (x ∷ os) i e = rw (i, e, closing)

    pub closing_passes : {x : Opened} {os : List Opened} → st.place.opened ≡ x ∷ os → innermost_is p (x ∷ os) ≡ true → check_closing aut68 st bytes c ≡ done (closed_to st.place os) c
    unfolding check_closing closing aside innermost_is
    closing_passes i e = done_then _ (ap (λ (m : Answer Bytes Bytes). aside m c) r) (rw (i, e, closing))
