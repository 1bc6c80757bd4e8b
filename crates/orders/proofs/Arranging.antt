-- An arrangement of a derived book, paragraph lines keeping their order: each piece has a derivation there, and means what it
-- meant in the old book, with the lines renumbered.
use Rattle.std.specs.Prelude.{◌≡◌, ◌⊎◌, ℕ, suc, length}
use Rattle.std.proofs.Math.Path.{refl, sym, subst}
use Rattle.std.proofs.Common.{ap, ◌∙◌, inl, inr}
use mathlib.Core.List.{List, [], ◌∷◌, ◌++◌, map, map-append, append-nil}
use Rattle.std.proofs.Math.Seq.{append_snoc}
use Rattle.aut68.specs.Language.{Language}
use Rattle.aut68.specs.Bytes.{Bytes}
use Rattle.aut68.specs.Source.{Used}
use Rattle.aut68.specs.Lines.{Line, Lines, line_of}
use Rattle.aut68.specs.Paragraphs.{Paragraph, Place, State, outside, start, with_line, with_place, current, opening}
use Rattle.aut68.specs.Renumbering.{renumber_line}
use Rattle.aut68.specs.Rules.Names.{IsLine, Member, here, LineIn, ParagraphIn, Denotes, Unused}
use Rattle.aut68.specs.Rules.Derivation.{Derivation, Moves, opens, closes, Piece, line, opened, closed, Derived, piece}
use Rattle.aut68.specs.Rules.Derivation as E
use Rattle.aut68.specs.Rules.Orders.{Names}
use Rattle.aut68.specs.Rules.Arrangements.{Stands, Signs, place_in, seen, Arranges, no_more, a_line, a_sign}
use Rattle.lookup.specs.Lists.{Each, no_member, member_left, member_right, member_snoc}
use Rattle.lookup.specs.LineNumbers.{line_line_of, line_seam, line_append, line_map, line_unmap}
use Rattle.lookup.specs.Identifiers.{Distinct}
use Rattle.lookup.specs.DerivedBooks.{distinct_names}
use Rattle.lookup.specs.Mentions.{LineMentions, mentions_named, named_mentions}
use Rattle.orders.specs.RenumberedSteps.{Renumbered}
use Rattle.orders.specs.RenumberedNames.{KeptName, derivation_renumbered}
use Rattle.orders.specs.DerivedMentions.{line_named}
use Rattle.orders.proofs.FreshLines.{line_fresh}
use Rattle.orders.specs.Titles.{denotes_renumbered}
use Rattle.orders.proofs.Placing.{place_at, place_from_lem, place_left, place_injective}
use Rattle.orders.specs.Moving.{OpensNew, Moving, next, moving_paragraphs, moves_unique, derived_moving}

-- what mentions only lines of S mentions only lines of any larger T
module _ (S T : ℕ → Type 0) (f : (v : ℕ) → S v → T v) where
  each_wider : (vs : List ℕ) → Each S vs → Each T vs
  each_wider [] h = tt
  each_wider (v ∷ vs) h = (f v h.0, each_wider vs h.1)

  line_wider : (l : Line) → LineMentions S l → LineMentions T l
  line_wider l h =
      let (i, k, c) = named_mentions T l (λ v m. f v (mentions_named S l h.indicator_in h.kind_in h.category_in m)) in
      record { indicator_in = i; context_in = each_wider l.context h.context_in; kind_in = k; category_in = c }

module _ (language : Language) where
  pub stands_is_line : {old : List Bytes} {all : State} {b : Bytes} {v : ℕ} {l : Line} → Stands language old all b v l → IsLine all.earlier v l
  stands_is_line {l = l} s = rw (s.whole, s.number) (line_seam s.before.earlier l s.after)

  pub stands_before : {old : List Bytes} {all : State} {b : Bytes} {v u : ℕ} {l k : Line} (s : Stands language old all b v l) → IsLine s.before.earlier u k → IsLine all.earlier u k
  stands_before {l = l} s i = rw s.whole (line_append (l ∷ s.after) i)

  -- the old numbers of the lines left, in their new order
  unfoldable pub rest_of : {old : List Bytes} {all : State} {order : List ℕ} {at : Place} {signs new : List Bytes} → Arranges language old all order at signs new → List ℕ
  rest_of no_more = []
  rest_of (a_line {v = v} s n p f r) = v ∷ rest_of r
  rest_of (a_sign m r) = rest_of r

  module _ {old : List Bytes} {all : State} (D : Derived language start old all) (whole : List ℕ) where
    distinct : Distinct all
    distinct = distinct_names D

    -- the new number of an old line; the old line
    abbrev ρ : ℕ → ℕ
    ρ v = place_in v whole

    abbrev old_line : ℕ → Line
    old_line v = line_of all.earlier v

    -- The lines `order` of the old book have passed; their new meanings are recorded in st.
    pub record Built (order : List ℕ) (st : State) : Type 0 where
      pub earlier_is : st.earlier ≡ map (renumber_line ρ) (map old_line order)
      pub mentions : (x : ℕ) → Member x order → LineMentions (λ v. Member v order) (old_line x)
      pub known : (x : ℕ) → Member x order → IsLine all.earlier x (old_line x)

    module _ {order : List ℕ} (rest : List ℕ) (split : whole ≡ order ++ rest) {st : State} (B : Built order st) where
      place_new : (x : ℕ) → Member x order → place_in x order ≡ ρ x
      place_new x m = sym (ap (place_in x) split ∙ place_left x order rest m)

      -- where an old line stands
      pub placed : (x : ℕ) → Member x order → IsLine st.earlier (ρ x) (renumber_line ρ (old_line x))
      placed x m = subst (λ z. IsLine z (ρ x) (renumber_line ρ (old_line x))) (sym B.earlier_is)
          (subst (λ z. IsLine (map (renumber_line ρ) (map old_line order)) z (renumber_line ρ (old_line x))) (place_new x m) (line_map (renumber_line ρ) (place_at old_line x order m)))

      -- where a new line comes from
      pub origin : {v : ℕ} {k : Line} → IsLine st.earlier v k → (x : ℕ) × Member x order × (k ≡ renumber_line ρ (old_line x))
      origin {v} {k} i = at (line_unmap (renumber_line ρ) (map old_line order) (subst (λ z. IsLine z v k) B.earlier_is i))
        where
          at : (j : Line) × IsLine (map old_line order) v j × (k ≡ renumber_line ρ j) → (x : ℕ) × Member x order × (k ≡ renumber_line ρ (old_line x))
          at (j, h, e) = let (x, m, f) = place_from_lem old_line order h in (x, m, e ∙ ap (renumber_line ρ) f)

      module _ {b : Bytes} {v : ℕ} {l : Line} (s : Stands language old all b v l)
          (names : (u : Used) (x : ℕ) → Names s.derivation.source u → Denotes s.before u x → Member x order × Denotes (seen all order st.place) u (place_in x order)) where
        line_is_lem : {x : ℕ} {k : Line} → IsLine s.before.earlier x k → old_line x ≡ k
        line_is_lem i = line_line_of (stands_before s i)

        mentions_is : {x : ℕ} {k : Line} → Member x order → IsLine s.before.earlier x k → LineMentions (λ v. Member v order) k
        mentions_is {x} m i = subst (LineMentions (λ v. Member v order)) (line_is_lem i) (B.mentions x m)

        renumbered : Renumbered s.before.earlier (λ x. Member x order) ρ st.earlier
        renumbered = record {
          closed = λ {v = x} {l = k} m i. mentions_is m i;
          placed = λ {v = x} {l = k} m i. subst (λ z. IsLine st.earlier (ρ x) (renumber_line ρ z)) (line_is_lem i) (placed x m);
          injective = λ x y m n e. place_injective x y order m n (place_new x m ∙ e ∙ sym (place_new y n));
        }

        -- what it mentions has passed
        passed : LineMentions (λ x. Member x order) l
        passed = line_named s.derivation (λ x. Member x order) (λ u x n d. (names u x n d).0) (λ x k m i. (mentions_is m i).indicator_in)

        -- its names mean what they meant
        kept : (u : Used) → Names s.derivation.source u → KeptName s.before (λ x. Member x order) ρ st u
        kept u n x d m =
            let f : Denotes (record { earlier = map (renumber_line ρ) (map old_line order); place = st.place }) u (place_in x order) = denotes_renumbered ρ (map old_line order) (names u x n d).1 in
            subst (λ z. Denotes st u z) (place_new x m) (subst (λ z. Denotes (record { earlier = z; place = st.place }) u (place_in x order)) (sym B.earlier_is) f)

        -- so it has a derivation
        module _ (fresh : ¬ Member v order) (stays : l.paragraph ≡ current st.place.opened)
            (within_all : (x : Paragraph) → Member x st.place.paragraphs → Member x all.place.paragraphs) where
          unused_here : Unused st l.identifier
          unused_here = record {
            no_line = λ {v = u} h. line_fresh st ρ order distinct (λ v k i. origin i) B.known (stands_is_line s) fresh refl (sym stays) h;
            no_paragraph = λ {n} h. distinct.kinds v l _ (stands_is_line s) (within_all _ h.is_paragraph) refl stays;
          }

          next_derivation : Derivation language st b (renumber_line ρ l)
          next_derivation = derivation_renumbered s.before st renumbered s.derivation passed kept unused_here stays

          built_next : Built (order ++ (v ∷ [])) (with_line st (renumber_line ρ l))
          built_next = record {
            earlier_is = earlier_next;
            mentions = λ x m. line_wider (λ y. Member y order) (λ y. Member y (order ++ (v ∷ []))) (λ y n. member_left (v ∷ []) n) (old_line x) (at x (member_snoc order m));
            known = λ x m. known_at x (member_snoc order m);
          }
            where
              is : old_line v ≡ l
              is = line_line_of (stands_is_line s)

              earlier_next : st.earlier ++ (renumber_line ρ l ∷ []) ≡ map (renumber_line ρ) (map old_line (order ++ (v ∷ [])))
              earlier_next =
                  ap (λ z. z ++ (renumber_line ρ l ∷ [])) B.earlier_is
                  ∙ ap (λ z. map (renumber_line ρ) (map old_line order) ++ (renumber_line ρ z ∷ [])) (sym is)
                  ∙ sym (map-append (renumber_line ρ) (map old_line order) (old_line v ∷ []))
                  ∙ ap (map (renumber_line ρ)) (sym (map-append old_line order (v ∷ [])))

              at : (x : ℕ) → Member x order ⊎ (x ≡ v) → LineMentions (λ y. Member y order) (old_line x)
              at x (inl m) = B.mentions x m
              at x (inr e) = subst (LineMentions (λ y. Member y order)) (sym (ap old_line e ∙ is)) passed

              known_at : (x : ℕ) → Member x order ⊎ (x ≡ v) → IsLine all.earlier x (old_line x)
              known_at x (inl m) = B.known x m
              known_at x (inr e) = subst (λ z. IsLine all.earlier z (old_line z)) (sym e) (subst (λ z. IsLine all.earlier v z) (sym is) (stands_is_line s))

      -- ---- a paragraph line

      built_moved : (at : Place) → Built order (with_place st at)
      built_moved at = record { earlier_is = B.earlier_is; mentions = B.mentions; known = B.known }

      opening_unused : (p : Bytes) → ((n : ℕ) → ¬ ParagraphIn st.place p (current st.place.opened) n)
          → Member (record { name = p; number = suc (length st.place.paragraphs); around = current st.place.opened }) all.place.paragraphs → Unused st p
      opening_unused p n m = record {
        no_line = λ {v} h. at h;
        no_paragraph = λ {n = k} h. n k h;
      }
        where
          at : {v : ℕ} → ¬ LineIn st.earlier p (current st.place.opened) v
          at h =
              let (x, i, g) = origin h.is_line in
              distinct.kinds x (old_line x) _ (B.known x i) m (ap (λ z. z.identifier) (sym g) ∙ h.identifier_is) (ap (λ z. z.paragraph) (sym g) ∙ h.paragraph_is)

      -- what it makes of the state
      moved_piece : {b : Bytes} {n : Place} → Moves language st.place b n → OpensNew language st.place b
          → ((x : Paragraph) → Member x n.paragraphs → Member x all.place.paragraphs) → Piece language st b (with_place st n)
      unfolding opening
      moved_piece (opens {p} f) u w = opened f (opening_unused p (λ k h. u p f k h) (w _ (member_right st.place.paragraphs here)))
      moved_piece (closes f g) u w = closed f g

    -- ---- the whole arrangement

    -- It is derived from st, reaches the same place, and has the old lines in their new order, renumbered.
    abbrev pub ArrangedFrom : State → List Bytes → Type 0
    ArrangedFrom st new = (final : State) × Derived language st new final × (final.place ≡ all.place) × Built whole final

    arranged : (ls : Lines) {at : Place} {last : Place} {order : List ℕ} {signs new : List Bytes} (A : Arranges language old all order at signs new) → whole ≡ order ++ rest_of A
        → Built order (record { earlier = ls; place = at }) → Moving language at signs last → last ≡ all.place
        → ArrangedFrom (record { earlier = ls; place = at }) new
    unfolding rest_of
    arranged ls {at} {order = order} no_more e B Moving.no_more z =
        (record { earlier = ls; place = at }, E.no_more, z, subst (λ x. Built x (record { earlier = ls; place = at })) (sym (e ∙ append-nil order)) B)
    arranged ls {at} {order = order} (a_line {v = v} {l = l} s n p f r) e B M z =
        let w : (x : Paragraph) → Member x at.paragraphs → Member x all.place.paragraphs = λ x m. subst (λ (y : Place). Member x y.paragraphs) z (moving_paragraphs language M m) in
        let (final, d, q, g) = arranged (ls ++ (renumber_line ρ l ∷ [])) r (e ∙ sym (append_snoc order v (rest_of r))) (built_next (v ∷ rest_of r) e B s f n p w) M z in
        (final, piece (line (next_derivation (v ∷ rest_of r) e B s f n p w)) d, q, g)
    arranged ls {last = last} (a_sign {next = at} {signs = ss} m r) e B (next k u M) z =
        let N : Moving language at ss last = subst (λ y. Moving language y ss last) (moves_unique language k m) M in
        let (final, d, q, g) = arranged ls r e (built_moved (rest_of r) e B at) N z in
        (final, piece (moved_piece (rest_of r) e B m u (λ x n. subst (λ (y : Place). Member x y.paragraphs) z (moving_paragraphs language N n))) d, q, g)

  -- An arrangement of a derived book is derived, and reaches the same place; its lines are the old ones, renumbered.
  pub arrangement_derived : {old new signs : List Bytes} {all : State} (D : Derived language start old all) → Signs language old signs → (A : Arranges language old all [] outside signs new)
      → ArrangedFrom D (rest_of A) start new
  unfolding start
  arrangement_derived D s A =
      arranged D (rest_of A) [] A refl (record { earlier_is = refl; mentions = λ x m. absurd (no_member m); known = λ x m. absurd (no_member m) }) (derived_moving language D s) refl
