-- The kind of a byte: 1 for the bytes of names, a kind of its own for every other symbol of one byte, the space and byte 10,
-- and 0 for a byte that no line has.
use Rattle.std.specs.Prelude.{◌≡◌, refl, Bool, true, false, ◌||◌, ◌&&◌, List, [], ◌∷◌, map, ℕ, zero, suc, ◌≤◌, ◌<◌, eqb, leb, ◌+◌, length, get_or}
use Rattle.std.proofs.Common.{sym, ap, ◌∙◌, arith, eqb-true, eq-eqb, ne_eqb, le-leb}
use Rattle.std.proofs.lemmas.Bool.{eqb-false, lt-leb}
use Rattle.aut68.specs.Bytes.{name_byte, opens_expression}

-- the bytes of kind 2, 3, ..: `<` `[` `*` `:` `=` `,` `(` `)` `>` `]`, the space, byte 10, `.` `+` `-`
abbrev pub symbols : List ℕ
symbols = 60 ∷ 91 ∷ 42 ∷ 58 ∷ 61 ∷ 44 ∷ 40 ∷ 41 ∷ 62 ∷ 93 ∷ 32 ∷ 10 ∷ 46 ∷ 43 ∷ 45 ∷ []

-- the place of b in the list, counted from k; 0 where it is not there
unfoldable pub place_or0 : ℕ → List ℕ → ℕ → ℕ
place_or0 k [] b = 0
place_or0 k (c ∷ cs) b = elim (eqb b c) [ true ↦ k | false ↦ place_or0 (suc k) cs b ]

unfoldable pub kind_of : ℕ → ℕ
kind_of b = elim (name_byte b) [ true ↦ 1 | false ↦ place_or0 2 symbols b ]

-- entry b of the table is the kind of the byte b
pub record KindsTable (ks : List ℕ) : Type 0 where
  pub kind : (b : ℕ) → b < 256 → get_or ks b 0 ≡ kind_of b

-- ---- laws

-- the place in a list that is not empty, by its first byte
place_here : (k c : ℕ) (cs : List ℕ) (b : ℕ) → eqb b c ≡ true → place_or0 k (c ∷ cs) b ≡ k
unfolding place_or0
place_here k c cs b e = rw (e, place_or0)

place_later : (k c : ℕ) (cs : List ℕ) (b : ℕ) → eqb b c ≡ false → place_or0 k (c ∷ cs) b ≡ place_or0 (suc k) cs b
unfolding place_or0
place_later k c cs b e = rw (e, place_or0)

-- a place is 0 or at least the number that the count starts from
place_starts : (k : ℕ) (cs : List ℕ) (b : ℕ) → (place_or0 k cs b ≡ 0 → ⊥) → k ≤ place_or0 k cs b
unfolding place_or0
place_starts k [] b h = absurd (h refl)
place_starts k (c ∷ cs) b h = split (eqb b c) refl (place_starts (suc k) cs b) h
  where
    split : (t : Bool) → eqb b c ≡ t → ((place_or0 (suc k) cs b ≡ 0 → ⊥) → suc k ≤ place_or0 (suc k) cs b)
        → (place_or0 k (c ∷ cs) b ≡ 0 → ⊥) → k ≤ place_or0 k (c ∷ cs) b
    split true e ih = rw (place_here k c cs b e) (λ h. omega arith)
    split false e ih = rw (place_later k c cs b e) (λ h. omega (arith, ih h))

-- one byte stands at each place
place_one : (k : ℕ) (cs : List ℕ) (b c : ℕ) → 0 < k → k ≤ place_or0 k cs c → place_or0 k cs b ≡ place_or0 k cs c → b ≡ c
unfolding place_or0
place_one k [] b c p h e = omega arith
place_one k (d ∷ ds) b c p h q = split (eqb b d) refl (eqb c d) refl (place_one (suc k) ds b c (omega arith)) h q
  where
    split : (t : Bool) → eqb b d ≡ t → (u : Bool) → eqb c d ≡ u
        → (suc k ≤ place_or0 (suc k) ds c → place_or0 (suc k) ds b ≡ place_or0 (suc k) ds c → b ≡ c)
        → k ≤ place_or0 k (d ∷ ds) c → place_or0 k (d ∷ ds) b ≡ place_or0 k (d ∷ ds) c → b ≡ c
    split true e true f ih h q = eqb-true b d e ∙ sym (eqb-true c d f)
    split true e false f ih h q =
        let x = place_here k d ds b e in
        let y = place_later k d ds c f in
        absurd (omega (arith, place_starts (suc k) ds c (λ z. omega arith)))
    split false e true f ih h q =
        let x = place_later k d ds b e in
        let y = place_here k d ds c f in
        absurd (omega (arith, place_starts (suc k) ds b (λ z. omega arith)))
    split false e false f ih h q =
        let x = place_later k d ds b e in
        let y = place_later k d ds c f in
        ih (place_starts (suc k) ds c (λ z. omega arith)) (sym x ∙ q ∙ y)

-- the kind where the byte is a name's, and where it is none
pub kind_of_name : (b : ℕ) → name_byte b ≡ true → kind_of b ≡ 1
unfolding kind_of
kind_of_name b e = rw (e, kind_of)

pub kind_of_other : (b : ℕ) → name_byte b ≡ false → kind_of b ≡ place_or0 2 symbols b
unfolding kind_of
kind_of_other b e = rw (e, kind_of)

-- a place is less than the number that the count ends at
place_ends : (k : ℕ) (cs : List ℕ) (b : ℕ) → 0 < k → place_or0 k cs b < k + length cs
unfolding place_or0
place_ends k [] b h = omega arith
place_ends k (c ∷ cs) b h = split (eqb b c) refl (place_ends (suc k) cs b (omega arith))
  where
    split : (t : Bool) → eqb b c ≡ t → place_or0 (suc k) cs b < suc k + length cs → place_or0 k (c ∷ cs) b < k + length (c ∷ cs)
    split true e ih = rw (place_here k c cs b e) (omega arith)
    split false e ih = rw (place_later k c cs b e) (omega arith)

-- there are 17 kinds
pub kind_last : (b : ℕ) → kind_of b ≤ 16
kind_last b = split (name_byte b) refl
  where
    split : (t : Bool) → name_byte b ≡ t → kind_of b ≤ 16
    split true e = rw (kind_of_name b e) (omega arith)
    split false e = rw (kind_of_other b e) (omega (arith, place_ends 2 symbols b (omega arith)))

-- kind 1 is the bytes of names
pub name_of_kind : (b : ℕ) → kind_of b ≡ 1 → name_byte b ≡ true
name_of_kind b h = split (name_byte b) refl
  where
    split : (t : Bool) → name_byte b ≡ t → name_byte b ≡ true
    split true e = e
    split false e =
        let q = kind_of_other b e in
        absurd (omega (arith, place_starts 2 symbols b (λ z. omega arith)))

-- a byte of a kind from 2 on is no byte of a name
pub other_of_kind : (b : ℕ) → 2 ≤ kind_of b → name_byte b ≡ false
other_of_kind b h = split (name_byte b) refl
  where
    split : (t : Bool) → name_byte b ≡ t → name_byte b ≡ false
    split false e = e
    split true e = absurd (omega (arith, kind_of_name b e))

-- each kind from 2 on is the kind of one byte
pub one_of_kind : (b c : ℕ) → 2 ≤ kind_of c → kind_of b ≡ kind_of c → b ≡ c
one_of_kind b c h e =
    let q = kind_of_other b (other_of_kind b (omega arith)) in
    let r = kind_of_other c (other_of_kind c h) in
    place_one 2 symbols b c (omega arith) (omega arith) (sym q ∙ e ∙ r)

-- and these are the bytes of the kinds 2, 3, ..
pub kinds_of_symbols : map kind_of symbols ≡ 2 ∷ 3 ∷ 4 ∷ 5 ∷ 6 ∷ 7 ∷ 8 ∷ 9 ∷ 10 ∷ 11 ∷ 12 ∷ 13 ∷ 14 ∷ 15 ∷ 16 ∷ []
unfolding kind_of place_or0 name_byte
kinds_of_symbols = refl

-- so a test of the kind is a test of the byte
pub test_of_kind : (b c : ℕ) → 2 ≤ kind_of c → eqb (kind_of b) (kind_of c) ≡ eqb b c
test_of_kind b c h = split (eqb b c) refl
  where
    split : (t : Bool) → eqb b c ≡ t → eqb (kind_of b) (kind_of c) ≡ t
    split true e = eq-eqb (kind_of b) (kind_of c) (ap kind_of (eqb-true b c e))
    split false e = ne_eqb _ _ (λ q. eqb-false b c e (one_of_kind b c h q))

-- kinds 1, 2 and 3 open an expression
unfoldable pub opens_kind : ℕ → Bool
opens_kind k = leb 1 k && leb k 3

closed_kind : (k : ℕ) → (k ≡ 0 → ⊥) → 3 < k → opens_kind k ≡ false
unfolding opens_kind
closed_kind k h l = rw (le-leb 1 k (omega arith), lt-leb k 3 l)

-- the symbols from kind 4 on
abbrev later_symbols : List ℕ
later_symbols = 42 ∷ 58 ∷ 61 ∷ 44 ∷ 40 ∷ 41 ∷ 62 ∷ 93 ∷ 32 ∷ 10 ∷ 46 ∷ 43 ∷ 45 ∷ []

later_closed : (b m : ℕ) → place_or0 4 later_symbols b ≡ m → opens_kind m ≡ false
unfolding opens_kind
later_closed b zero e = refl
later_closed b (suc m) e =
    closed_kind (suc m) (λ z. omega arith) (omega (arith, place_starts 4 later_symbols b (λ z. omega arith)))

opens_by_tests : (b : ℕ) (t u v : Bool) → name_byte b ≡ t → eqb b 60 ≡ u → eqb b 91 ≡ v → opens_expression b ≡ t || u || v
unfolding opens_expression
opens_by_tests b t u v e f g = rw (e, f, g)

opens_at : (c : ℕ) {b : ℕ} → b ≡ c → opens_expression c ≡ opens_kind (kind_of c) → opens_expression b ≡ opens_kind (kind_of b)
opens_at c e h = rw e h

opens_less : opens_expression 60 ≡ opens_kind (kind_of 60)
unfolding opens_kind kind_of name_byte place_or0 opens_expression
opens_less = refl

opens_bracket : opens_expression 91 ≡ opens_kind (kind_of 91)
unfolding opens_kind kind_of name_byte place_or0 opens_expression
opens_bracket = refl

pub opens_of_kind : (b : ℕ) → opens_expression b ≡ opens_kind (kind_of b)
unfolding opens_kind
opens_of_kind b = split (name_byte b) refl (eqb b 60) refl (eqb b 91) refl
  where
    split : (t : Bool) → name_byte b ≡ t → (u : Bool) → eqb b 60 ≡ u → (v : Bool) → eqb b 91 ≡ v
        → opens_expression b ≡ opens_kind (kind_of b)
    split true e u f v g = opens_by_tests b true u v e f g ∙ ap opens_kind (sym (kind_of_name b e))
    split false e true f v g = opens_at 60 (eqb-true b 60 f) opens_less
    split false e false f true g = opens_at 91 (eqb-true b 91 g) opens_bracket
    split false e false f false g =
        opens_by_tests b false false false e f g
        ∙ sym (later_closed b _ refl)
        ∙ ap opens_kind (sym (kind_of_other b e ∙ place_later 2 60 _ b f ∙ place_later 3 91 _ b g))
