-- The lines that an expression mentions, those of its variables and constants. `Mentions S e`: each of them is in S.
use Rattle.std.proofs.Common.{sym, ⊎_elim}
use Rattle.std.proofs.Math.Path.{subst}
use Rattle.std.specs.Prelude.{List, [], ◌∷◌, ◌++◌}
use Prim.Native.Nat.{ℕ, zero, suc}
use Rattle.aut68.specs.Expr.{Expr, Exprs, type, prop, var, bound, const, app, abs, nil, cons, in_front}
use Rattle.aut68.specs.Lines.{Line, Lines, Kind, variable, primitive, abbreviation}
use Rattle.aut68.specs.Index.{mentioned, mentioned_in, mentioned_in_middle, mentioned_as_indicator, mentioned_by}
use Rattle.aut68.specs.Rules.Names.{IsLine, first, later, Member, here, there}
use Rattle.aut68.specs.Rules.Following.{NamesLine}
use Rattle.lookup.specs.Lists.{Each, no_member, member_append, member_cases, member_one, member_left, member_right}

unfoldable mutual
  pub Mentions : (ℕ → Type 0) → Expr → Type 0
  Mentions S type = Unit {0}
  Mentions S prop = Unit {0}
  Mentions S (var v) = S v
  Mentions S (bound i) = Unit {0}
  Mentions S (const v xs) = S v × MentionsIn S xs
  Mentions S (app a b) = Mentions S a × Mentions S b
  Mentions S (abs p t) = Mentions S p × Mentions S t

  pub MentionsIn : (ℕ → Type 0) → Exprs → Type 0
  MentionsIn S nil = Unit {0}
  MentionsIn S (cons a xs) = Mentions S a × MentionsIn S xs

-- a line's middle mentions only lines of S
unfoldable pub KindMentions : (ℕ → Type 0) → Kind → Type 0
KindMentions S variable = Unit {0}
KindMentions S primitive = Unit {0}
KindMentions S (abbreviation m) = Mentions S m

-- an indicator, if not empty, is a line of S
unfoldable pub IndicatorMentions : (ℕ → Type 0) → ℕ → Type 0
IndicatorMentions S zero = Unit {0}
IndicatorMentions S (suc v) = S (suc v)

-- a whole line mentions only lines of S
pub record LineMentions (S : ℕ → Type 0) (l : Line) : Type 0 where
  pub indicator_in : IndicatorMentions S l.indicator
  pub context_in : Each S l.context
  pub kind_in : KindMentions S l.kind
  pub category_in : Mentions S l.category

-- ---- indicators

-- a line's number is not 0, so as an indicator it is not the empty one
pub indicator_mentioned : (S : ℕ → Type 0) {ls : Lines} {v : ℕ} {l : Line} → IsLine ls v l → IndicatorMentions S v → S v
unfolding IndicatorMentions
indicator_mentioned S first h = h
indicator_mentioned S (later i) h = h

pub indicator_mentions : (S : ℕ → Type 0) {ls : Lines} {v : ℕ} {l : Line} → IsLine ls v l → S v → IndicatorMentions S v
unfolding IndicatorMentions
indicator_mentions S first h = h
indicator_mentions S (later i) h = h

-- ---- any lines

mutual
  unfolding Mentions

  pub mentions_any : (e : Expr) → Mentions (λ _. Unit {0}) e
  mentions_any type = tt
  mentions_any prop = tt
  mentions_any (var v) = tt
  mentions_any (bound i) = tt
  mentions_any (const v xs) = (tt, mentions_all xs)
  mentions_any (app a b) = (mentions_any a, mentions_any b)
  mentions_any (abs p t) = (mentions_any p, mentions_any t)

  mentions_all : (xs : Exprs) → MentionsIn (λ _. Unit {0}) xs
  mentions_all nil = tt
  mentions_all (cons a xs) = (mentions_any a, mentions_all xs)

pub kind_mentions_any : (k : Kind) → KindMentions (λ _. Unit {0}) k
unfolding KindMentions
kind_mentions_any variable = tt
kind_mentions_any primitive = tt
kind_mentions_any (abbreviation m) = mentions_any m

pub indicator_mentions_any : (v : ℕ) → IndicatorMentions (λ _. Unit {0}) v
unfolding IndicatorMentions
indicator_mentions_any zero = tt
indicator_mentions_any (suc v) = tt

-- ---- what is put in front of arguments

pub mentions_front : (S : ℕ → Type 0) (us : List ℕ) (es : Exprs) → Each S us → MentionsIn S es → MentionsIn S (in_front us es)
unfolding Mentions in_front
mentions_front S [] es s h = h
mentions_front S (u ∷ us) es s h = (s.0, mentions_front S us es s.1 h)

pub mentions_written : (S : ℕ → Type 0) (us : List ℕ) (es : Exprs) → MentionsIn S (in_front us es) → MentionsIn S es
unfolding Mentions in_front
mentions_written S [] es h = h
mentions_written S (u ∷ us) es h = mentions_written S us es h.1

-- ---- the list of the lines mentioned

module _ (S : ℕ → Type 0) where
  either : {v : ℕ} (xs : List ℕ) {ys : List ℕ} → (Member v xs → S v) → (Member v ys → S v) → Member v (xs ++ ys) → S v
  either xs f g m = ⊎_elim f g (member_append xs m)

  mutual
    unfolding Mentions mentioned

    mentions_member : {v : ℕ} (e : Expr) → Mentions S e → Member v (mentioned e) → S v
    mentions_member type h m = absurd (no_member m)
    mentions_member prop h m = absurd (no_member m)
    mentions_member (var u) h m = subst S (sym (member_one m)) h
    mentions_member (bound i) h m = absurd (no_member m)
    mentions_member (const u xs) h m = ⊎_elim (λ e. subst S (sym e) h.0) (λ n. mentions_member_in xs h.1 n) (member_cases m)
    mentions_member (app a b) h m = either (mentioned a) (λ n. mentions_member a h.0 n) (λ n. mentions_member b h.1 n) m
    mentions_member (abs p t) h m = either (mentioned p) (λ n. mentions_member p h.0 n) (λ n. mentions_member t h.1 n) m

    mentions_member_in : {v : ℕ} (xs : Exprs) → MentionsIn S xs → Member v (mentioned_in xs) → S v
    mentions_member_in nil h m = absurd (no_member m)
    mentions_member_in (cons a xs) h m = either (mentioned a) (λ n. mentions_member a h.0 n) (λ n. mentions_member_in xs h.1 n) m

  mutual
    unfolding Mentions mentioned

    members_mention : (e : Expr) → ((v : ℕ) → Member v (mentioned e) → S v) → Mentions S e
    members_mention type h = tt
    members_mention prop h = tt
    members_mention (var v) h = h v here
    members_mention (bound i) h = tt
    members_mention (const v xs) h = (h v here, members_mention_in xs (λ u m. h u (there m)))
    members_mention (app a b) h = (members_mention a (λ u m. h u (member_left (mentioned b) m)), members_mention b (λ u m. h u (member_right (mentioned a) m)))
    members_mention (abs p t) h = (members_mention p (λ u m. h u (member_left (mentioned t) m)), members_mention t (λ u m. h u (member_right (mentioned p) m)))

    members_mention_in : (xs : Exprs) → ((v : ℕ) → Member v (mentioned_in xs) → S v) → MentionsIn S xs
    members_mention_in nil h = tt
    members_mention_in (cons a xs) h = (members_mention a (λ u m. h u (member_left (mentioned_in xs) m)), members_mention_in xs (λ u m. h u (member_right (mentioned a) m)))

  kind_member : {v : ℕ} (k : Kind) → KindMentions S k → Member v (mentioned_in_middle k) → S v
  unfolding KindMentions mentioned_in_middle
  kind_member variable h m = absurd (no_member m)
  kind_member primitive h m = absurd (no_member m)
  kind_member (abbreviation e) h m = mentions_member e h m

  members_kind : (k : Kind) → ((v : ℕ) → Member v (mentioned_in_middle k) → S v) → KindMentions S k
  unfolding KindMentions mentioned_in_middle
  members_kind variable h = tt
  members_kind primitive h = tt
  members_kind (abbreviation e) h = members_mention e h

  indicator_member : {v : ℕ} (u : ℕ) → IndicatorMentions S u → Member v (mentioned_as_indicator u) → S v
  unfolding IndicatorMentions mentioned_as_indicator
  indicator_member zero h m = absurd (no_member m)
  indicator_member (suc u) h m = subst S (sym (member_one m)) h

  members_indicator : (u : ℕ) → ((v : ℕ) → Member v (mentioned_as_indicator u) → S v) → IndicatorMentions S u
  unfolding IndicatorMentions mentioned_as_indicator
  members_indicator zero h = tt
  members_indicator (suc u) h = h (suc u) here

  -- the lines that a completed line names are those that its indicator, middle and category mention
  pub mentions_named : {v : ℕ} (l : Line) → IndicatorMentions S l.indicator → KindMentions S l.kind → Mentions S l.category → NamesLine l v → S v
  unfolding mentioned_by
  mentions_named l p q r m =
      either (mentioned_as_indicator l.indicator) (λ n. indicator_member l.indicator p n)
      (λ n. either (mentioned_in_middle l.kind) (λ o. kind_member l.kind q o) (λ o. mentions_member l.category r o) n) m

  pub named_mentions : (l : Line) → ((v : ℕ) → NamesLine l v → S v) → IndicatorMentions S l.indicator × KindMentions S l.kind × Mentions S l.category
  unfolding mentioned_by
  named_mentions l h = (
    members_indicator l.indicator (λ v m. h v (member_left _ m)),
    members_kind l.kind (λ v m. h v (member_right (mentioned_as_indicator l.indicator) (member_left _ m))),
    members_mention l.category (λ v m. h v (member_right (mentioned_as_indicator l.indicator) (member_right (mentioned_in_middle l.kind) m))),
  )
