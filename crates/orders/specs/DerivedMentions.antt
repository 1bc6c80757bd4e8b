-- What a line with a derivation mentions: what its names mean, and the variables that its indicator leads to.
use Rattle.std.specs.Prelude.{◌≡◌, List, ℕ}
use Rattle.std.proofs.Math.Path.{refl}
use Rattle.std.proofs.Math.Option.{Option}
use Rattle.aut68.specs.Language.{Language}
use Rattle.aut68.specs.Bytes.{Bytes}
use Rattle.aut68.specs.Source.{Used, Middle}
use Rattle.aut68.specs.Lines.{Line, Kind}
use Rattle.aut68.specs.Paragraphs.{State}
use Rattle.aut68.specs.Rules.Names.{IsLine, Context, no_context, within, Denotes, Indicates, nothing, named, MiddleMeans, is_eb, is_pn, is_meaning}
use Rattle.aut68.specs.Rules.Derivation.{Derivation}
use Rattle.aut68.specs.Rules.Orders.{Names, as_indicator, in_middle, in_category}
use Rattle.lookup.specs.Lists.{Each, each_snoc}
use Rattle.lookup.specs.Mentions.{KindMentions, IndicatorMentions, LineMentions, indicator_mentioned, indicator_mentions}
use Rattle.lookup.specs.Mentioning.{means_mentions}

-- each name of the line means a line of S
module _ {language : Language} {st : State} {bytes : Bytes} {l : Line} (d : Derivation language st bytes l) (S : ℕ → Type 0)
    (names : (u : Used) (x : ℕ) → Names d.source u → Denotes st u x → S x) where
  pub indicator_named : IndicatorMentions S l.indicator
  unfolding IndicatorMentions
  indicator_named = at d.source.indicator refl l.indicator d.indicator_is
    where
      at : (o : Option Used) → d.source.indicator ≡ o → (v : ℕ) → Indicates st o v → IndicatorMentions S v
      at o q v nothing = tt
      at o q v (named e i) = indicator_mentions S i (names _ v (as_indicator q) e)

  -- and the indicator of each line of S is in S
  module _ (closed : (x : ℕ) (k : Line) → S x → IsLine st.earlier x k → IndicatorMentions S k.indicator) where
    context_named : {v : ℕ} {vs : List ℕ} → Context st.earlier v vs → IndicatorMentions S v → Each S vs
    context_named no_context h = tt
    context_named (within {v} {l = k} {vs} i e c) h =
        let s = indicator_mentioned S i h in
        each_snoc S vs v (context_named c (closed v k s i)) s

    own_named : Each S l.context
    own_named = context_named d.context_is indicator_named

    kind_named : KindMentions S l.kind
    unfolding KindMentions
    kind_named = at d.source.middle refl l.kind d.middle_is
      where
        at : (m : Middle) → d.source.middle ≡ m → (k : Kind) → MiddleMeans st l.context m k → KindMentions S k
        at m q k is_eb = tt
        at m q k is_pn = tt
        at m q k (is_meaning n) = means_mentions S own_named n (λ u x k o i e. names u x (in_middle q o) e)

    pub line_named : LineMentions S l
    line_named = record {
      indicator_in = indicator_named;
      context_in = own_named;
      kind_in = kind_named;
      category_in = means_mentions S own_named d.category_is (λ u x k o i e. names u x (in_category o) e);
    }
