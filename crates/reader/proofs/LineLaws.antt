-- A line, from its heading and its body.
use Rattle.std.specs.Prelude.{Ok, Err, Result as Tried}
use mathlib.Core.Path.{◌≡◌, refl, sym, ap, ap₂, ◌∙◌, subst}
use mathlib.Core.Logic.{◌≢◌, ⊎_elim}
use mathlib.Core.Bool.{Bool, true, false}
use mathlib.Core.Option.{Option}
use mathlib.Core.List.{List, ◌++◌, append_assoc}
use Prim.Native.Nat.{ℕ, ◌+◌, ◌-◌, ◌*◌, ◌/◌, ◌≤◌, ◌<◌}
use native.Mathlib.Omega.{arith}
use lib.ListN.{length, get_or, drop, take, get_or-append, length-append, length-drop, take-append-drop}
use lib.Seq.{slice, length-slice, length-take-le, take-take, drop-append-le, get_or-append-add, get_or-take, get_or-drop}
use Rattle.aut68.specs.Language.{aut68}
use Rattle.aut68.specs.Bytes.{Bytes}
use Rattle.aut68.specs.Expr.{Expr, cells, levels}
use Rattle.aut68.specs.Source.{Used}
use Rattle.aut68.specs.Lines.{Kind, kind_cells, line_cells, row_cell}
use Rattle.aut68.specs.Paragraphs.{State, current}
use Rattle.aut68.specs.Procedure.Answer.{◌>>=◌, give, ensure, stop, aside, code_of, malformed, duplicate, too_large}
use Rattle.aut68.specs.Procedure.Parse.{Placed, a_line}
use Rattle.aut68.specs.Procedure.Lookup.{unused}
use Rattle.aut68.specs.Procedure.Resolve.{Naming, indicator_line, resolve_middle, context_at}
use Rattle.aut68.specs.Procedure.Resolve as Resolve
use Rattle.aut68.specs.Procedure.CheckLine.{Passed, within_limits, middle_within_limits, read_line}
use Rattle.aut68.specs.Sizes.{line_limit, smallest_limit, nesting, at_context}
use Rattle.cells.specs.Layout.{context_unit, line_unit, reader_units}
use Rattle.kinds.specs.Kinds.{KindsTable}
use Rattle.cells.specs.Cells.{At, Outside}
use Rattle.cells.specs.Stores.{outside_below}
use Rattle.cells.specs.Results.{Result}
use Rattle.cells.specs.Results as Results
use Rattle.headings.specs.declared.before_middle.Head.{Head}
use Rattle.headings.specs.ReadLine.{indicator_in}
use Rattle.headings.specs.Posts.{HeadRead}
use Rattle.names.specs.Known.{Known}
use Rattle.notes.specs.Note.{note_end, StateNoted}
use Rattle.notes.specs.NoteLaws.{note_fits, state_noted_same}
use Rattle.paragraphs.specs.Posts.{TakenTold, CurrentTold}
use Rattle.meanings.specs.Posts.{ContextPost}
use Rattle.expressions.specs.Walk.{Walked, ReadTo, Laid, SameBelow}
use Rattle.expressions.proofs.StoreLaws.{below_same, below_then, part_append, part_stays}
use Rattle.expressions.proofs.ReadLaws.{read_is}
use Rattle.constants.specs.declared.codes.Reason.{Reason}
use Rattle.constants.specs.Refusals.{code_in}
use Rattle.reader.specs.declared.body.LineKind.{LineKind}
use Rattle.reader.specs.declared.lines.Line.{Line as LineOf}
use Rattle.reader.specs.Posts.{number_of, MiddleKind, kind_levels, LineWritten, BodyRead, IndicatorFound, ReadAs, LineReadInto, LineReadTo}
use Rattle.reader.proofs.StepLaws.{reading_result, step_stopped, step_names, step_fault, step_right_lem, step_wrong, step_indicator, step_no_indicator}
use Rattle.reader.proofs.LimitLaws.{laid_small, laid_large, within, not_within, middle_within_lem, middle_not_within}
use Rattle.reader.proofs.StepLaws.{name_unused, name_taken, kind_number_lem, context_length, indicator_within, zero_or_not}

-- ---- the cells of a line

module _ {w₁ w₂ : List ℕ} {to middle end : ℕ} {xs ys : List ℕ} (below : SameBelow middle w₁ w₂) (k : to ≤ middle) (l : middle ≤ end) (m : end ≤ length w₂)
    (p : slice to middle w₁ ≡ xs) (q : slice middle end w₂ ≡ ys) where
  cells_both : slice to end w₂ ≡ xs ++ ys
  cells_both = part_append w₂ to middle end k l m ∙ ap₂ ◌++◌ (part_stays below to middle (omega arith) ∙ p) q

  cells_lie : At w₂ to (xs ++ ys) (drop end w₂)
  cells_lie =
      record {
        is =
            ap (drop to) (sym (take-append-drop end w₂))
            ∙ drop-append-le to (take end w₂) (drop end w₂) (omega (arith, length-take-le end w₂ m))
            ∙ ap (λ x. x ++ drop end w₂) cells_both;
      }

-- ---- a line whose heading was refused

module _ {ks s book tb : List ℕ} {lines limit : ℕ} {w : List ℕ} {l : Tried LineOf Reason} where
  pub line_heading_refused : (KindsTable ks → (rest : Bytes) × (a_line aut68 (length s) s ≡ stop malformed rest)) → code_in l ≡ code_of malformed
      → LineReadInto ks s book tb lines limit w w l
  unfolding read_line aside
  line_heading_refused H e =
      record {
        below = below_same (context_unit * limit) w;
        read = λ st t k short large noted.
            let (rest, q) = H t in
            step_stopped _ (ap (λ m. aside m tt) q) e;
      }

-- ---- a line whose heading was read

-- what is noted of the state lies below what is noted of the line's context
note_below : {limit n : ℕ} → smallest_limit ≤ limit → n ≡ reader_units * limit → note_end n ≤ context_unit * limit
note_below {limit} large long = omega (arith, ap note_end long, note_fits limit large)

-- the name of the line p, as it was looked up
looked_up : {ks s : Bytes} {h : Head} → HeadRead ks s h → {word : Bytes} → word ≡ slice h.identifier.start (h.identifier.start + h.identifier.len) s
    → {st : State} {p : Placed} {w w' : List ℕ} {indicator to kind middle end fault before : ℕ} {i : Option Used}
    → LineWritten st indicator w w' to kind middle end fault before i (slice h.identifier.start (h.identifier.start + h.identifier.len) s) p
    → (word ≡ p.line.identifier) × (1 ≤ length word)
looked_up {s = s} {h} H e P =
    (e ∙ sym P.identifier_is, omega (arith, ap length e, length-slice h.identifier.start (h.identifier.start + h.identifier.len) s H.named, H.sized))

module _ {ks s book tb : List ℕ} {lines : ℕ} (limit : ℕ) {w w₁ w' : List ℕ} (long : length w ≡ reader_units * limit) {h : Head} (H : HeadRead ks s h)
    {found indicator kind : ℕ} {r : Walked}
    (F : (st : State) → KindsTable ks → Known st.earlier book tb lines → StateNoted st book tb lines w
    → IndicatorFound lines found (indicator_line st (indicator_in s h.indicator) tt))
    (I : (line_limit ≤ found → indicator ≡ 0) × (found < line_limit → indicator ≡ found))
    (C : ContextPost tb w w₁ indicator)
    (M : MiddleKind ks s h.at kind) (B : BodyRead ks s book tb lines indicator w₁ w' h.at (line_unit * limit) kind r) where
  -- the unit of the context
  unit : length w / reader_units ≡ limit
  unit = omega (arith, long)

  below_noted : SameBelow (context_unit * limit) w w₁
  below_noted = record { long = C.kept.long; is = outside_below {n = context_unit * limit} (omega (arith, unit)) C.kept }

  below_kept : SameBelow (context_unit * limit) w w'
  below_kept = below_then below_noted (omega arith) B.below

  reading : (st : State) → KindsTable ks → Known st.earlier book tb lines → length s < 4294967296 → smallest_limit ≤ limit → StateNoted st book tb lines w
      → ReadTo s (LineWritten st indicator w₁ w' (line_unit * limit) kind r.count r.to r.fault h.identifier.start (indicator_in s h.indicator) (slice h.identifier.start (h.identifier.start + h.identifier.len) s))
      r.code r.at (a_line aut68 (length s) s)
  reading st t k short large noted =
      let earlier = indicator_within (F st t k noted) k.few I in
      read_is (H.read t)
      (B.read st
      (record {
        table = t;
        known = k;
        noted = state_noted_same (context_unit * limit) (note_below large long) below_noted.long below_noted.is noted;
        below = omega (arith, note_below large (below_noted.long ∙ long));
        context = C.noted st.earlier book lines k earlier;
        above = omega (arith, unit, below_noted.long);
        earlier = earlier;
        short = short;
      }) M
      (indicator_in s h.indicator) h.identifier.start (slice h.identifier.start (h.identifier.start + h.identifier.len) s))

  -- the note of the state is where it was
  note_stays : {st : State} → smallest_limit ≤ limit → StateNoted st book tb lines w → StateNoted st book tb lines w'
  note_stays large noted = state_noted_same (context_unit * limit) (note_below large long) below_kept.long below_kept.is noted

  pub line_body_refused : {l : Tried LineOf Reason} → r.code ≢ 0 → code_in l ≡ r.code → LineReadInto ks s book tb lines limit w w' l
  unfolding read_line
  line_body_refused {l} n e =
      record {
        below = below_kept;
        read = λ st t k short large noted.
            subst (λ c. Result (ReadAs s w' (line_unit * limit) l) c tt (read_line aut68 st limit s tt)) (sym e) (Results.then_refused _ n (reading_result (reading st t k short large noted)));
      }

  module _ (rz : r.code ≡ 0) where
    pub line_no_indicator : {l : Tried LineOf Reason} → line_limit ≤ found → code_in l ≡ 5 → LineReadInto ks s book tb lines limit w w' l
    unfolding read_line
    line_no_indicator g e =
        record {
          below = below_kept;
          read = λ st t k short large noted.
              Results.then_passed _ rz (reading_result (reading st t k short large noted)) (λ p P.
              step_no_indicator _ (subst (λ o. IndicatorFound lines found (indicator_line st o tt)) (sym P.indicator_is) (F st t k noted)) k.few g e);
        }

    module _ (le : found < line_limit) {word : Bytes} (ew : word ≡ slice h.identifier.start (h.identifier.start + h.identifier.len) s) {taken : Bool} (T : TakenTold ks book tb lines w' word taken) where
      pub line_taken : {l : Tried LineOf Reason} → taken ≡ true → code_in l ≡ 4 → LineReadInto ks s book tb lines limit w w' l
      unfolding read_line code_of
      line_taken n e =
          record {
            below = below_kept;
            read = λ st t k short large noted.
                Results.then_passed _ rz (reading_result (reading st t k short large noted)) (λ p P.
                let (q, m) = looked_up H ew P in
                step_indicator _ (subst (λ o. IndicatorFound lines found (indicator_line st o tt)) (sym P.indicator_is) (F st t k noted)) le (I.1 le)
                (step_wrong _ duplicate (ap (λ x. unused x st) (sym q) ∙ name_taken T t k (note_stays large noted) m n) e));
          }

      module _ (free : taken ≡ false) where
        pub line_fault : {l : Tried LineOf Reason} → r.fault ≢ 0 → code_in l ≡ r.fault → LineReadInto ks s book tb lines limit w w' l
        unfolding read_line
        line_fault n e =
            record {
              below = below_kept;
              read = λ st t k short large noted.
                  Results.then_passed _ rz (reading_result (reading st t k short large noted)) (λ p P.
                  let (q, m) = looked_up H ew P in
                  let middle = P.middle_written.names refl in
                  step_indicator _ (subst (λ o. IndicatorFound lines found (indicator_line st o tt)) (sym P.indicator_is) (F st t k noted)) le (I.1 le)
                  (step_right_lem _ duplicate (ap (λ x. unused x st) (sym q) ∙ name_unused T t k (note_stays large noted) m free)
                  (⊎_elim
                  (λ z. step_names _ middle z (λ x ex sx. step_fault _ (P.category_written.names z) n e))
                  (λ y. step_fault _ middle y (e ∙ P.category_written.kept y))
                  (zero_or_not P.fault_between))));
            }

        module _ (n : r.fault ≡ 0) where
          -- what is left to be done where the names mean something: the middle's and the category's limits
          left : State → Placed → Kind → Expr → Naming Passed
          left st p x d =
              ensure (middle_within_limits limit x) too_large >>= λ _.
              ensure (within_limits limit d) too_large >>= λ _.
              give
              (record {
                before = p.before;
                line =
                    record {
                      identifier = p.line.identifier;
                      indicator = indicator;
                      context = context_at st.earlier indicator;
                      kind = x;
                      category = d;
                      paragraph = current st.place.opened;
                    };
              })

          after_names : {l : Tried LineOf Reason}
              → ((st : State) → Known st.earlier book tb lines → indicator ≤ lines → StateNoted st book tb lines w' → (p : Placed)
              → (P : LineWritten st indicator w₁ w' (line_unit * limit) kind r.count r.to r.fault h.identifier.start (indicator_in s h.indicator) (slice h.identifier.start (h.identifier.start + h.identifier.len) s) p)
              → (x : Kind) (d : Expr) → resolve_middle st (context_at st.earlier indicator) p.line.middle tt ≡ Resolve.found x
              → Laid P.between (line_unit * limit) r.count nesting (kind_cells x) (kind_levels x) → Laid w' r.count r.to nesting (cells d) (levels d)
              → Result (ReadAs s w' (line_unit * limit) l) (code_in l) tt (left st p x d tt))
              → LineReadInto ks s book tb lines limit w w' l
          unfolding read_line left
          after_names f =
              record {
                below = below_kept;
                read = λ st t k short large noted.
                    Results.then_passed _ rz (reading_result (reading st t k short large noted)) (λ p P.
                    let (q, m) = looked_up H ew P in
                    let z : P.fault_between ≡ 0 = ⊎_elim (λ z. z) (λ y. absurd (y (sym (P.category_written.kept y) ∙ n))) (zero_or_not P.fault_between) in
                    step_indicator _ (subst (λ o. IndicatorFound lines found (indicator_line st o tt)) (sym P.indicator_is) (F st t k noted)) le (I.1 le)
                    (step_right_lem _ duplicate (ap (λ x. unused x st) (sym q) ∙ name_unused T t k (note_stays large noted) m free)
                    (step_names _ (P.middle_written.names refl) z (λ x ex sx.
                    step_names _ (P.category_written.names z) n (λ d ed sd.
                    f st k (indicator_within (F st t k noted) k.few I) (note_stays large noted) p P x d ex sx sd)))));
              }

          pub line_large_middle : {l : Tried LineOf Reason} → limit < r.count - line_unit * limit → code_in l ≡ 10 → LineReadInto ks s book tb lines limit w w' l
          unfolding left code_of
          line_large_middle g e =
              after_names (λ st k earlier noted p P x d ex sx sd.
              step_wrong _ too_large (middle_not_within x (laid_large sx (B.upward rz).0 g (omega (arith, P.long, below_noted.long)))) e)

          module _ (f : r.count - line_unit * limit ≤ limit) where
            middle_fits_lem : (x : Kind) {between : List ℕ} → length between ≡ length w₁ → Laid between (line_unit * limit) r.count nesting (kind_cells x) (kind_levels x)
                → (length (kind_cells x) ≤ limit) × (kind_levels x ≤ nesting)
            middle_fits_lem x e A = laid_small A (B.upward rz).0 f (omega (arith, e, below_noted.long, (B.upward rz).0))

            pub line_large_category : {l : Tried LineOf Reason} → limit < r.to - line_unit * limit - (r.count - line_unit * limit) → code_in l ≡ 10 → LineReadInto ks s book tb lines limit w w' l
            unfolding left code_of
            line_large_category g e =
                let (start, more) = B.upward rz in
                after_names (λ st k earlier noted p P x d ex sx sd.
                step_right_lem _ too_large (middle_within_lem x (middle_fits_lem x P.long sx))
                (step_wrong _ too_large (not_within d (laid_large sd more (omega arith) (omega (arith, below_kept.long)))) e))

            pub line_read : {context paragraph : ℕ} (k : LineKind) → kind ≡ number_of k → r.to - line_unit * limit - (r.count - line_unit * limit) ≤ limit
                → (indicator ≡ 0 → context ≡ 0) × (1 ≤ indicator → context ≡ row_cell tb indicator at_context + 1) → CurrentTold w' paragraph
                → LineReadInto ks s book tb lines limit w w'
                (Ok (record {
                  first = h.identifier.start;
                  len = h.identifier.len;
                  indicator = indicator;
                  context = context;
                  kind = k;
                  middle = r.count - line_unit * limit;
                  size = r.to - line_unit * limit;
                  paragraph = paragraph;
                }))
            unfolding left line_cells
            line_read {context} y ek g c q =
                let (start, more) = B.upward rz in
                let room : length w' ≡ reader_units * limit = below_kept.long ∙ long in
                let end : r.to ≤ length w' = omega arith in
                after_names (λ st k earlier noted p P x d ex sx sd.
                let between : r.count ≤ length P.between = omega (arith, P.long, below_noted.long) in
                let cx = (sx.fits between).0 in
                let cd = (sd.fits end).0 in
                step_right_lem _ too_large (middle_within_lem x (middle_fits_lem x P.long sx))
                (step_right_lem _ too_large (within d (laid_small sd more (omega arith) end))
                (Results.passed refl
                (record {
                  first_is = sym P.before_is;
                  len_is = omega (arith, ap length P.identifier_is, length-slice h.identifier.start (h.identifier.start + h.identifier.len) s H.named);
                  within = H.named;
                  identifier_is = sym P.identifier_is;
                  indicator_is = refl;
                  context_is = context_length k earlier c;
                  kind_is = sym ek ∙ sym P.kind_is ∙ sym (kind_number_lem st (context_at st.earlier indicator) p.line.middle ex);
                  middle_is = omega (arith, ap length cx, length-slice (line_unit * limit) r.count P.between between);
                  size_is = omega (arith, ap length (cells_both P.below start more end cx cd), length-slice (line_unit * limit) r.to w' end);
                  paragraph_is = q.is book st.place noted.place;
                  after = drop r.to w';
                  cells_at = cells_lie P.below start more end cx cd;
                }))))

-- ---- a line in the first cells of a larger store

-- the first m cells were lent, and of them those below n are as they were
module _ (w part : List ℕ) (n m : ℕ) (l : n ≤ m) (fits : m ≤ length w) (h : SameBelow n (take m w) part) where
  long : length part ≡ m
  long = h.long ∙ length-take-le m w fits

  before : (i : ℕ) → i < n → get_or (part ++ drop m w) i 0 ≡ get_or w i 0
  before i y =
      get_or-append part (drop m w) 0 i (omega (arith, long))
      ∙ sym (get_or-take n part i 0 y)
      ∙ ap (λ x. get_or x i 0) (h.is ∙ take-take n m w l)
      ∙ get_or-take n w i 0 y

  behind : (i : ℕ) → m ≤ i → get_or (part ++ drop m w) i 0 ≡ get_or w i 0
  behind i y =
      let e : i ≡ length part + (i - m) = omega (arith, long) in
      ap (λ j. get_or (part ++ drop m w) j 0) e
      ∙ get_or-append-add part (drop m w) (i - m) 0
      ∙ get_or-drop m w (i - m) 0
      ∙ ap (λ j. get_or w j 0) (omega arith)

  front_outside : Outside n m w (part ++ drop m w)
  front_outside =
      record {
        long = length-append part (drop m w) ∙ omega (arith, long, length-drop m w);
        same = λ i x. ⊎_elim (λ y. before i y) (λ y. behind i y) x;
      }

-- the line that was read in a part of a store, in the whole
module _ (s : Bytes) (part rest : List ℕ) {to : ℕ} (room : to ≤ length part) (p : Passed) where
  in_front : (l : Tried LineOf Reason) → ReadAs s part to l p → ReadAs s (part ++ rest) to l p
  in_front (Ok l) h =
      record {
        first_is = h.first_is;
        len_is = h.len_is;
        within = h.within;
        identifier_is = h.identifier_is;
        indicator_is = h.indicator_is;
        context_is = h.context_is;
        kind_is = h.kind_is;
        middle_is = h.middle_is;
        size_is = h.size_is;
        paragraph_is = h.paragraph_is;
        after = h.after ++ rest;
        cells_at =
            record {
              is =
                  drop-append-le to part rest room
                  ∙ ap (λ x. x ++ rest) h.cells_at.is
                  ∙ append_assoc (line_cells p.line) h.after rest;
            };
      }
  in_front (Err r) h = h

module _ {ks s book tb : List ℕ} {lines limit : ℕ} {w : List ℕ} (l : Tried LineOf Reason) where
  pub line_no_room : length w < reader_units * limit → code_in l ≡ 10 → LineReadTo ks s book tb lines limit w w l
  line_no_room m e =
      record {
        outside = record { long = refl; same = λ i h. refl };
        no_room = λ n. (refl, e);
        read = λ st t k short large room. absurd (omega arith);
      }

  pub line_in_front : {part : List ℕ} → reader_units * limit ≤ length w → LineReadInto ks s book tb lines limit (take (reader_units * limit) w) part l
      → LineReadTo ks s book tb lines limit w (part ++ drop (reader_units * limit) w) l
  line_in_front {part} m h =
      let long : length part ≡ reader_units * limit = h.below.long ∙ length-take-le (reader_units * limit) w m in
      record {
        outside = front_outside w part (context_unit * limit) (reader_units * limit) (omega arith) m h.below;
        no_room = λ z. absurd (omega arith);
        read = λ st t k short large room noted.
            Results.result_map (λ p P. in_front s part (drop (reader_units * limit) w) (omega arith) p l P) (h.read st t k short large noted);
      }
