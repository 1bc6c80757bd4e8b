-- The next piece of a book: its kind, and how it ends.
use mathlib.Core.Path.{◌≡◌, refl, sym, ap, ◌∙◌}
use mathlib.Core.Logic.{◌≢◌}
use mathlib.Core.Bool.{Bool, true, false, ◌||◌, true≢false}
use mathlib.Core.List.{List, ◌++◌}
use Prim.Native.Nat.{ℕ, ◌-◌, ◌*◌, ◌≤◌, ◌<◌}
use native.Mathlib.Omega.{arith}
use lib.Dec.{eqb}
use lib.ListN.{length, take, drop}
use lib.Seq.{length-slice, length-take-le, take_at}
use borrow.Author.Tests.{eqb-true}
use Rattle.aut68.specs.Stores.{Stores}
use Rattle.aut68.specs.Bytes.{Bytes, name_byte}
use Rattle.aut68.specs.Procedure.Parse.{signed}
use Rattle.aut68.specs.Procedure.Run.{state_of}
use Rattle.aut68.specs.Rules.Grammar.{IsSign, plus, minus}
use Rattle.cells.specs.Layout.{reader_units}
use Rattle.cells.specs.Links.{unlinked}
use Rattle.kinds.specs.Kinds.{KindsTable, kind_of, place_or0}
use Rattle.headings.specs.declared.signs.Sign as Signs
use Rattle.headings.specs.declared.signs.Sign.TheVariants.{Opens, Closes}
use Rattle.headings.specs.Signs.{kind_of_sign}
use Rattle.headings.specs.Posts.{LineEnd, SignOf}
use Rattle.moves.specs.Posts.{MovedResult, MovedPost}
use Rattle.moves.specs.declared.Open.{Open}
use Rattle.records.specs.Reached.{slice_is}
use Rattle.records.specs.OnRecord.{reached_known}
use Rattle.checking.specs.Progress.{Fitting, IsPiece, LineResult, LinePost}
use Rattle.books.specs.Loop.{Going, LinesPost}
use Rattle.books.proofs.LoopLaws.{ending, going_on, going_stops, going_moved, going_halts}

abbrev piece_at : Bytes → ℕ → ℕ → Bytes
piece_at book at next = take (next - at) (drop at book)

is_piece : {book : Bytes} {at next : ℕ} → LineEnd book at next → at < length book → IsPiece book at next (piece_at book at next)
is_piece {book} {at} {next} end inside =
    let from = end.from inside in
    let are = slice_is at next book (omega arith) in
    let within = end.within (omega arith) in
    record { cut = end.is inside; next_is = omega (arith, ap length are, length-slice at next book within); bytes_are = are }

-- ---- its kind

sign_kinds : (15 ≡ kind_of 43) × (16 ≡ kind_of 45)
unfolding kind_of place_or0 name_byte
sign_kinds = (refl, refl)

-- a sign's kind is one of the two
pub sign_is_one : (s : Signs.Sign) → true ≡ (eqb (kind_of_sign s) 15 || eqb (kind_of_sign s) 16)
sign_is_one Opens = refl
sign_is_one Closes = refl

-- k is the kind of one of the signs, and the piece a paragraph line with it
record Sign (bytes : Bytes) (k : ℕ) : Type 0 where
  sign : ℕ
  is_sign : IsSign sign
  kind_is : k ≡ kind_of sign
  signs : signed sign bytes ≡ true

module _ {ks bytes : Bytes} {k : ℕ} (of : SignOf ks bytes k) (table : KindsTable ks) {t : Bool} (is : t ≡ (eqb k 15 || eqb k 16)) where
  a_sign_lem : t ≡ true → Sign bytes k
  a_sign_lem q = at (eqb k 15) (eqb k 16) refl refl (sym is ∙ q)
    where
      at : (u v : Bool) → eqb k 15 ≡ u → eqb k 16 ≡ v → (u || v) ≡ true → Sign bytes k
      at true v e f h = record { sign = 43; is_sign = plus; kind_is = eqb-true k 15 e ∙ sign_kinds.0; signs = of.opens table ∙ e }
      at false true e f h = record { sign = 45; is_sign = minus; kind_is = eqb-true k 16 f ∙ sign_kinds.1; signs = of.closes table ∙ f }
      at false false e f h = absurd (true≢false (sym h))

  no_sign : t ≡ false → (signed 43 bytes ≡ false) × (signed 45 bytes ≡ false)
  no_sign q = at (eqb k 15) (eqb k 16) refl refl (sym is ∙ q)
    where
      at : (u v : Bool) → eqb k 15 ≡ u → eqb k 16 ≡ v → (u || v) ≡ false → (signed 43 bytes ≡ false) × (signed 45 bytes ≡ false)
      at false false e f h = (of.opens table ∙ e, of.closes table ∙ f)
      at true v e f h = absurd (true≢false h)
      at false true e f h = absurd (true≢false h)

-- ---- how it ends

module _ {book : Bytes} {N limit : ℕ} {s : Stores} {at n used entries b : ℕ} {tb ts ix w : List ℕ} {o : Open} (g : Going book N limit s at n used entries b tb ts ix w o) (f : Fitting book limit w)
    {next : ℕ} (end : LineEnd book at next) (inside : at < length book) {ks : Bytes} (table : KindsTable ks) {k : ℕ} (of : SignOf ks (piece_at book at next) k)
    {t : Bool} (is : t ≡ (eqb k 15 || eqb k 16)) where
  abbrev bytes : Bytes
  bytes = piece_at book at next

  piece : IsPiece book at next bytes
  piece = is_piece end inside

  -- a paragraph line
  module _ (flag : t ≡ true) {code : ℕ} (w' : List ℕ) {o' : Open}
      (post : reader_units * limit ≤ length w → MovedPost ks book tb n (take (reader_units * limit) w) (take (reader_units * limit) w') at next k o code o') where
    moves : MovedResult book tb n (take (reader_units * limit) w') next (state_of g.recorded) bytes code o'
    moves =
        let enough : reader_units * limit ≤ length w = let e = f.enough in omega arith in
        let x = a_sign_lem of table is flag in
        (post enough).means (state_of g.recorded) bytes
        (record {
          kinds = table;
          limit = limit;
          large = f.large;
          small = f.small;
          size = length-take-le (reader_units * limit) w enough;
          known = reached_known tb g.reached;
          stands = g.stands;
          named = g.opened;
          cut = piece.cut;
          bytes_are = piece.bytes_are;
          sign = x.sign;
          is_sign = x.is_sign;
          kind_is = x.kind_is;
          signs = x.signs;
        })

    pub sign_passes : code ≡ 0 → Going book N limit s next n used entries b tb ts ix w' o'
    sign_passes z = going_moved book N limit s g piece z moves

    pub sign_stops : code ≢ 0 → LinesPost (ending book N limit s) N s.table s.terms s.index code n b (unlinked n tb) ts ix
    sign_stops z = going_halts book N limit s g piece z moves

  -- an ordinary line
  module _ (flag : t ≡ false) {code at' n' used' entries' left : ℕ} {tb' ts' ix' w' : List ℕ}
      (post : LinePost book ks limit at next n used entries b tb ts ix w code at' n' used' entries' left tb' ts' ix' w') where
    result : LineResult book N limit s g.recorded at next bytes n b tb ts ix code n' used' entries' left tb' ts' ix' w'
    result = let (opens, closes) = no_sign of table is flag in post.means f table piece opens closes g.reached g.indexed g.stands

    pub line_passes : code ≡ 0 → Going book N limit s at' n' used' entries' left tb' ts' ix' w' o
    line_passes z = rw (post.onward z) (going_on book N limit s g piece z result)

    pub line_stops : code ≢ 0 → LinesPost (ending book N limit s) N s.table s.terms s.index code n' left (unlinked n' tb') ts' ix'
    line_stops z = going_stops book N limit s g piece z result

-- what a paragraph line leaves of the units of name lookup, with those behind them
pub moved_part : {ks book tb u : List ℕ} {n at next k m code : ℕ} {o o' : Open} (part rest : List ℕ) → length u ≡ m → MovedPost ks book tb n u part at next k o code o'
    → MovedPost ks book tb n u (take m (part ++ rest)) at next k o code o'
moved_part {m = m} part rest e post = rw (take_at part rest m (post.kept.long ∙ e)) post
