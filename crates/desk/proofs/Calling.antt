-- A call: the strings are judged over the stores that the admission left, and the working store is cleared again.
use mathlib.Core.Path.{◌≡◌, sym, ◌∙◌}
use mathlib.Core.Bool.{Bool}
use mathlib.Core.List.{List, ◌++◌}
use Prim.Native.Nat.{ℕ, ◌*◌}
use native.Mathlib.Omega.{arith}
use lib.ListN.{length, take, drop}
use lib.Seq.{length_front, drop_at}
use Rattle.aut68.specs.Language.{aut68}
use Rattle.aut68.specs.Sizes.{work_units}
use Rattle.aut68.specs.Stores.{Stores, stores, limits_of}
use Rattle.aut68.specs.Bytes.{Bytes}
use Rattle.aut68.specs.Procedure.Run.{run}
use Rattle.aut68.specs.Demands.{Determined}
use Rattle.aut68.specs.Desk.{ComparesStrings}
use Rattle.cells.specs.Posts.{cleared}
use Rattle.theorems.proofs.Admission.{last_line, front_long, work_cleared, lines_held}
use Rattle.theorems.proofs.Desk.{strings_judged}
use Rattle.judging.specs.Posts.{JudgedPost}

module _ (book : Bytes) (N L : ℕ) (s : Stores) {code line steps : ℕ} {tb ts w ix : List ℕ}
    (d : Determined (run aut68 book (limits_of N L s)) L s code line steps (stores tb ts w ix)) (accept : code ≡ 0) where
  abbrev n : ℕ
  n = work_units * L

  -- it was cut there for the comparison, and is whole again
  whole_cleared : (w' : List ℕ) → length w' ≡ length (take n w) → cleared n (w' ++ drop n w) ≡ w
  whole_cleared w' e = work_cleared aut68 book N L s d accept (w' ++ drop n w) (length_front w w' n e) (drop_at w' (drop n w) n (e ∙ front_long aut68 book N L s d accept))

  pub compared_over : (w' : List ℕ) {second : Bool} {left right w'' : List ℕ} {own c l m k : ℕ} → JudgedPost second tb ts (take n w) L line left right own c l m k
      → length w' ≡ length (take n w) → w'' ≡ cleared n (w' ++ drop n w) → ComparesStrings second book N L s left right own c l m k (stores tb ts w'' ix)
  compared_over w' J e q =
      rw (q ∙ whole_cleared w' e, J.no_line, J.nothing_written)
      (strings_judged book N L s d accept
      (J.means _ (lines_held aut68 book N L s d accept) (sym (last_line aut68 book N L s d accept)) (omega (arith, front_long aut68 book N L s d accept))))
