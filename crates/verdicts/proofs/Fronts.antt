-- The pieces of a book before the one at which it is refused.
use Rattle.std.specs.Prelude.{◌≡◌, ℕ, List, ◌∷◌, ◌++◌, length, take}
use Rattle.std.proofs.Common.{ap, sym, ◌∙◌, take_at}
use Rattle.aut68.specs.Bytes.{Bytes}

-- the pieces that passed are those before it
pub front_is : {pieces : List Bytes} (past : List Bytes) (bytes : Bytes) (rest : List Bytes) (q : pieces ≡ past ++ (bytes ∷ rest))
    (n : ℕ) → n ≡ length past → take n pieces ≡ past
front_is past bytes rest q n e = ap (take n) q ∙ take_at past (bytes ∷ rest) n (sym e)
