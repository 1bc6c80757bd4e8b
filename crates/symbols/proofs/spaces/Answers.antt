use native.Mathlib.Omega.{arith}
use Rattle.symbols.proofs.SymbolLaws.{spaces_start, spaces_last, spaces_found, lent_rest}
use Rattle.symbols.proofs.spaces.Goals as goal

pub returns-then-at-line : goal.returns-then-at-line
returns-then-at-line c = spaces_last (spaces_start _ _) (omega arith) (omega arith) (omega arith) (λ l. omega arith)

pub returns : goal.returns
returns c = rw c.unwrap_or.ensures (spaces_found (omega arith) (lent_rest c.args.line.now c.args.at) c.first_other.ensures)
