-- How much a reading that may break off has read.
use Rattle.std.specs.Prelude.{ℕ, Result, Ok, Err}
use Rattle.programs.specs.declared.Cut.{Cut}

abbrev pub bytes_read : Result ℕ Cut → ℕ
bytes_read (Ok n) = n
bytes_read (Err cut) = cut.bytes
