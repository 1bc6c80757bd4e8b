-- What a walk over a line says of the procedure's answers: reading works through bytes, names are looked up from left to right.
use Rattle.std.specs.Prelude.{◌≡◌, ◌≢◌, ◌⊎◌, List, ℕ, ◌+◌, ◌≤◌, ◌<◌, length, drop, take, set, Option, None, Some, Result, Ok, Err}
use Rattle.std.proofs.Math.Seq.{slice}
use Rattle.aut68.specs.Bytes.{Bytes}
use Rattle.aut68.specs.Procedure.Answer.{Answer, done, stop, Refusal, code_of}
use Rattle.aut68.specs.Procedure.Resolve.{Naming, found}
use Rattle.constants.specs.declared.codes.Reason.{Reason}
use Rattle.constants.specs.Reasons.{refusal_of}
use Rattle.expressions.specs.declared.parts.Reading.{Reading}
use Rattle.expressions.specs.declared.numbered.Numbered.{Numbered}

-- How far a walk came, in numbers. code: 0, or that of the refusal of the form that ended it. at, to: the next byte and the next cell.
-- fault: the code of the first refusal of a name, or 0. count: the arguments read, for an argument string.
pub record Walked : Type 0 where
  pub code : ℕ
  pub at : ℕ
  pub to : ℕ
  pub fault : ℕ
  pub count : ℕ

abbrev pub fault_in : Option Reason → ℕ
fault_in None = 0
fault_in (Some r) = code_of (refusal_of r)

-- what was read, in numbers
abbrev pub read_to : Reading → Walked
read_to r = record { code = 0; at = r.at; to = r.to; fault = fault_in r.fault; count = r.count }

-- the same of a walk from byte `at` and cell `to`, which stays there where it is refused
abbrev pub walked : ℕ → ℕ → Result Reading Reason → Walked
walked at to (Ok r) = read_to r
walked at to (Err e) = record { code = code_of (refusal_of e); at = at; to = to; fault = 0; count = 0 }

-- the same where the fault is a number
abbrev pub numbered : ℕ → ℕ → Result Numbered Reason → Walked
numbered at to (Ok r) = record { code = 0; at = r.at; to = r.to; fault = r.fault; count = r.count }
numbered at to (Err e) = record { code = code_of (refusal_of e); at = at; to = to; fault = 0; count = 0 }

-- Code 0 where the procedure reads a value, of which R holds, and goes on at place `at` of s; else the code of its refusal.
pub data ReadTo {A : Type 0} (s : Bytes) (R : A → Type 0) (code at : ℕ) : Answer Bytes A → Type 0 where
  passed : {a : A} {rest : Bytes} → code ≡ 0 → drop at s ≡ rest → R a → ReadTo s R code at (done a rest)
  refused : {r : Refusal} {rest : Bytes} → code ≡ code_of r → ReadTo s R code at (stop r rest)

-- The cells xs of something that is nested n levels deep lie from `to` up to `end` of w, and n is at most d. Where they have no room,
-- or n is more, `end` is past the store's end.
pub record Laid (w : List ℕ) (to end d : ℕ) (xs : List ℕ) (n : ℕ) : Type 0 where
  pub fits : end ≤ length w → (slice to end w ≡ xs) × (n ≤ d)
  pub over : length w < end → (length w < to + length xs) ⊎ (d < n)

-- Fault 0 where the names mean something, with the cells f, nested g levels deep, laid from `to` up to `end` of w; else the code of
-- the refusal.
pub data Faulted {A : Type 0} (f : A → List ℕ) (g : A → ℕ) (w : List ℕ) (to end d fault : ℕ) : Answer (Unit {0}) A → Type 0 where
  whole : {a : A} → fault ≡ 0 → Laid w to end d (f a) (g a) → Faulted f g w to end d fault (found a)
  faulty : {r : Refusal} → fault ≡ code_of r → Faulted f g w to end d fault (stop r tt)

-- the cells below n are as they were
pub record SameBelow (n : ℕ) (w w' : List ℕ) : Type 0 where
  pub long : length w' ≡ length w
  pub is : take n w' ≡ take n w

-- w' is w with the cell x at index `to`, and `next` the index behind it; w, and one past its end, where it has no such index
pub record CellPut (w w' : List ℕ) (to x next : ℕ) : Type 0 where
  pub is : w' ≡ set w to x
  pub room : to < length w → next ≡ to + 1
  pub none : length w ≤ to → next ≡ length w + 1

-- What a walk that read a leaves in the store w, now w', from cell `to` up to `end`, where d nesting levels are left. A fault from
-- before stays; names are looked up only where there was none.
pub record Written {A B : Type 0} (f : B → List ℕ) (g : B → ℕ) (resolveIt : A → Naming B) (w w' : List ℕ) (to end d fault fault' : ℕ) (a : A) : Type 0 where
  pub kept : fault ≢ 0 → fault' ≡ fault
  pub names : fault ≡ 0 → Faulted f g w' to end d fault' (resolveIt a tt)
