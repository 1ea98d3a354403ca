-- Calls of which some are to fail. This project's profile.
use Rattle.std.specs.Prelude.{ℕ, List}
use Rattle.std.specs.List.{Contains}
use Rattle.rd_io.specs.Inputs.{next_count}

-- the numbers of the calls that are to fail, counted from 1; how many calls there were; how many failed
pub record CallCount : Type 0 where
  pub failing : List ℕ
  pub made : ℕ
  pub faults : ℕ

-- no call yet
abbrev pub no_calls : List ℕ → CallCount
no_calls failing = record { failing = failing; made = 0; faults = 0 }

-- the next call is named among those that are to fail
abbrev pub FailsNext : CallCount → Type 0
FailsNext calls = Contains calls.failing (next_count calls.made)

-- one more call
abbrev pub with_call : CallCount → CallCount
with_call calls = record { failing = calls.failing; made = next_count calls.made; faults = calls.faults }

-- one more fault
abbrev pub with_fault : CallCount → CallCount
with_fault calls = record { failing = calls.failing; made = calls.made; faults = next_count calls.faults }
