-- A sink in memory. This project's profile.
use Rattle.std.specs.Prelude.{ℕ, ◌-◌, ◌<◌, ◌⊎◌, List, [], ◌++◌, Option, None, Some, length}
use Rattle.rd_io.specs.Calls.{CallCount, FailsNext, no_calls, with_call, with_fault}

-- the bytes so far, how many more there is room for, the bytes when a write last failed, and the calls of write
pub record SinkState : Type 0 where
  pub written : List ℕ
  pub room : ℕ
  pub at_fault : Option (List ℕ)
  pub calls : CallCount

-- a sink that nothing was written to
abbrev pub empty_sink : ℕ → List ℕ → SinkState
empty_sink room failing = record { written = []; room = room; at_fault = None; calls = no_calls failing }

-- the next write is named among those that are to fail, or its part is longer than the room that is left
abbrev pub RefusesPart : SinkState → List ℕ → Type 0
RefusesPart sink part = FailsNext sink.calls ⊎ (sink.room < length part)

-- one more call, which wrote this part
abbrev pub with_part : SinkState → List ℕ → SinkState
with_part sink part = record sink {
  written = sink.written ++ part;
  room = sink.room - length part;
  calls = with_call sink.calls;
}

-- one more call, which failed
abbrev pub with_failed_write : SinkState → SinkState
with_failed_write sink = record sink { at_fault = Some sink.written; calls = with_fault (with_call sink.calls) }
