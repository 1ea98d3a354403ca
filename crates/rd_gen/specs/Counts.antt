-- What is counted of a generated trace: this project's profile.
use Rattle.std.specs.Prelude.{Bool, true, false}
use Rattle.rd_event.specs.declared.items.Line.{Line}
use Rattle.rd_event.specs.declared.items.Line.TheVariants.{Event}
use Rattle.rd_event.specs.declared.items.LineEvent.TheVariants.{Call}

-- the line is a call
abbrev pub is_call_line : Line → Bool
is_call_line (Event (Call thread object method slots)) = true
is_call_line _ = false
