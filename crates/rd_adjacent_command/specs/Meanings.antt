-- What `adjacent` means. This project's profile.
use Rattle.std.specs.Prelude.{ℕ, List}
use Rattle.rd_adjacent_command.specs.Outcomes.{adjacent_texts}
use Rattle.rd_replay_command.specs.States.{built_in_kinds}
use Rattle.rd_walk.specs.Meanings.{Meaning, report_meaning}

-- `adjacent TRACE LINE LINE`, the lesser line first
abbrev pub adjacent_meaning : List ℕ → ℕ → ℕ → Meaning
adjacent_meaning trace first second = report_meaning (adjacent_texts first second built_in_kinds) built_in_kinds trace
