-- What `replay` means. This project's profile.
use Rattle.std.specs.Prelude.{ℕ, List}
use Rattle.rd_replay_command.specs.States.{replay_texts, built_in_kinds}
use Rattle.rd_walk.specs.Meanings.{Meaning, report_meaning}

-- `replay TRACE`
abbrev pub replay_meaning : List ℕ → Meaning
replay_meaning trace = report_meaning (replay_texts built_in_kinds) built_in_kinds trace
