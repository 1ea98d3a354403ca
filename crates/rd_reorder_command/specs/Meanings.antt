-- What `reorder` means. This project's profile.
use Rattle.std.specs.Prelude.{ℕ, List}
use Rattle.rd_reorder_command.specs.Outcomes.{reorder_texts}
use Rattle.rd_replay_command.specs.States.{built_in_kinds}
use Rattle.rd_walk.specs.Meanings.{Meaning, report_meaning}

-- `reorder TRACE NUMBER`
abbrev pub reorder_meaning : List ℕ → ℕ → Meaning
reorder_meaning trace number = report_meaning (reorder_texts number built_in_kinds) built_in_kinds trace
