-- What `epochs` means. This project's profile.
use Rattle.std.specs.Prelude.{ℕ, List}
use Rattle.rd_epochs_command.specs.Firsts.{epochs_texts}
use Rattle.rd_epochs_command.specs.Watching.{memory_kinds}
use Rattle.rd_walk.specs.Meanings.{Meaning, report_meaning}

-- `epochs TRACE`
abbrev pub epochs_meaning : List ℕ → Meaning
epochs_meaning trace = report_meaning epochs_texts memory_kinds trace
