use Rattle.std.proofs.Common.{◌≡◌, ◌<◌, ◌^◌, length}
use Rattle.rd_io.specs.Inputs.{Goes}
use Rattle.rd_logs.specs.WholeLogs.{log_texts}
use Rattle.rd_log_files.proofs.FileLemmas.{CountsLogs, ReadSoFar}
use Rattle.rd_log_files.proofs.files.read_logs.Given as goal

abbrev pub invariant-loop-file : goal.invariant-loop-file
invariant-loop-file g l =
    Goes (g.I.Inputs.told l.initial.inputs) (g.I.Inputs.told l.inputs)
    (λ old new. old.opens < 2 ^ 63 → ReadSoFar l.limits l.files l.file-index (log_texts l.logs.items) old new)
    × CountsLogs l.limits (log_texts l.logs.items) l.events
    × (length (log_texts l.logs.items) ≡ l.file-index)
    × (g.I.Inputs.faults l.inputs ≡ g.I.Inputs.faults l.initial.inputs)
