use Rattle.std.proofs.Common.{◌≡◌, length}
use Rattle.rd_open_kind.proofs.FilledLemmas.{IsFilledBelow}
use Rattle.rd_open_kind.proofs.filling.fill.Given as goal

abbrev pub invariant-loop-place : goal.invariant-loop-place
invariant-loop-place l = IsFilledBelow l.initial.draft l.value l.place l.draft × (l.count ≡ length l.initial.draft.methods)
