use Rattle.std.proofs.Common.{◌≡◌}
use Rattle.rd_kinds.specs.Objects.{object_kind}
use Rattle.rd_kind_trials.proofs.objects.run_both.Given as goal

abbrev pub invariant-loop-call : goal.invariant-loop-call
invariant-loop-call g l = object_kind l.object ≡ l.kind
