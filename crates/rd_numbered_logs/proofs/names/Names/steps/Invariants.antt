use Rattle.std.proofs.Common.{◌≡◌, ◌≤◌, length, take}
use Rattle.rd_numbered_logs.specs.LogNames.{mentioning_all}
use Rattle.rd_numbered_logs.specs.Numbering.{AreSteps}
use Rattle.rd_numbered_logs.proofs.names.Names.steps.Given as goal

abbrev pub invariant-loop-noted : goal.invariant-loop-noted
invariant-loop-noted l = record {
  names : l.self ≡ mentioning_all l.initial.self (take l.noted-index l.events);
  steps : AreSteps l.self l.thread (take l.noted-index l.events) l.steps.items;
  known : length l.initial.self.threads ≤ length l.self.threads;
}
