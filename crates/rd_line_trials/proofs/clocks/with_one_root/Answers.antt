use Rattle.std.proofs.Common.{false}
use Rattle.rd_line_trials.proofs.clocks.with_one_root.Goals as goal

pub returns-clause-stands : goal.returns-clause-stands
returns-clause-stands c = c.in_ok-root.ensures.ok (λ t. false) c.new-tracker.ensures.stands
