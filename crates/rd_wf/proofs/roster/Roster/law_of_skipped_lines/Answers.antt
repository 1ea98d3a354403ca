use Rattle.std.proofs.Common.{refl, arith}
use Rattle.rd_rules.specs.MayFollow.{first_broken}
use Rattle.rd_wf.proofs.NextLemmas.{after_skip}
use Rattle.rd_wf.proofs.roster.Roster.law_of_skipped_lines.Goals as goal

pub returns-clause-follows : goal.returns-clause-follows
unfolding first_broken
returns-clause-follows c = λ kinds limits lines. refl

pub returns-clause-stands : goal.returns-clause-stands
returns-clause-stands c = λ kinds lines stands.
    after_skip kinds c.args.self.now c.args.self.now lines stands refl refl refl refl refl refl refl

pub returns-clause-few : goal.returns-clause-few
returns-clause-few c = λ kinds lines stands.
    let now = after_skip kinds c.args.self.now c.args.self.now lines stands refl refl refl refl refl refl refl in
    omega (arith, now.thread_total, c.args.self.now.few_threads)
