use Rattle.std.proofs.Common.{ap, subst, sym}
use Rattle.rd_check_command.specs.Checked.{races_of}
use Rattle.rd_gen_command.specs.GeneratedWalks.{generated_walk}
use Rattle.rd_gen_laws.proofs.ExactLemmas.{replays_exact}
use Rattle.rd_gen_laws.proofs.StatusLemmas.{exact_status}
use Rattle.rd_gen_laws.proofs.TurnLemmas.{lines_end}
use Rattle.rd_gen_laws.specs.WellEnded.{IsGeneratedStatus}
use Rattle.rd_kinds.specs.Shipped.{shipped_kinds}
use Rattle.rd_replay_command.specs.Replaying.{replay_of}
use Rattle.rd_replay_command.specs.States.{built_in_kinds}
use Rattle.rd_walk.specs.Walk.{entries_of}
use Rattle.rd_gen_laws.proofs.laws.law_of_generated_replays.Goals as goal

pub returns-clause-exact : goal.returns-clause-exact
returns-clause-exact c = replays_exact

pub returns-clause-status : goal.returns-clause-status
returns-clause-status c limits number count rose old new outcome is =
    let walked = generated_walk built_in_kinds limits number count in
    let entries = entries_of walked in
    subst IsGeneratedStatus (sym (ap (λ o. o.status) is))
    (exact_status (races_of shipped_kinds entries) (replay_of built_in_kinds entries) walked (replays_exact limits number count) (lines_end limits number count))
