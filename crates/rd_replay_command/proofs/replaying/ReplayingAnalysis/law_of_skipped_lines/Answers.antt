use Rattle.std.proofs.Common.{refl}
use Rattle.rd_event.specs.declared.items.Line.TheVariants.{Skip}
use Rattle.rd_rules.specs.declared.causes.Accepted.TheVariants.{Nothing}
use Rattle.rd_walk.specs.Walk.{Entry}
use Rattle.rd_replay_command.proofs.ReplayingLemmas.{nothing_no_call, nothing_no_object, replayed_quiet}
use Rattle.rd_replay_command.proofs.replaying.ReplayingAnalysis.law_of_skipped_lines.Goals as goal

pub returns-clause-leads : goal.returns-clause-leads
returns-clause-leads c = λ kinds start before replayed next.
    let entry : Entry = record { number = c.args._number; item = Skip } in
    let replayer = c.args.self.now.replayer in
    replayed_quiet kinds before entry replayer replayer replayed c.args._roster.now Nothing next (nothing_no_object Nothing refl) (nothing_no_call Nothing refl)
