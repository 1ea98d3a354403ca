use Rattle.std.proofs.Common.{List, [], ◌∷◌, ◌++◌}
use Rattle.std.proofs.lemmas.Result.{on_ok_weaker}
use Rattle.rd_ecl.specs.Kinds.{Kind}
use Rattle.rd_event.specs.declared.items.Line.{Line as Item}
use Rattle.rd_wf.specs.declared.roster.Roster.{Roster}
use Rattle.rd_walk.specs.Analysis.{IsNextEntry}
use Rattle.rd_walk.specs.Walk.{Entry}
use Rattle.rd_replay_command.specs.Replaying.{Replayed}
use Rattle.rd_replay_command.proofs.replaying.ReplayingAnalysis.accept.Goals as goal

pub returns-clause-leads : goal.returns-clause-leads
returns-clause-leads g c = on_ok_weaker c.follow.result
    (λ (all : (kinds : List Kind) (before : List Entry) (item : Item) (roster : Roster) → Replayed kinds before c.args.self.now.replayer
    → IsNextEntry kinds roster before c.args.number item c.args.accepted.now → Replayed kinds (before ++ record { number = c.args.number; item = item } ∷ []) c.follow.new.replayer)
    kinds start before item leads next asked. all kinds before item c.args._roster.now leads next)
    c.follow.ensures.follows
