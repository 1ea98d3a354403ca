use Rattle.std.proofs.Common.{◌∙◌}
use Rattle.rd_rewriting.proofs.KeepingLemmas.{keeps_entry}
use Rattle.rd_reorder_command.proofs.KeptLemmas.{events_entry}
use Rattle.rd_walk.specs.Walk.{Entry}
use Rattle.rd_reorder_command.proofs.reordering.ReorderingAnalysis.accept.Goals as goal

pub returns-in-Ok-clause-leads : goal.returns-in-Ok-clause-leads
returns-in-Ok-clause-leads g c = λ kinds start before item leads next asked.
    let entry : Entry = record { number = c.args._number; item = item } in
    record {
      number = c.keep.ensures.number ∙ leads.number;
      keeps = keeps_entry kinds before entry c.args.bytes.now c.args.self.now.kept c.keep.new.self.kept c.args._roster.now c.args.accepted.now leads.keeps next asked c.in-Ok.ensures.kept;
      events = events_entry kinds before entry c.args.self.now c.keep.new.self c.args._roster.now c.args.accepted.now leads.events next c.in-Ok.ensures.events;
    }
