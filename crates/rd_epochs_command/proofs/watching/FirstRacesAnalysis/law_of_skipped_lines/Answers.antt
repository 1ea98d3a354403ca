use Rattle.rd_event.specs.declared.items.Line.TheVariants.{Skip}
use Rattle.rd_walk.specs.Walk.{Entry}
use Rattle.rd_epochs_command.proofs.QuietLemmas.{quiet_leads, quiet_text}
use Rattle.rd_epochs_command.proofs.watching.FirstRacesAnalysis.law_of_skipped_lines.Goals as goal

pub returns-clause-leads : goal.returns-clause-leads
returns-clause-leads c = λ kinds start before leads next.
    let entry : Entry = record { number = c.args._number; item = Skip } in quiet_leads kinds start c.args.self.now before entry c.args._roster.now leads next

pub returns-clause-silent : goal.returns-clause-silent
returns-clause-silent c = λ kinds start before leads next.
    let entry : Entry = record { number = c.args._number; item = Skip } in quiet_text kinds start c.args.self.now before entry c.args._roster.now leads next
