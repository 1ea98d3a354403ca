use Rattle.std.proofs.Common.{◌++◌, [], arith, sym, ◌∙◌}
use Rattle.std.specs.List.{cons_option}
use Rattle.rd_adjacent_command.proofs.AdjoiningLemmas.{events_entry, lines_more}
use Rattle.rd_adjacent_command.specs.Adjoining.{line_told}
use Rattle.rd_rewriting.proofs.KeepingLemmas.{keeps_entry}
use Rattle.rd_walk.specs.Walk.{Entry}
use Rattle.rd_adjacent_command.proofs.adjoining.AdjoiningAnalysis.accept.Goals as goal

pub returns-in-Ok-clause-leads : goal.returns-in-Ok-clause-leads
returns-in-Ok-clause-leads g c = λ kinds start before item leads next asked.
    let entry : Entry = record { number = c.args.number; item = item } in
    record {
      order = omega (arith, leads.order, c.keep.ensures.same.0, c.keep.ensures.same.1);
      first = c.keep.ensures.same.0 ∙ leads.first;
      second = c.keep.ensures.same.1 ∙ leads.second;
      keeps = keeps_entry kinds before entry c.args.bytes.now c.args.self.now.kept c.keep.new.self.kept c.args._roster.now c.args.accepted.now leads.keeps next asked c.in-Ok.ensures.kept;
      events = events_entry kinds before entry c.args.self.now c.keep.new.self c.args._roster.now c.args.accepted.now leads.events next c.in-Ok.ensures.events;
      lines = c.in-Ok.ensures.lines
          ∙ (λ i. leads.lines i ++ cons_option (line_told c.args.number (next.numbers i)) [])
          ∙ sym (lines_more kinds before entry);
    }
