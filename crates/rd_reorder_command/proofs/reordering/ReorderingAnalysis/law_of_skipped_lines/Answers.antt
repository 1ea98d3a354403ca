use Rattle.std.proofs.Common.{[], map, sym, ap, ◌∙◌}
use Rattle.rd_event.specs.declared.items.Line.TheVariants.{Skip}
use Rattle.rd_reorder_command.proofs.KeptLemmas.{events_skipped}
use Rattle.rd_reorder_command.specs.Values.{without_values}
use Rattle.rd_rewriting.proofs.KeepingLemmas.{keeps_entry, nothing_more, skip_spelled}
use Rattle.rd_rules.specs.declared.causes.Accepted.TheVariants.{Nothing}
use Rattle.rd_reorder_command.proofs.reordering.ReorderingAnalysis.law_of_skipped_lines.Goals as goal

pub returns-clause-leads : goal.returns-clause-leads
returns-clause-leads c = λ kinds start before leads next.
    let kept = c.args.self.now.kept in record {
      number = leads.number;
      keeps = keeps_entry kinds before (record { number = c.args._number; item = Skip }) [] kept kept c.args._roster.now Nothing leads.keeps next (skip_spelled []) (nothing_more kept []);
      events = leads.events ∙ ap (map without_values) (sym (events_skipped kinds before c.args._number));
    }
