use Rattle.rd_walk.specs.Walk.{entries_of, items, trace_by}
use Rattle.rd_walk.proofs.AcceptedLemmas.{text_accepted}
use Rattle.rd_walk.proofs.AcceptedLineLemmas.{trace_walk}
use Rattle.rd_rules.proofs.EventsLemmas.{accepted_told, told_formed}
use Rattle.rd_walk.proofs.laws.law_of_walks.Goals as goal

pub returns : goal.returns
returns c = record {
  walk = trace_walk;
  accepted = text_accepted;
  formed = λ says kinds limits usable range stop bytes.
      told_formed kinds (items (entries_of (trace_by says kinds limits stop bytes)))
      (accepted_told kinds (items (entries_of (trace_by says kinds limits stop bytes))) (text_accepted says kinds limits usable range stop bytes));
}
