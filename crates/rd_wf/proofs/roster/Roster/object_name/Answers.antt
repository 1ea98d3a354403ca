use Rattle.std.proofs.Common.{option_map, sym, ap, ◌∙◌}
use Rattle.std.specs.Map.Iter.{deref_pair}
use Rattle.rd_wf.proofs.RosterLemmas.{object_at}
use Rattle.rd_wf.proofs.roster.Roster.object_name.Goals as goal

pub returns-clause-history : goal.returns-clause-history
returns-clause-history c = λ kinds lines stands.
    object_at kinds c.args.self.now lines stands c.args.object _ (sym c.get_index.ensures.entry ∙ ap (option_map deref_pair) c.unwrap.ensures)
