use Rattle.std.proofs.Common.{sym, ◌∙◌}
use Rattle.rd_wf.proofs.RosterLemmas.{object_known}
use Rattle.rd_wf.proofs.roster.Roster.declare_new.Goals as goal

pub put_object-requires : goal.put_object-requires
put_object-requires c =
    let (kinds, lines, stands, apart) = c.requires in
    sym (object_known kinds c.args.self.now lines stands c.args.name ∙ apart)
