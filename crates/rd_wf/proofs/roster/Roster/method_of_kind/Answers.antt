use Rattle.std.proofs.Common.{sym, ap, ◌∙◌}
use Rattle.rd_tables.specs.Tables.{found_method}
use Rattle.rd_wf.proofs.RosterLemmas.{kind_methods, no_methods}
use Rattle.rd_wf.proofs.roster.Roster.method_of_kind.Goals as goal

pub returns-in-Some : goal.returns-in-Some
returns-in-Some c = λ kinds lines stands.
    c.find.ensures.found ∙ ap (λ methods. found_method methods c.args.name.now) (kind_methods kinds c.args.self.now lines stands c.args.kind _ (sym c.in-Some.ensures.entry))

pub returns-in-None : goal.returns-in-None
returns-in-None c = λ kinds lines stands.
    ap (λ methods. found_method methods c.args.name.now) (sym (no_methods kinds c.args.self.now lines stands c.args.kind (sym c.in-None.ensures.entry)))
