use Rattle.std.proofs.Common.{sym, ap, ◌∙◌}
use Rattle.rd_tables.specs.Tables.{found_method}
use Rattle.rd_wf.proofs.RosterLemmas.{kind_methods, no_methods}
use Rattle.rd_wf.proofs.roster.Roster.unknown_method.Goals as goal

pub returns-in-Some-clause-found : goal.returns-in-Some-clause-found
returns-in-Some-clause-found c = λ kinds lines stands.
    c.find.ensures.found ∙ ap (λ methods. found_method methods c.args.name.now) (kind_methods kinds c.args.self.now lines stands c.args.kind _ (sym c.in-Some.ensures.entry))

pub returns-in-None-clause-found : goal.returns-in-None-clause-found
returns-in-None-clause-found c = λ kinds lines stands.
    ap (λ methods. found_method methods c.args.name.now) (sym (no_methods kinds c.args.self.now lines stands c.args.kind (sym c.in-None.ensures.entry)))
