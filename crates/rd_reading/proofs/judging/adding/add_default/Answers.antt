use Rattle.std.proofs.Common.{ap}
use Rattle.rd_reading.specs.Adding.{with_open}
use Rattle.rd_open_kind.specs.Opened.{Opened}
use Rattle.rd_lines.specs.declared.forms.Stage.TheVariants.{Defaulted}
use Rattle.rd_reading.proofs.AddLemmas.{default_added}
use Rattle.rd_reading.proofs.judging.adding.add_default.Goals as goal

pub returns-clause-adds : goal.returns-clause-adds
returns-clause-adds c =
    default_added c.args.known.now c.in-Some.block (cc) c.args.value _
    (ap (λ (opened : Opened). with_open c.args.known.now opened Defaulted) c.set_default.ensures)
