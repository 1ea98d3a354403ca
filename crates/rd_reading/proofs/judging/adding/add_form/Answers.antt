use Rattle.std.proofs.Common.{subst, sym}
use Rattle.std.specs.Prelude.{OnOk}
use Rattle.std.proofs.lemmas.Result.{on_ok_weaker}
use Rattle.rd_lines.specs.Lines.{said_of}
use Rattle.rd_reading.specs.Adding.{FormAdds}
use Rattle.rd_reading.proofs.judging.adding.add_form.Goals as goal

pub returns-in-Define-clause-adds : goal.returns-in-Define-clause-adds
returns-in-Define-clause-adds c =
    subst (λ form. OnOk c.add_definition.result
    (FormAdds c.args.version c.args.known.now c.args.line.now c.args.tokens.now (said_of form) c.add_definition.new.known)) (sym c.in-Define.is)
    (on_ok_weaker c.add_definition.result (λ adds. adds c.args.version) c.add_definition.ensures.adds)
