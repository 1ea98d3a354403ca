use Rattle.std.proofs.Common.{subst}
use Rattle.rd_kinds.specs.Shipped.{reserved_names}
use Rattle.rd_reading.specs.Texts.{SpecSays}
use Rattle.rd_reading.proofs.NameLemmas.{read_names}
use Rattle.rd_spec_command.proofs.specifications.read_spec.Goals as goal

pub returns-in-Ok-parse-clause-names : goal.returns-in-Ok-parse-clause-names
returns-in-Ok-parse-clause-names g c =
    read_names c.items.result.now reserved_names c.in-Ok-parse.said
    (subst (λ taken. SpecSays c.items.result.now taken c.in-Ok-parse.said) c.reserved.ensures c.in-Ok-parse.ensures.ok)
