use Rattle.std.proofs.Common.{◌∙◌, ap}
use Rattle.rd_ecl.specs.Specified.{SpecifiedKind}
use Rattle.rd_reading.proofs.KindLemmas.{open_named}
use Rattle.rd_reading.proofs.judging.kinds.names_open.Goals as goal

pub returns-in-Some : goal.returns-in-Some
returns-in-Some c =
    open_named c.args.name.now c.args.known.now.block c.in-Some.block c.in-Some.is c.items.result.now c.items-in-Some.result.now c.items.ensures.value
    (c.items-in-Some.ensures.value ∙ c.name.ensures ∙ ap (λ (kind : SpecifiedKind). kind.name) c.draft.ensures.value) c.eq.result c.eq.ensures
