use Rattle.std.proofs.Common.{subst, sym, ◌∙◌}
use Rattle.std.specs.Prelude.{IfNone, IfSome}
use Rattle.rd_ecl.specs.Specified.{IsWhole, SpecifiedKind}
use Rattle.rd_reading.specs.Parts.{IsMissing}
use Rattle.rd_reading.proofs.MissingLemmas.{default_whole, without_default}
use Rattle.rd_reading.proofs.judging.missing.missing_of.Goals as goal

pub returns-in-Some-clause-none : goal.returns-in-Some-clause-none
returns-in-Some-clause-none c = default_whole c.args.opened.now c.in-Some.field-0 (sym c.default.ensures ∙ c.in-Some.is) c.draft-kind.ensures.valid

pub returns-in-None-clause-some : goal.returns-in-None-clause-some
returns-in-None-clause-some c =
    subst (λ (kind : SpecifiedKind). IfSome c.missing_pair.result (IsMissing kind))
    (c.draft-kind.ensures.value ∙ without_default c.args.opened.now (sym c.default.ensures ∙ c.in-None.is)) c.missing_pair.ensures.some

pub returns-in-None-clause-none : goal.returns-in-None-clause-none
returns-in-None-clause-none c =
    subst (λ (kind : SpecifiedKind). IfNone c.missing_pair.result (IsWhole kind))
    (c.draft-kind.ensures.value ∙ without_default c.args.opened.now (sym c.default.ensures ∙ c.in-None.is)) c.missing_pair.ensures.none
