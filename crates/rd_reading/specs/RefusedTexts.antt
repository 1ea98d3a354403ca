-- The line that tells where and why a specification is refused: this project's profile.
use Rattle.std.specs.Prelude.{ℕ, List, ◌++◌, codes, decimal}
use Rattle.rd_base.specs.Limits.{limit_cause_text}
use Rattle.rd_ecl.specs.declared.formulas.Reason.{Reason}
use Rattle.rd_ecl.specs.declared.formulas.Reason.TheVariants.{CrossRelation, NotOverCross, OrOfCross}
use Rattle.rd_pairs.specs.declared.spec_causes.SpecCause.{SpecCause}
use Rattle.rd_pairs.specs.declared.spec_causes.SpecCause.TheVariants.{Header, Syntax, UnknownMethod, UnknownVariable, NoVariable, OutsideFragment, Duplicate, MissingPair, KindTaken, Limit}
use Rattle.rd_reading.specs.declared.parsing.SpecRefused.{SpecRefused as Refusal}

-- why a formula isn't in the fragment
unfoldable pub reason_text : Reason → List ℕ
reason_text CrossRelation = codes "cross-relation"
reason_text NotOverCross = codes "not-over-cross"
reason_text OrOfCross = codes "or-of-cross"

-- the text of a cause
unfoldable pub spec_cause_text : SpecCause → List ℕ
spec_cause_text Header = codes "header"
spec_cause_text Syntax = codes "syntax"
spec_cause_text UnknownMethod = codes "unknown-method"
spec_cause_text UnknownVariable = codes "unknown-variable"
spec_cause_text NoVariable = codes "no-variable"
spec_cause_text (OutsideFragment reason) = codes "outside-fragment " ++ reason_text reason
spec_cause_text Duplicate = codes "duplicate"
spec_cause_text (MissingPair first second) = codes "missing-pair " ++ first ++ codes " " ++ second
spec_cause_text KindTaken = codes "kind-taken"
spec_cause_text (Limit name number) = limit_cause_text name number

-- the line of a refusal
abbrev pub spec_refused_line : Refusal → List ℕ
spec_refused_line refused =
    codes "refused spec line " ++ decimal refused.line ++ codes " place " ++ decimal refused.place ++ codes " "
    ++ spec_cause_text refused.cause ++ codes "\n"
