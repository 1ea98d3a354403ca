use Rattle.std.proofs.Common.{arith}
use Rattle.std.proofs.lemmas.Grind.{common_steps, elements}
use Rattle.rd_reading.specs.RefusedTexts.{spec_cause_text}
use Rattle.rd_reading.proofs.refused_texts.append_cause.Goals as goal

pub returns-in-UnknownMethod : goal.returns-in-UnknownMethod
unfolding spec_cause_text
returns-in-UnknownMethod c = grind (arith, elements)

pub returns-in-UnknownVariable : goal.returns-in-UnknownVariable
unfolding spec_cause_text
returns-in-UnknownVariable c = grind (arith, elements)

pub returns-in-NoVariable : goal.returns-in-NoVariable
unfolding spec_cause_text
returns-in-NoVariable c = grind (arith, elements)

pub returns-in-OutsideFragment : goal.returns-in-OutsideFragment
unfolding spec_cause_text
returns-in-OutsideFragment c = grind (arith, common_steps)

pub returns-in-MissingPair : goal.returns-in-MissingPair
unfolding spec_cause_text
returns-in-MissingPair c = grind (arith, common_steps)
