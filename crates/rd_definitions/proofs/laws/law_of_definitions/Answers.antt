use Rattle.rd_definitions.proofs.DefinitionLemmas.{defined_found, definition_found, found_before, found_by_last, found_by_other, named_or_none}
use Rattle.rd_definitions.proofs.laws.law_of_definitions.Goals as goal

pub returns-clause-found : goal.returns-clause-found
returns-clause-found c = definition_found

pub returns-clause-unknown : goal.returns-clause-unknown
returns-clause-unknown c = named_or_none

pub returns-clause-before : goal.returns-clause-before
returns-clause-before c = found_before

pub returns-clause-last : goal.returns-clause-last
returns-clause-last c = found_by_last

pub returns-clause-other : goal.returns-clause-other
returns-clause-other c = found_by_other

pub returns-clause-defined : goal.returns-clause-defined
returns-clause-defined c = defined_found
