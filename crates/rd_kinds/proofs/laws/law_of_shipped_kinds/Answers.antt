use Rattle.rd_kinds.proofs.NameLemmas.{listed_differ, names_differ, names_reserved}
use Rattle.rd_kinds.proofs.ShippedLemmas.{shipped_are}
use Rattle.rd_kinds.proofs.laws.law_of_shipped_kinds.Goals as goal

pub returns-clause-kinds : goal.returns-clause-kinds
returns-clause-kinds c = shipped_are

pub returns-clause-different : goal.returns-clause-different
returns-clause-different c = names_differ

pub returns-clause-different_in_traces : goal.returns-clause-different_in_traces
returns-clause-different_in_traces c = listed_differ

pub returns-clause-reserved : goal.returns-clause-reserved
returns-clause-reserved c = names_reserved
