use Rattle.rd_spec.proofs.AgainLemmas.{read_again}
use Rattle.rd_spec.proofs.BlockLines.{blocks_said}
use Rattle.rd_spec.proofs.BlockLemmas.{said_blocks}
use Rattle.rd_reading.proofs.DraftLemmas.{said_kinds}
use Rattle.rd_reading.proofs.NameLemmas.{read_names}
use Rattle.rd_reading.proofs.OneLemmas.{one_said, never_refused}
use Rattle.rd_reading.proofs.RefusalLemmas.{one_refusal}
use Rattle.rd_reading.proofs.VerdictLemmas.{judged_text}
use Rattle.rd_spec.proofs.laws.law_of_specifications.Goals as goal

pub returns-clause-judged : goal.returns-clause-judged
returns-clause-judged c = judged_text

pub returns-clause-one : goal.returns-clause-one
returns-clause-one c = one_said

pub returns-clause-refusal : goal.returns-clause-refusal
returns-clause-refusal c = one_refusal

pub returns-clause-right : goal.returns-clause-right
returns-clause-right c = never_refused

pub returns-clause-blocks : goal.returns-clause-blocks
returns-clause-blocks c = said_blocks

pub returns-clause-kinds : goal.returns-clause-kinds
returns-clause-kinds c = said_kinds

pub returns-clause-names : goal.returns-clause-names
returns-clause-names c = read_names

pub returns-clause-read : goal.returns-clause-read
returns-clause-read c = blocks_said

pub returns-clause-again : goal.returns-clause-again
returns-clause-again c = read_again
