use Rattle.rd_print.proofs.LineLemmas.{spec_lines_text}
use Rattle.rd_print.proofs.PairLemmas.{formula_behind}
use Rattle.rd_print.proofs.SoundLemmas.{lines_sound}
use Rattle.rd_print.proofs.laws.law_of_printed_texts.Goals as goal

pub returns-clause-kinds : goal.returns-clause-kinds
returns-clause-kinds c = spec_lines_text

pub returns-clause-formula : goal.returns-clause-formula
returns-clause-formula c = formula_behind

pub returns-clause-sound : goal.returns-clause-sound
returns-clause-sound c = lines_sound
