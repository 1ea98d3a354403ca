use Rattle.rd_detect.proofs.CellLemmas.{stands_quiet, stands_unbegun}
use Rattle.rd_detect.proofs.laws.law_of_detectors.Goals as goal

pub returns-clause-events : goal.returns-clause-events
returns-clause-events c = stands_quiet

pub returns-clause-roots : goal.returns-clause-roots
returns-clause-roots c = stands_unbegun
