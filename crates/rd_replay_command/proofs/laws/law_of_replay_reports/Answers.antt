use Rattle.rd_replay_command.proofs.ReportLemmas.{replayed}
use Rattle.rd_replay_command.proofs.laws.law_of_replay_reports.Goals as goal

pub returns : goal.returns
returns c = replayed
