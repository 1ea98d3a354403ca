use Rattle.rd_check_command.proofs.ReportLemmas.{differs_where, none_reported, raced_where, texts_report}
use Rattle.rd_walk.specs.Walk.{ending_of, entries_of}
use Rattle.rd_check_command.proofs.laws.law_of_reports.Goals as goal

pub returns : goal.returns
returns c = record {
  report = λ form kinds. texts_report kinds form;
  none = none_reported;
  raced = λ form kinds walked. raced_where kinds (entries_of walked) (ending_of walked);
  differs = λ form kinds walked. differs_where kinds (entries_of walked) (ending_of walked);
}
