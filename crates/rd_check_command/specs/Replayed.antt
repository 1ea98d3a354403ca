-- What `check` keeps of the accepted lines beside the races: the replay of their calls.
use Rattle.std.specs.Prelude.{◌≡◌, List, []}
use Rattle.rd_ecl.specs.Kinds.{Kind}
use Rattle.rd_ecl.specs.Specified.{SpecifiedKind}
use Rattle.rd_json.specs.declared.forms.Form.{Form}
use Rattle.rd_replay.specs.Replayer.{ReplayerStandsFor}
use Rattle.rd_replay_command.specs.Replaying.{Replayed}
use Rattle.rd_check_command.specs.Checking.{CheckBegins, CheckLeads, IsNew}
use Rattle.rd_check_command.specs.declared.reports.CheckReport.{CheckReport}
use Rattle.rd_walk.specs.Walk.{Entry}

-- it has taken no line, of a trace whose objects are of these kinds, and its report has this form
pub record IsNewReport (form : Form) (kinds : List SpecifiedKind) (start : CheckReport) : Type 0 where
  pub new : IsNew start.check
  pub form_is : start.check.form ≡ form
  pub kinds_are : start.check.spec.now ≡ kinds
  pub no_call : ReplayerStandsFor start.replayer [] []

-- so it is of a trace whose objects are of these kinds, the first of them the built-in ones
pub record ReportBegins (kinds : List Kind) (start : CheckReport) : Type 0 where
  pub checks : CheckBegins kinds start.check
  pub replayed : Replayed kinds [] start.replayer

-- from the first on, races are reported of these lines, and their calls are replayed
pub record ReportLeads (kinds : List Kind) (start : CheckReport) (entries : List Entry) (now : CheckReport) : Type 0 where
  pub checks : CheckLeads kinds start.check entries now.check
  pub replayed : Replayed kinds entries now.replayer
