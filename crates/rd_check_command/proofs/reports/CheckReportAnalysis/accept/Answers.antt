use Rattle.std.proofs.Common.{List, [], ◌∷◌, ◌++◌, ap, sym, ◌∙◌}
use Rattle.std.proofs.lemmas.List.{append-nil}
use Rattle.std.proofs.lemmas.Result.{on_ok_weaker}
use Rattle.rd_ecl.specs.Kinds.{Kind}
use Rattle.rd_event.specs.declared.items.Line.{Line as Item}
use Rattle.rd_wf.specs.declared.roster.Roster.{Roster}
use Rattle.rd_walk.specs.Analysis.{IsNextEntry}
use Rattle.rd_walk.specs.Walk.{Entry}
use Rattle.rd_walk.proofs.OutputLemmas.{always_err}
use Rattle.rd_replay_command.specs.Replaying.{Replayed}
use Rattle.rd_check_command.specs.Checked.{race_texts}
use Rattle.rd_check_command.proofs.reports.CheckReportAnalysis.accept.Goals as goal

pub accept-requires : goal.accept-requires
accept-requires g c =
    let (kinds, start, before, item, leads, next) = c.requires in (kinds, start.check, before, item, leads.checks, next)

pub follow-requires : goal.follow-requires
follow-requires g c =
    let (kinds, start, before, item, leads, next) = c.requires in (kinds, before, item, c.args.roster.now, leads.replayed, next)

pub returns-in-Ok-clause-leads : goal.returns-in-Ok-clause-leads
returns-in-Ok-clause-leads g c = on_ok_weaker c.follow.result
    (λ (all : (kinds : List Kind) (before : List Entry) (item : Item) (roster : Roster) → Replayed kinds before c.args.self.now.replayer
    → IsNextEntry kinds roster before c.args.number item c.args.accepted.now → Replayed kinds (before ++ record { number = c.args.number; item = item } ∷ []) c.follow.new.replayer)
    kinds start before item leads next asked. record {
      checks = c.in-Ok.ensures.leads kinds start.check before item leads.checks next tt;
      replayed = all kinds before item c.args.roster.now leads.replayed next;
    })
    c.follow.ensures.follows

pub returns-in-Ok-clause-written : goal.returns-in-Ok-clause-written
returns-in-Ok-clause-written g c = on_ok_weaker c.follow.result (λ _ kinds start before item leads next.
    c.in-Ok.ensures.written kinds start.check before item leads.checks next) c.follow.ensures.follows

pub returns-in-Ok-clause-halted : goal.returns-in-Ok-clause-halted
returns-in-Ok-clause-halted g c = always_err _ c.follow.result (λ kinds start before item leads next.
    let (part, is, wrote) = c.in-Ok.ensures.written kinds start.check before item leads.checks next in
    (part, [], is ∙ ap (λ p. race_texts start.check.form start.check.spec.now before ++ p) (sym (append-nil part)), wrote))

pub returns-in-Ok-clause-cost : goal.returns-in-Ok-clause-cost
returns-in-Ok-clause-cost g c = λ kinds start before item leads next. c.accept.ensures.cost kinds start.check before item leads.checks next

pub returns-in-Err-clause-halted : goal.returns-in-Err-clause-halted
returns-in-Err-clause-halted g c = λ kinds start before item leads next. c.in-Err.ensures.halted kinds start.check before item leads.checks next

pub returns-in-Err-clause-cost : goal.returns-in-Err-clause-cost
returns-in-Err-clause-cost g c = λ kinds start before item leads next. c.in-Err.ensures.cost kinds start.check before item leads.checks next
