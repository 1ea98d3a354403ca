use Rattle.std.proofs.Common.{◌≡◌, ◌+◌, ◌<◌, true, [], ◌∷◌, ◌++◌, Ok, length, refl, sym, ap, ◌∙◌, subst, inl, inr, arith}
use Rattle.std.proofs.lemmas.List.{append_assoc, append-nil}
use Rattle.std.proofs.lemmas.List.Elements.{All-nil}
use Rattle.rd_gen_command.proofs.ReportLemmas.{counts_begun}
use Rattle.rd_gen_command.proofs.WalkLemmas.{begun, walks_end, walks_on, walks_refused}
use Rattle.rd_io.proofs.SinkLemmas.{appends_none, appends_on}
use Rattle.rd_io.specs.Sinks.{Appends}
use Rattle.rd_walk.proofs.OutputLemmas.{always_err}
use Rattle.rd_walk.proofs.ProgressLemmas.{all_begun}
use Rattle.rd_walk.proofs.WalkLemmas.{before_next, bound_more, items_more}
use Rattle.rd_rules.specs.MayFollow.{is_event}
use Rattle.rd_walk.specs.Walk.{Entry, after, bound_from, ends, items}
use Rattle.rd_walk.specs.declared.walk.WalkEnd.TheVariants.{Refused}
use Rattle.rd_wf.specs.Roster.{RosterStandsFor, kinds_in}
use Rattle.rd_gen_command.proofs.walk.walk_generated.Goals as goal

pub lines-init : goal.lines-init
unfolding bound_from
lines-init g c =
    let written = g.S.Sink.written c.args.out.now in
    let kinds = kinds_in c.args.walker.now.roster in (
      [],
      begun kinds c.args.walker.now.limits c.args.generator.now.lines,
      c.requires.none,
      g.met.A.Analysis.starts kinds c.args.walker.now.analysis c.requires.begins,
      subst (Appends written written) (sym (g.met.A.Analysis.silent kinds c.args.walker.now.analysis)) (appends_none written written refl),
      omega arith,
      refl,
      refl,
      omega arith,
      All-nil (λ (entry : Entry). is_event entry.item ≡ true → entry.number < 1),
    )

pub returns-in_err-next_into-clause-halted : goal.returns-in_err-next_into-clause-halted
returns-in_err-next_into-clause-halted g c =
    let (entries, so_far, stands, leads, text, cost, calm, same, left, before) = c.lines.invariant in
    let kinds = kinds_in c.args.walker.now.roster in
    let start = c.args.walker.now.analysis in
    let wrote = g.A.Analysis.text kinds start entries in
    let none = sym (append-nil wrote) in
    always_err _ c.from_residual.result (
      entries,
      wrote,
      [],
      text,
      none,
      counts_begun (g.A.Analysis.text kinds start) (g.A.Analysis.bound kinds start) _ _ entries wrote _ _ so_far
          (all_begun (g.A.Analysis.text kinds start) [] wrote entries none) cost,
      _,
      so_far,
    )

pub returns-in-Err-clause-halted : goal.returns-in-Err-clause-halted
returns-in-Err-clause-halted g c =
    let (entries, so_far, stands, leads, text, cost, calm, same, left, before) = c.lines.invariant in
    let kinds = kinds_in c.args.walker.now.roster in
    let limits = c.args.walker.now.limits in
    let start = c.args.walker.now.analysis in
    let wrote = g.A.Analysis.text kinds start entries in
    let line = c.next_into.new.line in
    let rest = c.next_into.new.self.lines in
    let lines = c.in_ok-next_into.ensures.next c.if-branch.true in
    elim (c.in-Err.ensures.halted kinds start entries stands leads before) [
      | inl (quiet, steps) ↦ (
        entries,
        wrote,
        [],
        subst (λ now. Appends (g.S.Sink.written c.args.out.now) now wrote) (sym quiet) text,
        sym (append-nil wrote),
        counts_begun (g.A.Analysis.text kinds start) (g.A.Analysis.bound kinds start) _ _ entries wrote _ _ so_far
            (all_begun (g.A.Analysis.text kinds start) [] wrote entries (sym (append-nil wrote))) (omega (arith, cost, steps)),
        _,
        so_far,
      )
      | inr (accepted, cut) ↦
          let (part, behind, is, writes) = cut.written in
          let entry : Entry = record { number = c.lines.number + 1; item = line } in
          let on = walks_on kinds limits _ entries (c.lines.number + 1) c.lines.generator.lines so_far line rest lines (rw same at accepted) in (
            entries ++ entry ∷ [],
            wrote ++ part,
            behind,
            appends_on _ _ _ wrote part text writes,
            is ∙ sym (append_assoc wrote part behind),
            counts_begun (g.A.Analysis.text kinds start) (g.A.Analysis.bound kinds start) _ _ (entries ++ entry ∷ []) (wrote ++ part) _ _ on
                (record { told = entries; last = entry ∷ []; is = refl; one = omega arith; written = (part, refl) })
                (omega (arith, cost, cut.cost, bound_more (g.A.Analysis.bound kinds start) [] entries entry)),
            _,
            on,
          )
    ]

pub returns-in-Ok-Refused-clause-walked : goal.returns-in-Ok-Refused-clause-walked
returns-in-Ok-Refused-clause-walked g c =
    let (entries, so_far, stands, leads, text, cost, calm, same, left, before) = c.lines.invariant in
    let kinds = kinds_in c.args.walker.now.roster in
    let limits = c.args.walker.now.limits in
    let line = c.next_into.new.line in
    let rest = c.next_into.new.self.lines in
    let lines = c.in_ok-next_into.ensures.next c.if-branch.true in
    let (broken, one, breaks, stays) = c.in-Ok-Refused.ensures.refused (ap Ok c.in-Ok-Refused.field-0-is) c.unwrap.result c.unwrap.ensures kinds entries stands in
    let silent = c.in-Ok-Refused.ensures.silent (ap Ok c.in-Ok-Refused.field-0-is) in (
      entries,
      rw silent.1 leads,
      stays,
      rw silent.0 text,
      omega (arith, cost, silent.2),
      walks_refused kinds limits _ entries (c.lines.number + 1) c.lines.generator.lines so_far line rest broken lines (rw same at breaks)
          ∙ ap (λ cause. after entries (ends (Refused (c.lines.number + 1) cause))) (sym one),
    )

pub lines-preserved : goal.lines-preserved
lines-preserved g c =
    let (entries, so_far, stands, leads, text, cost, calm, same, left, before) = c.lines.invariant in
    let kinds = kinds_in c.args.walker.now.roster in
    let limits = c.args.walker.now.limits in
    let start = c.args.walker.now.analysis in
    let line = c.next_into.new.line in
    let rest = c.next_into.new.self.lines in
    let lines = c.in_ok-next_into.ensures.next c.if-branch.true in
    let (accepted, handed) = c.in-Ok-Accepted.ensures.taken (ap Ok c.in-Ok-Accepted.field-0-is) kinds start entries stands leads before in
    let writes = handed.written in
    let entry : Entry = record { number = c.lines.number + 1; item = line } in (
      entries ++ entry ∷ [],
      walks_on kinds limits _ entries (c.lines.number + 1) c.lines.generator.lines so_far line rest lines (rw same at accepted),
      subst (RosterStandsFor kinds c.take.new.walker.roster) (sym (items_more entries entry)) handed.stands,
      handed.leads,
      subst (Appends (g.S.Sink.written c.args.out.now) (g.S.Sink.written c.take.new.out)) (sym writes.1)
          (appends_on _ _ _ (g.A.Analysis.text kinds start entries) writes.0 text writes.2),
      omega (arith, cost, handed.cost, bound_more (g.A.Analysis.bound kinds start) [] entries entry),
      c.in-Ok-Accepted.ensures.fault ∙ calm,
      c.in-Ok-Accepted.ensures.limits ∙ same,
      omega (arith, left, ap length lines),
      before_next (c.lines.number + 1) entries (line ∷ []) before,
    )

pub returns-clause-walked : goal.returns-clause-walked
returns-clause-walked g c =
    let (entries, so_far, stands, leads, text, cost, calm, same, left, before) = c.lines.invariant in
    let kinds = kinds_in c.args.walker.now.roster in
    let limits = c.args.walker.now.limits in
    let (none, _) = c.in_ok-next_into.ensures.end c.if-branch.false in
    let ending = c.at_end.ensures.ending kinds (items entries) stands limits in (
      entries,
      leads,
      stands,
      text,
      cost,
      walks_end kinds limits _ entries (c.lines.number + 1) c.lines.generator.lines so_far none ∙ ap (λ e. after entries (ends e)) (sym ending),
    )
