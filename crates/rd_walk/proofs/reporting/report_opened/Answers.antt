use Rattle.std.proofs.Common.{◌≡◌, ◌++◌, refl, ap, inl, inr, Result, Ok}
use Rattle.rd_io.proofs.SinkLemmas.{appends_on}
use Rattle.rd_walk.specs.declared.walk.WalkEnd.{WalkEnd}
use Rattle.rd_walk.specs.declared.walk.WalkEnd.TheVariants.{Fault}
use Rattle.rd_walk.specs.declared.analysis.Halt.{Halt}
use Rattle.rd_wf.specs.Roster.{kinds_in}
use Rattle.rd_walk.proofs.OutputLemmas.{failed_with}
use Rattle.rd_walk.proofs.ProgressLemmas.{all_begun}
use Rattle.rd_walk.specs.Output.{ended_status}
use Rattle.rd_walk.proofs.reporting.report_opened.Goals as goal

same_ending : (a b : WalkEnd) → ◌≡◌ {A = Result WalkEnd Halt} (Ok a) (Ok b) → a ≡ b
same_ending a b e = cc

pub conclude-requires : goal.conclude-requires
conclude-requires g c =
    let (entries, taken, leads, stands, text, cost, read, goes) = c.in_ok-ending.ensures.walked in
    (kinds_in c.args.walker.now.roster, c.args.walker.now.analysis, entries, leads, stands)

pub returns-clause-reported : goal.returns-clause-reported
returns-clause-reported g c =
    let kinds = kinds_in c.args.walker.now.roster in
    let start = c.args.walker.now.analysis in
    let (entries, taken, leads, stands, text, cost, read, goes) = c.in_ok-ending.ensures.walked in
    let (part, writes, output) = c.conclude.ensures.output kinds start entries leads stands in
    let ending = c.in_ok-ending.ending in
    let front = g.A.Analysis.text kinds start entries in (
      entries,
      taken,
      front ++ part,
      appends_on _ _ _ front part text writes,
      cost,
      read,
      all_begun (g.A.Analysis.text kinds start) part (front ++ part) entries refl,
      λ old told. let (new, now, (takes, walks)) = goes old told in (
        new,
        now,
        (
          takes,
          inl (
            ending,
            walks,
            output,
            λ e. c.in_ok-ending.ensures.input_fault (ap Ok e),
            λ other. c.in_ok-ending.ensures.calm (λ e. other (same_ending ending Fault e)),
          ),
        ),
      ),
    )

pub returns-in_err-ending-clause-reported : goal.returns-in_err-ending-clause-reported
returns-in_err-ending-clause-reported g c =
    let (entries, taken, part, writes, (rest, is), begun, cost, read, on, goes) = c.in_err-ending.ensures.halted in
    let (halt, failed, gives) = failed_with c.from_residual.result _ c.from_residual.ensures in (
      entries,
      taken,
      part,
      writes,
      cost,
      read,
      begun,
      λ old told. let (new, now, takes) = goes old told in (
        new,
        now,
        (takes, inr (halt, rest, on, is, ap ended_status failed, c.in_err-ending.ensures.calm (λ e. cc))),
      ),
    )
