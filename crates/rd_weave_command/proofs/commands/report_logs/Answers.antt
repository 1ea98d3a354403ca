use Rattle.std.proofs.Common.{◌≡◌, ◌∙◌, [], Err, ap, refl, sym, subst}
use Rattle.std.proofs.lemmas.Option.{same_Some}
use Rattle.rd_io.proofs.SinkLemmas.{appends_none}
use Rattle.rd_log_files.specs.LogFiles.{PassesLimit, ReadsLogs}
use Rattle.rd_logs.specs.WholeLogs.{log_texts}
use Rattle.rd_walk.specs.Output.{IsOutput, ended_status}
use Rattle.rd_walk.specs.declared.status.Status.TheVariants.{NoMemory}
use Rattle.rd_weave.specs.Answers.{weave_answer}
use Rattle.rd_weave_command.proofs.RunLemmas.{weave_answered, weave_faulted, weave_limited, weave_unread}
use Rattle.rd_weave_command.specs.Outcomes.{answer_outcome}
use Rattle.rd_weave_command.proofs.commands.report_logs.Goals as goal

pub returns-in-Ok-clause-runs : goal.returns-in-Ok-clause-runs
returns-in-Ok-clause-runs g c = λ steps old told few few_opens.
    let names = c.args.files.now in
    let limits = c.args.limits.now in
    let status = ended_status c.write_answer.result in
    let logs = log_texts c.in-Ok.logs.items in
    let (new, now, leaves) = c.in-Ok.ensures.leaves old told in
    let (other, now_too, reads) = c.in-Ok.ensures.read old told in
    let (part, writes, output) = c.write_answer.ensures.output in
    let same : other ≡ new = same_Some other new (sym now_too ∙ now) in (
      new,
      part,
      now,
      writes,
      weave_answered names limits (g.I.Inputs.faults c.args.inputs.now) (g.I.Inputs.faults c.read_logs.new.inputs) old new part status steps few (leaves few_opens)
          (c.in-Ok.ensures.calm (λ e. let is = c.in-Ok.is in cc)) logs (subst (λ source. ReadsLogs names old source logs) same (reads few_opens)) c.in-Ok.ensures.within
          (subst (λ read. IsOutput status part (answer_outcome (weave_answer (log_texts read)))) c.as_slice.ensures.value output),
    )

pub returns-in-Err-Limit-clause-runs : goal.returns-in-Err-Limit-clause-runs
returns-in-Err-Limit-clause-runs g c = λ steps old told few few_opens.
    let names = c.args.files.now in
    let limits = c.args.limits.now in
    let passed = c.in-Err-Limit.passed in
    let (new, now, leaves) = c.in-Err-Limit.ensures.leaves old told in
    let (other, now_too, passes) = c.in-Err-Limit.ensures.limit passed c.in-Err-Limit.field-0-is old told in
    let (part, writes, output) = c.refuse_limit.ensures.output in
    let same : other ≡ new = same_Some other new (sym now_too ∙ now) in (
      new,
      part,
      now,
      writes,
      weave_limited names limits (g.I.Inputs.faults c.args.inputs.now) (g.I.Inputs.faults c.read_logs.new.inputs) old new part (ended_status c.refuse_limit.result) steps few (leaves few_opens)
          (c.in-Err-Limit.ensures.calm (λ e. let is = c.in-Err-Limit.is in let at = c.in-Err-Limit.field-0-is in cc)) passed
          (subst (λ source. PassesLimit limits names old source passed) same (passes few_opens)) output,
    )

pub returns-in-Err-Fault-clause-runs : goal.returns-in-Err-Fault-clause-runs
returns-in-Err-Fault-clause-runs g c = λ steps old told few few_opens.
    let (new, now, leaves) = c.in-Err-Fault.ensures.leaves old told in
    let (part, writes, output) = c.tell_fault.ensures.output in (
      new,
      part,
      now,
      writes,
      weave_faulted c.args.files.now c.args.limits.now (g.I.Inputs.faults c.args.inputs.now) (g.I.Inputs.faults c.read_logs.new.inputs) old new part (ended_status c.tell_fault.result) steps few (leaves few_opens)
          (c.in-Err-Fault.ensures.fault (ap Err c.in-Err-Fault.field-0-is)) output,
    )

pub returns-in-Err-NoMemory-clause-runs : goal.returns-in-Err-NoMemory-clause-runs
returns-in-Err-NoMemory-clause-runs g c = λ steps old told few few_opens.
    let (new, now, leaves) = c.in-Err-NoMemory.ensures.leaves old told in
    let written = g.S.Sink.written c.args.out.now in (
      new,
      [],
      now,
      appends_none written written refl,
      weave_unread c.args.files.now c.args.limits.now (g.I.Inputs.faults c.args.inputs.now) (g.I.Inputs.faults c.read_logs.new.inputs) old new [] NoMemory steps few (leaves few_opens) refl refl,
    )
