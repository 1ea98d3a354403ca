use Rattle.std.proofs.Common.{[], subst, sym}
use Rattle.std.proofs.lemmas.Option.{get_or_from_slice_get}
use Rattle.std.proofs.lemmas.Result.{on_ok_weaker}
use Rattle.rd_wf.specs.Roster.{names_in}
use Rattle.rd_report.specs.Writing.{ArePlain}
use Rattle.rd_report.proofs.PlainLemmas.{name_plain}
use Rattle.rd_report.proofs.cause_texts.append_thread.Goals as goal

pub returns-clause-plain : goal.returns-clause-plain
returns-clause-plain c =
    on_ok_weaker c.append.result
    (λ _. subst ArePlain (sym (get_or_from_slice_get (names_in c.args.names.now) c.args.thread c.thread_name.result.now [] c.thread_name.ensures.name))
    (name_plain c.thread_name.result.now c.items.ensures.name))
    c.append.ensures.ok
