use Rattle.std.proofs.Common.{◌≡◌, ◌++◌, [], Ok, Err, subst, sym}
use Rattle.std.specs.Prelude.{OnOk, Result}
use Rattle.std.proofs.lemmas.Option.{get_or_from_slice_get}
use Rattle.rd_event.specs.Items.{call_text}
use Rattle.rd_wf.specs.Roster.{names_in, object_names_in}
use Rattle.rd_report.specs.Writing.{ArePlain}
use Rattle.rd_report.proofs.PlainLemmas.{call_plain}
use Rattle.rd_report.proofs.races.append_named_call.Goals as goal

-- what holds where a call succeeds, by two facts of its success
by_both : {T E A B C : Type 0} (result : Result T E) → (A → B → C) → OnOk result A → OnOk result B → OnOk result C
by_both (Ok value) then first second = then first second
by_both (Err e) then first second = tt

pub returns-clause-plain : goal.returns-clause-plain
returns-clause-plain c =
    let thread = get_or_from_slice_get (names_in c.args.names.now) c.args.call.now.thread c.thread_name-thread.result.now [] c.thread_name-thread.ensures.name in
    let object = get_or_from_slice_get (object_names_in c.args.names.now) c.args.call.now.object c.object_name-object.result.now [] c.object_name-object.ensures.name in
    by_both c.append_call.result
    (λ names values. subst (λ (T : Type 0). T) (λ i. ArePlain (call_text (sym thread i) (sym object i) (c.method_name-method.ensures i) (c.items.ensures i)))
    (call_plain c.thread_name-thread.result.now c.object_name-object.result.now c.method_name-method.result.now c.items.result.now names.0 names.1 names.2 values))
    c.append_call.ensures.names c.append_call.ensures.values

pub returns-clause-text : goal.returns-clause-text
returns-clause-text c =
    let thread = get_or_from_slice_get (names_in c.args.names.now) c.args.call.now.thread c.thread_name-thread.result.now [] c.thread_name-thread.ensures.name in
    let object = get_or_from_slice_get (object_names_in c.args.names.now) c.args.call.now.object c.object_name-object.result.now [] c.object_name-object.ensures.name in
    subst (λ (T : Type 0). T) (λ i. OnOk c.append_call.result (c.append_call.new.text ≡ c.args.text.now
    ++ call_text (sym thread i) (sym object i) (c.method_name-method.ensures i) (c.items.ensures i))) c.append_call.ensures.ok
