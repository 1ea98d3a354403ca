use Rattle.std.proofs.Common.{sym, ap, ◌∙◌, refl}
use Rattle.std.specs.Option.{option_map}
use Rattle.rd_event.specs.declared.items.Line.TheVariants.{Event}
use Rattle.rd_event.proofs.WordLemmas.{name_found}
use Rattle.rd_event.proofs.CallLemmas.{call_there}
use Rattle.rd_event.proofs.reading.read_call.Goals as goal

pub returns-in-Err-clause-memory : goal.returns-in-Err-clause-memory
returns-in-Err-clause-memory c = λ refused.
    let found = c.in-Err.ensures.memory refused in
    let thread = c.in-Ok.ensures.variant.0 refl in
    let object = c.in-Ok-from_name_bytes.ensures.variant.0 refl in
    let method = c.in-Ok-from_name_bytes-2.ensures.variant.0 refl in
    let call =
    call_there c.args.rest.now _ _ _ _ _ _ found.0 (sym c.cut_name.ensures.before ∙ name_found _ thread) (c.cut_name.ensures.after thread)
    (sym c.cut_name-2.ensures.before ∙ name_found _ object) (c.cut_name-2.ensures.after object)
    (sym c.cut_name-3.ensures.before ∙ name_found _ method) (c.cut_name-3.ensures.after method) found.1 in
    (_, ap (option_map (λ event. Event event)) call)
