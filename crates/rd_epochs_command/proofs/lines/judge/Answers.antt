use Rattle.std.proofs.Common.{[], ◌∷◌, true, subst, sym, ◌∙◌}
use Rattle.rd_base.specs.Names.{IsName}
use Rattle.rd_base.specs.declared.values.Value.TheVariants.{Nil}
use Rattle.rd_ecl.specs.Kinds.{methods_at}
use Rattle.rd_epochs_command.proofs.JudgeLemmas.{method_named}
use Rattle.rd_event.specs.declared.items.Line.TheVariants.{Event}
use Rattle.rd_event.specs.declared.items.LineEvent.TheVariants.{Call}
use Rattle.rd_tables.specs.Tables.{found_method}
use Rattle.rd_wf.specs.Roster.{TakesNames, with_values}
use Rattle.rd_epochs_command.proofs.lines.judge.Goals as goal

pub call_numbers-requires-clause-named : goal.call_numbers-requires-clause-named
call_numbers-requires-clause-named c = subst IsName (sym c.keyword_of.ensures) (method_named c.args.words.write)

pub call_numbers-requires-clause-known : goal.call_numbers-requires-clause-known
call_numbers-requires-clause-known c = λ kinds lines stands.
    c.method_of.ensures.found
    ∙ (λ i. found_method (methods_at ((sym c.requires ∙ stands.kind_entries) i) 0) (sym c.keyword_of.ensures i))

pub returns-clause-takes : goal.returns-clause-takes
returns-clause-takes c =
    subst (λ method. TakesNames true (IsName c.args.words.thread.now × IsName c.args.words.variable.now) c.args.roster.now c.call_numbers.new.self c.args.limits.now
    (Event (Call c.args.words.thread.now c.args.words.variable.now method (Nil ∷ []))) (with_values (Nil ∷ []) c.call_numbers.result)) c.keyword_of.ensures
    (c.call_numbers.ensures.takes (Nil ∷ []) (sym c.method_of.ensures.slots))
