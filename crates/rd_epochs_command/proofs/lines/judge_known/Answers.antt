use Rattle.std.proofs.Common.{[], ◌∷◌, true, subst, sym}
use Rattle.rd_base.specs.Names.{IsName}
use Rattle.rd_base.specs.declared.values.Value.TheVariants.{Nil}
use Rattle.rd_event.specs.declared.items.Line.TheVariants.{Event}
use Rattle.rd_event.specs.declared.items.LineEvent.TheVariants.{Call}
use Rattle.rd_wf.specs.Roster.{TakesNames, with_values}
use Rattle.rd_epochs_command.proofs.lines.judge_known.Goals as goal

pub returns-clause-takes : goal.returns-clause-takes
returns-clause-takes c =
    subst (λ method. TakesNames true (IsName c.args.words.thread.now × IsName c.args.words.variable.now) c.args.roster.now c.call_numbers_of.new.self c.args.limits.now
    (Event (Call c.args.words.thread.now c.args.words.variable.now method (Nil ∷ []))) (with_values (Nil ∷ []) c.call_numbers_of.result)) c.keyword_of.ensures
    (c.call_numbers_of.ensures.takes (Nil ∷ []) (sym c.method_of.ensures.slots))
