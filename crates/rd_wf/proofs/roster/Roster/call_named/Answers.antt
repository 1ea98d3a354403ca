use Rattle.std.proofs.Common.{true, sym, subst}
use Rattle.std.specs.Prelude.{⊤}
use Rattle.rd_base.specs.Names.{IsName}
use Rattle.rd_event.specs.declared.items.Line.TheVariants.{Event}
use Rattle.rd_event.specs.declared.items.LineEvent.TheVariants.{Call}
use Rattle.rd_wf.specs.Roster.{TakesNames}
use Rattle.rd_wf.proofs.BytesLemmas.{taken_named}
use Rattle.rd_wf.proofs.roster.Roster.call_named.Goals as goal

pub returns : goal.returns
returns c =
    subst (λ line. TakesNames true ⊤ c.args.self.now c.call_apart.new.self c.args.limits.now line c.call_apart.result)
    (λ i. Event (Call (c.items.ensures.value i) (c.items-2.ensures.value i) (c.items-3.ensures.value i) c.args.slots.now))
    (taken_named (IsName c.items.result.now × IsName c.items-2.result.now × IsName c.items-3.result.now)
    (subst IsName (sym c.items.ensures.value) c.items.ensures.name, subst IsName (sym c.items-2.ensures.value) c.items-2.ensures.name, subst IsName (sym c.items-3.ensures.value) c.items-3.ensures.name)
    c.args.self.now c.call_apart.new.self c.args.limits.now _ c.call_apart.result c.call_apart.ensures)
