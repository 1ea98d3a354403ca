use Rattle.std.proofs.Common.{true, subst, refl}
use Rattle.rd_base.specs.Names.{IsName}
use Rattle.rd_event.specs.declared.items.Line.TheVariants.{Object}
use Rattle.rd_wf.specs.Roster.{TakesNames}
use Rattle.rd_wf.proofs.BytesLemmas.{also_named}
use Rattle.rd_wf.proofs.roster.Roster.object.Goals as goal

pub returns : goal.returns
returns c =
    also_named (IsName c.args.name.now) (IsName c.args.kind.now) (c.in-Ok.ensures.variant.0 refl) c.args.self.now c.declare.new.self c.args.limits.now _
    c.declare.result
    (subst (λ kind. TakesNames true (IsName c.args.name.now) c.args.self.now c.declare.new.self c.args.limits.now (Object c.args.name.now kind) c.declare.result) c.in-Ok.ensures.value c.declare.ensures)
