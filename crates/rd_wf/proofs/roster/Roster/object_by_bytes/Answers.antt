use Rattle.std.proofs.Common.{◌≡◌, true, subst, IfNone}
use Rattle.rd_base.specs.Names.{IsName}
use Rattle.rd_event.specs.declared.items.Line.TheVariants.{Object}
use Rattle.rd_wf.specs.Roster.{TakesNames}
use Rattle.rd_wf.proofs.roster.Roster.object_by_bytes.Goals as goal

pub returns-in-Ok-None : goal.returns-in-Ok-None
returns-in-Ok-None c =
    let same : c.declare_at_once.new.self ≡ c.args.self.now = subst (λ told. IfNone told (c.declare_at_once.new.self ≡ c.args.self.now)) c.in-Ok-None.field-0-is c.in-Ok-None.ensures.none in
    subst (λ old. TakesNames true (IsName c.args.name.now × IsName c.args.kind.now) old c.object.new.self c.args.limits.now (Object c.args.name.now c.args.kind.now) c.object.result)
    same c.object.ensures
