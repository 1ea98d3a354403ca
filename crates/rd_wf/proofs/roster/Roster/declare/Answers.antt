use Rattle.std.proofs.Common.{◌≡◌, true, subst, refl}
use Rattle.std.specs.Prelude.{⊤}
use Rattle.rd_base.specs.Names.{IsName}
use Rattle.rd_event.specs.declared.items.Line.TheVariants.{Object}
use Rattle.rd_wf.specs.Roster.{TakesNames}
use Rattle.rd_wf.proofs.BytesLemmas.{named_too}
use Rattle.rd_wf.proofs.roster.Roster.declare.Goals as goal

pub returns : goal.returns
returns c =
    named_too (IsName c.args.name.now) (c.in-Ok.ensures.variant.0 refl) c.args.self.now c.put_object.new.self c.args.limits.now _ c.put_object.result
    (subst (λ name. TakesNames true ⊤ c.args.self.now c.put_object.new.self c.args.limits.now (Object name c.args.kind.now) c.put_object.result) c.in-Ok.ensures.value
    (subst (λ kind. TakesNames true ⊤ c.args.self.now c.put_object.new.self c.args.limits.now (Object c.in-Ok.name kind) c.put_object.result) c.items.ensures.value
    (c.put_object.ensures c.items.result.now c.find_kind-found.ensures.index c.find_kind-found.ensures.found)))
