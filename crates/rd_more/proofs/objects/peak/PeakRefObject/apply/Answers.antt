use Rattle.std.proofs.Common.{◌≡◌, ap, sym, ◌∙◌, rules, w64, SFits}
use Rattle.std.proofs.lemmas.Int.{to_z-of_z}
use Rattle.rd_object.specs.Machines.Step.{goes, refuses}
use Rattle.rd_object.specs.declared.shapes.Shape.TheVariants.{One}
use Rattle.rd_more.specs.Machines.{raised}
use Rattle.rd_more.specs.Peaks.{peak_value}
use Rattle.rd_more.proofs.AskLemmas.{asks_get, asks_raise, asks_refused, some_amount}
use Rattle.rd_more.proofs.objects.peak.PeakRefObject.apply.Goals as goal

pub returns-then-method-eq1-clause-goes : goal.returns-then-method-eq1-clause-goes
returns-then-method-eq1-clause-goes c =
    asks_get c.args.method c.args.args.now (peak_value c.args.self.now) c.requires c.if-method-eq1.true
    ∙ ap (goes (One (peak_value c.args.self.now))) (sym (c.peak_value.ensures ∙ ap peak_value c.self.view_is))

pub bounds-args-0 : goal.bounds-args-0
bounds-args-0 c = some_amount c.args.method c.args.args.now c.requires c.if-method-eq1.false

pub returns-in-Int-clause-goes : goal.returns-in-Int-clause-goes
returns-in-Int-clause-goes c =
    let fits : SFits w64 c.in-Int.amount = search rules in
    asks_raise c.args.method c.args.args.now (peak_value c.args.self.now) c.index-args-0.result c.in-Int.amount c.requires c.if-method-eq1.false c.index-args-0.is c.in-Int.is
    ∙ ap (λ amount. goes (One (raised amount (peak_value c.args.self.now))) (peak_value c.args.self.now)) (sym (to_z-of_z w64 c.in-Int.amount fits))
    ∙ sym (λ i. goes (One (c.raise.ensures.peak i)) (c.raise.ensures.value i))

pub returns-in_default-clause-refuses : goal.returns-in_default-clause-refuses
returns-in_default-clause-refuses c =
    λ slot told.
    let slots : 0 ≡ slot = cc in
    asks_refused c.args.method c.args.args.now (peak_value c.args.self.now) c.index-args-0.result c.requires c.if-method-eq1.false c.index-args-0.is c.in_default.not-Int
    ∙ ap refuses slots
