use Rattle.std.proofs.Common.{ap, sym, ◌∙◌, arith}
use Rattle.rd_object.specs.Machines.Step.{goes}
use Rattle.rd_object.specs.declared.shapes.Shape.TheVariants.{Counts}
use Rattle.rd_more.proofs.AskLemmas.{asks_add, asks_count, asks_remove, some_item}
use Rattle.rd_more.proofs.objects.bag.BagRefObject.apply.Goals as goal

pub bounds-args-0 : goal.bounds-args-0
bounds-args-0 c = some_item c.args.method c.args.args.now c.requires

pub returns-in_ok-add-in-0-clause-goes : goal.returns-in_ok-add-in-0-clause-goes
returns-in_ok-add-in-0-clause-goes c =
    asks_add c.args.method c.args.args.now c.index-args-0.result c.args.self.now c.requires c.in-0.is c.index-args-0.is
    ∙ sym (λ i. goes (Counts (c.in_ok-add-in-0.ensures.counts i)) (c.in_ok-add-in-0.ensures.ok i))

pub returns-in_ok-remove-in-1-clause-goes : goal.returns-in_ok-remove-in-1-clause-goes
returns-in_ok-remove-in-1-clause-goes c =
    asks_remove c.args.method c.args.args.now c.index-args-0.result c.args.self.now c.requires c.in-1.is c.index-args-0.is
    ∙ sym (λ i. goes (Counts (c.in_ok-remove-in-1.ensures.counts i)) (c.in_ok-remove-in-1.ensures.ok i))

pub returns-in_ok-count-in_default-clause-goes : goal.returns-in_ok-count-in_default-clause-goes
returns-in_ok-count-in_default-clause-goes c =
    asks_count c.args.method c.args.args.now c.index-args-0.result c.args.self.now c.requires (λ first. omega arith) (λ second. omega arith) c.index-args-0.is
    ∙ ap (goes (Counts c.args.self.now)) (sym c.in_ok-count-in_default.ensures)
