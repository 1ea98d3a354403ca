use Rattle.std.proofs.Common.{◌≡◌, ap, sym, ◌∙◌, arith, true≢false}
use Rattle.rd_object.specs.Machines.Step.{goes, refuses}
use Rattle.rd_object.specs.declared.shapes.Shape.TheVariants.{Row}
use Rattle.rd_more.proofs.AskLemmas.{asks_nil, asks_put, asks_size, asks_take}
use Rattle.rd_more.proofs.objects.queue.QueueRefObject.apply.Goals.{in_default-via-then-args-lt1, in_default-via-else-args-lt1+else-args-lt2}
use Rattle.rd_more.proofs.objects.queue.QueueRefObject.apply.Goals as goal

pub returns-then-is_nil-clause-refuses : goal.returns-then-is_nil-clause-refuses
returns-then-is_nil-clause-refuses c =
    λ slot told.
    let slots : 0 ≡ slot = cc in
    asks_nil c.args.method c.args.args.now c.item-item.result c.args.self.now c.requires c.in-len1.len_at_least c.item-item.is (c.is_nil.ensures.0 c.if-is_nil.true)
    ∙ ap refuses slots

pub returns-in_ok-enqueue-in-len1-clause-goes : goal.returns-in_ok-enqueue-in-len1-clause-goes
returns-in_ok-enqueue-in-len1-clause-goes c =
    asks_put c.args.method c.args.args.now c.item-item.result c.args.self.now c.requires c.in-len1.len_at_least c.item-item.is
    (λ none. true≢false (sym (c.is_nil.ensures.1 none) ∙ c.if-is_nil.false))
    ∙ sym (λ i. goes (Row (c.in_ok-enqueue-in-len1.ensures.items i)) (c.in_ok-enqueue-in-len1.ensures.ok i))

pub returns-in-1-clause-goes : goal.returns-in-1-clause-goes
returns-in-1-clause-goes c =
    asks_take c.args.method c.args.args.now c.args.self.now c.requires c.in-1.is
    ∙ sym (λ i. goes (Row (c.dequeue.ensures.items i)) (c.dequeue.ensures.value i))

pub returns-in_default-method-clause-goes : goal.returns-in_default-method-clause-goes
returns-in_default-method-clause-goes c =
    asks_size c.args.method c.args.args.now c.args.self.now c.requires (λ unlike. omega arith)
    (λ one. elim c.in_default.branch [ in_default-via-then-args-lt1 w ↦ grind arith | in_default-via-else-args-lt1+else-args-lt2 w ↦ grind arith ])
    ∙ ap (goes (Row c.args.self.now)) (sym c.size.ensures)
