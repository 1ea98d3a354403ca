use Rattle.std.proofs.Common.{ap, sym, ◌∙◌, arith}
use Rattle.rd_object.specs.Machines.Step.{goes}
use Rattle.rd_object.specs.declared.shapes.Shape.TheVariants.{Counts}
use Rattle.rd_more.proofs.AskLemmas.{asks_hits, asks_total}
use Rattle.rd_more.proofs.objects.tally.TallyRefObject.apply.Goals.{in_default-via-then-args-lt1, in_default-via-else-args-lt1+else-args-lt2}
use Rattle.rd_more.proofs.objects.tally.TallyRefObject.apply.Goals as goal

pub returns-in_ok-count-in_default-method-clause-goes : goal.returns-in_ok-count-in_default-method-clause-goes
returns-in_ok-count-in_default-method-clause-goes c =
    asks_hits c.args.method c.args.args.now c.item-item.result c.args.self.now c.requires (λ first. omega arith) c.in-len1.len_at_least c.item-item.is
    ∙ ap (goes (Counts c.args.self.now)) (sym c.in_ok-count-in_default-method.ensures)

pub returns-in_ok-total-in_default-clause-goes : goal.returns-in_ok-total-in_default-clause-goes
returns-in_ok-total-in_default-clause-goes c =
    asks_total c.args.method c.args.args.now c.args.self.now c.requires
    (λ one. elim c.in_default.branch [ in_default-via-then-args-lt1 w ↦ grind arith | in_default-via-else-args-lt1+else-args-lt2 w ↦ grind arith ])
    ∙ ap (goes (Counts c.args.self.now)) (sym c.in_ok-total-in_default.ensures)
