use Rattle.std.proofs.Common.{◌+◌, ◌*◌, ◌%◌, eq-eqb, ne_eqb, ap, sym, ◌∙◌}
use Rattle.std.specs.Prelude.{if◌then◌else◌}
use Rattle.rd_gen.proofs.CountLemmas.{lines_generated}
use Rattle.rd_gen.proofs.counts.lines_in.Goals as goal

pub returns-then-number-eq0 : goal.returns-then-number-eq0
returns-then-number-eq0 c =
    sym (lines_generated c.args.number c.args.count ∙ ap (λ locked. if locked then 12 + 3 * c.args.count else 12 + c.args.count) (eq-eqb (c.args.number % 2) 0 c.if-number-eq0.true))

pub returns-else-number-eq0 : goal.returns-else-number-eq0
returns-else-number-eq0 c =
    sym (lines_generated c.args.number c.args.count ∙ ap (λ locked. if locked then 12 + 3 * c.args.count else 12 + c.args.count) (ne_eqb (c.args.number % 2) 0 c.if-number-eq0.false))
