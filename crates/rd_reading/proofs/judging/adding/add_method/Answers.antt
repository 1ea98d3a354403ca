use Rattle.std.proofs.Common.{◌≤◌, length, ap, arith}
use Rattle.rd_reading.specs.Known.{stage_of}
use Rattle.rd_lines.specs.Lines.{words_of}
use Rattle.rd_reading.proofs.AddLemmas.{argument_count, may_add, method_added}
use Rattle.rd_reading.proofs.judging.adding.add_method.Goals as goal

pub judge_method-requires-clause-few : goal.judge_method-requires-clause-few
judge_method-requires-clause-few c =
    let count : length c.args.arguments ≤ length c.args.tokens.now =
    argument_count (stage_of c.args.known.now) c.args.line.now c.args.tokens.now c.args.name c.args.arguments c.args.value c.requires.right in
    omega (arith, count, ap length c.items.ensures)

pub method-requires : goal.method-requires
method-requires c =
    may_add c.in-Some.block.opened.kind c.draft.result.now c.draft.ensures.value (stage_of c.args.known.now) (words_of c.args.line.now c.args.tokens.now) c.args.name
    c.args.arguments c.args.value c.items.result.now c.push.new.self c.items.ensures c.in_ok-push.ensures.ok c.requires.right
    (rw c.in_default-2.is at c.in_ok-fault.ensures.room) (rw c.in_default-2.is at c.in_ok-fault.ensures.fresh)
    (rw c.in_default-2.is at c.in_ok-fault.ensures.different)

pub returns-clause-adds : goal.returns-clause-adds
returns-clause-adds c =
    method_added c.args.known.now c.in-Some.block (cc) (words_of c.args.line.now c.args.tokens.now) c.args.name c.args.arguments c.args.value c.push.new.self
    c.method.new.self c.requires.right c.in_ok-push.ensures.ok c.in_ok-method.ensures.ok
