use Rattle.std.proofs.Common.{◌∙◌, ap, arith}
use Rattle.std.proofs.lemmas.Grind.{elements}
use Rattle.rd_pairs.specs.Causes.{place_at}
use Rattle.rd_reading.proofs.MethodLemmas.{judged_method, known_method, variable_twice}
use Rattle.rd_reading.proofs.judging.methods.judge_method.Goals as goal

pub returns-then-is_known-clause-judged : goal.returns-then-is_known-clause-judged
returns-then-is_known-clause-judged c =
    known_method c.args.kind.now c.args.line.now c.args.tokens.now c.args.name.now c.args.arguments.now c.args.value.now c.place_at.result c.place_at.ensures
    (cc)

pub returns-in-Some-clause-judged : goal.returns-in-Some-clause-judged
returns-in-Some-clause-judged c =
    variable_twice c.args.kind.now c.args.line.now c.args.tokens.now c.args.name.now c.args.arguments.now c.args.value.now (cc)
    c.in-Some.number c.place_at-in-Some.result (rw c.in-Some.is at c.in_ok-number.ensures.some)
    (c.place_at-in-Some.ensures ∙ ap (place_at c.args.line.now c.args.tokens.now) c.variable_token.ensures)

pub returns-clause-judged : goal.returns-clause-judged
returns-clause-judged c =
    judged_method c.args.kind.now c.args.line.now c.args.tokens.now c.args.name.now c.args.arguments.now c.args.value.now (cc)
    (rw c.in_default.is at c.in_ok-number.ensures.none) c.passed.result c.passed.ensures.some c.passed.ensures.none

pub variable_token-requires-clause-within : goal.variable_token-requires-clause-within
variable_token-requires-clause-within c = grind (arith, elements)
