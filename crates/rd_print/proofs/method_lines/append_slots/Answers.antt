use Rattle.std.proofs.Common.{◌≡◌, ◌++◌, arith, codes}
use Rattle.rd_print.proofs.JoinLemmas.{elements_all, ok_then}
use Rattle.rd_print.proofs.LineLemmas.{slots_by}
use Rattle.rd_print.proofs.method_lines.append_slots.Goals as goal

pub returns : goal.returns
returns c =
    let done = elements_all (λ name. codes " " ++ name) _ c.loop-argument.text c.in-Some.arguments.now c.loop-argument.argument-index (omega arith) c.loop-argument.invariant in
    ok_then c.append-3.result _ _
    (λ here.
    let is : c.append-3.new.self ≡ (c.loop-argument.text ++ codes " -> ") ++ c.in-Some.last.now = cc (here, c.in_ok-append-2.ensures.ok, c.items-2.ensures.value) in
    slots_by c.args.text.now c.loop-argument.text c.append-3.new.self c.args.variables.now c.in-Some.arguments.now c.in-Some.last.now
    c.in-Some.ensures.cases.0 done is)
    c.append-3.ensures.ok
