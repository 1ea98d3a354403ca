use Rattle.std.proofs.Common.{sym, ap, ◌∙◌}
use Rattle.rd_gen.proofs.CallLemmas.{locked_turn, unlocked_turn}
use Rattle.rd_gen.proofs.generator.Generator.put_line.Goals as goal

pub returns-then-self-clause-next : goal.returns-then-self-clause-next
returns-then-self-clause-next c =
    let it = c.self.inside in
    λ found. sym (ap (λ v. v.lines) c.self.view_is)
    ∙ locked_turn it.stage it.locked it.left it.number c.next_number-self-inside.result it.dictionary c.put_acquire.new.line c.in-Turning.is c.if-self.true
    c.if-self-eq0.false c.next_number-self-inside.ensures.value c.put_acquire.ensures

pub returns-in_ok-put_call-in-Turning-clause-next : goal.returns-in_ok-put_call-in-Turning-clause-next
returns-in_ok-put_call-in-Turning-clause-next c =
    let it = c.self.inside in
    λ found. sym (ap (λ v. v.lines) c.self.view_is)
    ∙ unlocked_turn it.stage it.locked it.left it.number c.next_number-self-inside.result it.dictionary c.put_call.new.dictionary c.put_call.new.line c.in-Turning.is
    c.if-self.false c.if-self-eq0.false c.next_number-self-inside.ensures.value c.in_ok-put_call-in-Turning.ensures.line
    c.in_ok-put_call-in-Turning.ensures.entries
