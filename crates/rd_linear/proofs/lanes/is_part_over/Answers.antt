use Rattle.std.proofs.Common.{◌≡◌, ◌-◌, false, inl, inr, sym, ◌∙◌, arith, true≢false}
use Rattle.std.proofs.lemmas.Bool.{cases_Bool}
use Rattle.rd_linear.specs.Lanes.{is_over, part_over}
use Rattle.rd_linear.proofs.TurnLemmas.{all_at, at_each}
use Rattle.rd_linear.proofs.lanes.is_part_over.Goals as goal

pub returns-then-not-is_over : goal.returns-then-not-is_over
returns-then-not-is_over c =
    let waits = c.args.waits.now in let seen = c.args.seen.now in let part = c.args.part in
    let left : is_over waits seen c.loop-at.at ≡ false = sym c.is_over.ensures ∙ c.if-not-is_over.true in
    elim (cases_Bool (part_over waits seen part)) [
      | inl over ↦
          absurd (true≢false (sym (all_at (is_over waits seen) part.from (part.to - part.from) over c.loop-at.at c.loop-at.auto.at (omega (arith, c.loop-at-test.true, c.loop-at.auto.at))) ∙ left))
      | inr not_over ↦ sym not_over
    ]

pub returns : goal.returns
returns c =
    let waits = c.args.waits.now in let seen = c.args.seen.now in let part = c.args.part in
    sym (at_each (is_over waits seen) part.from (part.to - part.from) (λ k lo hi. c.loop-at.invariant k lo (omega (arith, c.loop-at-test.false, lo, hi))))
