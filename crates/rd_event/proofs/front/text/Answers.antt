use Rattle.std.proofs.Common.{◌+◌, ◌-◌, length, take, drop, refl, arith}
use Rattle.rd_event.proofs.FrontLemmas.{IsFront, length_is, value_is, text_front}
use Rattle.rd_base.specs.declared.values.Value.TheVariants.{Text}
use Rattle.rd_event.proofs.front.text.Goals as goal
use Rattle.rd_event.proofs.front.text.Goals.{Else-not-ends_at}

found : (c : Else-not-ends_at) → IsFront (Text (take c.standing_length-length.result (take (length c.args.bytes.now - 1) (drop 1 c.args.bytes.now)))) c.args.bytes.now (c.standing_length-length.result + 2)
found c =
    let told = c.standing_length-length.ensures in
    text_front c.args.bytes.now c.standing_length-length.result c.requires c.if-length-gt-LONGEST.false
    (omega (arith, told.within, c.if-length-inside.false)) told.all c.if-inside-length-ne34.false (c.if-not-ends_at.ensures refl)

pub returns-clause-length : goal.returns-clause-length
returns-clause-length c = length_is (found c)

pub returns-clause-value : goal.returns-clause-value
returns-clause-value c = value_is (found c)
