use Rattle.std.proofs.Common.{arith}
use Rattle.rd_event.proofs.WordLemmas.{found_front, found_behind, found_other, after_end, before_end, each_in_front}
use Rattle.rd_base.proofs.NameLemmas.{each_of_name}
use Rattle.rd_event.proofs.reading.cut_name.Goals as goal

pub returns-then-bytes-length-ne32-clause-before : goal.returns-then-bytes-length-ne32-clause-before
returns-then-bytes-length-ne32-clause-before c =
    found_other _ _ c.name_length-length.ensures.value c.name_length-length.ensures.bound c.if-length-bytes.false c.if-bytes-length-ne32.true

pub returns-clause-before : goal.returns-clause-before
returns-clause-before c =
    found_front _ _ c.name_length-length.ensures.value c.name_length-length.ensures.bound c.if-length-bytes.false c.if-bytes-length-ne32.false

pub returns-clause-after : goal.returns-clause-after
returns-clause-after c = λ named.
    found_behind _ _ c.name_length-length.ensures.value c.name_length-length.ensures.bound c.if-length-bytes.false c.if-bytes-length-ne32.false

pub returns-then-length-bytes-clause-each : goal.returns-then-length-bytes-clause-each
returns-then-length-bytes-clause-each c = grind (arith, before_end, after_end, each_in_front, each_of_name)

pub returns-then-length-bytes-clause-before : goal.returns-then-length-bytes-clause-before
returns-then-length-bytes-clause-before c = grind (arith, before_end, after_end, each_in_front, each_of_name)

pub returns-then-length-bytes-clause-after : goal.returns-then-length-bytes-clause-after
returns-then-length-bytes-clause-after c = grind (arith, before_end, after_end, each_in_front, each_of_name)

pub returns-clause-each : goal.returns-clause-each
returns-clause-each c = grind (arith, before_end, after_end, each_in_front, each_of_name)
