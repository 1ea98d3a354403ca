use Rattle.std.proofs.Common.{refl}
use Rattle.rd_reading.specs.Adding.{adds_header}
use Rattle.rd_reading.proofs.judging.judged_lines.read_header.Goals as goal

pub returns-in-Some-clause-adds : goal.returns-in-Some-clause-adds
returns-in-Some-clause-adds c = adds_header c.in-Some.version c.requires.begins c.in-Some.ensures.some refl
