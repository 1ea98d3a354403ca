use Rattle.std.proofs.Common.{◌≡◌, ◌++◌, ◌-◌, ◌≤◌, length, option_map}
use Rattle.rd_base.specs.ReadingValues.{inside_of}
use Rattle.rd_base.proofs.spelling.read_inside.Given as goal

abbrev pub invariant-loop-rest : goal.invariant-loop-rest
invariant-loop-rest l = record {
  so_far : inside_of 255 l.bytes ≡ option_map (λ more. l.text.items ++ more) (inside_of (255 - length l.text.items) l.rest);
  short : length l.text.items ≤ 255;
}

abbrev pub decreases-loop-rest : goal.decreases-loop-rest
decreases-loop-rest l = length l.rest
