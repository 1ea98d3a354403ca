use Rattle.std.proofs.Common.{◌≡◌, ◌++◌, map, take}
use Rattle.rd_event.specs.declared.items.Line.TheVariants as line
use Rattle.rd_weave.proofs.lines.append_declared.Given as goal

abbrev pub invariant-loop-object : goal.invariant-loop-object
invariant-loop-object l = l.lines.items ≡ l.initial.lines.items ++ map (λ declared. line.Object declared.name declared.kind) (take l.object-index l.objects)
