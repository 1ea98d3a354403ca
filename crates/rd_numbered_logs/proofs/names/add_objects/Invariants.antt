use Rattle.std.proofs.Common.{◌≡◌, ◌++◌, map, take, drop}
use Rattle.rd_numbered_logs.specs.LogNames.{are_new}
use Rattle.rd_numbered_logs.proofs.names.add_objects.Given as goal

abbrev pub invariant-loop-object : goal.invariant-loop-object
invariant-loop-object l = record {
  keys : l.names.keys ≡ l.initial.names.keys ++ take l.object-index (map (λ object. object.name) l.objects);
  left : are_new l.initial.names.keys (map (λ object. object.name) l.objects) ≡ are_new l.names.keys (drop l.object-index (map (λ object. object.name) l.objects));
}
