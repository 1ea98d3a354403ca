use Rattle.std.proofs.Common.{◌≡◌, ◌++◌, take, flat_map}
use Rattle.std.specs.List.{All}
use Rattle.rd_base.specs.Spelling.{IsValue}
use Rattle.rd_event.proofs.SpellLemmas.{argument_spelling}
use Rattle.rd_event.proofs.spelling.append_slots.Given as goal

abbrev pub invariant-loop-argument : goal.invariant-loop-argument
invariant-loop-argument l = record {
  text : l.text ≡ l.initial.text ++ flat_map argument_spelling (take l.argument-index l.arguments);
  values : All IsValue (take l.argument-index l.arguments);
}
