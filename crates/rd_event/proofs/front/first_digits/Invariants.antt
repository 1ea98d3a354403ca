use Rattle.std.proofs.Common.{◌≡◌, ◌≤◌, take}
use Rattle.std.specs.Str.Parse.{AllDigits, digits_value}
use Rattle.rd_event.proofs.front.first_digits.Given as goal

abbrev pub invariant-loop-index : goal.invariant-loop-index
invariant-loop-index l = record {
  few : l.index ≤ 18;
  all : AllDigits 10 (take l.index l.bytes);
  number : l.number ≡ digits_value 10 (take l.index l.bytes);
}
