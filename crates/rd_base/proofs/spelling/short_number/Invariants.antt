use Rattle.std.proofs.Common.{◌≡◌, take}
use Rattle.std.specs.Str.Parse.{AllDigits, digits_value}
use Rattle.rd_base.proofs.spelling.short_number.Given as goal

abbrev pub invariant-loop-byte : goal.invariant-loop-byte
invariant-loop-byte l = record {
  all : AllDigits 10 (take l.byte-index l.bytes);
  number : l.number ≡ digits_value 10 (take l.byte-index l.bytes);
}
