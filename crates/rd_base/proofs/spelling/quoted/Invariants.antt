use Rattle.std.proofs.Common.{◌≡◌, ◌+◌, ◌*◌, ◌≤◌, ◌∷◌, length, take}
use Rattle.rd_base.specs.Spelling.{bytes_spelling}
use Rattle.rd_base.proofs.spelling.quoted.Given as goal

abbrev pub invariant-loop-byte : goal.invariant-loop-byte
invariant-loop-byte l = record {
  spelled : l.spelled.items ≡ 34 ∷ bytes_spelling (take l.byte-index l.text);
  short : length l.spelled.items ≤ 1 + 4 * l.byte-index;
}
