use Rattle.std.proofs.Common.{◌≡◌, ◌++◌, length, map, drop}
use Rattle.std.specs.List.{AllByRecursion}
use Rattle.rd_ecl.specs.Variables.{IsVariable}
use Rattle.rd_lines.specs.Lines.{plain, words_of}
use Rattle.rd_lines.proofs.methods.read_arguments.Given as goal

abbrev pub invariant-loop-index : goal.invariant-loop-index
invariant-loop-index l = record {
  each : AllByRecursion IsVariable l.names;
  written : words_of l.line l.tokens ≡ map plain l.names ++ words_of l.line (drop l.index l.tokens);
  count : length l.names ≡ l.index;
}
