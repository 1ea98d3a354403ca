use Rattle.std.proofs.Common.{◌≡◌, ◌++◌, flat_map, length}
use Rattle.rd_json.specs.Json.{string_byte}
use Rattle.rd_json.proofs.strings.append_escaped.Given as goal

abbrev pub invariant-loop-front : goal.invariant-loop-front
invariant-loop-front l = l.initial.text ++ flat_map string_byte l.bytes ≡ l.text ++ flat_map string_byte l.rest

abbrev pub decreases-loop-front : goal.decreases-loop-front
decreases-loop-front l = length l.rest
