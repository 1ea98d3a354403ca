use Rattle.std.proofs.Common.{◌≡◌, ◌+◌, false, drop}
use Rattle.rd_tokens.specs.ReadingTokens.{inside_length}
use Rattle.rd_tokens.proofs.cutting.inside_length.Given as goal

abbrev pub invariant-loop-index : goal.invariant-loop-index
invariant-loop-index l = inside_length false l.bytes ≡ l.index + inside_length l.taken (drop l.index l.bytes)
