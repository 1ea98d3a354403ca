use Rattle.std.proofs.Common.{◌≡◌, reverse, length}
use Rattle.rd_grammar.specs.Grammar.{parsed_tree}
use Rattle.rd_grammar.specs.Machine.{nots_of}
use Rattle.rd_grammar.proofs.reader.negated.Given as goal

abbrev pub invariant-loop-token : goal.invariant-loop-token
invariant-loop-token l = nots_of (reverse l.left.items) (parsed_tree l.whole) ≡ nots_of (reverse l.fn.nots.items) (parsed_tree l.fn.formula)

abbrev pub decreases-loop-token : goal.decreases-loop-token
decreases-loop-token l = length l.left.items
