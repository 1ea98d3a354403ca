use Rattle.rd_tokens.proofs.MarkLemmas.{SoFar}
use Rattle.rd_tokens.proofs.words.marking.marks.Given as goal

abbrev pub invariant-loop-number : goal.invariant-loop-number
invariant-loop-number l = SoFar l.dialect l.line l.tokens l.number l.marks
