use Rattle.rd_walk.proofs.WalkLemmas.{skipped_said}
use Rattle.rd_walk.proofs.grammar.TraceLinesGrammar.law_of_skipped_bytes.Goals as goal

pub returns : goal.returns
returns g c = skipped_said
