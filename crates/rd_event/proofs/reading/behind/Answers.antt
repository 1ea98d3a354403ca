use Rattle.std.proofs.lemmas.Bool.Decides.{Decides-eqb}
use Rattle.std.proofs.lemmas.Slice.Eq.{strip_prefix_is}
use Rattle.rd_event.proofs.WordLemmas.{some_part}
use Rattle.rd_event.proofs.reading.behind.Goals as goal

pub returns : goal.returns
returns c = some_part _ _ c.strip_prefix.result (strip_prefix_is Decides-eqb c.args.bytes.now c.args.text.now c.strip_prefix.result c.strip_prefix.ensures.cases)
