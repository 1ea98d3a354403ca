use Rattle.rd_ecl.proofs.PairLemmas.{no_draft}
use Rattle.rd_ecl.proofs.kinds.KindDraft.new.Goals as goal

pub invariant_of-result : goal.invariant_of-result
invariant_of-result c = rw (c.new.ensures.items, c.new-2.ensures.items) (no_draft c.args.name c.items-bytes.ensures.name)
