use Rattle.std.proofs.Common.{refl}
use Rattle.rd_ecl.specs.Specified.{all_pairs}
use Rattle.rd_ecl.proofs.TestLemmas.{may_by}
use Rattle.rd_more.specs.MoreKinds.{tally_kind}
use Rattle.rd_more.proofs.kinds.tally.set_pairs.Goals as goal

pub put_pair-requires : goal.put_pair-requires
unfolding all_pairs
put_pair-requires c = simp c.requires (may_by _ 0 0 _ refl)

pub put_pair-requires-2 : goal.put_pair-requires-2
unfolding all_pairs
put_pair-requires-2 c = simp (c.put_pair.ensures, c.requires, c.firsts_differ.ensures) (may_by _ 0 1 _ refl)

pub put_pair-requires-3 : goal.put_pair-requires-3
unfolding all_pairs
put_pair-requires-3 c = simp (c.put_pair-2.ensures, c.put_pair.ensures, c.requires, c.firsts_differ.ensures) (may_by _ 0 2 _ refl)

pub put_pair-requires-4 : goal.put_pair-requires-4
unfolding all_pairs
put_pair-requires-4 c = simp (c.put_pair-3.ensures, c.put_pair-2.ensures, c.put_pair.ensures, c.requires, c.firsts_differ.ensures) (may_by _ 1 1 _ refl)

pub put_pair-requires-5 : goal.put_pair-requires-5
unfolding all_pairs
put_pair-requires-5 c = simp (c.put_pair-4.ensures, c.put_pair-3.ensures, c.put_pair-2.ensures, c.put_pair.ensures, c.requires, c.firsts_differ.ensures) (may_by _ 1 2 _ refl)

pub put_pair-requires-6 : goal.put_pair-requires-6
unfolding all_pairs
put_pair-requires-6 c = simp (c.put_pair-5.ensures, c.put_pair-4.ensures, c.put_pair-3.ensures, c.put_pair-2.ensures, c.put_pair.ensures, c.requires, c.firsts_differ.ensures) (may_by _ 2 2 _ refl)

pub returns : goal.returns
unfolding tally_kind
returns c = simp (c.put_pair-6.ensures, c.put_pair-5.ensures, c.put_pair-4.ensures, c.put_pair-3.ensures, c.put_pair-2.ensures, c.put_pair.ensures, c.requires, c.firsts_differ.ensures) refl
