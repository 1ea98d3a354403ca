use Rattle.std.proofs.Common.{refl, subst, sym}
use Rattle.rd_ecl.specs.Specified.{IsWhole}
use Rattle.rd_parts.proofs.KindLemmas.{whole_by}
use Rattle.rd_more.specs.MoreKinds.{tally_kind}
use Rattle.rd_more.proofs.kinds.tally.make_tally.Goals as goal

pub finish-requires : goal.finish-requires
unfolding tally_kind
finish-requires c = subst IsWhole (sym c.set_pairs.ensures) (whole_by tally_kind refl)
