use Rattle.std.proofs.Common.{refl, subst, sym}
use Rattle.rd_ecl.specs.Specified.{IsWhole}
use Rattle.rd_parts.proofs.KindLemmas.{whole_by}
use Rattle.rd_more.specs.MoreKinds.{bag_kind}
use Rattle.rd_more.proofs.kinds.bag.make_bag.Goals as goal

pub finish-requires : goal.finish-requires
unfolding bag_kind
finish-requires c = subst IsWhole (sym c.in_ok-set_pairs.ensures) (whole_by bag_kind refl)
