use Rattle.std.proofs.Common.{refl}
use Rattle.std.specs.Fmt.{digits}
use Rattle.rd_kinds.specs.Shipped.{counter_kind, dictionary_kind, register_kind, set_kind}
use Rattle.rd_more.specs.MoreKinds.{bag_kind, peak_kind, queue_kind, tally_kind}
use Rattle.rd_report.proofs.laws.law_of_shipped_texts.Goals as goal

pub returns-clause-register : goal.returns-clause-register
unfolding register_kind
returns-clause-register c = refl

pub returns-clause-counter : goal.returns-clause-counter
unfolding counter_kind digits
returns-clause-counter c = refl

pub returns-clause-set : goal.returns-clause-set
unfolding set_kind
returns-clause-set c = refl

pub returns-clause-dictionary : goal.returns-clause-dictionary
unfolding dictionary_kind
returns-clause-dictionary c = refl

pub returns-clause-bag : goal.returns-clause-bag
unfolding bag_kind
returns-clause-bag c = refl

pub returns-clause-peak : goal.returns-clause-peak
unfolding peak_kind
returns-clause-peak c = refl

pub returns-clause-queue : goal.returns-clause-queue
unfolding queue_kind
returns-clause-queue c = refl

pub returns-clause-tally : goal.returns-clause-tally
unfolding tally_kind
returns-clause-tally c = refl

pub returns-clause-text : goal.returns-clause-text
unfolding counter_kind dictionary_kind digits register_kind set_kind bag_kind peak_kind queue_kind tally_kind
returns-clause-text c = refl
