use Rattle.std.proofs.Common.{◌≢◌, subst, sym}
use Rattle.std.specs.Prelude.{AllPairs}
use Rattle.rd_ecl.specs.Kinds.{kind_names, kinds_of}
use Rattle.rd_kinds.proofs.NameLemmas.{listed_differ}
use Rattle.rd_report_trials.proofs.roster.start.Goals as goal

pub new-requires-clause-different : goal.new-requires-clause-different
new-requires-clause-different g c =
    subst (λ kinds. AllPairs (λ x y. x ≢ y) (kind_names (kinds_of kinds))) (sym c.built_in-kinds.ensures) listed_differ
