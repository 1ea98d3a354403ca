use Rattle.rd_points.specs.Compiled.{compiled}
use Rattle.rd_classes.proofs.MergedLemmas.{conflicts_as_before, dropped, merged_tells}
use Rattle.rd_classes.proofs.laws.law_of_merging.Goals as goal

pub returns-clause-tells : goal.returns-clause-tells
returns-clause-tells c kind is =
    merged_tells (compiled kind) kind (c.law_of_tables.ensures.symmetric kind) (c.law_of_tables.ensures.tells kind is)

pub returns-clause-conflicts : goal.returns-clause-conflicts
returns-clause-conflicts c kind = conflicts_as_before (compiled kind) (c.law_of_tables.ensures.symmetric kind)

pub returns-clause-left_out : goal.returns-clause-left_out
returns-clause-left_out c = dropped
