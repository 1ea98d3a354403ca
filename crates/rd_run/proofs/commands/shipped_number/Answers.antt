use Rattle.std.proofs.Common.{sym, ◌∙◌, position}
use Rattle.rd_rules.specs.MayFollow.{same_name}
use Rattle.rd_run.proofs.RunLemmas.{numbered}
use Rattle.rd_run.proofs.commands.shipped_number.Goals as goal

pub returns-in-Some-clause-named : goal.returns-in-Some-clause-named
returns-in-Some-clause-named c =
    sym c.in-Some.is
    ∙ (c.place_of.ensures.place ∙ ((λ i. position (same_name (c.items.ensures i)) (c.reserved.ensures i)) ∙ numbered c.args.name.now))

pub returns-in-None-clause-named : goal.returns-in-None-clause-named
returns-in-None-clause-named c =
    sym c.in-None.is
    ∙ (c.place_of.ensures.place ∙ ((λ i. position (same_name (c.items.ensures i)) (c.reserved.ensures i)) ∙ numbered c.args.name.now))
