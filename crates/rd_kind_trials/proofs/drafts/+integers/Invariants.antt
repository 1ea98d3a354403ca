use Rattle.rd_kind_trials.proofs.drafts.+integers.Given as goal

abbrev pub decreases-integers : goal.decreases-integers
decreases-integers g l = l.count
