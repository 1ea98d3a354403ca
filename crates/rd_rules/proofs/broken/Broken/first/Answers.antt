use Rattle.std.proofs.Common.{sym, subst}
use Rattle.std.specs.Prelude.{find, None, ◌≡◌}
use Rattle.rd_rules.specs.MayFollow.{causes}
use Rattle.rd_rules.specs.Broken.{flag}
use Rattle.rd_rules.proofs.CauseLemmas.{none_found}
use Rattle.rd_rules.proofs.broken.Broken.first.Goals as goal

pub returns-then-is_unbroken-clause-first : goal.returns-then-is_unbroken-clause-first
returns-then-is_unbroken-clause-first c = λ before within.
    subst (λ broken. None ≡ find (flag broken) (causes c.args.limits.now before)) (sym (c.is_unbroken.ensures c.if-is_unbroken.true)) (sym (none_found c.args.limits.now before))
