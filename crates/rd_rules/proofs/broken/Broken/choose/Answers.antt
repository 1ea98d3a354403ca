use Rattle.std.proofs.Common.{rules, ◌<◌, IfSome, length, subst, arith}
use Rattle.rd_rules.specs.MayFollow.{threads_of}
use Rattle.rd_rules.proofs.CauseLemmas.{none_holds, one_holds}
use Rattle.rd_rules.proofs.broken.Broken.choose.Goals as goal

pub returns-in-Some-clause-first : goal.returns-in-Some-clause-first
returns-in-Some-clause-first c = λ before within.
    let below = subst (λ o. IfSome o (λ holder. holder < length (threads_of before))) c.in-Some.is within in
    rw (one_holds c.args.self _ c.in-Some.holder c.in-Some.is 0 (length (threads_of before)) (omega arith) (omega (arith, below))) (search rules)

pub returns-then-self-11-clause-first : goal.returns-then-self-11-clause-first
returns-then-self-11-clause-first c = λ before within. rw (none_holds c.args.self _ c.in_default.is) (search rules)

pub returns-then-self-12-clause-first : goal.returns-then-self-12-clause-first
returns-then-self-12-clause-first c = λ before within. rw (none_holds c.args.self _ c.in_default.is) (search rules)

pub returns-then-self-13-clause-first : goal.returns-then-self-13-clause-first
returns-then-self-13-clause-first c = λ before within. rw (none_holds c.args.self _ c.in_default.is) (search rules)

pub returns-then-self-14-clause-first : goal.returns-then-self-14-clause-first
returns-then-self-14-clause-first c = λ before within. rw (none_holds c.args.self _ c.in_default.is) (search rules)

pub returns-then-self-15-clause-first : goal.returns-then-self-15-clause-first
returns-then-self-15-clause-first c = λ before within. rw (none_holds c.args.self _ c.in_default.is) (search rules)

pub returns-then-self-16-clause-first : goal.returns-then-self-16-clause-first
returns-then-self-16-clause-first c = λ before within. rw (none_holds c.args.self _ c.in_default.is) (search rules)

pub returns-else-self-16-clause-first : goal.returns-else-self-16-clause-first
returns-else-self-16-clause-first c = λ before within. rw (none_holds c.args.self _ c.in_default.is) (search rules)
