use Rattle.rd_rules.specs.declared.causes.Accepted.TheVariants.{Root}
use Rattle.rd_ecl.specs.Kinds.{kinds_of}
use Rattle.rd_walk.specs.Walk.{items}
use Rattle.rd_check_command.proofs.CheckLemmas.{checks_quiet, root_below, root_numbered, root_tracks}
use Rattle.rd_check_command.proofs.checking.Check.root.Goals as goal

pub root-requires-clause-numbered : goal.root-requires-clause-numbered
root-requires-clause-numbered c =
    let (start, before, item, checks, next) = c.requires in
    root_numbered (kinds_of start.spec.now) c.args.self.now.tracker (items before) item c.args.thread next

pub root-requires-clause-below : goal.root-requires-clause-below
root-requires-clause-below c =
    let (start, before, item, checks, next) = c.requires in
    root_below (kinds_of start.spec.now) c.args.self.now.tracker (items before) item c.args.thread next

pub returns-in-Ok-clause-checks : goal.returns-in-Ok-clause-checks
returns-in-Ok-clause-checks c = λ start before entry checks next.
    checks_quiet start c.args.self.now c.root.new.self before entry checks
    (root_tracks (kinds_of start.spec.now) c.args.self.now.tracker (items before) entry.item c.args.thread next c.root.new.self c.in-Ok.ensures.ok c.in-Ok.ensures.count)
    (Root c.args.thread) next (λ call e. cc)
