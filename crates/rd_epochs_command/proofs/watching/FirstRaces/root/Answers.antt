use Rattle.std.proofs.Common.{[], ◌∷◌, length, ap, refl, subst, sym, arith}
use Rattle.std.proofs.lemmas.List.{length-append}
use Rattle.rd_check_command.specs.Checked.{event_numbers}
use Rattle.rd_epoch.proofs.LessonLemmas.{lessons_root}
use Rattle.rd_epoch.specs.Lessons.{AreLessons}
use Rattle.rd_epochs_command.specs.Firsts.{accesses}
use Rattle.rd_check_command.proofs.CheckLemmas.{root_below, root_numbered, root_tracks}
use Rattle.rd_epochs_command.proofs.WatchLemmas.{rises, root_item, watches_quiet}
use Rattle.rd_epochs_command.specs.Watching.{memory_kinds}
use Rattle.rd_rules.specs.declared.causes.Accepted.TheVariants.{Root}
use Rattle.rd_walk.specs.Walk.{Entry, items}
use Rattle.rd_epochs_command.proofs.watching.FirstRaces.root.Goals as goal

pub root-requires-clause-numbered : goal.root-requires-clause-numbered
root-requires-clause-numbered c =
    let (before, item, next) = c.requires in root_numbered memory_kinds c.args.self.now.tracker (items before) item c.args.thread next.next

pub root-requires-clause-below : goal.root-requires-clause-below
root-requires-clause-below c =
    let (before, item, next) = c.requires in root_below memory_kinds c.args.self.now.tracker (items before) item c.args.thread next.next

pub returns-in-Ok-begin-clause-watches : goal.returns-in-Ok-begin-clause-watches
returns-in-Ok-begin-clause-watches c = λ before item next.
    let entry : Entry = record { number = c.args.number; item = item } in
    let (event, none) = root_item before c.args.self.now entry c.args.thread next in
    let begun = c.in-Ok-begin.ensures in
    watches_quiet before c.args.self.now entry (Root c.args.thread) next
    (record { alloc = c.args.self.now.alloc; tracker = c.root.new.self; lessons = c.begin.new.self; epochs = c.args.self.now.epochs; firsts = c.args.self.now.firsts }) event
    (root_tracks memory_kinds c.args.self.now.tracker (items before) item c.args.thread next.next c.root.new.self c.in-Ok.ensures.ok c.in-Ok.ensures.count)
    next.watches.holds (omega (arith, none)) refl
    (subst (λ lessons. AreLessons lessons (event_numbers before) (accesses before)) (sym begun)
    (lessons_root (event_numbers before) (accesses before) c.args.number (λ k l at. rises before c.args.number l next.rising k at) c.args.self.now.lessons next.watches.lessons))
    (omega (arith, ap length begun, length-append c.args.self.now.lessons (c.args.number ∷ []), next.watches.each, c.in-Ok.ensures.count))
