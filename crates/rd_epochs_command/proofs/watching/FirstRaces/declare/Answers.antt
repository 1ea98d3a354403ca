use Rattle.std.proofs.Common.{refl, ap, inr, length, [], ◌∷◌, ◌∙◌, arith}
use Rattle.std.proofs.lemmas.List.{length-append}
use Rattle.rd_check_command.proofs.CheckLemmas.{quiet_tracks}
use Rattle.rd_check_command.specs.Checked.{event_numbers}
use Rattle.rd_epoch.specs.Epochs.{no_access}
use Rattle.rd_epochs_command.proofs.WatchLemmas.{object_item, watches_quiet}
use Rattle.rd_epochs_command.specs.Firsts.{accesses}
use Rattle.rd_epochs_command.specs.Watching.{memory_kinds}
use Rattle.rd_rules.specs.Events.{roots_of}
use Rattle.rd_rules.specs.declared.causes.Accepted.TheVariants.{Object}
use Rattle.rd_walk.specs.Walk.{items}
use Rattle.rd_epochs_command.proofs.watching.FirstRaces.declare.Goals as goal

pub returns-in-Ok-clause-watches : goal.returns-in-Ok-clause-watches
returns-in-Ok-clause-watches c = λ before entry object kind next.
    let (event, one) = object_item before c.args.self.now entry object kind next in
    let held = c.in-Ok.ensures.ok in
    watches_quiet before c.args.self.now entry (Object object kind) next (record { alloc = c.args.self.now.alloc; tracker = c.args.self.now.tracker; lessons = c.args.self.now.lessons; epochs = c.declare.new.self; firsts = c.args.self.now.firsts }) event
    (quiet_tracks memory_kinds c.args.self.now.tracker (items before) entry.item (Object object kind) next.next (inr (object, kind, refl)))
    (c.in-Ok.ensures.stands (roots_of (items before)) (event_numbers before) (accesses before) next.watches.holds)
    (omega (arith, one, ap length held ∙ length-append c.args.self.now.epochs (no_access ∷ []))) refl next.watches.lessons next.watches.each
