use Rattle.std.proofs.Common.{◌≡◌, ℕ, List, [], ◌∷◌, ◌++◌, length, subst}
use Rattle.std.proofs.lemmas.Result.{on_ok_weaker}
use Rattle.rd_event.specs.declared.items.Line.{Line}
use Rattle.rd_ecl.specs.Kinds.{Kind}
use Rattle.rd_rules.specs.declared.causes.Accepted.TheVariants as accepted
use Rattle.rd_wf.specs.declared.roster.Roster.{Roster}
use Rattle.rd_replay.specs.Replays.{Recorded}
use Rattle.rd_replay.specs.Replayer.{ReplayerStandsFor}
use Rattle.rd_walk.specs.Analysis.{IsNextEntry}
use Rattle.rd_replay_command.specs.Replaying.{Replayed}
use Rattle.rd_walk.specs.Walk.{Entry}
use Rattle.rd_replay_command.proofs.ReplayingLemmas.{nothing_no_call, nothing_no_object, replayed_object, replayed_quiet, root_no_call, root_no_object}
use Rattle.rd_replay_command.proofs.following.follow.Goals as goal

pub returns-in-Object-clause-follows : goal.returns-in-Object-clause-follows
returns-in-Object-clause-follows c = on_ok_weaker c.follow_object.result
    (λ (all : (those : List ℕ) (calls : List Recorded) → ReplayerStandsFor c.args.replayer.now those calls → c.in-Object.object ≡ length those
    → ReplayerStandsFor c.follow_object.new.replayer (those ++ c.in-Object.kind ∷ []) calls) kinds before item roster replayed next.
    let entry : Entry = record { number = c.args.number; item = item } in
    replayed_object kinds before entry c.args.replayer.now c.follow_object.new.replayer replayed roster c.args.accepted.now next c.in-Object.object c.in-Object.kind
    c.in-Object.is all)
    c.follow_object.ensures.follows

pub returns-in-Nothing-clause-follows : goal.returns-in-Nothing-clause-follows
returns-in-Nothing-clause-follows c = λ kinds before item roster replayed next.
    let entry : Entry = record { number = c.args.number; item = item } in
    replayed_quiet kinds before entry c.args.replayer.now c.args.replayer.now replayed roster c.args.accepted.now next
    (nothing_no_object c.args.accepted.now c.in-Nothing.is) (nothing_no_call c.args.accepted.now c.in-Nothing.is)

pub returns-in-Root-clause-follows : goal.returns-in-Root-clause-follows
returns-in-Root-clause-follows c = λ kinds before item roster replayed next.
    let entry : Entry = record { number = c.args.number; item = item } in
    replayed_quiet kinds before entry c.args.replayer.now c.args.replayer.now replayed roster c.args.accepted.now next
    (root_no_object c.args.accepted.now c.in-Root.field-0 c.in-Root.is) (root_no_call c.args.accepted.now c.in-Root.field-0 c.in-Root.is)

pub follow_event-requires : goal.follow_event-requires
follow_event-requires c =
    let (kinds, before, item, roster, replayed, next) = c.requires in
    (kinds, before, item, roster, replayed, subst (IsNextEntry kinds roster before c.args.number item) c.in-Event.is next)

pub returns-in-Event-clause-follows : goal.returns-in-Event-clause-follows
returns-in-Event-clause-follows c = on_ok_weaker c.follow_event.result
    (λ (all : (kinds : List Kind) (before : List Entry) (item : Line) (roster : Roster) → Replayed kinds before c.args.replayer.now
    → IsNextEntry kinds roster before c.args.number item (accepted.Event c.in-Event.event) → Replayed kinds (before ++ record { number = c.args.number; item = item } ∷ []) c.follow_event.new.replayer)
    kinds before item roster replayed next. all kinds before item roster replayed (subst (IsNextEntry kinds roster before c.args.number item) c.in-Event.is next))
    c.follow_event.ensures.follows
