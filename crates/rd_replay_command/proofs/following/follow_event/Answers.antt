use Rattle.std.proofs.Common.{ℕ, List, [], ◌∷◌, ◌++◌, ap}
use Rattle.std.proofs.lemmas.Result.{on_ok_weaker}
use Rattle.rd_rules.specs.MayFollow.{object_kinds}
use Rattle.rd_rules.specs.declared.causes.Accepted.TheVariants as accepted
use Rattle.rd_replay.specs.Replays.{Recorded}
use Rattle.rd_replay.specs.Replayer.{IsRecordable, ReplayerStandsFor}
use Rattle.rd_replay_command.specs.Replaying.{recorded_of}
use Rattle.rd_walk.specs.Walk.{Entry, items}
use Rattle.rd_replay_command.proofs.ReplayingLemmas.{call_recordable, event_no_call, event_no_object, replayed_call, replayed_quiet}
use Rattle.rd_replay_command.proofs.following.follow_event.Goals as goal

pub follow_call-requires : goal.follow_call-requires
follow_call-requires c =
    let (kinds, before, item, roster, replayed, next) = c.requires in
    let entry : Entry = record { number = c.args.number; item = item } in (
      object_kinds kinds (items before),
      recorded_of kinds before,
      replayed.stands,
      call_recordable kinds before entry c.args.replayer.now c.args.replayer.now replayed roster (accepted.Event c.args.event.now) next c.in-Call.call
          (ap accepted.Event c.in-Call.is),
    )

pub returns-in_default-clause-follows : goal.returns-in_default-clause-follows
returns-in_default-clause-follows c = λ kinds before item roster replayed next.
    let entry : Entry = record { number = c.args.number; item = item } in
    replayed_quiet kinds before entry c.args.replayer.now c.args.replayer.now replayed roster (accepted.Event c.args.event.now) next
    (event_no_object c.args.event.now) (event_no_call c.args.event.now c.in_default.not-Call)

pub returns-clause-follows : goal.returns-clause-follows
returns-clause-follows c = on_ok_weaker c.follow_call.result
    (λ (all : (those : List ℕ) (calls : List Recorded) → ReplayerStandsFor c.args.replayer.now those calls → IsRecordable those c.in-Call.call
    → ReplayerStandsFor c.follow_call.new.replayer those (calls ++ (c.args.number, c.in-Call.call) ∷ [])) kinds before item roster replayed next.
    let entry : Entry = record { number = c.args.number; item = item } in
    replayed_call kinds before entry c.args.replayer.now c.follow_call.new.replayer replayed roster (accepted.Event c.args.event.now) next c.in-Call.call
    (ap accepted.Event c.in-Call.is) all)
    c.follow_call.ensures.follows
