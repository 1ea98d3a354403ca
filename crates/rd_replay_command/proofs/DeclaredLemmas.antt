-- The calls of accepted lines are on objects that were declared.
use Rattle.std.proofs.Common.{◌≡◌, ℕ, ◌<◌, ◌≤◌, List, [], ◌∷◌, ◌++◌, length, Option, Some, None, refl, ap, subst, arith}
use Rattle.std.specs.Prelude.{All, Contains, option_map}
use Rattle.std.specs.List.{cons_option}
use Rattle.std.specs.Option.{option_and_then}
use Rattle.std.proofs.lemmas.List.{append_assoc, length-append}
use Rattle.std.proofs.lemmas.List.Elements.{All-cons, All-nil, filter_map-append}
use Rattle.std.proofs.lemmas.Option.{none-some, same_Some}
use Rattle.rd_ecl.specs.Kinds.{Kind}
use Rattle.rd_event.specs.declared.items.Line.{Line}
use Rattle.rd_event.specs.declared.items.Line.TheVariants.{Skip, Header, Thread, Object, Event}
use Rattle.rd_event.specs.declared.items.LineEvent.TheVariants.{Fork, Join, Acquire, Release, Share, Unshare, Call}
use Rattle.rd_order.specs.Order.{call_in}
use Rattle.rd_replay.specs.Replays.{Recorded}
use Rattle.rd_rules.specs.Events.{AreAccepted, AreAcceptedFrom, IsAccepted, event_of}
use Rattle.rd_rules.specs.MayFollow.{declared_kind, is_skip, object_kinds, objects_of}
use Rattle.rd_rules.proofs.EventsLemmas.{kinds_placed}
use Rattle.rd_rules.proofs.FollowLemmas.{met}
use Rattle.rd_rules.proofs.PlaceLemmas.{place_below}
use Rattle.rd_replay_command.specs.Replaying.{recorded_at, recorded_from, recorded_of}
use Rattle.rd_walk.specs.Walk.{Entry, items}

-- the object of a call is one of so many
abbrev Below : ℕ → Recorded → Type 0
Below count recorded = recorded.1.object < count

all_below : (calls : List Recorded) (few many : ℕ) → few ≤ many → All (Below few) calls → All (Below many) calls
all_below calls few many more all = λ k d inside. omega (arith, more, all k d inside)

below_with : (count : ℕ) (o : Option Recorded) (calls : List Recorded) → ((recorded : Recorded) → o ≡ Some recorded → Below count recorded) → All (Below count) calls
    → All (Below count) (cons_option o calls)
below_with count None calls first rest = rest
below_with count (Some recorded) calls first rest = All-cons (Below count) recorded calls (first recorded refl) rest

module _ (kinds : List Kind) where
  abbrev numbered_call : ℕ → List Line → Line → Option Recorded
  numbered_call number before item = option_map {U = Recorded} (λ c. (number, c)) (option_and_then call_in (event_of kinds before item))

  -- the call of an accepted line
  declared_at : (number : ℕ) (before : List Line) (item : Line) → IsAccepted kinds before item → (recorded : Recorded) → numbered_call number before item ≡ Some recorded
      → Below (length (object_kinds kinds before)) recorded
  declared_at number before (Event (Call thread object method slots)) accepted recorded is =
      let there : Contains (objects_of before) object =
      (met kinds accepted.limits before (Event (Call thread object method slots)) (λ skip. let e = ap is_skip skip in cc) accepted.follows).known_object in
      let below = place_below (objects_of before) object there in
      subst (Below (length (object_kinds kinds before))) (same_Some _ recorded is) (omega (arith, below, kinds_placed kinds before))
  declared_at number before (Event (Fork thread child)) accepted recorded is = absurd (none-some recorded is)
  declared_at number before (Event (Join thread child)) accepted recorded is = absurd (none-some recorded is)
  declared_at number before (Event (Acquire thread lock)) accepted recorded is = absurd (none-some recorded is)
  declared_at number before (Event (Release thread lock)) accepted recorded is = absurd (none-some recorded is)
  declared_at number before (Event (Share thread lock)) accepted recorded is = absurd (none-some recorded is)
  declared_at number before (Event (Unshare thread lock)) accepted recorded is = absurd (none-some recorded is)
  declared_at number before Skip accepted recorded is = absurd (none-some recorded is)
  declared_at number before (Header version) accepted recorded is = absurd (none-some recorded is)
  declared_at number before (Thread name) accepted recorded is = absurd (none-some recorded is)
  declared_at number before (Object name kind) accepted recorded is = absurd (none-some recorded is)

  more_kinds : (before lines : List Line) → length (object_kinds kinds before) ≤ length (object_kinds kinds (before ++ lines))
  more_kinds before lines =
      omega (arith, ap length (filter_map-append (declared_kind kinds) before lines), length-append (object_kinds kinds before) (object_kinds kinds lines))

  declared_from : (before : List Line) (entries : List Entry) → AreAcceptedFrom kinds before (items entries)
      → All (Below (length (object_kinds kinds (before ++ items entries)))) (recorded_from kinds before entries)
  declared_from before [] accepted = All-nil (Below (length (object_kinds kinds (before ++ []))))
  declared_from before (entry ∷ entries) accepted =
      let count = length (object_kinds kinds (before ++ items (entry ∷ entries))) in
      below_with count (recorded_at kinds before entry) (recorded_from kinds (before ++ entry.item ∷ []) entries)
      (λ recorded is. let below = declared_at entry.number before entry.item accepted.0 recorded is in omega (arith, below, more_kinds before (items (entry ∷ entries))))
      (subst (λ lines. All (Below (length (object_kinds kinds lines))) (recorded_from kinds (before ++ entry.item ∷ []) entries)) (append_assoc before (entry.item ∷ []) (items entries))
      (declared_from (before ++ entry.item ∷ []) entries accepted.1))

  -- those of all accepted lines
  pub calls_declared : (entries : List Entry) → AreAccepted kinds (items entries) → All (Below (length (object_kinds kinds (items entries)))) (recorded_of kinds entries)
  unfolding recorded_of
  calls_declared entries accepted = declared_from [] entries accepted
