-- What a replayer stands for behind one accepted line more.
use Rattle.std.proofs.Common.{◌≡◌, ◌≢◌, ℕ, zero, suc, ◌<◌, List, [], ◌∷◌, ◌++◌, length, Option, Some, None, refl, sym, ap, subst, ◌∙◌, arith}
use Rattle.std.specs.Prelude.{All, Contains, IfSome, map, option_map, slice_get, unwrap_or}
use Rattle.std.specs.List.{cons_option}
use Rattle.std.specs.Option.{option_and_then}
use Rattle.std.proofs.lemmas.List.{append-nil, append_assoc, length-map}
use Rattle.std.proofs.lemmas.List.Elements.{All-get_or, All-head, All-tail, filter_map-append}
use Rattle.std.proofs.lemmas.Option.{get_or_from_slice_get, none-some, slice_get-map, slice_get_within}
use Rattle.rd_ecl.specs.Kinds.{Kind, kind_names, kind_of, method_of, methods_at, kind_slots_at}
use Rattle.rd_ecl.specs.Specified as specified
use Rattle.rd_ecl.specs.Specified.{IsKind, SpecifiedKind}
use Rattle.rd_ecl.specs.declared.kinds.Method.{Method}
use Rattle.rd_event.specs.declared.events.Call.{Call as CallOf}
use Rattle.rd_event.specs.declared.events.Event.{Event as Numbered}
use Rattle.rd_event.specs.declared.events.Event.TheVariants as numbered
use Rattle.rd_event.specs.declared.items.Line.{Line}
use Rattle.rd_event.specs.declared.items.Line.TheVariants.{Skip, Header, Thread, Object, Event}
use Rattle.rd_event.specs.declared.items.LineEvent.TheVariants.{Fork, Join, Acquire, Release, Share, Unshare, Call}
use Rattle.rd_kinds.specs.Machines.{machine_of, shipped_machines}
use Rattle.rd_kinds.specs.Shipped.{shipped_kinds}
use Rattle.rd_kinds.proofs.ShippedLemmas.{shipped_are}
use Rattle.rd_object.specs.Machines.{Machine}
use Rattle.rd_order.proofs.OrderLemmas.{at_front}
use Rattle.rd_order.specs.EventLists.{IsCallOf}
use Rattle.rd_order.specs.Order.{call_in}
use Rattle.rd_replay.specs.Replays.{Recorded}
use Rattle.rd_replay.specs.Replayer.{IsRecordable, ReplayerStandsFor}
use Rattle.rd_replay.specs.declared.replayer.Replayer.{Replayer}
use Rattle.rd_rules.specs.Events.{AreTold, event_of, events_of}
use Rattle.rd_rules.specs.MayFollow.{MayFollow, accepted_of, declared_kind, is_skip, object_kinds, objects_of, place}
use Rattle.rd_rules.specs.declared.causes.Accepted.{Accepted}
use Rattle.rd_rules.specs.declared.causes.Accepted.TheVariants as accepted
use Rattle.rd_wf.specs.declared.roster.Roster.{Roster}
use Rattle.rd_rules.proofs.EventsLemmas.{events_more, kinds_placed, told_more}
use Rattle.rd_rules.proofs.FollowLemmas.{met}
use Rattle.rd_rules.proofs.PlaceLemmas.{place_below}
use Rattle.rd_walk.specs.Analysis.{IsNextEntry}
use Rattle.rd_replay_command.specs.Replaying.{BeginWithBuiltIn, Replayed, recorded_at, recorded_from, recorded_of}
use Rattle.rd_walk.specs.Walk.{Entry, items}
use Rattle.rd_walk.proofs.WalkLemmas.{items_more}

-- ---- the kinds that are built in

-- what stands in a list is what it has there, or else another
got_or : {X : Type 0} (xs : List X) (k : ℕ) (d : X) → k < length xs → slice_get xs k ≡ Some (unwrap_or (slice_get xs k) d)
got_or [] k d inside = absurd (omega arith)
got_or (x ∷ xs) zero d inside = refl
got_or (x ∷ xs) (suc k) d inside = got_or xs k d (omega arith)

-- a machine's kind has the machine's number
kind_at_machine : (more : List SpecifiedKind) (number : ℕ) (machine : Machine) → machine_of number ≡ Some machine
    → (slice_get (shipped_kinds ++ more) number ≡ Some machine.kind) × IsKind machine.kind
kind_at_machine more number machine is =
    let at : slice_get shipped_kinds number ≡ Some machine.kind =
    slice_get-map (λ (m : Machine). m.kind) shipped_machines number ∙ ap (option_map (λ (m : Machine). m.kind)) is in
    let inside = slice_get_within shipped_kinds number machine.kind at in (
      at_front shipped_kinds more number inside ∙ at,
      subst IsKind (get_or_from_slice_get shipped_kinds number machine.kind machine.kind at) (All-get_or IsKind shipped_kinds number machine.kind inside shipped_are),
    )

-- a method that is specified has as many slots as it has in a trace, and at least one
slots_same : (methods : List Method) (number : ℕ) → kind_slots_at (map method_of methods) number ≡ specified.slots_at methods number
slots_same [] number = refl
slots_same (m ∷ ms) zero = refl
slots_same (m ∷ ms) (suc number) = slots_same ms number

slots_some : (methods : List Method) (number : ℕ) → All specified.IsMethod methods → number < length methods → 0 < specified.slots_at methods number
slots_some [] number all inside = absurd (omega arith)
slots_some (m ∷ ms) zero all inside = let some = (All-head specified.IsMethod m ms all).some in omega (arith, some)
slots_some (m ∷ ms) (suc number) all inside = slots_some ms number (All-tail specified.IsMethod m ms all) (omega arith)

-- so a call of such a kind may be replayed
shipped_fits : (kinds : List Kind) → BeginWithBuiltIn kinds → (call : CallOf) → IsCallOf kinds call → (machine : Machine) → machine_of call.kind ≡ Some machine
    → (0 < length call.slots) × (call.method < length machine.kind.methods) × (specified.slots_at machine.kind.methods call.method ≡ length call.slots)
shipped_fits kinds (more, are) call fits machine of =
    let (at, is_kind) = kind_at_machine more call.kind machine of in
    let here : methods_at kinds call.kind ≡ map method_of machine.kind.methods =
    ap (λ ks. methods_at ks call.kind) are
    ∙ ap (λ o. unwrap_or (option_map (λ (k : Kind). k.methods) o) []) (slice_get-map kind_of (shipped_kinds ++ more) call.kind ∙ ap (option_map kind_of) at) in
    let known : call.method < length machine.kind.methods =
    omega (arith, fits.method, ap length here, length-map machine.kind.methods method_of) in
    let slots : length call.slots ≡ specified.slots_at machine.kind.methods call.method =
    fits.slots ∙ (ap (λ ms. kind_slots_at ms call.method) here ∙ slots_same machine.kind.methods call.method) in
    let some = slots_some machine.kind.methods call.method is_kind.draft.methods.each known in
    (omega (arith, some, slots), known, sym slots)

-- what holds of each holds of the last
last_holds : {X : Type 0} (P : X → Type 0) (xs : List X) (y : X) → All P (xs ++ y ∷ []) → P y
last_holds P [] y all = All-head P y [] all
last_holds P (x ∷ xs) y all = last_holds P xs y (All-tail P x (xs ++ y ∷ []) all)

-- the last of the events, where it is a call
last_fits : {kinds : List Kind} (es : List Numbered) (e : Option Numbered) (call : CallOf) → option_and_then call_in e ≡ Some call
    → All (λ e. IfSome (call_in e) (IsCallOf kinds)) (es ++ cons_option e []) → IsCallOf kinds call
last_fits es None call is all = absurd (none-some call is)
last_fits {kinds} es (Some e) call is all =
    subst (λ o. IfSome o (IsCallOf kinds)) is (last_holds (λ x. IfSome (call_in x) (IsCallOf kinds)) es e all)

-- ---- one line more

cons_append : {X : Type 0} (o : Option X) (xs ys : List X) → cons_option o (xs ++ ys) ≡ cons_option o xs ++ ys
cons_append None xs ys = refl
cons_append (Some x) xs ys = refl

-- a call, with the number of its line
abbrev numbered_by : ℕ → Option CallOf → Option Recorded
numbered_by number call = option_map {U = Recorded} (λ c. (number, c)) call

recorded_behind : (kinds : List Kind) (before : List Line) (entries : List Entry) (entry : Entry)
    → recorded_from kinds before (entries ++ entry ∷ []) ≡ recorded_from kinds before entries ++ cons_option (recorded_at kinds (before ++ items entries) entry) []
recorded_behind kinds before [] entry = ap (λ b. cons_option (recorded_at kinds b entry) []) (sym (append-nil before))
recorded_behind kinds before (x ∷ xs) entry =
    ap (cons_option (recorded_at kinds before x)) (recorded_behind kinds (before ++ x.item ∷ []) xs entry)
    ∙ (cons_append (recorded_at kinds before x) (recorded_from kinds (before ++ x.item ∷ []) xs) (cons_option (recorded_at kinds ((before ++ x.item ∷ []) ++ items xs) entry) [])
    ∙ ap (λ b. cons_option (recorded_at kinds before x) (recorded_from kinds (before ++ x.item ∷ []) xs) ++ cons_option (recorded_at kinds b entry) [])
    (append_assoc before (x.item ∷ []) (items xs)))

module _ (kinds : List Kind) (before : List Entry) (entry : Entry) where
  recorded_more : recorded_of kinds (before ++ entry ∷ []) ≡ recorded_of kinds before ++ cons_option (recorded_at kinds (items before) entry) []
  unfolding recorded_of
  recorded_more = recorded_behind kinds [] before entry

  kinds_more : object_kinds kinds (items (before ++ entry ∷ [])) ≡ object_kinds kinds (items before) ++ cons_option (declared_kind kinds entry.item) []
  kinds_more = ap (object_kinds kinds) (items_more before entry) ∙ filter_map-append (declared_kind kinds) (items before) (entry.item ∷ [])

  module _ (replayer new : Replayer) (replayed : Replayed kinds before replayer) (roster : Roster) (numbers : Accepted)
      (next : IsNextEntry kinds roster before entry.number entry.item numbers) where
    told_now : AreTold kinds (items before ++ entry.item ∷ [])
    told_now = told_more kinds next.limits (items before) entry.item next.usable next.follows next.few replayed.told

    told_longer : AreTold kinds (items (before ++ entry ∷ []))
    told_longer = subst (AreTold kinds) (sym (items_more before entry)) told_now

    -- a line that is neither an object nor a call
    quiet_line : recorded_at kinds (items before) entry ≡ None → declared_kind kinds entry.item ≡ None → Replayed kinds (before ++ entry ∷ []) replayer
    quiet_line no_call no_object = record {
      numbered = replayed.numbered;
      told = told_longer;
      stands = subst (λ (T : Type 0). T) (λ i. ReplayerStandsFor replayer
          (sym (kinds_more ∙ (ap (λ o. object_kinds kinds (items before) ++ cons_option o []) no_object ∙ append-nil (object_kinds kinds (items before)))) i)
          (sym (recorded_more ∙ (ap (λ o. recorded_of kinds before ++ cons_option o []) no_call ∙ append-nil (recorded_of kinds before))) i)) replayed.stands;
    }

    pub replayed_quiet : ((object kind : ℕ) → numbers ≢ accepted.Object object kind) → ((call : CallOf) → numbers ≢ accepted.Event (numbered.Call call))
        → Replayed kinds (before ++ entry ∷ []) replayer
    unfolding accepted_of
    replayed_quiet no_object no_call = by entry.item refl
      where
        event : (item : Line) → entry.item ≡ item → option_and_then call_in (event_of kinds (items before) item) ≡ None
            → declared_kind kinds item ≡ None → Replayed kinds (before ++ entry ∷ []) replayer
        event item is none undeclared =
            quiet_line (ap (numbered_by entry.number) (ap (λ l. option_and_then call_in (event_of kinds (items before) l)) is ∙ none))
            (ap (declared_kind kinds) is ∙ undeclared)

        by : (item : Line) → entry.item ≡ item → Replayed kinds (before ++ entry ∷ []) replayer
        by Skip is = event Skip is refl refl
        by (Header version) is = event (Header version) is refl refl
        by (Thread name) is = event (Thread name) is refl refl
        by (Object name kind) is = absurd (no_object _ _ (next.numbers ∙ ap (accepted_of kinds (items before)) is))
        by (Event (Fork thread child)) is = event (Event (Fork thread child)) is refl refl
        by (Event (Join thread child)) is = event (Event (Join thread child)) is refl refl
        by (Event (Acquire thread lock)) is = event (Event (Acquire thread lock)) is refl refl
        by (Event (Release thread lock)) is = event (Event (Release thread lock)) is refl refl
        by (Event (Share thread lock)) is = event (Event (Share thread lock)) is refl refl
        by (Event (Unshare thread lock)) is = event (Event (Unshare thread lock)) is refl refl
        by (Event (Call thread object method slots)) is = absurd (no_call _ (next.numbers ∙ ap (accepted_of kinds (items before)) is))

    -- an object
    record IsObject (object kind : ℕ) : Type 0 where
      last : object ≡ length (object_kinds kinds (items before))
      kind_is : declared_kind kinds entry.item ≡ Some kind
      no_call : recorded_at kinds (items before) entry ≡ None

    object_line : (object kind : ℕ) → numbers ≡ accepted.Object object kind → IsObject object kind
    unfolding accepted_of
    object_line object kind is = by entry.item refl
      where
        by : (item : Line) → entry.item ≡ item → IsObject object kind
        by (Object name kind_name) line =
            let same = sym is ∙ (next.numbers ∙ ap (accepted_of kinds (items before)) line) in
            record {
              last = number_of same ∙ sym (kinds_placed kinds (items before));
              kind_is = ap (declared_kind kinds) line ∙ ap Some (sym (kind_of_it same));
              no_call = ap (λ l. numbered_by entry.number (option_and_then call_in (event_of kinds (items before) l))) line;
            }
          where
            number_of : accepted.Object object kind ≡ accepted.Object (length (objects_of (items before))) (place (kind_names kinds) kind_name) → object ≡ length (objects_of (items before))
            number_of e = cc

            kind_of_it : accepted.Object object kind ≡ accepted.Object (length (objects_of (items before))) (place (kind_names kinds) kind_name) → kind ≡ place (kind_names kinds) kind_name
            kind_of_it e = cc
        by Skip line = (let other = sym is ∙ (next.numbers ∙ ap (accepted_of kinds (items before)) line) in cc)
        by (Header version) line = (let other = sym is ∙ (next.numbers ∙ ap (accepted_of kinds (items before)) line) in cc)
        by (Thread name) line = (let other = sym is ∙ (next.numbers ∙ ap (accepted_of kinds (items before)) line) in cc)
        by (Event event) line = (let other = sym is ∙ (next.numbers ∙ ap (accepted_of kinds (items before)) line) in cc)

    pub replayed_object : (object kind : ℕ) → numbers ≡ accepted.Object object kind
        → ((those : List ℕ) (calls : List Recorded) → ReplayerStandsFor replayer those calls → object ≡ length those → ReplayerStandsFor new (those ++ kind ∷ []) calls)
        → Replayed kinds (before ++ entry ∷ []) new
    replayed_object object kind is declares =
        let line = object_line object kind is in record {
          numbered = replayed.numbered;
          told = told_longer;
          stands = subst (λ (T : Type 0). T) (λ i. ReplayerStandsFor new
              (sym (kinds_more ∙ ap (λ o. object_kinds kinds (items before) ++ cons_option o []) line.kind_is) i)
              (sym (recorded_more ∙ (ap (λ o. recorded_of kinds before ++ cons_option o []) line.no_call ∙ append-nil (recorded_of kinds before))) i))
              (declares (object_kinds kinds (items before)) (recorded_of kinds before) replayed.stands line.last);
        }

    -- a call
    record IsCalled (call : CallOf) : Type 0 where
      called : option_and_then call_in (event_of kinds (items before) entry.item) ≡ Some call
      no_object : declared_kind kinds entry.item ≡ None
      declared : slice_get (object_kinds kinds (items before)) call.object ≡ Some call.kind

    call_line : (call : CallOf) → numbers ≡ accepted.Event (numbered.Call call) → IsCalled call
    unfolding accepted_of
    call_line call is = by entry.item refl
      where
        same_call : (one other : CallOf) → accepted.Event (numbered.Call one) ≡ accepted.Event (numbered.Call other) → one ≡ other
        same_call one other e = cc

        by : (item : Line) → entry.item ≡ item → IsCalled call
        by (Event (Call thread object method slots)) line =
            let same = same_call call _ (sym is ∙ (next.numbers ∙ ap (accepted_of kinds (items before)) line)) in
            let follows = subst (MayFollow kinds next.limits (items before)) line next.follows in
            let there : Contains (objects_of (items before)) object =
            (met kinds next.limits (items before) (Event (Call thread object method slots)) (λ skip. let e = ap is_skip skip in cc) follows).known_object in
            let below = place_below (objects_of (items before)) object there in
            record {
              called = ap (λ l. option_and_then call_in (event_of kinds (items before) l)) line ∙ ap Some (sym same);
              no_object = ap (declared_kind kinds) line;
              declared = subst (λ c. slice_get (object_kinds kinds (items before)) c.object ≡ Some c.kind) (sym same)
                  (got_or (object_kinds kinds (items before)) (place (objects_of (items before)) object) (length kinds)
                  (omega (arith, below, kinds_placed kinds (items before))));
            }
        by (Event (Fork thread child)) line = (let other = sym is ∙ (next.numbers ∙ ap (accepted_of kinds (items before)) line) in cc)
        by (Event (Join thread child)) line = (let other = sym is ∙ (next.numbers ∙ ap (accepted_of kinds (items before)) line) in cc)
        by (Event (Acquire thread lock)) line = (let other = sym is ∙ (next.numbers ∙ ap (accepted_of kinds (items before)) line) in cc)
        by (Event (Release thread lock)) line = (let other = sym is ∙ (next.numbers ∙ ap (accepted_of kinds (items before)) line) in cc)
        by (Event (Share thread lock)) line = (let other = sym is ∙ (next.numbers ∙ ap (accepted_of kinds (items before)) line) in cc)
        by (Event (Unshare thread lock)) line = (let other = sym is ∙ (next.numbers ∙ ap (accepted_of kinds (items before)) line) in cc)
        by Skip line = (let other = sym is ∙ (next.numbers ∙ ap (accepted_of kinds (items before)) line) in cc)
        by (Header version) line = (let other = sym is ∙ (next.numbers ∙ ap (accepted_of kinds (items before)) line) in cc)
        by (Thread name) line = (let other = sym is ∙ (next.numbers ∙ ap (accepted_of kinds (items before)) line) in cc)
        by (Object name kind) line = (let other = sym is ∙ (next.numbers ∙ ap (accepted_of kinds (items before)) line) in cc)

    -- it is a call of its kind
    pub call_fits : (call : CallOf) → numbers ≡ accepted.Event (numbered.Call call) → IsCallOf kinds call
    call_fits call is =
        let line = call_line call is in
        last_fits (events_of kinds (items before)) (event_of kinds (items before) entry.item) call line.called
        (subst (All (λ e. IfSome (call_in e) (IsCallOf kinds))) (events_more kinds (items before) entry.item) told_now.fit)

    pub call_recordable : (call : CallOf) → numbers ≡ accepted.Event (numbered.Call call) → IsRecordable (object_kinds kinds (items before)) call
    call_recordable call is = record {
      declared = (call_line call is).declared;
      fits = λ machine of. shipped_fits kinds replayed.numbered call (call_fits call is) machine of;
    }

    pub replayed_call : (call : CallOf) → numbers ≡ accepted.Event (numbered.Call call)
        → ((those : List ℕ) (calls : List Recorded) → ReplayerStandsFor replayer those calls → IsRecordable those call → ReplayerStandsFor new those (calls ++ (entry.number, call) ∷ []))
        → Replayed kinds (before ++ entry ∷ []) new
    replayed_call call is calls =
        let line = call_line call is in record {
          numbered = replayed.numbered;
          told = told_longer;
          stands = subst (λ (T : Type 0). T) (λ i. ReplayerStandsFor new
              (sym (kinds_more ∙ (ap (λ o. object_kinds kinds (items before) ++ cons_option o []) line.no_object ∙ append-nil (object_kinds kinds (items before)))) i)
              (sym (recorded_more ∙ ap (λ o. recorded_of kinds before ++ cons_option (numbered_by entry.number o) []) line.called) i))
              (calls (object_kinds kinds (items before)) (recorded_of kinds before) replayed.stands (call_recordable call is));
        }

-- nothing is neither an object nor a call
pub nothing_no_object : (numbers : Accepted) → numbers ≡ accepted.Nothing → (object kind : ℕ) → numbers ≢ accepted.Object object kind
nothing_no_object numbers nothing object kind is = let apart : accepted.Nothing ≡ accepted.Object object kind = sym nothing ∙ is in cc

pub nothing_no_call : (numbers : Accepted) → numbers ≡ accepted.Nothing → (call : CallOf) → numbers ≢ accepted.Event (numbered.Call call)
nothing_no_call numbers nothing call is = let apart : accepted.Nothing ≡ accepted.Event (numbered.Call call) = sym nothing ∙ is in cc

-- nor is a root
pub root_no_object : (numbers : Accepted) (thread : ℕ) → numbers ≡ accepted.Root thread → (object kind : ℕ) → numbers ≢ accepted.Object object kind
root_no_object numbers thread root object kind is = let apart : accepted.Root thread ≡ accepted.Object object kind = sym root ∙ is in cc

pub root_no_call : (numbers : Accepted) (thread : ℕ) → numbers ≡ accepted.Root thread → (call : CallOf) → numbers ≢ accepted.Event (numbered.Call call)
root_no_call numbers thread root call is = let apart : accepted.Root thread ≡ accepted.Event (numbered.Call call) = sym root ∙ is in cc

-- and an event is a call where it is one
pub event_no_object : (e : Numbered) (object kind : ℕ) → accepted.Event e ≢ accepted.Object object kind
event_no_object e object kind is = cc

pub event_no_call : (e : Numbered) → ((call : CallOf) → e ≢ numbered.Call call) → (call : CallOf) → accepted.Event e ≢ accepted.Event (numbered.Call call)
event_no_call e other call is = other call (inside e (numbered.Call call) is)
  where
    inside : (a b : Numbered) → accepted.Event a ≡ accepted.Event b → a ≡ b
    inside a b same = cc
