-- What is held of one line more.
use Rattle.std.proofs.Common.{◌≡◌, ◌≢◌, ◌<◌, ◌≤◌, ℕ, zero, suc, ◌+◌, Bool, true, false, cond, ltb, List, [], ◌∷◌, ◌++◌, length, MatchOption, Option, Some, None, is_some, refl, sym, ap, subst, ◌∙◌, arith}
use Rattle.std.specs.Prelude.{slice_get, unwrap_or}
use Rattle.std.specs.List.{cons_option}
use Rattle.std.proofs.lemmas.List.{append-nil, length-append, length-map}
use Rattle.std.proofs.lemmas.Option.{none-some, same_Some}
use Rattle.rd_check_command.proofs.CheckLemmas.{event_last, event_line, same_roots, told_next}
use Rattle.rd_check_command.proofs.NamingLemmas.{all_named}
use Rattle.rd_check_command.proofs.ReportLemmas.{passing, event_numbers_more, events_all, quiet_events, quiet_numbers}
use Rattle.rd_check_command.specs.Checked.{event_numbers, number_at, text_with}
use Rattle.rd_check_command.specs.Checking.{IsNextLine as IsNextTracked, Tracks}
use Rattle.rd_epoch.proofs.AccessLemmas.{same_call}
use Rattle.rd_epoch.proofs.StandLemmas.{stands_quiet}
use Rattle.rd_epoch.specs.Accesses.{IsFirstRace, variable_kinds}
use Rattle.rd_epoch.specs.Epochs.{EpochsStandFor, HeldAccesses, IsFirstTold}
use Rattle.rd_epoch.specs.Lessons.{AreLessons}
use Rattle.rd_epoch.specs.declared.epochs.First.{First}
use Rattle.rd_epochs_command.proofs.FirstLemmas.{first_told}
use Rattle.rd_epochs_command.proofs.TextLemmas.{firsts_more, firsts_quiet, objects_more, texts_more, texts_quiet}
use Rattle.rd_epochs_command.specs.Firsts.{access_line, accesses, first_at, first_line, first_text, first_texts, first_with, firsts_before, firsts_of}
use Rattle.rd_epochs_command.specs.Watching.{IsNextWatched, Watches, memory_kinds}
use Rattle.rd_epochs_command.specs.declared.watching.FirstRaces.{FirstRaces}
use Rattle.rd_event.specs.declared.events.Call.{Call as CallOf}
use Rattle.rd_event.specs.declared.events.Event.TheVariants as numbered
use Rattle.rd_event.specs.declared.events.Event.{Event as Numbered}
use Rattle.rd_event.specs.declared.items.Line.TheVariants.{Skip, Header, Thread, Object, Event}
use Rattle.rd_event.specs.declared.items.Line.{Line}
use Rattle.rd_event.specs.declared.items.LineEvent.{LineEvent}
use Rattle.rd_races.proofs.RaceLemmas.{latest_some}
use Rattle.rd_races.specs.Commuting.{Commute, calls_commute}
use Rattle.rd_races.specs.Races.{IsLatest}
use Rattle.rd_order.proofs.OrderLemmas.{at_end}
use Rattle.rd_order.specs.EventLists.{WellFormedWith}
use Rattle.rd_report.specs.Texts.{name_of}
use Rattle.rd_rules.proofs.EventsLemmas.{told_formed}
use Rattle.rd_rules.specs.Events.{AreTold, events_of, roots_of}
use Rattle.rd_rules.specs.MayFollow.{accepted_of, declared_name, is_event, numbered_event, objects_of}
use Rattle.rd_rules.specs.declared.causes.Accepted.TheVariants as accepted
use Rattle.rd_rules.specs.declared.causes.Accepted.{Accepted}
use Rattle.rd_wf.specs.Roster.{object_count, object_names_in}
use Rattle.rd_wf.specs.declared.roster.Roster.{Roster}
use Rattle.rd_walk.proofs.WalkLemmas.{items_more}
use Rattle.rd_walk.specs.Analysis.{AreBefore}
use Rattle.rd_walk.specs.Walk.{Entry, items}

-- what is held doesn't depend on which threads no event begins
pub other_roots : (held : List HeldAccesses) (roots others : ℕ → Bool) (lines : List ℕ) (es : List Numbered) → WellFormedWith memory_kinds others es
    → EpochsStandFor held roots lines es → EpochsStandFor held others lines es
other_roots held roots others lines es formed stands =
    record { formed = formed; lengths = stands.lengths; rising = stands.rising; numbered = stands.numbered; each = stands.each }

-- the numbers of events rise
pub rises : (entries : List Entry) (number line : ℕ) → AreBefore number entries → (k : ℕ) → slice_get (event_numbers entries) k ≡ Some line → line < number
rises [] number line all k at = absurd (none-some line at)
rises (entry ∷ entries) number line all k at =
    by (is_event entry.item) refl (rises entries number line (λ i d inside. all (suc i) d (omega (arith, inside)))) k at
  where
    by : (b : Bool) → is_event entry.item ≡ b → ((k : ℕ) → slice_get (event_numbers entries) k ≡ Some line → line < number) → (k : ℕ)
        → slice_get (cons_option (cond b (Some entry.number) None) (event_numbers entries)) k ≡ Some line → line < number
    by false event rest k at = rest k at
    by true event rest ℕ.zero at = let below = all 0 entry (omega arith) event in let same : entry.number ≡ line = same_Some entry.number line at in omega (arith, below, same)
    by true event rest (suc k) at = rest k at

module _ (before : List Entry) (now : FirstRaces) (entry : Entry) (numbers : Accepted) (next : IsNextWatched before now entry.number entry.item numbers) where
  told : AreTold memory_kinds (items before)
  told = next.watches.tracks.told

  pub told_now : AreTold memory_kinds (items before ++ entry.item ∷ [])
  told_now = told_next memory_kinds now.tracker (items before) entry.item numbers next.next

  abbrev After : List Entry
  After = before ++ entry ∷ []

  formed_now : WellFormedWith memory_kinds (roots_of (items After)) (accesses After)
  formed_now = told_formed memory_kinds (items After) (subst (AreTold memory_kinds) (sym (items_more before entry)) told_now)

  -- a line that is no event
  pub watches_quiet : (new : FirstRaces) → is_event entry.item ≡ false → Tracks memory_kinds new.tracker (items before ++ entry.item ∷ [])
      → EpochsStandFor new.epochs (roots_of (items before)) (event_numbers before) (accesses before)
      → length now.epochs + length (cons_option (declared_name entry.item) []) ≤ length new.epochs → new.firsts ≡ now.firsts
      → AreLessons new.lessons (event_numbers before) (accesses before) → length new.lessons ≡ length new.tracker.threads → Watches After new
  watches_quiet new event tracks holds count firsts lessons each =
      let same_events = quiet_events variable_kinds before entry event in
      let same_numbers = quiet_numbers variable_kinds before entry event in record {
        tracks = subst (Tracks memory_kinds new.tracker) (sym (items_more before entry)) tracks;
        holds = other_roots new.epochs (roots_of (items before)) (roots_of (items After)) (event_numbers After) (accesses After) formed_now
            (subst (λ (T : Type 0). T) (λ i. EpochsStandFor new.epochs (roots_of (items before)) (sym same_numbers i) (sym same_events i)) holds);
        declared =
            let all = ap length (ap objects_of (items_more before entry) ∙ objects_more (items before) entry.item) in
            omega (arith, count, next.watches.declared, all, length-append (objects_of (items before)) (cons_option (declared_name entry.item) []));
        firsts = firsts ∙ next.watches.firsts ∙ sym (firsts_quiet before entry event);
        lessons = subst (λ (T : Type 0). T) (λ i. AreLessons new.lessons (sym same_numbers i) (sym same_events i)) lessons;
        each = each;
      }

  pub written_quiet : is_event entry.item ≡ false → first_texts After ≡ first_texts before
  written_quiet event = texts_quiet before entry event told

  -- an event
  module _ (e : Numbered) (is_e : numbers ≡ accepted.Event e) where
    pub line_of : IsNextTracked memory_kinds now.tracker (items before) entry.item (accepted.Event e)
    line_of = subst (IsNextTracked memory_kinds now.tracker (items before) entry.item) is_e next.next

    pub event_is : (event : LineEvent) × (entry.item ≡ Event event) × (e ≡ numbered_event memory_kinds (items before) event)
    event_is = event_line memory_kinds (items before) entry.item e line_of.told_as

    abbrev Es : List Numbered
    Es = accesses before ++ e ∷ []

    pub formed_with : WellFormedWith memory_kinds (roots_of (items before)) Es
    formed_with =
        subst (λ m. WellFormedWith memory_kinds (λ t. ltb t m) Es) (same_roots memory_kinds now.tracker (items before) entry.item e line_of)
        (subst (WellFormedWith memory_kinds (roots_of (items before ++ entry.item ∷ []))) (event_last memory_kinds now.tracker (items before) entry.item e line_of)
        (told_formed memory_kinds (items before ++ entry.item ∷ []) told_now))

    all_events : accesses After ≡ Es
    all_events = let (event, is, same) = event_is in events_all variable_kinds before entry event is ∙ ap (λ x. accesses before ++ x ∷ []) (sym same)

    all_numbers : event_numbers After ≡ event_numbers before ++ entry.number ∷ []
    all_numbers = let (event, is, same) = event_is in event_numbers_more variable_kinds before entry event is

    pub all_rise : (k number : ℕ) → slice_get (event_numbers before) k ≡ Some number → number < entry.number
    all_rise k number at = rises before entry.number number next.rising k at

    no_object : declared_name entry.item ≡ None
    no_object = let (event, is, same) = event_is in ap declared_name is

    pub watches_event : (new : FirstRaces) → Tracks memory_kinds new.tracker (items before ++ entry.item ∷ [])
        → EpochsStandFor new.epochs (roots_of (items before)) (event_numbers before ++ entry.number ∷ []) Es → length now.epochs ≤ length new.epochs
        → new.firsts ≡ now.firsts + cond (is_some (first_at Es (length (accesses before)))) 1 0
        → AreLessons new.lessons (event_numbers before ++ entry.number ∷ []) Es → length new.lessons ≡ length new.tracker.threads → Watches After new
    watches_event new tracks holds count firsts lessons each =
        let (event, is, same) = event_is in record {
          tracks = subst (Tracks memory_kinds new.tracker) (sym (items_more before entry)) tracks;
          holds = other_roots new.epochs (roots_of (items before)) (roots_of (items After)) (event_numbers After) (accesses After) formed_now
              (subst (λ (T : Type 0). T) (λ i. EpochsStandFor new.epochs (roots_of (items before)) (sym all_numbers i) (sym all_events i)) holds);
          declared =
              let all = ap length (ap objects_of (items_more before entry) ∙ objects_more (items before) entry.item ∙ ap (λ o. objects_of (items before) ++ cons_option o []) no_object
              ∙ append-nil (objects_of (items before))) in
              omega (arith, count, next.watches.declared, all);
          firsts = firsts ∙ ap (λ n. n + cond (is_some (first_at Es (length (accesses before)))) 1 0) next.watches.firsts
              ∙ ap (λ x. firsts_of before + cond (is_some (first_at (accesses before ++ x ∷ []) (length (accesses before)))) 1 0) same
              ∙ sym (firsts_more before entry event is);
          lessons = subst (λ (T : Type 0). T) (λ i. AreLessons new.lessons (sym all_numbers i) (sym all_events i)) lessons;
          each = each;
        }

    pub written_event : first_texts After ≡ first_texts before
        ++ text_with (first_text (objects_of (items before ++ entry.item ∷ [])) (event_numbers before ++ entry.number ∷ []) Es) (length (accesses before)) (first_at Es (length (accesses before)))
    written_event =
        let (event, is, same) = event_is in
        texts_more before entry event is told
        ∙ ap (λ x. first_texts before ++ text_with (first_text (objects_of (items before ++ entry.item ∷ [])) (event_numbers before ++ entry.number ∷ []) (accesses before ++ x ∷ [])) (length (accesses before))
        (first_at (accesses before ++ x ∷ []) (length (accesses before)))) (sym same)

    -- of one that is no first race nothing is written or counted
    pub written_none : first_at Es (length (accesses before)) ≡ None → first_texts After ≡ first_texts before
    written_none none =
        written_event
        ∙ ap (λ o. first_texts before ++ text_with (first_text (objects_of (items before ++ entry.item ∷ [])) (event_numbers before ++ entry.number ∷ []) Es) (length (accesses before)) o) none
        ∙ append-nil (first_texts before)

    pub counted_none : first_at Es (length (accesses before)) ≡ None → (firsts : ℕ) → firsts ≡ now.firsts → firsts ≡ now.firsts + cond (is_some (first_at Es (length (accesses before)))) 1 0
    counted_none none firsts same = same ∙ omega (arith, ap (λ o. now.firsts + cond (is_some o) 1 0) none)

    -- one that is no access is no first race
    pub first_none : ((call : CallOf) → e ≢ numbered.Call call) → first_at Es (length (accesses before)) ≡ None
    unfolding first_at
    first_none other = ap (first_with Es (length (accesses before))) (at_end (accesses before) e) ∙ by e refl
      where
        by : (x : Numbered) → e ≡ x → first_with Es (length (accesses before)) (Some x) ≡ None
        by (numbered.Call call) is = absurd (other call is)
        by (numbered.Fork t c) is = refl
        by (numbered.Join t c) is = refl
        by (numbered.Acquire t l) is = refl
        by (numbered.Release t l) is = refl
        by (numbered.Share t l) is = refl
        by (numbered.Unshare t l) is = refl

    -- it leaves what is held
    pub holds_other : ((call : CallOf) → e ≢ numbered.Call call) → EpochsStandFor now.epochs (roots_of (items before)) (event_numbers before ++ entry.number ∷ []) Es
    holds_other other = stands_quiet now.epochs (roots_of (items before)) (event_numbers before) (accesses before) entry.number e other formed_with all_rise next.watches.holds

    -- what is answered of an access is what the test tells
    module _ (call : CallOf) (called : e ≡ numbered.Call call) where
      abbrev Place : ℕ
      Place = length (accesses before)

      at_call : slice_get Es Place ≡ Some (numbered.Call call)
      at_call = at_end (accesses before) e ∙ ap Some called

      -- what the answer tells, by the lines of the events
      abbrev pub Told : Option First → Option ℕ → Type 0
      Told None found = found ≡ None
      Told (Some first) found = (i : ℕ) × (found ≡ Some i) × (number_at (event_numbers before ++ entry.number ∷ []) Place ≡ first.later)
          × (number_at (event_numbers before ++ entry.number ∷ []) i ≡ first.earlier)

      pub answer_told : (answer : Option First) → IsFirstTold (event_numbers before ++ entry.number ∷ []) Es Place call.object answer → Told answer (first_at Es Place)
      answer_told None is = by (first_at Es Place) (first_told (roots_of (items before)) Es formed_with Place)
        where
          by : (o : Option ℕ) → MatchOption o (¬ ((variable : ℕ) × IsFirstRace Es variable Place)) (λ i. (variable : ℕ) × IsFirstRace Es variable Place × IsLatest (Commute variable_kinds) Es Place i)
              → o ≡ None
          by None none = refl
          by (Some i) (variable, first, latest) =
              let one : variable ≡ call.object = sym first.at.object ∙ ap (λ (c : CallOf). c.object) (same_call (slice_get Es Place) first.at.call call first.at.at at_call) in
              absurd (is (subst (λ v. IsFirstRace Es v Place) one first))
      answer_told (Some first) (race, later, told) =
          by (first_at Es Place) (first_told (roots_of (items before)) Es formed_with Place)
        where
          by : (o : Option ℕ) → MatchOption o (¬ ((variable : ℕ) × IsFirstRace Es variable Place)) (λ i. (variable : ℕ) × IsFirstRace Es variable Place × IsLatest (Commute variable_kinds) Es Place i)
              → Told (Some first) o
          by None none = absurd (none (call.object, race))
          by (Some k) (variable, other, is_latest) =
              let found = latest_some (Commute variable_kinds) (calls_commute variable_kinds) (passing variable_kinds) Es Place in
              let (i, latest, earlier) = told in
              let same : k ≡ i = same_Some k i (sym (found k is_latest) ∙ found i latest) in
              (i, ap Some same, ap (λ o. unwrap_or o 0) later, ap (λ o. unwrap_or o 0) earlier)

      -- what is written of it
      pub written_first : (first : First) → Told (Some first) (first_at Es Place)
          → first_texts After ≡ first_texts before ++ first_line (name_of (objects_of (items before ++ entry.item ∷ [])) call.object) first.later first.earlier
      written_first first (i, found, later, earlier) =
          written_event
          ∙ ap (λ o. first_texts before ++ text_with (first_text (objects_of (items before ++ entry.item ∷ [])) (event_numbers before ++ entry.number ∷ []) Es) Place o) found
          ∙ (λ k. first_texts before ++ access_line (objects_of (items before ++ entry.item ∷ [])) (later k) (earlier k) (at_call k))

      pub counted_first : (first : First) → Told (Some first) (first_at Es Place) → (firsts : ℕ) → firsts ≡ now.firsts + 1 → firsts ≡ now.firsts + cond (is_some (first_at Es Place)) 1 0
      counted_first first (i, found, later, earlier) firsts same = same ∙ sym (ap (λ o. now.firsts + cond (is_some o) 1 0) found)

      -- the variable has a name
      pub variable_named : call.object < length (objects_of (items before ++ entry.item ∷ []))
      variable_named =
          let at : slice_get (events_of memory_kinds (items before ++ entry.item ∷ [])) Place ≡ Some (numbered.Call call)
          = ap (λ es. slice_get es Place) (event_last memory_kinds now.tracker (items before) entry.item e line_of) ∙ at_call in
          (all_named variable_kinds (items before ++ entry.item ∷ []) told_now Place call at).object

      pub variable_counted : (roster : Roster) → object_names_in roster ≡ objects_of (items before ++ entry.item ∷ []) → call.object < object_count roster
      variable_counted roster named = omega (arith, variable_named, ap length named, length-map roster.objects.entries (λ pair. pair.0))

      pub variable_held : call.object < length now.epochs
      variable_held =
          let same : length (objects_of (items before ++ entry.item ∷ [])) ≡ length (objects_of (items before))
          = ap length (objects_more (items before) entry.item ∙ ap (λ o. objects_of (items before) ++ cons_option o []) no_object ∙ append-nil (objects_of (items before))) in
          omega (arith, variable_named, same, next.watches.declared)

-- how many raced stays small
firsts_within : (es : List Numbered) (n : ℕ) → firsts_before es n ≤ n
unfolding firsts_before
firsts_within es zero = omega arith
firsts_within es (suc n) = by (is_some (first_at es n)) (firsts_within es n)
  where
    by : (b : Bool) → firsts_before es n ≤ n → firsts_before es n + cond b 1 0 ≤ suc n
    by true few = omega arith
    by false few = omega arith

pub events_few : (before : List Entry) (now : FirstRaces) → Watches before now → now.firsts ≤ 4294967295
unfolding firsts_of
events_few before now watches =
    let few = watches.tracks.told.told.formed.bounded.few_events in
    omega (arith, watches.firsts, firsts_within (accesses before) (length (accesses before)), few)

-- ---- what a line is, by its numbers

-- a root is no event, and declares nothing
pub root_item : (before : List Entry) (now : FirstRaces) (entry : Entry) (thread : ℕ) → IsNextWatched before now entry.number entry.item (accepted.Root thread)
    → (is_event entry.item ≡ false) × (length (cons_option (declared_name entry.item) []) ≡ 0)
unfolding accepted_of
root_item before now entry thread next = by entry.item next.next.told_as
  where
    by : (line : Line) → accepted.Root thread ≡ accepted_of memory_kinds (items before) line → (is_event line ≡ false) × (length (cons_option (declared_name line) []) ≡ 0)
    by Skip e = cc
    by (Header version) e = cc
    by (Thread name) e = (refl, refl)
    by (Object name kind) e = cc
    by (Event event) e = cc

-- an object line is no event, and declares one
pub object_item : (before : List Entry) (now : FirstRaces) (entry : Entry) (object kind : ℕ) → IsNextWatched before now entry.number entry.item (accepted.Object object kind)
    → (is_event entry.item ≡ false) × (length (cons_option (declared_name entry.item) []) ≡ 1)
unfolding accepted_of
object_item before now entry object kind next = by entry.item next.next.told_as
  where
    by : (line : Line) → accepted.Object object kind ≡ accepted_of memory_kinds (items before) line → (is_event line ≡ false) × (length (cons_option (declared_name line) []) ≡ 1)
    by Skip e = cc
    by (Header version) e = cc
    by (Thread name) e = cc
    by (Object name kind') e = (refl, refl)
    by (Event event) e = cc

-- a line that is nothing is neither
pub nothing_item : (before : List Entry) (now : FirstRaces) (entry : Entry) → IsNextWatched before now entry.number entry.item accepted.Nothing
    → (is_event entry.item ≡ false) × (length (cons_option (declared_name entry.item) []) ≡ 0)
unfolding accepted_of
nothing_item before now entry next = by entry.item next.next.told_as
  where
    by : (line : Line) → accepted.Nothing ≡ accepted_of memory_kinds (items before) line → (is_event line ≡ false) × (length (cons_option (declared_name line) []) ≡ 0)
    by Skip e = (refl, refl)
    by (Header version) e = (refl, refl)
    by (Thread name) e = cc
    by (Object name kind) e = cc
    by (Event event) e = cc
