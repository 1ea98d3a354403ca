-- What the tracker and the detector of a check hold of one line more.
use Rattle.std.proofs.Common.{◌≡◌, ◌≢◌, ◌<◌, ◌≤◌, ◌⊎◌, inl, inr, ℕ, ◌+◌, ◌==◌, ◌||◌, Bool, false, cond, ltb, List, [], ◌∷◌, ◌++◌, length, Option, Some, None, is_some, refl, sym, ap, subst, ◌∙◌, arith, true≢false}
use Rattle.std.specs.List.{cons_option}
use Rattle.std.proofs.lemmas.Bool.{cases_eq, cases_lt, eq-eqb, ne_eqb, lt-ltb, le-ltb}
use Rattle.std.proofs.lemmas.List.{append-nil, length-append}
use Rattle.std.proofs.lemmas.List.Sums.{sum_by_push}
use Rattle.std.proofs.lemmas.Option.{none-some, same_Some}
use Rattle.rd_base.specs.declared.limits.Limits.{Limits}
use Rattle.rd_event.specs.declared.events.Call.{Call as CallOf}
use Rattle.rd_event.specs.declared.events.Event.{Event as Numbered}
use Rattle.rd_event.specs.declared.events.Event.TheVariants as numbered
use Rattle.rd_event.specs.declared.items.Line.{Line}
use Rattle.rd_event.specs.declared.items.Line.TheVariants.{Skip, Header, Thread, Object, Event}
use Rattle.rd_event.specs.declared.items.LineEvent.{LineEvent}
use Rattle.rd_event.specs.declared.items.LineEvent.TheVariants.{Fork, Join, Acquire, Release, Share, Unshare, Call}
use Rattle.rd_order.specs.EventLists.{WellFormed, WellFormedWith, threads_after}
use Rattle.rd_order.specs.Order.{forked_thread}
use Rattle.rd_order.specs.Order.{thread_of}
use Rattle.rd_hb.specs.Tracker.{IsNextEvent, IsStamp, TrackerStandsFor, Tracking, event_bound, last_stamp}
use Rattle.rd_detect.proofs.CellLemmas.{stands_quiet, stands_unbegun}
use Rattle.rd_detect.proofs.LaterLemmas.{stand_longer}
use Rattle.rd_detect.specs.Covers.{CoversStandFor}
use Rattle.rd_rules.proofs.EventsLemmas.{all_roots, events_more, no_events, roots_more, threads_more, told_formed, told_more}
use Rattle.rd_races.proofs.RaceLemmas.{not_reported}
use Rattle.rd_check_command.proofs.ReportLemmas.{answer_text, event_numbers_more, events_all, next_races_is, next_text_is, numbers_counted, passing, quiet_events, quiet_numbers, quiet_races, quiet_texts, races_more, races_within, texts_more}
use Rattle.rd_walk.proofs.WalkLemmas.{items_more}
use Rattle.rd_check_command.specs.Checking.{AreNamed, Checks, IsKnownOf, IsNextEventLine, IsNextLine, IsToldAmong, IsToldOf, CheckLeads, Tracks, next_races, next_text}
use Rattle.std.specs.Prelude.{max, min}
use Rattle.rd_races.specs.Commuting.{Commute, calls_commute}
use Rattle.rd_detect.specs.Detect.{IsAnswer, IsNextCall, IsWitness, DetectorStandsFor, detection_bound, tables_of}
use Rattle.rd_report.specs.Races.{IsFailedRace, IsNamed}
use Rattle.rd_report.specs.Texts.{Naming, naming}
use Rattle.rd_store.specs.declared.Race.{Race}
use Rattle.rd_check_command.proofs.NamingLemmas.{all_named, known_witness, of_witness, told_among}
use Rattle.rd_rules.specs.Events.{AreTold, event_of, events_of, root_count, roots_of}
use Rattle.rd_walk.specs.Analysis.{IsNextEntry}
use Rattle.rd_ecl.specs.Kinds.{Kind, kinds_of}
use Rattle.rd_ecl.specs.Specified.{SpecifiedKind}
use Rattle.rd_rules.specs.MayFollow.{MayFollow, accepted_of, begun_name, events, is_event, is_root, is_skip, numbered_event, threads_of}
use Rattle.rd_check_command.specs.Checked.{check_bound, detector_bound, entry_events, event_numbers, race_at, race_texts, races_of, text_with}
use Rattle.rd_races.specs.RaceTests.{latest_of}
use Rattle.rd_json.specs.declared.forms.Form.{Form}
use Rattle.rd_walk.specs.Walk.{Entry, items, tracking_bound}
use Rattle.rd_check_command.specs.declared.checking.Check.{Check}
use Rattle.rd_wf.specs.declared.roster.Roster.{Roster}
use Rattle.rd_rules.specs.declared.causes.Accepted.{Accepted}
use Rattle.rd_rules.specs.declared.causes.Accepted.TheVariants as accepted
use Rattle.rd_rules.proofs.FollowLemmas.{met}

module _ (kinds : List Kind) where
  -- ---- the line that was accepted

  -- it is a root
  root_line : (before : List Line) (line : Line) (n : ℕ) → accepted.Root n ≡ accepted_of kinds before line → (name : List ℕ) × (line ≡ Thread name) × (n ≡ length (threads_of before))
  unfolding accepted_of
  root_line before Skip n e = cc
  root_line before (Header version) n e = cc
  root_line before (Thread name) n e = (name, refl, cc)
  root_line before (Object name kind) n e = cc
  root_line before (Event event) n e = cc

  -- it is an event
  pub event_line : (before : List Line) (line : Line) (e : Numbered) → accepted.Event e ≡ accepted_of kinds before line → (event : LineEvent) × (line ≡ Event event) × (e ≡ numbered_event kinds before event)
  unfolding accepted_of
  event_line before Skip e is = cc
  event_line before (Header version) e is = cc
  event_line before (Thread name) e is = cc
  event_line before (Object name kind) e is = cc
  event_line before (Event event) e is = (event, refl, cc)

  module _ (tracker : Tracking) (before : List Line) (line : Line) where
    pub told_next : (numbers : Accepted) → IsNextLine kinds tracker before line numbers → AreTold kinds (before ++ line ∷ [])
    told_next numbers next = told_more kinds next.limits before line next.usable next.follows next.few next.tracks.told

  -- ---- roots

  -- a root comes before every event
  early : (before : List Line) (name : List ℕ) (limits : Limits) → MayFollow kinds limits before (Thread name) → events before ≡ 0
  early before name limits follows = (met kinds limits before (Thread name) (λ skip. true≢false (sym (ap is_skip skip))) follows).early_root refl

  -- one number more is below
  below_or_last : (t n : ℕ) → (ltb t n || (t == n)) ≡ ltb t (n + 1)
  below_or_last t n =
      elim (cases_lt t n) [
        | inl before ↦ ap (λ b. b || (t == n)) (lt-ltb t n before) ∙ sym (lt-ltb t (n + 1) (omega arith))
        | inr past ↦ elim (cases_eq t n) [
          | inl same ↦ ap (λ b. b || (t == n)) (le-ltb t n past) ∙ eq-eqb t n same ∙ sym (lt-ltb t (n + 1) (omega arith))
          | inr other ↦ ap (λ b. b || (t == n)) (le-ltb t n past) ∙ ne_eqb t n other ∙ sym (le-ltb t (n + 1) (omega arith))
        ]
      ]

  module _ (tracker : Tracking) (before : List Line) (line : Line) (n : ℕ) (next : IsNextLine kinds tracker before line (accepted.Root n)) where
    pub root_numbered : n ≡ length tracker.threads
    root_numbered = (root_line before line n next.told_as).2 ∙ sym next.tracks.count

    root_count_more : length (threads_of (before ++ line ∷ [])) ≡ n + 1
    root_count_more =
        let (name, is, number) = root_line before line n next.told_as in
        ap length (threads_more before line ∙ ap (λ l. threads_of before ++ cons_option (begun_name l) []) is) ∙ length-append (threads_of before) (name ∷ []) ∙ ap (λ m. m + 1) (sym number)

    pub root_below : n < 4294967295
    root_below = omega (arith, next.few, root_count_more)

    -- the tracker has one root more, and no event
    pub root_tracks : (new : Tracking) → ((roots : ℕ → Bool) → TrackerStandsFor tracker roots [] → TrackerStandsFor new (λ t. roots t || (t == n)) []) → length new.threads ≡ length tracker.threads + 1
        → Tracks kinds new (before ++ line ∷ [])
    root_tracks new stands count =
        let (name, is, number) = root_line before line n next.told_as in
        let none : events before ≡ 0 = early before name next.limits (subst (MayFollow kinds next.limits before) is next.follows) in
        let no_event : events_of kinds before ≡ [] = no_events kinds before next.tracks.told none in
        let total : root_count before ≡ n = all_roots kinds before next.tracks.told none ∙ sym number in
        let none_now : events_of kinds (before ++ line ∷ []) ≡ [] =
        events_more kinds before line ∙ ap (λ l. events_of kinds before ++ cons_option (event_of kinds before l) []) is
        ∙ append-nil (events_of kinds before) ∙ no_event in
        let roots_now : root_count (before ++ line ∷ []) ≡ n + 1 = roots_more before line ∙ ap (λ l. root_count before + cond (is_root l) 1 0) is ∙ ap (λ m. m + 1) total in
        let was : TrackerStandsFor tracker (λ t. ltb t n) [] = subst (λ es. TrackerStandsFor tracker (λ t. ltb t n) es) no_event (subst (λ m. TrackerStandsFor tracker (λ t. ltb t m) (events_of kinds before)) total next.tracks.stands) in
        let now : TrackerStandsFor new (λ t. ltb t (n + 1)) [] = subst (λ roots. TrackerStandsFor new roots []) (λ i t. below_or_last t n i) (stands (λ t. ltb t n) was) in record {
          told = told_next tracker before line (accepted.Root n) next;
          stands = subst (λ es. TrackerStandsFor new (roots_of (before ++ line ∷ [])) es) (sym none_now) (subst (λ m. TrackerStandsFor new (λ t. ltb t m) []) (sym roots_now) now);
          count = count ∙ ap (λ m. m + 1) (sym root_numbered) ∙ sym root_count_more;
        }

  -- ---- events

  forked_next : (before : List Line) (event : LineEvent) (u : ℕ) → forked_thread (numbered_event kinds before event) ≡ Some u → u ≡ length (threads_of before)
  forked_next before (Fork thread child) u e = sym (same_Some (length (threads_of before)) u e)
  forked_next before (Join thread child) u e = absurd (none-some u e)
  forked_next before (Acquire thread lock) u e = absurd (none-some u e)
  forked_next before (Release thread lock) u e = absurd (none-some u e)
  forked_next before (Share thread lock) u e = absurd (none-some u e)
  forked_next before (Unshare thread lock) u e = absurd (none-some u e)
  forked_next before (Call thread object method slots) u e = absurd (none-some u e)

  threads_event : (before : List Line) (event : LineEvent) → length (threads_of (before ++ Event event ∷ [])) ≡ threads_after (numbered_event kinds before event) (length (threads_of before))
  threads_event before (Fork thread child) = ap length (threads_more before (Event (Fork thread child))) ∙ length-append (threads_of before) (child ∷ [])
  threads_event before (Join thread child) = ap length (threads_more before (Event (Join thread child)) ∙ append-nil (threads_of before))
  threads_event before (Acquire thread lock) = ap length (threads_more before (Event (Acquire thread lock)) ∙ append-nil (threads_of before))
  threads_event before (Release thread lock) = ap length (threads_more before (Event (Release thread lock)) ∙ append-nil (threads_of before))
  threads_event before (Share thread lock) = ap length (threads_more before (Event (Share thread lock)) ∙ append-nil (threads_of before))
  threads_event before (Unshare thread lock) = ap length (threads_more before (Event (Unshare thread lock)) ∙ append-nil (threads_of before))
  threads_event before (Call thread object method slots) = ap length (threads_more before (Event (Call thread object method slots)) ∙ append-nil (threads_of before))

  -- the bound on the tracker's steps for an event behind lines
  bound_event : (before : List Line) (event : LineEvent)
      → event_bound (numbered_event kinds before event) (length (threads_of (before ++ Event event ∷ []))) ≤ tracking_bound before (Event event)
  bound_event before (Fork thread child) = omega arith
  bound_event before (Join thread child) = omega arith
  bound_event before (Acquire thread lock) = omega arith
  bound_event before (Release thread lock) = omega arith
  bound_event before (Share thread lock) = omega arith
  bound_event before (Unshare thread lock) = omega arith
  bound_event before (Call thread object method slots) = omega arith

  module _ (tracker : Tracking) (before : List Line) (line : Line) (e : Numbered) (next : IsNextLine kinds tracker before line (accepted.Event e)) where
    pub event_last : events_of kinds (before ++ line ∷ []) ≡ events_of kinds before ++ e ∷ []
    event_last =
        let (event, is, number) = event_line before line e next.told_as in
        events_more kinds before line ∙ ap (λ l. events_of kinds before ++ cons_option (event_of kinds before l) []) is
        ∙ ap (λ x. events_of kinds before ++ x ∷ []) (sym number)

    pub same_roots : root_count (before ++ line ∷ []) ≡ root_count before
    same_roots =
        let (event, is, number) = event_line before line e next.told_as in
        roots_more before line ∙ ap (λ l. root_count before + cond (is_root l) 1 0) is ∙ omega arith

    pub event_threads : length (threads_of (before ++ line ∷ [])) ≡ threads_after e (length tracker.threads)
    event_threads =
        let (event, is, number) = event_line before line e next.told_as in
        ap (λ l. length (threads_of (before ++ l ∷ []))) is ∙ threads_event before event ∙ ap (λ x. threads_after x (length (threads_of before))) (sym number)
        ∙ ap (threads_after e) (sym next.tracks.count)

    -- the event may be the next one
    pub event_next : IsNextEvent tracker (roots_of before) (events_of kinds before) e
    event_next =
        let (event, is, number) = event_line before line e next.told_as in
        let told : AreTold kinds (before ++ line ∷ []) = told_next tracker before line (accepted.Event e) next in
        let formed = subst (λ m. WellFormed (λ t. ltb t m) (events_of kinds before ++ e ∷ [])) same_roots
        (subst (WellFormed (roots_of (before ++ line ∷ []))) event_last told.told.formed) in record {
          stands = next.tracks.stands;
          formed = formed;
          numbered = λ u begins. forked_next before event u (subst (λ x. forked_thread x ≡ Some u) number begins) ∙ sym next.tracks.count;
        }

    pub event_tracks : (new : Tracking) → ((roots : ℕ → Bool) (es : List Numbered) → IsNextEvent tracker roots es e → TrackerStandsFor new roots (es ++ e ∷ []))
        → length new.threads ≡ threads_after e (length tracker.threads) → Tracks kinds new (before ++ line ∷ [])
    event_tracks new stands count = record {
      told = told_next tracker before line (accepted.Event e) next;
      stands = subst (λ es. TrackerStandsFor new (roots_of (before ++ line ∷ [])) es) (sym event_last)
          (subst (λ m. TrackerStandsFor new (λ t. ltb t m) (events_of kinds before ++ e ∷ [])) (sym same_roots) (stands (roots_of before) (events_of kinds before) event_next));
      count = count ∙ sym event_threads;
    }

    -- its steps on clocks are no more than those of the line
    pub event_cost : event_bound e (threads_after e (length tracker.threads)) ≤ tracking_bound before line
    event_cost =
        let (event, is, number) = event_line before line e next.told_as in
        let same : event_bound e (threads_after e (length tracker.threads)) ≡ event_bound (numbered_event kinds before event) (length (threads_of (before ++ Event event ∷ []))) =
        ap (event_bound e) (sym event_threads ∙ ap (λ l. length (threads_of (before ++ l ∷ []))) is)
        ∙ ap (λ x. event_bound x (length (threads_of (before ++ Event event ∷ [])))) number in
        subst (λ l. event_bound e (threads_after e (length tracker.threads)) ≤ tracking_bound before l) (sym is) (omega (arith, same, bound_event before event))

  -- ---- other lines

  -- what is kept of a line that is none of both
  pub quiet_tracks : (tracker : Tracking) (before : List Line) (line : Line) (numbers : Accepted) → IsNextLine kinds tracker before line numbers
      → (numbers ≡ accepted.Nothing) ⊎ ((object : ℕ) × (kind : ℕ) × (numbers ≡ accepted.Object object kind)) → Tracks kinds tracker (before ++ line ∷ [])
  unfolding accepted_of
  quiet_tracks tracker before line numbers next quiet = by line refl
    where
      kept : is_root line ≡ false → begun_name line ≡ None → event_of kinds before line ≡ None → Tracks kinds tracker (before ++ line ∷ [])
      kept root begins event = record {
        told = told_next tracker before line numbers next;
        stands = subst (λ es. TrackerStandsFor tracker (roots_of (before ++ line ∷ [])) es) (sym (events_more kinds before line ∙ ap (λ o. events_of kinds before ++ cons_option o []) event ∙ append-nil (events_of kinds before)))
            (subst (λ m. TrackerStandsFor tracker (λ t. ltb t m) (events_of kinds before)) (sym (roots_more before line ∙ ap (λ b. root_count before + cond b 1 0) root ∙ omega arith)) next.tracks.stands);
        count = next.tracks.count ∙ sym (ap length (threads_more before line ∙ ap (λ o. threads_of before ++ cons_option o []) begins ∙ append-nil (threads_of before)));
      }

      by : (l : Line) → line ≡ l → Tracks kinds tracker (before ++ line ∷ [])
      by Skip is = kept (ap is_root is) (ap begun_name is) (ap (event_of kinds before) is)
      by (Header version) is = kept (ap is_root is) (ap begun_name is) (ap (event_of kinds before) is)
      by (Object name kind) is = kept (ap is_root is) (ap begun_name is) (ap (event_of kinds before) is)
      by (Thread name) is =
          let root : numbers ≡ accepted.Root (length (threads_of before)) = next.told_as ∙ ap (accepted_of kinds before) is in
          elim quiet [ inl nothing ↦ cc | inr object ↦ (let other = object.2 in cc) ]
      by (Event event) is =
          let told : numbers ≡ accepted.Event (numbered_event kinds before event) = next.told_as ∙ ap (accepted_of kinds before) is in
          elim quiet [ inl nothing ↦ cc | inr object ↦ (let other = object.2 in cc) ]

-- ---- the check

-- the line that a check is handed is the next one for its tracker
pub next_line : {number : ℕ} (kinds : List Kind) (start now : Check) (entries : List Entry) (roster : Roster) (line : Line) (numbers : Accepted)
    → CheckLeads kinds start entries now → IsNextEntry kinds roster entries number line numbers
    → IsNextLine (kinds_of start.spec.now) now.tracker (items entries) line numbers
next_line kinds start now entries roster line numbers leads next =
    let same = leads.kinds_are in
    record {
      tracks = leads.checks.tracks;
      limits = next.limits;
      usable = next.usable;
      follows = subst (λ k. MayFollow k next.limits (items entries) line) same next.follows;
      few = next.few;
      told_as = next.numbers ∙ ap (λ k. accepted_of k (items entries) line) same;
    }

-- ---- a line that is no call

no_longer : (numbers : List ℕ) → length numbers ≡ 0 → numbers ≡ []
no_longer [] none = refl
no_longer (number ∷ numbers) none = absurd (omega (arith, none))

module _ (start now : Check) (tracker : Tracking) (before : List Entry) (entry : Entry) (checks : Checks start before now)
    (tracks : Tracks (kinds_of start.spec.now) tracker (items before ++ entry.item ∷ [])) where
  abbrev spec : List SpecifiedKind
  spec = start.spec.now

  abbrev kinds : List Kind
  kinds = kinds_of start.spec.now

  abbrev new : Check
  new = record now { tracker = tracker }

  tracks_now : Tracks kinds tracker (items (before ++ entry ∷ []))
  tracks_now = subst (Tracks kinds tracker) (sym (items_more before entry)) tracks

  abbrev earlier : List Numbered
  earlier = entry_events spec before

  abbrev Detects : (ℕ → Bool) → Type 0
  Detects roots = DetectorStandsFor spec now.detector roots (event_numbers before) earlier

  -- the lines that are no roots leave the roots
  same_roots_now : is_root entry.item ≡ false → root_count (items (before ++ entry ∷ [])) ≡ root_count (items before)
  same_roots_now no_root = ap root_count (items_more before entry) ∙ roots_more (items before) entry.item ∙ ap (λ b. root_count (items before) + cond b 1 0) no_root ∙ omega arith

  unrooted : is_root entry.item ≡ false → Detects (roots_of (items (before ++ entry ∷ [])))
  unrooted no_root = subst (λ m. Detects (λ t. ltb t m)) (sym (same_roots_now no_root)) checks.detects

  formed_now : WellFormedWith kinds (roots_of (items (before ++ entry ∷ []))) (entry_events spec (before ++ entry ∷ []))
  formed_now = told_formed kinds (items (before ++ entry ∷ [])) tracks_now.told

  -- a root comes before every event, so that the detector doesn't stand for any yet
  rooted : (name : List ℕ) (limits : Limits) → entry.item ≡ Thread name → MayFollow kinds limits (items before) entry.item → Detects (roots_of (items (before ++ entry ∷ [])))
  rooted name limits is follows =
      let no_event : earlier ≡ [] = no_events kinds (items before) checks.tracks.told (early kinds (items before) name limits (subst (MayFollow kinds limits (items before)) is follows)) in
      let no_number : event_numbers before ≡ [] = no_longer (event_numbers before) (checks.detects.lengths ∙ ap length no_event) in
      let was : DetectorStandsFor spec now.detector (roots_of (items before)) [] []
      = subst (λ numbers. DetectorStandsFor spec now.detector (roots_of (items before)) numbers []) no_number
      (subst (DetectorStandsFor spec now.detector (roots_of (items before)) (event_numbers before)) no_event checks.detects) in
      let formed : WellFormedWith kinds (roots_of (items (before ++ entry ∷ []))) []
      = subst (WellFormedWith kinds (roots_of (items (before ++ entry ∷ [])))) (quiet_events spec before entry (ap is_event is) ∙ no_event) formed_now in
      subst (DetectorStandsFor spec now.detector (roots_of (items (before ++ entry ∷ []))) (event_numbers before)) (sym no_event)
      (subst (λ numbers. DetectorStandsFor spec now.detector (roots_of (items (before ++ entry ∷ []))) numbers []) (sym no_number)
      (stands_unbegun spec now.detector (roots_of (items before)) (roots_of (items (before ++ entry ∷ []))) formed was))

  abbrev IsToldIn : Naming → List ℕ → List Numbered → Type 0
  IsToldIn names numbers es = IsToldAmong start.form spec names numbers es now.told now.told_place

  -- what is told of a call stays, whatever events the line brings
  told_stays : (more : List ℕ) (fs : List Numbered) → IsToldIn (naming (items (before ++ entry ∷ []))) (event_numbers before ++ more) (earlier ++ fs)
  told_stays more fs =
      subst (λ lines. IsToldIn (naming lines) (event_numbers before ++ more) (earlier ++ fs)) (sym (items_more before entry))
      (told_among spec (items before) checks.tracks.told entry.item (event_numbers before) more fs (numbers_counted spec before) start.form now.told now.told_place checks.told)

  checks_no_event : is_event entry.item ≡ false → Detects (roots_of (items (before ++ entry ∷ []))) → Checks start (before ++ entry ∷ []) new
  checks_no_event quiet detects = record {
    starts = checks.starts;
    form = checks.form;
    spec = checks.spec;
    formulas = checks.formulas;
    tracks = tracks_now;
    detects = subst (λ (T : Type 0). T)
        (λ i. DetectorStandsFor spec now.detector (roots_of (items (before ++ entry ∷ []))) (sym (quiet_numbers spec before entry quiet) i) (sym (quiet_events spec before entry quiet) i)) detects;
    covers = subst (λ es. CoversStandFor es now.detector.store now.covers) (sym (quiet_events spec before entry quiet)) checks.covers;
    races = checks.races ∙ sym (quiet_races spec before entry quiet);
    told = subst (λ (T : Type 0). T)
        (λ i. IsToldIn (naming (items (before ++ entry ∷ []))) ((append-nil (event_numbers before) ∙ sym (quiet_numbers spec before entry quiet)) i)
        ((append-nil earlier ∙ sym (quiet_events spec before entry quiet)) i)) (told_stays [] []);
  }

  checks_other_event : (event : LineEvent) → entry.item ≡ Event event → ((call : CallOf) → numbered_event kinds (items before) event ≢ numbered.Call call)
      → Checks start (before ++ entry ∷ []) new
  checks_other_event event is other =
      let e : Numbered = numbered_event kinds (items before) event in
      let none : latest_of (calls_commute spec) (earlier ++ e ∷ []) (length earlier) ≡ None
      = not_reported (Commute spec) (calls_commute spec) (passing spec) earlier e other in
      let formed : WellFormedWith kinds (roots_of (items (before ++ entry ∷ []))) (earlier ++ e ∷ [])
      = subst (WellFormedWith kinds (roots_of (items (before ++ entry ∷ [])))) (events_all spec before entry event is) formed_now in record {
        starts = checks.starts;
        form = checks.form;
        spec = checks.spec;
        formulas = checks.formulas;
        tracks = tracks_now;
        detects = subst (λ (T : Type 0). T)
            (λ i. DetectorStandsFor spec now.detector (roots_of (items (before ++ entry ∷ []))) (sym (event_numbers_more spec before entry event is) i) (sym (events_all spec before entry event is) i))
            (stands_quiet spec now.detector (roots_of (items (before ++ entry ∷ []))) (event_numbers before) earlier entry.number e other formed (unrooted (ap is_root is)));
        covers = subst (λ es. CoversStandFor es now.detector.store now.covers) (sym (events_all spec before entry event is)) (stand_longer earlier (e ∷ []) now.detector.store now.covers checks.covers);
        races = checks.races ∙ sym (races_more spec before entry event is ∙ ap (λ o. races_of spec before + cond (is_some o) 1 0) none ∙ omega arith);
        told = subst (λ (T : Type 0). T)
            (λ i. IsToldIn (naming (items (before ++ entry ∷ []))) (sym (event_numbers_more spec before entry event is) i) (sym (events_all spec before entry event is) i))
            (told_stays (entry.number ∷ []) (e ∷ []));
      }

  -- what is kept, where the line is no call
  pub checks_quiet : (numbers : Accepted) → IsNextLine kinds now.tracker (items before) entry.item numbers → ((call : CallOf) → numbers ≢ accepted.Event (numbered.Call call))
      → Checks start (before ++ entry ∷ []) new
  unfolding accepted_of
  checks_quiet numbers next other = by entry.item refl
    where
      by : (item : Line) → entry.item ≡ item → Checks start (before ++ entry ∷ []) new
      by Skip is = checks_no_event (ap is_event is) (unrooted (ap is_root is))
      by (Header version) is = checks_no_event (ap is_event is) (unrooted (ap is_root is))
      by (Thread name) is = checks_no_event (ap is_event is) (rooted name next.limits is next.follows)
      by (Object name kind) is = checks_no_event (ap is_event is) (unrooted (ap is_root is))
      by (Event (Fork thread child)) is = checks_other_event (Fork thread child) is (λ call same. cc)
      by (Event (Join thread child)) is = checks_other_event (Join thread child) is (λ call same. cc)
      by (Event (Acquire thread lock)) is = checks_other_event (Acquire thread lock) is (λ call same. cc)
      by (Event (Release thread lock)) is = checks_other_event (Release thread lock) is (λ call same. cc)
      by (Event (Share thread lock)) is = checks_other_event (Share thread lock) is (λ call same. cc)
      by (Event (Unshare thread lock)) is = checks_other_event (Unshare thread lock) is (λ call same. cc)
      by (Event (Call thread object method slots)) is =
          absurd (other _ (next.told_as ∙ ap (accepted_of kinds (items before)) is))

-- and nothing is written
pub texts_quiet : (form : Form) (kinds : List SpecifiedKind) (tracker : Tracking) (before : List Entry) (entry : Entry) (numbers : Accepted)
    → IsNextLine (kinds_of kinds) tracker (items before) entry.item numbers
    → ((call : CallOf) → numbers ≢ accepted.Event (numbered.Call call)) → race_texts form kinds (before ++ entry ∷ []) ≡ race_texts form kinds before
unfolding accepted_of
texts_quiet form kinds tracker before entry numbers next other = by entry.item refl
  where
    told : AreTold (kinds_of kinds) (items before)
    told = next.tracks.told

    other_event : (event : LineEvent) → entry.item ≡ Event event → ((call : CallOf) → numbered_event (kinds_of kinds) (items before) event ≢ numbered.Call call)
        → race_texts form kinds (before ++ entry ∷ []) ≡ race_texts form kinds before
    other_event event is no_call =
        texts_more kinds before entry event is form told
        ∙ ap (λ o. race_texts form kinds before ++ text_with (race_at form kinds (naming (items before ++ entry.item ∷ [])) (event_numbers before ++ entry.number ∷ [])
        (entry_events kinds before ++ numbered_event (kinds_of kinds) (items before) event ∷ [])) (length (entry_events kinds before)) o)
        (not_reported (Commute kinds) (calls_commute kinds) (passing kinds) (entry_events kinds before) (numbered_event (kinds_of kinds) (items before) event) no_call)
        ∙ append-nil (race_texts form kinds before)

    by : (item : Line) → entry.item ≡ item → race_texts form kinds (before ++ entry ∷ []) ≡ race_texts form kinds before
    by Skip is = quiet_texts kinds before entry (ap is_event is) form told
    by (Header version) is = quiet_texts kinds before entry (ap is_event is) form told
    by (Thread name) is = quiet_texts kinds before entry (ap is_event is) form told
    by (Object name kind) is = quiet_texts kinds before entry (ap is_event is) form told
    by (Event (Fork thread child)) is = other_event (Fork thread child) is (λ call same. cc)
    by (Event (Join thread child)) is = other_event (Join thread child) is (λ call same. cc)
    by (Event (Acquire thread lock)) is = other_event (Acquire thread lock) is (λ call same. cc)
    by (Event (Release thread lock)) is = other_event (Release thread lock) is (λ call same. cc)
    by (Event (Share thread lock)) is = other_event (Share thread lock) is (λ call same. cc)
    by (Event (Unshare thread lock)) is = other_event (Unshare thread lock) is (λ call same. cc)
    by (Event (Call thread object method slots)) is = absurd (other _ (next.told_as ∙ ap (accepted_of (kinds_of kinds) (items before)) is))

-- ---- an event's place

-- the place of an event that a check is handed, by the count of the events behind it
pub event_place : (start now : Check) (before : List Entry) (item : Line) (e : Numbered) → Checks start before now
    → IsNextLine (kinds_of start.spec.now) now.tracker (items before) item (accepted.Event e) → (count : ℕ) → count ≡ events (items before ++ item ∷ [])
    → count ≡ length (entry_events start.spec.now before) + 1
event_place start now before item e checks next count is =
    let (event, line, number) = event_line (kinds_of start.spec.now) (items before) item e next.told_as in
    is ∙ sum_by_push (λ l. cond (is_event l) 1 0) (items before) item ∙ ap (λ l. events (items before) + cond (is_event l) 1 0) line
    ∙ ap (λ n. n + 1) (sym checks.tracks.told.told.counted)

-- ---- an event that is a call

module _ (start now : Check) (before : List Entry) (entry : Entry) (e : Numbered) (call : CallOf) (called : e ≡ numbered.Call call) (names : Naming) (place : ℕ)
    (ready : IsNextEventLine start now before entry.item e names place) where
  abbrev asked : List SpecifiedKind
  asked = start.spec.now

  abbrev known : List Kind
  known = kinds_of start.spec.now

  abbrev es : List Numbered
  es = entry_events asked before

  checks : Checks start before now
  checks = ready.checks

  next : IsNextLine known now.tracker (items before) entry.item (accepted.Event (numbered.Call call))
  next = subst (λ x. IsNextLine known now.tracker (items before) entry.item (accepted.Event x)) called ready.next

  event_is : (event : LineEvent) × (entry.item ≡ Event event) × (numbered.Call call ≡ numbered_event known (items before) event)
  event_is = event_line known (items before) entry.item (numbered.Call call) next.told_as

  -- the lines with the call are told of by their events
  told_now : AreTold known (items before ++ entry.item ∷ [])
  told_now = told_next known now.tracker (items before) entry.item (accepted.Event (numbered.Call call)) next

  events_now : events_of known (items before ++ entry.item ∷ []) ≡ es ++ numbered.Call call ∷ []
  events_now = event_last known now.tracker (items before) entry.item (numbered.Call call) next

  -- the call leaves the roots
  same_roots_then : root_count (items before ++ entry.item ∷ []) ≡ root_count (items before)
  same_roots_then = same_roots known now.tracker (items before) entry.item (numbered.Call call) next

  formed_then : WellFormedWith known (roots_of (items before)) (es ++ numbered.Call call ∷ [])
  formed_then = subst (λ m. WellFormedWith known (λ t. ltb t m) (es ++ numbered.Call call ∷ [])) same_roots_then
      (subst (WellFormedWith known (roots_of (items before ++ entry.item ∷ []))) events_now (told_formed known (items before ++ entry.item ∷ []) told_now))

  -- the call is the next one for the detector, where the tracker has taken it
  pub call_next : (tracker : Tracking) → ((roots : ℕ → Bool) (es : List Numbered) → IsNextEvent now.tracker roots es e → IsStamp (es ++ e ∷ []) (length es) (last_stamp tracker.threads (thread_of e)))
      → ((roots : ℕ → Bool) (es : List Numbered) → IsNextEvent now.tracker roots es e → TrackerStandsFor tracker roots (es ++ e ∷ []))
      → IsNextCall asked now.detector tracker (roots_of (items before)) (event_numbers before) es place call (last_stamp tracker.threads call.thread)
  call_next tracker stamped stood =
      let ahead = event_next known now.tracker (items before) entry.item e ready.next in record {
        stands = checks.detects;
        at_end = ready.at_end;
        stamped = subst (λ x. IsStamp (es ++ x ∷ []) (length es) (last_stamp tracker.threads (thread_of x))) called (stamped (roots_of (items before)) es ahead);
        formed = formed_then;
        tracked = subst (λ x. TrackerStandsFor tracker (roots_of (items before)) (es ++ x ∷ [])) called (stood (roots_of (items before)) es ahead);
      }

  -- the count of reported calls stays small
  pub call_races : now.races ≤ 4294967294
  call_races = let few = checks.tracks.told.told.formed.bounded.few_events in omega (arith, checks.races, races_within asked before)

  -- a race that the detector answers may be told of
  pub race_failed : (race : Race) → IsAnswer asked (event_numbers before ++ entry.number ∷ []) (es ++ numbered.Call call ∷ []) place (Some race)
      → IsFailedRace asked names race
  race_failed race (i, latest, is) =
      let named = subst (AreNamed asked (naming (items before ++ entry.item ∷ []))) events_now (all_named asked (items before ++ entry.item ∷ []) told_now) in
      subst (λ n. IsFailedRace asked n race) (sym ready.naming_is)
      (record {
        later = subst (λ w. IsNamed asked (naming (items before ++ entry.item ∷ [])) w.call) (sym is.is.later_is) (named is.later.place is.later.call is.at_j.call);
        earlier = subst (λ w. IsNamed asked (naming (items before ++ entry.item ∷ [])) w.call) (sym is.is.earlier_is) (named is.earlier.place is.earlier.call is.at_i.call);
        kind = is.is.kind ∙ ap (λ w. w.call.kind) (sym is.is.later_is);
        one_kind = ap (λ w. w.call.kind) is.is.earlier_is ∙ is.one_kind ∙ ap (λ w. w.call.kind) (sym is.is.later_is);
        first = is.is.first ∙ (λ k. min (sym is.is.later_is k).call.method (sym is.is.earlier_is k).call.method);
        second = is.is.second ∙ (λ k. max (sym is.is.later_is k).call.method (sym is.is.earlier_is k).call.method);
      })

  -- the steps of the tracker and of the detector keep together to the bound
  pub call_cost : (tracker : Tracking) → length tracker.threads ≡ threads_after e (length now.tracker.threads) → (steps middle after : ℕ)
      → middle ≤ steps + event_bound e (threads_after e (length now.tracker.threads))
      → after ≤ middle + detection_bound now.detector.tables (length tracker.threads) call → after ≤ steps + check_bound asked (items before) entry.item
  call_cost tracker count steps middle after track detect =
      let threads : ℕ = length (threads_of (items before ++ entry.item ∷ [])) in
      let same : length tracker.threads ≡ threads = count ∙ sym (event_threads known now.tracker (items before) entry.item e ready.next) in
      let told : event_of known (items before) entry.item ≡ Some (numbered.Call call) = ap (event_of known (items before)) event_is.1 ∙ ap Some (sym event_is.2) in
      let detected : after ≤ middle + detector_bound asked threads (event_of known (items before) entry.item)
      = subst (λ o. after ≤ middle + detector_bound asked threads o) (sym told)
      (subst (λ n. after ≤ middle + detection_bound (tables_of asked) n call) same
      (subst (λ tables. after ≤ middle + detection_bound tables (length tracker.threads) call) checks.detects.tables_are detect)) in
      omega (arith, track, detected, event_cost known now.tracker (items before) entry.item e ready.next)

  -- what is told of a call among the events with this one
  abbrev IsToldNow : List ℕ → Option ℕ → Type 0
  IsToldNow told place = IsToldAmong start.form asked names (event_numbers before ++ entry.number ∷ []) (es ++ numbered.Call call ∷ []) told place

  -- it stays so
  pub told_call : IsToldNow now.told now.told_place
  told_call =
      subst (λ n. IsToldAmong start.form asked n (event_numbers before ++ entry.number ∷ []) (es ++ numbered.Call call ∷ []) now.told now.told_place) (sym ready.naming_is)
      (told_among asked (items before) checks.tracks.told entry.item (event_numbers before) (entry.number ∷ []) (numbered.Call call ∷ []) (numbers_counted asked before) start.form now.told now.told_place checks.told)

  -- what is known of the earlier call of a race that the detector answers
  pub known_call : (race : Race) → IsAnswer asked (event_numbers before ++ entry.number ∷ []) (es ++ numbered.Call call ∷ []) place (Some race)
      → IsKnownOf start.form asked names race.earlier.value now.told now.told_place
  known_call race (i, latest, is) =
      let all : List ℕ = event_numbers before ++ entry.number ∷ [] in
      let with_call : List Numbered = es ++ numbered.Call call ∷ [] in
      known_witness start.form asked names all with_call race.earlier.value (subst (IsWitness all with_call) (sym is.is.earlier_is) is.at_i) now.told now.told_place told_call

  -- and what is told of the later one is told of a call among the events
  pub told_later : (race : Race) → IsAnswer asked (event_numbers before ++ entry.number ∷ []) (es ++ numbered.Call call ∷ []) place (Some race)
      → (told : List ℕ) (told_place : Option ℕ) → IsToldOf start.form asked names race.later.value told told_place → IsToldNow told told_place
  told_later race (i, latest, is) told told_place of =
      let all : List ℕ = event_numbers before ++ entry.number ∷ [] in
      let with_call : List Numbered = es ++ numbered.Call call ∷ [] in
      of_witness start.form asked names all with_call race.later.value (subst (IsWitness all with_call) (sym is.is.later_is) is.at_j) told told_place of

  -- what is kept, and what is written
  pub checks_call : (new : Check) → new.form ≡ now.form → new.spec.now ≡ now.spec.now → new.formulas ≡ now.formulas → Tracks known new.tracker (items before ++ entry.item ∷ [])
      → DetectorStandsFor asked new.detector (roots_of (items before)) (event_numbers before ++ entry.number ∷ []) (es ++ numbered.Call call ∷ [])
      → CoversStandFor (es ++ numbered.Call call ∷ []) new.detector.store new.covers → new.races ≡ now.races + next_races asked es (numbered.Call call) → IsToldNow new.told new.told_place → Checks start (before ++ entry ∷ []) new
  checks_call new one_form one_spec one_formulas tracks detects covers races told =
      let (event, is, same) = event_is in
      let roots_now : root_count (items (before ++ entry ∷ [])) ≡ root_count (items before) = ap root_count (items_more before entry) ∙ same_roots_then in record {
        starts = checks.starts;
        form = one_form ∙ checks.form;
        spec = one_spec ∙ checks.spec;
        formulas = one_formulas ∙ checks.formulas;
        tracks = subst (Tracks known new.tracker) (sym (items_more before entry)) tracks;
        detects = subst (λ (T : Type 0). T)
            (λ i. DetectorStandsFor asked new.detector (λ t. ltb t (sym roots_now i)) (sym (event_numbers_more asked before entry event is) i)
            ((ap (λ e. es ++ e ∷ []) same ∙ sym (events_all asked before entry event is)) i)) detects;
        covers = subst (λ es. CoversStandFor es new.detector.store new.covers) (ap (λ e. es ++ e ∷ []) same ∙ sym (events_all asked before entry event is)) covers;
        races = races ∙ ap (λ n. n + next_races asked es (numbered.Call call)) checks.races ∙ ap (λ e. races_of asked before + next_races asked es e) same ∙ sym (races_more asked before entry event is);
        told = subst (λ (T : Type 0). T)
            (λ i. IsToldAmong start.form asked ((ready.naming_is ∙ ap naming (sym (items_more before entry))) i) (sym (event_numbers_more asked before entry event is) i)
            ((ap (λ e. es ++ e ∷ []) same ∙ sym (events_all asked before entry event is)) i) new.told new.told_place) told;
      }

  pub texts_call : race_texts start.form asked (before ++ entry ∷ []) ≡ race_texts start.form asked before ++ next_text start.form asked names (event_numbers before) entry.number es (numbered.Call call)
  texts_call =
      let (event, is, same) = event_is in
      texts_more asked before entry event is start.form checks.tracks.told
      ∙ (λ k. race_texts start.form asked before ++ next_text start.form asked (sym ready.naming_is k) (event_numbers before) entry.number es (sym same k))

  -- what the detector answers
  abbrev Answered : Option Race → Type 0
  Answered answer = IsAnswer asked (event_numbers before ++ entry.number ∷ []) (es ++ numbered.Call call ∷ []) place answer

  pub failed_race : (answer : Option Race) (race : Race) → Answered answer → answer ≡ Some race
      → (those : List SpecifiedKind) → those ≡ now.spec.now → IsFailedRace those names race
  failed_race answer race is some those same =
      subst (λ these. IsFailedRace these names race) (sym (same ∙ checks.spec))
      (race_failed race (subst (IsAnswer asked (event_numbers before ++ entry.number ∷ []) (es ++ numbered.Call call ∷ []) place) some is))

  pub races_call : (answer : Option Race) → Answered answer → (races : ℕ) → races ≡ now.races + cond (is_some answer) 1 0
      → races ≡ now.races + next_races asked es (numbered.Call call)
  races_call answer is races counted =
      counted ∙ ap (λ n. now.races + n) (sym (next_races_is asked names (event_numbers before) entry.number es call place ready.at_end answer is))

  pub text_call : (answer : Option Race) → Answered answer
      → race_texts start.form asked (before ++ entry ∷ []) ≡ race_texts start.form asked before ++ answer_text asked start.form names answer
  text_call answer is =
      texts_call ∙ ap (λ text. race_texts start.form asked before ++ text)
      (next_text_is asked names (event_numbers before) entry.number es call place ready.at_end answer is start.form)
