-- What a course holds of one line more.
use Rattle.std.proofs.Common.{◌≡◌, ◌<◌, ◌≤◌, ◌⊎◌, inl, inr, ℕ, ◌+◌, ◌==◌, ◌||◌, Bool, false, cond, ltb, List, [], ◌∷◌, ◌++◌, length, Some, None, refl, sym, ap, subst, ◌∙◌, arith, true≢false}
use Rattle.std.specs.List.{cons_option}
use Rattle.std.proofs.lemmas.Bool.{cases_eq, cases_lt, eq-eqb, ne_eqb, lt-ltb, le-ltb}
use Rattle.std.proofs.lemmas.List.{append-nil, length-append}
use Rattle.std.proofs.lemmas.Option.{none-some, same_Some}
use Rattle.rd_base.specs.Limits.{AreUsable}
use Rattle.rd_base.specs.declared.limits.Limits.{Limits}
use Rattle.rd_detect.specs.Detect.{Detecting, DetectorStandsFor}
use Rattle.rd_ecl.specs.Kinds.{Kind, kinds_of}
use Rattle.rd_ecl.specs.Specified.{SpecifiedKind}
use Rattle.rd_event.specs.declared.events.Event.{Event as Numbered}
use Rattle.rd_event.specs.declared.items.Line.{Line}
use Rattle.rd_event.specs.declared.items.Line.TheVariants.{Skip, Header, Thread, Object, Event}
use Rattle.rd_event.specs.declared.items.LineEvent.{LineEvent}
use Rattle.rd_event.specs.declared.items.LineEvent.TheVariants.{Fork, Join, Acquire, Release, Share, Unshare, Call}
use Rattle.rd_hb.specs.Knows.{KnownCount}
use Rattle.rd_hb.specs.Tracker.{TrackerStandsFor, Tracking, handed_by}
use Rattle.rd_order.specs.EventLists.{WellFormedWith, forks, joins, threads_after}
use Rattle.rd_order.specs.Order.{GivesBack, Hold, exclusive, forked_thread, shared}
use Rattle.rd_rules.specs.Events.{AreTold, event_of, events_of, root_count, roots_of}
use Rattle.rd_rules.specs.MayFollow.{MayFollow, accepted_of, begun_name, events, is_root, is_skip, numbered_event, threads_of}
use Rattle.rd_rules.specs.declared.causes.Accepted.{Accepted}
use Rattle.rd_rules.specs.declared.causes.Accepted.TheVariants as accepted
use Rattle.rd_rules.specs.laws.NoLines.{told_none}
use Rattle.rd_rules.proofs.EventsLemmas.{all_roots, events_more, no_events, roots_more, threads_more, told_formed, told_more}
use Rattle.rd_rules.proofs.FollowLemmas.{met}
use Rattle.rd_detect_trials.specs.Courses.{IsNext, MayHappenNext, StandsForLines}

-- ---- lines

module _ (kinds : List Kind) where
  root_line : (before : List Line) (line : Line) (n : ℕ) → accepted.Root n ≡ accepted_of kinds before line → (name : List ℕ) × (line ≡ Thread name) × (n ≡ length (threads_of before))
  unfolding accepted_of
  root_line before Skip n e = cc
  root_line before (Header version) n e = cc
  root_line before (Thread name) n e = (name, refl, cc)
  root_line before (Object name kind) n e = cc
  root_line before (Event event) n e = cc

  event_line : (before : List Line) (line : Line) (e : Numbered) → accepted.Event e ≡ accepted_of kinds before line → (event : LineEvent) × (line ≡ Event event) × (e ≡ numbered_event kinds before event)
  unfolding accepted_of
  event_line before Skip e is = cc
  event_line before (Header version) e is = cc
  event_line before (Thread name) e is = cc
  event_line before (Object name kind) e is = cc
  event_line before (Event event) e is = (event, refl, cc)

  -- a root comes before every event
  early : (before : List Line) (name : List ℕ) (limits : Limits) → MayFollow kinds limits before (Thread name) → events before ≡ 0
  early before name limits follows = (met kinds limits before (Thread name) (λ skip. true≢false (sym (ap is_skip skip))) follows).early_root refl

  forked_next : (before : List Line) (event : LineEvent) (u : ℕ) → forked_thread (numbered_event kinds before event) ≡ Some u → u ≡ length (threads_of before)
  forked_next before (Fork thread child) u e = sym (same_Some (length (threads_of before)) u e)
  forked_next before (Join thread child) u e = absurd (none-some u e)
  forked_next before (Acquire thread lock) u e = absurd (none-some u e)
  forked_next before (Release thread lock) u e = absurd (none-some u e)
  forked_next before (Share thread lock) u e = absurd (none-some u e)
  forked_next before (Unshare thread lock) u e = absurd (none-some u e)
  forked_next before (Call thread object method slots) u e = absurd (none-some u e)

  threads_event : (before : List Line) (event : LineEvent) → length (threads_of (before ++ Event event ∷ [])) ≡ threads_after (numbered_event kinds before event) (length (threads_of before))
  threads_event before (Fork thread child) = ap length (threads_more before (Event (Fork thread child))) ∙ length-append (threads_of before) (child ∷ [])
  threads_event before (Join thread child) = ap length (threads_more before (Event (Join thread child)) ∙ append-nil (threads_of before))
  threads_event before (Acquire thread lock) = ap length (threads_more before (Event (Acquire thread lock)) ∙ append-nil (threads_of before))
  threads_event before (Release thread lock) = ap length (threads_more before (Event (Release thread lock)) ∙ append-nil (threads_of before))
  threads_event before (Share thread lock) = ap length (threads_more before (Event (Share thread lock)) ∙ append-nil (threads_of before))
  threads_event before (Unshare thread lock) = ap length (threads_more before (Event (Unshare thread lock)) ∙ append-nil (threads_of before))
  threads_event before (Call thread object method slots) = ap length (threads_more before (Event (Call thread object method slots)) ∙ append-nil (threads_of before))

-- one number more is below
below_or_last : (t n : ℕ) → (ltb t n || (t == n)) ≡ ltb t (n + 1)
below_or_last t n =
    elim (cases_lt t n) [
      | inl before ↦ ap (λ b. b || (t == n)) (lt-ltb t n before) ∙ sym (lt-ltb t (n + 1) (omega arith))
      | inr past ↦ elim (cases_eq t n) [
        | inl same ↦ ap (λ b. b || (t == n)) (le-ltb t n past) ∙ eq-eqb t n same ∙ sym (lt-ltb t (n + 1) (omega arith))
        | inr other ↦ ap (λ b. b || (t == n)) (le-ltb t n past) ∙ ne_eqb t n other ∙ sym (le-ltb t (n + 1) (omega arith))
      ]
    ]

module _ (spec : List SpecifiedKind) (tracker : Tracking) (detector : Detecting) (before : List Line) (line : Line) (numbers : Accepted) (place : ℕ)
    (next : IsNext spec tracker detector before line numbers place) where
  abbrev kinds : List Kind
  kinds = kinds_of spec

  abbrev now : List Line
  now = before ++ line ∷ []

  told_next : AreTold kinds now
  told_next = told_more kinds next.limits before line next.usable next.follows next.few next.stands.told

  formed_next : WellFormedWith kinds (roots_of now) (events_of kinds now)
  formed_next = told_formed kinds now told_next

  -- ---- roots

  module _ (n : ℕ) (is_root_number : numbers ≡ accepted.Root n) where
    line_is : (name : List ℕ) × (line ≡ Thread name) × (n ≡ length (threads_of before))
    line_is = root_line kinds before line n (sym is_root_number ∙ next.told_as)

    pub root_numbered : n ≡ length tracker.threads
    root_numbered = line_is.2 ∙ sym next.stands.count

    root_count_more : length (threads_of now) ≡ n + 1
    root_count_more =
        let (name, is, number) = line_is in
        ap length (threads_more before line ∙ ap (λ l. threads_of before ++ cons_option (begun_name l) []) is) ∙ length-append (threads_of before) (name ∷ []) ∙ ap (λ m. m + 1) (sym number)

    pub root_below : n < 4294967295
    root_below = omega (arith, next.few, root_count_more)

    no_event : events_of kinds before ≡ []
    no_event =
        let (name, is, number) = line_is in
        no_events kinds before next.stands.told (early kinds before name next.limits (subst (MayFollow kinds next.limits before) is next.follows))

    none_now : events_of kinds now ≡ []
    none_now =
        let (name, is, number) = line_is in
        events_more kinds before line ∙ ap (λ l. events_of kinds before ++ cons_option (event_of kinds before l) []) is
        ∙ append-nil (events_of kinds before) ∙ no_event

    total : root_count before ≡ n
    total =
        let (name, is, number) = line_is in
        all_roots kinds before next.stands.told (early kinds before name next.limits (subst (MayFollow kinds next.limits before) is next.follows)) ∙ sym number

    roots_now : root_count now ≡ n + 1
    roots_now =
        let (name, is, number) = line_is in
        roots_more before line ∙ ap (λ l. root_count before + cond (is_root l) 1 0) is ∙ ap (λ m. m + 1) total

    -- the numbers of lines are those of no event
    no_numbers : (numbers : List ℕ) → length numbers ≡ 0 → numbers ≡ []
    no_numbers [] none = refl
    no_numbers (number ∷ numbers) none = absurd (omega (arith, none))

    no_line : next.stands.numbers ≡ []
    no_line = no_numbers next.stands.numbers (next.stands.detects.lengths ∙ ap length no_event)

    -- the tracker has one root more, and no event
    pub root_stands : (new : Tracking) → ((roots : ℕ → Bool) → TrackerStandsFor tracker roots [] → TrackerStandsFor new (λ t. roots t || (t == n)) []) → length new.threads ≡ length tracker.threads + 1
        → ((roots others : ℕ → Bool) → WellFormedWith kinds others [] → DetectorStandsFor spec detector roots [] [] → DetectorStandsFor spec detector others [] [])
        → StandsForLines spec new detector now
    root_stands new stands count others =
        let was : TrackerStandsFor tracker (λ t. ltb t n) [] = subst (λ es. TrackerStandsFor tracker (λ t. ltb t n) es) no_event
        (subst (λ m. TrackerStandsFor tracker (λ t. ltb t m) (events_of kinds before)) total next.stands.tracked) in
        let is : TrackerStandsFor new (λ t. ltb t (n + 1)) [] = subst (λ roots. TrackerStandsFor new roots []) (λ i t. below_or_last t n i) (stands (λ t. ltb t n) was) in
        let detected : DetectorStandsFor spec detector (roots_of before) [] [] = subst (λ numbers. DetectorStandsFor spec detector (roots_of before) numbers []) no_line
        (subst (DetectorStandsFor spec detector (roots_of before) next.stands.numbers) no_event next.stands.detects) in record {
          told = told_next;
          tracked = subst (λ es. TrackerStandsFor new (roots_of now) es) (sym none_now) (subst (λ m. TrackerStandsFor new (λ t. ltb t m) []) (sym roots_now) is);
          count = count ∙ ap (λ m. m + 1) (sym root_numbered) ∙ sym root_count_more;
          numbers = [];
          detects = subst (DetectorStandsFor spec detector (roots_of now) []) (sym none_now)
              (others (roots_of before) (roots_of now) (subst (WellFormedWith kinds (roots_of now)) none_now formed_next) detected);
        }

  -- ---- events

  module _ (e : Numbered) (is_event_number : numbers ≡ accepted.Event e) where
    event_is : (event : LineEvent) × (line ≡ Event event) × (e ≡ numbered_event kinds before event)
    event_is = event_line kinds before line e (sym is_event_number ∙ next.told_as)

    event_last : events_of kinds now ≡ events_of kinds before ++ e ∷ []
    event_last =
        let (event, is, number) = event_is in
        events_more kinds before line ∙ ap (λ l. events_of kinds before ++ cons_option (event_of kinds before l) []) is
        ∙ ap (λ x. events_of kinds before ++ x ∷ []) (sym number)

    same_roots : root_count now ≡ root_count before
    same_roots =
        let (event, is, number) = event_is in
        roots_more before line ∙ ap (λ l. root_count before + cond (is_root l) 1 0) is ∙ omega arith

    event_threads : length (threads_of now) ≡ threads_after e (length tracker.threads)
    event_threads =
        let (event, is, number) = event_is in
        ap (λ l. length (threads_of (before ++ l ∷ []))) is ∙ threads_event kinds before event ∙ ap (λ x. threads_after x (length (threads_of before))) (sym number)
        ∙ ap (threads_after e) (sym next.stands.count)

    pub event_next : MayHappenNext spec tracker detector (roots_of before) next.stands.numbers (events_of kinds before) place e
    event_next =
        let (event, is, number) = event_is in record {
          detects = next.stands.detects;
          tracked = next.stands.tracked;
          formed = subst (λ m. WellFormedWith kinds (λ t. ltb t m) (events_of kinds before ++ e ∷ [])) same_roots
              (subst (WellFormedWith kinds (roots_of now)) event_last formed_next);
          numbered = λ u begins. forked_next kinds before event u (subst (λ x. forked_thread x ≡ Some u) number begins) ∙ sym next.stands.count;
          at_end = next.at_end;
        }

    pub event_stands : (new : Tracking) (after : Detecting) (number : ℕ) → TrackerStandsFor new (roots_of before) (events_of kinds before ++ e ∷ [])
        → DetectorStandsFor spec after (roots_of before) (next.stands.numbers ++ number ∷ []) (events_of kinds before ++ e ∷ [])
        → length new.threads ≡ threads_after e (length tracker.threads) → StandsForLines spec new after now
    event_stands new after number tracked detects count = record {
      told = told_next;
      tracked = subst (TrackerStandsFor new (roots_of now)) (sym event_last)
          (subst (λ m. TrackerStandsFor new (λ t. ltb t m) (events_of kinds before ++ e ∷ [])) (sym same_roots) tracked);
      count = count ∙ sym event_threads;
      numbers = next.stands.numbers ++ number ∷ [];
      detects = subst (DetectorStandsFor spec after (roots_of now) (next.stands.numbers ++ number ∷ [])) (sym event_last)
          (subst (λ m. DetectorStandsFor spec after (λ t. ltb t m) (next.stands.numbers ++ number ∷ []) (events_of kinds before ++ e ∷ [])) (sym same_roots) detects);
    }

  -- ---- other lines

  -- a line that is none of both
  pub quiet_stands : (numbers ≡ accepted.Nothing) ⊎ ((object : ℕ) × (kind : ℕ) × (numbers ≡ accepted.Object object kind)) → StandsForLines spec tracker detector now
  unfolding accepted_of
  quiet_stands quiet = by line refl
    where
      kept : is_root line ≡ false → begun_name line ≡ None → event_of kinds before line ≡ None → StandsForLines spec tracker detector now
      kept root begins event =
          let same : events_of kinds now ≡ events_of kinds before = events_more kinds before line ∙ ap (λ o. events_of kinds before ++ cons_option o []) event ∙ append-nil (events_of kinds before) in
          let roots : root_count now ≡ root_count before = roots_more before line ∙ ap (λ b. root_count before + cond b 1 0) root ∙ omega arith in record {
            told = told_next;
            tracked = subst (TrackerStandsFor tracker (roots_of now)) (sym same) (subst (λ m. TrackerStandsFor tracker (λ t. ltb t m) (events_of kinds before)) (sym roots) next.stands.tracked);
            count = next.stands.count ∙ sym (ap length (threads_more before line ∙ ap (λ o. threads_of before ++ cons_option o []) begins ∙ append-nil (threads_of before)));
            numbers = next.stands.numbers;
            detects = subst (DetectorStandsFor spec detector (roots_of now) next.stands.numbers) (sym same)
                (subst (λ m. DetectorStandsFor spec detector (λ t. ltb t m) next.stands.numbers (events_of kinds before)) (sym roots) next.stands.detects);
          }

      by : (l : Line) → line ≡ l → StandsForLines spec tracker detector now
      by Skip is = kept (ap is_root is) (ap begun_name is) (ap (event_of kinds before) is)
      by (Header version) is = kept (ap is_root is) (ap begun_name is) (ap (event_of kinds before) is)
      by (Object name kind) is = kept (ap is_root is) (ap begun_name is) (ap (event_of kinds before) is)
      by (Thread name) is =
          let root : numbers ≡ accepted.Root (length (threads_of before)) = next.told_as ∙ ap (accepted_of kinds before) is in
          elim quiet [ inl nothing ↦ cc | inr object ↦ (let other = object.2 in cc) ]
      by (Event event) is =
          let told : numbers ≡ accepted.Event (numbered_event kinds before event) = next.told_as ∙ ap (accepted_of kinds before) is in
          elim quiet [ inl nothing ↦ cc | inr object ↦ (let other = object.2 in cc) ]

-- ---- no line

-- a tracker of no event
abbrev none_tracked : Tracking
none_tracked = record { threads = []; locks = record { releases = []; unshares = [] } }

-- no lock hands anything on
none_handed : (kinds : List Kind) (hold : Hold) (u : ℕ)
    → KnownCount (events_of kinds []) (GivesBack (events_of kinds []) hold) u (handed_by none_tracked.locks hold u)
none_handed kinds (exclusive lock) u = refl
none_handed kinds (shared lock) u = refl

tracked_none : (kinds : List Kind) → TrackerStandsFor none_tracked (roots_of []) (events_of kinds [])
unfolding forks joins
tracked_none kinds = record {
  known = λ t. (λ below. absurd (omega arith), λ known. ((told_none kinds).told.known t).0 known);
  clocks = λ t u. refl;
  joined = λ t. (λ h. absurd (true≢false (sym h)), λ some. absurd (omega arith));
  locks = none_handed kinds;
  releases = λ lock m gives. none-some gives.0 gives.1;
}

pub stands_none : (spec : List SpecifiedKind) (tracker : Tracking) (detector : Detecting) → tracker ≡ none_tracked
    → ((roots : ℕ → Bool) → WellFormedWith (kinds_of spec) roots [] → DetectorStandsFor spec detector roots [] [])
    → StandsForLines spec tracker detector []
stands_none spec tracker detector none stands =
    let told : AreTold (kinds_of spec) [] = told_none (kinds_of spec) in record {
      told = told;
      tracked = subst (λ t. TrackerStandsFor t (roots_of []) (events_of (kinds_of spec) [])) (sym none) (tracked_none (kinds_of spec));
      count = ap (λ t. length t.threads) none;
      numbers = [];
      detects = stands (roots_of []) (told_formed (kinds_of spec) [] told);
    }

-- ---- the next line

-- what is told where a roster accepts a line
pub accepted_next : (spec : List SpecifiedKind) (tracker : Tracking) (detector : Detecting) (before : List Line) (line : Line) (numbers : Accepted) (place : ℕ) (limits : Limits)
    → StandsForLines spec tracker detector before → AreUsable limits → MayFollow (kinds_of spec) limits before line → length (threads_of (before ++ line ∷ [])) ≤ 4294967295
    → numbers ≡ accepted_of (kinds_of spec) before line → place ≡ events before → IsNext spec tracker detector before line numbers place
accepted_next spec tracker detector before line numbers place limits stands usable follows few told count = record {
  stands = stands;
  limits = limits;
  usable = usable;
  follows = follows;
  few = few;
  told_as = told;
  at_end = count ∙ sym stands.told.told.counted;
}
