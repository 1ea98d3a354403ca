-- What is written of one accepted line more.
use Rattle.std.proofs.Common.{◌≡◌, ◌≢◌, ◌↔◌, ◌⊎◌, inl, inr, ℕ, zero, suc, ◌+◌, ◌<◌, ◌≤◌, ◌==◌, Bool, true, false, cond, List, [], ◌∷◌, ◌++◌, length, Option, Some, None, is_some, MatchOption, Decides, refl, sym, ap, subst, ◌∙◌, arith}
use Rattle.std.specs.List.{cons_option}
use Rattle.std.proofs.lemmas.Bool.{cases_eq, eq-eqb, ne_eqb}
use Rattle.std.proofs.lemmas.List.{append_assoc, append-nil}
use Rattle.std.proofs.lemmas.List.Elements.{filter_map-append}
use Rattle.std.proofs.lemmas.Option.{slice_get_within}
use Rattle.rd_base.specs.Bytes.{IsFront}
use Rattle.rd_event.specs.declared.events.Call.{Call as CallOf}
use Rattle.rd_event.specs.declared.events.Event.{Event as Numbered}
use Rattle.rd_event.specs.declared.events.Event.TheVariants.{Call}
use Rattle.rd_event.specs.declared.items.Line.{Line}
use Rattle.rd_event.specs.declared.items.Line.TheVariants.{Skip, Header, Thread, Object, Event}
use Rattle.rd_event.specs.declared.items.LineEvent.{LineEvent}
use Rattle.rd_order.proofs.OrderLemmas.{length_more}
use Rattle.std.specs.Prelude.{slice_get}
use Rattle.rd_rules.proofs.EventsLemmas.{events_more, told_from}
use Rattle.rd_races.proofs.RaceLemmas.{latest_is, latest_longer, latest_none, latest_some}
use Rattle.rd_walk.proofs.WalkLemmas.{items_more}
use Rattle.rd_check_command.specs.Checking.{next_races, next_text}
use Rattle.rd_races.specs.Commuting.{Commute, calls_commute}
use Rattle.rd_detect.specs.Detect.{IsAnswer}
use Rattle.rd_rules.specs.Events.{AreAcceptedFrom, AreTold, IsAccepted, event_of, events_from, events_of}
use Rattle.rd_ecl.specs.Kinds.{Kind, kinds_of}
use Rattle.rd_ecl.specs.Specified.{SpecifiedKind}
use Rattle.rd_rules.specs.MayFollow.{is_event, numbered_event}
use Rattle.rd_json.specs.Forms.{race_in}
use Rattle.rd_json.specs.declared.forms.Form.{Form}
use Rattle.rd_report.specs.Races.{told_by}
use Rattle.rd_report.specs.Texts.{Naming, naming}
use Rattle.rd_store.specs.declared.Race.{Race}
use Rattle.rd_check_command.proofs.NamingLemmas.{race_longer, witness_told}
use Rattle.rd_check_command.specs.Checked.{calls_text, entries_ending, entries_race, entry_events, event_number, event_numbers, race_at, race_texts, races_before, races_of, text_with, texts_before, told_at}
use Rattle.rd_report.specs.Endings.{check_status, is_limit, replay_status}
use Rattle.rd_races.specs.RaceTests.{latest_of}
use Rattle.rd_races.specs.Races.{IsLatest, Reported}
use Rattle.rd_check_command.specs.Reports.{IsReport}
use Rattle.rd_walk.specs.Walk.{Entry, items}
use Rattle.rd_object.specs.declared.shapes.Expected.{Expected}
use Rattle.rd_object.specs.declared.shapes.ReplayEnd.{ReplayEnd}
use Rattle.rd_object.specs.declared.shapes.ReplayEnd.TheVariants.{Exact, Differs, NotShipped}
use Rattle.rd_replay_command.specs.Replaying.{replay_of}
use Rattle.rd_walk.specs.declared.walk.WalkEnd.{WalkEnd}
use Rattle.rd_walk.specs.declared.walk.WalkEnd.TheVariants.{End, Refused, Fault}
use Rattle.rd_walk.specs.declared.status.Status.TheVariants.{Raced, ReplayDiffers, TraceRefused, LimitReached}

-- ---- each event has the number of a line

one_more : (item : Line) (number : ℕ) (numbers : List ℕ) (kinds : List Kind) (before : List Line) (es : List Numbered) → length numbers ≡ length es
    → length (cons_option (cond (is_event item) (Some number) None) numbers) ≡ length (cons_option (event_of kinds before item) es)
one_more Skip number numbers kinds before es same = same
one_more (Header version) number numbers kinds before es same = same
one_more (Thread name) number numbers kinds before es same = same
one_more (Object name kind) number numbers kinds before es same = same
one_more (Event event) number numbers kinds before es same = ap suc same

numbers_from : (entries : List Entry) (kinds : List Kind) (before : List Line) → length (event_numbers entries) ≡ length (events_from kinds before (items entries))
numbers_from [] kinds before = refl
numbers_from (x ∷ xs) kinds before =
    one_more x.item x.number (event_numbers xs) kinds before (events_from kinds (before ++ x.item ∷ []) (items xs)) (numbers_from xs kinds (before ++ x.item ∷ []))

pub numbers_counted : (kinds : List SpecifiedKind) (entries : List Entry) → length (event_numbers entries) ≡ length (entry_events kinds entries)
numbers_counted kinds entries = numbers_from entries (kinds_of kinds) []

-- one accepted line more
told_next : (kinds : List Kind) (lines : List Line) (line : Line) → IsAccepted kinds lines line → AreTold kinds lines → AreTold kinds (lines ++ line ∷ [])
told_next kinds lines line accepted told = told_from kinds lines (line ∷ []) told (accepted, tt)

-- a test of commuting tells which calls commute
pub passing : (kinds : List SpecifiedKind) (a b : CallOf) → Decides (calls_commute kinds a b) (Commute kinds a b)
passing kinds a b = (λ h. h, λ h. h)

module _ (kinds : List SpecifiedKind) where
  -- ---- what was written isn't changed by further events

  module _ (text more_text : ℕ → ℕ → List ℕ) (es fs : List Numbered)
      (kept : (n i : ℕ) → n < length es → i < length es → more_text n i ≡ text n i) where
    text_longer : (n : ℕ) → n < length es → text_with more_text n (latest_of (calls_commute kinds) (es ++ fs) n) ≡ text_with text n (latest_of (calls_commute kinds) es n)
    text_longer n inside =
        ap (text_with more_text n) (latest_longer (Commute kinds) (calls_commute kinds) (passing kinds) es fs n inside)
        ∙ by (latest_of (calls_commute kinds) es n) (latest_is (Commute kinds) (calls_commute kinds) (passing kinds) es n)
      where
        by : (o : Option ℕ) → MatchOption o (¬ (Reported (Commute kinds) es n)) (IsLatest (Commute kinds) es n) → text_with more_text n o ≡ text_with text n o
        by None none = refl
        by (Some i) is = (let before : i < n = is.racing.unordered.0 in kept n i inside (omega arith))

    texts_longer : (n : ℕ) → n ≤ length es → texts_before (calls_commute kinds) more_text (es ++ fs) n ≡ texts_before (calls_commute kinds) text es n
    unfolding texts_before
    texts_longer zero inside = refl
    texts_longer (suc n) inside = λ i. texts_longer n (omega arith) i ++ text_longer n (omega arith) i

  races_longer : (es fs : List Numbered) (n : ℕ) → n ≤ length es → races_before (calls_commute kinds) (es ++ fs) n ≡ races_before (calls_commute kinds) es n
  unfolding races_before
  races_longer es fs zero inside = refl
  races_longer es fs (suc n) inside = λ i. races_longer es fs n (omega arith) i + cond (is_some (latest_longer (Commute kinds) (calls_commute kinds) (passing kinds) es fs n (omega arith) i)) 1 0

  -- ---- one line more

  module _ (entries : List Entry) (entry : Entry) where
    numbers_more : event_numbers (entries ++ entry ∷ []) ≡ event_numbers entries ++ cons_option (event_number entry) []
    numbers_more = filter_map-append event_number entries (entry ∷ [])

    all_more : entry_events kinds (entries ++ entry ∷ []) ≡ entry_events kinds entries ++ cons_option (event_of (kinds_of kinds) (items entries) entry.item) []
    all_more = ap (events_of (kinds_of kinds)) (items_more entries entry) ∙ events_more (kinds_of kinds) (items entries) entry.item

    -- it is no event
    module _ (event : is_event entry.item ≡ false) where
      no_number : event_numbers (entries ++ entry ∷ []) ≡ event_numbers entries
      no_number = numbers_more ∙ ap (λ b. event_numbers entries ++ cons_option (cond b (Some entry.number) None) []) event ∙ append-nil (event_numbers entries)

      none_of : (item : Line) → is_event item ≡ false → event_of (kinds_of kinds) (items entries) item ≡ None
      none_of Skip e = refl
      none_of (Header version) e = refl
      none_of (Thread name) e = refl
      none_of (Object name kind) e = refl
      none_of (Event event) e = cc

      no_event : entry_events kinds (entries ++ entry ∷ []) ≡ entry_events kinds entries
      no_event = all_more ∙ ap (λ o. entry_events kinds entries ++ cons_option o []) (none_of entry.item event) ∙ append-nil (entry_events kinds entries)

      pub quiet_numbers : event_numbers (entries ++ entry ∷ []) ≡ event_numbers entries
      quiet_numbers = no_number

      pub quiet_events : entry_events kinds (entries ++ entry ∷ []) ≡ entry_events kinds entries
      quiet_events = no_event

      pub quiet_texts : (form : Form) → AreTold (kinds_of kinds) (items entries) → race_texts form kinds (entries ++ entry ∷ []) ≡ race_texts form kinds entries
      unfolding race_texts
      quiet_texts form told =
          let es : List Numbered = entry_events kinds entries in
          let numbers : List ℕ = event_numbers entries in
          let text = entries_race form kinds (entries ++ entry ∷ []) in
          let same_text : (n i : ℕ) → n < length es → i < length es → text n i ≡ entries_race form kinds entries n i
          = λ n i inside before.
          (λ k. race_at form kinds (naming (items_more entries entry k)) ((no_number ∙ sym (append-nil numbers)) k) ((no_event ∙ sym (append-nil es)) k) n i)
          ∙ race_longer kinds (items entries) told entry.item numbers [] [] (numbers_counted kinds entries) form n i inside before in
          (λ k. texts_before (calls_commute kinds) text ((no_event ∙ sym (append-nil es)) k) (length (no_event k)))
          ∙ texts_longer (entries_race form kinds entries) text es [] same_text (length es) (omega arith)

      pub quiet_races : races_of kinds (entries ++ entry ∷ []) ≡ races_of kinds entries
      unfolding races_of
      quiet_races = λ i. races_before (calls_commute kinds) (no_event i) (length (no_event i))

    -- it is an event
    module _ (event : LineEvent) (is : entry.item ≡ Event event) where
      abbrev e : Numbered
      e = numbered_event (kinds_of kinds) (items entries) event

      pub event_numbers_more : event_numbers (entries ++ entry ∷ []) ≡ event_numbers entries ++ entry.number ∷ []
      event_numbers_more = numbers_more ∙ ap (λ item. event_numbers entries ++ cons_option (cond (is_event item) (Some entry.number) None) []) is

      pub events_all : entry_events kinds (entries ++ entry ∷ []) ≡ entry_events kinds entries ++ numbered_event (kinds_of kinds) (items entries) event ∷ []
      events_all = all_more ∙ ap (λ item. entry_events kinds entries ++ cons_option (event_of (kinds_of kinds) (items entries) item) []) is

      pub texts_more : (form : Form) → AreTold (kinds_of kinds) (items entries) → race_texts form kinds (entries ++ entry ∷ [])
          ≡ race_texts form kinds entries ++ next_text form kinds (naming (items entries ++ entry.item ∷ [])) (event_numbers entries) entry.number (entry_events kinds entries) e
      unfolding race_texts texts_before
      texts_more form told =
          let es : List Numbered = entry_events kinds entries in
          let numbers : List ℕ = event_numbers entries in
          let text = race_at form kinds (naming (items entries ++ entry.item ∷ [])) (numbers ++ entry.number ∷ []) (es ++ e ∷ []) in
          let same_text : (n i : ℕ) → n < length es → i < length es → text n i ≡ entries_race form kinds entries n i
          = race_longer kinds (items entries) told entry.item numbers (entry.number ∷ []) (e ∷ []) (numbers_counted kinds entries) form in
          (λ k. texts_before (calls_commute kinds) (race_at form kinds (naming (items_more entries entry k)) (event_numbers_more k) (events_all k)) (events_all k) (length (events_all k)))
          ∙ ap (texts_before (calls_commute kinds) text (es ++ e ∷ [])) (length_more es e)
          ∙ ap (λ t. t ++ next_text form kinds (naming (items entries ++ entry.item ∷ [])) numbers entry.number es e)
          (texts_longer (entries_race form kinds entries) text es (e ∷ []) same_text (length es) (omega arith))

      pub races_more : races_of kinds (entries ++ entry ∷ []) ≡ races_of kinds entries + next_races kinds (entry_events kinds entries) (numbered_event (kinds_of kinds) (items entries) event)
      unfolding races_of races_before
      races_more =
          let es : List Numbered = entry_events kinds entries in
          (λ i. races_before (calls_commute kinds) (events_all i) (length (events_all i)))
          ∙ ap (races_before (calls_commute kinds) (es ++ e ∷ [])) (length_more es e)
          ∙ ap (λ n. n + next_races kinds es e) (races_longer es (e ∷ []) (length es) (omega arith))

  -- the texts of further lines come behind those before
  pub texts_grow : (form : Form) (before : List Entry) (entry : Entry) → AreTold (kinds_of kinds) (items before)
      → IsFront (race_texts form kinds before) (race_texts form kinds (before ++ entry ∷ []))
  texts_grow form before entry told = by entry.item refl
    where
      quiet : is_event entry.item ≡ false → IsFront (race_texts form kinds before) (race_texts form kinds (before ++ entry ∷ []))
      quiet event = ([], quiet_texts before entry event form told ∙ sym (append-nil (race_texts form kinds before)))

      by : (item : Line) → entry.item ≡ item → IsFront (race_texts form kinds before) (race_texts form kinds (before ++ entry ∷ []))
      by Skip is = quiet (ap is_event is)
      by (Header version) is = quiet (ap is_event is)
      by (Thread name) is = quiet (ap is_event is)
      by (Object name kind) is = quiet (ap is_event is)
      by (Event event) is = (_, texts_more before entry event is form told)

  pub texts_front : (form : Form) (entries more : List Entry) → AreAcceptedFrom (kinds_of kinds) (items entries) (items more) → AreTold (kinds_of kinds) (items entries)
      → IsFront (race_texts form kinds entries) (race_texts form kinds (entries ++ more))
  texts_front form entries [] accepted told = ([], ap (race_texts form kinds) (append-nil entries) ∙ sym (append-nil (race_texts form kinds entries)))
  texts_front form entries (x ∷ xs) accepted told =
      let now : AreTold (kinds_of kinds) (items (entries ++ x ∷ []))
      = subst (AreTold (kinds_of kinds)) (sym (items_more entries x)) (told_next (kinds_of kinds) (items entries) x.item accepted.0 told) in
      let later : AreAcceptedFrom (kinds_of kinds) (items (entries ++ x ∷ [])) (items xs)
      = subst (λ lines. AreAcceptedFrom (kinds_of kinds) lines (items xs)) (sym (items_more entries x)) accepted.1 in
      let (first, is_first) = texts_grow form entries x told in
      let (rest, is_rest) = texts_front form (entries ++ x ∷ []) xs later now in (
        first ++ rest,
        ap (race_texts form kinds) (sym (append_assoc entries (x ∷ []) xs)) ∙ is_rest ∙ ap (λ t. t ++ rest) is_first ∙ append_assoc (race_texts form kinds entries) first rest,
      )

  -- ---- how many are reported

  races_few : (es : List Numbered) (n : ℕ) → races_before (calls_commute kinds) es n ≤ n
  unfolding races_before
  races_few es zero = omega arith
  races_few es (suc n) = by (is_some (latest_of (calls_commute kinds) es n)) (races_few es n)
    where
      by : (b : Bool) → races_before (calls_commute kinds) es n ≤ n → races_before (calls_commute kinds) es n + cond b 1 0 ≤ suc n
      by true few = omega arith
      by false few = omega arith

  pub races_within : (entries : List Entry) → races_of kinds entries ≤ length (entry_events kinds entries)
  unfolding races_of
  races_within entries = races_few (entry_events kinds entries) (length (entry_events kinds entries))

  none_before : (es : List Numbered) (n : ℕ) → races_before (calls_commute kinds) es n ≡ 0 ↔ ((j : ℕ) → j < n → ¬ (Reported (Commute kinds) es j))
  unfolding races_before
  none_before es zero = (λ none j below. absurd (omega arith), λ none. refl)
  none_before es (suc n) = (
    λ none j below reported. elim (cases_eq j n) [
      | inl same ↦ by (latest_of (calls_commute kinds) es n) (latest_is (Commute kinds) (calls_commute kinds) (passing kinds) es n) (last_none none) (subst (Reported (Commute kinds) es) same reported)
      | inr other ↦ (none_before es n).0 (omega (arith, none)) j (omega arith) reported
    ],
    λ none.
        let rest : races_before (calls_commute kinds) es n ≡ 0 = (none_before es n).1 (λ j below. none j (omega arith)) in
        let last : latest_of (calls_commute kinds) es n ≡ None = latest_none (Commute kinds) (calls_commute kinds) (passing kinds) es n (none n (omega arith)) in
        ap (λ o. races_before (calls_commute kinds) es n + cond (is_some o) 1 0) last ∙ omega arith,
  )
    where
      last_none : races_before (calls_commute kinds) es n + cond (is_some (latest_of (calls_commute kinds) es n)) 1 0 ≡ 0 → ◌≡◌ {A = ℕ} (cond (is_some (latest_of (calls_commute kinds) es n)) 1 0) 0
      last_none none = omega arith

      by : (o : Option ℕ) → MatchOption o (¬ (Reported (Commute kinds) es n)) (IsLatest (Commute kinds) es n) → ◌≡◌ {A = ℕ} (cond (is_some o) 1 0) 0 → ¬ (Reported (Commute kinds) es n)
      by None fails none = fails
      by (Some i) is none = absurd (omega arith)

  pub none_reported : (entries : List Entry) → races_of kinds entries ≡ 0 ↔ ((j : ℕ) → ¬ (Reported (Commute kinds) (entry_events kinds entries) j))
  unfolding races_of
  none_reported entries =
      let es : List Numbered = entry_events kinds entries in
      let counted = none_before es (length es) in (
        λ none j reported. counted.0 none j (slice_get_within es j (Call reported.1.b) reported.1.at_j) reported,
        λ none. counted.1 (λ j below. none j),
      )

  some_before : (es : List Numbered) (n : ℕ) → races_before (calls_commute kinds) es n ≢ 0 → (j : ℕ) × Reported (Commute kinds) es j
  unfolding races_before
  some_before es zero some = absurd (some refl)
  some_before es (suc n) some = by (latest_of (calls_commute kinds) es n) refl (latest_is (Commute kinds) (calls_commute kinds) (passing kinds) es n) (some_before es n)
    where
      by : (o : Option ℕ) → latest_of (calls_commute kinds) es n ≡ o → MatchOption o (¬ (Reported (Commute kinds) es n)) (IsLatest (Commute kinds) es n) → (races_before (calls_commute kinds) es n ≢ 0 → (j : ℕ) × Reported (Commute kinds) es j) → (j : ℕ) × Reported (Commute kinds) es j
      by None last none earlier = earlier (λ rest. some (ap (λ o. races_before (calls_commute kinds) es n + cond (is_some o) 1 0) last ∙ omega arith))
      by (Some i) last is earlier = (n, (i, is.racing))

  some_reported : (entries : List Entry) → races_of kinds entries ≢ 0 → (j : ℕ) × Reported (Commute kinds) (entry_events kinds entries) j
  unfolding races_of
  some_reported entries some = some_before (entry_events kinds entries) (length (entry_events kinds entries)) some

  -- the status of a check tells whether a call is reported
  not_raced : (replay : ReplayEnd) → replay_status replay ≢ Raced
  not_raced Exact = λ e. cc
  not_raced (Differs line expected) = λ e. cc
  not_raced NotShipped = λ e. cc

  raced_end : (entries : List Entry) → (check_status (races_of kinds entries) (entries_ending kinds entries (races_of kinds entries) End) ≡ Raced) ↔ ((j : ℕ) × Reported (Commute kinds) (entry_events kinds entries) j)
  unfolding check_status
  raced_end entries = (
    λ raced. by (cases_eq (races_of kinds entries) 0) raced,
    λ found. ap (λ b. cond b (replay_status (replay_of (kinds_of kinds) entries)) Raced) (ne_eqb (races_of kinds entries) 0 (λ none. (none_reported entries).0 none found.0 found.1)),
  )
    where
      by : (races_of kinds entries ≡ 0) ⊎ (races_of kinds entries ≢ 0) → cond (races_of kinds entries == 0) (replay_status (replay_of (kinds_of kinds) entries)) Raced ≡ Raced
          → (j : ℕ) × Reported (Commute kinds) (entry_events kinds entries) j
      by (inl none) raced = absurd (not_raced (replay_of (kinds_of kinds) entries)
          (ap (λ b. cond b (replay_status (replay_of (kinds_of kinds) entries)) Raced) (sym (eq-eqb (races_of kinds entries) 0 none)) ∙ raced))
      by (inr some) raced = some_reported entries some

  pub raced_where : (entries : List Entry) (ending : WalkEnd) → (check_status (races_of kinds entries) (entries_ending kinds entries (races_of kinds entries) ending) ≡ Raced) ↔ ((ending ≡ End) × ((j : ℕ) × Reported (Commute kinds) (entry_events kinds entries) j))
  unfolding check_status
  raced_where entries End = (λ raced. (refl, (raced_end entries).0 raced), λ h. (raced_end entries).1 h.1)
  raced_where entries (Refused number cause) = (λ raced. absurd (by (is_limit cause) raced), λ h. let is = h.0 in cc)
    where
      by : (b : Bool) → cond b LimitReached TraceRefused ≡ Raced → ⊥
      by true e = cc
      by false e = cc
  raced_where entries Fault = (λ raced. cc, λ h. let is = h.0 in cc)

  -- and whether none is, but a call differs from its record
  is_difference : (replay : ReplayEnd) → replay_status replay ≡ ReplayDiffers → (line : ℕ) × (expected : Expected) × (replay ≡ Differs line expected)
  is_difference Exact e = cc
  is_difference (Differs line expected) e = (line, expected, refl)
  is_difference NotShipped e = cc

  differs_end : (entries : List Entry) → (check_status (races_of kinds entries) (entries_ending kinds entries (races_of kinds entries) End) ≡ ReplayDiffers)
      ↔ (((j : ℕ) → ¬ (Reported (Commute kinds) (entry_events kinds entries) j)) × ((line : ℕ) × (expected : Expected) × (replay_of (kinds_of kinds) entries ≡ Differs line expected)))
  unfolding check_status
  differs_end entries = (
    λ differs. by (cases_eq (races_of kinds entries) 0) differs,
    λ h. let (none, (line, expected, is)) = h in
        ap (λ b. cond b (replay_status (replay_of (kinds_of kinds) entries)) Raced) (eq-eqb (races_of kinds entries) 0 ((none_reported entries).1 none)) ∙ ap replay_status is,
  )
    where
      by : (races_of kinds entries ≡ 0) ⊎ (races_of kinds entries ≢ 0) → cond (races_of kinds entries == 0) (replay_status (replay_of (kinds_of kinds) entries)) Raced ≡ ReplayDiffers
          → ((j : ℕ) → ¬ (Reported (Commute kinds) (entry_events kinds entries) j)) × ((line : ℕ) × (expected : Expected) × (replay_of (kinds_of kinds) entries ≡ Differs line expected))
      by (inl none) differs = (
        (none_reported entries).0 none,
        is_difference (replay_of (kinds_of kinds) entries)
            (ap (λ b. cond b (replay_status (replay_of (kinds_of kinds) entries)) Raced) (sym (eq-eqb (races_of kinds entries) 0 none)) ∙ differs),
      )
      by (inr some) differs = (let raced : Raced ≡ ReplayDiffers =
          ap (λ b. cond b (replay_status (replay_of (kinds_of kinds) entries)) Raced) (sym (ne_eqb (races_of kinds entries) 0 some)) ∙ differs in cc)

  pub differs_where : (entries : List Entry) (ending : WalkEnd) → (check_status (races_of kinds entries) (entries_ending kinds entries (races_of kinds entries) ending) ≡ ReplayDiffers)
      ↔ ((ending ≡ End) × (((j : ℕ) → ¬ (Reported (Commute kinds) (entry_events kinds entries) j))
      × ((line : ℕ) × (expected : Expected) × (replay_of (kinds_of kinds) entries ≡ Differs line expected))))
  unfolding check_status
  differs_where entries End = (λ differs. (refl, (differs_end entries).0 differs), λ h. (differs_end entries).1 h.1)
  differs_where entries (Refused number cause) = (λ differs. absurd (by (is_limit cause) differs), λ h. let is = h.0 in cc)
    where
      by : (b : Bool) → cond b LimitReached TraceRefused ≡ ReplayDiffers → ⊥
      by true e = cc
      by false e = cc
  differs_where entries Fault = (λ differs. cc, λ h. let is = h.0 in cc)

  -- ---- the texts are a report

  report_before : (text : ℕ → ℕ → List ℕ) (es : List Numbered) (n : ℕ) → IsReport (Commute kinds) text es n (texts_before (calls_commute kinds) text es n)
  unfolding texts_before
  report_before text es zero = refl
  report_before text es (suc n) =
      (texts_before (calls_commute kinds) text es n, report_before text es n, by (latest_of (calls_commute kinds) es n) (latest_is (Commute kinds) (calls_commute kinds) (passing kinds) es n))
    where
      by : (o : Option ℕ) → MatchOption o (¬ (Reported (Commute kinds) es n)) (IsLatest (Commute kinds) es n)
          → (¬ (Reported (Commute kinds) es n) × (texts_before (calls_commute kinds) text es n ++ text_with text n o ≡ texts_before (calls_commute kinds) text es n))
          ⊎ ((i : ℕ) × IsLatest (Commute kinds) es n i × (texts_before (calls_commute kinds) text es n ++ text_with text n o ≡ texts_before (calls_commute kinds) text es n ++ text n i))
      by None none = inl (none, append-nil (texts_before (calls_commute kinds) text es n))
      by (Some i) is = inr (i, is, refl)

  pub texts_report : (form : Form) (entries : List Entry) → IsReport (Commute kinds) (entries_race form kinds entries) (entry_events kinds entries) (length (entry_events kinds entries)) (race_texts form kinds entries)
  unfolding race_texts
  texts_report form entries = report_before (entries_race form kinds entries) (entry_events kinds entries) (length (entry_events kinds entries))

  -- ---- what a detector answers is what is written

  abbrev pub answer_text : Form → Naming → Option Race → List ℕ
  answer_text form names None = []
  answer_text form names (Some race) = race_in form kinds names (told_by race.later.value) (told_by race.earlier.value)

  module _ (names : Naming) (numbers : List ℕ) (number : ℕ) (es : List Numbered) (call : CallOf) where
    abbrev now : List Numbered
    now = es ++ Call call ∷ []

    text_answered : (form : Form) (answer : Option Race) → IsAnswer kinds (numbers ++ number ∷ []) now (length es) answer → next_text form kinds names numbers number es (Call call) ≡ answer_text form names answer
    unfolding race_at
    text_answered form None none = ap (text_with (race_at form kinds names (numbers ++ number ∷ []) now) (length es)) (latest_none (Commute kinds) (calls_commute kinds) (passing kinds) now (length es) none)
    text_answered form (Some race) (i, latest, is) =
        let all : List ℕ = numbers ++ number ∷ [] in
        let later = witness_told all now is.later is.at_j in
        let earlier = witness_told all now is.earlier is.at_i in
        ap (text_with (race_at form kinds names all now) (length es)) (latest_some (Commute kinds) (calls_commute kinds) (passing kinds) now (length es) i latest)
        ∙ (λ k. calls_text (λ b a. race_in form kinds names (told_at all now (sym is.later_place k) b) (told_at all now (sym is.earlier_place k) a))
        (slice_get now (sym is.later_place k)) (slice_get now (sym is.earlier_place k)))
        ∙ (λ k. calls_text (λ b a. race_in form kinds names (told_at all now is.later.place b) (told_at all now is.earlier.place a)) (is.at_j.call k) (is.at_i.call k))
        ∙ (λ k. race_in form kinds names (sym later k) (sym earlier k))
        ∙ (λ k. race_in form kinds names (told_by (sym is.is.later_is k)) (told_by (sym is.is.earlier_is k)))

    races_answered : (answer : Option Race) → IsAnswer kinds (numbers ++ number ∷ []) now (length es) answer → next_races kinds es (Call call) ≡ cond (is_some answer) 1 0
    races_answered None none = ap (λ o. cond (is_some o) 1 0) (latest_none (Commute kinds) (calls_commute kinds) (passing kinds) now (length es) none)
    races_answered (Some race) answer = ap (λ o. cond (is_some o) 1 0) (latest_some (Commute kinds) (calls_commute kinds) (passing kinds) now (length es) answer.0 answer.1)

    module _ (place : ℕ) (last : place ≡ length es) (answer : Option Race) (is : IsAnswer kinds (numbers ++ number ∷ []) now place answer) where
      at_last : IsAnswer kinds (numbers ++ number ∷ []) now (length es) answer
      at_last = subst (λ p. IsAnswer kinds (numbers ++ number ∷ []) now p answer) last is

      pub next_text_is : (form : Form) → next_text form kinds names numbers number es (Call call) ≡ answer_text form names answer
      next_text_is form = text_answered form answer at_last

      pub next_races_is : next_races kinds es (Call call) ≡ cond (is_some answer) 1 0
      next_races_is = races_answered answer at_last
