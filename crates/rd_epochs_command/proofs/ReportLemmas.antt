-- What `epochs` writes and answers, in the words of accepted lines and of first races.
use Rattle.std.proofs.Common.{◌≡◌, ◌↔◌, inl, inr, ℕ, zero, suc, ◌+◌, ◌<◌, ◌^◌, Bool, true, false, cond, List, [], ◌∷◌, ◌++◌, length, Option, Some, None, is_some, MatchOption, refl, sym, ap, subst, ◌∙◌, arith, true≢false}
use Rattle.std.specs.Prelude.{Contains, flat_map, option_map}
use Rattle.std.specs.List.{AllPairs}
use Rattle.std.proofs.lemmas.Bool.{cases_eq}
use Rattle.std.proofs.lemmas.Grind.{flat_map-append}
use Rattle.std.proofs.lemmas.List.{append-nil, length-append}
use Rattle.std.proofs.lemmas.List.Elements.{All-contains_itself, Contains-append_cases, Contains-append_left, Contains-push}
use Rattle.std.proofs.lemmas.List.Quantifiers.{all_pairs_push}
use Rattle.rd_base.specs.Limits.{AreUsable}
use Rattle.rd_base.specs.declared.limits.Limits.{Limits}
use Rattle.rd_check_command.specs.Checked.{event_numbers, text_with}
use Rattle.rd_ecl.specs.Kinds.{kinds_of}
use Rattle.rd_epoch.proofs.AccessLemmas.{access_within}
use Rattle.rd_epoch.proofs.LineLemmas.{first_or_behind, none_in}
use Rattle.rd_epoch.specs.Accesses.{IsAccess, IsFirstRace, IsReported, variable_kinds}
use Rattle.rd_epochs_command.proofs.FirstLemmas.{first_told, latest_told, raced_if, raced_then}
use Rattle.rd_epochs_command.specs.Firsts.{accesses, epochs_outcome, first_at, first_text, last_line, latest_access, raced_before, first_texts, firsts_before, firsts_of, first_texts_before}
use Rattle.rd_epochs_command.specs.Reports.{AreItemsAccepted, AreFirstRaces, IsEpochsReport, IsMemoryWalk}
use Rattle.rd_epochs_command.specs.Watching.{memory_kinds}
use Rattle.rd_event.specs.declared.events.Event.{Event}
use Rattle.rd_event.specs.declared.items.Line.{Line}
use Rattle.rd_io.specs.Lines.Reading.{stops, line}
use Rattle.rd_io.specs.Lines.{Reading, Stop, reading}
use Rattle.rd_memory.specs.MemoryLines.{MemLineInRange, SaysMemory, memory_line_of}
use Rattle.rd_memory.specs.MemoryTraces.{items_said, memory_says}
use Rattle.rd_memory.specs.declared.lines.MemLine.{MemLine}
use Rattle.rd_order.specs.EventLists.{WellFormedWith}
use Rattle.rd_check_command.proofs.ReportLemmas.{passing}
use Rattle.rd_races.proofs.RaceLemmas.{latest_some}
use Rattle.rd_races.specs.Commuting.{Commute, calls_commute}
use Rattle.rd_races.specs.Races.{IsLatest}
use Rattle.rd_object.specs.declared.shapes.ReplayEnd.TheVariants.{NotShipped}
use Rattle.rd_report.specs.Endings.{check_status, ending_of_report, thread_names}
use Rattle.rd_report.specs.Texts.{races_line}
use Rattle.rd_rules.proofs.EventsLemmas.{accepted_told, told_formed}
use Rattle.rd_rules.proofs.FollowLemmas.{broken_from_some, follows_from_none}
use Rattle.rd_rules.specs.Events.{roots_of}
use Rattle.rd_rules.specs.MayFollow.{first_broken, objects_of}
use Rattle.rd_rules.specs.declared.causes.WfCause.{WfCause}
use Rattle.rd_walk.proofs.AcceptedLemmas.{text_accepted}
use Rattle.rd_walk.specs.Walk.{Entry, Walked, accepted_or, ending_of, entries_of, goes_or_ends, items, items_go, line_goes, trace_by, walk_by}
use Rattle.rd_walk.specs.declared.walk.WalkEnd.{WalkEnd}

-- ---- the lines that are accepted

module _ (limits : Limits) (number : ℕ) (more : List Line → Walked) (GoesOn : List Line → List Entry → WalkEnd → Type 0)
    (later : (behind : List Line) → GoesOn behind (entries_of (more behind)) (ending_of (more behind))) where
  abbrev ItemGoes : List Line → Line → List Line → Option WfCause → Walked
  ItemGoes before item said broken = goes_or_ends number (accepted_or item broken) (λ found. items_go memory_kinds limits number (before ++ found ∷ []) said more)

  items_are : (before said : List Line)
      → AreItemsAccepted limits number before said GoesOn (entries_of (items_go memory_kinds limits number before said more)) (ending_of (items_go memory_kinds limits number before said more))
  unfolding entries_of ending_of
  items_are before [] = later before
  items_are before (item ∷ said) = by (first_broken memory_kinds limits before item) refl (items_are (before ++ item ∷ []) said)
    where
      by : (broken : Option WfCause) → first_broken memory_kinds limits before item ≡ broken
          → AreItemsAccepted limits number (before ++ item ∷ []) said GoesOn (entries_of (items_go memory_kinds limits number (before ++ item ∷ []) said more)) (ending_of (items_go memory_kinds limits number (before ++ item ∷ []) said more))
          → AreItemsAccepted limits number before (item ∷ said) GoesOn (entries_of (ItemGoes before item said broken)) (ending_of (ItemGoes before item said broken))
      by None is rest = inr (follows_from_none memory_kinds limits before item is, (entries_of (items_go memory_kinds limits number (before ++ item ∷ []) said more), refl, rest))
      by (Some cause) is rest = inl (cause, broken_from_some memory_kinds limits before item cause is, refl, refl)

module _ (exactly : (bytes : List ℕ) (said : MemLine) → MemLineInRange said → (SaysMemory bytes said ↔ memory_line_of bytes ≡ Some said))
    (in_range : (bytes : List ℕ) (said : MemLine) → memory_line_of bytes ≡ Some said → MemLineInRange said) (limits : Limits) where
  abbrev Next : ℕ → Reading → List Line → Walked
  Next number more behind = walk_by memory_says memory_kinds limits behind (number + 1) more

  abbrev LineGoes : List Line → ℕ → Reading → Option MemLine → Walked
  LineGoes before number more found = line_goes memory_kinds limits number before (option_map (items_said before) found) (Next number more)

  walk_is : (before : List Line) (number : ℕ) (lines : Reading)
      → IsMemoryWalk limits before number lines (entries_of (walk_by memory_says memory_kinds limits before number lines)) (ending_of (walk_by memory_says memory_kinds limits before number lines))
  unfolding walk_by entries_of ending_of
  walk_is before number (stops end) = (refl, refl)
  walk_is before number (line bytes more) = by (memory_line_of bytes) refl (λ behind. walk_is behind (number + 1) more)
    where
      by : (found : Option MemLine) → memory_line_of bytes ≡ found
          → ((behind : List Line) → IsMemoryWalk limits behind (number + 1) more (entries_of (Next number more behind)) (ending_of (Next number more behind)))
          → IsMemoryWalk limits before number (line bytes more) (entries_of (LineGoes before number more found)) (ending_of (LineGoes before number more found))
      by None is rest = inl (λ said range says. (let e = sym is ∙ (exactly bytes said range).0 says in cc), refl, refl)
      by (Some said) is rest =
          inr (
            said,
            in_range bytes said is,
            (exactly bytes said (in_range bytes said is)).1 is,
            items_are limits number (Next number more) (λ behind later last. IsMemoryWalk limits behind (number + 1) more later last) rest before (items_said before said),
          )

-- ---- the first races

-- those in front of a place
abbrev pub race_at : ℕ → Option ℕ → List (ℕ × ℕ)
race_at place None = []
race_at place (Some earlier) = (place, earlier) ∷ []

abbrev pub races_before : List Event → ℕ → List (ℕ × ℕ)
races_before es zero = []
races_before es (suc place) = races_before es place ++ race_at place (first_at es place)

races_counted : (es : List Event) (n : ℕ) → firsts_before es n ≡ length (races_before es n)
unfolding firsts_before
races_counted es zero = refl
races_counted es (suc n) =
    (λ i. races_counted es n i + cond (is_some (first_at es n)) 1 0) ∙ by (first_at es n)
  where
    by : (o : Option ℕ) → length (races_before es n) + cond (is_some o) 1 0 ≡ length (races_before es n ++ race_at n o)
    by None = omega (arith, length-append (races_before es n) [])
    by (Some i) = sym (length-append (races_before es n) ((n, i) ∷ []))

races_written : (text : ℕ → ℕ → List ℕ) (es : List Event) (n : ℕ) → first_texts_before text es n ≡ flat_map (λ race. text race.0 race.1) (races_before es n)
unfolding first_texts_before
races_written text es zero = refl
races_written text es (suc n) =
    (λ i. races_written text es n i ++ text_with text n (first_at es n)) ∙ by (first_at es n)
  where
    by : (o : Option ℕ) → flat_map (λ race. text race.0 race.1) (races_before es n) ++ text_with text n o ≡ flat_map (λ race. text race.0 race.1) (races_before es n ++ race_at n o)
    by None = sym (flat_map-append (λ race. text race.0 race.1) (races_before es n) [])
    by (Some i) = ap (λ t. flat_map (λ race. text race.0 race.1) (races_before es n) ++ t) (sym (append-nil (text n i)))
        ∙ sym (flat_map-append (λ race. text race.0 race.1) (races_before es n) ((n, i) ∷ []))

races_in : (es : List Event) (n j i : ℕ) → Contains (races_before es n) (j, i) → (j < n) × (first_at es j ≡ Some i)
races_in es zero j i has = none_in (j, i) has
races_in es (suc n) j i has = elim (Contains-append_cases (races_before es n) (race_at n (first_at es n)) (j, i) has) [
  | inl before ↦ let (below, is) = races_in es n j i before in (omega (arith, below), is)
  | inr last ↦ by (first_at es n) refl last
]
  where
    by : (o : Option ℕ) → first_at es n ≡ o → Contains (race_at n o) (j, i) → (j < suc n) × (first_at es j ≡ Some i)
    by None is last = none_in (j, i) last
    by (Some k) is last = elim (first_or_behind (n, k) [] (j, i) last) [
      | inl same ↦
          let place : n ≡ j = ap (λ (race : ℕ × ℕ). race.0) same in
          let earlier : k ≡ i = ap (λ (race : ℕ × ℕ). race.1) same in
          (omega (arith, place), ap (first_at es) (sym place) ∙ is ∙ ap Some earlier)
      | inr none ↦ none_in (j, i) none
    ]

races_have : (es : List Event) (n j i : ℕ) → j < n → first_at es j ≡ Some i → Contains (races_before es n) (j, i)
races_have es zero j i below is = absurd (omega (arith, below))
races_have es (suc n) j i below is = elim (cases_eq j n) [
  | inl last ↦ subst (λ o. Contains (races_before es n ++ race_at n o) (j, i)) (sym (ap (first_at es) (sym last) ∙ is))
      (subst (λ m. Contains (races_before es n ++ (m, i) ∷ []) (j, i)) last (Contains-push (races_before es n) (j, i)))
  | inr other ↦ Contains-append_left (races_before es n) (race_at n (first_at es n)) (j, i) (races_have es n j i (omega (arith, below, other)) is)
]

races_rise : (es : List Event) (n : ℕ) → AllPairs (λ a b. a.0 < b.0) (races_before es n)
races_rise es zero = λ i j d less inside. absurd (omega (arith, inside))
races_rise es (suc n) = by (races_rise es n) (first_at es n)
  where
    by : AllPairs (λ a b. a.0 < b.0) (races_before es n) → (o : Option ℕ) → AllPairs (λ a b. a.0 < b.0) (races_before es n ++ race_at n o)
    by rise None = subst (AllPairs (λ a b. a.0 < b.0)) (sym (append-nil (races_before es n))) rise
    by rise (Some i) = all_pairs_push (λ a b. a.0 < b.0) (races_before es n) (n, i) rise
        (λ k d inside. (races_in es n _ _ (All-contains_itself (races_before es n) k d inside)).0)

module _ (roots : ℕ → Bool) (es : List Event) (formed : WellFormedWith (kinds_of variable_kinds) roots es) where
  abbrev AllRaces : List (ℕ × ℕ)
  AllRaces = races_before es (length es)

  abbrev IsRace : ℕ → ℕ → Type 0
  IsRace j i = (variable : ℕ) × IsFirstRace es variable j × IsLatest (Commute variable_kinds) es j i

  race_is : (j i : ℕ) → first_at es j ≡ Some i → IsRace j i
  race_is j i is = by (first_at es j) (first_told roots es formed j) is
    where
      by : (o : Option ℕ) → MatchOption o (¬ ((variable : ℕ) × IsFirstRace es variable j)) (λ k. IsRace j k) → o ≡ Some i → IsRace j i
      by None none e = cc
      by (Some k) race e = let same : k ≡ i = cc in subst (IsRace j) same race

  is_race : (j i : ℕ) → IsRace j i → first_at es j ≡ Some i
  is_race j i (variable, first, latest) = by (first_at es j) (first_told roots es formed j)
    where
      by : (o : Option ℕ) → MatchOption o (¬ ((variable : ℕ) × IsFirstRace es variable j)) (λ k. IsRace j k) → o ≡ Some i
      by None none = absurd (none (variable, first))
      by (Some k) (other, one, also) =
          let found = latest_some (Commute variable_kinds) (calls_commute variable_kinds) (passing variable_kinds) es j in
          sym (found k also) ∙ found i latest

  -- of the reported accesses to a variable there is a first one
  least : (variable n : ℕ) → (w : Bool) → IsAccess es variable w n → IsReported es n → (fuel : ℕ) → n < fuel → (j : ℕ) × IsFirstRace es variable j
  least variable n w access reported zero below = absurd (omega (arith, below))
  least variable n w access reported (suc fuel) below =
      by (λ k x before other also. least variable k x other also fuel (omega (arith, before, below))) (raced_before es variable n) refl
    where
      by : ((k : ℕ) (x : Bool) → k < n → IsAccess es variable x k → IsReported es k → (j : ℕ) × IsFirstRace es variable j)
          → (b : Bool) → raced_before es variable n ≡ b → (j : ℕ) × IsFirstRace es variable j
      by earlier true is =
          let (x, k, before, other, also) = raced_then roots es formed variable n is in
          earlier k x before other also
      by earlier false is = (
        n,
        record {
          write = w;
          at = access;
          reported = reported;
          first = λ x k before other also. absurd (true≢false (sym (raced_if roots es formed variable n (x, k, before, other, also)) ∙ is));
        },
      )

  pub first_races : AreFirstRaces es AllRaces
  first_races = record {
    each = λ j i. (
      λ has. race_is j i (races_in es (length es) j i has).1,
      λ race. races_have es (length es) j i (access_within es race.0 race.1.write j race.1.at) (is_race j i race),
    );
    rising = races_rise es (length es);
    every = λ variable raced.
        let (w, k, access, reported) = raced in
        let (j, first) = least variable k w access reported (k + 1) (omega arith) in
        let (i, racing) = first.reported in
        by_latest variable j first (latest_access es j) (latest_told es j);
  }
    where
      by_latest : (variable j : ℕ) → IsFirstRace es variable j → (o : Option ℕ) → MatchOption o (¬ (IsReported es j)) (IsLatest (Commute variable_kinds) es j)
          → (j : ℕ) × (i : ℕ) × Contains AllRaces (j, i) × IsFirstRace es variable j
      by_latest variable j first None none = absurd (none first.reported)
      by_latest variable j first (Some i) latest =
          (j, i, races_have es (length es) j i (access_within es variable first.write j first.at) (is_race j i (variable, first, latest)), first)

pub epochs_report : (exactly : (bytes : List ℕ) (said : MemLine) → MemLineInRange said → (SaysMemory bytes said ↔ memory_line_of bytes ≡ Some said))
    → (in_range : (bytes : List ℕ) (said : MemLine) → memory_line_of bytes ≡ Some said → MemLineInRange said)
    → (limits : Limits) → AreUsable limits → limits.threads < 2 ^ 32 → (stop : Stop) (bytes : List ℕ)
    → IsEpochsReport limits stop bytes (epochs_outcome (trace_by memory_says memory_kinds limits stop bytes))
unfolding trace_by first_texts firsts_of
epochs_report exactly in_range limits usable range stop bytes =
    let walked = trace_by memory_says memory_kinds limits stop bytes in
    let entries = entries_of walked in
    let es = accesses entries in
    let formed = told_formed memory_kinds (items entries) (accepted_told memory_kinds (items entries) (text_accepted memory_says memory_kinds limits usable range stop bytes)) in
    let count = races_counted es (length es) in
    let text = first_text (objects_of (items entries)) (event_numbers entries) es in record {
      entries = entries;
      ending = ending_of walked;
      walk = walk_is exactly in_range limits [] 1 (reading limits.line limits.bytes stop bytes);
      formed = formed;
      races = races_before es (length es);
      are = first_races (roots_of (items entries)) es formed;
      text = λ i. races_written text es (length es) i ++ (races_line (count i) ++ last_line (thread_names entries) (ending_of walked));
      status = λ i. check_status (count i) (ending_of_report (count i) NotShipped (ending_of walked));
    }
