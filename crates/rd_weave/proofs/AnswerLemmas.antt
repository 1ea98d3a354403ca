-- What answers say.
use Rattle.std.proofs.Common.{◌≡◌, ◌≢◌, ◌⊎◌, inl, inr, ℕ, zero, suc, ◌+◌, ◌-◌, ◌<◌, ◌==◌, Bool, true, false, if◌then◌else◌, List, [], ◌∷◌, length, map, fold, get_or, replicate, Some, Result, Ok, Err, slice_get, refl, sym, ap, ◌∙◌, subst, arith, true≢false}
use Rattle.std.specs.List.{range_with_len, sum_by}
use Rattle.std.proofs.lemmas.Bool.{eqb-true, eq-eqb}
use Rattle.std.proofs.lemmas.Option.{same_Some}
use Rattle.std.proofs.lemmas.List.{length-map}
use Rattle.rd_ecl.specs.Kinds.{Kind}
use Rattle.rd_event.specs.declared.items.Line.{Line}
use Rattle.rd_logs.specs.WholeLogs.{LogRecord, log_of}
use Rattle.rd_numbered_logs.specs.LogNames.{have_own_names, log_names}
use Rattle.rd_numbered_logs.specs.LogsUnder.{log_under, logs_under, noted_under, thread_logs}
use Rattle.rd_rules.specs.MayFollow.{place}
use Rattle.rd_weave.specs.Answers.{BadLine, WeaveAnswer, answer_by, events_of_log, log_then, records_answer, records_from, records_of, woven_lines, woven_spots}
use Rattle.rd_weave.specs.Answers.WeaveAnswer.{Bad, Stuck, Woven}
use Rattle.rd_weave.specs.Woven.{IsWovenFrom}
use Rattle.rd_weavings.specs.declared.spots.Spot.{Spot}
use Rattle.rd_weavings.specs.Logs.{AreLogs, given, log_at, no_log}
use Rattle.rd_weavings.specs.Weavings.{HaveOwnThreads, IsWeaving}
use Rattle.rd_weavings.specs.WeaveTests.{counts_of, turns_left, woven_first}

-- ---- how many events a log has, whatever the kinds

pub events_under : (kinds : List Kind) (logs : List LogRecord) (l : ℕ) → length (log_at (logs_under kinds logs) l).events ≡ length (events_of_log logs l)
events_under kinds logs l = by logs l
  where
    by : (xs : List LogRecord) (l : ℕ) → length (get_or (map (log_under kinds logs (log_names logs)) xs) l no_log).events ≡ length (get_or (map (λ one. one.events) xs) l [])
    by [] l = refl
    by (x ∷ xs) zero = length-map x.events (noted_under kinds logs (log_names logs) (place (log_names logs).threads x.thread))
    by (x ∷ xs) (suc l) = by xs l

fold_same : (f g : ℕ → ℕ) → ((l : ℕ) → f l ≡ g l) → (n : ℕ) (xs : List ℕ) → fold (λ a x. a + f x) n xs ≡ fold (λ a x. a + g x) n xs
fold_same f g same n [] = refl
fold_same f g same n (x ∷ xs) = ap (λ m. fold (λ a x. a + f x) (n + m) xs) (same x) ∙ fold_same f g same (n + g x) xs

sum_same : (f g : ℕ → ℕ) → ((l : ℕ) → f l ≡ g l) → (xs : List ℕ) → sum_by f xs ≡ sum_by g xs
sum_same f g same xs = fold_same f g same 0 xs

pub left_under : (kinds : List Kind) (logs : List LogRecord) (spots : List Spot)
    → turns_left (logs_under kinds logs) spots ≡ sum_by (λ l. length (events_of_log logs l) - given spots l) (range_with_len 0 (length logs))
left_under kinds logs spots =
    sum_same _ _ (λ l. ap (λ n. n - given spots l) (events_under kinds logs l)) (range_with_len 0 (length (thread_logs kinds logs)))
    ∙ ap (λ n. sum_by (λ l. length (events_of_log logs l) - given spots l) (range_with_len 0 n)) (length-map logs (log_under kinds logs (log_names logs)))

-- ---- which answer it is

abbrev is_bad : WeaveAnswer → Bool
is_bad (Bad bad) = true
is_bad _ = false

abbrev is_stuck : WeaveAnswer → Bool
is_stuck (Stuck counts) = true
is_stuck _ = false

abbrev is_woven : WeaveAnswer → Bool
is_woven (Woven lines) = true
is_woven _ = false

abbrev lines_in : WeaveAnswer → List Line
lines_in (Woven lines) = lines
lines_in _ = []

abbrev bad_in : WeaveAnswer → BadLine → BadLine
bad_in (Bad bad) other = bad
bad_in _ other = other

module _ (logs : List LogRecord) where
  abbrev left : ℕ
  left = turns_left (logs_under [] logs) (woven_spots logs)

  -- the lines of a weaving
  pub woven_is : (lines : List Line) → records_answer logs ≡ Woven lines → (have_own_names logs ≡ true) × (left ≡ 0) × (lines ≡ woven_lines logs (woven_spots logs))
  woven_is lines is = by (have_own_names logs) (left == 0) refl refl is
    where
      by : (own none : Bool) → have_own_names logs ≡ own → (left == 0) ≡ none
          → (if own then (if none then Woven (woven_lines logs (woven_spots logs)) else Stuck (counts_of (logs_under [] logs) (woven_spots logs))) else Stuck (replicate (length logs) 0)) ≡ Woven lines
          → (have_own_names logs ≡ true) × (left ≡ 0) × (lines ≡ woven_lines logs (woven_spots logs))
      by true true own none is = (own, eqb-true left 0 none, sym (ap lines_in is))
      by true false own none is = absurd (true≢false (sym (ap is_woven is)))
      by false none own _ is = absurd (true≢false (sym (ap is_woven is)))

  -- stuck
  pub stuck_is : (counts : List ℕ) → records_answer logs ≡ Stuck counts → (have_own_names logs ≡ false) ⊎ (left ≢ 0)
  stuck_is counts is = by (have_own_names logs) (left == 0) refl refl is
    where
      by : (own none : Bool) → have_own_names logs ≡ own → (left == 0) ≡ none
          → (if own then (if none then Woven (woven_lines logs (woven_spots logs)) else Stuck (counts_of (logs_under [] logs) (woven_spots logs))) else Stuck (replicate (length logs) 0)) ≡ Stuck counts
          → (have_own_names logs ≡ false) ⊎ (left ≢ 0)
      by true true own none is = absurd (true≢false (ap is_woven is))
      by true false own none is = inr (λ zero. true≢false (sym (eq-eqb left 0 zero) ∙ none))
      by false none own _ is = inl own

  never_bad : (bad : BadLine) → records_answer logs ≢ Bad bad
  never_bad bad is = by (have_own_names logs) (left == 0) is
    where
      by : (own none : Bool)
          → (if own then (if none then Woven (woven_lines logs (woven_spots logs)) else Stuck (counts_of (logs_under [] logs) (woven_spots logs))) else Stuck (replicate (length logs) 0)) ≡ Bad bad → ⊥
      by true true is = true≢false (sym (ap is_bad is))
      by true false is = true≢false (sym (ap is_bad is))
      by false none is = true≢false (sym (ap is_bad is))

-- an answer by what was read
pub woven_by : (read : Result (List LogRecord) BadLine) (lines : List Line) → answer_by read ≡ Woven lines → (logs : List LogRecord) × (read ≡ Ok logs) × (records_answer logs ≡ Woven lines)
woven_by (Ok logs) lines is = (logs, refl, is)
woven_by (Err bad) lines is = absurd (true≢false (sym (ap is_woven is)))

pub stuck_by : (read : Result (List LogRecord) BadLine) (counts : List ℕ) → answer_by read ≡ Stuck counts → (logs : List LogRecord) × (read ≡ Ok logs) × (records_answer logs ≡ Stuck counts)
stuck_by (Ok logs) counts is = (logs, refl, is)
stuck_by (Err bad) counts is = absurd (true≢false (sym (ap is_stuck is)))

pub bad_by : (read : Result (List LogRecord) BadLine) (bad : BadLine) → answer_by read ≡ Bad bad → read ≡ Err bad
bad_by (Ok logs) bad is = absurd (never_bad logs bad is)
bad_by (Err own) bad is = ap Err (ap (λ answer. bad_in answer own) is)

-- ---- what the laws below say of an answer

module _ (logs : List LogRecord) (own : (kinds : List Kind) → AreLogs (logs_under kinds logs)) (threads : (kinds : List Kind) → have_own_names logs ≡ true → HaveOwnThreads (logs_under kinds logs))
    (turns : (kinds : List Kind) → woven_first (logs_under [] logs) ≡ woven_first (logs_under kinds logs)) where
  same_left : (kinds : List Kind) → left logs ≡ turns_left (logs_under kinds logs) (woven_first (logs_under kinds logs))
  same_left kinds = left_under [] logs (woven_spots logs) ∙ sym (left_under kinds logs (woven_spots logs)) ∙ ap (turns_left (logs_under kinds logs)) (turns kinds)

  pub woven_under : ((kinds : List Kind) → AreLogs (logs_under kinds logs) → HaveOwnThreads (logs_under kinds logs) → turns_left (logs_under kinds logs) (woven_first (logs_under kinds logs)) ≡ 0
      → IsWeaving (logs_under kinds logs) (woven_first (logs_under kinds logs))) → have_own_names logs ≡ true → left logs ≡ 0 → (kinds : List Kind) → IsWovenFrom kinds logs (woven_spots logs)
  woven_under whole names none kinds = record {
    own = names;
    weaves = subst (IsWeaving (logs_under kinds logs)) (sym (turns kinds)) (whole kinds (own kinds) (threads kinds names) (sym (same_left kinds) ∙ none));
  }

  pub none_under : ((kinds : List Kind) → AreLogs (logs_under kinds logs) → turns_left (logs_under kinds logs) (woven_first (logs_under kinds logs)) ≢ 0 → (spots : List Spot) → ¬ (IsWeaving (logs_under kinds logs) spots))
      → (have_own_names logs ≡ false) ⊎ (left logs ≢ 0) → (kinds : List Kind) (spots : List Spot) → ¬ (IsWovenFrom kinds logs spots)
  none_under stuck (inl twice) kinds spots woven = true≢false (sym woven.own ∙ twice)
  none_under stuck (inr some) kinds spots woven = stuck kinds (own kinds) (λ zero. some (same_left kinds ∙ zero)) spots woven.weaves

-- ---- the first bad line

abbrev IsFirstBad : ℕ → List (List ℕ) → BadLine → Type 0
IsFirstBad number texts bad = (l : ℕ) × (bad.log ≡ number + l) × (text : List ℕ) × (slice_get texts l ≡ Some text) × (log_of text ≡ Err bad.line)
    × ((k : ℕ) (before : List ℕ) → k < l → slice_get texts k ≡ Some before → (log : LogRecord) × (log_of before ≡ Ok log))

abbrev ok_in : {A B : Type 0} → Result A B → Bool
ok_in (Ok x) = true
ok_in (Err e) = false

abbrev err_in : {A B : Type 0} → Result A B → B → B
err_in (Ok x) other = other
err_in (Err e) other = e

first_bad_from : (number : ℕ) (texts : List (List ℕ)) (bad : BadLine) → records_from number texts ≡ Err bad → IsFirstBad number texts bad
unfolding records_from
first_bad_from number [] bad is = absurd (true≢false (ap ok_in is))
first_bad_from number (text ∷ texts) bad is = by (log_of text) (records_from (number + 1) texts) refl refl is (first_bad_from (number + 1) texts)
  where
    by : (one : Result LogRecord ℕ) (more : Result (List LogRecord) BadLine) → log_of text ≡ one → records_from (number + 1) texts ≡ more → log_then number one more ≡ Err bad
        → ((bad : BadLine) → records_from (number + 1) texts ≡ Err bad → IsFirstBad (number + 1) texts bad) → IsFirstBad number (text ∷ texts) bad
    by (Err own) more one_is more_is is rest =
        let same : record { log = number; line = own } ≡ bad = ap (λ r. err_in r (record { log = number; line = own })) is in
        (0, (ap (λ (b : BadLine). b.log) (sym same) ∙ omega arith), text, refl, one_is ∙ ap Err (ap (λ (b : BadLine). b.line) same), λ k before less at. absurd (omega (arith, less)))
    by (Ok log) (Ok logs) one_is more_is is rest = absurd (true≢false (ap ok_in is))
    by (Ok log) (Err own) one_is more_is is rest =
        let same : own ≡ bad = ap (λ r. err_in r own) is in
        let (l, place, own_text, at, says, before) = rest bad (more_is ∙ ap Err same) in
        (suc l, (omega (arith, place)), own_text, at, says, earlier l before)
      where
        earlier : (l : ℕ) → ((k : ℕ) (before : List ℕ) → k < l → slice_get texts k ≡ Some before → (log : LogRecord) × (log_of before ≡ Ok log))
            → (k : ℕ) (before : List ℕ) → k < suc l → slice_get (text ∷ texts) k ≡ Some before → (log : LogRecord) × (log_of before ≡ Ok log)
        earlier l rest zero before less at = (log, ap log_of (sym (same_Some text before at)) ∙ one_is)
        earlier l rest (suc k) before less at = rest k before (omega (arith, less)) at

pub first_bad : (texts : List (List ℕ)) (bad : BadLine) → records_of texts ≡ Err bad
    → (text : List ℕ) × (slice_get texts bad.log ≡ Some text) × (log_of text ≡ Err bad.line)
    × ((l : ℕ) (before : List ℕ) → l < bad.log → slice_get texts l ≡ Some before → (log : LogRecord) × (log_of before ≡ Ok log))
first_bad texts bad is =
    let (l, place, text, at, says, before) = first_bad_from 0 texts bad is in
    let same : bad.log ≡ l = omega (arith, place) in
    (text, ap (slice_get texts) same ∙ at, says, λ k own less own_at. before k own (omega (arith, less, same)) own_at)
