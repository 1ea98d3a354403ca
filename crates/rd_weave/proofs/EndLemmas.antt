-- What the turns leave, and the answer.
use Rattle.std.proofs.Common.{◌≡◌, ◌≢◌, inl, inr, ℕ, zero, suc, ◌+◌, ◌-◌, ◌^◌, ◌<◌, ◌≤◌, Bool, true, false, if◌then◌else◌, List, [], ◌∷◌, ◌++◌, length, map, take, get_or, Some, slice_get, refl, sym, ap, ap₂, ◌∙◌, subst, arith}
use Rattle.std.specs.List.{range_with_len, sum_by}
use Rattle.std.proofs.lemmas.Bool.{cases_eq, eq-eqb, ne_eqb}
use Rattle.std.proofs.lemmas.List.{length-map}
use Rattle.std.proofs.lemmas.List.FromFn.{get_or-map-range_with_len}
use Rattle.std.proofs.lemmas.List.Sums.{sum_by-cons}
use Rattle.std.proofs.lemmas.Option.{none-some, same_Some}
use Rattle.rd_event.specs.declared.items.Line.TheVariants.{Header, Thread}
use Rattle.rd_logs.specs.declared.whole.ReadLog.{ReadLog}
use Rattle.rd_logs.specs.WholeLogs.{LogRecord, record_of}
use Rattle.rd_numbered_logs.specs.LogNames.{have_own_names, log_names}
use Rattle.rd_numbered_logs.specs.LogsUnder.{log_under, logs_under}
use Rattle.rd_numbered_logs.proofs.LogLemmas.{got_below}
use Rattle.rd_turns.specs.declared.logs.NumberedLogs.{NumberedLogs}
use Rattle.rd_turns.specs.declared.logs.ThreadSteps.{ThreadSteps}
use Rattle.rd_turns.specs.NumberedLogs.{AreInRange, logs_by_numbers, noted_step, thread_log}
use Rattle.rd_weave.specs.Answers.{placed_lines, events_of_log, object_lines, records_answer, root_lines, woven_lines, woven_spots}
use Rattle.rd_weave.specs.Answers.WeaveAnswer.{Stuck, Woven}
use Rattle.rd_weave.proofs.AnswerLemmas.{events_under, left_under}
use Rattle.rd_weavings.specs.declared.spots.Spot.{Spot}
use Rattle.rd_weavings.specs.Alike.{AreAlike}
use Rattle.rd_weavings.specs.Logs.{IsSpot, Logs, given, no_log}
use Rattle.rd_weavings.specs.WeaveTests.{counts_of, turns_left, woven_first}

-- ---- sums

sum_none : (f : ℕ → ℕ) (a n : ℕ) → sum_by f (range_with_len a n) ≡ 0 → (l : ℕ) → a ≤ l → l < a + n → f l ≡ 0
sum_none f a zero gone l from below = absurd (omega arith)
sum_none f a (suc n) gone l from below = elim (cases_eq a l) [
  | inl same ↦ subst (λ l. f l ≡ 0) same (omega (arith, gone, sum_by-cons f a (range_with_len (a + 1) n)))
  | inr differ ↦ sum_none f (a + 1) n (omega (arith, gone, sum_by-cons f a (range_with_len (a + 1) n))) l (omega arith) (omega arith)
]

sum_zero : (f : ℕ → ℕ) (a n : ℕ) → ((l : ℕ) → a ≤ l → l < a + n → f l ≡ 0) → sum_by f (range_with_len a n) ≡ 0
sum_zero f a zero gone = refl
sum_zero f a (suc n) gone =
    omega (arith, gone a (omega arith) (omega arith), sum_zero f (a + 1) n (λ l from below. gone l (omega arith) (omega arith)), sum_by-cons f a (range_with_len (a + 1) n))

-- ---- roots

roots_alike : (one other : ℕ → Bool) → ((t : ℕ) → one t ≡ other t) → (number : ℕ) (logs : List LogRecord) → root_lines one number logs ≡ root_lines other number logs
roots_alike one other same number [] = refl
roots_alike one other same number (log ∷ logs) =
    ap₂ (λ b lines. if b then Thread log.thread ∷ lines else lines) (same number) (roots_alike one other same (number + 1) logs)

-- ---- the spots of the turns

abbrev pub AreNext : Logs → Type 0
AreNext all = (s : Spot) (j : ℕ) → slice_get (woven_first all) j ≡ Some s → IsSpot all s × (s.log < length all.logs) × (s.place ≡ given (take j (woven_first all)) s.log)

module _ (n : NumberedLogs) (logs : List LogRecord) (spots : List Spot) (are : spots ≡ woven_first (logs_by_numbers n)) (same : woven_first (logs_by_numbers n) ≡ woven_first (logs_under [] logs)) where
  are_woven : spots ≡ woven_spots logs
  are_woven = are ∙ same

  module _ (next : AreNext (logs_under [] logs)) where
    own_log : (j : ℕ) (s : Spot) → slice_get spots j ≡ Some s → s.log < length logs
    own_log j s at = subst (λ k. s.log < k) (length-map logs (log_under [] logs (log_names logs))) (next s j (ap (λ l. slice_get l j) (sym are_woven) ∙ at)).1

    own_place : (j : ℕ) (s : Spot) → slice_get spots j ≡ Some s → s.place ≡ given (take j spots) s.log
    own_place j s at = (next s j (ap (λ l. slice_get l j) (sym are_woven) ∙ at)).2 ∙ ap (λ l. given (take j l) s.log) (sym are_woven)

    own_event : (j : ℕ) (s : Spot) → slice_get spots j ≡ Some s → s.place < length (events_of_log logs s.log)
    own_event j s at = subst (λ k. s.place < k) (events_under [] logs s.log) (next s j (ap (λ l. slice_get l j) (sym are_woven) ∙ at)).0

    pub lines_need : (j : ℕ) (s : Spot) → slice_get spots j ≡ Some s → (s.place ≡ given (take j spots) s.log) × (s.place < length (events_of_log logs s.log))
    lines_need j s at = (own_place j s at, own_event j s at)

    pub counts_need : AreNext (logs_by_numbers n) → AreInRange n → (count : ℕ) → count ≡ length logs
        → (j : ℕ) (s : Spot) → slice_get spots j ≡ Some s → (s.log < count) × (s.place ≡ given (take j spots) s.log) × (s.place + 1 < 2 ^ 32)
    counts_need next_n range count counts j s at =
        let spot = next_n s j (ap (λ l. slice_get l j) (sym are) ∙ at) in
        let (steps, at_log) = got_below n.logs.items s.log (subst (λ k. s.log < k) (length-map n.logs.items thread_log) spot.1) in
        let few = (range.each s.log steps at_log).few in
        let inside : s.place < length steps.steps.items = subst (λ k. s.place < k) (events_read n.logs.items s.log steps at_log) spot.0 in (
          subst (λ k. s.log < k) (sym counts) (own_log j s at),
          own_place j s at,
          omega (arith, few, inside),
        )
      where
        events_read : (xs : List ThreadSteps) (l : ℕ) (steps : ThreadSteps) → slice_get xs l ≡ Some steps → length (get_or (map thread_log xs) l no_log).events ≡ length steps.steps.items
        events_read [] l steps at = absurd (none-some steps at)
        events_read (x ∷ xs) zero steps at = length-map x.steps.items (noted_step x.thread) ∙ ap (λ (y : ThreadSteps). length y.steps.items) (same_Some x steps at)
        events_read (x ∷ xs) (suc l) steps at = events_read xs l steps at

  -- ---- the answer

  abbrev left : ℕ
  left = turns_left (logs_under [] logs) (woven_spots logs)

  left_is : left ≡ sum_by (λ l. length (events_of_log logs l) - given spots l) (range_with_len 0 (length logs))
  left_is = ap (turns_left (logs_under [] logs)) (sym are_woven) ∙ left_under [] logs spots

  module _ (own : have_own_names logs ≡ true) (counts : List ℕ) (count : ℕ) (counted : counts ≡ map (given spots) (range_with_len 0 count)) (count_is : count ≡ length logs) where
    count_at : (l : ℕ) → l < length logs → get_or counts l 0 ≡ given spots l
    count_at l below = ap (λ c. get_or c l 0) counted ∙ get_or-map-range_with_len (given spots) 0 count l l 0 (omega (arith, below, count_is)) (omega arith)

    pub answers_stuck : (l : ℕ) × (l < length logs) × (get_or counts l 0 < length (events_of_log logs l)) → records_answer logs ≡ Stuck counts
    answers_stuck (l, below, less) =
        let some : left ≢ 0 = λ zero.
        let none = sum_none (λ l. length (events_of_log logs l) - given spots l) 0 (length logs) (sym left_is ∙ zero) l (omega arith) (omega (arith, below)) in
        let here = count_at l below in
        absurd (omega (arith, none, here, less)) in
        rw (own, ne_eqb left 0 some) (ap Stuck (ap (counts_of (logs_under [] logs)) (sym are_woven)
        ∙ ap (λ k. map (given spots) (range_with_len 0 k)) (length-map logs (log_under [] logs (log_names logs)) ∙ sym count_is) ∙ sym counted))

    pub answers_woven : ((l : ℕ) → l < length logs → length (events_of_log logs l) ≤ get_or counts l 0) → records_answer logs ≡ Woven (woven_lines logs spots)
    answers_woven fits =
        let none : left ≡ 0 = left_is ∙ sum_zero (λ l. length (events_of_log logs l) - given spots l) 0 (length logs) (λ l from below.
        let inside : l < length logs = omega (arith, below) in
        omega (arith, fits l inside, count_at l inside)) in
        rw (own, eq-eqb left 0 none) (ap (λ s. Woven (woven_lines logs s)) (sym are_woven))

-- the lines, with the roots as they are marked
pub lines_alike : (n : NumberedLogs) (logs : List LogRecord) (spots : List Spot) → AreAlike (logs_by_numbers n) (logs_under [] logs)
    → Header 1 ∷ root_lines (λ thread. get_or n.roots.items thread false) 0 logs ++ object_lines logs ++ placed_lines logs spots ≡ woven_lines logs spots
lines_alike n logs spots alike =
    ap (λ lines. Header 1 ∷ lines ++ object_lines logs ++ placed_lines logs spots) (roots_alike (λ thread. get_or n.roots.items thread false) (logs_under [] logs).roots alike.roots 0 logs)

-- the same said of lists that are equal
pub some_left : (one other : List ReadLog) (counts told : List ℕ) → one ≡ other → counts ≡ told
    → (l : ℕ) × (l < length one) × (get_or counts l 0 < length (events_of_log (map record_of one) l))
    → (l : ℕ) × (l < length (map record_of other)) × (get_or told l 0 < length (events_of_log (map record_of other) l))
some_left one other counts told same is (l, below, less) = (
  l,
  subst (λ k. l < k) (ap length same ∙ sym (length-map other record_of)) below,
  subst (λ c. get_or c l 0 < length (events_of_log (map record_of other) l)) is (subst (λ (logs : List ReadLog). get_or counts l 0 < length (events_of_log (map record_of logs) l)) same less),
)

pub none_left : (one other : List ReadLog) (counts told : List ℕ) → one ≡ other → counts ≡ told
    → ((l : ℕ) → l < length one → length (events_of_log (map record_of one) l) ≤ get_or counts l 0)
    → (l : ℕ) → l < length (map record_of other) → length (events_of_log (map record_of other) l) ≤ get_or told l 0
none_left one other counts told same is fits l below =
    let inside : l < length one = subst (λ k. l < k) (length-map other record_of ∙ ap length (sym same)) below in
    subst (λ c. length (events_of_log (map record_of other) l) ≤ get_or c l 0) is (subst (λ (logs : List ReadLog). length (events_of_log (map record_of logs) l) ≤ get_or counts l 0) same (fits l inside))
