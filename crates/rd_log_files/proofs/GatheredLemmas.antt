-- The limits that logs pass, one line and one log after another.
use Rattle.std.proofs.Common.{◌≡◌, ℕ, ◌+◌, ◌≤◌, Bool, true, false, List, [], ◌∷◌, ◌++◌, length, Option, Some, None, Result, Ok, Err, refl, sym, ap, ◌∙◌, arith}
use Rattle.std.specs.Prelude.{nat_le}
use Rattle.rd_base.specs.declared.limits.LimitName.{LimitName}
use Rattle.rd_base.specs.declared.limits.LimitName.TheVariants.{Events}
use Rattle.rd_base.specs.declared.limits.Limits.{Limits}
use Rattle.rd_event.specs.Items.{is_skipped}
use Rattle.rd_io.specs.Lines.{LinesEnding, Reading}
use Rattle.rd_io.specs.Lines.LinesEnding.{at_end, no_final_newline, line_too_long, bytes_limit, faulted}
use Rattle.rd_io.specs.Lines.Reading.{stops, line}
use Rattle.rd_log_files.specs.Gathered.{counted_lines, counted_log, ended_log, first_limit_from, passed_or}
use Rattle.rd_log_files.specs.declared.unread.LogLimit.{LogLimit}

-- ---- one log

pub counted_stops : (limits : Limits) (log events number : ℕ) (ending : LinesEnding) → counted_lines limits log events number (stops ending) ≡ ended_log limits log events number ending
unfolding counted_lines
counted_stops limits log events number ending = refl

pub counted_skipped : (limits : Limits) (log events number : ℕ) (bytes : List ℕ) (more : Reading) → is_skipped bytes ≡ true
    → counted_lines limits log events number (line bytes more) ≡ counted_lines limits log events (number + 1) more
unfolding counted_lines
counted_skipped limits log events number bytes more skipped = rw skipped refl

pub counted_one : (limits : Limits) (log events number : ℕ) (bytes : List ℕ) (more : Reading) → is_skipped bytes ≡ false → nat_le limits.events events ≡ false
    → counted_lines limits log events number (line bytes more) ≡ counted_lines limits log (events + 1) (number + 1) more
unfolding counted_lines
counted_one limits log events number bytes more kept fits = rw (kept, fits) refl

pub counted_past : (limits : Limits) (log events number : ℕ) (bytes : List ℕ) (more : Reading) → is_skipped bytes ≡ false → nat_le limits.events events ≡ true
    → counted_lines limits log events number (line bytes more) ≡ Err (record { log = log; line = number; name = Events; number = limits.events })
unfolding counted_lines
counted_past limits log events number bytes more kept past = rw (kept, past) refl

-- a limit is passed at the line that is read next, or behind it, of this log
abbrev PassedBehind : ℕ → ℕ → LogLimit → Type 0
PassedBehind log number passed = (number ≤ passed.line) × (passed.log ≡ log)

err_is : (a b : LogLimit) → ◌≡◌ {A = Result ℕ LogLimit} (Err a) (Err b) → a ≡ b
err_is a b e = cc

pub ok_is_no_err : (n : ℕ) (b : LogLimit) → ◌≡◌ {A = Result ℕ LogLimit} (Ok n) (Err b) → ⊥
ok_is_no_err n b e = cc

at_line : (log number : ℕ) (name : LimitName) (most : ℕ) (passed : LogLimit)
    → ◌≡◌ {A = Result ℕ LogLimit} (Err (record { log = log; line = number; name = name; number = most })) (Err passed) → PassedBehind log number passed
at_line log number name most passed is =
    let same = err_is (record { log = log; line = number; name = name; number = most }) passed is in
    (omega (arith, ap (λ (p : LogLimit). p.line) same), sym (ap (λ (p : LogLimit). p.log) same))

passed_at_end : (limits : Limits) (log events number : ℕ) (ending : LinesEnding) (passed : LogLimit) → ended_log limits log events number ending ≡ Err passed
    → PassedBehind log number passed
passed_at_end limits log events number at_end passed is = absurd (ok_is_no_err events passed is)
passed_at_end limits log events number no_final_newline passed is = absurd (ok_is_no_err events passed is)
passed_at_end limits log events number faulted passed is = absurd (ok_is_no_err events passed is)
passed_at_end limits log events number line_too_long passed is = at_line log number _ _ passed is
passed_at_end limits log events number bytes_limit passed is = at_line log number _ _ passed is

-- by what the next line does, where the lines behind it are known to
line_passed : (limits : Limits) (log events number : ℕ) (bytes : List ℕ) (more : Reading) (passed : LogLimit)
    → ((events : ℕ) → counted_lines limits log events (number + 1) more ≡ Err passed → PassedBehind log (number + 1) passed)
    → (skipped past : Bool) → is_skipped bytes ≡ skipped → nat_le limits.events events ≡ past → counted_lines limits log events number (line bytes more) ≡ Err passed
    → PassedBehind log number passed
line_passed limits log events number bytes more passed behind true past s p is =
    let (further, of_log) = behind events (sym (counted_skipped limits log events number bytes more s) ∙ is) in (omega (arith, further), of_log)
line_passed limits log events number bytes more passed behind false false s p is =
    let (further, of_log) = behind (events + 1) (sym (counted_one limits log events number bytes more s p) ∙ is) in (omega (arith, further), of_log)
line_passed limits log events number bytes more passed behind false true s p is =
    at_line log number Events limits.events passed (sym (counted_past limits log events number bytes more s p) ∙ is)

pub passed_behind : (limits : Limits) (log events number : ℕ) (lines : Reading) (passed : LogLimit) → counted_lines limits log events number lines ≡ Err passed
    → PassedBehind log number passed
passed_behind limits log events number (stops ending) passed is =
    passed_at_end limits log events number ending passed (sym (counted_stops limits log events number ending) ∙ is)
passed_behind limits log events number (line bytes more) passed is =
    line_passed limits log events number bytes more passed (λ n so. passed_behind limits log n (number + 1) more passed so) (is_skipped bytes) (nat_le limits.events events) refl refl is

-- ---- logs

pub first_none : (limits : Limits) (log events : ℕ) → first_limit_from limits log events [] ≡ None
unfolding first_limit_from
first_none limits log events = refl

pub first_more : (limits : Limits) (log events : ℕ) (bytes : List ℕ) (logs : List (List ℕ))
    → first_limit_from limits log events (bytes ∷ logs) ≡ passed_or (counted_log limits log events bytes) (λ more. first_limit_from limits (log + 1) more logs)
unfolding first_limit_from
first_more limits log events bytes logs = refl

pub some_is : (a b : LogLimit) → Some a ≡ Some b → a ≡ b
some_is a b e = cc

pub none_is_no_limit : (passed : LogLimit) → ◌≡◌ {A = Option LogLimit} None (Some passed) → ⊥
none_is_no_limit passed e = cc

or_behind : (counted : Result ℕ LogLimit) (first behind : ℕ → Option LogLimit) (passed : LogLimit) → ((n : ℕ) → first n ≡ Some passed → behind n ≡ Some passed)
    → passed_or counted first ≡ Some passed → passed_or counted behind ≡ Some passed
or_behind (Ok n) first behind passed on is = on n is
or_behind (Err found) first behind passed on is = is

-- the first limit that logs pass doesn't depend on those behind them
pub first_behind : (limits : Limits) (log events : ℕ) (logs more : List (List ℕ)) (passed : LogLimit) → first_limit_from limits log events logs ≡ Some passed
    → first_limit_from limits log events (logs ++ more) ≡ Some passed
first_behind limits log events [] more passed is = absurd (none_is_no_limit passed (sym (first_none limits log events) ∙ is))
first_behind limits log events (bytes ∷ logs) more passed is =
    first_more limits log events bytes (logs ++ more)
    ∙ or_behind (counted_log limits log events bytes) (λ n. first_limit_from limits (log + 1) n logs) (λ n. first_limit_from limits (log + 1) n (logs ++ more)) passed
    (λ n so. first_behind limits (log + 1) n logs more passed so) (sym (first_more limits log events bytes logs) ∙ is)

-- it is of one of these logs
abbrev IsAmong : ℕ → ℕ → LogLimit → Type 0
IsAmong log count passed = (log ≤ passed.log) × (passed.log + 1 ≤ log + count) × (1 ≤ passed.line)

or_place : (log count : ℕ) (counted : Result ℕ LogLimit) (first : ℕ → Option LogLimit) (passed : LogLimit)
    → ((n : ℕ) → first n ≡ Some passed → IsAmong (log + 1) count passed) → ((found : LogLimit) → counted ≡ Err found → PassedBehind log 1 found)
    → passed_or counted first ≡ Some passed → IsAmong log (count + 1) passed
or_place log count (Ok n) first passed on here is = let (least, most, some) = on n is in (omega (arith, least), omega (arith, most), some)
or_place log count (Err found) first passed on here is =
    let (some, of_log) = here found refl in
    let same = some_is found passed is in
    let log_is : passed.log ≡ log = sym (ap (λ (p : LogLimit). p.log) same) ∙ of_log in
    (omega (arith, log_is), omega (arith, log_is), omega (arith, some, ap (λ (p : LogLimit). p.line) same))

pub first_place : (limits : Limits) (log events : ℕ) (logs : List (List ℕ)) (passed : LogLimit) → first_limit_from limits log events logs ≡ Some passed
    → IsAmong log (length logs) passed
first_place limits log events [] passed is = absurd (none_is_no_limit passed (sym (first_none limits log events) ∙ is))
first_place limits log events (bytes ∷ logs) passed is =
    let (least, most, some) =
    or_place log (length logs) (counted_log limits log events bytes) (λ n. first_limit_from limits (log + 1) n logs) passed
    (λ n so. first_place limits (log + 1) n logs passed so) (λ found at. passed_behind limits log events 1 _ found at) (sym (first_more limits log events bytes logs) ∙ is) in
    (least, omega (arith, most), some)
