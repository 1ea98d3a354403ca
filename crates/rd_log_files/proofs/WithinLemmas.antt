-- Logs that pass no limit.
use Rattle.std.proofs.Common.{◌≡◌, ◌↔◌, ℕ, suc, ◌+◌, ◌-◌, ◌≤◌, Bool, true, false, cond, List, [], ◌∷◌, take, Option, Some, None, Result, Ok, Err, refl, sym, ap, ◌∙◌, subst, arith}
use Rattle.std.specs.Prelude.{All, nat_le, not, sum_by}
use Rattle.std.proofs.lemmas.Bool.Decides.{nat_tests}
use Rattle.std.proofs.lemmas.List.Sums.{sum_by-cons}
use Rattle.std.proofs.lemmas.List.Elements.{All-cons, All-head, All-nil, All-tail}
use Rattle.rd_base.specs.declared.limits.Limits.{Limits}
use Rattle.rd_event.specs.Items.{is_skipped}
use Rattle.rd_io.specs.Lines.{LinesEnding, Reading}
use Rattle.rd_io.specs.Lines.LinesEnding.{at_end, no_final_newline, line_too_long, bytes_limit, faulted}
use Rattle.rd_io.specs.Lines.Reading.{stops, line}
use Rattle.rd_log_files.specs.Gathered.{AreWithin, EndsWithin, counted_lines, counted_log, ended_log, first_limit, first_limit_from, given_lines, lines_ending, lines_not_skipped, log_reading, passed_or}
use Rattle.rd_log_files.specs.declared.unread.LogLimit.{LogLimit}
use Rattle.rd_log_files.proofs.GatheredLemmas.{counted_one, counted_past, counted_skipped, counted_stops, first_more, first_none, first_place, none_is_no_limit, passed_behind, some_is}

-- ---- one log

count_none : (ending : LinesEnding) → lines_not_skipped (stops ending) ≡ 0
unfolding given_lines
count_none ending = refl

abbrev one_unless : Bool → ℕ
one_unless skipped = cond (not skipped) 1 0

count_line : (bytes : List ℕ) (more : Reading) → lines_not_skipped (line bytes more) ≡ one_unless (is_skipped bytes) + lines_not_skipped more
unfolding given_lines
count_line bytes more = sum_by-cons (λ b. one_unless (is_skipped b)) bytes (given_lines more)

ends_stops : (ending : LinesEnding) → lines_ending (stops ending) ≡ ending
unfolding lines_ending
ends_stops ending = refl

ends_line : (bytes : List ℕ) (more : Reading) → lines_ending (line bytes more) ≡ lines_ending more
unfolding lines_ending
ends_line bytes more = refl

-- where its lines are counted, these are the lines, and no limit is passed
pub record IsCounted (limits : Limits) (events : ℕ) (lines : Reading) (behind : ℕ) : Type 0 where
  pub ends : EndsWithin (lines_ending lines)
  pub is : behind ≡ events + lines_not_skipped lines
  pub few : behind ≤ limits.events

no_err : (passed : LogLimit) (n : ℕ) → ◌≡◌ {A = Result ℕ LogLimit} (Err passed) (Ok n) → ⊥
no_err passed n e = cc

same_count : (m n : ℕ) → ◌≡◌ {A = Result ℕ LogLimit} (Ok m) (Ok n) → m ≡ n
same_count m n e = cc

ended_counted : (limits : Limits) (log events number : ℕ) (ending : LinesEnding) (behind : ℕ) → events ≤ limits.events
    → ended_log limits log events number ending ≡ Ok behind → EndsWithin ending × (behind ≡ events)
ended_counted limits log events number at_end behind few is = (tt, sym (same_count events behind is))
ended_counted limits log events number no_final_newline behind few is = (tt, sym (same_count events behind is))
ended_counted limits log events number faulted behind few is = (tt, sym (same_count events behind is))
ended_counted limits log events number line_too_long behind few is = absurd (no_err _ behind is)
ended_counted limits log events number bytes_limit behind few is = absurd (no_err _ behind is)

line_counted : (limits : Limits) (log events number : ℕ) (bytes : List ℕ) (more : Reading) (behind : ℕ) → events ≤ limits.events
    → ((n : ℕ) → n ≤ limits.events → counted_lines limits log n (number + 1) more ≡ Ok behind → IsCounted limits n more behind)
    → (skipped past : Bool) → is_skipped bytes ≡ skipped → nat_le limits.events events ≡ past → counted_lines limits log events number (line bytes more) ≡ Ok behind
    → IsCounted limits events (line bytes more) behind
line_counted limits log events number bytes more behind few on true past s p is =
    let c = on events few (sym (counted_skipped limits log events number bytes more s) ∙ is) in record {
      ends = subst EndsWithin (sym (ends_line bytes more)) c.ends;
      is = omega (arith, c.is, count_line bytes more, ap one_unless s);
      few = c.few;
    }
line_counted limits log events number bytes more behind few on false false s p is =
    let room : events + 1 ≤ limits.events = grind (arith, nat_tests) in
    let c = on (events + 1) room (sym (counted_one limits log events number bytes more s p) ∙ is) in record {
      ends = subst EndsWithin (sym (ends_line bytes more)) c.ends;
      is = omega (arith, c.is, count_line bytes more, ap one_unless s);
      few = c.few;
    }
line_counted limits log events number bytes more behind few on false true s p is = absurd (no_err _ behind (sym (counted_past limits log events number bytes more s p) ∙ is))

pub counted_so : (limits : Limits) (log events number : ℕ) (lines : Reading) (behind : ℕ) → events ≤ limits.events → counted_lines limits log events number lines ≡ Ok behind
    → IsCounted limits events lines behind
counted_so limits log events number (stops ending) behind few is =
    let (ends, same) = ended_counted limits log events number ending behind few (sym (counted_stops limits log events number ending) ∙ is) in record {
      ends = subst EndsWithin (sym (ends_stops ending)) ends;
      is = omega (arith, same, count_none ending);
      few = omega (arith, same, few);
    }
counted_so limits log events number (line bytes more) behind few is =
    line_counted limits log events number bytes more behind few (λ n room so. counted_so limits log n (number + 1) more behind room so) (is_skipped bytes) (nat_le limits.events events) refl refl is

-- and the other way round
ended_back : (limits : Limits) (log events number : ℕ) (ending : LinesEnding) → EndsWithin ending → ended_log limits log events number ending ≡ Ok events
ended_back limits log events number at_end ends = refl
ended_back limits log events number no_final_newline ends = refl
ended_back limits log events number faulted ends = refl
ended_back limits log events number line_too_long ends = absurd ends
ended_back limits log events number bytes_limit ends = absurd ends

line_back : (limits : Limits) (log events number : ℕ) (bytes : List ℕ) (more : Reading)
    → ((n : ℕ) → n + lines_not_skipped more ≤ limits.events → counted_lines limits log n (number + 1) more ≡ Ok (n + lines_not_skipped more))
    → (skipped past : Bool) → is_skipped bytes ≡ skipped → nat_le limits.events events ≡ past → events + lines_not_skipped (line bytes more) ≤ limits.events
    → counted_lines limits log events number (line bytes more) ≡ Ok (events + lines_not_skipped (line bytes more))
line_back limits log events number bytes more on true past s p few =
    let same : events + lines_not_skipped (line bytes more) ≡ events + lines_not_skipped more = omega (arith, count_line bytes more, ap one_unless s) in
    counted_skipped limits log events number bytes more s ∙ on events (omega (arith, same, few)) ∙ ap Ok (sym same)
line_back limits log events number bytes more on false false s p few =
    let same : events + lines_not_skipped (line bytes more) ≡ (events + 1) + lines_not_skipped more = omega (arith, count_line bytes more, ap one_unless s) in
    counted_one limits log events number bytes more s p ∙ on (events + 1) (omega (arith, same, few)) ∙ ap Ok (sym same)
line_back limits log events number bytes more on false true s p few =
    let least : limits.events ≤ events = grind (arith, nat_tests) in
    absurd (omega (arith, least, few, count_line bytes more, ap one_unless s))

pub counted_back : (limits : Limits) (log events number : ℕ) (lines : Reading) → EndsWithin (lines_ending lines) → events + lines_not_skipped lines ≤ limits.events
    → counted_lines limits log events number lines ≡ Ok (events + lines_not_skipped lines)
counted_back limits log events number (stops ending) ends few =
    let same : events ≡ events + lines_not_skipped (stops ending) = omega (arith, count_none ending) in
    counted_stops limits log events number ending ∙ ended_back limits log events number ending (subst EndsWithin (ends_stops ending) ends) ∙ ap Ok same
counted_back limits log events number (line bytes more) ends few =
    line_back limits log events number bytes more
    (λ n room. counted_back limits log n (number + 1) more (subst EndsWithin (ends_line bytes more) ends) room) (is_skipped bytes) (nat_le limits.events events) refl refl few

-- ---- logs

abbrev EndsSo : Limits → List ℕ → Type 0
EndsSo limits bytes = EndsWithin (lines_ending (log_reading limits bytes))

abbrev Ends : Limits → List (List ℕ) → Type 0
Ends limits logs = All (EndsSo limits) logs

abbrev lines_of_logs : Limits → List (List ℕ) → ℕ
lines_of_logs limits logs = sum_by (λ bytes. lines_not_skipped (log_reading limits bytes)) logs

sum_more : (limits : Limits) (bytes : List ℕ) (logs : List (List ℕ))
    → lines_of_logs limits (bytes ∷ logs) ≡ lines_not_skipped (log_reading limits bytes) + lines_of_logs limits logs
sum_more limits bytes logs = sum_by-cons (λ b. lines_not_skipped (log_reading limits b)) bytes logs

some_none : (passed : LogLimit) → ◌≡◌ {A = Option LogLimit} (Some passed) None → ⊥
some_none passed e = cc

or_none : (counted : Result ℕ LogLimit) (first : ℕ → Option LogLimit) → passed_or counted first ≡ None → (n : ℕ) × (counted ≡ Ok n) × (first n ≡ None)
or_none (Ok n) first is = (n, refl, is)
or_none (Err passed) first is = absurd (some_none passed is)

none_so : (limits : Limits) (log events : ℕ) (logs : List (List ℕ)) → events ≤ limits.events → first_limit_from limits log events logs ≡ None
    → Ends limits logs × (events + lines_of_logs limits logs ≤ limits.events)
none_so limits log events [] few is = (All-nil (EndsSo limits), omega (arith, few))
none_so limits log events (bytes ∷ logs) few is =
    let (n, counted, none) = or_none (counted_log limits log events bytes) (λ n. first_limit_from limits (log + 1) n logs) (sym (first_more limits log events bytes logs) ∙ is) in
    let one = counted_so limits log events 1 (log_reading limits bytes) n few counted in
    let (ends, more) = none_so limits (log + 1) n logs one.few none in
    (All-cons (EndsSo limits) bytes logs one.ends ends, omega (arith, more, one.is, sum_more limits bytes logs))

none_back : (limits : Limits) (log events : ℕ) (logs : List (List ℕ)) → Ends limits logs → events + lines_of_logs limits logs ≤ limits.events
    → first_limit_from limits log events logs ≡ None
none_back limits log events [] ends few = first_none limits log events
none_back limits log events (bytes ∷ logs) ends few =
    first_more limits log events bytes logs
    ∙ ap (λ r. passed_or r (λ n. first_limit_from limits (log + 1) n logs))
    (counted_back limits log events 1 (log_reading limits bytes) (All-head (EndsSo limits) bytes logs ends) (omega (arith, few, sum_more limits bytes logs)))
    ∙ none_back limits (log + 1) (events + lines_not_skipped (log_reading limits bytes)) logs (All-tail (EndsSo limits) bytes logs ends) (omega (arith, few, sum_more limits bytes logs))

pub none_within : (limits : Limits) (logs : List (List ℕ)) → (first_limit limits logs ≡ None ↔ AreWithin limits logs)
none_within limits logs = (
  λ is. let (ends, few) = none_so limits 1 0 logs (omega arith) is in record { ends = ends; few = omega (arith, few) },
  λ within. none_back limits 1 0 logs within.ends (omega (arith, within.few)),
)

-- in front of the log that passes the first limit none is passed
or_front : (limits : Limits) (log events : ℕ) (bytes : List ℕ) (logs : List (List ℕ)) (passed : LogLimit)
    → ((n : ℕ) → first_limit_from limits (log + 1) n logs ≡ Some passed → first_limit_from limits (log + 1) n (take (passed.log - (log + 1)) logs) ≡ None)
    → (counted : Result ℕ LogLimit) → counted_log limits log events bytes ≡ counted → passed_or counted (λ n. first_limit_from limits (log + 1) n logs) ≡ Some passed
    → first_limit_from limits log events (take (passed.log - log) (bytes ∷ logs)) ≡ None
or_front limits log events bytes logs passed on (Ok n) at is =
    let place = (first_place limits (log + 1) n logs passed is).0 in
    let more : passed.log - log ≡ suc (passed.log - (log + 1)) = omega (arith, place) in
    ap (λ m. first_limit_from limits log events (take m (bytes ∷ logs))) more
    ∙ first_more limits log events bytes (take (passed.log - (log + 1)) logs)
    ∙ ap (λ r. passed_or r (λ m. first_limit_from limits (log + 1) m (take (passed.log - (log + 1)) logs))) at
    ∙ on n is
or_front limits log events bytes logs passed on (Err found) at is =
    let same = some_is found passed is in
    let of_log = (passed_behind limits log events 1 (log_reading limits bytes) found at).1 in
    let none : passed.log - log ≡ 0 = omega (arith, of_log, ap (λ (p : LogLimit). p.log) same) in
    ap (λ m. first_limit_from limits log events (take m (bytes ∷ logs))) none ∙ first_none limits log events

front_none : (limits : Limits) (log events : ℕ) (logs : List (List ℕ)) (passed : LogLimit) → first_limit_from limits log events logs ≡ Some passed
    → first_limit_from limits log events (take (passed.log - log) logs) ≡ None
front_none limits log events [] passed is = absurd (none_is_no_limit passed (sym (first_none limits log events) ∙ is))
front_none limits log events (bytes ∷ logs) passed is =
    or_front limits log events bytes logs passed (λ n so. front_none limits (log + 1) n logs passed so) (counted_log limits log events bytes) refl
    (sym (first_more limits log events bytes logs) ∙ is)

pub none_in_front : (limits : Limits) (logs : List (List ℕ)) (passed : LogLimit) → first_limit limits logs ≡ Some passed → first_limit limits (take (passed.log - 1) logs) ≡ None
none_in_front limits logs passed is = front_none limits 1 0 logs passed is
