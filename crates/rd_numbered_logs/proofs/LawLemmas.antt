-- Names have numbers, and what logs say by them are logs.
use Rattle.std.proofs.Common.{◌≡◌, ◌≢◌, ◌⊎◌, inl, inr, nat_lt, Option, None, ℕ, zero, suc, ◌<◌, ◌≤◌, ◌||◌, Bool, true, false, if◌then◌else◌, List, [], ◌∷◌, ◌++◌, length, map, get_or, Some, slice_get, refl, sym, ap, ◌∙◌, subst, arith, true≢false}
use Rattle.std.specs.Cmp.Lexicographic.{bytes_decides}
use Rattle.std.proofs.lemmas.Bool.Decides.{nat_tests}
use Rattle.std.proofs.lemmas.List.{length-map}
use Rattle.std.proofs.lemmas.Option.{none-some, same_Some, slice_get_within}
use Rattle.rd_ecl.specs.Kinds.{Kind}
use Rattle.rd_event.specs.declared.events.Call.{Call}
use Rattle.rd_event.specs.declared.items.LineEvent.{LineEvent}
use Rattle.rd_event.specs.declared.items.LineEvent.TheVariants as line
use Rattle.rd_logs.specs.declared.lines.LogEvent.{LogEvent}
use Rattle.rd_logs.specs.WholeLogs.{LogRecord}
use Rattle.rd_numbered_logs.specs.LogNames.{IsMentioned, LogNames, are_new, begun_names, declared_names, have_own_names, log_threads, mentioning, mentioning_all, mentioning_in, log_names, with_name}
use Rattle.rd_numbered_logs.specs.LogsUnder.{event_under, log_under, logs_under, noted_under, called_kind, thread_logs}
use Rattle.rd_numbered_logs.specs.Numbering.{IsFrontOf}
use Rattle.rd_numbered_logs.proofs.LogLemmas.{both_true, got_below, got_threads, map_map, map_same, own_number, same_roots}
use Rattle.rd_numbered_logs.proofs.StepLemmas.{front_all, front_in}
use Rattle.rd_order.specs.Order.{Hold, call_in, exclusive, shared, hold_given, hold_taken, thread_of}
use Rattle.rd_rules.specs.MayFollow.{is_among, place, same_name}
use Rattle.rd_rules.proofs.FollowLemmas.{among_decides}
use Rattle.rd_rules.proofs.PlaceLemmas.{got_contained, not_known, place_named, place_new}
use Rattle.rd_weavings.specs.declared.spots.Spot.{Spot}
use Rattle.rd_weavings.specs.Logs.{AreLogs, IsSpot, Logs, Noted, ThreadLog, event_at, log_at, no_event, no_log}
use Rattle.rd_weavings.specs.Alike.{AreAlike, plain_log, plain_noted}
use Rattle.rd_weavings.specs.Weavings.{HaveOwnThreads}

-- ---- numbers

below_among : (names : List (List ℕ)) (name : List ℕ) → place names name < length names → is_among names name ≡ true
below_among names name below = by (is_among names name) refl
  where
    by : (b : Bool) → is_among names name ≡ b → is_among names name ≡ true
    by true is = is
    by false is = absurd (let past = place_new names name (not_known names name is) in omega (arith, below, past))

pub own_numbers : (names : List (List ℕ)) (one other : List ℕ) → is_among names one ≡ true → place names one ≡ place names other → one ≡ other
own_numbers names one other among same =
    let at : slice_get names (place names one) ≡ Some one = place_named names one ((among_decides names one).0 among) in
    let below = slice_get_within names (place names one) one at in
    let also : is_among names other ≡ true = below_among names other (subst (λ n. n < length names) same below) in
    same_Some one other (sym at ∙ ap (slice_get names) same ∙ place_named names other ((among_decides names other).0 also))

-- ---- names among others

last_among : (names : List (List ℕ)) (name : List ℕ) → is_among (names ++ name ∷ []) name ≡ true
last_among [] name = ap (λ b. b || false) ((bytes_decides name name).1 refl)
last_among (x ∷ xs) name = by (same_name name x) (last_among xs name)
  where
    by : (b : Bool) → is_among (xs ++ name ∷ []) name ≡ true → (b || is_among (xs ++ name ∷ []) name) ≡ true
    by true is = refl
    by false is = is

with_among : (names : List (List ℕ)) (name : List ℕ) → is_among (with_name names name) name ≡ true
with_among names name = by (is_among names name) refl
  where
    by : (b : Bool) → is_among names name ≡ b → is_among (if b then names else names ++ name ∷ []) name ≡ true
    by true is = is
    by false is = last_among names name

front_among : (names more : List (List ℕ)) (name : List ℕ) → is_among names name ≡ true → is_among (names ++ more) name ≡ true
front_among [] more name among = absurd (true≢false (sym among))
front_among (x ∷ xs) more name among = by (same_name name x) (front_among xs more name) among
  where
    by : (b : Bool) → (is_among xs name ≡ true → is_among (xs ++ more) name ≡ true) → (b || is_among xs name) ≡ true → (b || is_among (xs ++ more) name) ≡ true
    by true rest is = refl
    by false rest is = rest is

behind_among : (names all : List (List ℕ)) (name : List ℕ) → (more : List (List ℕ)) × (all ≡ names ++ more) → is_among names name ≡ true → is_among all name ≡ true
behind_among names all name (more, is) among = ap (λ ns. is_among ns name) is ∙ front_among names more name among

mention_kept : (names all : LogNames) → IsFrontOf names all → (e : LineEvent) → IsMentioned names e → IsMentioned all e
mention_kept names all front (line.Fork own child) among = behind_among names.threads all.threads child front.threads among
mention_kept names all front (line.Join own child) among = behind_among names.threads all.threads child front.threads among
mention_kept names all front (line.Acquire own lock) among = behind_among names.locks all.locks lock front.locks among
mention_kept names all front (line.Release own lock) among = behind_among names.locks all.locks lock front.locks among
mention_kept names all front (line.Share own lock) among = tt
mention_kept names all front (line.Unshare own lock) among = tt
mention_kept names all front (line.Call own object method slots) among = behind_among names.objects all.objects object front.objects among

own_mention : (names : LogNames) (e : LineEvent) → IsMentioned (mentioning names e) e
own_mention names (line.Fork own child) = with_among names.threads child
own_mention names (line.Join own child) = with_among names.threads child
own_mention names (line.Acquire own lock) = with_among names.locks lock
own_mention names (line.Release own lock) = with_among names.locks lock
own_mention names (line.Share own lock) = tt
own_mention names (line.Unshare own lock) = tt
own_mention names (line.Call own object method slots) = with_among names.objects object

event_mention : (names : LogNames) (events : List LogEvent) (p : ℕ) (noted : LogEvent) → slice_get events p ≡ Some noted → IsMentioned (mentioning_all names events) noted.event
event_mention names [] p noted at = absurd (none-some noted at)
event_mention names (e ∷ events) zero noted at =
    let same : e ≡ noted = same_Some e noted at in
    mention_kept (mentioning names e.event) _ (front_all (mentioning names e.event) events) noted.event (subst (λ (n : LogEvent). IsMentioned (mentioning names e.event) n.event) same (own_mention names e.event))
event_mention names (e ∷ events) (suc p) noted at = event_mention (mentioning names e.event) events p noted at

log_mention : (names : LogNames) (logs : List LogRecord) (l p : ℕ) (log : LogRecord) (noted : LogEvent) → slice_get logs l ≡ Some log → slice_get log.events p ≡ Some noted
    → IsMentioned (mentioning_in names logs) noted.event
log_mention names [] l p log noted at here = absurd (none-some log at)
log_mention names (x ∷ xs) zero p log noted at here =
    let same : x ≡ log = same_Some x log at in
    let one : IsMentioned (mentioning_all names x.events) noted.event = event_mention names x.events p noted (subst (λ (r : LogRecord). slice_get r.events p ≡ Some noted) (sym same) here) in
    mention_kept (mentioning_all names x.events) _ (front_in (mentioning_all names x.events) xs) noted.event one
log_mention names (x ∷ xs) (suc l) p log noted at here = log_mention (mentioning_all names x.events) xs l p log noted at here

pub thread_among : (logs : List LogRecord) (l : ℕ) (log : LogRecord) → slice_get logs l ≡ Some log → is_among (log_names logs).threads log.thread ≡ true
thread_among logs l log at =
    behind_among (log_threads logs) (log_names logs).threads log.thread ((front_in (begun_names logs) logs).threads) (got_contained (log_threads logs) l log.thread (got_threads logs l log at))

pub event_among : (logs : List LogRecord) (l p : ℕ) (log : LogRecord) (noted : LogEvent) → slice_get logs l ≡ Some log → slice_get log.events p ≡ Some noted → IsMentioned (log_names logs) noted.event
event_among logs l p log noted at here = log_mention (begun_names logs) logs l p log noted at here

-- ---- what logs say are logs

module _ (kinds : List Kind) (logs : List LogRecord) where
  abbrev all : Logs
  all = logs_under kinds logs

  -- a log at its number
  log_read : (xs : List LogRecord) (l : ℕ) (log : LogRecord) → slice_get xs l ≡ Some log → get_or (map (log_under kinds logs (log_names logs)) xs) l no_log ≡ log_under kinds logs (log_names logs) log
  log_read [] l log at = absurd (none-some log at)
  log_read (x ∷ xs) zero log at = ap (log_under kinds logs (log_names logs)) (same_Some x log at)
  log_read (x ∷ xs) (suc l) log at = log_read xs l log at

  -- a spot is in a log
  log_past : (xs : List ThreadLog) (l : ℕ) → length xs ≤ l → get_or xs l no_log ≡ no_log
  log_past [] l past = refl
  log_past (x ∷ xs) zero past = absurd (omega (arith, past))
  log_past (x ∷ xs) (suc l) past = log_past xs l (omega (arith, past))

  event_read : (thread : ℕ) (events : List LogEvent) (p : ℕ) → p < length (map (noted_under kinds logs (log_names logs) thread) events)
      → (noted : LogEvent) × (get_or (map (noted_under kinds logs (log_names logs) thread) events) p no_event ≡ noted_under kinds logs (log_names logs) thread noted)
  event_read thread [] p within = absurd (omega (arith, within))
  event_read thread (e ∷ events) zero within = (e, refl)
  event_read thread (e ∷ events) (suc p) within = event_read thread events p (omega (arith, within))

  -- the event at a spot is one of the log's thread
  spot_read : (s : Spot) → IsSpot all s → (noted : LogEvent) × (event_at all s ≡ event_under kinds logs (log_names logs) (log_at all s.log).thread noted.event)
  spot_read s is = elim (cases_below s.log (length (thread_logs kinds logs))) [
    | inl below ↦
        let (log, at) = got_below logs s.log (subst (λ n. s.log < n) (length-map logs (log_under kinds logs (log_names logs))) below) in
        let here : log_at all s.log ≡ log_under kinds logs (log_names logs) log = log_read logs s.log log at in
        let (noted, read) = event_read (place (log_names logs).threads log.thread) log.events s.place (subst (λ (x : ThreadLog). s.place < length x.events) here is) in
        (noted, ap (λ (x : ThreadLog). (get_or x.events s.place no_event).event) here ∙ ap (λ (n : Noted). n.event) read ∙ ap (λ (x : ThreadLog). event_under kinds logs (log_names logs) x.thread noted.event) (sym here))
    | inr past ↦ absurd (let none = subst (λ (x : ThreadLog). s.place < length x.events) (log_past (thread_logs kinds logs) s.log past) is in omega (arith, none))
  ]
    where
      cases_below : (l n : ℕ) → (l < n) ⊎ (n ≤ l)
      cases_below l n = by (nat_lt l n) refl
        where
          by : (b : Bool) → nat_lt l n ≡ b → (l < n) ⊎ (n ≤ l)
          by true is = inl (grind (arith, nat_tests, is))
          by false is = inr (grind (arith, nat_tests, is))

  module _ (names : LogNames) (thread : ℕ) where
    own_event : (e : LineEvent) → thread_of (event_under kinds logs names thread e) ≡ thread
    own_event (line.Fork own child) = refl
    own_event (line.Join own child) = refl
    own_event (line.Acquire own lock) = refl
    own_event (line.Release own lock) = refl
    own_event (line.Share own lock) = refl
    own_event (line.Unshare own lock) = refl
    own_event (line.Call own object method slots) = refl

    abbrev takes : Option Hold → Bool
    takes None = false
    takes (Some (exclusive lock)) = true
    takes (Some (shared lock)) = false

    none_shares : (e : LineEvent) (lock : ℕ) → hold_taken (event_under kinds logs names thread e) ≢ Some (shared lock)
    none_shares (line.Fork own child) lock = λ is. none-some _ is
    none_shares (line.Join own child) lock = λ is. none-some _ is
    none_shares (line.Acquire own l) lock = λ is. true≢false (ap takes is)
    none_shares (line.Release own l) lock = λ is. none-some _ is
    none_shares (line.Share own l) lock = λ is. none-some _ is
    none_shares (line.Unshare own l) lock = λ is. none-some _ is
    none_shares (line.Call own object method slots) lock = λ is. none-some _ is

    none_unshares : (e : LineEvent) (lock : ℕ) → hold_given (event_under kinds logs names thread e) ≢ Some (shared lock)
    none_unshares (line.Fork own child) lock = λ is. none-some _ is
    none_unshares (line.Join own child) lock = λ is. none-some _ is
    none_unshares (line.Acquire own l) lock = λ is. none-some _ is
    none_unshares (line.Release own l) lock = λ is. true≢false (ap takes is)
    none_unshares (line.Share own l) lock = λ is. none-some _ is
    none_unshares (line.Unshare own l) lock = λ is. none-some _ is
    none_unshares (line.Call own object method slots) lock = λ is. none-some _ is

    kind_is : (e : LineEvent) (call : Call) → call_in (event_under kinds logs names thread e) ≡ Some call → call.kind ≡ called_kind kinds logs call.object
    kind_is (line.Fork own child) call is = absurd (none-some call is)
    kind_is (line.Join own child) call is = absurd (none-some call is)
    kind_is (line.Acquire own lock) call is = absurd (none-some call is)
    kind_is (line.Release own lock) call is = absurd (none-some call is)
    kind_is (line.Share own lock) call is = absurd (none-some call is)
    kind_is (line.Unshare own lock) call is = absurd (none-some call is)
    kind_is (line.Call own object method slots) call is = subst (λ (c : Call). c.kind ≡ called_kind kinds logs c.object) (same_Some _ call is) refl

  pub are_logs : AreLogs all
  are_logs = record {
    own = λ s is. let (noted, read) = spot_read s is in ap thread_of read ∙ own_event (log_names logs) (log_at all s.log).thread noted.event;
    no_share = λ s lock is shares. let (noted, read) = spot_read s is in none_shares (log_names logs) (log_at all s.log).thread noted.event lock (ap hold_taken (sym read) ∙ shares);
    no_unshare = λ s lock is shares. let (noted, read) = spot_read s is in none_unshares (log_names logs) (log_at all s.log).thread noted.event lock (ap hold_given (sym read) ∙ shares);
    one_kind = λ s t a b is_s is_t at_a at_b same.
        let (one, read) = spot_read s is_s in
        let (other, read_other) = spot_read t is_t in
        kind_is (log_names logs) (log_at all s.log).thread one.event a (ap call_in (sym read) ∙ at_a)
        ∙ ap (called_kind kinds logs) same
        ∙ sym (kind_is (log_names logs) (log_at all t.log).thread other.event b (ap call_in (sym read_other) ∙ at_b));
  }

  pub own_threads : have_own_names logs ≡ true → HaveOwnThreads all
  own_threads own l m below above same =
      let new = (both_true (are_new [] (log_threads logs)) (are_new [] (declared_names logs)) own).0 in
      sym (is new l below) ∙ same ∙ is new m above
    where
      is : are_new [] (log_threads logs) ≡ true → (l : ℕ) → l < length (thread_logs kinds logs) → (log_at all l).thread ≡ l
      is new l below =
          let (log, at) = got_below logs l (subst (λ n. l < n) (length-map logs (log_under kinds logs (log_names logs))) below) in
          ap (λ (x : ThreadLog). x.thread) (log_read logs l log at) ∙ own_number logs new l log at

-- under two specifications they are alike
plain_under : (kinds other : List Kind) (logs : List LogRecord) (names : LogNames) (thread : ℕ) (noted : LogEvent)
    → plain_noted (noted_under kinds logs names thread noted) ≡ plain_noted (noted_under other logs names thread noted)
plain_under kinds other logs names thread noted = by noted.event
  where
    by : (e : LineEvent) → plain_noted (noted_under kinds logs names thread (record { event = e; number = noted.number })) ≡ plain_noted (noted_under other logs names thread (record { event = e; number = noted.number }))
    by (line.Fork own child) = refl
    by (line.Join own child) = refl
    by (line.Acquire own lock) = refl
    by (line.Release own lock) = refl
    by (line.Share own lock) = refl
    by (line.Unshare own lock) = refl
    by (line.Call own object method slots) = refl

plain_logs : (kinds other : List Kind) (logs : List LogRecord) → map plain_log (thread_logs kinds logs) ≡ map plain_log (thread_logs other logs)
plain_logs kinds other logs =
    map_map plain_log (log_under kinds logs (log_names logs)) logs
    ∙ map_same (λ log. plain_log (log_under kinds logs (log_names logs) log)) (λ log. plain_log (log_under other logs (log_names logs) log)) one logs
    ∙ sym (map_map plain_log (log_under other logs (log_names logs)) logs)
  where
    one : (log : LogRecord) → plain_log (log_under kinds logs (log_names logs) log) ≡ plain_log (log_under other logs (log_names logs) log)
    one log =
        let t = place (log_names logs).threads log.thread in
        ap (λ es. record { thread = t; events = es })
        (map_map plain_noted (noted_under kinds logs (log_names logs) t) log.events
        ∙ map_same (λ noted. plain_noted (noted_under kinds logs (log_names logs) t noted)) (λ noted. plain_noted (noted_under other logs (log_names logs) t noted)) (plain_under kinds other logs (log_names logs) t) log.events
        ∙ sym (map_map plain_noted (noted_under other logs (log_names logs) t) log.events))

pub alike_under : (kinds other : List Kind) (logs : List LogRecord) → AreAlike (logs_under kinds logs) (logs_under other logs)
alike_under kinds other logs = record {
  logs = plain_logs kinds other logs;
  roots = same_roots (thread_logs kinds logs) (thread_logs other logs) (plain_logs kinds other logs);
  declared = λ object. refl;
}
