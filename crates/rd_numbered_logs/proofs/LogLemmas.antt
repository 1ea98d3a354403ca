-- The logs by numbers are those of the logs.
use Rattle.std.proofs.Common.{◌≡◌, ℕ, zero, suc, ◌+◌, ◌^◌, ◌<◌, ◌≤◌, ◌==◌, ◌&&◌, ◌||◌, Bool, true, false, not, cond, nat_lt, List, [], ◌∷◌, ◌++◌, length, map, take, drop, get_or, replicate, Some, slice_get, refl, sym, ap, ap₂, ◌∙◌, subst, arith, true≢false}
use Rattle.std.specs.List.{list_any}
use Rattle.std.specs.Cmp.Lexicographic.{bytes_decides}
use Rattle.std.proofs.lemmas.Grind.{common_steps}
use Rattle.std.proofs.lemmas.List.{length-map}
use Rattle.std.proofs.lemmas.Option.{none-some, same_Some, slice_get_within}
use Rattle.rd_ecl.specs.Kinds.{Kind}
use Rattle.rd_event.specs.declared.events.Event.{Event}
use Rattle.rd_event.specs.declared.events.Event.TheVariants as event
use Rattle.rd_event.specs.declared.items.LineEvent.{LineEvent}
use Rattle.rd_event.specs.declared.items.LineEvent.TheVariants as line
use Rattle.rd_logs.specs.declared.lines.LogEvent.{LogEvent}
use Rattle.rd_logs.specs.WholeLogs.{LogRecord}
use Rattle.rd_numbered_logs.specs.LogNames.{LogNames, are_new, begun_names, declared_names, declared_objects, log_threads, log_names}
use Rattle.rd_numbered_logs.specs.LogsUnder.{forks_this, is_root_of, log_under, logs_under, noted_under, thread_logs}
use Rattle.rd_numbered_logs.specs.Numbering.{AreNumberedLogs, IsStepAmong, step_forks, step_under, step_with}
use Rattle.rd_numbered_logs.proofs.StepLemmas.{front_in, front_self}
use Rattle.rd_rules.specs.MayFollow.{is_among, place, same_name}
use Rattle.rd_turns.specs.declared.logs.NumberedLogs.{NumberedLogs}
use Rattle.rd_turns.specs.declared.logs.Step.{Step}
use Rattle.rd_turns.specs.declared.logs.Step.TheVariants.{Fork, Join, Acquire, Release, Call}
use Rattle.rd_turns.specs.declared.logs.ThreadSteps.{ThreadSteps}
use Rattle.rd_turns.specs.NumberedLogs.{AreInRange, IsStepInRange, logs_by_numbers, noted_step, thread_log}
use Rattle.rd_weavings.specs.Alike.{AreAlike, plain_log, plain_noted}
use Rattle.rd_weavings.specs.Logs.{Noted, ThreadLog, log_at, no_log}
use Rattle.rd_weavings.specs.Weavings.{HaveOwnThreads}

-- ---- tests over lists that are mapped

pub any_mapped : {X Y : Type 0} (test : Y → Bool) (own : X → Bool) (f : X → Y) → ((x : X) → test (f x) ≡ own x) → (xs : List X) → list_any test (map f xs) ≡ list_any own xs
any_mapped test own f same [] = refl
any_mapped test own f same (x ∷ xs) = ap₂ (λ a b. a || b) (same x) (any_mapped test own f same xs)

pub maps_alike : {X Y Z : Type 0} (f : X → Z) (g : Y → Z) (xs : List X) (ys : List Y) → length xs ≡ length ys
    → ((l : ℕ) (x : X) (y : Y) → slice_get xs l ≡ Some x → slice_get ys l ≡ Some y → f x ≡ g y) → map f xs ≡ map g ys
maps_alike f g [] [] count same = refl
maps_alike f g [] (y ∷ ys) count same = absurd (omega (arith, count))
maps_alike f g (x ∷ xs) [] count same = absurd (omega (arith, count))
maps_alike f g (x ∷ xs) (y ∷ ys) count same =
    let fewer : length xs ≡ length ys = omega (arith, count) in
    ap₂ (λ z zs. z ∷ zs) (same 0 x y refl refl) (maps_alike f g xs ys fewer (λ l a b at_a at_b. same (suc l) a b at_a at_b))

pub map_map : {X Y Z : Type 0} (f : Y → Z) (g : X → Y) (xs : List X) → map f (map g xs) ≡ map (λ x. f (g x)) xs
map_map f g [] = refl
map_map f g (x ∷ xs) = ap (λ zs. f (g x) ∷ zs) (map_map f g xs)

pub map_same : {X Z : Type 0} (f g : X → Z) → ((x : X) → f x ≡ g x) → (xs : List X) → map f xs ≡ map g xs
map_same f g same [] = refl
map_same f g same (x ∷ xs) = ap₂ (λ z zs. z ∷ zs) (same x) (map_same f g same xs)

pub got_below : {X : Type 0} (xs : List X) (l : ℕ) → l < length xs → (x : X) × (slice_get xs l ≡ Some x)
got_below [] l below = absurd (omega arith)
got_below (x ∷ xs) zero below = (x, refl)
got_below (x ∷ xs) (suc l) below = got_below xs l (omega (arith, below))

pub none_marked : (n t : ℕ) → get_or (replicate n false) t false ≡ false
none_marked zero t = refl
none_marked (suc n) zero = refl
none_marked (suc n) (suc t) = none_marked n t

pub kept_whole : (n : ℕ) (xs rest : List Bool) → length xs ≡ n → take n (xs ++ drop (length xs) rest) ≡ xs
kept_whole n xs rest count = grind (arith, common_steps)

-- ---- roots

step_forks_this : (own thread : ℕ) (step : Step) → forks_this thread (noted_step own step) ≡ step_forks thread step
step_forks_this own thread (Fork child) = refl
step_forks_this own thread (Join child) = refl
step_forks_this own thread (Acquire lock number) = refl
step_forks_this own thread (Release lock) = refl
step_forks_this own thread (Call object) = refl

pub roots_by_steps : (logs : List ThreadSteps) (thread : ℕ)
    → is_root_of (map thread_log logs) thread ≡ (list_any (λ log. log.thread == thread) logs && not (list_any (λ log. list_any (step_forks thread) log.steps.items) logs))
roots_by_steps logs thread =
    ap₂ (λ a b. a && not b) (any_mapped (λ log. log.thread == thread) (λ log. log.thread == thread) thread_log (λ log. refl) logs)
    (any_mapped (λ log. list_any (forks_this thread) log.events) (λ log. list_any (step_forks thread) log.steps.items) thread_log
    (λ log. any_mapped (forks_this thread) (step_forks thread) (noted_step log.thread) (step_forks_this log.thread thread) log.steps.items) logs)

-- of logs that are alike
plain_forks : (thread : ℕ) (noted : Noted) → forks_this thread (plain_noted noted) ≡ forks_this thread noted
plain_forks thread noted = by noted.event
  where
    by : (e : Event) → forks_this thread (plain_noted (record { event = e; number = noted.number })) ≡ forks_this thread (record { event = e; number = noted.number })
    by (event.Fork t u) = refl
    by (event.Join t u) = refl
    by (event.Acquire t l) = refl
    by (event.Release t l) = refl
    by (event.Share t l) = refl
    by (event.Unshare t l) = refl
    by (event.Call call) = refl

root_plain : (logs : List ThreadLog) (thread : ℕ) → is_root_of (map plain_log logs) thread ≡ is_root_of logs thread
root_plain logs thread =
    ap₂ (λ a b. a && not b) (any_mapped (λ log. log.thread == thread) (λ log. log.thread == thread) plain_log (λ log. refl) logs)
    (any_mapped (λ log. list_any (forks_this thread) log.events) (λ log. list_any (forks_this thread) log.events) plain_log
    (λ log. any_mapped (forks_this thread) (forks_this thread) plain_noted (plain_forks thread) log.events) logs)

pub same_roots : (one other : List ThreadLog) → map plain_log one ≡ map plain_log other → (thread : ℕ) → is_root_of one thread ≡ is_root_of other thread
same_roots one other alike thread = sym (root_plain one thread) ∙ ap (λ logs. is_root_of logs thread) alike ∙ root_plain other thread

-- ---- a thread's number is that of its log

-- a name that isn't among these and those
front_other : (front more : List (List ℕ)) (name : List ℕ) → is_among (front ++ more) name ≡ false → is_among front name ≡ false
front_other [] more name none = refl
front_other (x ∷ xs) more name none = by (same_name name x) (front_other xs more name) none
  where
    by : (b : Bool) → (is_among (xs ++ more) name ≡ false → is_among xs name ≡ false) → (b || is_among (xs ++ more) name) ≡ false → (b || is_among xs name) ≡ false
    by true rest both = absurd (true≢false both)
    by false rest both = rest both

last_other : (front : List (List ℕ)) (x name : List ℕ) → is_among (front ++ x ∷ []) name ≡ false → same_name name x ≡ false
last_other [] x name none = by (same_name name x) none
  where
    by : (b : Bool) → (b || false) ≡ false → b ≡ false
    by true both = both
    by false both = refl
last_other (y ∷ ys) x name none = by (same_name name y) (last_other ys x name) none
  where
    by : (b : Bool) → (is_among (ys ++ x ∷ []) name ≡ false → same_name name x ≡ false) → (b || is_among (ys ++ x ∷ []) name) ≡ false → same_name name x ≡ false
    by true rest both = absurd (true≢false both)
    by false rest both = rest both

-- a name that is new behind others isn't among them
later_new : (front names : List (List ℕ)) (l : ℕ) (name : List ℕ) → are_new front names ≡ true → slice_get names l ≡ Some name → is_among front name ≡ false
later_new front [] l name new at = absurd (none-some name at)
later_new front (x ∷ xs) zero name new at = by (is_among front x) refl new
  where
    by : (b : Bool) → is_among front x ≡ b → (not b && are_new (front ++ x ∷ []) xs) ≡ true → is_among front name ≡ false
    by true is both = absurd (true≢false (sym both))
    by false is both = ap (is_among front) (sym (same_Some x name at)) ∙ is
later_new front (x ∷ xs) (suc l) name new at = by (is_among front x) new (λ rest. later_new (front ++ x ∷ []) xs l name rest at)
  where
    by : (b : Bool) → (not b && are_new (front ++ x ∷ []) xs) ≡ true → (are_new (front ++ x ∷ []) xs ≡ true → is_among (front ++ x ∷ []) name ≡ false) → is_among front name ≡ false
    by true both rest = absurd (true≢false (sym both))
    by false both rest = front_other front (x ∷ []) name (rest both)

-- new names have the places in which they stand
place_behind : (front names more : List (List ℕ)) (l : ℕ) (name : List ℕ) → are_new front names ≡ true → slice_get names l ≡ Some name → place (names ++ more) name ≡ l
place_behind front [] more l name new at = absurd (none-some name at)
place_behind front (x ∷ xs) more zero name new at =
    ap (λ b. cond (not b) (1 + place (xs ++ more) name) 0) ((bytes_decides name x).1 (sym (same_Some x name at)))
place_behind front (x ∷ xs) more (suc l) name new at = by (is_among front x) new (λ rest. place_behind (front ++ x ∷ []) xs more l name rest at) (λ rest. later_new (front ++ x ∷ []) xs l name rest at)
  where
    other : is_among (front ++ x ∷ []) name ≡ false → same_name name x ≡ false
    other none = last_other front x name none

    by : (b : Bool) → (not b && are_new (front ++ x ∷ []) xs) ≡ true → (are_new (front ++ x ∷ []) xs ≡ true → place (xs ++ more) name ≡ l)
        → (are_new (front ++ x ∷ []) xs ≡ true → is_among (front ++ x ∷ []) name ≡ false) → cond (not (same_name name x)) (1 + place (xs ++ more) name) 0 ≡ suc l
    by true both rest none = absurd (true≢false (sym both))
    by false both rest none = let here : place (xs ++ more) name ≡ l = rest both in ap (λ b. cond (not b) (1 + place (xs ++ more) name) 0) (other (none both)) ∙ omega (arith, here)

pub got_threads : (logs : List LogRecord) (l : ℕ) (log : LogRecord) → slice_get logs l ≡ Some log → slice_get (log_threads logs) l ≡ Some log.thread
got_threads [] l log at = absurd (none-some log at)
got_threads (x ∷ xs) zero log at = ap Some (ap (λ (r : LogRecord). r.thread) (same_Some x log at))
got_threads (x ∷ xs) (suc l) log at = got_threads xs l log at

-- the thread of a log has the log's number
pub own_number : (logs : List LogRecord) → are_new [] (log_threads logs) ≡ true → (l : ℕ) (log : LogRecord) → slice_get logs l ≡ Some log → place (log_names logs).threads log.thread ≡ l
own_number logs own l log at =
    let (more, is) = (front_in (begun_names logs) logs).threads in
    ap (λ names. place names log.thread) is ∙ place_behind [] (log_threads logs) more l log.thread own (got_threads logs l log at)

module _ (kinds : List Kind) (logs : List LogRecord) (numbered : List ThreadSteps) (are : AreNumberedLogs (log_names logs) logs numbered) (own : are_new [] (log_threads logs) ≡ true) where
  abbrev Names : LogNames
  Names = log_names logs

  thread_is : (l : ℕ) (steps : ThreadSteps) → slice_get numbered l ≡ Some steps → steps.thread ≡ l
  thread_is l steps at =
      let (log, at_log) = got_below logs l (omega (arith, slice_get_within numbered l steps at, are.count)) in (are.each l log steps at_log at).thread

  -- an event is the same by its step
  noted_alike : (thread : ℕ) (noted : LogEvent) → plain_noted (noted_step thread (step_under Names thread noted)) ≡ plain_noted (noted_under kinds logs Names thread noted)
  noted_alike thread noted = by noted.event
    where
      by : (e : LineEvent) → plain_noted (noted_step thread (step_with Names thread noted.number e)) ≡ plain_noted (noted_under kinds logs Names thread (record { event = e; number = noted.number }))
      by (line.Fork own child) = refl
      by (line.Join own child) = refl
      by (line.Acquire own lock) = refl
      by (line.Release own lock) = refl
      by (line.Share own lock) = refl
      by (line.Unshare own lock) = refl
      by (line.Call own object method slots) = refl

  log_alike : (l : ℕ) (steps : ThreadSteps) (log : LogRecord) → slice_get numbered l ≡ Some steps → slice_get logs l ≡ Some log → plain_log (thread_log steps) ≡ plain_log (log_under kinds logs Names log)
  log_alike l steps log at_steps at_log =
      let one = are.each l log steps at_log at_steps in
      let placed : place Names.threads log.thread ≡ l = own_number logs own l log at_log in
      let events : map plain_noted (map (noted_step l) steps.steps.items) ≡ map plain_noted (map (noted_under kinds logs Names l) log.events)
      = ap (λ items. map plain_noted (map (noted_step l) items)) (one.steps.are Names (front_self Names))
      ∙ ap (map plain_noted) (map_map (noted_step l) (step_under Names l) log.events)
      ∙ map_map plain_noted (λ noted. noted_step l (step_under Names l noted)) log.events
      ∙ map_same _ _ (noted_alike l) log.events
      ∙ sym (map_map plain_noted (noted_under kinds logs Names l) log.events) in
      ap (λ t. plain_log (record { thread = t; events = map (noted_step t) steps.steps.items })) one.thread
      ∙ ap (λ es. record { thread = l; events = es }) events
      ∙ ap (λ t. plain_log (record { thread = t; events = map (noted_under kinds logs Names t) log.events })) (sym placed)

  pub all_alike : map plain_log (map thread_log numbered) ≡ map plain_log (thread_logs kinds logs)
  all_alike =
      map_map plain_log thread_log numbered
      ∙ maps_alike (λ steps. plain_log (thread_log steps)) (λ log. plain_log (log_under kinds logs Names log)) numbered logs are.count log_alike
      ∙ sym (map_map plain_log (log_under kinds logs Names) logs)

read_mapped : (xs : List ThreadSteps) (l : ℕ) (steps : ThreadSteps) → slice_get xs l ≡ Some steps → (get_or (map thread_log xs) l no_log).thread ≡ steps.thread
read_mapped [] l steps at = absurd (none-some steps at)
read_mapped (x ∷ xs) zero steps at = ap (λ (s : ThreadSteps). s.thread) (same_Some x steps at)
read_mapped (x ∷ xs) (suc l) steps at = read_mapped xs l steps at

-- ---- what numbering answers

module _ (logs : List LogRecord) (n : NumberedLogs) (are : AreNumberedLogs (log_names logs) logs n.logs.items) (own : are_new [] (log_threads logs) ≡ true)
    (roots : (thread : ℕ) → get_or n.roots.items thread false ≡ is_root_of (map thread_log n.logs.items) thread)
    (declared : (object : ℕ) → get_or n.declared.items object false ≡ nat_lt object (length (declared_names logs))) where
  pub numbered_alike : (kinds : List Kind) → AreAlike (logs_by_numbers n) (logs_under kinds logs)
  numbered_alike kinds = record {
    logs = all_alike kinds logs n.logs.items are own;
    roots = λ thread. roots thread ∙ same_roots (map thread_log n.logs.items) (thread_logs kinds logs) (all_alike kinds logs n.logs.items are own) thread;
    declared = λ object. declared object ∙ ap (nat_lt object) (length-map (declared_objects logs) (λ declared. declared.name));
  }

  pub own_threads_of : HaveOwnThreads (logs_by_numbers n)
  own_threads_of l m below above same = sym (is l below) ∙ same ∙ is m above
    where
      is : (l : ℕ) → l < length (map thread_log n.logs.items) → (log_at (logs_by_numbers n) l).thread ≡ l
      is l below =
          let within : l < length n.logs.items = subst (λ k. l < k) (length-map n.logs.items thread_log) below in
          let (steps, at) = got_below n.logs.items l within in
          read_mapped n.logs.items l steps at ∙ thread_is [] logs n.logs.items are own l steps at

step_in_range : (names : LogNames) (n : NumberedLogs) → length n.roots.items ≡ length names.threads → n.locks ≡ length names.locks → length n.declared.items ≡ length names.objects
    → (step : Step) → IsStepAmong names step → IsStepInRange n step
step_in_range names n threads locks objects (Fork child) among = omega (arith, among, threads)
step_in_range names n threads locks objects (Join child) among = omega (arith, among, threads)
step_in_range names n threads locks objects (Acquire lock number) among = (omega (arith, among.0, locks), among.1)
step_in_range names n threads locks objects (Release lock) among = omega (arith, among, locks)
step_in_range names n threads locks objects (Call object) among = omega (arith, among, objects)

-- a thread's number is below the number of logs, and so of threads
pub threads_below : (logs : List LogRecord) (names : LogNames) (numbered : List ThreadSteps) → AreNumberedLogs names logs numbered → length logs ≤ length names.threads
    → (l : ℕ) (steps : ThreadSteps) → slice_get numbered l ≡ Some steps → steps.thread < length names.threads
threads_below logs names numbered are fits l steps at =
    let within = slice_get_within numbered l steps at in
    let (log, at_log) = got_below logs l (omega (arith, within, are.count)) in
    let is = (are.each l log steps at_log at).thread in omega (arith, is, within, are.count, fits)

pub all_in_range : (logs : List LogRecord) (names : LogNames) (n : NumberedLogs) → AreNumberedLogs names logs n.logs.items → length logs ≤ length names.threads
    → length n.roots.items ≡ length names.threads → n.locks ≡ length names.locks → length n.declared.items ≡ length names.objects → length n.logs.items < 2 ^ 32 → AreInRange n
all_in_range logs names n are fits threads locks objects few = record {
  each = λ l steps at.
      let (log, at_log) = got_below logs l (omega (arith, slice_get_within n.logs.items l steps at, are.count)) in
      let one = are.each l log steps at_log at in
      let below = threads_below logs names n.logs.items are fits l steps at in
      record { thread = omega (arith, below, threads); steps = λ p step at_step. step_in_range names n threads locks objects step (one.steps.among p step at_step); few = one.few };
  few = few;
}

pub logs_fit : (logs : List LogRecord) → length logs ≤ length (begun_names logs).threads
logs_fit logs = omega (arith, length-map logs (λ log. log.thread))

pub both_true : (a b : Bool) → (a && b) ≡ true → (a ≡ true) × (b ≡ true)
both_true true b both = (refl, both)
both_true false b both = absurd (true≢false (sym both))
