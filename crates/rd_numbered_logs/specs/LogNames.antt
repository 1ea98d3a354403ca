-- The names that logs mention, by which threads, locks and objects are numbered. This project's profile.
use Rattle.std.specs.Prelude.{◌≡◌, ⊤, ℕ, Bool, true, not, ◌&&◌, if◌then◌else◌, List, [], ◌∷◌, ◌++◌, flat_map, fold, map}
use Rattle.rd_event.specs.declared.items.LineEvent.{LineEvent}
use Rattle.rd_event.specs.declared.items.LineEvent.TheVariants.{Fork, Join, Acquire, Release, Call}
use Rattle.rd_logs.specs.declared.lines.LogEvent.{LogEvent}
use Rattle.rd_logs.specs.declared.lines.LogObject.{LogObject}
use Rattle.rd_logs.specs.WholeLogs.{LogRecord}
use Rattle.rd_rules.specs.MayFollow.{is_among}

-- The names of threads, of locks and of objects, each once. A name's number is its place among them (`place`)
pub record LogNames : Type 0 where
  pub threads : List (List ℕ)
  pub locks : List (List ℕ)
  pub objects : List (List ℕ)

-- the names with this one, which comes last if it is new
abbrev pub with_name : List (List ℕ) → List ℕ → List (List ℕ)
with_name names name = if is_among names name then names else names ++ name ∷ []

-- and with those that an event mentions beside its own thread
abbrev pub mentioning : LogNames → LineEvent → LogNames
mentioning names (Fork thread child) = record { threads = with_name names.threads child; locks = names.locks; objects = names.objects }
mentioning names (Join thread child) = record { threads = with_name names.threads child; locks = names.locks; objects = names.objects }
mentioning names (Acquire thread lock) = record { threads = names.threads; locks = with_name names.locks lock; objects = names.objects }
mentioning names (Release thread lock) = record { threads = names.threads; locks = with_name names.locks lock; objects = names.objects }
mentioning names (Call thread object method slots) = record { threads = names.threads; locks = names.locks; objects = with_name names.objects object }
mentioning names _ = names

abbrev pub mentioning_all : LogNames → List LogEvent → LogNames
mentioning_all names events = fold (λ front noted. mentioning front noted.event) names events

-- what an event names beside its own thread is among these
abbrev pub IsMentioned : LogNames → LineEvent → Type 0
IsMentioned names (Fork thread child) = is_among names.threads child ≡ true
IsMentioned names (Join thread child) = is_among names.threads child ≡ true
IsMentioned names (Acquire thread lock) = is_among names.locks lock ≡ true
IsMentioned names (Release thread lock) = is_among names.locks lock ≡ true
IsMentioned names (Call thread object method slots) = is_among names.objects object ≡ true
IsMentioned names _ = ⊤

-- ---- the names in logs

abbrev pub log_threads : List LogRecord → List (List ℕ)
log_threads logs = map (λ log. log.thread) logs

abbrev pub declared_objects : List LogRecord → List LogObject
declared_objects logs = flat_map (λ log. log.objects) logs

abbrev pub declared_names : List LogRecord → List (List ℕ)
declared_names logs = map (λ object. object.name) (declared_objects logs)

-- behind these, no name stands twice, nor among these
abbrev pub are_new : List (List ℕ) → List (List ℕ) → Bool
are_new front [] = true
are_new front (name ∷ names) = not (is_among front name) && are_new (front ++ name ∷ []) names

-- no two logs are of one thread, and no object is declared twice
abbrev pub have_own_names : List LogRecord → Bool
have_own_names logs = are_new [] (log_threads logs) && are_new [] (declared_names logs)

-- the names: first those of the logs' threads and of the declared objects, in the order of the logs and of their lines, and then those that events
-- mention, each at its first mention
abbrev pub begun_names : List LogRecord → LogNames
begun_names logs = record { threads = log_threads logs; locks = []; objects = declared_names logs }

abbrev pub mentioning_in : LogNames → List LogRecord → LogNames
mentioning_in names logs = fold (λ front log. mentioning_all front log.events) names logs

abbrev pub log_names : List LogRecord → LogNames
log_names logs = mentioning_in (begun_names logs) logs
