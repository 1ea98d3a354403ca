-- Steps of events, one by one.
use Rattle.std.proofs.Common.{◌≡◌, ◌⊎◌, inl, inr, ℕ, zero, suc, ◌≤◌, Bool, true, false, if◌then◌else◌, List, [], ◌∷◌, ◌++◌, length, Some, slice_get, refl, sym, ap, ap₂, ◌∙◌, subst, arith, length-append}
use Rattle.std.proofs.lemmas.List.{append-nil, append_assoc, map-append}
use Rattle.std.proofs.lemmas.Option.{none-some, same_Some, slice_get_within}
use Rattle.rd_event.specs.declared.items.LineEvent.{LineEvent}
use Rattle.rd_event.specs.declared.items.LineEvent.TheVariants as line
use Rattle.rd_logs.specs.declared.lines.LogEvent.{LogEvent}
use Rattle.rd_logs.specs.WholeLogs.{LogRecord}
use Rattle.rd_numbered_logs.specs.LogNames.{LogNames, mentioning, mentioning_all, mentioning_in, with_name}
use Rattle.rd_numbered_logs.specs.Numbering.{AreNumberedLogs, AreSteps, IsFrontOf, IsNumberedLog, IsStepAmong, step_under}
use Rattle.rd_rules.specs.MayFollow.{is_among}
use Rattle.rd_turns.specs.declared.logs.Step.{Step}
use Rattle.rd_turns.specs.declared.logs.Step.TheVariants.{Fork, Join, Acquire, Release, Call}
use Rattle.rd_turns.specs.declared.logs.ThreadSteps.{ThreadSteps}

-- ---- names in front of others

abbrev Behind : List (List ℕ) → List (List ℕ) → Type 0
Behind names all = (more : List (List ℕ)) × (all ≡ names ++ more)

same_behind : (names : List (List ℕ)) → Behind names names
same_behind names = ([], sym (append-nil names))

then_behind : (a b c : List (List ℕ)) → Behind a b → Behind b c → Behind a c
then_behind a b c (one, first) (two, second) = (one ++ two, second ∙ ap (λ l. l ++ two) first ∙ append_assoc a one two)

with_behind : (names : List (List ℕ)) (name : List ℕ) → Behind names (with_name names name)
with_behind names name = by (is_among names name)
  where
    by : (b : Bool) → Behind names (if b then names else names ++ name ∷ [])
    by true = same_behind names
    by false = (name ∷ [], refl)

longer : (names all : List (List ℕ)) → Behind names all → length names ≤ length all
longer names all (more, is) = omega (arith, ap length is, length-append names more)

pub front_self : (names : LogNames) → IsFrontOf names names
front_self names = record { threads = same_behind names.threads; locks = same_behind names.locks; objects = same_behind names.objects }

pub front_then : (a b c : LogNames) → IsFrontOf a b → IsFrontOf b c → IsFrontOf a c
front_then a b c one two = record {
  threads = then_behind a.threads b.threads c.threads one.threads two.threads;
  locks = then_behind a.locks b.locks c.locks one.locks two.locks;
  objects = then_behind a.objects b.objects c.objects one.objects two.objects;
}

pub front_mention : (names : LogNames) (event : LineEvent) → IsFrontOf names (mentioning names event)
front_mention names (line.Fork own child) = record { threads = with_behind names.threads child; locks = same_behind names.locks; objects = same_behind names.objects }
front_mention names (line.Join own child) = record { threads = with_behind names.threads child; locks = same_behind names.locks; objects = same_behind names.objects }
front_mention names (line.Acquire own lock) = record { threads = same_behind names.threads; locks = with_behind names.locks lock; objects = same_behind names.objects }
front_mention names (line.Release own lock) = record { threads = same_behind names.threads; locks = with_behind names.locks lock; objects = same_behind names.objects }
front_mention names (line.Share own lock) = front_self names
front_mention names (line.Unshare own lock) = front_self names
front_mention names (line.Call own object method slots) = record { threads = same_behind names.threads; locks = same_behind names.locks; objects = with_behind names.objects object }

pub front_all : (names : LogNames) (events : List LogEvent) → IsFrontOf names (mentioning_all names events)
front_all names [] = front_self names
front_all names (noted ∷ events) = front_then names (mentioning names noted.event) _ (front_mention names noted.event) (front_all (mentioning names noted.event) events)

pub front_in : (names : LogNames) (logs : List LogRecord) → IsFrontOf names (mentioning_in names logs)
front_in names [] = front_self names
front_in names (log ∷ logs) = front_then names (mentioning_all names log.events) _ (front_all names log.events) (front_in (mentioning_all names log.events) logs)

pub threads_longer : (names all : LogNames) → IsFrontOf names all → length names.threads ≤ length all.threads
threads_longer names all front = longer names.threads all.threads front.threads

pub objects_longer : (names all : LogNames) → IsFrontOf names all → length names.objects ≤ length all.objects
objects_longer names all front = longer names.objects all.objects front.objects

-- ---- a step more

pub among_more : (names all : LogNames) → IsFrontOf names all → (step : Step) → IsStepAmong names step → IsStepAmong all step
among_more names all front (Fork child) among = omega (arith, among, longer names.threads all.threads front.threads)
among_more names all front (Join child) among = omega (arith, among, longer names.threads all.threads front.threads)
among_more names all front (Acquire lock number) among = (omega (arith, among.0, longer names.locks all.locks front.locks), among.1)
among_more names all front (Release lock) among = omega (arith, among, longer names.locks all.locks front.locks)
among_more names all front (Call object) among = omega (arith, among, longer names.objects all.objects front.objects)

pub got_last : {X : Type 0} (xs : List X) (y : X) (t : ℕ) (x : X) → slice_get (xs ++ y ∷ []) t ≡ Some x → (slice_get xs t ≡ Some x) ⊎ ((t ≡ length xs) × (x ≡ y))
got_last [] y zero x at = inr (refl, sym (same_Some y x at))
got_last [] y (suc t) x at = absurd (none-some x at)
got_last (z ∷ zs) y zero x at = inl at
got_last (z ∷ zs) y (suc t) x at = elim (got_last zs y t x at) [
  | inl before ↦ inl before
  | inr last ↦ (let same : t ≡ length zs = last.0 in inr (omega arith, last.1))
]

pub no_steps : (names : LogNames) (thread : ℕ) → AreSteps names thread [] []
no_steps names thread = record { are = λ all front. refl; among = λ p step at. absurd (none-some step at) }

pub steps_kept : (names all : LogNames) (thread : ℕ) (events : List LogEvent) (steps : List Step) → IsFrontOf names all → AreSteps names thread events steps → AreSteps all thread events steps
steps_kept names all thread events steps front are = record {
  are = λ more behind. are.are more (front_then names all more front behind);
  among = λ p step at. among_more names all front step (are.among p step at);
}

pub steps_more : (names next : LogNames) (thread : ℕ) (events : List LogEvent) (noted : LogEvent) (steps : List Step) (step : Step) → next ≡ mentioning names noted.event
    → AreSteps names thread events steps → ((all : LogNames) → IsFrontOf next all → step ≡ step_under all thread noted) → IsStepAmong next step
    → AreSteps next thread (events ++ noted ∷ []) (steps ++ step ∷ [])
steps_more names next thread events noted steps step is are one among =
    let front : IsFrontOf names next = subst (IsFrontOf names) (sym is) (front_mention names noted.event) in
    let kept = steps_kept names next thread events steps front are in
    record {
      are = λ all behind. ap₂ (λ l s. l ++ s ∷ []) (kept.are all behind) (one all behind) ∙ sym (map-append (step_under all thread) events (noted ∷ []));
      among = λ p own at. elim (got_last steps step p own at) [
        | inl before ↦ kept.among p own before
        | inr last ↦ subst (IsStepAmong next) (sym last.1) among
      ];
    }

-- ---- a log more

pub none_numbered : (names : LogNames) → AreNumberedLogs names [] []
none_numbered names = record { count = refl; each = λ l log steps at_log at_steps. absurd (none-some log at_log) }

pub numbered_more : (names next : LogNames) (logs : List LogRecord) (log : LogRecord) (numbered : List ThreadSteps) (steps : ThreadSteps) → IsFrontOf names next
    → AreNumberedLogs names logs numbered → IsNumberedLog next (length numbered) log steps → AreNumberedLogs next (logs ++ log ∷ []) (numbered ++ steps ∷ [])
numbered_more names next logs log numbered steps front are one = record {
  count = omega (arith, are.count, length-append logs (log ∷ []), length-append numbered (steps ∷ []));
  each = λ l own made at_own at_made. elim (got_last logs log l own at_own) [
    | inl before ↦ elim (got_last numbered steps l made at_made) [
      | inl made_before ↦ (let kept = are.each l own made before made_before in record { thread = kept.thread; steps = steps_kept names next l own.events made.steps.items front kept.steps; few = kept.few })
      | inr made_last ↦ absurd (let below = slice_get_within logs l own before in omega (arith, below, made_last.0, are.count))
    ]
    | inr last ↦ elim (got_last numbered steps l made at_made) [
      | inl made_before ↦ absurd (let below = slice_get_within numbered l made made_before in omega (arith, below, last.0, are.count))
      | inr made_last ↦ subst (λ n. IsNumberedLog next n own made) (sym made_last.0) (subst (λ r. IsNumberedLog next (length numbered) r made) (sym last.1) (subst (IsNumberedLog next (length numbered) log) (sym made_last.1) one))
    ]
  ];
}
