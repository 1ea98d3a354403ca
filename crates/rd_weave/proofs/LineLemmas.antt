-- Lines one by one.
use Rattle.std.proofs.Common.{◌≡◌, inl, inr, ℕ, zero, suc, ◌+◌, ◌<◌, ◌≤◌, Bool, true, false, if◌then◌else◌, List, [], ◌∷◌, ◌++◌, length, map, take, drop, get_or, reverse, set, Some, slice_get, refl, sym, ap, ◌∙◌, arith}
use Rattle.rd_event.specs.declared.items.Line.TheVariants.{Event, Object, Thread}
use Rattle.std.specs.Option.{option_map}
use Rattle.std.proofs.lemmas.Bool.{cases_eq}
use Rattle.std.proofs.lemmas.List.{append-nil, get_or-set_other, get_or-set_same, length-append, map-append, reverse-append}
use Rattle.std.specs.List.{cons_option}
use Rattle.std.proofs.lemmas.List.Elements.{filter_map-append}
use Rattle.std.proofs.lemmas.List.Concat.{flat_map-append}
use Rattle.std.proofs.lemmas.Option.{none-some, same_Some}
use Rattle.rd_logs.specs.declared.lines.LogEvent.{LogEvent}
use Rattle.rd_numbered_logs.specs.LogNames.{declared_objects}
use Rattle.rd_numbered_logs.proofs.LogLemmas.{got_below, map_map}
use Rattle.rd_numbered_logs.proofs.NameLemmas.{item_dropped, item_taken}
use Rattle.rd_weave.proofs.CountLemmas.{given_apart, given_next}
use Rattle.rd_logs.specs.declared.whole.ReadLog.{ReadLog}
use Rattle.rd_logs.specs.WholeLogs.{LogRecord, record_of}
use Rattle.rd_weave.specs.Answers.{placed_lines, events_of_log, object_lines, rest_events, root_lines}
use Rattle.rd_weavings.specs.declared.spots.Spot.{Spot}
use Rattle.rd_weavings.specs.Logs.{given}

-- what is left of each log behind these spots, the last event first
abbrev pub AreRests : List LogRecord → List Spot → List (List LogEvent) → Type 0
AreRests logs spots rests = (l : ℕ) → get_or rests l [] ≡ reverse (drop (given spots l) (events_of_log logs l))

-- one log more that may be a root
pub root_next : (is_root : ℕ → Bool) (number : ℕ) (log : LogRecord) (logs : List LogRecord)
    → root_lines is_root number (log ∷ logs) ≡ (if is_root number then Thread log.thread ∷ [] else []) ++ root_lines is_root (number + 1) logs
root_next is_root number log logs = by (is_root number)
  where
    by : (b : Bool) → (if b then Thread log.thread ∷ root_lines is_root (number + 1) logs else root_lines is_root (number + 1) logs) ≡ (if b then Thread log.thread ∷ [] else []) ++ root_lines is_root (number + 1) logs
    by true = refl
    by false = refl

-- the objects of one log more
pub objects_next : (logs : List LogRecord) (i : ℕ) (log : LogRecord) → i < length logs → log ≡ get_or logs i log
    → object_lines (take (i + 1) logs) ≡ object_lines (take i logs) ++ map (λ declared. Object declared.name declared.kind) log.objects
objects_next logs i log within is =
    ap object_lines (item_taken logs i log within is)
    ∙ ap (map (λ declared. Object declared.name declared.kind)) (flat_map-append (λ (log : LogRecord). log.objects) (take i logs) (log ∷ []) ∙ ap (λ objects. declared_objects (take i logs) ++ objects) (append-nil log.objects))
    ∙ map-append (λ declared. Object declared.name declared.kind) (declared_objects (take i logs)) log.objects

-- ---- what is left of each log

-- one log more is turned around
pub turned_one : (rests start : List (List LogEvent)) (i : ℕ) (own : List LogEvent) → i < length rests → own ≡ reverse (get_or start i [])
    → ((l : ℕ) → l < i → get_or rests l [] ≡ reverse (get_or start l [])) → ((l : ℕ) → i ≤ l → get_or rests l [] ≡ get_or start l [])
    → ((l : ℕ) → l < i + 1 → get_or (set rests i own) l [] ≡ reverse (get_or start l [])) × ((l : ℕ) → i + 1 ≤ l → get_or (set rests i own) l [] ≡ get_or start l [])
turned_one rests start i own within is before behind = (
  λ l below. elim (cases_eq i l) [
    | inl same ↦ ap (λ k. get_or (set rests i own) k []) (sym same) ∙ get_or-set_same rests i own [] within ∙ is ∙ ap (λ k. reverse (get_or start k [])) same
    | inr other ↦ get_or-set_other rests i l own [] (λ same. other (sym same)) ∙ before l (omega (arith, below, other))
  ],
  λ l above. get_or-set_other rests i l own [] (λ same. absurd (omega (arith, above, same))) ∙ behind l (omega (arith, above)),
)

-- the next event of a log stands last
module _ (logs : List LogRecord) (spots : List Spot) (i : ℕ) (s : Spot) (within : i < length spots) (is : s ≡ get_or spots i s) (rests : List (List LogEvent)) (are : AreRests logs (take i spots) rests)
    (next : s.place ≡ given (take i spots) s.log) (inside : s.place < length (events_of_log logs s.log)) where
  abbrev events : List LogEvent
  events = events_of_log logs s.log

  pub next_event : (noted : LogEvent) × (slice_get events s.place ≡ Some noted) × (get_or rests s.log [] ≡ reverse (drop (s.place + 1) events) ++ noted ∷ [])
  next_event =
      let (noted, at) = got_below events s.place inside in
      let front : drop s.place events ≡ noted ∷ drop (s.place + 1) events = item_dropped events s.place noted inside (got_item events s.place noted at) in (
        noted,
        at,
        are s.log ∙ ap (λ n. reverse (drop n events)) (sym next) ∙ ap reverse front ∙ reverse-append (noted ∷ []) (drop (s.place + 1) events),
      )
    where
      got_item : (xs : List LogEvent) (k : ℕ) (x : LogEvent) → slice_get xs k ≡ Some x → x ≡ get_or xs k x
      got_item [] k x at = absurd (none-some x at)
      got_item (y ∷ ys) zero x at = sym (same_Some y x at)
      got_item (y ∷ ys) (suc k) x at = got_item ys k x at

  pub taken_next : (s.log < length rests) → AreRests logs (take (i + 1) spots) (set rests s.log (reverse (drop (s.place + 1) events)))
  taken_next known l = elim (cases_eq s.log l) [
    | inl same ↦
        ap (λ k. get_or (set rests s.log (reverse (drop (s.place + 1) events))) k []) (sym same)
        ∙ get_or-set_same rests s.log (reverse (drop (s.place + 1) events)) [] known
        ∙ ap (λ n. reverse (drop n events)) (ap (λ n. n + 1) next ∙ sym (given_next spots i s within is))
        ∙ ap (λ k. reverse (drop (given (take (i + 1) spots) k) (events_of_log logs k))) same
    | inr other ↦
        get_or-set_other rests s.log l (reverse (drop (s.place + 1) events)) [] (λ same. other (sym same)) ∙ are l
        ∙ ap (λ n. reverse (drop n (events_of_log logs l))) (sym (given_apart spots i s within is l other))
  ]

  pub lines_next : (noted : LogEvent) → slice_get events s.place ≡ Some noted → placed_lines logs (take (i + 1) spots) ≡ placed_lines logs (take i spots) ++ Event noted.event ∷ []
  lines_next noted at =
      ap (placed_lines logs) (item_taken spots i s within is)
      ∙ filter_map-append (λ spot. option_map (λ noted. Event noted.event) (slice_get (events_of_log logs spot.log) spot.place)) (take i spots) (s ∷ [])
      ∙ ap (λ o. placed_lines logs (take i spots) ++ cons_option o []) (ap (option_map (λ noted. Event noted.event)) at)

-- a log of which an event is left is one of these
pub known_rest : (rests : List (List LogEvent)) (l : ℕ) (noted : LogEvent) (front : List LogEvent) → get_or rests l [] ≡ front ++ noted ∷ [] → l < length rests
known_rest [] l noted front last = absurd (let n = ap length last in omega (arith, n, length-append front (noted ∷ [])))
known_rest (r ∷ rs) zero noted front last = omega arith
known_rest (r ∷ rs) (suc l) noted front last = omega (arith, known_rest rs l noted front last)

-- what is left before an event is taken are the events
pub rest_is : (logs : List ReadLog) (l : ℕ) → get_or (rest_events logs) l [] ≡ events_of_log (map record_of logs) l
rest_is logs l = sym (ap (λ lists. get_or lists l []) (map_map (λ (log : LogRecord). log.events) record_of logs))
