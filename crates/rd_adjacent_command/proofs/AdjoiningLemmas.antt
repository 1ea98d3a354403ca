-- The events and their lines, with one line more.
use Rattle.std.proofs.Common.{◌≡◌, ℕ, cond, List, [], ◌∷◌, ◌++◌, refl, sym, ap, ◌∙◌}
use Rattle.std.specs.Prelude.{filter, map}
use Rattle.std.specs.List.{cons_option}
use Rattle.std.proofs.lemmas.List.{append-nil, map-append}
use Rattle.std.proofs.lemmas.List.Elements.{filter-append}
use Rattle.rd_adjacent_command.specs.Adjoining.{event_told, line_told}
use Rattle.rd_adjacent_command.specs.Outcomes.{event_lines}
use Rattle.rd_adjacent_command.specs.declared.adjoining.Adjoining.{Adjoining}
use Rattle.rd_ecl.specs.Kinds.{Kind}
use Rattle.rd_event.specs.declared.items.Line.{Line}
use Rattle.rd_event.specs.declared.items.Line.TheVariants.{Skip, Header, Thread, Object, Event}
use Rattle.rd_rules.proofs.EventsLemmas.{events_more}
use Rattle.rd_rules.specs.Events.{event_of, events_of}
use Rattle.rd_rules.specs.MayFollow.{accepted_of, is_event}
use Rattle.rd_rules.specs.declared.causes.Accepted.{Accepted}
use Rattle.rd_walk.proofs.WalkLemmas.{items_more}
use Rattle.rd_walk.specs.Analysis.{IsNextEntry}
use Rattle.rd_walk.specs.Walk.{Entry, items}
use Rattle.rd_wf.specs.declared.roster.Roster.{Roster}

line_is : (kinds : List Kind) (before : List Line) (number : ℕ) (item : Line)
    → map (λ (entry : Entry). entry.number) (cond (is_event item) (record { number = number; item = item } ∷ []) [])
    ≡ cons_option (line_told number (accepted_of kinds before item)) []
unfolding accepted_of
line_is kinds before number Skip = refl
line_is kinds before number (Header version) = refl
line_is kinds before number (Thread name) = refl
line_is kinds before number (Object name kind) = refl
line_is kinds before number (Event event) = refl

pub lines_more : (kinds : List Kind) (before : List Entry) (entry : Entry)
    → event_lines (before ++ entry ∷ []) ≡ event_lines before ++ cons_option (line_told entry.number (accepted_of kinds (items before) entry.item)) []
lines_more kinds before entry =
    ap (map (λ (e : Entry). e.number)) (filter-append (λ (e : Entry). is_event e.item) before (entry ∷ []))
    ∙ (map-append (λ (e : Entry). e.number) (filter (λ (e : Entry). is_event e.item) before) (filter (λ (e : Entry). is_event e.item) (entry ∷ []))
    ∙ ap (λ l. event_lines before ++ l) (line_is kinds (items before) entry.number entry.item))

-- a skipped line is none of an event
pub skipped_more : (before : List Entry) (number : ℕ) → event_lines (before ++ record { number = number; item = Skip } ∷ []) ≡ event_lines before
skipped_more before number =
    ap (map (λ (e : Entry). e.number)) (filter-append (λ (e : Entry). is_event e.item) before (record { number = number; item = Skip } ∷ [])
    ∙ append-nil (filter (λ (e : Entry). is_event e.item) before))

-- ---- events

told_is : (kinds : List Kind) (before : List Line) (item : Line) → event_told (accepted_of kinds before item) ≡ event_of kinds before item
unfolding accepted_of
told_is kinds before Skip = refl
told_is kinds before (Header version) = refl
told_is kinds before (Thread name) = refl
told_is kinds before (Object name kind) = refl
told_is kinds before (Event event) = refl

pub events_entry : (kinds : List Kind) (before : List Entry) (entry : Entry) (old new : Adjoining) (roster : Roster) (numbers : Accepted) → old.events.items ≡ events_of kinds (items before)
    → IsNextEntry kinds roster before entry.number entry.item numbers → new.events.items ≡ old.events.items ++ cons_option (event_told numbers) []
    → new.events.items ≡ events_of kinds (items (before ++ entry ∷ []))
events_entry kinds before entry old new roster numbers keeps next more =
    more
    ∙ ((λ i. keeps i ++ cons_option (event_told (next.numbers i)) [])
    ∙ (ap (λ o. events_of kinds (items before) ++ cons_option o []) (told_is kinds (items before) entry.item)
    ∙ (sym (events_more kinds (items before) entry.item) ∙ ap (events_of kinds) (sym (items_more before entry)))))

-- a skipped line is no event
pub events_skipped : (kinds : List Kind) (before : List Entry) (number : ℕ) → events_of kinds (items (before ++ record { number = number; item = Skip } ∷ [])) ≡ events_of kinds (items before)
events_skipped kinds before number =
    ap (events_of kinds) (items_more before (record { number = number; item = Skip }))
    ∙ (events_more kinds (items before) Skip ∙ append-nil (events_of kinds (items before)))
