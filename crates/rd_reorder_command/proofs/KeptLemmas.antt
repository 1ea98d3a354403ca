-- What `reorder` keeps, with one line more.
use Rattle.std.proofs.Common.{◌≡◌, ℕ, List, [], ◌∷◌, ◌++◌, length, map, refl, sym, ap, ◌∙◌}
use Rattle.std.specs.List.{cons_option}
use Rattle.std.proofs.lemmas.List.{append-nil, length-map, map-append}
use Rattle.rd_ecl.specs.Kinds.{Kind}
use Rattle.rd_event.specs.declared.items.Line.{Line}
use Rattle.rd_event.specs.declared.items.Line.TheVariants.{Skip, Header, Thread, Object, Event}
use Rattle.rd_reorder_command.specs.Reordering.{KeepsEvents, event_kept}
use Rattle.rd_reorder_command.specs.Values.{without_values}
use Rattle.rd_reorder_command.specs.declared.reordering.Reordering.{Reordering}
use Rattle.rd_rewriting.proofs.KeepingLemmas.{events_counted}
use Rattle.rd_rewriting.proofs.LineLemmas.{lines_kept}
use Rattle.rd_rewriting.specs.Keeping.{KeepsLines}
use Rattle.rd_rules.proofs.EventsLemmas.{events_more}
use Rattle.rd_rules.specs.Events.{event_of, events_of}
use Rattle.rd_rules.specs.MayFollow.{accepted_of}
use Rattle.rd_rules.specs.declared.causes.Accepted.{Accepted}
use Rattle.rd_walk.proofs.WalkLemmas.{items_more}
use Rattle.rd_walk.specs.Analysis.{IsNextEntry}
use Rattle.rd_walk.specs.Walk.{Entry, items}
use Rattle.rd_wf.specs.declared.roster.Roster.{Roster}

kept_is : (kinds : List Kind) (before : List Line) (item : Line) → cons_option (event_kept (accepted_of kinds before item)) [] ≡ map without_values (cons_option (event_of kinds before item) [])
unfolding accepted_of
kept_is kinds before Skip = refl
kept_is kinds before (Header version) = refl
kept_is kinds before (Thread name) = refl
kept_is kinds before (Object name kind) = refl
kept_is kinds before (Event event) = refl

pub events_entry : (kinds : List Kind) (before : List Entry) (entry : Entry) (old new : Reordering) (roster : Roster) (numbers : Accepted) → KeepsEvents kinds old (items before)
    → IsNextEntry kinds roster before entry.number entry.item numbers → new.events.items ≡ old.events.items ++ cons_option (event_kept numbers) []
    → KeepsEvents kinds new (items (before ++ entry ∷ []))
events_entry kinds before entry old new roster numbers keeps next more =
    let lines = items before in
    more
    ∙ ((λ i. keeps i ++ cons_option (event_kept (next.numbers i)) [])
    ∙ (ap (λ l. map without_values (events_of kinds lines) ++ l) (kept_is kinds lines entry.item)
    ∙ (sym (map-append without_values (events_of kinds lines) (cons_option (event_of kinds lines entry.item) []))
    ∙ (ap (map without_values) (sym (events_more kinds lines entry.item)) ∙ ap (λ l. map without_values (events_of kinds l)) (sym (items_more before entry))))))

-- a skipped line is no event
pub events_skipped : (kinds : List Kind) (before : List Entry) (number : ℕ) → events_of kinds (items (before ++ record { number = number; item = Skip } ∷ [])) ≡ events_of kinds (items before)
events_skipped kinds before number =
    ap (events_of kinds) (items_more before (record { number = number; item = Skip }))
    ∙ (events_more kinds (items before) Skip ∙ append-nil (events_of kinds (items before)))

-- as many events as lines of events
pub as_many : (kinds : List Kind) (now : Reordering) (lines : List Line) → KeepsLines kinds now.kept lines → KeepsEvents kinds now lines → length now.events.items ≡ length now.kept.lines
as_many kinds now lines keeps events =
    ap length events ∙ (length-map (events_of kinds lines) without_values ∙ (events_counted kinds lines keeps.follow ∙ sym (lines_kept kinds now.kept lines keeps)))
