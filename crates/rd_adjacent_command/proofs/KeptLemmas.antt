-- How many events are kept, and how many lines of events.
use Rattle.std.proofs.Common.{◌≡◌, suc, ◌<◌, Bool, true, false, cond, List, [], ◌∷◌, length, refl, sym, ap, ◌∙◌, arith}
use Rattle.std.specs.Prelude.{filter, map}
use Rattle.rd_adjacent_command.specs.Adjoining.{AdjoinsNamed}
use Rattle.rd_adjacent_command.specs.Outcomes.{event_lines}
use Rattle.rd_adjacent_command.specs.declared.adjoining.Adjoining.{Adjoining}
use Rattle.rd_ecl.specs.Kinds.{Kind}
use Rattle.rd_event.specs.declared.items.Line.{Line}
use Rattle.rd_rewriting.proofs.KeepingLemmas.{events_counted, follow_told}
use Rattle.rd_rewriting.proofs.LineLemmas.{lines_kept}
use Rattle.rd_rules.specs.MayFollow.{is_event}
use Rattle.rd_walk.specs.Walk.{Entry, items}
use Rattle.rd_wf.specs.declared.roster.Roster.{Roster}

-- events are few
pub kept_few : (kinds : List Kind) (lines : List Line) (now : Adjoining) (names : Roster) → AdjoinsNamed kinds now names lines → length now.events.items < 4294967296
kept_few kinds lines now names kept =
    let few = (follow_told kinds lines kept.named.keeps.follow).told.formed.bounded.few_events in omega (arith, few, ap length kept.events)

-- as many as lines of events
pub as_many : (kinds : List Kind) (lines : List Line) (now : Adjoining) (names : Roster) → AdjoinsNamed kinds now names lines → length now.events.items ≡ length now.kept.lines
as_many kinds lines now names kept =
    ap length kept.events ∙ (events_counted kinds lines kept.named.keeps.follow ∙ sym (lines_kept kinds now.kept lines kept.named.keeps))

-- and each has a line
lines_counted : (entries : List Entry) → length (event_lines entries) ≡ length (filter is_event (items entries))
lines_counted [] = refl
lines_counted (entry ∷ entries) = by (is_event entry.item) (lines_counted entries)
  where
    by : (b : Bool) → length (event_lines entries) ≡ length (filter is_event (items entries))
        → length (map (λ (e : Entry). e.number) (cond b (entry ∷ filter (λ (e : Entry). is_event e.item) entries) (filter (λ (e : Entry). is_event e.item) entries)))
        ≡ length (cond b (entry.item ∷ filter is_event (items entries)) (filter is_event (items entries)))
    by true same = ap suc same
    by false same = same

pub lines_same : (kinds : List Kind) (entries : List Entry) (now : Adjoining) (names : Roster) → AdjoinsNamed kinds now names (items entries) → now.lines.items ≡ event_lines entries
    → length now.lines.items ≡ length now.events.items
lines_same kinds entries now names kept are =
    ap length are
    ∙ (lines_counted entries ∙ (sym (events_counted kinds (items entries) kept.named.keeps.follow) ∙ sym (ap length kept.events)))
