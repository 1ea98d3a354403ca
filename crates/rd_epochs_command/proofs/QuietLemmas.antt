-- What a line leaves that says nothing, and what the next line is for what is kept.
use Rattle.std.proofs.Common.{◌≡◌, ℕ, ◌+◌, ◌-◌, List, [], ◌∷◌, ◌++◌, cond, length, inl, refl, sym, ap, subst, ◌∙◌, arith}
use Rattle.std.proofs.lemmas.List.Sums.{sum_by_push}
use Rattle.rd_check_command.proofs.CheckLemmas.{event_line, quiet_tracks}
use Rattle.rd_ecl.specs.Kinds.{Kind}
use Rattle.rd_epochs_command.proofs.WatchLemmas.{nothing_item, watches_quiet, written_quiet}
use Rattle.rd_epochs_command.specs.Firsts.{accesses, first_texts}
use Rattle.rd_epochs_command.specs.Watching.{IsNextWatchedEvent, IsNextWatched, WatchLeads, memory_kinds}
use Rattle.rd_epochs_command.specs.declared.watching.FirstRaces.{FirstRaces}
use Rattle.rd_event.specs.declared.events.Event.{Event as Numbered}
use Rattle.rd_event.specs.declared.items.Line.{Line}
use Rattle.rd_rules.specs.MayFollow.{MayFollow, accepted_of, events, is_event}
use Rattle.rd_rules.specs.declared.causes.Accepted.TheVariants as accepted
use Rattle.rd_rules.specs.declared.causes.Accepted.{Accepted}
use Rattle.rd_walk.specs.Analysis.{IsNextEntry}
use Rattle.rd_walk.specs.Walk.{Entry, items}
use Rattle.rd_wf.specs.Roster.{object_names_in}
use Rattle.rd_wf.specs.declared.roster.Roster.{Roster}
use Rattle.rd_wf.proofs.RosterLemmas.{object_keys}

-- the line that is handed over is the next one
pub next_line : {number : ℕ} (kinds : List Kind) (start now : FirstRaces) (before : List Entry) (roster : Roster) (item : Line) (numbers : Accepted) → WatchLeads kinds start before now
    → IsNextEntry kinds roster before number item numbers → IsNextWatched before now number item numbers
next_line kinds start now before roster item numbers leads next = record {
  watches = leads.watches;
  next = record {
    tracks = leads.watches.tracks;
    limits = next.limits;
    usable = next.usable;
    follows = subst (λ k. MayFollow k next.limits (items before) item) leads.kinds_are next.follows;
    few = next.few;
    told_as = next.numbers ∙ ap (λ k. accepted_of k (items before) item) leads.kinds_are;
  };
  rising = next.rising;
}

module _ (kinds : List Kind) (start now : FirstRaces) (before : List Entry) (entry : Entry) (roster : Roster)
    (leads : WatchLeads kinds start before now) (next : IsNextEntry kinds roster before entry.number entry.item accepted.Nothing) where
  line : IsNextWatched before now entry.number entry.item accepted.Nothing
  line = next_line kinds start now before roster entry.item accepted.Nothing leads next

  pub quiet_leads : WatchLeads kinds start (before ++ entry ∷ []) now
  quiet_leads =
      let (event, none) = nothing_item before now entry line in record {
        kinds_are = leads.kinds_are;
        starts = leads.starts;
        watches = watches_quiet before now entry accepted.Nothing line now event
            (quiet_tracks memory_kinds now.tracker (items before) entry.item accepted.Nothing line.next (inl refl)) leads.watches.holds (omega (arith, none)) refl leads.watches.lessons leads.watches.each;
      }

  pub quiet_text : first_texts (before ++ entry ∷ []) ≡ first_texts before
  quiet_text = written_quiet before now entry accepted.Nothing line (nothing_item before now entry line).0

-- an event is the next one, at its place
module _ (kinds : List Kind) (start now : FirstRaces) (before : List Entry) (number : ℕ) (item : Line) (roster : Roster) (numbers : Accepted) (e : Numbered) (is : numbers ≡ accepted.Event e)
    (leads : WatchLeads kinds start before now) (next : IsNextEntry kinds roster before number item numbers) where
  event_next_line : IsNextWatched before now number item (accepted.Event e)
  event_next_line = subst (IsNextWatched before now number item) is (next_line kinds start now before roster item numbers leads next)

  pub counted : (count : ℕ) → count ≡ events (items before ++ item ∷ []) → count ≡ length (accesses before) + 1
  counted count is_count =
      let (event, line, same) = event_line memory_kinds (items before) item e event_next_line.next.told_as in
      is_count ∙ sum_by_push (λ l. cond (is_event l) 1 0) (items before) item ∙ ap (λ l. events (items before) + cond (is_event l) 1 0) line
      ∙ ap (λ n. n + 1) (sym leads.watches.tracks.told.told.counted)

  pub ready : (count : ℕ) → count ≡ events (items before ++ item ∷ []) → IsNextWatchedEvent before now number item e (object_names_in roster) (count - 1)
  ready count is_count = record {
    line = event_next_line;
    named = object_keys kinds roster (items before ++ item ∷ []) next.stands;
    at_end = omega (arith, counted count is_count);
  }
