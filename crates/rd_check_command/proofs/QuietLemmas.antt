-- What a line leaves that is neither a root nor an event.
use Rattle.std.proofs.Common.{◌≡◌, ◌≢◌, ◌⊎◌, ℕ, List, [], ◌∷◌, ◌++◌, inl, inr, sym, ◌∙◌}
use Rattle.std.proofs.lemmas.List.{append-nil}
use Rattle.rd_event.specs.declared.events.Call.{Call as CallOf}
use Rattle.rd_event.specs.declared.events.Event.TheVariants as numbered
use Rattle.rd_ecl.specs.Kinds.{Kind, kinds_of}
use Rattle.rd_wf.specs.declared.roster.Roster.{Roster}
use Rattle.rd_rules.specs.declared.causes.Accepted.{Accepted}
use Rattle.rd_rules.specs.declared.causes.Accepted.TheVariants as accepted
use Rattle.rd_walk.specs.Analysis.{IsNextEntry}
use Rattle.rd_check_command.specs.Checking.{CheckLeads, IsNextLine}
use Rattle.rd_check_command.specs.Checked.{race_texts}
use Rattle.rd_walk.specs.Walk.{Entry, items}
use Rattle.rd_check_command.specs.declared.checking.Check.{Check}
use Rattle.rd_check_command.proofs.CheckLemmas.{checks_quiet, next_line, quiet_tracks, texts_quiet}

-- a line that is neither a root nor an event leaves all as it is
module _ (kinds : List Kind) (start now : Check) (before : List Entry) (entry : Entry) (roster : Roster) (numbers : Accepted)
    (quiet : (numbers ≡ accepted.Nothing) ⊎ ((object : ℕ) × (kind : ℕ) × (numbers ≡ accepted.Object object kind)))
    (leads : CheckLeads kinds start before now) (next : IsNextEntry kinds roster before entry.number entry.item numbers) where
  line : IsNextLine (kinds_of start.spec.now) now.tracker (items before) entry.item numbers
  line = next_line kinds start now before roster entry.item numbers leads next

  no_call : (call : CallOf) → numbers ≢ accepted.Event (numbered.Call call)
  no_call call e = elim quiet [ inl nothing ↦ cc | inr object ↦ (let is = object.2 in cc) ]

  pub quiet_leads : CheckLeads kinds start (before ++ entry ∷ []) now
  quiet_leads = record {
    kinds_are = leads.kinds_are;
    checks = checks_quiet start now now.tracker before entry leads.checks
        (quiet_tracks (kinds_of start.spec.now) now.tracker (items before) entry.item numbers line quiet) numbers line no_call;
  }

  pub quiet_text : race_texts start.form start.spec.now (before ++ entry ∷ []) ≡ race_texts start.form start.spec.now before ++ []
  quiet_text = texts_quiet start.form start.spec.now now.tracker before entry numbers line no_call ∙ sym (append-nil (race_texts start.form start.spec.now before))
