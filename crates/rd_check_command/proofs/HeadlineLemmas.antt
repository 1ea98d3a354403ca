-- What `check` writes and answers, in the words of accepted lines and of races.
use Rattle.std.proofs.Common.{◌≡◌, sym, true≢false, ◌<◌, ◌^◌, inl, inr, ℕ, zero, suc, ◌+◌, cond, MatchOption, List, length, Option, Some, None, is_some, refl, subst, arith}
use Rattle.rd_base.specs.Limits.{AreUsable}
use Rattle.rd_base.specs.declared.limits.Limits.{Limits}
use Rattle.rd_races.proofs.RaceLemmas.{latest_is}
use Rattle.rd_races.specs.Races.{Reported, IsLatest}
use Rattle.rd_races.specs.RaceTests.{latest_of}
use Rattle.rd_event.specs.declared.events.Event.{Event}
use Rattle.rd_order.specs.Counts.{Counts}
use Rattle.rd_hb.proofs.ClockTestLemmas.{clock_at_is}
use Rattle.rd_io.proofs.SaidLemmas.{said_reading}
use Rattle.rd_io.specs.Lines.{Stop, reading}
use Rattle.rd_object.specs.declared.shapes.ReplayEnd.TheVariants.{Exact, Differs, NotShipped}
use Rattle.rd_object.specs.declared.shapes.ReplayEnd.{ReplayEnd}
use Rattle.rd_replay_command.proofs.ReportLemmas.{ends_so}
use Rattle.rd_report.specs.Endings.{is_shown}
use Rattle.rd_replay_command.specs.Replaying.{recorded_of, replay_of}
use Rattle.rd_check_command.proofs.VerdictLemmas.{verdicts}
use Rattle.rd_check_command.specs.Verdicts.{kinds_of_objects}
use Rattle.std.proofs.lemmas.Bool.Decides.{Decides-eqb}
use Rattle.std.specs.Prelude.{IsTrue}
use Rattle.rd_rules.proofs.EventsLemmas.{accepted_told, told_formed}
use Rattle.rd_ecl.specs.Kinds.{kinds_of}
use Rattle.rd_ecl.specs.Specified.{SpecifiedKind}
use Rattle.rd_walk.proofs.AcceptedLemmas.{trace_accepted}
use Rattle.rd_walk.proofs.AcceptedLineLemmas.{trace_walk}
use Rattle.rd_races.specs.Commuting.{Commute, calls_commute}
use Rattle.rd_check_command.proofs.ReportLemmas.{passing, texts_report}
use Rattle.rd_check_command.specs.Checked.{check_outcome, entry_events, race_texts, races_before, races_of}
use Rattle.rd_replay_command.proofs.DeclaredLemmas.{calls_declared}
use Rattle.rd_check_command.specs.Reports.{IsChecked}
use Rattle.rd_json.specs.declared.forms.Form.{Form}
use Rattle.rd_walk.specs.Walk.{ending_of, entries_of, items, trace_of}

-- ---- how many calls are reported

-- the verdict is shown only where no call is reported and the replay is exact
shown_where : (races : ℕ) (replay : ReplayEnd) → IsTrue (is_shown races replay) → (races ≡ 0) × (replay ≡ Exact)
shown_where races Exact shown = ((Decides-eqb races 0).0 shown, refl)
shown_where races (Differs line expected) shown = absurd (true≢false (sym shown))
shown_where races NotShipped shown = absurd (true≢false (sym shown))

module _ (kinds : List SpecifiedKind) where
  counted_before : (es : List Event) (n : ℕ) → Counts (Reported (Commute kinds) es) n (races_before (calls_commute kinds) es n)
  unfolding races_before
  counted_before es zero = refl
  counted_before es (suc n) = by (counted_before es n) (latest_of (calls_commute kinds) es n) (latest_is (Commute kinds) (calls_commute kinds) (passing kinds) es n)
    where
      by : Counts (Reported (Commute kinds) es) n (races_before (calls_commute kinds) es n) → (o : Option ℕ) → MatchOption o (¬ (Reported (Commute kinds) es n)) (IsLatest (Commute kinds) es n)
          → Counts (Reported (Commute kinds) es) (suc n) (races_before (calls_commute kinds) es n + cond (is_some o) 1 0)
      by rest None none = inr (none, subst (Counts (Reported (Commute kinds) es) n) (omega arith) rest)
      by rest (Some i) is = inl ((i, is.racing), (races_before (calls_commute kinds) es n, omega arith, rest))

  pub checked : (form : Form) (limits : Limits) → AreUsable limits → limits.threads < 2 ^ 32 → (stop : Stop) (bytes : List ℕ)
      → IsChecked form kinds limits stop bytes (check_outcome form kinds (trace_of (kinds_of kinds) limits stop bytes))
  unfolding races_of
  checked form limits usable range stop bytes =
      let walked = trace_of (kinds_of kinds) limits stop bytes in
      let entries = entries_of walked in
      let es = entry_events kinds entries in
      let accepted = trace_accepted (kinds_of kinds) limits usable range stop bytes in
      let declared = calls_declared (kinds_of kinds) entries accepted in record {
        entries = entries;
        ending = ending_of walked;
        lines = reading limits.line limits.bytes stop bytes;
        says = said_reading limits.line limits.bytes stop bytes;
        walk = trace_walk (kinds_of kinds) limits stop bytes;
        formed = told_formed (kinds_of kinds) (items entries) (accepted_told (kinds_of kinds) (items entries) accepted);
        races = race_texts form kinds entries;
        report = texts_report kinds form entries;
        clocks = clock_at_is es;
        count = races_of kinds entries;
        counted = counted_before es (length es);
        declared = declared;
        replay = replay_of (kinds_of kinds) entries;
        replays = ends_so (kinds_of_objects kinds entries) (recorded_of (kinds_of kinds) entries) declared (replay_of (kinds_of kinds) entries) refl;
        verdict = λ more are shown. let is = shown_where (races_of kinds entries) (replay_of (kinds_of kinds) entries) shown in
            verdicts more kinds are entries accepted is.0 is.1;
        text = refl;
        status = refl;
      }
