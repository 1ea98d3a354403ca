-- What is written before a read fails is a front of what is written for all bytes.
use Rattle.std.proofs.Common.{◌≡◌, ◌<◌, ◌^◌, ◌⊎◌, inl, inr, ℕ, ◌+◌, List, [], ◌∷◌, ◌++◌, Result, Ok, Err, refl, sym, ap, subst, ◌∙◌}
use Rattle.rd_base.specs.Bytes.{IsFront}
use Rattle.rd_base.specs.Limits.{AreUsable}
use Rattle.rd_base.specs.declared.limits.Limits.{Limits}
use Rattle.rd_json.specs.Forms.{ending_in}
use Rattle.rd_json.specs.declared.forms.Form.{Form}
use Rattle.rd_rules.specs.Events.{AreAccepted}
use Rattle.rd_event.specs.declared.items.Line.{Line}
use Rattle.rd_io.proofs.FaultLemmas.{front_reading}
use Rattle.rd_io.specs.Lines.{IsFrontOfReading, Stop, Reading, reading}
use Rattle.rd_io.specs.Lines.LinesEnding.{at_end, bytes_limit, faulted, line_too_long, no_final_newline}
use Rattle.rd_io.specs.Lines.Reading.{stops, line}
use Rattle.rd_io.specs.Lines.Stop.{fault}
use Rattle.rd_ecl.specs.Kinds.{Kind, kinds_of}
use Rattle.rd_ecl.specs.Specified.{SpecifiedKind}
use Rattle.rd_walk.proofs.AcceptedLemmas.{trace_accepted}
use Rattle.rd_walk.proofs.FileLemmas.{entries_at}
use Rattle.rd_walk.proofs.WalkLemmas.{walk_line}
use Rattle.rd_check_command.proofs.OutcomeLemmas.{front_outcome}
use Rattle.rd_check_command.specs.Checked.{check_outcome, entries_ending, race_texts, races_of}
use Rattle.rd_report.specs.Endings.{thread_names}
use Rattle.rd_walk.specs.Walk.{Entry, Walked, after, ending_of, ends, entries_of, goes, goes_or_ends, items, judgement_of, trace_by, trace_of, walk, walk_by}
use Rattle.rd_walk.specs.declared.walk.WalkEnd.TheVariants.{Fault}
use Rattle.rd_rules.specs.declared.causes.TraceCause.{TraceCause}

-- the walk is that of the whole, or was cut by a fault behind some of its entries
IsCutOf : Walked → Walked → Type 0
IsCutOf walked whole = (walked ≡ whole) ⊎ ((entries : List Entry) × (later : Walked) × (walked ≡ after entries (ends Fault)) × (whole ≡ after entries later))

cut_more : (entry : Entry) (walked whole : Walked) → IsCutOf walked whole → IsCutOf (goes entry walked) (goes entry whole)
unfolding IsCutOf after
cut_more entry walked whole (inl same) = inl (ap (goes entry) same)
cut_more entry walked whole (inr (entries, later, cut, is)) = inr (entry ∷ entries, later, ap (goes entry) cut, ap (goes entry) is)

module _ (kinds : List Kind) (limits : Limits) where
  cut_walk : (before : List Line) (number : ℕ) (lines whole : Reading) → IsFrontOfReading lines whole
      → IsCutOf (walk kinds limits before number lines) (walk kinds limits before number whole)
  unfolding IsCutOf walk_by after
  cut_walk before number (stops at_end) whole is = inl (ap (walk kinds limits before number) (sym is))
  cut_walk before number (stops no_final_newline) whole is = inl (ap (walk kinds limits before number) (sym is))
  cut_walk before number (stops line_too_long) whole is = inl (ap (walk kinds limits before number) (sym is))
  cut_walk before number (stops bytes_limit) whole is = inl (ap (walk kinds limits before number) (sym is))
  cut_walk before number (stops faulted) whole is = inr ([], walk kinds limits before number whole, refl, refl)
  cut_walk before number (line bytes more) whole (later, is, front) =
      subst (IsCutOf (walk kinds limits before number (line bytes more))) (ap (walk kinds limits before number) (sym is))
      (subst (λ (T : Type 0). T) (λ i. IsCutOf (sym (walk_line kinds limits before number bytes more) i) (sym (walk_line kinds limits before number bytes later) i))
      (by (judgement_of kinds limits before bytes) (λ item. cut_walk (before ++ item ∷ []) (number + 1) more later front)))
    where
      by : (r : Result Line TraceCause)
          → ((item : Line) → IsCutOf (walk kinds limits (before ++ item ∷ []) (number + 1) more) (walk kinds limits (before ++ item ∷ []) (number + 1) later))
          → IsCutOf (goes_or_ends number r (λ item. walk kinds limits (before ++ item ∷ []) (number + 1) more))
          (goes_or_ends number r (λ item. walk kinds limits (before ++ item ∷ []) (number + 1) later))
      by (Ok item) go =
          cut_more (record { number = number; item = item }) (walk kinds limits (before ++ item ∷ []) (number + 1) more)
          (walk kinds limits (before ++ item ∷ []) (number + 1) later) (go item)
      by (Err cause) go = inl refl

  cut_trace : (stop : Stop) (bytes more : List ℕ) → IsCutOf (trace_of kinds limits fault bytes) (trace_of kinds limits stop (bytes ++ more))
  unfolding trace_by
  cut_trace stop bytes more =
      cut_walk [] 1 (reading limits.line limits.bytes fault bytes) (reading limits.line limits.bytes stop (bytes ++ more))
      (front_reading limits.line limits.bytes stop bytes more)

-- the texts of races that are written before a read fails are a front of what is written for the whole
pub fault_front : (form : Form) (kinds : List SpecifiedKind) (limits : Limits) → AreUsable limits → limits.threads < 2 ^ 32 → (stop : Stop) (bytes more : List ℕ)
    → IsFront (race_texts form kinds (entries_of (trace_of (kinds_of kinds) limits fault bytes))) (check_outcome form kinds (trace_of (kinds_of kinds) limits stop (bytes ++ more))).text
unfolding IsCutOf
fault_front form kinds limits usable range stop bytes more = by (cut_trace (kinds_of kinds) limits stop bytes more)
  where
    cut : Walked
    cut = trace_of (kinds_of kinds) limits fault bytes

    whole : Walked
    whole = trace_of (kinds_of kinds) limits stop (bytes ++ more)

    by : IsCutOf cut whole → IsFront (race_texts form kinds (entries_of cut)) (check_outcome form kinds whole).text
    by (inl same) = (
      ending_in form (thread_names (entries_of whole)) (races_of kinds (entries_of whole)) (entries_ending kinds (entries_of whole) (races_of kinds (entries_of whole)) (ending_of whole)),
      ap (λ w. race_texts form kinds (entries_of w) ++ ending_in form (thread_names (entries_of whole)) (races_of kinds (entries_of whole)) (entries_ending kinds (entries_of whole) (races_of kinds (entries_of whole)) (ending_of whole))) (sym same),
    )
    by (inr (entries, later, is_cut, is)) =
        let accepted = subst (λ w. AreAccepted (kinds_of kinds) (items (entries_of w))) is (trace_accepted (kinds_of kinds) limits usable range stop (bytes ++ more)) in
        let front = front_outcome form kinds entries later accepted in
        subst (λ text. IsFront text (check_outcome form kinds whole).text) (ap (race_texts form kinds) (sym (ap entries_of is_cut ∙ entries_at entries Fault)))
        (subst (λ w. IsFront (race_texts form kinds entries) (check_outcome form kinds w).text) (sym is) front)
