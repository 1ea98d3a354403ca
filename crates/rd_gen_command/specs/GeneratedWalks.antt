-- The walk over generated lines, and what `gen` writes and means: this project's profile.
use Rattle.std.specs.Prelude.{◌≡◌, ◌⊎◌, ℕ, ◌+◌, ◌≤◌, List, [], ◌∷◌, ◌++◌, codes, count_by, decimal, length, true}
use Rattle.rd_base.specs.declared.limits.Limits.{Limits}
use Rattle.rd_ecl.specs.Kinds.{Kind}
use Rattle.rd_event.specs.declared.items.Line.{Line}
use Rattle.rd_gen.specs.Counts.{is_call_line}
use Rattle.rd_gen.specs.Generated.{generated}
use Rattle.rd_io.specs.Lines.LinesEnding.{at_end}
use Rattle.rd_walk.specs.Meanings.{Meaning}
use Rattle.rd_walk.specs.Output.{EndsAs, IsTraceEnd, Outcome}
use Rattle.rd_walk.specs.Progress.{IsBegun}
use Rattle.rd_walk.specs.Traces.{ReportTexts}
use Rattle.rd_walk.specs.Walk.{Entry, Walked, ending_of, ends, entries_of, items_go, step_bound, trace_end_of}
use Rattle.rd_walk.specs.declared.status.Status.TheVariants.{NoMemory}
use Rattle.rd_walk.specs.declared.walk.WalkEnd.TheVariants.{End}

-- The walk over lines that come behind the accepted ones, the first of them with this number: each is accepted or refused as a line of a
-- trace is, and behind the last they end as the lines of a trace do. No bytes say them, so no limit on bytes is asked.
unfoldable pub walk_items : List Kind → Limits → List Line → ℕ → List Line → Walked
walk_items kinds limits before number [] = ends (trace_end_of limits before number at_end)
walk_items kinds limits before number (item ∷ lines) =
    items_go kinds limits number before (item ∷ []) (λ behind. walk_items kinds limits behind (number + 1) lines)

-- the walk over the trace of a number with so many calls
abbrev pub generated_walk : List Kind → Limits → ℕ → ℕ → Walked
generated_walk kinds limits number count = walk_items kinds limits [] 1 (generated number count)

-- how many lines and calls the whole trace has
abbrev pub trace_counts_text : ℕ → ℕ → List ℕ
trace_counts_text number count =
    codes "lines " ++ decimal (length (generated number count)) ++ codes "\ncalls " ++ decimal (count_by is_call_line (generated number count)) ++ codes "\n"

-- what `gen` writes: the counts, and behind them what a report has as outcome of the walk, with its status
abbrev pub gen_outcome : (Walked → Outcome) → List Kind → Limits → ℕ → ℕ → Outcome
gen_outcome report kinds limits number count = record {
  text = trace_counts_text number count ++ (report (generated_walk kinds limits number count)).text;
  status = (report (generated_walk kinds limits number count)).status;
}

-- what is written for lines that are done with, where a report writes this text for them: the counts stand in front of it
abbrev pub behind_counts : (List Entry → List ℕ) → ℕ → ℕ → List Entry → List ℕ
behind_counts text number count entries = trace_counts_text number count ++ text entries

-- The steps that were counted in a walk, where `part` was written, and this text is written for lines: the accepted lines that were begun are the
-- first of the walk, and the text of all of them but the last was written whole, or none was begun; and the steps are those of these lines.
pub record CountsGenerated (text : List Entry → List ℕ) (bound : List Line → Line → ℕ) (walked : Walked) (part : List ℕ) (before after : ℕ) : Type 0 where
  pub begun : List Entry
  pub first : (rest : List Entry) × (entries_of walked ≡ begun ++ rest)
  pub is_begun : (begun ≡ []) ⊎ IsBegun text part begun
  pub cost : after ≤ before + step_bound bound begun

-- `gen NUMBER COUNT`, with a report that writes these texts, of a trace whose objects are of these kinds: no file is named. The steps are those of
-- the accepted lines that were begun: of all of them, or where a write failed or memory ran out of those up to there.
abbrev pub gen_meaning : ReportTexts → List Kind → ℕ → ℕ → Meaning
gen_meaning texts kinds number count = record {
  files = [];
  counts = true;
  statuses = EndsAs IsTraceEnd;
  outcome = λ limits rose old new outcome. outcome ≡ gen_outcome texts.outcome kinds limits number count;
  takes = λ limits rose old new part before after. (new ≡ old)
      × CountsGenerated (behind_counts texts.lines number count) texts.bound (generated_walk kinds limits number count) part before after;
  reads = λ limits old new. ending_of (generated_walk kinds limits number count) ≡ End;
  writes = λ limits old part status. (status ≡ NoMemory)
      ⊎ ((part ≡ (gen_outcome texts.outcome kinds limits number count).text) × (status ≡ (gen_outcome texts.outcome kinds limits number count).status));
}
