-- What becomes of a line of reads and writes, item by item.
use Rattle.std.specs.Prelude.{◌≡◌, ◌⊎◌, ℕ, true, List, Option, Some, None, IsSome, Result, Ok, OnErr, ⊤}
use Rattle.rd_base.specs.Names.{IsName}
use Rattle.rd_ecl.specs.Kinds.{Kind}
use Rattle.rd_event.specs.declared.items.Line.{Line}
use Rattle.rd_memory.specs.MemoryLines.{memory_line_of}
use Rattle.rd_memory.specs.declared.lines.MemLine.TheVariants.{Access}
use Rattle.rd_epochs_command.specs.Firsts.{epochs_bound, first_texts}
use Rattle.rd_epochs_command.specs.Watching.{WatchLeads}
use Rattle.rd_epochs_command.specs.declared.lines.Words.{Words}
use Rattle.rd_epochs_command.specs.declared.watching.FirstRaces.{FirstRaces}
use Rattle.rd_memory.specs.MemoryTraces.{memory_says}
use Rattle.rd_walk.specs.Taking.{TakesGrammarLine}
use Rattle.rd_rules.specs.MayFollow.{first_broken}
use Rattle.rd_rules.specs.declared.causes.Accepted.{Accepted}
use Rattle.rd_rules.specs.declared.causes.BytesRefused.{BytesRefused}
use Rattle.rd_rules.specs.declared.causes.TraceCause.TheVariants.{Wf}
use Rattle.rd_rules.specs.declared.causes.TraceCause.{TraceCause}
use Rattle.rd_rules.specs.declared.causes.WfCause.{WfCause}
use Rattle.rd_walk.specs.Analysis.{AreBefore, IsCutIn, IsHandedOn}
use Rattle.rd_walk.specs.Walk.{Entry, items}
use Rattle.rd_walk.specs.declared.analysis.Halt.{Halt}
use Rattle.rd_walk.specs.declared.walk.Taken.{Taken}
use Rattle.rd_walk.specs.declared.walk.Taken.TheVariants as answered
use Rattle.rd_walk.specs.declared.walk.Walker.{Walker}
use Rattle.rd_wf.specs.Roster.{RosterStandsFor, TakesNames}

-- these bytes say an access by these words, if both are names, and else nothing
pub record SayAccess (bytes : List ℕ) (words : Words) : Type 0 where
  pub named : IsName words.thread.now × IsName words.variable.now → memory_line_of bytes ≡ Some (Access words.thread.now words.variable.now words.write)
  pub unnamed : ¬ (IsName words.thread.now × IsName words.variable.now) → memory_line_of bytes ≡ None

-- the roster judged this item, whose words are names, and the walker is as before but for it
pub record WasJudged {A : Type 0} (old new : Walker A) (item : Line) (answer : Result Accepted BytesRefused) : Type 0 where
  pub judged : TakesNames true ⊤ old.roster new.roster old.limits item answer
  pub limits : new.limits ≡ old.limits
  pub analysis : new.analysis ≡ old.analysis

-- The item of the line with this number is judged behind the accepted ones, and handed on to the analysis.
pub record TakesItem {A : Type 0} (leads : List Kind → A → List Entry → A → Type 0) (text : List Kind → A → List Entry → List ℕ) (bound : List Kind → A → List Line → Line → ℕ)
    (number : ℕ) (item : Line) (old new : Walker A) (written now : Option (List ℕ)) (from to : ℕ) (result : Result Taken Halt) : Type 0 where
  -- it may follow and is handed on
  pub taken : result ≡ Ok answered.Accepted → (kinds : List Kind) (start : A) (before : List Entry) → RosterStandsFor kinds old.roster (items before) → leads kinds start before old.analysis
      → AreBefore number before → (first_broken kinds old.limits (items before) item ≡ None)
      × IsHandedOn (leads kinds start) (text kinds start) (bound kinds start) kinds new.roster new.analysis written now from to before (record { number = number; item = item })
  -- or it is refused for the first rule that it breaks, and all else is as before
  pub cause : result ≡ Ok answered.Refused → IsSome new.refused
  pub refused : result ≡ Ok answered.Refused → (cause : TraceCause) → new.refused ≡ Some cause → (kinds : List Kind) (before : List Entry) → RosterStandsFor kinds old.roster (items before)
      → (broken : WfCause) × (cause ≡ Wf broken) × (first_broken kinds old.limits (items before) item ≡ Some broken) × RosterStandsFor kinds new.roster (items before)
  pub silent : result ≡ Ok answered.Refused → (now ≡ written) × (new.analysis ≡ old.analysis) × (to ≡ from)
  -- or memory runs out, or a write fails
  pub halted : OnErr result ((kinds : List Kind) (start : A) (before : List Entry) → RosterStandsFor kinds old.roster (items before) → leads kinds start before old.analysis
      → AreBefore number before → ((now ≡ written) × (to ≡ from))
      ⊎ ((first_broken kinds old.limits (items before) item ≡ None)
      × IsCutIn (text kinds start) (bound kinds start) written now from to before (record { number = number; item = item })))

-- so for the first races of a trace of reads and writes: an item, and a line
abbrev pub TakesMemoryItem : ℕ → Line → Walker FirstRaces → Walker FirstRaces → Option (List ℕ) → Option (List ℕ) → ℕ → ℕ → Result Taken Halt → Type 0
TakesMemoryItem = TakesItem WatchLeads (λ _ _. first_texts) (λ _ _. epochs_bound)

abbrev pub TakesMemoryLine : ℕ → List ℕ → Walker FirstRaces → Walker FirstRaces → Option (List ℕ) → Option (List ℕ) → ℕ → ℕ → Result Taken Halt → Type 0
TakesMemoryLine = TakesGrammarLine memory_says WatchLeads (λ _ _. first_texts) (λ _ _. epochs_bound)
