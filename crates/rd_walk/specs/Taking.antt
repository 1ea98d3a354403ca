-- What becomes of the bytes of a line behind the accepted ones.
use Rattle.std.specs.Prelude.{◌≡◌, ◌≢◌, ◌⊎◌, ℕ, ◌+◌, ◌≤◌, List, [], ◌++◌, length, Option, Some, IsSome, Result, Ok, Err, OnErr}
use Rattle.rd_base.specs.Bytes.{IsFront}
use Rattle.rd_base.specs.declared.limits.Limits.{Limits}
use Rattle.rd_ecl.specs.Kinds.{Kind}
use Rattle.rd_event.specs.Reading.{item_of}
use Rattle.rd_event.specs.declared.items.Line.{Line}
use Rattle.rd_rules.specs.MayFollow.{MayFollow, version_of}
use Rattle.rd_rules.specs.declared.causes.TraceCause.{TraceCause}
use Rattle.rd_walk.specs.Analysis.{AreBefore, IsCutIn, IsHandedOn, WritesBetween, WritesFront}
use Rattle.rd_walk.specs.Walk.{Entry, Saying, Walked, after, bound_from, ends, entries_at, items, judgement_of, line_goes}
use Rattle.rd_walk.specs.declared.analysis.Halt.{Halt}
use Rattle.rd_walk.specs.declared.analysis.Halt.TheVariants.{NoMemory}
use Rattle.rd_walk.specs.declared.walk.Taken.{Taken}
use Rattle.rd_walk.specs.declared.walk.Taken.TheVariants.{Accepted, Refused}
use Rattle.rd_walk.specs.declared.walk.WalkEnd.{WalkEnd}
use Rattle.rd_walk.specs.declared.walk.WalkEnd.TheVariants.{Refused as Ends}
use Rattle.rd_walk.specs.declared.walk.Walker.{Walker}
use Rattle.rd_wf.specs.Roster.{IsCallLine, RosterStandsFor}
use Rattle.rd_wf.specs.declared.roster.Roster.{Roster}

-- ---- a line of any grammar

-- behind the accepted items the line with these bytes goes on as all of these, whatever comes then
abbrev pub GoesAs : Saying → List Kind → Limits → ℕ → List Line → List ℕ → List Line → Type 0
GoesAs says kinds limits number before bytes said =
    (more : List Line → Walked) → line_goes kinds limits number before (says before bytes) more ≡ after (entries_at number said) (more (before ++ said))

-- or as these first, and ends so
abbrev pub EndsAs : Saying → List Kind → Limits → ℕ → List Line → List ℕ → List Line → WalkEnd → Type 0
EndsAs says kinds limits number before bytes said ending =
    (more : List Line → Walked) → line_goes kinds limits number before (says before bytes) more ≡ after (entries_at number said) (ends ending)

-- or as these first, in whatever way
abbrev pub BeginsAs : Saying → List Kind → Limits → ℕ → List Line → List ℕ → List Line → Type 0
BeginsAs says kinds limits number before bytes said =
    (more : List Line → Walked) → (walked : Walked) × (line_goes kinds limits number before (says before bytes) more ≡ after (entries_at number said) walked)

-- These items of a line were accepted behind others and handed on, as `IsHandedOn` says of one.
pub record AreHandedOn {A : Type 0} (Leads : List Entry → A → Type 0) (text : List Entry → List ℕ) (bound : List Line → Line → ℕ) (kinds : List Kind) (roster : Roster) (analysis : A)
    (old new : Option (List ℕ)) (from to : ℕ) (before said : List Entry) : Type 0 where
  pub stands : RosterStandsFor kinds roster (items (before ++ said))
  pub leads : Leads (before ++ said) analysis
  pub written : WritesBetween old new (text before) (text (before ++ said))
  pub cost : to ≤ from + bound_from bound (items before) said

-- Or it was cut short behind some of them, in what is done with at most one more.
pub record AreCutIn (text : List Entry → List ℕ) (bound : List Line → Line → ℕ) (old new : Option (List ℕ)) (from to : ℕ) (before said last : List Entry) : Type 0 where
  pub one : length last ≤ 1
  pub written : WritesFront old new (text before) (text (before ++ (said ++ last)))
  pub told : IsFront (text (before ++ said)) (text before ++ written.0)
  pub cost : to ≤ from + bound_from bound (items before) (said ++ last)

-- The line with this number is judged by what its bytes say, and that is handed on to the analysis.
pub record TakesGrammarLine {A : Type 0} (says : Saying) (leads : List Kind → A → List Entry → A → Type 0) (text : List Kind → A → List Entry → List ℕ) (bound : List Kind → A → List Line → Line → ℕ)
    (number : ℕ) (bytes : List ℕ) (old new : Walker A) (written now : Option (List ℕ)) (from to : ℕ) (result : Result Taken Halt) : Type 0 where
  -- all that it says is accepted and handed on
  pub taken : result ≡ Ok Accepted → (kinds : List Kind) (start : A) (before : List Entry) → RosterStandsFor kinds old.roster (items before) → leads kinds start before old.analysis → AreBefore number before
      → (said : List Line) × (said ≢ []) × GoesAs says kinds old.limits number (items before) bytes said
      × AreHandedOn (leads kinds start) (text kinds start) (bound kinds start) kinds new.roster new.analysis written now from to before (entries_at number said)
  -- or it is refused, behind some of that
  pub cause : result ≡ Ok Refused → IsSome new.refused
  pub refused : result ≡ Ok Refused → (cause : TraceCause) → new.refused ≡ Some cause → (kinds : List Kind) (start : A) (before : List Entry) → RosterStandsFor kinds old.roster (items before)
      → leads kinds start before old.analysis → AreBefore number before → (said : List Line) × EndsAs says kinds old.limits number (items before) bytes said (Ends number cause)
      × AreHandedOn (leads kinds start) (text kinds start) (bound kinds start) kinds new.roster new.analysis written now from to before (entries_at number said)
  -- or memory runs out, or a write fails
  pub halted : OnErr result ((kinds : List Kind) (start : A) (before : List Entry) → RosterStandsFor kinds old.roster (items before) → leads kinds start before old.analysis → AreBefore number before
      → (said : List Line) × (last : List Line) × BeginsAs says kinds old.limits number (items before) bytes (said ++ last)
      × AreCutIn (text kinds start) (bound kinds start) written now from to before (entries_at number said) (entries_at number last))

-- ---- a line of a trace

-- The line with this number is judged, and what it says is handed on to the analysis.
pub record TakesTraceLine {A : Type 0} (leads : List Kind → A → List Entry → A → Type 0) (text : List Kind → A → List Entry → List ℕ) (bound : List Kind → A → List Line → Line → ℕ)
    (number : ℕ) (bytes : List ℕ) (old new : Walker A) (written now : Option (List ℕ)) (from to : ℕ) (result : Result Taken Halt) : Type 0 where
  -- it is accepted and handed on
  pub taken : result ≡ Ok Accepted → (kinds : List Kind) (start : A) (before : List Entry) → RosterStandsFor kinds old.roster (items before) → leads kinds start before old.analysis → AreBefore number before
      → (item : Line) × (judgement_of kinds old.limits (items before) bytes ≡ Ok item)
      × IsHandedOn (leads kinds start) (text kinds start) (bound kinds start) kinds new.roster new.analysis written now from to before (record { number = number; item = item })
  -- or refused, and all else is as before
  pub cause : result ≡ Ok Refused → IsSome new.refused
  pub refused : result ≡ Ok Refused → (cause : TraceCause) → new.refused ≡ Some cause → (kinds : List Kind) (before : List Entry) → RosterStandsFor kinds old.roster (items before)
      → (judgement_of kinds old.limits (items before) bytes ≡ Err cause) × RosterStandsFor kinds new.roster (items before)
  pub silent : result ≡ Ok Refused → (new.analysis ≡ old.analysis) × (to ≡ from)
  -- or memory runs out in reading it, or in what is done with it, or a write fails; memory runs out only where the bytes say an item, and begin as a
  -- call or their item may follow
  pub memory : result ≡ Err NoMemory → (kinds : List Kind) (before : List Line) → RosterStandsFor kinds old.roster before
      → (item : Line) × (item_of (version_of before) bytes ≡ Some item) × (IsCallLine bytes ⊎ MayFollow kinds old.limits before item)
  pub halted : OnErr result ((kinds : List Kind) (start : A) (before : List Entry) → RosterStandsFor kinds old.roster (items before) → leads kinds start before old.analysis → AreBefore number before
      → ((now ≡ written) × (to ≡ from))
      ⊎ ((item : Line) × (judgement_of kinds old.limits (items before) bytes ≡ Ok item)
      × IsCutIn (text kinds start) (bound kinds start) written now from to before (record { number = number; item = item })))
