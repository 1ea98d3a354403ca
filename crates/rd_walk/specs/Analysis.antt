-- What a command does with each accepted line, and what stands when it is cut short.
use Rattle.std.specs.Prelude.{◌≡◌, ◌≢◌, ◌+◌, ◌<◌, ◌≤◌, ℕ, All, true, IfOk, List, [], ◌∷◌, ◌++◌, length, Option, Result, Ok, Err}
use Rattle.rd_base.specs.Limits.{AreUsable}
use Rattle.rd_base.specs.declared.limits.Limits.{Limits}
use Rattle.rd_event.specs.declared.items.Line.{Line}
use Rattle.rd_io.specs.Inputs.{Rose}
use Rattle.rd_io.specs.Sinks.{Appends}
use Rattle.rd_ecl.specs.Kinds.{Kind}
use Rattle.rd_rules.specs.MayFollow.{MayFollow, accepted_of, is_event, threads_of}
use Rattle.rd_wf.specs.Roster.{RosterStandsFor}
use Rattle.rd_rules.specs.declared.causes.Accepted.{Accepted}
use Rattle.rd_wf.specs.declared.roster.Roster.{Roster}
use Rattle.rd_walk.specs.Walk.{Entry, items}
use Rattle.rd_walk.specs.declared.analysis.Halt.{Halt}
use Rattle.rd_walk.specs.declared.analysis.Halt.TheVariants as halt

-- the events among the entries are of lines in front of the one with this number
abbrev pub AreBefore : ℕ → List Entry → Type 0
AreBefore number before = All (λ (entry : Entry). is_event entry.item ≡ true → entry.number < number) before

-- The item of the line with this number may follow the entries, it is this in numbers, the roster stands for them and it, and their threads fit 32
-- bits. The events among the entries are of lines in front of that one.
pub record IsNextEntry (kinds : List Kind) (roster : Roster) (before : List Entry) (number : ℕ) (item : Line) (accepted : Accepted) : Type 0 where
  pub limits : Limits
  pub usable : AreUsable limits
  pub follows : MayFollow kinds limits (items before) item
  pub numbers : accepted ≡ accepted_of kinds (items before) item
  pub stands : RosterStandsFor kinds roster (items before ++ item ∷ [])
  pub few : length (threads_of (items before ++ item ∷ [])) ≤ 4294967295
  pub rising : AreBefore number before

-- where the text was `before`, it is `now` with what was written between
abbrev pub WritesBetween : Option (List ℕ) → Option (List ℕ) → List ℕ → List ℕ → Type 0
WritesBetween old new before now = (part : List ℕ) × (now ≡ before ++ part) × Appends old new part

-- the same, where writing stopped before all of it was written
abbrev pub WritesFront : Option (List ℕ) → Option (List ℕ) → List ℕ → List ℕ → Type 0
WritesFront old new before now = (part : List ℕ) × (rest : List ℕ) × (now ≡ before ++ (part ++ rest)) × Appends old new part

-- A failed write is told as one: the count of faults rose exactly where it is told, and nothing was written behind the point where
-- the write failed.
abbrev pub TellsFault : {T : Type 0} → ℕ → ℕ → Option (List ℕ) → Option (List ℕ) → Result T Halt → Type 0
TellsFault before now point written (Ok _) = now ≡ before
TellsFault before now point written (Err halt.OutputFault) = Rose before now × (point ≡ written)
TellsFault before now point written (Err halt.NoMemory) = now ≡ before

-- Each fault is told as one: the inputs' count of faults rose where the answer is this one, and stays for any other that tells no failure;
-- and a failed write is told as one.
pub record TellsFaults {T : Type 0} (input_fault : T) (inputs_before inputs_now before now : ℕ) (point written : Option (List ℕ)) (result : Result T Halt) : Type 0 where
  pub input : result ≡ Ok input_fault → Rose inputs_before inputs_now
  pub calm : IfOk result (λ answer. answer ≢ input_fault → inputs_now ≡ inputs_before)
  pub output : TellsFault before now point written result

-- ---- an entry behind others

-- It was accepted and handed on: the roster stands for it too, the analysis was led on, what is written for it is written, and the steps are
-- bounded.
pub record IsHandedOn {A : Type 0} (Leads : List Entry → A → Type 0) (text : List Entry → List ℕ) (bound : List Line → Line → ℕ) (kinds : List Kind) (roster : Roster) (analysis : A)
    (old new : Option (List ℕ)) (from to : ℕ) (before : List Entry) (entry : Entry) : Type 0 where
  pub stands : RosterStandsFor kinds roster (items before ++ entry.item ∷ [])
  pub leads : Leads (before ++ entry ∷ []) analysis
  pub written : WritesBetween old new (text before) (text (before ++ entry ∷ []))
  pub cost : to ≤ from + bound (items before) entry.item

-- or it was cut short in what is done with it
pub record IsCutIn (text : List Entry → List ℕ) (bound : List Line → Line → ℕ) (old new : Option (List ℕ)) (from to : ℕ) (before : List Entry) (entry : Entry) : Type 0 where
  pub written : WritesFront old new (text before) (text (before ++ entry ∷ []))
  pub cost : to ≤ from + bound (items before) entry.item
