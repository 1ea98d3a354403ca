-- The text of a race: this project's profile. A clock counts for each thread its events that are this call or reach it (Fidge 1988,
-- Mattern 1989).
use Rattle.std.specs.Prelude.{◌≡◌, ◌<◌, ◌≤◌, ℕ, suc, ◌==◌, if◌then◌else◌, List, [], ◌∷◌, ◌++◌, length, codes, decimal, max, min}
use Rattle.rd_clock.specs.Clock.{component}
use Rattle.rd_ecl.specs.Specified.{SpecifiedKind, kind_at}
use Rattle.rd_event.specs.Items.{call_text}
use Rattle.rd_event.specs.declared.events.Call.{Call}
use Rattle.rd_print.specs.Printed.{name_at, pair_text}
use Rattle.rd_store.specs.declared.Race.{Race}
use Rattle.rd_store.specs.declared.Witness.{Witness}
use Rattle.rd_report.specs.Texts.{Naming, name_of}
use Rattle.rd_report.specs.declared.races.RaceEnds.{RaceEnds}

-- ---- a clock

-- of these threads, the first of which has this number, those that are counted, each with its count
abbrev pub counts_from : ℕ → List (List ℕ) → (ℕ → ℕ) → List (List ℕ)
counts_from number [] count = []
counts_from number (name ∷ names) count =
    if count number == 0 then counts_from (suc number) names count
    else (name ++ codes ":" ++ decimal (count number)) ∷ counts_from (suc number) names count

-- the parts, with a comma between each and the next
abbrev pub with_commas : List (List ℕ) → List ℕ
with_commas [] = []
with_commas (part ∷ []) = part
with_commas (part ∷ next ∷ parts) = part ++ codes "," ++ with_commas (next ∷ parts)

-- the threads that a clock counts events of, in the order of their numbers
abbrev pub clock_text : List (List ℕ) → (ℕ → ℕ) → List ℕ
clock_text threads count = with_commas (counts_from 0 threads count)

-- ---- a call

-- what is told of a call: the number of its line, and how many events of each thread its clock counts
pub record Told : Type 0 where
  pub line : ℕ
  pub call : Call
  pub clock : ℕ → ℕ

abbrev pub told_by : Witness → Told
told_by witness = record { line = witness.line; call = witness.call; clock = component witness.stamp.clock }

-- a call, as it stands in its line
abbrev pub named_call : List SpecifiedKind → Naming → Call → List ℕ
named_call kinds naming call =
    call_text (name_of naming.threads call.thread) (name_of naming.objects call.object) (name_at (kind_at kinds call.kind).methods call.method) call.slots

-- the number of its line, the call as it stands there, and its clock
unfoldable pub told_text : List SpecifiedKind → Naming → Told → List ℕ
told_text kinds naming told =
    decimal told.line ++ codes " "
    ++ call_text (name_of naming.threads told.call.thread) (name_of naming.objects told.call.object)
    (name_at (kind_at kinds told.call.kind).methods told.call.method) told.call.slots
    ++ codes " clock " ++ clock_text naming.threads told.clock ++ codes "\n"

-- ---- a race

-- the line of the formula of two methods of a kind, the first not declared behind the second
unfoldable pub formula_line : SpecifiedKind → ℕ → ℕ → List ℕ
formula_line kind first second = codes "formula " ++ kind.name ++ codes " " ++ pair_text kind first second ++ codes "\n"

-- the same without its first word and its line feed
unfoldable pub formula_line_words : SpecifiedKind → ℕ → ℕ → List ℕ
formula_line_words kind first second = kind.name ++ codes " " ++ pair_text kind first second

-- the line of the formula that two calls fail
abbrev pub failed_line : List SpecifiedKind → Call → Call → List ℕ
failed_line kinds a b = formula_line (kind_at kinds a.kind) (min a.method b.method) (max a.method b.method)

-- the first line of a race, of the later call, and the second, of the earlier one
abbrev pub later_line : List SpecifiedKind → Naming → Told → List ℕ
later_line kinds naming later = codes "race line " ++ told_text kinds naming later

abbrev pub earlier_line : List SpecifiedKind → Naming → Told → List ℕ
earlier_line kinds naming earlier = codes "with line " ++ told_text kinds naming earlier

-- the line of the formula of a race, by its kind and its two methods
abbrev pub race_formula : List SpecifiedKind → Race → List ℕ
race_formula kinds race = formula_line (kind_at kinds race.kind) race.first race.second

-- the lines of a race: the later call, the earlier one, and the formula of its two methods
unfoldable pub race_lines : List SpecifiedKind → Naming → Race → List ℕ
race_lines kinds naming race =
    later_line kinds naming (told_by race.later.value) ++ earlier_line kinds naming (told_by race.earlier.value) ++ race_formula kinds race

-- the text of the race of two calls: the later call, the earlier one, and the formula that they fail
unfoldable pub race_text : List SpecifiedKind → Naming → Told → Told → List ℕ
race_text kinds naming later earlier =
    later_line kinds naming later ++ earlier_line kinds naming earlier ++ failed_line kinds later.call earlier.call

-- in a text that begins with these bytes, the first two lines of a race end at these places
abbrev pub EndLines : List ℕ → List SpecifiedKind → Naming → Told → Told → RaceEnds → Type 0
EndLines begun kinds naming later earlier ends =
    (ends.later ≡ length (begun ++ later_line kinds naming later))
    × (ends.earlier ≡ length (begun ++ later_line kinds naming later ++ earlier_line kinds naming earlier))

-- ---- what may be told

-- the numbers in a call have names
pub record IsNamed (kinds : List SpecifiedKind) (naming : Naming) (call : Call) : Type 0 where
  pub thread : call.thread < length naming.threads
  pub object : call.object < length naming.objects
  pub kind : call.kind < length kinds
  pub method : call.method < length (kind_at kinds call.kind).methods

-- both calls of a race have names, and it has a kind and two methods of that kind, the first not declared behind the second
pub record IsKnownRace (kinds : List SpecifiedKind) (naming : Naming) (race : Race) : Type 0 where
  pub later : IsNamed kinds naming race.later.value.call
  pub earlier : IsNamed kinds naming race.earlier.value.call
  pub kind : race.kind < length kinds
  pub ordered : race.first ≤ race.second
  pub methods : race.second < length (kind_at kinds race.kind).methods

-- both calls of a race have names, and are of its kind and its methods, so that its formula is that of these calls
pub record IsFailedRace (kinds : List SpecifiedKind) (naming : Naming) (race : Race) : Type 0 where
  pub later : IsNamed kinds naming race.later.value.call
  pub earlier : IsNamed kinds naming race.earlier.value.call
  pub kind : race.kind ≡ race.later.value.call.kind
  pub one_kind : race.earlier.value.call.kind ≡ race.later.value.call.kind
  pub first : race.first ≡ min race.later.value.call.method race.earlier.value.call.method
  pub second : race.second ≡ max race.later.value.call.method race.earlier.value.call.method
