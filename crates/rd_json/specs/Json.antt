-- Reports as JSON (RFC 8259) in compact form: a line for each object, and the keys in the order of their bytes. This project's profile.
use Rattle.std.specs.Prelude.{ℕ, ◌==◌, ◌||◌, if◌then◌else◌, List, [], ◌∷◌, ◌++◌, codes, decimal, flat_map, max, min}
use Rattle.rd_ecl.specs.Specified.{SpecifiedKind, kind_at}
use Rattle.rd_event.specs.declared.events.Call.{Call}
use Rattle.rd_reading.specs.RefusedTexts.{spec_cause_text}
use Rattle.rd_reading.specs.declared.parsing.SpecRefused.{SpecRefused as Refusal}
use Rattle.rd_report.specs.Races.{Told, clock_text, formula_line_words, named_call, told_by}
use Rattle.rd_report.specs.Texts.{Naming, refused_words, replay_words, verdict_words}
use Rattle.rd_report.specs.declared.endings.Ending.{Ending}
use Rattle.rd_report.specs.declared.endings.Ending.TheVariants.{End, Refused, Fault}
use Rattle.rd_store.specs.declared.Race.{Race}

-- ---- strings

-- a byte of a string: `"` and `\` are escaped. The bytes of a report are visible or spaces, and the others stand as they are
abbrev pub string_byte : ℕ → List ℕ
string_byte b = if (b == 34) || (b == 92) then 92 ∷ b ∷ [] else b ∷ []

abbrev pub string_json : List ℕ → List ℕ
string_json bytes = codes "\"" ++ flat_map string_byte bytes ++ codes "\""

-- ---- races

-- what is told of a call: the call as it stands in its line, its clock, and the number of its line
unfoldable pub told_json : List SpecifiedKind → Naming → Told → List ℕ
told_json kinds naming told =
    codes "{\"call\":" ++ string_json (named_call kinds naming told.call) ++ codes ",\"clock\":" ++ string_json (clock_text naming.threads told.clock)
    ++ codes ",\"line\":" ++ decimal told.line ++ codes "}"

-- the formula of a race, by its kind and its two methods
abbrev pub race_words : List SpecifiedKind → Race → List ℕ
race_words kinds race = formula_line_words (kind_at kinds race.kind) race.first race.second

-- the line of a race: the earlier call, the formula of its two methods, and the later call
unfoldable pub race_object : List SpecifiedKind → Naming → Race → List ℕ
race_object kinds naming race =
    codes "{\"earlier\":" ++ told_json kinds naming (told_by race.earlier.value) ++ codes ",\"formula\":" ++ string_json (race_words kinds race)
    ++ codes ",\"later\":" ++ told_json kinds naming (told_by race.later.value) ++ codes "}\n"

-- the formula that two calls fail
abbrev pub failed_words : List SpecifiedKind → Call → Call → List ℕ
failed_words kinds a b = formula_line_words (kind_at kinds a.kind) (min a.method b.method) (max a.method b.method)

-- the line of the race of two calls: the earlier call, the formula that they fail, and the later call
unfoldable pub race_json : List SpecifiedKind → Naming → Told → Told → List ℕ
race_json kinds naming later earlier =
    codes "{\"earlier\":" ++ told_json kinds naming earlier ++ codes ",\"formula\":" ++ string_json (failed_words kinds later.call earlier.call)
    ++ codes ",\"later\":" ++ told_json kinds naming later ++ codes "}\n"

-- ---- endings

-- where a trace was read to its end: how many calls are reported, how the replay ended, and what is shown
unfoldable pub end_json : ℕ → List ℕ → List ℕ → List ℕ
end_json races replay verdict =
    codes "{\"ending\":\"end\",\"races\":" ++ decimal races ++ codes ",\"replay\":" ++ string_json replay ++ codes ",\"verdict\":" ++ string_json verdict
    ++ codes "}\n"

-- where it was not: why, and how many calls are reported
unfoldable pub cut_json : ℕ → List ℕ → List ℕ
cut_json races ending = codes "{\"ending\":" ++ string_json ending ++ codes ",\"races\":" ++ decimal races ++ codes "}\n"

-- where it was not opened: why
unfoldable pub alone_json : List ℕ → List ℕ
alone_json ending = codes "{\"ending\":" ++ string_json ending ++ codes "}\n"

-- the line behind the races: how the lines of a trace end, by the names of the threads
abbrev pub ending_json : List (List ℕ) → ℕ → Ending → List ℕ
ending_json names races (End replay shown) = end_json races (replay_words replay) (verdict_words shown)
ending_json names races (Refused number cause) = cut_json races (refused_words names number cause)
ending_json names races Fault = cut_json races (codes "fault input")

-- the line of a refused specification, without its line feed, and as JSON
abbrev pub spec_refused_words : Refusal → List ℕ
spec_refused_words refused =
    codes "refused spec line " ++ decimal refused.line ++ codes " place " ++ decimal refused.place ++ codes " " ++ spec_cause_text refused.cause

abbrev pub spec_refused_json : Refusal → List ℕ
spec_refused_json refused = alone_json (spec_refused_words refused)
