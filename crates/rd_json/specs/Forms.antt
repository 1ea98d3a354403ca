-- The forms in which a report is written: this project's profile.
use Rattle.std.specs.Prelude.{◌≡◌, ℕ, List, [], ◌++◌, codes, length}
use Rattle.rd_ecl.specs.Specified.{SpecifiedKind}
use Rattle.rd_io.specs.Inputs.{fault_line}
use Rattle.rd_reading.specs.RefusedTexts.{spec_refused_line}
use Rattle.rd_reading.specs.declared.parsing.SpecRefused.{SpecRefused as Refusal}
use Rattle.rd_report.specs.Races.{EndLines, Told, later_line, race_text}
use Rattle.rd_report.specs.Texts.{Naming, ending_text}
use Rattle.rd_report.specs.declared.endings.Ending.{Ending}
use Rattle.rd_report.specs.declared.races.RaceEnds.{RaceEnds}
use Rattle.rd_json.specs.Json.{alone_json, ending_json, race_json, spec_refused_json, told_json}
use Rattle.rd_json.specs.declared.forms.Form.{Form}
use Rattle.rd_json.specs.declared.forms.Form.TheVariants.{Text, Json, EndingOnly}

-- a race, the later call first
abbrev pub race_in : Form → List SpecifiedKind → Naming → Told → Told → List ℕ
race_in Text kinds naming later earlier = race_text kinds naming later earlier
race_in Json kinds naming later earlier = race_json kinds naming later earlier
race_in EndingOnly kinds naming later earlier = []

-- what a race tells of its later call, which is copied where the next race is with that call: as text its line, as JSON what stands in the object
abbrev pub told_in : Form → List SpecifiedKind → Naming → Told → List ℕ
told_in Text kinds naming told = later_line kinds naming told
told_in Json kinds naming told = told_json kinds naming told
told_in EndingOnly kinds naming told = []

-- in a text that begins with these bytes, the first two lines of a race end at these places: an object is one line, and where the ending
-- alone is written there is none
abbrev pub EndLinesIn : Form → List ℕ → List SpecifiedKind → Naming → Told → Told → RaceEnds → Type 0
EndLinesIn Text begun kinds naming later earlier ends = EndLines begun kinds naming later earlier ends
EndLinesIn Json begun kinds naming later earlier ends =
    (ends.later ≡ length (begun ++ race_json kinds naming later earlier)) × (ends.earlier ≡ length (begun ++ race_json kinds naming later earlier))
EndLinesIn EndingOnly begun kinds naming later earlier ends = (ends.later ≡ length begun) × (ends.earlier ≡ length begun)

-- what stands behind the races, by the names of the threads
abbrev pub ending_in : Form → List (List ℕ) → ℕ → Ending → List ℕ
ending_in Text names races ending = ending_text names races ending
ending_in Json names races ending = ending_json names races ending
ending_in EndingOnly names races ending = ending_text names races ending

-- where a file can't be opened, or a specification not be read
abbrev pub fault_in : Form → List ℕ
fault_in Text = fault_line
fault_in Json = alone_json (codes "fault input")
fault_in EndingOnly = fault_line

-- where a specification is refused
abbrev pub refused_in : Form → Refusal → List ℕ
refused_in Text refused = spec_refused_line refused
refused_in Json refused = spec_refused_json refused
refused_in EndingOnly refused = spec_refused_line refused
