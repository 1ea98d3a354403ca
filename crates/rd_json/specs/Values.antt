-- The JSON values whose text is written.
use Rattle.std.specs.Prelude.{ℕ, List, codes}
use Rattle.serde_json.specs.Data.{Data, number, unsigned, string, object, member, no_members}
use Rattle.rd_ecl.specs.Specified.{SpecifiedKind}
use Rattle.rd_report.specs.Races.{Told, clock_text, named_call}
use Rattle.rd_report.specs.Texts.{Naming}
use Rattle.rd_report.specs.Writing.{ArePlain}

abbrev pub call_value : List ℕ → List ℕ → ℕ → Data
call_value call clock line =
    object (member (codes "call") (string call) (member (codes "clock") (string clock) (member (codes "line") (number (unsigned line)) no_members)))

abbrev pub told_value : List SpecifiedKind → Naming → Told → Data
told_value kinds naming told = call_value (named_call kinds naming told.call) (clock_text naming.threads told.clock) told.line

-- the texts in it are plain
abbrev pub IsPlainCall : List SpecifiedKind → Naming → Told → Type 0
IsPlainCall kinds naming told = ArePlain (named_call kinds naming told.call) × ArePlain (clock_text naming.threads told.clock)

abbrev pub race_value : Data → List ℕ → Data → Data
race_value earlier formula later =
    object (member (codes "earlier") earlier (member (codes "formula") (string formula) (member (codes "later") later no_members)))

abbrev pub end_value : ℕ → List ℕ → List ℕ → Data
end_value races replay verdict =
    object (member (codes "ending") (string (codes "end")) (member (codes "races") (number (unsigned races))
    (member (codes "replay") (string replay) (member (codes "verdict") (string verdict) no_members))))

abbrev pub cut_value : ℕ → List ℕ → Data
cut_value races ending = object (member (codes "ending") (string ending) (member (codes "races") (number (unsigned races)) no_members))

abbrev pub alone_value : List ℕ → Data
alone_value ending = object (member (codes "ending") (string ending) no_members)
