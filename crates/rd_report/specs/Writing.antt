-- What is put last for one thread of a clock, and which bytes are put: this project's profile.
use Rattle.std.specs.Prelude.{ℕ, ◌==◌, Bool, if◌then◌else◌, List, [], ◌++◌, codes, decimal}
use Rattle.std.specs.List.{AllPass}
use Rattle.rd_base.specs.Spelling.{is_plain}

-- the comma behind the parts that stand there, if any do
abbrev pub comma : Bool → List ℕ
comma some = if some then codes "," else []

-- the part of a thread of which so many events are counted; nothing for none
abbrev pub clock_part_text : Bool → List ℕ → ℕ → List ℕ
clock_part_text some name count = if count == 0 then [] else comma some ++ (name ++ codes ":" ++ decimal count)

-- all bytes are spaces or visible
abbrev pub ArePlain : List ℕ → Type 0
ArePlain bytes = AllPass is_plain bytes
