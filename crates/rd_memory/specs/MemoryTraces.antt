-- The trace that lines of reads and writes stand for: this project's profile.
use Rattle.std.specs.Prelude.{ℕ, if◌then◌else◌, List, [], ◌∷◌, ◌++◌, codes, Bool, Option}
use Rattle.std.specs.Option.{option_map}
use Rattle.rd_base.specs.declared.values.Value.TheVariants.{Nil}
use Rattle.rd_event.specs.declared.items.Line.{Line}
use Rattle.rd_event.specs.declared.items.Line.TheVariants as item
use Rattle.rd_event.specs.declared.items.LineEvent.TheVariants.{Call}
use Rattle.rd_rules.specs.MayFollow.{is_among, objects_of}
use Rattle.rd_memory.specs.declared.lines.MemLine.{MemLine}
use Rattle.rd_memory.specs.declared.lines.MemLine.TheVariants.{Skip, Header, Thread, Event, Access}
use Rattle.rd_memory.specs.MemoryLines.{access_keyword, memory_line_of}

-- an access is a call of the variable without arguments, whose result is nil
abbrev pub access_call : List ℕ → List ℕ → Bool → Line
access_call thread variable write = item.Event (Call thread variable (access_keyword write) (Nil ∷ []))

-- the variable's declaration, if the lines before have none of this name
abbrev pub declaration : List Line → List ℕ → List Line
declaration before variable = if is_among (objects_of before) variable then [] else item.Object variable (codes "variable") ∷ []

-- what a line stands for behind accepted items. The first access to a variable declares it
abbrev pub items_said : List Line → MemLine → List Line
items_said before Skip = item.Skip ∷ []
items_said before Header = item.Header 1 ∷ []
items_said before (Thread thread) = item.Thread thread ∷ []
items_said before (Event event) = item.Event event ∷ []
items_said before (Access thread variable write) = declaration before variable ++ access_call thread variable write ∷ []

-- what the bytes stand for
abbrev pub memory_says : List Line → List ℕ → Option (List Line)
memory_says before bytes = option_map (items_said before) (memory_line_of bytes)
