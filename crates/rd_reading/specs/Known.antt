-- What the lines of a specification's text say so far: this project's profile.
use Rattle.std.specs.Prelude.{ℕ, List, [], ◌∷◌, ◌++◌, map, Option, Some, None}
use Rattle.rd_ecl.specs.Specified.{SpecifiedKind, names_of}
use Rattle.rd_open_kind.specs.Opened.{Opened, filled, kind_named}
use Rattle.rd_reading.specs.declared.known.Block.{Block}
use Rattle.rd_reading.specs.declared.known.Known.{Known}
use Rattle.rd_lines.specs.declared.forms.Stage.{Stage}
use Rattle.rd_lines.specs.declared.forms.Stage.TheVariants.{Outside}

-- the kind that is open; one without a method where none is
abbrev pub opened_in : Option Block → Opened
opened_in None = kind_named []
opened_in (Some block) = block.opened

-- the same without its definitions and its default
abbrev pub kind_in : Option Block → SpecifiedKind
kind_in block = (opened_in block).kind

-- where the next line stands
abbrev pub stage_in : Option Block → Stage
stage_in None = Outside
stage_in (Some block) = block.stage

abbrev pub stage_of : Known → Stage
stage_of known = stage_in known.block

-- the names of the open kind's methods
abbrev pub open_method_names : Known → List (List ℕ)
open_method_names known = names_of (kind_in known.block).methods

-- the open kind as it is once it is closed: with its default for each pair without a formula
abbrev pub open_kinds : Option Block → List SpecifiedKind
open_kinds None = []
open_kinds (Some block) = filled block.opened ∷ []

-- the kinds so far, the open one last
abbrev pub kinds_so_far : Known → List SpecifiedKind
kinds_so_far known = known.closed ++ open_kinds known.block

abbrev pub specified_kind_names : List SpecifiedKind → List (List ℕ)
specified_kind_names kinds = map (λ kind. kind.name) kinds

-- what is known before the first line
abbrev pub nothing : Known
nothing = record { version = None; closed = []; block = None }
