-- Which lines of a trace are accepted, which is refused and why, and how they end, in words: this project's profile.
use Rattle.std.specs.Prelude.{◌≡◌, ◌⊎◌, ℕ, ◌+◌, List, [], ◌∷◌, ◌++◌}
use Rattle.rd_base.specs.declared.limits.Limits.{Limits}
use Rattle.rd_ecl.specs.Kinds.{Kind}
use Rattle.rd_event.specs.Items.{LineInRange, Says}
use Rattle.rd_event.specs.declared.items.Line.{Line}
use Rattle.rd_io.specs.Lines.{Reading}
use Rattle.rd_io.specs.Lines.Reading.{stops, line}
use Rattle.rd_walk.specs.Walk.{Entry, trace_end_of}
use Rattle.rd_walk.specs.declared.walk.WalkEnd.TheVariants.{Refused}
use Rattle.rd_walk.specs.declared.walk.WalkEnd.{WalkEnd}
use Rattle.rd_rules.specs.MayFollow.{IsBrokenFirst, MayFollow, version_of}
use Rattle.rd_rules.specs.declared.causes.TraceCause.TheVariants.{BadLine, Wf}
use Rattle.rd_rules.specs.declared.causes.TraceCause.{TraceCause}
use Rattle.rd_rules.specs.declared.causes.WfCause.{WfCause}

-- the bytes of a line say no item of this version
abbrev pub SaysNone : ℕ → List ℕ → Type 0
SaysNone version bytes = (item : Line) → LineInRange item → ¬ (Says version bytes item)

-- they say this item
pub record SaysItem (version : ℕ) (bytes : List ℕ) (item : Line) : Type 0 where
  pub range : LineInRange item
  pub says : Says version bytes item

-- the line with these bytes is accepted behind the accepted ones, as this item of their version
pub record IsAcceptedLine (kinds : List Kind) (limits : Limits) (before : List Line) (bytes : List ℕ) (item : Line) : Type 0 where
  pub said : SaysItem (version_of before) bytes item
  pub follows : MayFollow kinds limits before item

-- It is refused behind them for this cause: it says no item of their version, or the item that it says breaks the rule of this cause and of none
-- before it.
abbrev pub IsRefusedLine : List Kind → Limits → List Line → List ℕ → TraceCause → Type 0
IsRefusedLine kinds limits before bytes BadLine = SaysNone (version_of before) bytes
IsRefusedLine kinds limits before bytes refused =
    (item : Line) × (cause : WfCause) × SaysItem (version_of before) bytes item × IsBrokenFirst kinds limits before item cause × (refused ≡ Wf cause)

-- Of the lines that come behind the accepted ones, the first of them with this number, these are accepted, up to the first that is
-- refused or to the end of the lines, and so they end.
abbrev pub IsWalk : List Kind → Limits → List Line → ℕ → Reading → List Entry → WalkEnd → Type 0
IsWalk kinds limits before number (stops end) entries ending = (entries ≡ []) × (ending ≡ trace_end_of limits before number end)
IsWalk kinds limits before number (line bytes more) entries ending =
    ((cause : TraceCause) × IsRefusedLine kinds limits before bytes cause × (entries ≡ []) × (ending ≡ Refused number cause))
    ⊎ ((item : Line) × (later : List Entry) × IsAcceptedLine kinds limits before bytes item
    × (entries ≡ record { number = number; item = item } ∷ later) × IsWalk kinds limits (before ++ item ∷ []) (number + 1) more later ending)
