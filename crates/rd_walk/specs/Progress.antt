-- Where a walk over the lines of an input has come.
use Rattle.std.specs.Prelude.{◌≡◌, ◌≤◌, ℕ, ◌+◌, List, [], ◌∷◌, ◌++◌, All, length}
use Rattle.std.specs.List.{flat_map}
use Rattle.rd_base.specs.Bytes.{IsFront}
use Rattle.rd_io.specs.LineReader.{HasNoFeed, Reader, lines_left}
use Rattle.rd_io.specs.Lines.{Stop}
use Rattle.rd_io.specs.Lines.Stop.{end, fault}
use Rattle.rd_io.specs.declared.lines.ReadEnd.{ReadEnd}
use Rattle.rd_io.specs.declared.lines.ReadEnd.TheVariants.{ReadFault, LineTooLong, BytesLimit, NoFinalNewline as NoLineFeed}
use Rattle.rd_base.specs.declared.limits.Limits.{Limits}
use Rattle.rd_base.specs.declared.limits.LimitName.TheVariants.{Bytes, Line}
use Rattle.rd_ecl.specs.Kinds.{Kind}
use Rattle.rd_walk.specs.Walk.{Entry, Saying, Walked, after, ends, items, trace_by, walk_by}
use Rattle.rd_rules.specs.declared.causes.TraceCause.TheVariants.{NoFinalNewline, Limit}
use Rattle.rd_walk.specs.declared.walk.WalkEnd.{WalkEnd}
use Rattle.rd_walk.specs.declared.walk.WalkEnd.TheVariants.{End, Refused, Fault}

-- how a trace ends where the reader refuses the line with this number
abbrev pub ending_for : Limits → ℕ → ReadEnd → WalkEnd
ending_for limits number ReadFault = Fault
ending_for limits number LineTooLong = Refused number (Limit Line limits.line)
ending_for limits number BytesLimit = Refused number (Limit Bytes limits.bytes)
ending_for limits number NoLineFeed = Refused number NoFinalNewline

-- Where these bytes were taken of an input and `held` is left of it: these lines of it are accepted, and it ends so. At its end nothing is
-- left.
abbrev pub WalksTo : Saying → List Kind → Limits → List ℕ → List ℕ → List Entry → WalkEnd → Type 0
WalksTo says kinds limits taken held entries Fault = trace_by says kinds limits fault taken ≡ after entries (ends Fault)
WalksTo says kinds limits taken held entries End = (held ≡ []) × (trace_by says kinds limits end (taken ++ held) ≡ after entries (ends End))
WalksTo says kinds limits taken held entries (Refused number cause) =
    trace_by says kinds limits end (taken ++ held) ≡ after entries (ends (Refused number cause))

-- these lines are the first that are accepted, whatever comes behind the bytes that were taken
abbrev pub WalksOn : Saying → List Kind → Limits → List ℕ → List Entry → Type 0
WalksOn says kinds limits taken entries =
    (stop : Stop) (more : List ℕ) → (walked : Walked) × (trace_by says kinds limits stop (taken ++ more) ≡ after entries walked)

-- the same, and the lines behind them are those that the reader has still to give
abbrev pub Continues : Saying → List Kind → Limits → List ℕ → Reader → List Entry → Type 0
Continues says kinds limits taken reader entries =
    (stop : Stop) (more : List ℕ) → trace_by says kinds limits stop (taken ++ more)
    ≡ after entries (walk_by says kinds limits (items entries) (reader.number + 1) (lines_left reader stop more))

-- a line with its line feed
abbrev pub with_feed : List ℕ → List ℕ
with_feed line = line ++ 10 ∷ []

-- these lines were cut off the front of what was taken, and what is left of it is pending
pub record IsCut (limits : Limits) (taken : List ℕ) (reader : Reader) (lines : List (List ℕ)) : Type 0 where
  pub cut : taken ≡ flat_map with_feed lines ++ reader.pending
  pub clean : All HasNoFeed lines
  pub limit : reader.limit ≡ limits.line
  pub room : length (flat_map with_feed lines) + reader.room ≡ limits.bytes

-- The accepted entries that were begun, where `part` is what was written: all of the text of the first of them, and behind these at most one
-- more. So none is begun behind a write that failed.
pub record IsBegun (text : List Entry → List ℕ) (part : List ℕ) (begun : List Entry) : Type 0 where
  pub told : List Entry
  pub last : List Entry
  pub is : begun ≡ told ++ last
  pub one : length last ≤ 1
  pub written : IsFront (text told) part

-- What was taken of a trace of which so many lines were begun: all of these lines, or all but the last of them, and behind these no more
-- bytes than a line may have, which hold that last one, or whatever line was refused; and all in all at most one byte past the limit on bytes.
pub record IsTakenOfTrace (limits : Limits) (taken : List ℕ) (begun : ℕ) : Type 0 where
  pub lines : List (List ℕ)
  pub rest : List ℕ
  pub cut : taken ≡ flat_map with_feed lines ++ rest
  pub clean : All HasNoFeed lines
  pub few : length lines ≤ begun
  -- no line was begun behind one that wasn't done with
  pub most : begun ≤ length lines + 1
  pub short : length rest ≤ limits.line
  pub bound : length taken ≤ limits.bytes + 1
