-- The limits of a run, and their texts: this project's profile.
use Rattle.std.specs.Prelude.{◌≤◌, ℕ, List, ◌++◌, codes, decimal}
use Rattle.rd_base.specs.declared.limits.LimitName.{LimitName}
use Rattle.rd_base.specs.declared.limits.LimitName.TheVariants.{Bytes, Line, Events, Threads, Locks, Objects, Depth, SpecText, Tokens, Kinds, Methods, Arguments, Nodes, FormulaDepth, Predicates}
use Rattle.rd_base.specs.declared.limits.Limits.{Limits}

-- what each call that takes limits asks of them
pub record AreUsable (limits : Limits) : Type 0 where
  pub line : 1 ≤ limits.line
  pub events : limits.events ≤ 4294967294
  pub bytes : limits.bytes ≤ 18446744073709551614

-- the limits of the program
abbrev pub standard : Limits
standard =
    record { bytes = 1099511627776; line = 8192; events = 4294967294; threads = 4096; locks = 65536; objects = 65536; depth = 65535 }

-- the name of a limit
unfoldable pub limit_text : LimitName → List ℕ
limit_text Bytes = codes "bytes"
limit_text Line = codes "line"
limit_text Events = codes "events"
limit_text Threads = codes "threads"
limit_text Locks = codes "locks"
limit_text Objects = codes "objects"
limit_text Depth = codes "depth"
limit_text SpecText = codes "text"
limit_text Tokens = codes "tokens"
limit_text Kinds = codes "kinds"
limit_text Methods = codes "methods"
limit_text Arguments = codes "arguments"
limit_text Nodes = codes "nodes"
limit_text FormulaDepth = codes "depth"
limit_text Predicates = codes "predicates"

-- a limit that was passed
abbrev pub limit_cause_text : LimitName → ℕ → List ℕ
limit_cause_text name number = codes "limit " ++ limit_text name ++ codes " " ++ decimal number
