-- Reads and writes as a trace: each variable is an object of one kind, and each access a call on it. This project's profile.
use Rattle.std.specs.Prelude.{◌≡◌, ℕ, ◌<◌, Bool, true, false, List, [], ◌∷◌, ◌++◌, Option, Some, None, codes, replicate, slice_get, if◌then◌else◌}
use Rattle.rd_base.specs.declared.values.Value.{Value}
use Rattle.rd_ecl.specs.Formulas.{Tree, truth}
use Rattle.rd_ecl.specs.Specified.{SpecifiedKind}
use Rattle.rd_ecl.specs.declared.kinds.Method.{Method}
use Rattle.rd_event.specs.declared.events.Call.{Call as CallOf}
use Rattle.rd_event.specs.declared.events.Event.{Event}
use Rattle.rd_event.specs.declared.events.Event.TheVariants.{Call}
use Rattle.rd_races.specs.Commuting.{Commute}
use Rattle.rd_races.specs.Races.{Reported}

-- ---- the kind

-- a method without arguments, whose result is named `r`
abbrev pub plain_method : List ℕ → Method
plain_method name = record { name = name; variables = codes "r" ∷ [] }

-- two reads commute, and no other two accesses do. The pair of methods m and n stands at 16 n + m
abbrev pub variable_pairs : List (Option Tree)
variable_pairs = Some (truth true) ∷ replicate 15 None ++ (Some (truth false) ∷ Some (truth false) ∷ replicate 14 None)

-- what variables are: they are read and written
unfoldable pub variable_kind : SpecifiedKind
variable_kind = record { name = codes "variable"; methods = plain_method (codes "read") ∷ plain_method (codes "write") ∷ []; pairs = variable_pairs }

abbrev pub variable_kinds : List SpecifiedKind
variable_kinds = variable_kind ∷ []

-- ---- accesses

-- the number of the method
abbrev pub access_method : Bool → ℕ
access_method write = if write then 1 else 0

-- a thread reads or writes a variable, whatever is recorded of it
abbrev pub call_of_access : ℕ → ℕ → Bool → List Value → CallOf
call_of_access thread variable write slots = record { thread = thread; object = variable; kind = 0; method = access_method write; slots = slots }

-- the event at a place is an access to the variable
pub record IsAccess (es : List Event) (variable : ℕ) (write : Bool) (place : ℕ) : Type 0 where
  pub call : CallOf
  pub at : slice_get es place ≡ Some (Call call)
  pub object : call.object ≡ variable
  pub method : call.method ≡ access_method write

-- ---- races

-- the access at this place is reported
abbrev pub IsReported : List Event → ℕ → Type 0
IsReported es j = Reported (Commute variable_kinds) es j

-- it is the first to its variable that is
pub record IsFirstRace (es : List Event) (variable j : ℕ) : Type 0 where
  pub write : Bool
  pub at : IsAccess es variable write j
  pub reported : IsReported es j
  pub first : (w : Bool) (k : ℕ) → k < j → IsAccess es variable w k → ¬ (IsReported es k)
