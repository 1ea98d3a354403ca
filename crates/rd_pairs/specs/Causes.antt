-- The causes to refuse a line of a specification's text: their order, and the first of them. This project's profile.
use Rattle.std.specs.Prelude.{◌≤◌, ◌+◌, ℕ, List, length, slice_get, unwrap_or, option_map, Option, Some, None}
use Rattle.rd_base.specs.declared.limits.LimitName.{LimitName}
use Rattle.rd_base.specs.declared.limits.LimitName.TheVariants.{Tokens, Kinds, Methods as MethodLimit, Arguments, Nodes, FormulaDepth}
use Rattle.rd_pairs.specs.declared.refused.SpecLineRefused.{SpecLineRefused}
use Rattle.rd_pairs.specs.declared.refused.SpecLineRefused.TheVariants.{Fault as Faulted, NoMemory}
use Rattle.rd_pairs.specs.declared.spec_causes.Fault.{Fault}
use Rattle.rd_pairs.specs.declared.spec_causes.SpecCause.{SpecCause}
use Rattle.rd_pairs.specs.declared.spec_causes.SpecCause.TheVariants.{Header, Syntax, UnknownMethod, UnknownVariable, NoVariable, OutsideFragment, Duplicate, MissingPair, KindTaken, Limit}
use Rattle.rd_tokens.specs.declared.sorts.Token.{Token}

-- the place of the token with this number, in bytes from 1; behind the line where there is no such token
abbrev pub place_at : List ℕ → List Token → ℕ → ℕ
place_at line tokens number = unwrap_or (option_map (λ token. token.place) (slice_get tokens number)) (length line + 1)

-- the order of the limits, and that of the causes
abbrev pub limit_rank : LimitName → ℕ
limit_rank Kinds = 0
limit_rank MethodLimit = 1
limit_rank Arguments = 2
limit_rank Nodes = 3
limit_rank FormulaDepth = 4
limit_rank _ = 5

abbrev pub rank : SpecCause → ℕ
rank Header = 0
rank (Limit Tokens number) = 1
rank Syntax = 2
rank UnknownMethod = 3
rank UnknownVariable = 4
rank NoVariable = 5
rank (OutsideFragment reason) = 6
rank Duplicate = 7
rank (MissingPair first second) = 8
rank KindTaken = 9
rank (Limit name number) = 10 + limit_rank name

-- of such causes this is the first, and it stands there
pub record IsFirstOf (H : SpecCause → ℕ → Type 0) (cause : SpecCause) (place : ℕ) : Type 0 where
  pub has : H cause place
  pub first : (other : SpecCause) (elsewhere : ℕ) → H other elsewhere → rank cause ≤ rank other

-- there is no such cause
abbrev pub HasNone : (SpecCause → ℕ → Type 0) → Type 0
HasNone H = (cause : SpecCause) (place : ℕ) → ¬ (H cause place)

-- the first of such causes; none where there is none
abbrev pub Judged : (SpecCause → ℕ → Type 0) → Option Fault → Type 0
Judged H None = HasNone H
Judged H (Some fault) = IsFirstOf H fault.cause fault.place

-- a refusal tells the first of these causes; want of memory says nothing
abbrev pub IsSpecLineRefused : (SpecCause → ℕ → Type 0) → SpecLineRefused → Type 0
IsSpecLineRefused H (Faulted fault) = IsFirstOf H fault.cause fault.place
IsSpecLineRefused H NoMemory = Unit {0}
