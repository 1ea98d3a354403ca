-- The machine that the reader runs. Nobody has to believe it: the reader's contract speaks of the grammar alone.
use Rattle.std.specs.Prelude.{ℕ, Bool, true, false, Option, Some, None, List, [], ◌∷◌, map, reverse, option_map}
use Rattle.rd_grammar.specs.Grammar.{ParsedTree, leaf, relation, negation, both, either, parsed_tree}
use Rattle.rd_grammar.specs.declared.marks.Leaf.{Leaf}
use Rattle.rd_grammar.specs.declared.marks.Mark.{Mark}
use Rattle.rd_grammar.specs.declared.marks.Sign.{Sign}
use Rattle.rd_grammar.specs.declared.marks.Symbol.{Symbol}
use Rattle.rd_grammar.specs.declared.marks.Symbol.TheVariants.{Open, Close, Not, And, Or, Leaf as LeafOf, Sign as SignOf, Term}
use Rattle.rd_grammar.specs.declared.reader.LeftPart.{LeftPart}
use Rattle.rd_grammar.specs.declared.reader.Pending.{Pending as PendingCode}
use Rattle.rd_grammar.specs.declared.reader.Mode.{Mode}
use Rattle.rd_grammar.specs.declared.reader.Mode.TheVariants.{Wanting, Lead, Sided, Signed, Complete}
use Rattle.rd_grammar.specs.declared.reader.Reader.{Reader}

-- a formula before an `and` or an `or`, and the number of that word
pub record Left : Type 0 where
  pub tree : ParsedTree
  pub token : ℕ

-- what waits for an operand since the last open parenthesis; the latest `not` stands first
pub record Pending : Type 0 where
  pub ors : Option Left
  pub ands : Option Left
  pub nots : List ℕ

pub data State : Type 0 where
  -- an operand is due
  want : Pending → List Pending → State
  -- a word that is a formula or a term, which is a term where a sign follows
  lead : Leaf → ℕ → Pending → List Pending → State
  -- a term, whose sign is due
  sided : ℕ → Pending → List Pending → State
  -- a term and a sign
  signed : ℕ → Sign → ℕ → Pending → List Pending → State
  -- a formula is complete
  have : ParsedTree → Option Left → List Pending → State

-- nothing waits
abbrev pub empty : Pending
empty = record { ors = None; ands = None; nots = [] }

-- nothing is read yet
abbrev pub start : State
start = want empty []

-- the formula with each `not` that waits for it, the latest innermost
abbrev pub nots_of : List ℕ → ParsedTree → ParsedTree
nots_of [] f = f
nots_of (n ∷ ns) f = nots_of ns (negation n f)

-- the formula with what an `and` joins it to
abbrev pub and_with : Option Left → ParsedTree → ParsedTree
and_with None g = g
and_with (Some left) g = both left.tree left.token g

-- the formula with what an `or` joins it to
abbrev pub or_with : Option Left → ParsedTree → ParsedTree
or_with None g = g
or_with (Some left) g = either left.tree left.token g

-- an operand is complete
abbrev pub behind_operand : ParsedTree → Pending → List Pending → State
behind_operand f p st = have (and_with p.ands (nots_of p.nots f)) p.ors st

-- behind a `not`, an `and` and an `or`
abbrev pub with_not : Pending → ℕ → Pending
with_not p token = record p { nots = token ∷ p.nots }

abbrev pub behind_and : ParsedTree → Option Left → ℕ → Pending
behind_and f o token = record { ors = o; ands = Some (record { tree = f; token = token }); nots = [] }

abbrev pub behind_or : ParsedTree → Option Left → ℕ → Pending
behind_or f o token = record { ors = Some (record { tree = or_with o f; token = token }); ands = None; nots = [] }

-- behind a closing parenthesis
abbrev pub behind_parenthesis : ParsedTree → Option Left → List Pending → Option State
behind_parenthesis f o [] = None
behind_parenthesis f o (p ∷ st) = Some (behind_operand (or_with o f) p st)

-- the state behind a mark where an operand is due
abbrev pub from_want : Pending → List Pending → Symbol → ℕ → Option State
from_want p st Open token = Some (want empty (p ∷ st))
from_want p st Not token = Some (want (with_not p token) st)
from_want p st (LeafOf word) token = Some (lead word token p st)
from_want p st Term token = Some (sided token p st)
from_want p st _ token = None

-- behind a formula
abbrev pub from_have : ParsedTree → Option Left → List Pending → Symbol → ℕ → Option State
from_have f o st Close token = behind_parenthesis f o st
from_have f o st And token = Some (want (behind_and f o token) st)
from_have f o st Or token = Some (want (behind_or f o token) st)
from_have f o st _ token = None

-- behind such a word: as behind a formula, but for a sign
abbrev pub from_lead : Leaf → ℕ → Pending → List Pending → Symbol → ℕ → Option State
from_lead word n p st (SignOf sign) token = Some (signed n sign token p st)
from_lead word n p st symbol token = from_have (and_with p.ands (nots_of p.nots (leaf word n))) p.ors st symbol token

-- behind a term
abbrev pub from_sided : ℕ → Pending → List Pending → Symbol → ℕ → Option State
from_sided n p st (SignOf sign) token = Some (signed n sign token p st)
from_sided n p st _ token = None

-- behind a term and a sign, of which a further term makes this relation
abbrev pub from_signed : ParsedTree → Pending → List Pending → Symbol → Option State
from_signed f p st (LeafOf word) = Some (behind_operand f p st)
from_signed f p st Term = Some (behind_operand f p st)
from_signed f p st _ = None

-- is it a sign?
abbrev pub is_sign : Symbol → Bool
is_sign (SignOf sign) = true
is_sign _ = false

-- the state behind a mark of this symbol and number, if it may come
abbrev pub step_on : State → Symbol → ℕ → Option State
step_on (want p st) symbol token = from_want p st symbol token
step_on (lead word n p st) symbol token = from_lead word n p st symbol token
step_on (sided n p st) symbol token = from_sided n p st symbol token
step_on (signed n sign k p st) symbol token = from_signed (relation n sign k token) p st symbol
step_on (have f o st) symbol token = from_have f o st symbol token

-- the state behind the mark, if it may come
abbrev pub step : State → Mark → Option State
step s m = step_on s m.symbol m.token

-- the formula, if no parenthesis is open
abbrev pub whole_formula : ParsedTree → Option Left → List Pending → Option ParsedTree
whole_formula f o [] = Some (or_with o f)
whole_formula f o (p ∷ st) = None

-- the formula that was read, if the marks may end in this state
abbrev pub formula_at_end : State → Option ParsedTree
formula_at_end (lead word n p st) = whole_formula (and_with p.ands (nots_of p.nots (leaf word n))) p.ors st
formula_at_end (have f o st) = whole_formula f o st
formula_at_end _ = None

-- what the parts of the reader in the code stand for
abbrev pub left_of : LeftPart → Left
left_of left = record { tree = parsed_tree left.formula; token = left.token }

abbrev pub pending_of : PendingCode → Pending
pending_of p = record { ors = option_map left_of p.or; ands = option_map left_of p.and; nots = reverse p.nots.items }

abbrev pub stack_of : List PendingCode → List Pending
stack_of stack = reverse (map pending_of stack)

abbrev pub state_in : Mode → List PendingCode → State
state_in (Wanting pending) stack = want (pending_of pending) (stack_of stack)
state_in (Lead word token pending) stack = lead word token (pending_of pending) (stack_of stack)
state_in (Sided left pending) stack = sided left (pending_of pending) (stack_of stack)
state_in (Signed left sign token pending) stack = signed left sign token (pending_of pending) (stack_of stack)
state_in (Complete right) stack = have (parsed_tree right.formula) (option_map left_of right.or) (stack_of stack)

abbrev pub state_of : Reader → State
state_of reader = state_in reader.mode reader.stack.items
