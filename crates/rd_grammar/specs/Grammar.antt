-- The grammar of formulas: this project's profile.
use Rattle.std.specs.Prelude.{◌≡◌, ◌≤◌, ℕ, Bool, true, false, List, [], ◌∷◌, ◌++◌, length, take, drop}
use Rattle.rd_grammar.specs.FirstWrong.{WrongAt}
use Rattle.rd_grammar.specs.declared.marks.Leaf.{Leaf}
use Rattle.rd_grammar.specs.declared.marks.Mark.{Mark}
use Rattle.rd_grammar.specs.declared.marks.Sign.{Sign}
use Rattle.rd_grammar.specs.declared.marks.Symbol.{Symbol}
use Rattle.rd_grammar.specs.declared.marks.Symbol.TheVariants.{Open, Close, Not, And, Or, Leaf as LeafOf, Sign as SignOf, Term}
use Rattle.rd_grammar.specs.declared.parsed.Parsed.{Parsed, Leaf as ParsedLeaf, Relation, Not', And', Or'}
use Rattle.rd_grammar.specs.declared.parsed.MarksRefused.{MarksRefused}
use Rattle.rd_grammar.specs.declared.parsed.MarksRefused.TheVariants.{Syntax, NoMemory}

-- a formula; each number is that of a token: of the node's own, and of a relation's two terms
pub data ParsedTree : Type 0 where
  -- true, false or a name
  leaf : Leaf → ℕ → ParsedTree
  -- the first term, the sign and its number, the second term
  relation : ℕ → Sign → ℕ → ℕ → ParsedTree
  -- not, and, or
  negation : ℕ → ParsedTree → ParsedTree
  both : ParsedTree → ℕ → ParsedTree → ParsedTree
  either : ParsedTree → ℕ → ParsedTree → ParsedTree

-- is it a term beside a sign? A leaf is one there, and a formula where no sign stands beside it
abbrev pub is_term : Symbol → Bool
is_term (LeafOf word) = true
is_term Term = true
is_term _ = false

-- the levels of the grammar, the loosest first
pub data Level : Type 0 where
  disj : Level
  conj : Level
  neg : Level
  prim : Level

-- the marks are a formula of the level, with this tree
pub data MarksSay : Level → List Mark → ParsedTree → Type 0 where
  -- disj := conj | disj or conj
  disj_one : {ms : List Mark} {f : ParsedTree} → MarksSay conj ms f → MarksSay disj ms f
  disj_or : {ms ns : List Mark} {f g : ParsedTree} → MarksSay disj ms f → (m : Mark) → m.symbol ≡ Or → MarksSay conj ns g
      → MarksSay disj (ms ++ m ∷ ns) (either f m.token g)
  -- conj := neg | conj and neg
  conj_one : {ms : List Mark} {f : ParsedTree} → MarksSay neg ms f → MarksSay conj ms f
  conj_and : {ms ns : List Mark} {f g : ParsedTree} → MarksSay conj ms f → (m : Mark) → m.symbol ≡ And → MarksSay neg ns g
      → MarksSay conj (ms ++ m ∷ ns) (both f m.token g)
  -- neg := prim | not neg
  neg_one : {ms : List Mark} {f : ParsedTree} → MarksSay prim ms f → MarksSay neg ms f
  neg_not : {ms : List Mark} {f : ParsedTree} → (m : Mark) → m.symbol ≡ Not → MarksSay neg ms f → MarksSay neg (m ∷ ms) (negation m.token f)
  -- prim := leaf | ( disj ) | term sign term
  prim_leaf : (m : Mark) (word : Leaf) → m.symbol ≡ LeafOf word → MarksSay prim (m ∷ []) (leaf word m.token)
  prim_in : {ms : List Mark} {f : ParsedTree} → (opening closing : Mark) → opening.symbol ≡ Open → MarksSay disj ms f
      → closing.symbol ≡ Close
      → MarksSay prim (opening ∷ ms ++ closing ∷ []) f
  prim_relation : (l m r : Mark) (sign : Sign) → is_term l.symbol ≡ true → m.symbol ≡ SignOf sign → is_term r.symbol ≡ true
      → MarksSay prim (l ∷ m ∷ r ∷ []) (relation l.token sign m.token r.token)

-- the tree of a formula that was read
abbrev pub parsed_tree : Parsed → ParsedTree
parsed_tree (ParsedLeaf word token) = leaf word token
parsed_tree (Relation left sign token right) = relation left sign token right
parsed_tree (Not' token p inner) = negation token (parsed_tree inner)
parsed_tree (And' p left token q right) = both (parsed_tree left) token (parsed_tree right)
parsed_tree (Or' p left token q right) = either (parsed_tree left) token (parsed_tree right)

-- what a refusal says of the marks; want of memory says nothing
abbrev pub AreMarksRefused : List Mark → MarksRefused → Type 0
AreMarksRefused marks (Syntax place) = (place ≤ length marks) × WrongAt (MarksSay disj) (take place marks) (drop place marks)
AreMarksRefused marks NoMemory = Unit {0}
