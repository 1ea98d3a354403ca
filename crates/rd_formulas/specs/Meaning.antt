-- What the text of a formula says of two calls: this project's profile.
use Rattle.std.specs.Prelude.{◌≡◌, ℕ, Bool, true, false, List, [], ◌∷◌, ◌++◌, Option, Some, None, option_map, replicate}
use Rattle.std.specs.List.{AllByRecursion}
use Rattle.rd_ecl.specs.declared.formulas.Rel.TheVariants.{Eq, Lt, Le}
use Rattle.rd_ecl.specs.declared.formulas.Side.{Side}
use Rattle.rd_ecl.specs.declared.formulas.Side.TheVariants.{First, Second}
use Rattle.rd_ecl.specs.declared.formulas.Term.{Term}
use Rattle.rd_ecl.specs.declared.formulas.Term.TheVariants.{Slot, Const}
use Rattle.rd_ecl.specs.Formulas.{Tree, nodes, truth, atom, cross, mixed, negation, both, either}
use Rattle.rd_formulas.specs.declared.terms.Meant.{Meant}
use Rattle.rd_formulas.specs.declared.terms.Meant.TheVariants.{Slot as SlotOf, Value as ValueOf}
use Rattle.rd_grammar.specs.declared.marks.Leaf.TheVariants.{Name, Truth}
use Rattle.rd_grammar.specs.declared.marks.Sign.{Sign}
use Rattle.rd_grammar.specs.declared.marks.Sign.TheVariants.{Equal, Different, Less, AtMost}
use Rattle.rd_grammar.specs.Grammar.{ParsedTree, leaf, relation, negation as read_not, both as read_and, either as read_or}

-- a relation on one side
abbrev pub sided_relation : Sign → Side → Term → Term → Tree
sided_relation Equal side left right = atom side Eq left right
sided_relation Different side left right = negation (atom side Eq left right)
sided_relation Less side left right = atom side Lt left right
sided_relation AtMost side left right = atom side Le left right

-- a relation of a slot of side 1 and a slot of side 2, with side 2 on the left where it is flipped
abbrev pub cross_relation : Sign → Bool → ℕ → ℕ → Tree
cross_relation Equal flipped first second = mixed Eq flipped first second
cross_relation Different flipped first second = cross first second
cross_relation Less flipped first second = mixed Lt flipped first second
cross_relation AtMost flipped first second = mixed Le flipped first second

-- a relation of two terms; none where neither is a variable
abbrev pub relation_of_terms : Sign → Meant → Meant → Option Tree
relation_of_terms sign (SlotOf First left) (SlotOf First right) = Some (sided_relation sign First (Slot left) (Slot right))
relation_of_terms sign (SlotOf Second left) (SlotOf Second right) = Some (sided_relation sign Second (Slot left) (Slot right))
relation_of_terms sign (SlotOf First left) (SlotOf Second right) = Some (cross_relation sign false left right)
relation_of_terms sign (SlotOf Second left) (SlotOf First right) = Some (cross_relation sign true right left)
relation_of_terms sign (SlotOf side left) (ValueOf value) = Some (sided_relation sign side (Slot left) (Const value))
relation_of_terms sign (ValueOf value) (SlotOf side right) = Some (sided_relation sign side (Const value) (Slot right))
relation_of_terms sign (ValueOf left) (ValueOf right) = None

-- the formula that was read, where by the numbers of their tokens the terms have these meanings and the used names stand for these formulas
abbrev pub Gives : (ℕ → Meant → Type 0) → (ℕ → Tree → Type 0) → ParsedTree → Tree → Type 0
Gives Means Stands (leaf (Truth value) token) formula = formula ≡ truth value
Gives Means Stands (leaf Name token) formula = Stands token formula
Gives Means Stands (relation left sign token right) formula =
    (x : Meant) × (y : Meant) × Means left x × Means right y × (relation_of_terms sign x y ≡ Some formula)
Gives Means Stands (read_not token f) formula = (g : Tree) × (formula ≡ negation g) × Gives Means Stands f g
Gives Means Stands (read_and f token g) formula =
    (h : Tree) × (k : Tree) × (formula ≡ both h k) × Gives Means Stands f h × Gives Means Stands g k
Gives Means Stands (read_or f token g) formula =
    (h : Tree) × (k : Tree) × (formula ≡ either h k) × Gives Means Stands f h × Gives Means Stands g k

-- what a formula uses, from left to right: the terms of its relations, and names; each by the number of its token
pub data Use : Type 0 where
  of_term : ℕ → Use
  of_name : ℕ → Use

abbrev pub use_token : Use → ℕ
use_token (of_term token) = token
use_token (of_name token) = token

abbrev pub uses_in : ParsedTree → List Use
uses_in (leaf (Truth value) token) = []
uses_in (leaf Name token) = of_name token ∷ []
uses_in (relation left sign token right) = of_term left ∷ of_term right ∷ []
uses_in (read_not token f) = uses_in f
uses_in (read_and f token g) = uses_in f ++ uses_in g
uses_in (read_or f token g) = uses_in f ++ uses_in g

-- a relation that was read: the numbers of its sign and of its two terms
pub record Related : Type 0 where
  pub sign : ℕ
  pub left : ℕ
  pub right : ℕ

-- its relations, from left to right
abbrev pub relations_in : ParsedTree → List Related
relations_in (leaf word token) = []
relations_in (relation left sign token right) = record { sign = token; left = left; right = right } ∷ []
relations_in (read_not token f) = relations_in f
relations_in (read_and f token g) = relations_in f ++ relations_in g
relations_in (read_or f token g) = relations_in f ++ relations_in g

-- none of these has the property
abbrev pub NoneOf : {T : Type 0} → (T → Type 0) → List T → Type 0
NoneOf P xs = AllByRecursion (λ x. ¬ (P x)) xs

-- the first of these with the property; none where none has it
abbrev pub IsFirst : {T : Type 0} → (T → Type 0) → List T → Option T → Type 0
IsFirst P xs None = NoneOf P xs
IsFirst {T} P xs (Some x) = (front : List T) × (back : List T) × (xs ≡ front ++ x ∷ back) × NoneOf P front × P x

abbrev pub earlier : {T : Type 0} → Option T → Option T → Option T
earlier (Some first) second = Some first
earlier None second = second

-- the sign of the first of these relations with the property
abbrev pub IsFirstSign : (Related → Type 0) → List Related → Option ℕ → Type 0
IsFirstSign P asked sign = (first : Option Related) × IsFirst P asked first × (sign ≡ option_map (λ it. it.sign) first)

-- the token of the first of these uses with the property
abbrev pub IsFirstUse : (Use → Type 0) → List Use → Option ℕ → Type 0
IsFirstUse P uses token = (first : Option Use) × IsFirst P uses first × (token ≡ option_map use_token first)

-- the numbers of the tokens of a formula's nodes, in post-order; a relation with `!=` on one side is two nodes of one sign, and each
-- node of what a name stands for is one of the name
abbrev pub node_tokens : ParsedTree → Tree → List ℕ
node_tokens (leaf Name token) formula = replicate (nodes formula) token
node_tokens (relation left sign token right) (negation f) = token ∷ token ∷ []
node_tokens (relation left sign token right) formula = token ∷ []
node_tokens (read_not token f) (negation g) = node_tokens f g ++ token ∷ []
node_tokens (read_and f token g) (both h k) = (node_tokens f h ++ node_tokens g k) ++ token ∷ []
node_tokens (read_or f token g) (either h k) = (node_tokens f h ++ node_tokens g k) ++ token ∷ []
node_tokens (leaf (Truth value) token) formula = token ∷ []
node_tokens read formula = []
