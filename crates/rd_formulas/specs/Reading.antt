-- The formula that a text says, and what is wrong with one that says none: this project's profile.
use Rattle.std.specs.Prelude.{◌≡◌, ◌≤◌, ℕ, true, List, length, take, drop, slice_get, Some}
use Rattle.rd_ecl.specs.Formulas.{Tree, Fits, InFragment, first_offence, has_slots, nodes, post_order}
use Rattle.rd_formulas.specs.declared.reading.FormulaRefused.{FormulaRefused}
use Rattle.rd_formulas.specs.declared.reading.FormulaRefused.TheVariants.{Syntax, UnknownVariable, NoVariable, OutsideFragment, NoMemory}
use Rattle.rd_formulas.specs.declared.scope.Scope.{Scope}
use Rattle.rd_formulas.specs.Meaning.{IsFirstSign, IsFirstUse, NoneOf, node_tokens, relations_in, uses_in}
use Rattle.rd_formulas.specs.Scope.{IsBare, IsUnknownUse, Outlines, SaysTree, place_in_scope}
use Rattle.rd_grammar.specs.declared.marks.Mark.{Mark}
use Rattle.rd_grammar.specs.FirstWrong.{WrongAt}
use Rattle.rd_grammar.specs.Grammar.{ParsedTree, MarksSay, disj}
use Rattle.rd_tokens.specs.Words.{AreMarks}
use Rattle.rd_base.specs.declared.limits.TheConstants.{MOST_TOKENS}

-- what the tokens say by the grammar alone
abbrev pub SaysByGrammar : Scope → ParsedTree → Type 0
SaysByGrammar scope read = (marks : List Mark) × AreMarks scope.dialect scope.line.now scope.tokens.now marks × MarksSay disj marks read

-- the formula that the tokens say
abbrev pub SaysFormula : Scope → Tree → Type 0
SaysFormula scope formula = (read : ParsedTree) × SaysByGrammar scope read × SaysTree scope read formula

-- the tokens say a formula, and this is it with `true` where a name is used
abbrev pub OutlinesFormula : Scope → Tree → Type 0
OutlinesFormula scope formula = (read : ParsedTree) × SaysByGrammar scope read × Outlines scope read formula

-- a formula that is read: of the slots that there are, each relation with one, in the fragment
pub record IsFormula (scope : Scope) (formula : Tree) : Type 0 where
  pub fits : Fits formula (length scope.first.now) (length scope.second.now)
  pub slots : has_slots formula ≡ true
  pub inside : InFragment formula
  pub few : nodes formula ≤ MOST_TOKENS

-- what is wrong with a formula that is right by the grammar: the first variable that isn't one of its side's method, or used name
-- that isn't a definition of it; where there is none, the first relation without a variable; where there is none of these, the first
-- node outside the fragment
abbrev pub IsTroubled : Scope → ParsedTree → FormulaRefused → Type 0
IsTroubled scope read (Syntax place) = ⊥
IsTroubled scope read (UnknownVariable place) =
    (number : ℕ) × IsFirstUse (IsUnknownUse scope) (uses_in read) (Some number) × (place ≡ place_in_scope scope number)
IsTroubled scope read (NoVariable place) =
    (number : ℕ) × NoneOf (IsUnknownUse scope) (uses_in read) × IsFirstSign (IsBare scope) (relations_in read) (Some number)
    × (place ≡ place_in_scope scope number)
IsTroubled scope read (OutsideFragment place reason) =
    (formula : Tree) × (node : ℕ) × (number : ℕ) × SaysTree scope read formula
    × (first_offence 0 (post_order formula) ≡ Some (record { node = node; reason = reason }))
    × (slice_get (node_tokens read formula) node ≡ Some number) × (place ≡ place_in_scope scope number)
IsTroubled scope read NoMemory = Unit {0}

-- what a refusal says: the first wrong token, or behind the line where it ends too early; else what is wrong with what was read
abbrev pub IsFormulaRefused : Scope → FormulaRefused → Type 0
IsFormulaRefused scope (Syntax place) =
    (marks : List Mark) × (number : ℕ) × AreMarks scope.dialect scope.line.now scope.tokens.now marks × (number ≤ length marks)
    × WrongAt (MarksSay disj) (take number marks) (drop number marks) × (place ≡ place_in_scope scope number)
IsFormulaRefused scope NoMemory = Unit {0}
IsFormulaRefused scope refused = (read : ParsedTree) × SaysByGrammar scope read × IsTroubled scope read refused
