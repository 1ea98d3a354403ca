-- What reading a formula finds.
use Rattle.std.proofs.Common.{◌≡◌, ℕ, ◌+◌, ◌<◌, ◌≤◌, Bool, true, false, not, if◌then◌else◌, List, [], ◌∷◌, ◌++◌, length, length-append, Option, Some, None, refl, ap, sym, subst, arith}
use Rattle.std.specs.Prelude.{filter, slice_get, IsSome}
use Rattle.std.proofs.lemmas.List.{length-map}
use Rattle.std.proofs.lemmas.Option.{slice_get_within, slice_get-get_or, get_or_from_slice_get, same_Some}
use Rattle.rd_ecl.specs.declared.formulas.Outside.{Outside}
use Rattle.rd_ecl.specs.declared.formulas.Reason.{Reason}
use Rattle.rd_ecl.specs.Formulas.{Tree, truth, atom, cross, mixed, negation, both, either, InFragment, first_offence, nodes, offence, or_later, post_order}
use Rattle.rd_formulas.specs.declared.scope.Scope.{Scope}
use Rattle.rd_formulas.specs.declared.terms.Meant.{Meant}
use Rattle.rd_formulas.specs.Meaning.{Gives, node_tokens}
use Rattle.rd_formulas.specs.declared.reading.FormulaRefused.{FormulaRefused}
use Rattle.rd_formulas.specs.declared.reading.FormulaRefused.TheVariants.{Syntax, UnknownVariable, NoVariable, OutsideFragment, NoMemory}
use Rattle.rd_formulas.specs.Reading.{IsFormula, IsFormulaRefused, IsTroubled, SaysByGrammar}
use Rattle.rd_formulas.specs.Scope.{HasTerms, IsNameAt, IsScope, IsTermAt, IsTruth, MeansAt, Outlines}
use Rattle.rd_formulas.proofs.BuildingLemmas.{given_nodes, outlined_of}
use Rattle.rd_grammar.specs.declared.marks.Leaf.TheVariants.{Name, Truth}
use Rattle.rd_grammar.specs.declared.marks.Mark.{Mark}
use Rattle.rd_grammar.specs.declared.marks.Sign.{Sign}
use Rattle.rd_grammar.specs.declared.marks.Symbol.TheVariants.{Leaf as LeafOf}
use Rattle.rd_grammar.specs.Grammar.{ParsedTree, MarksSay, disj, leaf, relation, negation as read_not, both as read_and, either as read_or, is_term}
use Rattle.rd_grammar.specs.Numbers.{NamesMarks, TermAt, StandsAt, is_parenthesis, named_by, numbers_of}
use Rattle.rd_grammar.proofs.NumberLemmas.{names_marks, in_order}
use Rattle.rd_tokens.specs.declared.sorts.Token.{Token}
use Rattle.rd_tokens.specs.Tokens.{IsTokenOf, bytes_behind, bytes_of}
use Rattle.rd_tokens.specs.Words.{AreMarks, SaysTerm, SaysTermIn}
use Rattle.rd_tokens.specs.declared.words.dialects.Dialect.{Dialect}
use Rattle.rd_tokens.specs.declared.words.dialects.Dialect.TheVariants.{Named}
use Rattle.rd_tokens.specs.declared.words.terms.Said.{Said}
use Rattle.rd_tokens.specs.declared.words.terms.Said.TheVariants.{Variable}
use Rattle.rd_tokens.proofs.MarkLemmas.{numbered}
use Rattle.rd_tokens.proofs.DialectLemmas.{name_said_in, token_said_in}
use Rattle.rd_base.specs.declared.limits.TheConstants.{MOST_TOKENS}

-- the first node that offends is one of the nodes
later_within : (number : ℕ) (x : Option Reason) (later : Option Outside) (count : ℕ) (o : Outside) → or_later number x later ≡ Some o
    → (later ≡ Some o → o.node < number + 1 + count) → o.node < number + 1 + count
later_within number (Some reason) later count o e h =
    let same = ap (λ (it : Outside). it.node) (same_Some (record { node = number; reason = reason }) o e) in omega (arith, same)
later_within number None later count o e h = h e

offence_within : (number : ℕ) (fs : List Tree) (o : Outside) → first_offence number fs ≡ Some o → o.node < number + length fs
offence_within number [] o e = absurd (cc)
offence_within number (f ∷ fs) o e =
    let step = later_within number (offence f) (first_offence (number + 1) fs) (length fs) o e (λ h. offence_within (number + 1) fs o h) in
    omega (arith, step)

missing : {X : Type 0} (xs : List X) (i : ℕ) → i < length xs → slice_get xs i ≡ None → ⊥
missing [] i h e = absurd (omega arith)
missing (x ∷ xs) i h e = let there = slice_get-get_or (x ∷ xs) i x h in absurd (cc)

there_is : {X : Type 0} (xs : List X) (i : ℕ) → i < length xs → IsSome (slice_get xs i)
there_is [] i h = absurd (omega arith)
there_is (x ∷ xs) i h = rw (slice_get-get_or (x ∷ xs) i x h) refl

pub token_there : (Means : ℕ → Meant → Type 0) (Stands : ℕ → Tree → Type 0) (read : ParsedTree) (f : Tree) (o : Outside) → Gives Means Stands read f → first_offence 0 (post_order f) ≡ Some o
    → IsSome (slice_get (node_tokens read f) o.node)
token_there Means Stands read f o given e =
    let within = offence_within 0 (post_order f) o e in
    there_is (node_tokens read f) o.node (omega (arith, within, given_nodes Means Stands read f given))

-- there are no more nodes than tokens
relation_nodes : (f : Tree) (left : ℕ) (sign : Sign) (token right : ℕ) → length (node_tokens (relation left sign token right) f) ≤ 2
relation_nodes (truth value) left sign token right = omega arith
relation_nodes (atom side rel x y) left sign token right = omega arith
relation_nodes (cross i j) left sign token right = omega arith
relation_nodes (mixed rel flipped i j) left sign token right = omega arith
relation_nodes (negation f) left sign token right = omega arith
relation_nodes (both f g) left sign token right = omega arith
relation_nodes (either f g) left sign token right = omega arith

given_few : (Means : ℕ → Meant → Type 0) (read : ParsedTree) (f : Tree) → Gives Means IsTruth read f → length (node_tokens read f) ≤ length (named_by read)
given_few Means (leaf (Truth value) token) f e = omega arith
given_few Means (leaf Name token) f e = rw e (omega arith)
given_few Means (relation left sign token right) f given = omega (arith, relation_nodes f left sign token right)
given_few Means (read_not token g) f (h, e, given) =
    rw e (omega (arith, given_few Means g h given, length-append (node_tokens g h) (token ∷ [])))
given_few Means (read_and g token h) f (k, l, e, left, right) =
    rw e (omega (
      arith,
      given_few Means g k left,
      given_few Means h l right,
      length-append (node_tokens g k ++ node_tokens h l) (token ∷ []),
      length-append (node_tokens g k) (node_tokens h l),
      length-append (named_by g) (token ∷ named_by h),
    ))
given_few Means (read_or g token h) f (k, l, e, left, right) =
    rw e (omega (
      arith,
      given_few Means g k left,
      given_few Means h l right,
      length-append (node_tokens g k ++ node_tokens h l) (token ∷ []),
      length-append (node_tokens g k) (node_tokens h l),
      length-append (named_by g) (token ∷ named_by h),
    ))

pub few_nodes : (Means : ℕ → Meant → Type 0) (read : ParsedTree) (f : Tree) → Gives Means IsTruth read f → length (named_by read) ≤ MOST_TOKENS → nodes f ≤ MOST_TOKENS
few_nodes Means read f given few = omega (arith, given_few Means read f given, given_nodes Means IsTruth read f given, few)

keep_few : (b : Bool) (count rest : ℕ) (m : Mark) (kept : List Mark) → length kept ≤ rest → length (if b then m ∷ kept else kept) ≤ rest + 1
keep_few true count rest m kept h = omega (arith, h)
keep_few false count rest m kept h = omega (arith, h)

filter_few : (p : Mark → Bool) (marks : List Mark) → length (filter p marks) ≤ length marks
filter_few p [] = omega arith
filter_few p (m ∷ marks) = let h = keep_few (p m) 0 (length marks) m (filter p marks) (filter_few p marks) in omega (arith, h)

pub few_named : (marks : List Mark) (read : ParsedTree) → MarksSay disj marks read → length marks ≤ MOST_TOKENS → length (named_by read) ≤ MOST_TOKENS
few_named marks read says few =
    let same : length (numbers_of marks) ≡ length (named_by read) = ap length (in_order says) in
    omega (arith, same, few, length-map (filter (λ m. not (is_parenthesis m.symbol)) marks) (λ m. m.token), filter_few (λ m. not (is_parenthesis m.symbol)) marks)

-- each term of what the tokens say is one
term_by : (scope : Scope) (marks : List Mark) (number : ℕ) (mark : Mark) (o : Option Token) → IsScope scope → AreMarks scope.dialect scope.line.now scope.tokens.now marks
    → slice_get scope.tokens.now number ≡ o → number < length scope.tokens.now → slice_get marks number ≡ Some mark → is_term mark.symbol ≡ true → IsTermAt scope number
term_by scope marks number mark None is are e within here term = absurd (missing scope.tokens.now number within e)
term_by scope marks number mark (Some token) is are e within here term =
    let at = get_or_from_slice_get scope.tokens.now number token token e in
    let sort = subst (IsTokenOf scope.line.now) at (is.sorts number token within) in
    let marked = are.each number token mark e here in
    let says = token_said_in scope.dialect token.sort (bytes_of scope.line.now token) (bytes_behind scope.line.now token) mark.symbol sort marked.symbol term in
    (within, rw e says)

term_there : (scope : Scope) (marks : List Mark) (number : ℕ) → IsScope scope → AreMarks scope.dialect scope.line.now scope.tokens.now marks → TermAt marks number → IsTermAt scope number
term_there scope marks number is are (symbol, term, here) =
    let within = slice_get_within marks number (record { symbol = symbol; token = number }) here in
    let count = are.count in
    term_by scope marks number (record { symbol = symbol; token = number }) (slice_get scope.tokens.now number) is are refl (omega (arith, within, count)) here term

-- so is each used name
says_named : (dialect : Dialect) (bytes : List ℕ) (said : Said) → dialect ≡ Named → SaysTerm bytes said → SaysTermIn dialect bytes said
says_named dialect bytes said named says = subst (λ d. SaysTermIn d bytes said) (sym named) says

name_by : (scope : Scope) (marks : List Mark) (number : ℕ) (o : Option Token) → IsScope scope → AreMarks scope.dialect scope.line.now scope.tokens.now marks
    → slice_get scope.tokens.now number ≡ o → number < length scope.tokens.now → StandsAt marks (LeafOf Name) number → IsNameAt scope number
name_by scope marks number None is are e within here = absurd (missing scope.tokens.now number within e)
name_by scope marks number (Some token) is are e within here =
    let marked = are.each number token (record { symbol = LeafOf Name; token = number }) e here in
    let (named, sided) = name_said_in scope.dialect token.sort (bytes_of scope.line.now token) marked.symbol in
    let says = says_named scope.dialect (bytes_of scope.line.now token) (Variable sided.1.0 sided.1.1) named sided.1.2 in
    (named, within, (sided.1.0, sided.1.1, rw e says))

name_there : (scope : Scope) (marks : List Mark) (number : ℕ) → IsScope scope → AreMarks scope.dialect scope.line.now scope.tokens.now marks
    → StandsAt marks (LeafOf Name) number → IsNameAt scope number
name_there scope marks number is are here =
    let within = slice_get_within marks number (record { symbol = LeafOf Name; token = number }) here in
    let count = are.count in
    name_by scope marks number (slice_get scope.tokens.now number) is are refl (omega (arith, within, count)) here

terms_of : (scope : Scope) (marks : List Mark) (read : ParsedTree) → IsScope scope → AreMarks scope.dialect scope.line.now scope.tokens.now marks → NamesMarks marks read → HasTerms scope read
terms_of scope marks (leaf (Truth value) token) is are names = tt
terms_of scope marks (leaf Name token) is are names = name_there scope marks token is are names
terms_of scope marks (relation left sign token right) is are names = (term_there scope marks left is are names.0, term_there scope marks right is are names.2)
terms_of scope marks (read_not token f) is are names = terms_of scope marks f is are names.1
terms_of scope marks (read_and f token g) is are names = (terms_of scope marks f is are names.0, terms_of scope marks g is are names.2)
terms_of scope marks (read_or f token g) is are names = (terms_of scope marks f is are names.0, terms_of scope marks g is are names.2)

pub has_terms : (scope : Scope) (marks : List Mark) (read : ParsedTree) → IsScope scope → AreMarks scope.dialect scope.line.now scope.tokens.now marks → MarksSay disj marks read → HasTerms scope read
has_terms scope marks read is are says =
    terms_of scope marks read is are (names_marks marks read (numbered scope.dialect scope.line.now scope.tokens.now marks are) says)

-- what was built is a formula
pub is_formula : (scope : Scope) (read : ParsedTree) (f : Tree) → Outlines scope read f → InFragment f → length (named_by read) ≤ MOST_TOKENS → IsFormula scope f
is_formula scope read f given inside few =
    let of = outlined_of scope read f given in
    record { fits = of.0; slots = of.1; inside = inside; few = few_nodes (MeansAt scope) read f given few }

-- what is wrong with what was read is what a refusal says
pub refused_by : (scope : Scope) (read : ParsedTree) (refused : FormulaRefused) → SaysByGrammar scope read → IsTroubled scope read refused → IsFormulaRefused scope refused
refused_by scope read (Syntax place) reads wrong = absurd wrong
refused_by scope read (UnknownVariable place) reads wrong = (read, reads, wrong)
refused_by scope read (NoVariable place) reads wrong = (read, reads, wrong)
refused_by scope read (OutsideFragment place reason) reads wrong = (read, reads, wrong)
refused_by scope read NoMemory reads wrong = tt
