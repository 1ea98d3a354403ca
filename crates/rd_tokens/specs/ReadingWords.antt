-- What a word is and what a term says, computed: this project's profile.
use Rattle.std.specs.Prelude.{ℕ, ◌-◌, true, false, if◌then◌else◌, List, length, take, drop, codes, is_some, Option, Some, None}
use Rattle.std.specs.Option.{option_map}
use Rattle.std.specs.Str.{bytes_eq}
use Rattle.rd_base.specs.ReadingValues.{value_of}
use Rattle.rd_ecl.specs.declared.formulas.Side.{Side}
use Rattle.rd_ecl.specs.declared.formulas.Side.TheVariants.{First, Second}
use Rattle.rd_ecl.specs.Variables.{is_variable}
use Rattle.rd_tokens.specs.declared.sorts.Sort.{Sort}
use Rattle.rd_tokens.specs.declared.sorts.Sort.TheVariants.{Open as OpenToken, Close as CloseToken, Word, Text, Wrong}
use Rattle.rd_grammar.specs.declared.marks.Leaf.TheVariants.{Name, Truth}
use Rattle.rd_grammar.specs.declared.marks.Sign.{Sign}
use Rattle.rd_grammar.specs.declared.marks.Sign.TheVariants.{Equal, Different, Less, AtMost}
use Rattle.rd_grammar.specs.declared.marks.Symbol.{Symbol}
use Rattle.rd_grammar.specs.declared.marks.Symbol.TheVariants.{Open, Close, Not, And, Or, Leaf as LeafOf, Sign as SignOf, Term, Other}
use Rattle.rd_tokens.specs.declared.words.dialects.Dialect.{Dialect}
use Rattle.rd_tokens.specs.declared.words.dialects.Dialect.TheVariants.{Sided, Named, Unsided}
use Rattle.rd_tokens.specs.declared.words.terms.Said.{Said}
use Rattle.rd_tokens.specs.declared.words.terms.Said.TheVariants.{Variable, Value as ValueTerm}

-- the last two bytes, and those before them
abbrev pub name_before : List ℕ → List ℕ
name_before bytes = take (length bytes - 2) bytes

abbrev pub mark_behind : List ℕ → List ℕ
mark_behind bytes = drop (length bytes - 2) bytes

-- the side that is written so
unfoldable pub side_of : List ℕ → Option Side
side_of mark =
    if bytes_eq mark (codes "@1") then Some First
    else if bytes_eq mark (codes "@2") then Some Second
    else None

-- the variable with its side that the bytes are
unfoldable pub variable_of : List ℕ → Option Said
variable_of bytes =
    if is_variable (name_before bytes) then option_map (λ side. Variable side (name_before bytes)) (side_of (mark_behind bytes))
    else None

-- the term that the bytes say
unfoldable pub term_of : List ℕ → Option Said
term_of bytes =
    if is_some (variable_of bytes) then variable_of bytes
    else option_map (λ value. ValueTerm value) (value_of bytes)

-- the sign that is written so
unfoldable pub sign_of : List ℕ → Option Sign
sign_of bytes =
    if bytes_eq bytes (codes "=") then Some Equal
    else if bytes_eq bytes (codes "!=") then Some Different
    else if bytes_eq bytes (codes "<") then Some Less
    else if bytes_eq bytes (codes "<=") then Some AtMost
    else None

-- the symbol of a word that is neither a keyword nor a sign
unfoldable pub other_word : List ℕ → Symbol
other_word bytes = if is_some (term_of bytes) then Term else Other

-- the symbol of a word
unfoldable pub word_of : List ℕ → Symbol
word_of bytes =
    if bytes_eq bytes (codes "not") then Not
    else if bytes_eq bytes (codes "and") then And
    else if bytes_eq bytes (codes "or") then Or
    else if bytes_eq bytes (codes "true") then LeafOf (Truth true)
    else if bytes_eq bytes (codes "false") then LeafOf (Truth false)
    else if bytes_eq bytes (codes "=") then SignOf Equal
    else if bytes_eq bytes (codes "!=") then SignOf Different
    else if bytes_eq bytes (codes "<") then SignOf Less
    else if bytes_eq bytes (codes "<=") then SignOf AtMost
    else other_word bytes

-- the symbol of a token
abbrev pub symbol_of : Sort → List ℕ → Symbol
symbol_of OpenToken bytes = Open
symbol_of CloseToken bytes = Close
symbol_of Word bytes = word_of bytes
symbol_of Text bytes = Term
symbol_of Wrong bytes = Other

-- the same by what the words may speak of

-- the term that the bytes say where variables have no side
unfoldable pub unsided_term_of : List ℕ → Option Said
unsided_term_of bytes =
    if is_variable bytes then Some (Variable First bytes)
    else option_map (λ value. ValueTerm value) (value_of bytes)

abbrev pub term_in : Dialect → List ℕ → Option Said
term_in Sided bytes = term_of bytes
term_in Named bytes = term_of bytes
term_in Unsided bytes = unsided_term_of bytes

-- the symbol of a word
unfoldable pub named_word : List ℕ → Symbol
named_word bytes = if is_some (variable_of bytes) then LeafOf Name else word_of bytes

unfoldable pub unsided_word : List ℕ → Symbol
unsided_word bytes =
    if is_variable bytes then Term
    else if is_some (variable_of bytes) then Other
    else word_of bytes

abbrev pub word_in : Dialect → List ℕ → Symbol
word_in Sided bytes = word_of bytes
word_in Named bytes = named_word bytes
word_in Unsided bytes = unsided_word bytes

-- the symbol of a token
abbrev pub symbol_in : Dialect → Sort → List ℕ → Symbol
symbol_in dialect OpenToken bytes = Open
symbol_in dialect CloseToken bytes = Close
symbol_in dialect Word bytes = word_in dialect bytes
symbol_in dialect Text bytes = Term
symbol_in dialect Wrong bytes = Other
