-- Why a line of a specification's text is refused: this project's profile. Each cause is defined apart from the others, with
-- the place of the leftmost token that has it; of the causes of a line the first is told.
use Rattle.std.specs.Prelude.{◌≡◌, ◌≢◌, ◌<◌, ◌≤◌, ◌+◌, ◌⊎◌, ◌==◌, ℕ, List, [], ◌∷◌, ◌++◌, length, take, codes, slice_get, AllPairs, Contains, Some, None, IsSome, if◌then◌else◌}
use Rattle.rd_base.specs.declared.limits.LimitName.TheVariants.{Tokens, Kinds, Methods as MethodLimit, Arguments}
use Rattle.rd_ecl.specs.Specified.{SpecifiedKind, formula_at, names_of}
use Rattle.rd_reading.specs.declared.known.Known.{Known}
use Rattle.rd_reading.specs.Known.{kind_in, opened_in, specified_kind_names, kinds_so_far, open_method_names, stage_of}
use Rattle.rd_lines.specs.Lines.{CountsTokens, IsWrongBehind, LineWord, RightLine, SaidForm, commute as commute_said, default as default_said, define as define_said, kind as kind_said, method as method_said, plain, words_of}
use Rattle.rd_lines.specs.declared.forms.Stage.TheVariants.{Defaulted}
use Rattle.rd_lines.specs.declared.forms.Version.{Version}
use Rattle.rd_lines.specs.declared.forms.Version.TheVariants.{One, Two}
use Rattle.rd_open_kind.specs.Opened.{filled}
use Rattle.rd_pairs.specs.Causes.{place_at}
use Rattle.rd_pairs.specs.PairCauses.{DefinitionHas, PairHas}
use Rattle.rd_pairs.specs.declared.spec_causes.SpecCause.{SpecCause}
use Rattle.rd_pairs.specs.declared.spec_causes.SpecCause.TheVariants.{Header, Syntax, Duplicate, MissingPair, KindTaken, Limit}
use Rattle.rd_tokens.specs.declared.sorts.Token.{Token}
use Rattle.rd_base.specs.declared.limits.TheConstants.{MOST_ARGUMENTS, MOST_KINDS, MOST_METHODS, MOST_TOKENS}

-- ---- the parts of a line

-- the header of a version
abbrev pub header_words : Version → List LineWord
header_words One = plain (codes "rdspec") ∷ plain (codes "1") ∷ []
header_words Two = plain (codes "rdspec") ∷ plain (codes "2") ∷ []

-- more than 512 tokens stand behind the `when` of a line with a formula
pub record HasManyTokens (version : Version) (words : List LineWord) : Type 0 where
  pub head : LineWord
  pub first : LineWord
  pub second : LineWord
  pub behind : List LineWord
  pub counted : CountsTokens version head
  pub written : words ≡ head ∷ first ∷ second ∷ plain (codes "when") ∷ behind
  pub many : MOST_TOKENS < length behind

-- ---- what may be wrong with any line

abbrev pub LineHas : Known → List ℕ → List Token → SpecCause → ℕ → Type 0
-- the first line is the header of no version
LineHas known line tokens Header place =
    (known.version ≡ None) × ((version : Version) → words_of line tokens ≢ header_words version) × (place ≡ 0)
-- the place is that of the word `when`
LineHas known line tokens (Limit Tokens number) place =
    (version : Version) × (known.version ≡ Some version) × HasManyTokens version (words_of line tokens) × (number ≡ MOST_TOKENS)
    × (place ≡ place_at line tokens 3)
-- no right line begins with the tokens up to this one, or the line ends too early
LineHas known line tokens Syntax place =
    (version : Version) × (count : ℕ) × (known.version ≡ Some version)
    × IsWrongBehind (RightLine version (stage_of known) (open_method_names known)) (words_of line tokens) count
    × (place ≡ place_at line tokens count)
LineHas known line tokens cause place = ⊥

-- ---- what may be wrong with the line of a kind

-- the pair of a kind that is missing first, by the first method, then by the second
pub record IsFirstMissing (kind : SpecifiedKind) (first second : ℕ) : Type 0 where
  pub ordered : first ≤ second
  pub known : second < length kind.methods
  pub missing : formula_at kind first second ≡ None
  pub others : (m n : ℕ) → m ≤ n → n < length kind.methods → (m < first) ⊎ ((m ≡ first) × (n < second)) → IsSome (formula_at kind m n)

-- the open kind, which the line closes, has a pair missing
pub record LacksPair (kind : SpecifiedKind) (first second : List ℕ) : Type 0 where
  pub first_number : ℕ
  pub second_number : ℕ
  pub missing : IsFirstMissing kind first_number second_number
  pub first_name : slice_get (names_of kind.methods) first_number ≡ Some first
  pub second_name : slice_get (names_of kind.methods) second_number ≡ Some second

abbrev pub KindHas : List (List ℕ) → Known → List ℕ → List Token → List ℕ → SpecCause → ℕ → Type 0
KindHas taken known line tokens name Duplicate place =
    Contains (specified_kind_names (kinds_so_far known)) name × (place ≡ place_at line tokens 1)
-- a default leaves no pair missing
KindHas taken known line tokens name (MissingPair first second) place = LacksPair (filled (opened_in known.block)) first second × (place ≡ 0)
KindHas taken known line tokens name KindTaken place = Contains taken name × (place ≡ place_at line tokens 1)
KindHas taken known line tokens name (Limit Kinds number) place =
    (MOST_KINDS ≤ length (kinds_so_far known)) × (number ≡ MOST_KINDS) × (place ≡ place_at line tokens 1)
KindHas taken known line tokens name cause place = ⊥

-- ---- what may be wrong with the line of a method

-- the first of these names that is one of those before it
pub record IsFirstRepeated (names : List (List ℕ)) (number : ℕ) : Type 0 where
  pub name : List ℕ
  pub stands : slice_get names number ≡ Some name
  pub repeats : Contains (take number names) name
  pub others : AllPairs (λ x y. x ≢ y) (take number names)

-- the number of a variable's token: `->` stands before the result, which comes behind so many arguments
abbrev pub variable_token : ℕ → ℕ → ℕ
variable_token count number = if number == count then number + 3 else number + 2

-- the method's name, or else a variable of the line, is there already
abbrev pub RepeatsAt : List (List ℕ) → List ℕ → List ℕ → List Token → List (List ℕ) → List ℕ → ℕ → Type 0
RepeatsAt methods name line tokens arguments result place =
    (Contains methods name × (place ≡ place_at line tokens 1))
    ⊎ ((number : ℕ) × ¬ (Contains methods name) × IsFirstRepeated (arguments ++ result ∷ []) number
    × (place ≡ place_at line tokens (variable_token (length arguments) number)))

abbrev pub MethodHas : SpecifiedKind → List ℕ → List Token → List ℕ → List (List ℕ) → List ℕ → SpecCause → ℕ → Type 0
MethodHas kind line tokens name arguments result Duplicate place =
    RepeatsAt (names_of kind.methods) name line tokens arguments result place
MethodHas kind line tokens name arguments result (Limit MethodLimit number) place =
    (MOST_METHODS ≤ length kind.methods) × (number ≡ MOST_METHODS) × (place ≡ place_at line tokens 1)
-- the place is that of the seventh
MethodHas kind line tokens name arguments result (Limit Arguments number) place =
    (MOST_ARGUMENTS < length arguments) × (number ≡ MOST_ARGUMENTS) × (place ≡ place_at line tokens 8)
MethodHas kind line tokens name arguments result cause place = ⊥

-- ---- what may be wrong with a default

-- there is one already
abbrev pub DefaultHas : Known → List ℕ → List Token → SpecCause → ℕ → Type 0
DefaultHas known line tokens Duplicate place = (stage_of known ≡ Defaulted) × (place ≡ place_at line tokens 0)
DefaultHas known line tokens cause place = ⊥

-- ---- the causes of a line, and of the end

-- what a right line has
abbrev pub FormHas : List (List ℕ) → Version → Known → List ℕ → List Token → SaidForm → SpecCause → ℕ → Type 0
FormHas taken version known line tokens (kind_said name) cause place = KindHas taken known line tokens name cause place
FormHas taken version known line tokens (method_said name arguments result) cause place =
    MethodHas (kind_in known.block) line tokens name arguments result cause place
FormHas taken version known line tokens (commute_said first second read) cause place =
    PairHas version (opened_in known.block) line tokens first second read cause place
FormHas taken version known line tokens (define_said owner name read) cause place =
    DefinitionHas (opened_in known.block) line tokens owner name read cause place
FormHas taken version known line tokens (default_said value) cause place = DefaultHas known line tokens cause place

-- the line has the cause at the place, behind what is known and where these names of kinds are taken
pub data Has (taken : List (List ℕ)) (known : Known) (line : List ℕ) (tokens : List Token) (cause : SpecCause) (place : ℕ) : Type 0 where
  line_has : LineHas known line tokens cause place → Has taken known line tokens cause place
  form_has : (version : Version) → known.version ≡ Some version → (form : SaidForm)
      → RightLine version (stage_of known) (open_method_names known) (words_of line tokens) form
      → FormHas taken version known line tokens form cause place → Has taken known line tokens cause place

-- the end of the text has the cause, whose place is 0: there was no header, or the open kind has a pair missing
abbrev pub EndHas : Known → SpecCause → ℕ → Type 0
EndHas known Header place = (known.version ≡ None) × (place ≡ 0)
EndHas known (MissingPair first second) place = LacksPair (filled (opened_in known.block)) first second × (place ≡ 0)
EndHas known cause place = ⊥
