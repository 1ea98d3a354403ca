-- The lines of a kind's definitions, and that of its default, are accepted.
use Rattle.std.proofs.Common.{◌≡◌, ◌≢◌, ℕ, ◌<◌, Bool, List, [], ◌∷◌, codes, length, Option, Some, None, refl, sym, ◌∙◌, ap, subst, arith, ◌⊎◌, inl, inr}
use Rattle.std.specs.Prelude.{slice_index_or}
use Rattle.std.specs.List.{AllZip}
use Rattle.rd_ecl.specs.Formulas.{Tree, of_sided}
use Rattle.rd_ecl.specs.Specified.{IsDraft, SpecifiedKind, names_of}
use Rattle.rd_ecl.proofs.FragmentLemmas.{sided_if}
use Rattle.rd_formulas.proofs.ReadingLemmas.{has_terms}
use Rattle.rd_formulas.proofs.SayingLemmas.{unsided_alone}
use Rattle.rd_grammar.specs.Grammar.{ParsedTree}
use Rattle.rd_lines.specs.declared.forms.Stage.{Stage}
use Rattle.rd_lines.specs.declared.forms.Stage.TheVariants.{Outside, Methods, Definitions, Defaulted}
use Rattle.rd_lines.specs.declared.forms.Version.{Version}
use Rattle.rd_lines.specs.Lines.{words_of, default as default_said, define as define_said}
use Rattle.rd_open_kind.specs.Opened.{Opened, with_default, with_definition}
use Rattle.rd_pairs.specs.Causes.{HasNone}
use Rattle.rd_pairs.specs.PairCauses.{DefinitionHas, IsDefinedAt, IsNumberOf, IsUnknownOwner, SaysDefinition, definition_scope, variables_of_method}
use Rattle.rd_pairs.proofs.FormLemmas.{definition_formula}
use Rattle.rd_pairs.proofs.MeaningLemmas.{one_formula}
use Rattle.rd_pairs.proofs.NumberLemmas.{AreDifferent, contained, number_within, one_place}
use Rattle.rd_pairs.proofs.ScopeLemmas.{definition_is_scope, variables_are}
use Rattle.rd_reading.specs.Adding.{AcceptsSpecLine}
use Rattle.rd_spec.specs.Blocks.{Defines, IsNewName, SaidDefinition, SaysDefault, SaysDefaults, SaysDefinitionOf, none_more, one_more, without_definitions}
use Rattle.rd_reading.specs.Causes.{HasManyTokens}
use Rattle.rd_reading.proofs.LineLemmas.{short_few}
use Rattle.rd_tokens.specs.declared.sorts.Token.{Token}
use Rattle.rd_tokens.proofs.CutLemmas.{each_is, each_lies}
use Rattle.rd_spec.proofs.AcceptLemmas.{accepted, default_clean, other_first}
use Rattle.rd_spec.proofs.AllLines.{AcceptsAll}
use Rattle.rd_spec.proofs.FormulaLines.{IsSmall, formula_clean}
use Rattle.rd_spec.proofs.MethodLines.{at}

-- ---- a definition

module _ (opened : Opened) (line : List ℕ) (tokens : List Token) (owner name : List ℕ) (read : ParsedTree) (m : ℕ) (f : Tree)
    (names : AreDifferent (names_of opened.kind.methods)) (variables : AreDifferent (variables_of_method opened.kind m)) (small : IsSmall f) (new : IsNewName opened m name)
    (says : SaysDefinition opened.kind line tokens owner read m f) where
  known_owner : (place : ℕ) → ¬ (IsUnknownOwner opened.kind owner line tokens place)
  known_owner place (unknown, there) = unknown (contained (names_of opened.kind.methods) owner m says.number)

  one_number : (i j : ℕ) → IsNumberOf opened.kind owner i j → (i ≡ m) × (j ≡ m)
  one_number i j (number, same) = let first = one_place (names_of opened.kind.methods) owner i m names number says.number in (first, same ∙ first)

  new_name : (place : ℕ) → ¬ (IsDefinedAt opened line tokens name m m place)
  new_name place (inl variable, there) = new.0 variable
  new_name place (inr defined, there) = new.1 defined

  pub definition_clean : HasNone (DefinitionHas opened line tokens owner name read)
  definition_clean =
      formula_clean (IsUnknownOwner opened.kind owner line tokens) (IsNumberOf opened.kind owner) (λ i j. definition_scope opened.kind line tokens i)
      (IsDefinedAt opened line tokens name) (λ i j g. ⊥) line tokens read m m f known_owner one_number says.says
      (λ g also. one_formula (definition_scope opened.kind line tokens m) variables variables read g f also says.says) small new_name (λ none. none)

-- the formula of a definition is in the fragment, since no relation is over both sides
definition_small : (version : Version) (kind : SpecifiedKind) (line : List ℕ) (said : SaidDefinition) → IsDraft kind → SaysDefinitionOf version kind line said
    → IsSmall said.definition.formula
definition_small version kind line said draft is =
    let m : ℕ = said.method in
    let f : Tree = said.definition.formula in
    let tokens : List Token = is.tokens in
    let known : m < length kind.methods = number_within kind.methods is.owner m is.says.number in
    let scope = definition_scope kind line tokens m in
    let of = definition_is_scope (without_definitions kind) line tokens (each_lies line tokens is.cut) (each_is line tokens is.cut) draft m known in
    let formula = definition_formula version Definitions line tokens is.owner said.definition.name is.read (each_lies line tokens is.cut) (each_is line tokens is.cut) is.written in
    let terms = has_terms scope formula.marks is.read of formula.marked formula.says in
    record {
      inside = of_sided (sided_if f (unsided_alone scope is.read f refl terms is.says.says));
      few = is.nodes;
      shallow = is.levels;
    }

-- the kind with these formulas in place of its own
abbrev pub part_of : SpecifiedKind → List (Option Tree) → SpecifiedKind
part_of kind pairs = record { name = kind.name; methods = kind.methods; pairs = pairs }

abbrev pub opened_with : Opened → List (Option Tree) → Opened
opened_with opened pairs = record opened { kind = part_of opened.kind pairs }

abbrev pub MayStand : Stage → Type 0
MayStand stage = (stage ≡ Methods) ⊎ (stage ≡ Definitions)

module _ (taken : List (List ℕ)) (version : Version) (closed : List SpecifiedKind) where
  definition_accepted : (opened : Opened) (pairs : List (Option Tree)) (stage : Stage) (line : List ℕ) (said : SaidDefinition) → MayStand stage → IsDraft opened.kind
      → IsNewName opened said.method said.definition.name → SaysDefinitionOf version opened.kind line said
      → AcceptsSpecLine taken (at version closed (opened_with opened pairs) stage) line
      (at version closed (opened_with (with_definition opened said.method said.definition) pairs) Definitions)
  definition_accepted opened pairs stage line said stands draft new is =
      let part : Opened = opened_with opened pairs in
      let known : said.method < length opened.kind.methods = number_within opened.kind.methods is.owner said.method is.says.number in
      let variables = variables_are opened.kind.methods said.method draft.methods known in
      let says : SaysDefinition part.kind line is.tokens is.owner is.read said.method said.definition.formula = record { number = is.says.number; says = is.says.says } in
      accepted taken (at version closed part stage) line is.tokens version refl (define_said is.owner said.definition.name is.read)
      (short_few version (words_of line is.tokens) is.few)
      (record {
        second_version = is.written.second_version;
        stands = stands;
        named = is.written.named;
        is_variable = is.written.is_variable;
        behind = is.written.behind;
        marks = is.written.marks;
        written = is.written.written;
        marked = is.written.marked;
        says = is.written.says;
      }) (at version closed (opened_with (with_definition opened said.method said.definition) pairs) Definitions) is.cut
      (definition_clean part line is.tokens is.owner said.definition.name is.read said.method said.definition.formula draft.methods.different variables.different
      (definition_small version opened.kind line said draft is) new says)
      (said.method, said.definition.formula, says, refl)

  -- definitions, one after another
  pub record AreDefined (pairs : List (Option Tree)) (first last : Opened) (stage : Stage) (lines : List (List ℕ)) : Type 0 where
    pub then_stage : Stage
    pub stands : MayStand then_stage
    pub accepts : AcceptsAll taken (at version closed (opened_with first pairs) stage) lines (at version closed (opened_with last pairs) then_stage)

  pub definitions_accepted : (pairs : List (Option Tree)) (first last : Opened) (stage : Stage) (lines : List (List ℕ)) (definitions : List SaidDefinition) → MayStand stage
      → IsDraft first.kind → Defines first definitions last → AllZip (SaysDefinitionOf version first.kind) lines definitions → AreDefined pairs first last stage lines
  definitions_accepted pairs first last stage [] definitions stands draft none_more says = record { then_stage = stage; stands = stands; accepts = refl }
  definitions_accepted pairs first last stage (line ∷ lines) definitions stands draft none_more says = absurd says
  definitions_accepted pairs first last stage [] definitions stands draft (one_more said new more) says = absurd says
  definitions_accepted pairs first last stage (line ∷ lines) definitions stands draft (one_more said {more = others} new more) (here, rest) =
      let next : Opened = with_definition first said.method said.definition in
      let all = definitions_accepted pairs next last Definitions lines others (inr refl) draft more rest in
      record {
        then_stage = all.then_stage;
        stands = all.stands;
        accepts = (at version closed (opened_with next pairs) Definitions, definition_accepted first pairs stage line said stands draft new here, all.accepts);
      }

-- they change nothing else
pub defines_kind : (first last : Opened) (definitions : List SaidDefinition) → Defines first definitions last → last.kind ≡ first.kind
defines_kind first last definitions none_more = refl
defines_kind first last definitions (one_more said {more = others} new more) = defines_kind (with_definition first said.method said.definition) last others more

pub defines_default : (first last : Opened) (definitions : List SaidDefinition) → Defines first definitions last → last.default ≡ first.default
defines_default first last definitions none_more = refl
defines_default first last definitions (one_more said {more = others} new more) = defines_default (with_definition first said.method said.definition) last others more

-- ---- a default

default_no_commute : codes "default" ≢ codes "commute"
default_no_commute e = let first : ◌≡◌ {A = ℕ} 100 99 = ap (λ (bytes : List ℕ). slice_index_or bytes 0 0) e in omega (arith, first)

default_no_define : codes "default" ≢ codes "define"
default_no_define e = cc

no_repeat : (stage : Stage) → MayStand stage → stage ≢ Defaulted
no_repeat stage (inl methods) repeats = let same : Methods ≡ Defaulted = sym methods ∙ repeats in cc
no_repeat stage (inr definitions) repeats = let same : Definitions ≡ Defaulted = sym definitions ∙ repeats in cc

not_outside : (stage : Stage) → MayStand stage → stage ≢ Outside
not_outside stage (inl methods) outside = let same : Methods ≡ Outside = sym methods ∙ outside in cc
not_outside stage (inr definitions) outside = let same : Definitions ≡ Outside = sym definitions ∙ outside in cc

defaulted_inside : Defaulted ≢ Outside
defaulted_inside e = cc

stands_before : (stage : Stage) → MayStand stage → (stage ≡ Methods) ⊎ ((stage ≡ Definitions) ⊎ (stage ≡ Defaulted))
stands_before stage (inl methods) = inl methods
stands_before stage (inr definitions) = inr (inl definitions)

module _ (taken : List (List ℕ)) (version : Version) (closed : List SpecifiedKind) (opened : Opened) (stage : Stage) (stands : MayStand stage) where
  default_accepted : (line : List ℕ) (value : Bool) → SaysDefault version line value
      → AcceptsSpecLine taken (at version closed opened stage) line (at version closed (with_default opened value) Defaulted)
  default_accepted line value is =
      accepted taken (at version closed opened stage) line is.tokens version refl (default_said value)
      (λ many. other_first version (codes "default") _ default_no_commute default_no_define (subst (HasManyTokens version) is.written.written many))
      (record { second_version = is.written.second_version; stands = stands_before stage stands; written = is.written.written })
      (at version closed (with_default opened value) Defaulted) is.cut
      (default_clean (at version closed opened stage) line is.tokens (no_repeat stage stands)) refl

  -- the line of a default, where there is one
  pub record AreDefaulted (lines : List (List ℕ)) (default : Option Bool) : Type 0 where
    pub then_stage : Stage
    pub inside : then_stage ≢ Outside
    pub accepts : AcceptsAll taken (at version closed opened stage) lines (at version closed (record opened { default = default }) then_stage)

  pub defaults_accepted : (lines : List (List ℕ)) (default : Option Bool) → opened.default ≡ None → SaysDefaults version lines default → AreDefaulted lines default
  defaults_accepted lines None none same = record {
    then_stage = stage;
    inside = not_outside stage stands;
    accepts = subst (λ (l : List (List ℕ)). AcceptsAll taken (at version closed opened stage) l (at version closed (record opened { default = None }) stage)) (sym same)
        (ap (λ (default : Option Bool). at version closed (record opened { default = default }) stage) none);
  }
  defaults_accepted lines (Some value) none (line, same, says) =
      let next = at version closed (with_default opened value) Defaulted in
      record {
        then_stage = Defaulted;
        inside = defaulted_inside;
        accepts = subst (λ (l : List (List ℕ)). AcceptsAll taken (at version closed opened stage) l next) (sym same) (next, default_accepted line value says, refl);
      }
