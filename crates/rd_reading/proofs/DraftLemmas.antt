-- Each kind that a text says is one: its methods, and a formula in the fragment for each pair of them.
use Rattle.std.proofs.Common.{◌≡◌, ◌≢◌, ℕ, ◌<◌, ◌≤◌, Bool, true, false, not, List, [], ◌∷◌, ◌++◌, length, Option, Some, None, refl, sym, ap, subst, arith, ◌∙◌, ◌⊎◌, inl, inr, length-append}
use Rattle.std.specs.Prelude.{All, Contains, IsTrue}
use Rattle.std.specs.List.{AllByRecursion, list_all}
use Rattle.std.proofs.lemmas.Bool.{and_from, cases_lt}
use Rattle.std.proofs.lemmas.List.{append-nil}
use Rattle.std.proofs.lemmas.List.Elements.{All-nil, All-push}
use Rattle.rd_base.specs.declared.limits.LimitName.TheVariants.{Arguments, Methods as MethodLimit}
use Rattle.rd_base.specs.declared.limits.TheConstants.{MOST_ARGUMENTS, MOST_METHODS}
use Rattle.rd_ecl.specs.Formulas.{Tree}
use Rattle.rd_ecl.specs.declared.kinds.Method.{Method}
use Rattle.rd_ecl.specs.Specified.{IsDraft, IsKind, IsWhole, MayAdd, MayPair, SpecifiedKind, names_of, slots_at}
use Rattle.rd_definitions.specs.Definitions.{IsDefined}
use Rattle.rd_open_kind.specs.Opened.{AreItsDefinitions, Opened, filled, kind_named}
use Rattle.rd_open_kind.proofs.FilledLemmas.{filled_draft}
use Rattle.rd_open_kind.proofs.OpenedLemmas.{method_undefined, one_more_defined}
use Rattle.rd_ecl.specs.Variables.{IsVariable, is_one_of, is_variable}
use Rattle.rd_ecl.proofs.PairLemmas.{draft_more, draft_set, no_draft}
use Rattle.rd_ecl.proofs.VariableLemmas.{among_decides, different_decides, variable_decides}
use Rattle.rd_grammar.specs.Grammar.{ParsedTree}
use Rattle.rd_lines.specs.declared.forms.Stage.{Stage}
use Rattle.rd_lines.specs.declared.forms.Stage.TheVariants.{Outside as OutsideStage, Methods, Definitions, Defaulted}
use Rattle.rd_lines.specs.declared.forms.Version.{Version}
use Rattle.rd_lines.specs.Lines.{IsCommuteLine, IsDefineLine, RightLine, SaidForm, words_of}
use Rattle.rd_lines.specs.Lines.{kind as kind_said, method as method_said, commute as commute_said, default as default_said, define as define_said}
use Rattle.rd_reading.specs.Adding.{AcceptsSpecLine, Adds, FormAdds, adds_form, adds_header}
use Rattle.rd_reading.specs.Causes.{FormHas, MethodHas, form_has}
use Rattle.rd_pairs.specs.Causes.{HasNone}
use Rattle.rd_pairs.specs.PairCauses.{DefinitionHas, PairHas, SaysDefinition, SaysPair}
use Rattle.rd_reading.specs.Known.{kind_in, nothing, open_kinds, open_method_names, opened_in, stage_in, stage_of}
use Rattle.rd_reading.specs.Texts.{ReadsLines, SpecSays, no_more, skips, takes}
use Rattle.rd_reading.specs.declared.known.Block.{Block}
use Rattle.rd_reading.specs.declared.known.Known.{Known}
use Rattle.rd_pairs.specs.declared.spec_causes.SpecCause.TheVariants.{Duplicate, Limit, MissingPair}
use Rattle.rd_pairs.proofs.NumberLemmas.{AreDifferent, number_within}
use Rattle.rd_reading.proofs.OneLemmas.{never_repeated, none_apart}
use Rattle.rd_pairs.proofs.DefinitionLemmas.{definition_may}
use Rattle.rd_pairs.proofs.FormLemmas.{definition_formula, pair_formula}
use Rattle.rd_pairs.proofs.PairLemmas.{pair_may}
use Rattle.rd_reading.proofs.SearchLemmas.{whole_of}
use Rattle.rd_tokens.specs.declared.sorts.Token.{Token}
use Rattle.rd_tokens.specs.Tokens.{AreTokens}
use Rattle.rd_tokens.proofs.CutLemmas.{each_is, each_lies}

at_most : (x y : ℕ) → ¬ (x < y) → y ≤ x
at_most x y h = elim (cases_lt x y) [ inl above ↦ absurd (h above) | inr rest ↦ omega arith ]

-- ---- the methods

absent : (name : List ℕ) (names : List (List ℕ)) → ¬ (Contains names name) → IsTrue (not (is_one_of name names))
absent name names lacks = by (is_one_of name names) refl where
  by : (test : Bool) → is_one_of name names ≡ test → not (is_one_of name names) ≡ true
  by true is = absurd (lacks ((among_decides name names).0 is))
  by false is = ap not is

each_variable : (names : List (List ℕ)) (last : List ℕ) → AllByRecursion IsVariable names → IsVariable last → list_all is_variable (names ++ last ∷ []) ≡ true
each_variable [] last each here = and_from (is_variable last) true ((variable_decides last).1 here) refl
each_variable (name ∷ names) last (one, each) here =
    and_from (is_variable name) (list_all is_variable (names ++ last ∷ [])) ((variable_decides name).1 one) (each_variable names last each here)

-- a clean line of a method adds one that may be added
may_add : (kind : SpecifiedKind) (line : List ℕ) (tokens : List Token) (name : List ℕ) (arguments : List (List ℕ)) (result : List ℕ)
    → AllByRecursion IsVariable arguments → IsVariable result → HasNone (MethodHas kind line tokens name arguments result)
    → MayAdd kind name (arguments ++ result ∷ [])
may_add kind line tokens name arguments result each gives clean =
    let count = length-append arguments (result ∷ []) in
    let few = at_most MOST_ARGUMENTS (length arguments) (λ many. clean (Limit Arguments MOST_ARGUMENTS) _ (many, refl, refl)) in
    let fresh : ¬ (Contains (names_of kind.methods) name) = λ among. clean Duplicate _ (inl (among, refl)) in
    let different : AreDifferent (arguments ++ result ∷ []) =
    never_repeated (arguments ++ result ∷ []) [] (arguments ++ result ∷ []) refl (λ n repeats. clean Duplicate _ (inr (n, fresh, repeats, refl))) none_apart in
    record {
      room = by_room (λ full. clean (Limit MethodLimit MOST_METHODS) _ (full, refl, refl));
      fresh = absent name (names_of kind.methods) fresh;
      some = omega (arith, count);
      few = omega (arith, count, few);
      different = (different_decides (arguments ++ result ∷ [])).1 different;
      each = each_variable arguments result each gives;
    } where
      by_room : ¬ (MOST_METHODS ≤ length kind.methods) → length kind.methods < MOST_METHODS
      by_room full = elim (cases_lt (length kind.methods) MOST_METHODS) [ inl below ↦ below | inr rest ↦ absurd (full (omega arith)) ]

-- ---- the pairs

-- a clean line of a pair sets one that may be set
pub may_set : (version : Version) (stage : Stage) (opened : Opened) (line : List ℕ) (tokens : List Token) (first second : List ℕ) (read : ParsedTree) (m n : ℕ) (f : Tree)
    → AreTokens line tokens → IsDraft opened.kind → AreItsDefinitions opened.kind opened.defined
    → IsCommuteLine version stage (names_of opened.kind.methods) (words_of line tokens) first second read → SaysPair version opened line tokens first second read m n f
    → HasNone (PairHas version opened line tokens first second read) → MayPair opened.kind m n f
may_set version stage opened line tokens first second read m n f cut draft are right says clean =
    let form = pair_formula version stage (names_of opened.kind.methods) line tokens first second read (each_lies line tokens cut) (each_is line tokens cut) right in
    pair_may version opened line tokens first second read draft m n says.numbers are form f right.order says.says clean

-- a clean line of a definition defines a formula of its method
pub may_define : (version : Version) (stage : Stage) (opened : Opened) (line : List ℕ) (tokens : List Token) (owner name : List ℕ) (read : ParsedTree) (m : ℕ) (f : Tree)
    → AreTokens line tokens → IsDraft opened.kind → IsDefineLine version stage (words_of line tokens) owner name read → SaysDefinition opened.kind line tokens owner read m f
    → HasNone (DefinitionHas opened line tokens owner name read) → IsDefined (slots_at opened.kind.methods m) (record { name = name; formula = f })
may_define version stage opened line tokens owner name read m f cut draft right says clean =
    let form = definition_formula version stage line tokens owner name read (each_lies line tokens cut) (each_is line tokens cut) right in
    definition_may opened line tokens owner name read draft m says.number form f says.says clean

-- ---- what is known

-- the open kind is one that is being made, and its definitions are of its methods
abbrev pub IsOpenDraft : Option Block → Type 0
IsOpenDraft None = Unit {0}
IsOpenDraft (Some block) = IsDraft block.opened.kind × AreItsDefinitions block.opened.kind block.opened.defined

-- the kinds before the open one are whole
pub record AreDrafts (known : Known) : Type 0 where
  pub closed : All IsKind known.closed
  pub draft : IsOpenDraft known.block

none_defined : (name : List ℕ) → AreItsDefinitions (kind_named name).kind (kind_named name).defined
none_defined name = record { count = refl; each = λ number within. absurd (omega (arith, within)) }

pub open_draft : (block : Option Block) → stage_in block ≢ OutsideStage → IsOpenDraft block → IsDraft (kind_in block)
open_draft None inside draft = absurd (inside refl)
open_draft (Some block) inside draft = draft.0

pub open_defined : (block : Option Block) → stage_in block ≢ OutsideStage → IsOpenDraft block → AreItsDefinitions (kind_in block) (opened_in block).defined
open_defined None inside draft = absurd (inside refl)
open_defined (Some block) inside draft = draft.1

-- the kinds so far, where the open one is whole
all_kinds : (closed : List SpecifiedKind) (block : Option Block) → All IsKind closed → IsOpenDraft block → IsWhole (filled (opened_in block))
    → All IsKind (closed ++ open_kinds block)
all_kinds closed None kinds draft whole = subst (All IsKind) (sym (append-nil closed)) kinds
all_kinds closed (Some block) kinds draft whole =
    All-push IsKind closed (filled block.opened) kinds (record { draft = filled_draft block.opened.kind block.opened.default draft.0; whole = whole })

pub not_outside : (stage : Stage) → stage ≢ OutsideStage → (other : Stage) → other ≡ stage → other ≢ OutsideStage
not_outside stage differ other same outside = differ (sym same ∙ outside)

pub may_stand : (stage : Stage) → (stage ≡ Methods) ⊎ (stage ≡ Definitions) → stage ≢ OutsideStage
may_stand stage (inl is) = not_outside Methods (λ e. cc) stage is
may_stand stage (inr is) = not_outside Definitions (λ e. cc) stage is

pub may_default : (stage : Stage) → (stage ≡ Methods) ⊎ ((stage ≡ Definitions) ⊎ (stage ≡ Defaulted)) → stage ≢ OutsideStage
may_default stage (inl is) = not_outside Methods (λ e. cc) stage is
may_default stage (inr (inl is)) = not_outside Definitions (λ e. cc) stage is
may_default stage (inr (inr is)) = not_outside Defaulted (λ e. cc) stage is

-- an accepted line keeps them so
form_drafts : (taken : List (List ℕ)) (version : Version) (known next : Known) (line : List ℕ) (tokens : List Token) (form : SaidForm) → AreTokens line tokens → AreDrafts known
    → RightLine version (stage_of known) (open_method_names known) (words_of line tokens) form → HasNone (FormHas taken version known line tokens form)
    → FormAdds version known line tokens form next → AreDrafts next
form_drafts taken version known next line tokens (kind_said name) cut are right clean adds =
    subst AreDrafts (sym adds) (record {
      closed = all_kinds known.closed known.block are.closed are.draft
          (whole_of (filled (opened_in known.block)) (λ first second lacks. clean (MissingPair first second) 0 (lacks, refl)));
      draft = (no_draft name right.named, none_defined name);
    })
form_drafts taken version known next line tokens (method_said name arguments result) cut are right clean adds =
    let stands : stage_of known ≢ OutsideStage = not_outside Methods (λ e. cc) (stage_of known) right.stands in
    let draft = open_draft known.block stands are.draft in
    let one : Method = record { name = name; variables = arguments ++ result ∷ [] } in
    let may = may_add (kind_in known.block) line tokens name arguments result right.each_argument right.gives clean in
    subst AreDrafts (sym adds) (record {
      closed = are.closed;
      draft = (
        draft_more (kind_in known.block) one draft right.named may,
        method_undefined (kind_in known.block) one (opened_in known.block).defined (open_defined known.block stands are.draft),
      );
    })
form_drafts taken version known next line tokens (commute_said first second read) cut are right clean (m, n, f, says, same) =
    let draft = open_draft known.block right.stands are.draft in
    let defined = open_defined known.block right.stands are.draft in
    let opened = opened_in known.block in
    subst AreDrafts (sym same) (record {
      closed = are.closed;
      draft = (
        draft_set (kind_in known.block) m n f draft (may_set version (stage_of known) opened line tokens first second read m n f cut draft defined right says clean),
        record { count = defined.count; each = defined.each },
      );
    })
form_drafts taken version known next line tokens (define_said owner name read) cut are right clean (m, f, says, same) =
    let stands = may_stand (stage_of known) right.stands in
    let draft = open_draft known.block stands are.draft in
    let defined = open_defined known.block stands are.draft in
    let opened = opened_in known.block in
    let is = may_define version (stage_of known) opened line tokens owner name read m f cut draft right says clean in
    subst AreDrafts (sym same) (record {
      closed = are.closed;
      draft = (draft, one_more_defined opened.kind opened.defined m (record { name = name; formula = f }) defined (number_within (kind_in known.block).methods owner m says.number) is);
    })
form_drafts taken version known next line tokens (default_said value) cut are right clean same =
    let stands = may_default (stage_of known) right.stands in
    subst AreDrafts (sym same) (record {
      closed = are.closed;
      draft = (open_draft known.block stands are.draft, open_defined known.block stands are.draft);
    })

pub accepted_drafts : (taken : List (List ℕ)) (known next : Known) (line : List ℕ) → AreDrafts known → AcceptsSpecLine taken known line next → AreDrafts next
accepted_drafts taken known next line are accepts = by accepts.adds where
  by : Adds known line accepts.tokens next → AreDrafts next
  by (adds_header version fresh header same) = subst AreDrafts (sym same) (record { closed = are.closed; draft = are.draft })
  by (adds_form version begun form right adds) =
      form_drafts taken version known next line accepts.tokens form accepts.cut are right (λ cause place has. accepts.clean cause place (form_has version begun form right has)) adds

-- so do lines, one after another
reads_drafts : (taken : List (List ℕ)) (known last : Known) (lines : List (List ℕ)) → AreDrafts known → ReadsLines taken known lines last → AreDrafts last
reads_drafts taken known last lines are no_more = are
reads_drafts taken known last lines are (skips {lines = rest} skipped more) = reads_drafts taken known last rest are more
reads_drafts taken known last lines are (takes {mid = mid} {line = line} {lines = rest} kept accepts more) =
    reads_drafts taken mid last rest (accepted_drafts taken known mid line are accepts) more

pub none_drafted : AreDrafts nothing
none_drafted = record { closed = All-nil IsKind; draft = tt }

pub said_kinds : (text : List ℕ) (taken : List (List ℕ)) (kinds : List SpecifiedKind) → SpecSays text taken kinds → All IsKind kinds
said_kinds text taken kinds says =
    let are = reads_drafts taken nothing says.known says.lines none_drafted says.reads in
    subst (All IsKind) (sym says.said)
    (all_kinds says.known.closed says.known.block are.closed are.draft
    (whole_of (filled (opened_in says.known.block)) (λ first second lacks. says.whole (MissingPair first second) 0 (lacks, refl))))
