-- The lines of a kind that is open, and the block that they are once it is closed.
use Rattle.std.proofs.Common.{◌≡◌, ◌≢◌, ℕ, zero, suc, ◌+◌, ◌*◌, ◌<◌, ◌≤◌, Bool, true, false, List, [], ◌∷◌, ◌++◌, get_or, length, map, replicate, set, Option, Some, None, if◌then◌else◌, refl, sym, ◌∙◌, ap, subst, arith, ◌⊎◌, inl, inr}
use Rattle.std.specs.Prelude.{All, AllPairs, Contains, IsSome, nat_le, unwrap_or}
use Rattle.std.specs.List.{AllZip}
use Rattle.std.proofs.lemmas.Bool.{cases_eq, le-leb, leb-true}
use Rattle.std.proofs.lemmas.List.{append_assoc, append-nil}
use Rattle.std.proofs.lemmas.List.Elements.{All-nil, All-push, Contains-append_left, Contains-push}
use Rattle.std.proofs.lemmas.List.Quantifiers.{all_pairs_push}
use Rattle.std.proofs.lemmas.Option.{same_Some}
use Rattle.rd_base.specs.declared.limits.TheConstants.{MOST_METHODS}
use Rattle.rd_definitions.specs.Definitions.{Definition}
use Rattle.rd_ecl.specs.declared.kinds.Method.{Method}
use Rattle.rd_ecl.specs.Formulas.{Tree, truth}
use Rattle.rd_ecl.specs.Specified.{IsDraft, IsWhole, MayPair, SpecifiedKind, formula_at, with_method, with_pair}
use Rattle.rd_ecl.proofs.PairLemmas.{at_other, at_set, known}
use Rattle.rd_lines.specs.declared.forms.Stage.{Stage}
use Rattle.rd_lines.specs.declared.forms.Stage.TheVariants.{Methods, Definitions, Defaulted, Pairs}
use Rattle.rd_lines.specs.declared.forms.Version.{Version}
use Rattle.rd_open_kind.specs.Filled.{filled_with}
use Rattle.rd_open_kind.specs.Opened.{Opened, filled, kind_named, with_default, with_definition, with_method_in, with_pair_in}
use Rattle.rd_open_kind.proofs.FilledLemmas.{formula_given}
use Rattle.rd_spec.specs.Blocks.{AreItsPairs, Defines, IsBlock, IsNewName, SaidDefinition, SaidPair, SaysDefault, SaysDefaults, SaysDefinitionOf, SaysKind, SaysMethod, SaysPairOf, none_more, one_more, without_definitions}

-- one more on each side
pub zip_more : {X Y : Type 0} (R : X → Y → Type 0) (xs : List X) (ys : List Y) (x : X) (y : Y) → AllZip R xs ys → R x y → AllZip R (xs ++ x ∷ []) (ys ++ y ∷ [])
zip_more R [] [] x y all here = (here, tt)
zip_more R [] (b ∷ ys) x y all here = absurd all
zip_more R (a ∷ xs) [] x y all here = absurd all
zip_more R (a ∷ xs) (b ∷ ys) x y all here = (all.0, zip_more R xs ys x y all.1 here)

pub zip_each : {X Y : Type 0} (R S : X → Y → Type 0) (xs : List X) (ys : List Y) → ((x : X) (y : Y) → R x y → S x y) → AllZip R xs ys → AllZip S xs ys
zip_each R S [] [] step all = tt
zip_each R S [] (y ∷ ys) step all = absurd all
zip_each R S (x ∷ xs) [] step all = absurd all
zip_each R S (x ∷ xs) (y ∷ ys) step all = (step x y all.0, zip_each R S xs ys step all.1)

zip_none : {X Y : Type 0} (R : X → Y → Type 0) (ys : List Y) → AllZip R [] ys → ys ≡ []
zip_none R [] all = refl
zip_none R (y ∷ ys) all = absurd all

-- ---- the formulas of a kind

guarded : (b : Bool) (xs : List (Option Tree)) (p : ℕ) (f : Tree) → (if b then get_or xs p None else None) ≡ Some f → (b ≡ true) × (get_or xs p None ≡ Some f)
guarded true xs p f e = (refl, e)
guarded false xs p f e = absurd (cc)

unguarded : (b : Bool) (xs : List (Option Tree)) (p : ℕ) → b ≡ true → (if b then get_or xs p None else None) ≡ get_or xs p None
unguarded true xs p e = refl
unguarded false xs p e = absurd (cc)

empty_at : (b : Bool) (p : ℕ) (f : Tree) → (if b then get_or {A = Option Tree} [] p None else None) ≢ Some f
empty_at true p f e = cc
empty_at false p f e = cc

none_in : (n p : ℕ) → get_or (replicate {A = Option Tree} n None) p None ≡ None
none_in zero p = refl
none_in (suc n) zero = refl
none_in (suc n) (suc p) = none_in n p

none_behind : (xs : List (Option Tree)) (n p : ℕ) → get_or (xs ++ replicate n None) p None ≡ get_or xs p None
none_behind [] n p = none_in n p
none_behind (x ∷ xs) n zero = refl
none_behind (x ∷ xs) n (suc p) = none_behind xs n p

-- a method more leaves them
at_more : (kind : SpecifiedKind) (method : Method) (i j : ℕ) → formula_at (with_method kind method) i j ≡ formula_at kind i j
at_more kind method i j = rw (none_behind kind.pairs MOST_METHODS (MOST_METHODS * j + i)) refl

-- a pair that isn't set stands at another place than one that is
places_apart : (kind : SpecifiedKind) (m n i j : ℕ) (f : Tree) → m ≤ n → formula_at kind m n ≡ None → formula_at kind i j ≡ Some f
    → MOST_METHODS * j + i ≢ MOST_METHODS * n + m
places_apart kind m n i j f ordered unset there same =
    let at = guarded (nat_le i j) kind.pairs (MOST_METHODS * j + i) f there in
    let here : get_or kind.pairs (MOST_METHODS * n + m) None ≡ None =
    sym (unguarded (nat_le m n) kind.pairs (MOST_METHODS * n + m) (le-leb m n ordered)) ∙ unset in
    let moved : get_or kind.pairs (MOST_METHODS * n + m) None ≡ Some f = ap (λ (p : ℕ). get_or kind.pairs p None) (sym same) ∙ at.1 in
    let both : None ≡ Some f = sym here ∙ moved in
    cc

same_place : (i j m n : ℕ) → i ≤ j → m ≤ n → n < MOST_METHODS → MOST_METHODS * j + i ≡ MOST_METHODS * n + m → (i ≡ m) × (j ≡ n)
same_place i j m n one other few e = (omega arith, omega arith)

-- ---- a kind with its default

-- it has other formulas alone
abbrev with_pairs : SpecifiedKind → List (Option Tree) → SpecifiedKind
with_pairs kind pairs = record kind { pairs = pairs }

filled_as : (kind : SpecifiedKind) (default : Option Bool) → filled_with default kind ≡ with_pairs kind (filled_with default kind).pairs
unfolding filled_with
filled_as kind None = refl
filled_as kind (Some value) = refl

-- a formula stays
pub given : (kind : SpecifiedKind) (default : Option Bool) (m n : ℕ) (f : Tree) → IsDraft kind → formula_at kind m n ≡ Some f
    → formula_at (filled_with default kind) m n ≡ Some f
unfolding filled_with
given kind None m n f draft there = there
given kind (Some value) m n f draft there =
    let at = known kind draft.pairs m n f there in
    formula_given kind value m n draft at.0 at.1 ∙ ap (λ (o : Option Tree). Some (unwrap_or o (truth value))) there

some_formula : (o : Option Tree) → IsSome o → (f : Tree) × (o ≡ Some f)
some_formula None is = absurd (cc)
some_formula (Some f) is = (f, refl)

no_formula : (o : Option Tree) → o ≡ None → ¬ (IsSome o)
no_formula None none is = absurd (cc)
no_formula (Some f) none is = absurd (cc)

-- a pair of a whole kind has a formula, or gets the default
IsGiven : SpecifiedKind → Option Bool → ℕ → ℕ → Type 0
IsGiven kind default m n =
    ((f : Tree) × (formula_at kind m n ≡ Some f))
    ⊎ ((value : Bool) × (default ≡ Some value) × (formula_at (filled_with default kind) m n ≡ Some (truth value)))

given_or : (kind : SpecifiedKind) (default : Option Bool) (m n : ℕ) → IsDraft kind → m ≤ n → n < length kind.methods
    → IsSome (formula_at (filled_with default kind) m n) → IsGiven kind default m n
unfolding filled_with IsGiven
given_or kind default m n draft ordered known_so some = by (formula_at kind m n) refl default some where
  by : (o : Option Tree) → formula_at kind m n ≡ o → (d : Option Bool) → IsSome (formula_at (filled_with d kind) m n) → IsGiven kind d m n
  by (Some f) same d some = inl (f, same)
  by None same None some = absurd (no_formula (formula_at kind m n) same some)
  by None same (Some value) some =
      inr (
        value,
        refl,
        formula_given kind value m n draft ordered known_so ∙ ap (λ (o : Option Tree). Some (unwrap_or o (truth value))) same,
      )

-- ---- definitions, one after another

definitions_more : (first last : Opened) (definitions : List SaidDefinition) (said : SaidDefinition) → Defines first definitions last
    → IsNewName last said.method said.definition.name → Defines first (definitions ++ said ∷ []) (with_definition last said.method said.definition)
definitions_more first last definitions said none_more new = one_more said new none_more
definitions_more first last definitions said (one_more one {more = more} fresh others) new =
    one_more one fresh (definitions_more (with_definition first one.method one.definition) last more said others new)

nothing_defined : (first last : Opened) (definitions : List SaidDefinition) → definitions ≡ [] → Defines first definitions last → first ≡ last
nothing_defined first last definitions none none_more = refl
nothing_defined first last definitions none (one_more one fresh others) = absurd (cc)

-- other formulas of pairs leave them
abbrev opened_with : Opened → List (Option Tree) → Opened
opened_with opened pairs = record opened { kind = with_pairs opened.kind pairs }

definitions_moved : (first last : Opened) (definitions : List SaidDefinition) (pairs : List (Option Tree)) → Defines first definitions last
    → Defines (opened_with first pairs) definitions (opened_with last pairs)
definitions_moved first last definitions pairs none_more = none_more
definitions_moved first last definitions pairs (one_more one {more = more} fresh others) =
    one_more one fresh (definitions_moved (with_definition first one.method one.definition) last more pairs others)

definition_moved : (version : Version) (kind : SpecifiedKind) (pairs : List (Option Tree)) (line : List ℕ) (said : SaidDefinition)
    → SaysDefinitionOf version kind line said → SaysDefinitionOf version (with_pairs kind pairs) line said
definition_moved version kind pairs line said is = record {
  owner = is.owner;
  read = is.read;
  tokens = is.tokens;
  cut = is.cut;
  written = is.written;
  few = is.few;
  says = record { number = is.says.number; says = is.says.says };
  nodes = is.nodes;
  levels = is.levels;
}

-- and what the lines of pairs say
pair_moved : (version : Version) (opened : Opened) (pairs : List (Option Tree)) (default : Option Bool) (line : List ℕ) (pair : SaidPair)
    → SaysPairOf version opened line pair → SaysPairOf version (record opened { kind = with_pairs opened.kind pairs; default = default }) line pair
pair_moved version opened pairs default line pair is = record {
  first = is.first;
  second = is.second;
  read = is.read;
  tokens = is.tokens;
  cut = is.cut;
  written = is.written;
  few = is.few;
  says = record {
    numbers = record { first_name = is.says.numbers.first_name; second_name = is.says.numbers.second_name };
    says = is.says.says;
  };
}

no_definitions_more : (methods : List Method) (one : Method)
    → map {B = List Definition} (λ (method : Method). []) (methods ++ one ∷ []) ≡ map (λ (method : Method). []) methods ++ [] ∷ []
no_definitions_more [] one = refl
no_definitions_more (method ∷ methods) one = ap (λ (l : List (List Definition)). [] ∷ l) (no_definitions_more methods one)

-- ---- the lines of a kind in their order

abbrev Lines : Type 0
Lines = List (List ℕ)

abbrev laid : List ℕ → Lines → Lines → Lines → Lines → Lines
laid head methods definitions defaults pairs = head ∷ (methods ++ (definitions ++ (defaults ++ pairs)))

method_laid : (head line : List ℕ) (methods definitions defaults pairs : Lines) → definitions ≡ [] → defaults ≡ [] → pairs ≡ []
    → laid head methods definitions defaults pairs ++ line ∷ [] ≡ laid head (methods ++ line ∷ []) definitions defaults pairs
method_laid head line methods [] [] [] d e p =
    ap (λ (l : Lines). head ∷ (l ++ line ∷ [])) (append-nil methods) ∙ ap (λ (l : Lines). head ∷ l) (sym (append-nil (methods ++ line ∷ [])))
method_laid head line methods (one ∷ definitions) defaults pairs d e p = absurd (cc)
method_laid head line methods [] (one ∷ defaults) pairs d e p = absurd (cc)
method_laid head line methods [] [] (one ∷ pairs) d e p = absurd (cc)

definition_laid : (head line : List ℕ) (methods definitions defaults pairs : Lines) → defaults ≡ [] → pairs ≡ []
    → laid head methods definitions defaults pairs ++ line ∷ [] ≡ laid head methods (definitions ++ line ∷ []) defaults pairs
definition_laid head line methods definitions [] [] e p =
    ap (λ (l : Lines). head ∷ l) (append_assoc methods (definitions ++ []) (line ∷ []))
    ∙ ap (λ (l : Lines). head ∷ (methods ++ (l ++ line ∷ []))) (append-nil definitions)
    ∙ ap (λ (l : Lines). head ∷ (methods ++ l)) (sym (append-nil (definitions ++ line ∷ [])))
definition_laid head line methods definitions (one ∷ defaults) pairs e p = absurd (cc)
definition_laid head line methods definitions [] (one ∷ pairs) e p = absurd (cc)

default_laid : (head line : List ℕ) (methods definitions defaults pairs : Lines) → defaults ≡ [] → pairs ≡ []
    → laid head methods definitions defaults pairs ++ line ∷ [] ≡ laid head methods definitions (line ∷ []) pairs
default_laid head line methods definitions [] [] e p =
    ap (λ (l : Lines). head ∷ l) (append_assoc methods (definitions ++ []) (line ∷ []))
    ∙ ap (λ (l : Lines). head ∷ (methods ++ (l ++ line ∷ []))) (append-nil definitions)
default_laid head line methods definitions (one ∷ defaults) pairs e p = absurd (cc)
default_laid head line methods definitions [] (one ∷ pairs) e p = absurd (cc)

pair_laid : (head line : List ℕ) (methods definitions defaults pairs : Lines)
    → laid head methods definitions defaults pairs ++ line ∷ [] ≡ laid head methods definitions defaults (pairs ++ line ∷ [])
pair_laid head line methods definitions defaults pairs =
    ap (λ (l : Lines). head ∷ l)
    (append_assoc methods (definitions ++ (defaults ++ pairs)) (line ∷ [])
    ∙ ap (λ (l : Lines). methods ++ l)
    (append_assoc definitions (defaults ++ pairs) (line ∷ []) ∙ ap (λ (l : Lines). definitions ++ l) (append_assoc defaults pairs (line ∷ []))))

-- ---- the open kind

-- what no line came of yet
abbrev pub AreAhead : Stage → Lines → Lines → Lines → Type 0
AreAhead Methods definitions defaults pairs = (definitions ≡ []) × (defaults ≡ []) × (pairs ≡ [])
AreAhead Definitions definitions defaults pairs = (defaults ≡ []) × (pairs ≡ [])
AreAhead Defaulted definitions defaults pairs = pairs ≡ []
AreAhead stage definitions defaults pairs = Unit {0}

abbrev pair_with : ℕ → ℕ → Tree → SaidPair
pair_with first second formula = record { first = first; second = second; formula = formula }

-- its lines so far, without those that say nothing
pub record IsOpen (version : Version) (lines : List (List ℕ)) (opened : Opened) (stage : Stage) : Type 0 where
  pub head : List ℕ
  pub method_lines : List (List ℕ)
  pub definition_lines : List (List ℕ)
  pub default_lines : List (List ℕ)
  pub pair_lines : List (List ℕ)
  pub parts : lines ≡ laid head method_lines definition_lines default_lines pair_lines
  pub name : SaysKind head opened.kind.name
  pub methods : AllZip SaysMethod method_lines opened.kind.methods
  pub definitions : List SaidDefinition
  pub defines : AllZip (SaysDefinitionOf version opened.kind) definition_lines definitions
  pub defined : Defines (without_definitions opened.kind) definitions (record opened { default = None })
  pub defaults : SaysDefaults version default_lines opened.default
  pub pairs : List SaidPair
  pub says : AllZip (SaysPairOf version opened) pair_lines pairs
  pub formulas : All (λ pair. formula_at opened.kind pair.first pair.second ≡ Some pair.formula) pairs
  pub found : (i j : ℕ) (f : Tree) → formula_at opened.kind i j ≡ Some f → Contains pairs (record { first = i; second = j; formula = f })
  pub once : AllPairs (λ pair other. ¬ ((pair.first ≡ other.first) × (pair.second ≡ other.second))) pairs
  pub ahead : AreAhead stage definition_lines default_lines pair_lines

-- with its default they are a block, where each pair has a formula then
module _ (version : Version) (lines : List (List ℕ)) (opened : Opened) (stage : Stage) (open_lines : IsOpen version lines opened stage) (draft : IsDraft opened.kind)
    (whole : IsWhole (filled opened)) where
  abbrev shut : SpecifiedKind
  shut = with_pairs opened.kind (filled opened).pairs

  each_pair : (first second : ℕ) → first ≤ second → second < length opened.kind.methods
      → ((formula : Tree) × Contains open_lines.pairs (record { first = first; second = second; formula = formula }))
      ⊎ ((value : Bool) × (opened.default ≡ Some value) × (formula_at (filled opened) first second ≡ Some (truth value)))
  unfolding IsGiven
  each_pair first second ordered inside =
      let methods : length shut.methods ≡ length (filled opened).methods = ap (λ (k : SpecifiedKind). length k.methods) (sym (filled_as opened.kind opened.default)) in
      elim (given_or opened.kind opened.default first second draft ordered inside (whole first second ordered (omega (arith, inside, methods)))) [
        | inl there ↦ inl (there.0, open_lines.found first second there.0 there.1)
        | inr left ↦ inr left
      ]

  all_pairs : AreItsPairs shut opened.default open_lines.pairs
  all_pairs =
      let same = filled_as opened.kind opened.default in
      record {
        formulas = λ k d inside.
            let pair = get_or open_lines.pairs k d in
            subst (λ (kind : SpecifiedKind). formula_at kind pair.first pair.second ≡ Some pair.formula) same
            (given opened.kind opened.default pair.first pair.second pair.formula draft (open_lines.formulas k d inside));
        each = λ first second ordered inside. elim (each_pair first second ordered inside) [
          | inl there ↦ inl there
          | inr left ↦
              inr (left.0, left.1, subst (λ (kind : SpecifiedKind). formula_at kind first second ≡ Some (truth left.0)) same left.2)
        ];
        once = open_lines.once;
      }

  pub block_of : IsBlock version lines (filled opened)
  block_of = subst (IsBlock version lines) (sym (filled_as opened.kind opened.default)) (record {
    head = open_lines.head;
    method_lines = open_lines.method_lines;
    definition_lines = open_lines.definition_lines;
    default_lines = open_lines.default_lines;
    pair_lines = open_lines.pair_lines;
    parts = open_lines.parts;
    name = open_lines.name;
    methods = open_lines.methods;
    definitions = open_lines.definitions;
    defines = zip_each (SaysDefinitionOf version opened.kind) (SaysDefinitionOf version shut) open_lines.definition_lines open_lines.definitions
        (definition_moved version opened.kind (filled opened).pairs) open_lines.defines;
    opened = record opened { kind = shut; default = None };
    defined = definitions_moved (without_definitions opened.kind) (record opened { default = None }) open_lines.definitions (filled opened).pairs open_lines.defined;
    default = opened.default;
    defaults = open_lines.defaults;
    pairs = open_lines.pairs;
    says = zip_each (SaysPairOf version opened) (SaysPairOf version (record opened { kind = shut; default = None })) open_lines.pair_lines open_lines.pairs
        (pair_moved version opened (filled opened).pairs None) open_lines.says;
    all = all_pairs;
  })

-- the line of a kind begins one
pub begins_open : (version : Version) (line : List ℕ) (name : List ℕ) → SaysKind line name → IsOpen version (line ∷ []) (kind_named name) Methods
begins_open version line name says = record {
  head = line;
  method_lines = [];
  definition_lines = [];
  default_lines = [];
  pair_lines = [];
  parts = refl;
  name = says;
  methods = tt;
  definitions = [];
  defines = tt;
  defined = none_more;
  defaults = refl;
  pairs = [];
  says = tt;
  formulas = All-nil (λ (pair : SaidPair). formula_at (kind_named name).kind pair.first pair.second ≡ Some pair.formula);
  found = λ i j f there. absurd (empty_at (nat_le i j) (MOST_METHODS * j + i) f there);
  once = λ i j d less within. absurd (omega (arith, within));
  ahead = (refl, refl, refl);
}

module _ (version : Version) (lines : List (List ℕ)) (opened : Opened) (stage : Stage) (line : List ℕ) (open_lines : IsOpen version lines opened stage) where
  no_pairs : open_lines.pair_lines ≡ [] → open_lines.pairs ≡ []
  no_pairs none =
      zip_none (SaysPairOf version opened) open_lines.pairs
      (subst (λ (l : List (List ℕ)). AllZip (SaysPairOf version opened) l open_lines.pairs) none open_lines.says)

  none_found : open_lines.pair_lines ≡ [] → (i j : ℕ) (f : Tree) → formula_at opened.kind i j ≡ Some f
      → Contains [] (pair_with i j f)
  none_found none i j f there =
      subst (λ (l : List SaidPair). Contains l (record { first = i; second = j; formula = f })) (no_pairs none) (open_lines.found i j f there)

  longer_lines : (next : List (List ℕ))
      → laid open_lines.head open_lines.method_lines open_lines.definition_lines open_lines.default_lines open_lines.pair_lines ++ line ∷ [] ≡ next
      → lines ++ line ∷ [] ≡ next
  longer_lines next same = ap (λ (l : List (List ℕ)). l ++ line ∷ []) open_lines.parts ∙ same

  -- the line of a method adds one, where only methods came
  pub method_open : (method : Method) → open_lines.definition_lines ≡ [] → open_lines.default_lines ≡ [] → open_lines.pair_lines ≡ [] → SaysMethod line method
      → IsOpen version (lines ++ line ∷ []) (with_method_in opened method) Methods
  method_open method undefined undefaulted unpaired says =
      let none : open_lines.definitions ≡ [] =
      zip_none (SaysDefinitionOf version opened.kind) open_lines.definitions
      (subst (λ (l : List (List ℕ)). AllZip (SaysDefinitionOf version opened.kind) l open_lines.definitions) undefined open_lines.defines) in
      let first : Opened = without_definitions opened.kind in
      let last : Opened = record opened { default = None } in
      let same = nothing_defined first last open_lines.definitions none open_lines.defined in
      let empty : first.defined ≡ opened.defined = ap (λ (o : Opened). o.defined) same in
      let both = no_definitions_more opened.kind.methods method ∙ ap (λ (l : List (List Definition)). l ++ [] ∷ []) empty in
      record {
        head = open_lines.head;
        method_lines = open_lines.method_lines ++ line ∷ [];
        definition_lines = [];
        default_lines = open_lines.default_lines;
        pair_lines = [];
        parts = longer_lines _ (method_laid open_lines.head line open_lines.method_lines open_lines.definition_lines open_lines.default_lines open_lines.pair_lines
            undefined undefaulted unpaired)
            ∙ ap (λ (l : List (List ℕ)). laid open_lines.head (open_lines.method_lines ++ line ∷ []) l open_lines.default_lines open_lines.pair_lines) undefined
            ∙ ap (λ (l : List (List ℕ)). laid open_lines.head (open_lines.method_lines ++ line ∷ []) [] open_lines.default_lines l) unpaired;
        name = open_lines.name;
        methods = zip_more SaysMethod open_lines.method_lines opened.kind.methods line method open_lines.methods says;
        definitions = [];
        defines = tt;
        defined = subst (λ (d : List (List Definition)). Defines (without_definitions (with_method opened.kind method)) []
            (record { kind = with_method opened.kind method; defined = d; default = None })) both none_more;
        defaults = open_lines.defaults;
        pairs = [];
        says = tt;
        formulas = All-nil (λ (pair : SaidPair). formula_at (with_method opened.kind method) pair.first pair.second ≡ Some pair.formula);
        found = λ i j f there. none_found unpaired i j f (sym (at_more opened.kind method i j) ∙ there);
        once = λ i j d less within. absurd (omega (arith, within));
        ahead = (refl, undefaulted, refl);
      }

  -- that of a definition one, where no default and no pair came
  pub definition_open : (said : SaidDefinition) → open_lines.default_lines ≡ [] → open_lines.pair_lines ≡ [] → SaysDefinitionOf version opened.kind line said
      → IsNewName opened said.method said.definition.name → IsOpen version (lines ++ line ∷ []) (with_definition opened said.method said.definition) Definitions
  definition_open said undefaulted unpaired says new = record {
    head = open_lines.head;
    method_lines = open_lines.method_lines;
    definition_lines = open_lines.definition_lines ++ line ∷ [];
    default_lines = open_lines.default_lines;
    pair_lines = [];
    parts = longer_lines _ (definition_laid open_lines.head line open_lines.method_lines open_lines.definition_lines open_lines.default_lines open_lines.pair_lines
        undefaulted unpaired)
        ∙ ap (λ (l : List (List ℕ)). laid open_lines.head open_lines.method_lines (open_lines.definition_lines ++ line ∷ []) open_lines.default_lines l) unpaired;
    name = open_lines.name;
    methods = open_lines.methods;
    definitions = open_lines.definitions ++ said ∷ [];
    defines = zip_more (SaysDefinitionOf version opened.kind) open_lines.definition_lines open_lines.definitions line said open_lines.defines says;
    defined = definitions_more (without_definitions opened.kind) (record opened { default = None }) open_lines.definitions said open_lines.defined new;
    defaults = open_lines.defaults;
    pairs = [];
    says = tt;
    formulas = All-nil (λ (pair : SaidPair). formula_at opened.kind pair.first pair.second ≡ Some pair.formula);
    found = none_found unpaired;
    once = λ i j d less within. absurd (omega (arith, within));
    ahead = (undefaulted, refl);
  }

  -- that of a default it, where none and no pair came
  pub default_open : (value : Bool) → open_lines.default_lines ≡ [] → open_lines.pair_lines ≡ [] → SaysDefault version line value
      → IsOpen version (lines ++ line ∷ []) (with_default opened value) Defaulted
  default_open value undefaulted unpaired says = record {
    head = open_lines.head;
    method_lines = open_lines.method_lines;
    definition_lines = open_lines.definition_lines;
    default_lines = line ∷ [];
    pair_lines = [];
    parts = longer_lines _ (default_laid open_lines.head line open_lines.method_lines open_lines.definition_lines open_lines.default_lines open_lines.pair_lines
        undefaulted unpaired)
        ∙ ap (λ (l : List (List ℕ)). laid open_lines.head open_lines.method_lines open_lines.definition_lines (line ∷ []) l) unpaired;
    name = open_lines.name;
    methods = open_lines.methods;
    definitions = open_lines.definitions;
    defines = open_lines.defines;
    defined = open_lines.defined;
    defaults = (line, refl, says);
    pairs = [];
    says = tt;
    formulas = All-nil (λ (pair : SaidPair). formula_at opened.kind pair.first pair.second ≡ Some pair.formula);
    found = none_found unpaired;
    once = λ i j d less within. absurd (omega (arith, within));
    ahead = refl;
  }

-- the line of a pair adds one
module _ (version : Version) (lines : List (List ℕ)) (opened : Opened) (stage : Stage) (line : List ℕ) (m n : ℕ) (f : Tree) (draft : IsDraft opened.kind)
    (may : MayPair opened.kind m n f) (open_lines : IsOpen version lines opened stage) (says : SaysPairOf version opened line (pair_with m n f)) where
  abbrev kind : SpecifiedKind
  kind = opened.kind

  abbrev fuller : SpecifiedKind
  fuller = with_pair kind m n f

  few : n < MOST_METHODS
  few = let count = draft.methods.few in let inside = may.known in omega (arith, count, inside)

  inside_pairs : MOST_METHODS * n + m < length kind.pairs
  inside_pairs =
      let rows = draft.pairs.rows in
      let ordered = may.ordered in
      let at = may.known in
      omega (arith, rows, ordered, at, few)

  here : formula_at fuller m n ≡ Some f
  here = at_set kind m n f may.ordered inside_pairs

  kept : (one : SaidPair) → formula_at kind one.first one.second ≡ Some one.formula → formula_at fuller one.first one.second ≡ Some one.formula
  kept one there = at_other kind m n one.first one.second f (places_apart kind m n one.first one.second one.formula may.ordered may.unset there) ∙ there

  new : (one : SaidPair) → formula_at kind one.first one.second ≡ Some one.formula → ¬ ((one.first ≡ m) × (one.second ≡ n))
  new one there same =
      places_apart kind m n one.first one.second one.formula may.ordered may.unset there
      (ap (λ (j : ℕ). MOST_METHODS * j + one.first) same.1 ∙ ap (λ (i : ℕ). MOST_METHODS * n + i) same.0)

  found_here : (i j : ℕ) (g : Tree) → formula_at fuller i j ≡ Some g → MOST_METHODS * j + i ≡ MOST_METHODS * n + m
      → Contains (open_lines.pairs ++ pair_with m n f ∷ []) (pair_with i j g)
  found_here i j g there same =
      let ordered = leb-true i j (guarded (nat_le i j) (set kind.pairs (MOST_METHODS * n + m) (Some f)) (MOST_METHODS * j + i) g there).0 in
      let at = same_place i j m n ordered may.ordered few same in
      let moved : formula_at fuller m n ≡ Some g =
      subst (λ (a : ℕ). formula_at fuller a n ≡ Some g) at.0 (subst (λ (b : ℕ). formula_at fuller i b ≡ Some g) at.1 there) in
      let trees : f ≡ g = same_Some f g (sym here ∙ moved) in
      let is : pair_with m n f ≡ pair_with i j g =
      ap (λ (a : ℕ). pair_with a n f) (sym at.0) ∙ ap (λ (b : ℕ). pair_with i b f) (sym at.1) ∙ ap (λ (t : Tree). pair_with i j t) trees in
      subst (Contains (open_lines.pairs ++ pair_with m n f ∷ [])) is (Contains-push open_lines.pairs (pair_with m n f))

  found_of : (i j : ℕ) (g : Tree) → formula_at fuller i j ≡ Some g → Contains (open_lines.pairs ++ pair_with m n f ∷ []) (pair_with i j g)
  found_of i j g there = elim (cases_eq (MOST_METHODS * j + i) (MOST_METHODS * n + m)) [
    | inl same ↦ found_here i j g there same
    | inr other ↦
        Contains-append_left open_lines.pairs (pair_with m n f ∷ []) (pair_with i j g) (open_lines.found i j g (sym (at_other kind m n i j f other) ∙ there))
  ]

  pub pair_open : IsOpen version (lines ++ line ∷ []) (with_pair_in opened m n f) Pairs
  pair_open = record {
    head = open_lines.head;
    method_lines = open_lines.method_lines;
    definition_lines = open_lines.definition_lines;
    default_lines = open_lines.default_lines;
    pair_lines = open_lines.pair_lines ++ line ∷ [];
    parts = ap (λ (l : List (List ℕ)). l ++ line ∷ []) open_lines.parts
        ∙ pair_laid open_lines.head line open_lines.method_lines open_lines.definition_lines open_lines.default_lines open_lines.pair_lines;
    name = open_lines.name;
    methods = open_lines.methods;
    definitions = open_lines.definitions;
    defines = zip_each (SaysDefinitionOf version kind) (SaysDefinitionOf version fuller) open_lines.definition_lines open_lines.definitions
        (definition_moved version kind fuller.pairs) open_lines.defines;
    defined = definitions_moved (without_definitions kind) (record opened { default = None }) open_lines.definitions fuller.pairs open_lines.defined;
    defaults = open_lines.defaults;
    pairs = open_lines.pairs ++ pair_with m n f ∷ [];
    says = zip_more (SaysPairOf version (with_pair_in opened m n f)) open_lines.pair_lines open_lines.pairs line (pair_with m n f)
        (zip_each (SaysPairOf version opened) (SaysPairOf version (with_pair_in opened m n f)) open_lines.pair_lines open_lines.pairs
        (pair_moved version opened fuller.pairs opened.default) open_lines.says)
        (pair_moved version opened fuller.pairs opened.default line (pair_with m n f) says);
    formulas = All-push (λ (one : SaidPair). formula_at fuller one.first one.second ≡ Some one.formula) open_lines.pairs (pair_with m n f)
        (λ k d inside. kept (get_or open_lines.pairs k d) (open_lines.formulas k d inside)) here;
    found = found_of;
    once = all_pairs_push (λ (one other : SaidPair). ¬ ((one.first ≡ other.first) × (one.second ≡ other.second))) open_lines.pairs (pair_with m n f) open_lines.once
        (λ k d inside. new (get_or open_lines.pairs k d) (open_lines.formulas k d inside));
    ahead = tt;
  }
