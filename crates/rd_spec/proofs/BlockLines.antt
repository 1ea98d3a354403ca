-- A header and blocks of kinds are read as these kinds.
use Rattle.std.proofs.Common.{◌≡◌, ◌≢◌, ℕ, zero, suc, ◌+◌, ◌*◌, ◌<◌, ◌≤◌, Bool, true, false, List, [], ◌∷◌, ◌++◌, get_or, length, length-append, Option, Some, None, if◌then◌else◌, refl, sym, ◌∙◌, ap, subst, arith, ◌⊎◌, inl, inr}
use Rattle.std.specs.Prelude.{All, AllPairs, Contains, IsSome, flat_map, nat_le, set, unwrap_or}
use Rattle.std.specs.List.{AllByRecursion, AllZip}
use Rattle.std.proofs.lemmas.Bool.{cases_Bool, cases_eq, leb-true}
use Rattle.std.proofs.lemmas.List.{append_assoc, append-nil, get_or_past, length-set, map-append}
use Rattle.rd_base.proofs.FoundLemmas.{each_by_recursion}
use Rattle.rd_base.specs.declared.limits.TheConstants.{MOST_ARGUMENTS, MOST_KINDS, MOST_METHODS, MOST_PREDICATES, MOST_SPEC_BYTES}
use Rattle.rd_definitions.specs.Definitions.{Definition}
use Rattle.rd_ecl.specs.declared.kinds.Method.{Method}
use Rattle.rd_ecl.specs.Formulas.{Tree, truth}
use Rattle.rd_ecl.specs.Specified.{IsDraft, IsKind, IsWhole, SpecifiedKind, formula_at, method_predicates, names_of, with_pair}
use Rattle.rd_ecl.specs.Variables.{AreVariables}
use Rattle.rd_ecl.proofs.PairLemmas.{at_other, at_set, equal_drafts, known}
use Rattle.rd_lines.specs.declared.forms.Stage.{Stage}
use Rattle.rd_lines.specs.declared.forms.Stage.TheVariants.{Outside, Methods, Pairs}
use Rattle.rd_lines.specs.declared.forms.Version.{Version}
use Rattle.rd_lines.specs.Lines.{words_of, kind as kind_said, method as method_said, commute as commute_said}
use Rattle.rd_open_kind.specs.Filled.{filled_with}
use Rattle.rd_open_kind.specs.Opened.{Opened, filled, kind_named, with_method_in}
use Rattle.rd_open_kind.proofs.FilledLemmas.{filled_methods, filled_name, formula_given}
use Rattle.rd_reading.specs.Adding.{AcceptsSpecLine, with_header, with_kind}
use Rattle.rd_spec.specs.Blocks.{IsBlock, IsOfBlocks, SaidPair, SaysMethod, SaysPairOf, without_definitions}
use Rattle.rd_reading.specs.Causes.{HasManyTokens}
use Rattle.rd_pairs.specs.PairCauses.{AreNumbers, HasManyPredicates, variables_of_method}
use Rattle.rd_reading.specs.Known.{kinds_so_far, nothing, opened_in, specified_kind_names}
use Rattle.rd_reading.specs.Texts.{HasNewNames, SpecSays}
use Rattle.rd_reading.specs.declared.known.Known.{Known}
use Rattle.rd_reading.proofs.DraftLemmas.{AreDrafts, none_drafted, said_kinds}
use Rattle.rd_reading.proofs.LineLemmas.{short_few}
use Rattle.rd_pairs.proofs.NumberLemmas.{AreDifferent}
use Rattle.rd_reading.proofs.OneLemmas.{none_apart}
use Rattle.rd_spec.proofs.OpenLemmas.{given, zip_each}
use Rattle.rd_reading.proofs.RepeatLemmas.{none_repeated}
use Rattle.rd_reading.proofs.VerdictLemmas.{no_end}
use Rattle.rd_spec.proofs.AcceptLemmas.{accepted, header_accepted, kind_clean, method_clean}
use Rattle.rd_spec.proofs.AllLines.{AcceptsAll, accepts_drafts, accepts_on, reads_kept}
use Rattle.rd_spec.proofs.DefinitionLines.{AreDefaulted, AreDefined, defaults_accepted, defines_default, defines_kind, definitions_accepted, opened_with, part_of}
use Rattle.rd_spec.proofs.FewLemmas.{few_parts}
use Rattle.rd_spec.proofs.MethodLines.{IsUnset, at, default_kept, defined_more, fresh_behind, kind_short, method_short, methods_more, methods_unset, name_kept, with_methods}
use Rattle.rd_spec.proofs.PairLines.{IsReady, pair_clean}

-- ---- kinds that are the same

-- two kinds have one name, the same methods, and one formula for each pair of them
record IsSame (kind other : SpecifiedKind) : Type 0 where
  name : kind.name ≡ other.name
  methods : kind.methods ≡ other.methods
  formulas : (first second : ℕ) → first ≤ second → second < length kind.methods → formula_at kind first second ≡ formula_at other first second

-- as many kinds, one by one the same
abbrev AreSame : List SpecifiedKind → List SpecifiedKind → Type 0
AreSame [] [] = Unit {0}
AreSame (kind ∷ kinds) (other ∷ others) = IsSame kind other × AreSame kinds others
AreSame _ _ = ⊥

-- what else there is of kinds is equal then
equal_all : (kinds others : List SpecifiedKind) → AllByRecursion IsKind kinds → AllByRecursion IsKind others → AreSame kinds others → kinds ≡ others
equal_all [] [] each also same = refl
equal_all [] (other ∷ others) each also same = absurd same
equal_all (kind ∷ kinds) [] each also same = absurd same
equal_all (kind ∷ kinds) (other ∷ others) (is, each) (is_also, also) (here, same) =
    (λ i. equal_drafts kind other is.draft is_also.draft here.name here.methods here.formulas i ∷ equal_all kinds others each also same i)

-- ---- the lines of methods

names_split : (xs : List Method) (one : Method) (ys : List Method) → names_of (xs ++ one ∷ ys) ≡ names_of xs ++ one.name ∷ names_of ys
names_split [] one ys = refl
names_split (x ∷ xs) one ys = ap (λ (l : List (List ℕ)). x.name ∷ l) (names_split xs one ys)

method_accepted : (taken : List (List ℕ)) (version : Version) (closed : List SpecifiedKind) (opened : Opened) (line : List ℕ) (method : Method)
    → ¬ (Contains (names_of opened.kind.methods) method.name) → length opened.kind.methods < MOST_METHODS → AreVariables method.variables → SaysMethod line method
    → AcceptsSpecLine taken (at version closed opened Methods) line (at version closed (with_method_in opened method) Methods)
method_accepted taken version closed opened line method new room variables says =
    let arguments = says.arguments in
    let result = says.result in
    let count : length arguments ≤ MOST_ARGUMENTS = (let few = variables.few in let same = ap length says.variables in let sum = length-append arguments (result ∷ []) in omega (arith, few, same, sum)) in
    let whole : record { name = method.name; variables = arguments ++ result ∷ [] } ≡ method =
    ap (λ (vs : List (List ℕ)). record { name = method.name; variables = vs }) (sym says.variables) in
    accepted taken (at version closed opened Methods) line says.tokens version refl (method_said method.name arguments result)
    (λ many. method_short version _ (subst (HasManyTokens version) says.written.written many))
    says.written (at version closed (with_method_in opened method) Methods) says.cut
    (method_clean opened.kind line says.tokens method.name arguments result new
    (λ n. none_repeated (arguments ++ result ∷ []) n (subst AreDifferent says.variables variables.different)) room count)
    (ap (λ (m : Method). at version closed (with_method_in opened m) Methods) (sym whole))

methods_accepted : (taken : List (List ℕ)) (version : Version) (closed : List SpecifiedKind) (opened : Opened) (lines : List (List ℕ)) (methods : List Method)
    → AreDifferent (names_of (opened.kind.methods ++ methods)) → length (opened.kind.methods ++ methods) ≤ MOST_METHODS
    → AllByRecursion (λ (method : Method). AreVariables method.variables) methods → AllZip SaysMethod lines methods
    → AcceptsAll taken (at version closed opened Methods) lines (at version closed (with_methods opened methods) Methods)
unfolding with_methods
methods_accepted taken version closed opened [] [] different few each says = refl
methods_accepted taken version closed opened [] (one ∷ methods) different few each says = absurd says
methods_accepted taken version closed opened (line ∷ lines) [] different few each says = absurd says
methods_accepted taken version closed opened (line ∷ lines) (one ∷ methods) different few (here, rest) (says, others) =
    let old : List Method = opened.kind.methods in
    let more : (old ++ one ∷ []) ++ methods ≡ old ++ one ∷ methods = append_assoc old (one ∷ []) methods in
    let room = length-append old (one ∷ methods) in (
      at version closed (with_method_in opened one) Methods,
      method_accepted taken version closed opened line one
          (fresh_behind (names_of old) one.name (names_of methods) (subst AreDifferent (names_split old one methods) different))
          (omega (arith, few, room)) here says,
      methods_accepted taken version closed (with_method_in opened one) lines methods (subst (λ (ms : List Method). AreDifferent (names_of ms)) (sym more) different)
          (subst (λ (ms : List Method). length ms ≤ MOST_METHODS) (sym more) few) rest others,
    )

-- ---- the lines of pairs

guarded : (b : Bool) (xs : List (Option Tree)) (p : ℕ) → b ≡ false → (if b then get_or xs p None else None) ≡ None
guarded true xs p e = absurd (cc)
guarded false xs p e = refl

pairs_inside : Pairs ≢ Outside
pairs_inside e = cc

abbrev Differs : SaidPair → SaidPair → Type 0
Differs pair other = ¬ ((pair.first ≡ other.first) × (pair.second ≡ other.second))

tail_pairs : (pair : SaidPair) (pairs : List SaidPair) → AllPairs Differs (pair ∷ pairs) → AllPairs Differs pairs
tail_pairs pair pairs all i j d less within = all (suc i) (suc j) d (omega (arith, less)) (omega (arith, within))

head_pairs : (pair : SaidPair) (pairs : List SaidPair) → AllPairs Differs (pair ∷ pairs) → AllByRecursion (Differs pair) pairs
head_pairs pair pairs all = each_by_recursion (Differs pair) pairs (λ k d within. all 0 (suc k) d (omega arith) (omega (arith, within)))

module _ (taken : List (List ℕ)) (version : Version) (closed : List SpecifiedKind) (kind : SpecifiedKind) (defined : List (List Definition)) (default : Option Bool)
    (is : IsKind kind) (variables : (n : ℕ) → AreDifferent (variables_of_method kind n)) where
  -- behind the lines of definitions and the default, with these formulas
  abbrev opened_so : List (Option Tree) → Opened
  opened_so pairs = record { kind = part_of kind pairs; defined = defined; default = default }

  abbrev at_pairs : List (Option Tree) → Stage → Known
  at_pairs pairs stage = at version closed (opened_so pairs) stage

  -- what the lines of pairs say, whose names are defined so
  abbrev whole_opened : Opened
  whole_opened = record { kind = kind; defined = defined; default = None }

  -- some of the kind's formulas are set
  record AreSome (set_so : List (Option Tree)) : Type 0 where
    rows : length set_so ≡ MOST_METHODS * length kind.methods
    some : (i j : ℕ) → (formula_at (part_of kind set_so) i j ≡ None) ⊎ (formula_at (part_of kind set_so) i j ≡ formula_at kind i j)

  -- one pair more is set
  module _ (set_so : List (Option Tree)) (are : AreSome set_so) (m n : ℕ) (f : Tree) (there : formula_at kind m n ≡ Some f) where
    abbrev more : List (Option Tree)
    more = set set_so (MOST_METHODS * n + m) (Some f)

    bounds : (m ≤ n) × (n < length kind.methods)
    bounds = known kind is.draft.pairs m n f there

    within : MOST_METHODS * n + m < length set_so
    within =
        let rows = are.rows in
        let ordered = bounds.0 in
        let last = bounds.1 in
        let few = is.draft.methods.few in
        omega (arith, rows, ordered, last, few)

    set_here : formula_at (part_of kind more) m n ≡ Some f
    set_here = at_set (part_of kind set_so) m n f bounds.0 within

    same_place : (i j : ℕ) → i ≤ j → MOST_METHODS * j + i ≡ MOST_METHODS * n + m → (i ≡ m) × (j ≡ n)
    same_place i j ordered same =
        let mine = bounds.0 in
        let last = bounds.1 in
        let few = is.draft.methods.few in
        (omega (arith, ordered, same, mine, last, few), omega (arith, ordered, same, mine, last, few))

    set_of : (i j : ℕ) → (formula_at (part_of kind more) i j ≡ None) ⊎ (formula_at (part_of kind more) i j ≡ formula_at kind i j)
    set_of i j = elim (cases_eq (MOST_METHODS * j + i) (MOST_METHODS * n + m)) [
      | inl same ↦ elim (cases_Bool (nat_le i j)) [
        | inl ordered ↦
            let at = same_place i j (leb-true i j ordered) same in
            inr (subst (λ (x : ℕ). formula_at (part_of kind more) x j ≡ formula_at kind x j) (sym at.0)
            (subst (λ (y : ℕ). formula_at (part_of kind more) m y ≡ formula_at kind m y) (sym at.1) (set_here ∙ sym there)))
        | inr turned ↦ inl (guarded (nat_le i j) more (MOST_METHODS * j + i) turned)
      ]
      | inr other ↦ elim (are.some i j) [
        | inl none ↦ inl (at_other (part_of kind set_so) m n i j f other ∙ none)
        | inr same ↦ inr (at_other (part_of kind set_so) m n i j f other ∙ same)
      ]
    ]

    set_more : AreSome more
    set_more = record { rows = length-set set_so (MOST_METHODS * n + m) (Some f) ∙ are.rows; some = set_of }

    -- what is set stays
    kept_at : formula_at (part_of kind set_so) m n ≡ None → (i j : ℕ) (g : Tree) → formula_at (part_of kind set_so) i j ≡ Some g
        → formula_at (part_of kind more) i j ≡ Some g
    kept_at unset i j g was = elim (cases_eq (MOST_METHODS * j + i) (MOST_METHODS * n + m)) [
      | inl same ↦ absurd (by (are.some i j) same)
      | inr other ↦ at_other (part_of kind set_so) m n i j f other ∙ was
    ] where
      by : (formula_at (part_of kind set_so) i j ≡ None) ⊎ (formula_at (part_of kind set_so) i j ≡ formula_at kind i j) → MOST_METHODS * j + i ≡ MOST_METHODS * n + m → ⊥
      by (inl none) same = let both : None ≡ Some g = sym none ∙ was in cc
      by (inr of) same =
          let at = same_place i j (known kind is.draft.pairs i j g (sym of ∙ was)).0 same in
          let here : formula_at (part_of kind set_so) m n ≡ Some g =
          subst (λ (x : ℕ). formula_at (part_of kind set_so) x n ≡ Some g) at.0 (subst (λ (y : ℕ). formula_at (part_of kind set_so) i y ≡ Some g) at.1 was) in
          let both : None ≡ Some g = sym unset ∙ here in
          cc

    -- another pair that isn't set stays so
    unset_at : (pair : SaidPair) → formula_at kind pair.first pair.second ≡ Some pair.formula → ¬ ((m ≡ pair.first) × (n ≡ pair.second))
        → formula_at (part_of kind set_so) pair.first pair.second ≡ None → formula_at (part_of kind more) pair.first pair.second ≡ None
    unset_at pair known_pair differs unset =
        at_other (part_of kind set_so) m n pair.first pair.second f
        (λ same.
        let at = same_place pair.first pair.second (known kind is.draft.pairs pair.first pair.second pair.formula known_pair).0 same in
        differs (sym at.0, sym at.1))
        ∙ unset

    few_more : (method : ℕ) → length (method_predicates (with_pair (part_of kind set_so) m n f) method) ≤ MOST_PREDICATES
    few_more method =
        let fewer = few_parts (part_of kind more) kind method set_of in
        let few = is.draft.pairs.few method in
        omega (arith, fewer, few)

    no_more_predicates : ¬ (HasManyPredicates (part_of kind set_so) m n f)
    no_more_predicates (inl many) = let few = few_more m in omega (arith, many, few)
    no_more_predicates (inr many) = let few = few_more n in omega (arith, many, few)

    ready : formula_at (part_of kind set_so) m n ≡ None → IsReady (part_of kind set_so) m n f
    ready unset =
        let pair = is.draft.pairs.each m n f there in
        record {
          names = is.draft.methods.different;
          variables = variables;
          small = record { inside = pair.inside; few = pair.few; shallow = pair.shallow };
          unset = unset;
          room = no_more_predicates;
        }

    -- the line of the pair is accepted
    pair_accepted : (stage : Stage) (line : List ℕ) → stage ≢ Outside → formula_at (part_of kind set_so) m n ≡ None
        → SaysPairOf version whole_opened line (record { first = m; second = n; formula = f })
        → AcceptsSpecLine taken (at_pairs set_so stage) line (at_pairs more Pairs)
    pair_accepted stage line inside unset said =
        let numbers : AreNumbers (part_of kind set_so) said.first said.second m n =
        record { first_name = said.says.numbers.first_name; second_name = said.says.numbers.second_name } in
        accepted taken (at_pairs set_so stage) line said.tokens version refl (commute_said said.first said.second said.read)
        (short_few version (words_of line said.tokens) said.few)
        (record {
          stands = inside;
          named_first = said.written.named_first;
          named_second = said.written.named_second;
          order = said.written.order;
          behind = said.written.behind;
          marks = said.written.marks;
          written = said.written.written;
          marked = said.written.marked;
          says = said.written.says;
        }) (at_pairs more Pairs) said.cut
        (pair_clean version (opened_so set_so) line said.tokens said.first said.second said.read m n f (ready unset) numbers said.says.says)
        (m, n, f, record { numbers = numbers; says = said.says.says }, refl)

  -- all these lines are accepted, and then their pairs are set
  record AreSet (set_so : List (Option Tree)) (stage : Stage) (lines : List (List ℕ)) (pairs : List SaidPair) : Type 0 where
    last : List (Option Tree)
    then_stage : Stage
    are : AreSome last
    accepts : AcceptsAll taken (at_pairs set_so stage) lines (at_pairs last then_stage)
    each : AllByRecursion (λ pair. formula_at (part_of kind last) pair.first pair.second ≡ Some pair.formula) pairs
    kept : (i j : ℕ) (g : Tree) → formula_at (part_of kind set_so) i j ≡ Some g → formula_at (part_of kind last) i j ≡ Some g

  unset_rest : (set_so : List (Option Tree)) (are : AreSome set_so) (m n : ℕ) (f : Tree) (there : formula_at kind m n ≡ Some f) (pairs : List SaidPair)
      → AllByRecursion (Differs (record { first = m; second = n; formula = f })) pairs
      → AllByRecursion (λ pair. formula_at kind pair.first pair.second ≡ Some pair.formula) pairs
      → AllByRecursion (λ pair. formula_at (part_of kind set_so) pair.first pair.second ≡ None) pairs
      → AllByRecursion (λ pair. formula_at (part_of kind (set set_so (MOST_METHODS * n + m) (Some f))) pair.first pair.second ≡ None) pairs
  unset_rest set_so are m n f there [] differ formulas unset = tt
  unset_rest set_so are m n f there (pair ∷ pairs) differ formulas unset =
      (unset_at set_so are m n f there pair formulas.0 differ.0 unset.0, unset_rest set_so are m n f there pairs differ.1 formulas.1 unset.1)

  pairs_accepted : (set_so : List (Option Tree)) (stage : Stage) (lines : List (List ℕ)) (pairs : List SaidPair) → stage ≢ Outside → AreSome set_so → AllPairs Differs pairs
      → AllByRecursion (λ pair. formula_at kind pair.first pair.second ≡ Some pair.formula) pairs
      → AllByRecursion (λ pair. formula_at (part_of kind set_so) pair.first pair.second ≡ None) pairs
      → AllZip (SaysPairOf version whole_opened) lines pairs → AreSet set_so stage lines pairs
  pairs_accepted set_so stage [] [] inside are once formulas unset says =
      record { last = set_so; then_stage = stage; are = are; accepts = refl; each = tt; kept = λ i j g there. there }
  pairs_accepted set_so stage [] (pair ∷ pairs) inside are once formulas unset says = absurd says
  pairs_accepted set_so stage (line ∷ lines) [] inside are once formulas unset says = absurd says
  pairs_accepted set_so stage (line ∷ lines) (pair ∷ pairs) inside are once (here, formulas) (none, unset) (says, others) =
      let next : List (Option Tree) = set set_so (MOST_METHODS * pair.second + pair.first) (Some pair.formula) in
      let rest = pairs_accepted next Pairs lines pairs pairs_inside (set_more set_so are pair.first pair.second pair.formula here) (tail_pairs pair pairs once) formulas
      (unset_rest set_so are pair.first pair.second pair.formula here pairs (head_pairs pair pairs once) formulas unset) others in
      record {
        last = rest.last;
        then_stage = rest.then_stage;
        are = rest.are;
        accepts = (
          at_pairs next Pairs,
          pair_accepted set_so are pair.first pair.second pair.formula here stage line inside none says,
          rest.accepts,
        );
        each = (rest.kept pair.first pair.second pair.formula (set_here set_so are pair.first pair.second pair.formula here), rest.each);
        kept = λ i j g there. rest.kept i j g (kept_at set_so are pair.first pair.second pair.formula here none i j g there);
      }

-- ---- a block

variables_apart : (methods : List Method) (n : ℕ) → AllByRecursion (λ (method : Method). AreVariables method.variables) methods
    → AreDifferent (variables_of_method (record { name = []; methods = methods; pairs = [] }) n)
variables_apart [] zero each = none_apart
variables_apart [] (suc n) each = none_apart
variables_apart (method ∷ methods) zero (here, rest) = here.different
variables_apart (method ∷ methods) (suc n) (here, rest) = variables_apart methods n rest

contained_holds : (P : SaidPair → Type 0) (pairs : List SaidPair) (pair : SaidPair) → AllByRecursion P pairs → Contains pairs pair → P pair
contained_holds P [] pair each (i, within, is) = absurd (omega (arith, within))
contained_holds P (one ∷ pairs) pair each (zero, within, is) = subst P is each.0
contained_holds P (one ∷ pairs) pair each (suc i, within, is) = contained_holds P pairs pair each.1 (i, omega (arith, within), is)

some_is : (o : Option Tree) (f : Tree) → o ≡ Some f → IsSome o
some_is None f is = absurd (cc)
some_is (Some g) f is = refl

-- the lines are accepted, and then the kind is open, whole with its default
record IsReadBlock (taken : List (List ℕ)) (version : Version) (first : Known) (lines : List (List ℕ)) (kind : SpecifiedKind) : Type 0 where
  next : Opened
  stage : Stage
  accepts : AcceptsAll taken first lines (at version (kinds_so_far first) next stage)
  same : IsSame kind (filled next)
  whole : IsWhole (filled next)

module _ (taken : List (List ℕ)) (version : Version) (first : Known) (lines : List (List ℕ)) (kind : SpecifiedKind) (is : IsKind kind) (block : IsBlock version lines kind)
    (begun : first.version ≡ Some version) (drafts : AreDrafts first) (new : ¬ (Contains (specified_kind_names (kinds_so_far first)) kind.name))
    (before_whole : IsWhole (filled (opened_in first.block))) (free : ¬ (Contains taken kind.name)) (room : length (kinds_so_far first) < MOST_KINDS) where
  abbrev closed : List SpecifiedKind
  closed = kinds_so_far first

  each_method : AllByRecursion (λ (method : Method). AreVariables method.variables) kind.methods
  each_method = each_by_recursion (λ (method : Method). AreVariables method.variables) kind.methods is.draft.methods.each

  head_accepted : AcceptsSpecLine taken first block.head (with_kind first kind.name)
  head_accepted =
      let head = block.name in
      accepted taken first block.head head.tokens version begun (kind_said kind.name)
      (λ many. kind_short version _ (subst (HasManyTokens version) head.written.written many))
      head.written (with_kind first kind.name) head.cut (kind_clean taken first block.head head.tokens kind.name new before_whole free room) refl

  abbrev named : Opened
  named = kind_named kind.name

  opened : with_kind first kind.name ≡ at version closed named Methods
  opened = ap (λ (v : Option Version). record { version = v; closed = closed; block = Some (record { opened = named; stage = Methods }) }) begun

  -- behind its methods
  abbrev bare : Opened
  bare = with_methods named kind.methods

  abbrev empty : List (Option Tree)
  empty = bare.kind.pairs

  abbrev before : Opened
  before = without_definitions kind

  bare_is : bare ≡ opened_with before empty
  bare_is = λ i. record {
    kind = record { name = name_kept named kind.methods i; methods = methods_more named kind.methods i; pairs = empty };
    defined = defined_more named kind.methods i;
    default = default_kept named kind.methods i;
  }

  methods_all : AcceptsAll taken (at version closed named Methods) block.method_lines (at version closed (opened_with before empty) Methods)
  methods_all =
      subst (λ (o : Opened). AcceptsAll taken (at version closed named Methods) block.method_lines (at version closed o Methods)) bare_is
      (methods_accepted taken version closed named block.method_lines kind.methods is.draft.methods.different is.draft.methods.few each_method block.methods)

  -- behind its definitions
  definitions_all : AreDefined taken version closed empty before block.opened Methods block.definition_lines
  definitions_all =
      definitions_accepted taken version closed empty before block.opened Methods block.definition_lines block.definitions (inl refl) is.draft block.defined block.defines

  same_kind : block.opened.kind ≡ kind
  same_kind = defines_kind before block.opened block.definitions block.defined

  -- behind its default
  abbrev defined : Opened
  defined = record { kind = part_of kind empty; defined = block.opened.defined; default = None }

  defined_is : opened_with block.opened empty ≡ defined
  defined_is = λ i. record {
    kind = part_of (same_kind i) empty;
    defined = block.opened.defined;
    default = defines_default before block.opened block.definitions block.defined i;
  }

  default_all : AreDefaulted taken version closed defined definitions_all.then_stage definitions_all.stands block.default_lines block.default
  default_all = defaults_accepted taken version closed defined definitions_all.then_stage definitions_all.stands block.default_lines block.default refl block.defaults

  -- behind its pairs
  empty_unset : IsUnset bare.kind
  empty_unset = methods_unset named kind.methods (record { rows = refl; none = λ k. get_or_past [] k None (omega arith) })

  none_at : (b : Bool) (k : ℕ) → (if b then get_or empty k None else None) ≡ None
  none_at true k = empty_unset.none k
  none_at false k = refl

  variables : (n : ℕ) → AreDifferent (variables_of_method kind n)
  variables n = variables_apart kind.methods n each_method

  empty_some : AreSome taken version closed kind block.opened.defined block.default is variables empty
  empty_some = record {
    rows = empty_unset.rows ∙ ap (λ (methods : List Method). MOST_METHODS * length methods) (methods_more named kind.methods);
    some = λ i j. inl (none_at (nat_le i j) (MOST_METHODS * j + i));
  }

  none_set : (pairs : List SaidPair) → AllByRecursion (λ pair. formula_at (part_of kind empty) pair.first pair.second ≡ None) pairs
  none_set [] = tt
  none_set (pair ∷ pairs) = (none_at (nat_le pair.first pair.second) (MOST_METHODS * pair.second + pair.first), none_set pairs)

  formulas : AllByRecursion (λ pair. formula_at kind pair.first pair.second ≡ Some pair.formula) block.pairs
  formulas = each_by_recursion (λ (pair : SaidPair). formula_at kind pair.first pair.second ≡ Some pair.formula) block.pairs block.all.formulas

  pair_said : (line : List ℕ) (pair : SaidPair) → SaysPairOf version block.opened line pair
      → SaysPairOf version (record { kind = kind; defined = block.opened.defined; default = None }) line pair
  pair_said line pair says =
      let part = subst (λ (k : SpecifiedKind). SaysPairOf version (record block.opened { kind = k }) line pair) same_kind says in
      record {
        first = part.first;
        second = part.second;
        read = part.read;
        tokens = part.tokens;
        cut = part.cut;
        written = part.written;
        few = part.few;
        says = record { numbers = part.says.numbers; says = part.says.says };
      }

  pairs_set : AreSet taken version closed kind block.opened.defined block.default is variables empty default_all.then_stage block.pair_lines block.pairs
  pairs_set =
      pairs_accepted taken version closed kind block.opened.defined block.default is variables empty default_all.then_stage block.pair_lines block.pairs
      default_all.inside empty_some block.all.once formulas (none_set block.pairs)
      (zip_each (SaysPairOf version block.opened) (SaysPairOf version (record { kind = kind; defined = block.opened.defined; default = None })) block.pair_lines block.pairs
      pair_said block.says)

  abbrev last : Opened
  last = record { kind = part_of kind pairs_set.last; defined = block.opened.defined; default = block.default }

  abbrev end : Known
  end = at version closed last pairs_set.then_stage

  body_all : AcceptsAll taken (with_kind first kind.name) (block.method_lines ++ (block.definition_lines ++ (block.default_lines ++ block.pair_lines))) end
  body_all =
      let between : Known = at version closed defined definitions_all.then_stage in
      let defining = subst (λ (o : Opened). AcceptsAll taken (at version closed (opened_with before empty) Methods) block.definition_lines
      (at version closed o definitions_all.then_stage)) defined_is definitions_all.accepts in
      subst (λ (k : Known). AcceptsAll taken k (block.method_lines ++ (block.definition_lines ++ (block.default_lines ++ block.pair_lines))) end) (sym opened)
      (accepts_on taken (at version closed named Methods) (at version closed (opened_with before empty) Methods) end block.method_lines
      (block.definition_lines ++ (block.default_lines ++ block.pair_lines)) methods_all
      (accepts_on taken (at version closed (opened_with before empty) Methods) between end block.definition_lines (block.default_lines ++ block.pair_lines) defining
      (accepts_on taken between (at version closed (record defined { default = block.default }) default_all.then_stage) end block.default_lines block.pair_lines
      default_all.accepts pairs_set.accepts)))

  all_lines : AcceptsAll taken first lines end
  all_lines = subst (λ (l : List (List ℕ)). AcceptsAll taken first l end) (sym block.parts) (with_kind first kind.name, head_accepted, body_all)

  -- what was read is being made
  last_draft : IsDraft last.kind
  last_draft = (accepts_drafts taken first end lines drafts all_lines).draft.0

  -- a pair has its line's formula, or the default
  same_at : (i j : ℕ) → i ≤ j → j < length kind.methods → (f : Tree) × (formula_at kind i j ≡ Some f) × (formula_at (filled last) i j ≡ Some f)
  same_at i j ordered inside = elim (block.all.each i j ordered inside) [
    | inl found ↦ (
      found.0,
      contained_holds (λ (pair : SaidPair). formula_at kind pair.first pair.second ≡ Some pair.formula) block.pairs
          (record { first = i; second = j; formula = found.0 }) formulas found.1,
      given last.kind block.default i j found.0 last_draft
          (contained_holds (λ (pair : SaidPair). formula_at last.kind pair.first pair.second ≡ Some pair.formula) block.pairs
          (record { first = i; second = j; formula = found.0 }) pairs_set.each found.1),
    )
    | inr left ↦ by (formula_at last.kind i j) refl left
  ] where
    by : (o : Option Tree) → formula_at last.kind i j ≡ o → (value : Bool) × (block.default ≡ Some value) × (formula_at kind i j ≡ Some (truth value))
        → (f : Tree) × (formula_at kind i j ≡ Some f) × (formula_at (filled last) i j ≡ Some f)
    by (Some f) there left = (f, kept_formula f there (pairs_set.are.some i j), given last.kind block.default i j f last_draft there) where
      kept_formula : (f : Tree) → formula_at last.kind i j ≡ Some f → (formula_at last.kind i j ≡ None) ⊎ (formula_at last.kind i j ≡ formula_at kind i j)
          → formula_at kind i j ≡ Some f
      kept_formula f there (inl none) = let both : None ≡ Some f = sym none ∙ there in absurd (cc)
      kept_formula f there (inr alike) = sym alike ∙ there
    by None none (value, default, filled_so) = (
      truth value,
      filled_so,
      subst (λ (d : Option Bool). formula_at (filled_with d last.kind) i j ≡ Some (truth value)) (sym default)
          (formula_given last.kind value i j last_draft ordered inside ∙ ap (λ (o : Option Tree). Some (unwrap_or o (truth value))) none),
    )

  block_read : IsReadBlock taken version first lines kind
  block_read =
      let methods : (filled last).methods ≡ kind.methods = filled_methods last.kind block.default in
      record {
        next = last;
        stage = pairs_set.then_stage;
        accepts = all_lines;
        same = record {
          name = sym (filled_name last.kind block.default);
          methods = sym methods;
          formulas = λ i j ordered inside. let f = same_at i j ordered inside in f.1 ∙ sym f.2;
        };
        whole = λ i j ordered inside.
            let f = same_at i j ordered (subst (λ (ms : List Method). j < length ms) methods inside) in
            some_is (formula_at (filled last) i j) f.0 f.2;
      }

-- ---- blocks, one behind another

same_more : (xs ys : List SpecifiedKind) (x y : SpecifiedKind) → AreSame xs ys → IsSame x y → AreSame (xs ++ x ∷ []) (ys ++ y ∷ [])
same_more [] [] x y all here = (here, tt)
same_more [] (b ∷ ys) x y all here = absurd all
same_more (a ∷ xs) [] x y all here = absurd all
same_more (a ∷ xs) (b ∷ ys) x y all here = (all.0, same_more xs ys x y all.1 here)

same_names : (xs ys : List SpecifiedKind) → AreSame xs ys → specified_kind_names xs ≡ specified_kind_names ys
same_names [] [] all = refl
same_names [] (b ∷ ys) all = absurd all
same_names (a ∷ xs) [] all = absurd all
same_names (a ∷ xs) (b ∷ ys) all =
    ap (λ (name : List ℕ). name ∷ specified_kind_names xs) all.0.name ∙ ap (λ (l : List (List ℕ)). b.name ∷ l) (same_names xs ys all.1)

same_count : (xs ys : List SpecifiedKind) → AreSame xs ys → length xs ≡ length ys
same_count [] [] all = refl
same_count [] (b ∷ ys) all = absurd all
same_count (a ∷ xs) [] all = absurd all
same_count (a ∷ xs) (b ∷ ys) all = ap suc (same_count xs ys all.1)

names_behind : (xs : List SpecifiedKind) (one : SpecifiedKind) (ys : List SpecifiedKind)
    → specified_kind_names (xs ++ one ∷ ys) ≡ specified_kind_names xs ++ one.name ∷ specified_kind_names ys
names_behind xs one ys = map-append (λ (kind : SpecifiedKind). kind.name) xs (one ∷ ys)

abbrev joined : List (List (List ℕ)) → List (List ℕ)
joined blocks = flat_map (λ block. block) blocks

record AreRead (taken : List (List ℕ)) (version : Version) (first : Known) (lines : List (List ℕ)) (kinds : List SpecifiedKind) : Type 0 where
  last : Known
  accepts : AcceptsAll taken first lines last
  same : AreSame kinds (kinds_so_far last)
  begun : last.version ≡ Some version
  whole : IsWhole (filled (opened_in last.block))

-- what holds of each kind that is to come
abbrev MayCome : List (List ℕ) → SpecifiedKind → Type 0
MayCome taken kind = IsKind kind × ¬ (Contains taken kind.name)

blocks_read : (taken : List (List ℕ)) (version : Version) (first : Known) (blocks : List (List (List ℕ))) (before kinds : List SpecifiedKind)
    → first.version ≡ Some version → AreDrafts first → IsWhole (filled (opened_in first.block)) → AreSame before (kinds_so_far first) → AreDifferent (specified_kind_names (before ++ kinds))
    → length (before ++ kinds) ≤ MOST_KINDS → AllByRecursion (MayCome taken) kinds → AllZip (IsBlock version) blocks kinds
    → AreRead taken version first (joined blocks) (before ++ kinds)
blocks_read taken version first [] before [] begun drafts whole same different few each are = record {
  last = first;
  accepts = refl;
  same = subst (λ (l : List SpecifiedKind). AreSame l (kinds_so_far first)) (sym (append-nil before)) same;
  begun = begun;
  whole = whole;
}
blocks_read taken version first [] before (kind ∷ kinds) begun drafts whole same different few each are = absurd are
blocks_read taken version first (block ∷ blocks) before [] begun drafts whole same different few each are = absurd are
blocks_read taken version first (block ∷ blocks) before (kind ∷ kinds) begun drafts whole same different few (may, each) (here, are) =
    let new : ¬ (Contains (specified_kind_names (kinds_so_far first)) kind.name) =
    subst (λ (l : List (List ℕ)). ¬ (Contains l kind.name)) (same_names before (kinds_so_far first) same)
    (fresh_behind (specified_kind_names before) kind.name (specified_kind_names kinds) (subst AreDifferent (names_behind before kind kinds) different)) in
    let counts = same_count before (kinds_so_far first) same in
    let sum = length-append before (kind ∷ kinds) in
    let one = block_read taken version first block kind may.0 here begun drafts new whole may.1 (omega (arith, few, counts, sum)) in
    let next : Known = at version (kinds_so_far first) one.next one.stage in
    let more : (before ++ kind ∷ []) ++ kinds ≡ before ++ kind ∷ kinds = append_assoc before (kind ∷ []) kinds in
    let rest = blocks_read taken version next blocks (before ++ kind ∷ []) kinds refl (accepts_drafts taken first next block drafts one.accepts) one.whole
    (same_more before (kinds_so_far first) kind (filled one.next) same one.same)
    (subst (λ (l : List SpecifiedKind). AreDifferent (specified_kind_names l)) (sym more) different)
    (subst (λ (l : List SpecifiedKind). length l ≤ MOST_KINDS) (sym more) few) each are in
    record {
      last = rest.last;
      accepts = accepts_on taken first next rest.last block (joined blocks) one.accepts rest.accepts;
      same = subst (λ (l : List SpecifiedKind). AreSame l (kinds_so_far rest.last)) more rest.same;
      begun = rest.begun;
      whole = rest.whole;
    }

may_come : (taken : List (List ℕ)) (kinds : List SpecifiedKind) → AllByRecursion IsKind kinds → AllByRecursion (λ kind. ¬ (Contains taken kind.name)) kinds
    → AllByRecursion (MayCome taken) kinds
may_come taken [] each free = tt
may_come taken (kind ∷ kinds) (here, each) (one, free) = ((here, one), may_come taken kinds each free)

none_whole : IsWhole (filled (kind_named []))
unfolding filled_with
none_whole first second ordered within = absurd (omega (arith, within))

blocks_read_as : (text : List ℕ) (taken : List (List ℕ)) (kinds : List SpecifiedKind) → IsOfBlocks text kinds → All IsKind kinds → HasNewNames taken kinds
    → length text ≤ MOST_SPEC_BYTES → (read : List SpecifiedKind) × SpecSays text taken read × AreSame kinds read
blocks_read_as text taken kinds is each names short =
    let begins = is.begins in
    let first : Known = with_header nothing is.version in
    let drafts : AreDrafts first = record { closed = none_drafted.closed; draft = none_drafted.draft } in
    let rest = blocks_read taken is.version first is.blocks [] kinds refl drafts none_whole tt names.different names.few
    (may_come taken kinds (each_by_recursion IsKind kinds each) (each_by_recursion (λ (kind : SpecifiedKind). ¬ (Contains taken kind.name)) kinds names.free)) is.each in (
      kinds_so_far rest.last,
      record {
        short = short;
        lines = is.lines;
        cut = is.cut;
        known = rest.last;
        reads = reads_kept taken nothing rest.last is.lines (is.header ∷ joined is.blocks) is.parts
            (first, header_accepted taken is.header begins.tokens is.version begins.written begins.cut, rest.accepts);
        whole = no_end rest.last is.version rest.begun rest.whole;
        said = refl;
      },
      rest.same,
    )

pub blocks_said : (text : List ℕ) (taken : List (List ℕ)) (kinds : List SpecifiedKind) → IsOfBlocks text kinds → All IsKind kinds → HasNewNames taken kinds
    → length text ≤ MOST_SPEC_BYTES → SpecSays text taken kinds
blocks_said text taken kinds is each names short =
    let (read, says, same) = blocks_read_as text taken kinds is each names short in
    subst (SpecSays text taken) (sym (equal_all kinds read (each_by_recursion IsKind kinds each) (each_by_recursion IsKind read (said_kinds text taken read says)) same)) says
