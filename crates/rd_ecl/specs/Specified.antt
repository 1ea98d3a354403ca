-- What a specification says of kinds: this project's profile.
use Rattle.std.specs.Prelude.{ℕ, ◌+◌, ◌*◌, ◌-◌, ◌<◌, ◌≤◌, ◌≢◌, ◌≡◌, nat_le, nat_lt, is_none, Bool, false, not, ◌&&◌, ◌||◌, if◌then◌else◌, List, [], ◌∷◌, ◌++◌, length, map, flat_map, replicate, set, slice_get, slice_index_or, All, AllPairs, IsTrue, Option, Some, None, option_map, unwrap_or, IsSome}
use Rattle.std.specs.List.{list_all, range_with_len}
use Rattle.rd_base.specs.Names.{IsName}
use Rattle.rd_base.specs.declared.values.Value.{Value}
use Rattle.rd_ecl.specs.declared.formulas.Predicate.{Predicate}
use Rattle.rd_ecl.specs.declared.kinds.Method.{Method}
use Rattle.rd_ecl.specs.Formulas.{Tree, AreValues, Fits, are_values, formula_fits, has_slots, post_order, first_offence, InFragment, nodes, levels, predicates_of, distinct, holds}
use Rattle.rd_ecl.specs.Variables.{AreVariables, are_different, is_one_of, is_variable}
use Rattle.rd_base.specs.declared.limits.TheConstants.{MOST_ARGUMENTS, MOST_LEVELS, MOST_METHODS, MOST_NODES, MOST_PREDICATES}

-- a kind, by its name, its methods, and the formula of each pair of them, where it is set: that of methods m and n, with m
-- at most n, stands at 16 n + m
pub record SpecifiedKind : Type 0 where
  pub name : List ℕ
  pub methods : List Method
  pub pairs : List (Option Tree)

-- a kind of no name and without a method
abbrev pub no_kind : SpecifiedKind
no_kind = record { name = []; methods = []; pairs = [] }

-- the kind with this number; that of no name where none has it
abbrev pub kind_at : List SpecifiedKind → ℕ → SpecifiedKind
kind_at kinds number = slice_index_or kinds number no_kind

abbrev pub IsMethod : Method → Type 0
IsMethod method = AreVariables method.variables

abbrev pub names_of : List Method → List (List ℕ)
names_of methods = map (λ method. method.name) methods

-- the methods of a kind: at most 16, each with a name, no two of one name
pub record AreMethods (methods : List Method) : Type 0 where
  pub few : length methods ≤ MOST_METHODS
  pub named : All (λ method. IsName method.name) methods
  pub different : AllPairs (λ x y. x ≢ y) (names_of methods)
  pub each : All IsMethod methods

-- how many slots the method with this number has; 0 where no method has it
abbrev pub slots_at : List Method → ℕ → ℕ
slots_at methods number = unwrap_or (option_map (λ method. length method.variables) (slice_get methods number)) 0

-- the formula of a pair, where it is set
abbrev pub formula_at : SpecifiedKind → ℕ → ℕ → Option Tree
formula_at kind first second = if nat_le first second then slice_index_or kind.pairs (MOST_METHODS * second + first) None else None

-- a formula that a pair may have, of methods with m and n slots
pub record IsPair (formula : Tree) (m n : ℕ) : Type 0 where
  pub fits : Fits formula m n
  pub slots : IsTrue (has_slots formula)
  pub values : AreValues formula
  pub inside : InFragment formula
  pub few : nodes formula ≤ MOST_NODES
  pub shallow : levels formula ≤ MOST_LEVELS

-- each two numbers that the methods of a pair may have, by the first, then by the second
unfoldable pub all_pairs : List (ℕ × ℕ)
all_pairs = flat_map (λ first. map (λ second. (first, second)) (range_with_len first (MOST_METHODS - first))) (range_with_len 0 MOST_METHODS)

-- what a pair's formula says of the method with this number alone
abbrev pub predicates_at : SpecifiedKind → ℕ → ℕ × ℕ → List Predicate
predicates_at kind method pair = unwrap_or (option_map (predicates_of method pair.0 pair.1) (formula_at kind pair.0 pair.1)) []

-- the predicates of a method, pair by pair, each once
abbrev pub method_predicates : SpecifiedKind → ℕ → List Predicate
method_predicates kind method = distinct (flat_map (predicates_at kind method) all_pairs)

-- the formulas of a kind's pairs; no other place has one
pub record ArePairs (kind : SpecifiedKind) : Type 0 where
  pub rows : length kind.pairs ≡ MOST_METHODS * length kind.methods
  pub rest : (first second : ℕ) → second < first → first < MOST_METHODS → slice_index_or kind.pairs (MOST_METHODS * second + first) None ≡ None
  pub each : (first second : ℕ) (formula : Tree) → formula_at kind first second ≡ Some formula → IsPair formula (slots_at kind.methods first) (slots_at kind.methods second)
  pub few : (method : ℕ) → length (method_predicates kind method) ≤ MOST_PREDICATES

-- a kind that is being made
pub record IsDraft (kind : SpecifiedKind) : Type 0 where
  pub name : IsName kind.name
  pub methods : AreMethods kind.methods
  pub pairs : ArePairs kind

-- each pair has its formula
abbrev pub IsWhole : SpecifiedKind → Type 0
IsWhole kind = (first second : ℕ) → first ≤ second → second < length kind.methods → IsSome (formula_at kind first second)

-- a kind: its methods, and a formula for each pair of them
pub record IsKind (kind : SpecifiedKind) : Type 0 where
  pub draft : IsDraft kind
  pub whole : IsWhole kind

-- a method of this name, with these variables, may stand behind those of the kind
pub record MayAdd (kind : SpecifiedKind) (name : List ℕ) (variables : List (List ℕ)) : Type 0 where
  pub room : length kind.methods < MOST_METHODS
  pub fresh : IsTrue (not (is_one_of name (names_of kind.methods)))
  pub some : 1 ≤ length variables
  pub few : length variables ≤ MOST_ARGUMENTS + 1
  pub different : IsTrue (are_different variables)
  pub each : IsTrue (list_all is_variable variables)

-- the kind with one method more, of which no pair is set
abbrev pub with_method : SpecifiedKind → Method → SpecifiedKind
with_method kind method = record kind { methods = kind.methods ++ method ∷ []; pairs = kind.pairs ++ replicate MOST_METHODS None }

-- the kind with the formula of one pair more
abbrev pub with_pair : SpecifiedKind → ℕ → ℕ → Tree → SpecifiedKind
with_pair kind first second formula = record kind { pairs = set kind.pairs (MOST_METHODS * second + first) (Some formula) }

-- this may be the formula of that pair of the kind
pub record MayPair (kind : SpecifiedKind) (first second : ℕ) (formula : Tree) : Type 0 where
  pub ordered : first ≤ second
  pub known : second < length kind.methods
  pub unset : formula_at kind first second ≡ None
  pub pair : IsPair formula (slots_at kind.methods first) (slots_at kind.methods second)
  pub few_first : length (method_predicates (with_pair kind first second formula) first) ≤ MOST_PREDICATES
  pub few_second : length (method_predicates (with_pair kind first second formula) second) ≤ MOST_PREDICATES

-- the test of what a pair's formula may be, for kinds that are written out
abbrev pub is_pair : Tree → ℕ → ℕ → Bool
is_pair formula m n =
    formula_fits formula m n && (has_slots formula && (are_values formula && (is_none (first_offence 0 (post_order formula))
    && (nat_le (nodes formula) MOST_NODES && nat_le (levels formula) MOST_LEVELS))))

abbrev pub may_pair : SpecifiedKind → ℕ → ℕ → Tree → Bool
may_pair kind first second formula =
    nat_le first second && (nat_lt second (length kind.methods) && (is_none (formula_at kind first second)
    && (is_pair formula (slots_at kind.methods first) (slots_at kind.methods second)
    && (nat_le (length (method_predicates (with_pair kind first second formula) first)) MOST_PREDICATES
    && nat_le (length (method_predicates (with_pair kind first second formula) second)) MOST_PREDICATES))))

-- the formula of two methods, in the order in which they are declared, holds of two calls
abbrev pub pair_holds : SpecifiedKind → ℕ → ℕ → List Value → List Value → Bool
pair_holds kind first second a b = unwrap_or (option_map (λ formula. holds formula a b) (formula_at kind first second)) false

-- if the first call may stand on side 1, since its method isn't declared behind the other's, the formula holds with it there
abbrev pub holds_on_side_1 : SpecifiedKind → ℕ → List Value → ℕ → List Value → Bool
holds_on_side_1 kind m a n b = not (nat_le m n) || pair_holds kind m n a b

-- two calls commute, of the methods m and n with the slots a and b: the formula holds with either on side 1, if it may stand there.
-- So of different methods the one declared first is on side 1, and of one method each call in turn
abbrev pub commutes : SpecifiedKind → ℕ → List Value → ℕ → List Value → Bool
commutes kind m a n b = holds_on_side_1 kind m a n b && holds_on_side_1 kind n b m a
