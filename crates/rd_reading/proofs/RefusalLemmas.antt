-- A text has one refusal at most.
use Rattle.std.proofs.Common.{◌≡◌, ℕ, suc, ◌<◌, ◌≤◌, List, [], ◌∷◌, ◌++◌, length, take, drop, Option, Some, None, refl, sym, ap, subst, arith, ◌∙◌, ◌⊎◌, inl, inr}
use Rattle.std.specs.Prelude.{IsSome, slice_get}
use Rattle.std.proofs.lemmas.Bool.{cases_lt}
use Rattle.std.proofs.lemmas.List.{get_or-take, length-take-le, take-append-drop}
use Rattle.std.proofs.lemmas.Option.{get_or_from_slice_get, same_Some, slice_get_within}
use Rattle.rd_base.specs.declared.limits.LimitName.TheVariants.{Arguments, FormulaDepth, Kinds, Methods as MethodLimit, Nodes, Predicates, Tokens}
use Rattle.rd_ecl.specs.declared.formulas.Outside.{Outside}
use Rattle.rd_ecl.specs.declared.formulas.Reason.{Reason}
use Rattle.rd_ecl.specs.Formulas.{Tree, first_offence, post_order}
use Rattle.rd_ecl.specs.Specified.{SpecifiedKind, formula_at, names_of}
use Rattle.rd_formulas.specs.declared.reading.FormulaRefused.{FormulaRefused}
use Rattle.rd_formulas.specs.declared.reading.FormulaRefused.TheVariants as formula
use Rattle.rd_formulas.specs.declared.scope.Scope.{Scope}
use Rattle.rd_formulas.specs.Meaning.{IsFirst, IsFirstSign, IsFirstUse, NoneOf, Related, Use, node_tokens, relations_in, use_token, uses_in}
use Rattle.rd_formulas.specs.Reading.{IsTroubled}
use Rattle.rd_formulas.specs.Scope.{IsBare, IsUnknownUse, place_in_scope}
use Rattle.rd_grammar.proofs.FirstWrong.{one_place}
use Rattle.rd_grammar.specs.Grammar.{ParsedTree}
use Rattle.rd_lines.specs.Lines.{IsWrongBehind, LineWord, RightLine, SaidForm, words_of}
use Rattle.rd_lines.specs.declared.forms.Version.{Version}
use Rattle.rd_lines.specs.Lines.{kind as kind_said, method as method_said, commute as commute_said, default as default_said, define as define_said}
use Rattle.rd_lines.proofs.LawLemmas.{one_form}
use Rattle.rd_tokens.proofs.CutLemmas.{one_list}
use Rattle.rd_tokens.specs.declared.sorts.Token.{Token}
use Rattle.rd_tokens.specs.Tokens.{AreTokens}
use Rattle.rd_reading.specs.Adding.{AcceptsSpecLine}
use Rattle.rd_reading.specs.Causes.{DefaultHas, EndHas, FormHas, Has, IsFirstMissing, IsFirstRepeated, KindHas, LacksPair, LineHas, MethodHas, RepeatsAt, form_has, line_has, variable_token}
use Rattle.rd_pairs.specs.PairCauses.{AreNumbers, DefinitionHas, FormulaLineHas, HasManyPredicates, IsDefinedAt, IsNumberOf, IsPaired, IsUnknownAt, IsUnknownOwner, PairHas, definition_scope, scope_of}
use Rattle.rd_pairs.specs.Causes.{IsFirstOf, place_at, rank}
use Rattle.rd_reading.specs.Known.{kind_in, nothing, open_method_names, opened_in, stage_of}
use Rattle.rd_open_kind.specs.Opened.{Opened, filled}
use Rattle.rd_reading.specs.Texts.{IsRefusedAtEnd, IsRefusedAtLine, IsSkipped, IsSpecRefused, ReadsLines, no_more, skips, takes}
use Rattle.rd_reading.specs.declared.known.Known.{Known}
use Rattle.rd_reading.specs.declared.parsing.SpecRefused.{SpecRefused}
use Rattle.rd_pairs.specs.declared.spec_causes.SpecCause.{SpecCause}
use Rattle.rd_pairs.specs.declared.spec_causes.SpecCause.TheVariants.{Duplicate, Header, KindTaken, Limit, MissingPair, NoVariable, OutsideFragment, Syntax, UnknownMethod, UnknownVariable}
use Rattle.rd_reading.proofs.LineLemmas.{least_form}
use Rattle.rd_pairs.proofs.MeaningLemmas.{one_formula}
use Rattle.rd_pairs.proofs.NumberLemmas.{AreDifferent, one_pair, one_place as one_number}
use Rattle.rd_reading.proofs.OneLemmas.{AreApart, IsApart, accepted_apart, apart_without, line_fine, lines_one, one_accepted, one_read}

-- of causes of one rank there is one, at one place
abbrev HasOne : (SpecCause → ℕ → Type 0) → Type 0
HasOne H = (c d : SpecCause) (p q : ℕ) → H c p → H d q → rank c ≡ rank d → (c ≡ d) × (p ≡ q)

-- so there is one first cause
first_one : (H : SpecCause → ℕ → Type 0) → HasOne H → (c d : SpecCause) (p q : ℕ) → IsFirstOf H c p → IsFirstOf H d q → (c ≡ d) × (p ≡ q)
first_one H one c d p q x y =
    let low = x.first d q y.has in
    let high = y.first c p x.has in
    one c d p q x.has y.has (omega (arith, low, high))

-- ---- the line of a kind

none_there : {T : Type 0} (o : Option T) → o ≡ None → ¬ (IsSome o)
none_there None same is = absurd (cc)
none_there (Some x) same is = absurd (cc)

missing_first : (kind : SpecifiedKind) (a b c d : ℕ) → IsFirstMissing kind a b → IsFirstMissing kind c d → ¬ ((a < c) ⊎ ((a ≡ c) × (b < d)))
missing_first kind a b c d x y earlier = none_there (formula_at kind a b) x.missing (y.others a b x.ordered x.known earlier)

one_missing : (kind : SpecifiedKind) (a b c d : ℕ) → IsFirstMissing kind a b → IsFirstMissing kind c d → (a ≡ c) × (b ≡ d)
one_missing kind a b c d x y = elim (cases_lt a c) [
  | inl below ↦ absurd (missing_first kind a b c d x y (inl below))
  | inr up ↦ elim (cases_lt c a) [
    | inl above ↦ absurd (missing_first kind c d a b y x (inl above))
    | inr down ↦
        let same : a ≡ c = omega (arith, up, down) in
        elim (cases_lt b d) [
          | inl below ↦ absurd (missing_first kind a b c d x y (inr (same, below)))
          | inr over ↦ elim (cases_lt d b) [
            | inl above ↦ absurd (missing_first kind c d a b y x (inr (sym same, above)))
            | inr under ↦ (same, omega (arith, over, under))
          ]
        ]
  ]
]

one_name : (names : List (List ℕ)) (i j : ℕ) (x y : List ℕ) → i ≡ j → slice_get names i ≡ Some x → slice_get names j ≡ Some y → x ≡ y
one_name names i j x y same here there = same_Some x y (sym here ∙ ap (slice_get names) same ∙ there)

one_lacks : (kind : SpecifiedKind) (a b c d : List ℕ) → LacksPair kind a b → LacksPair kind c d → (a ≡ c) × (b ≡ d)
one_lacks kind a b c d x y =
    let same = one_missing kind x.first_number x.second_number y.first_number y.second_number x.missing y.missing in (
      one_name (names_of kind.methods) x.first_number y.first_number a c same.0 x.first_name y.first_name,
      one_name (names_of kind.methods) x.second_number y.second_number b d same.1 x.second_name y.second_name,
    )

one_kind : (taken : List (List ℕ)) (known : Known) (line : List ℕ) (tokens : List Token) (name : List ℕ) → HasOne (KindHas taken known line tokens name)
one_kind taken known line tokens name Duplicate Duplicate p q h k e = (refl, h.1 ∙ sym k.1)
one_kind taken known line tokens name Duplicate (Limit Kinds n) p q h k e = absurd (omega (arith, e))
one_kind taken known line tokens name Duplicate d p q h k e = absurd (omega (arith, e))
one_kind taken known line tokens name (MissingPair a b) (MissingPair c d) p q h k e =
    let names = one_lacks (filled (opened_in known.block)) a b c d h.0 k.0 in
    let firsts : a ≡ c = names.0 in
    let seconds : b ≡ d = names.1 in
    (cc, h.1 ∙ sym k.1)
one_kind taken known line tokens name (MissingPair a b) (Limit Kinds n) p q h k e = absurd (omega (arith, e))
one_kind taken known line tokens name (MissingPair a b) d p q h k e = absurd (omega (arith, e))
one_kind taken known line tokens name KindTaken KindTaken p q h k e = (refl, h.1 ∙ sym k.1)
one_kind taken known line tokens name KindTaken (Limit Kinds n) p q h k e = absurd (omega (arith, e))
one_kind taken known line tokens name KindTaken d p q h k e = absurd (omega (arith, e))
one_kind taken known line tokens name (Limit Kinds n) (Limit Kinds m) p q h k e =
    let numbers : n ≡ m = h.1 ∙ sym k.1 in (cc, h.2 ∙ sym k.2)
one_kind taken known line tokens name (Limit Kinds n) d p q h k e = absurd (omega (arith, e))
one_kind taken known line tokens name c d p q h k e = absurd h

-- ---- the line of a method

repeats_later : (names : List (List ℕ)) (n m : ℕ) → IsFirstRepeated names n → IsFirstRepeated names m → n < m → ⊥
repeats_later names n m x y below =
    let name = x.name in
    let (k, inside, same) = x.repeats in
    let m_within : m < length names = slice_get_within names m y.name y.stands in
    let n_within : n < length names = slice_get_within names n name x.stands in
    let n_count : length (take n names) ≡ n = length-take-le n names (omega (arith, n_within)) in
    let m_count : length (take m names) ≡ m = length-take-le m names (omega (arith, m_within)) in
    let k_below : k < n = omega (arith, n_count, inside) in
    y.others k n name k_below (omega (arith, m_count, below))
    (get_or-take m names k name (omega (arith, k_below, below)) ∙ sym (get_or-take n names k name k_below) ∙ same
    ∙ sym (get_or_from_slice_get names n name name x.stands) ∙ sym (get_or-take m names n name below))

one_repeated : (names : List (List ℕ)) (n m : ℕ) → IsFirstRepeated names n → IsFirstRepeated names m → n ≡ m
one_repeated names n m x y = elim (cases_lt n m) [
  | inl below ↦ absurd (repeats_later names n m x y below)
  | inr up ↦ elim (cases_lt m n) [
    | inl above ↦ absurd (repeats_later names m n y x above)
    | inr down ↦ omega (arith, up, down)
  ]
]

one_repeat : (methods : List (List ℕ)) (name line : List ℕ) (tokens : List Token) (arguments : List (List ℕ)) (result : List ℕ) (p q : ℕ)
    → RepeatsAt methods name line tokens arguments result p → RepeatsAt methods name line tokens arguments result q → p ≡ q
one_repeat methods name line tokens arguments result p q (inl (is, at)) (inl (also, there)) = at ∙ sym there
one_repeat methods name line tokens arguments result p q (inl (is, at)) (inr (m, fresh, repeated, there)) = absurd (fresh is)
one_repeat methods name line tokens arguments result p q (inr (n, fresh, repeated, at)) (inl (is, there)) = absurd (fresh is)
one_repeat methods name line tokens arguments result p q (inr (n, fresh, repeated, at)) (inr (m, new, also, there)) =
    at ∙ ap (λ (i : ℕ). place_at line tokens (variable_token (length arguments) i)) (one_repeated (arguments ++ result ∷ []) n m repeated also) ∙ sym there

one_method : (kind : SpecifiedKind) (line : List ℕ) (tokens : List Token) (name : List ℕ) (arguments : List (List ℕ)) (result : List ℕ)
    → HasOne (MethodHas kind line tokens name arguments result)
one_method kind line tokens name arguments result Duplicate Duplicate p q h k e =
    (refl, one_repeat (names_of kind.methods) name line tokens arguments result p q h k)
one_method kind line tokens name arguments result Duplicate (Limit MethodLimit n) p q h k e = absurd (omega (arith, e))
one_method kind line tokens name arguments result Duplicate d p q h k e = absurd (omega (arith, e))
one_method kind line tokens name arguments result (Limit MethodLimit n) (Limit MethodLimit m) p q h k e =
    let numbers : n ≡ m = h.1 ∙ sym k.1 in (cc, h.2 ∙ sym k.2)
one_method kind line tokens name arguments result (Limit MethodLimit n) d p q h k e = absurd (omega (arith, e))
one_method kind line tokens name arguments result (Limit Arguments n) (Limit Arguments m) p q h k e =
    let numbers : n ≡ m = h.1 ∙ sym k.1 in (cc, h.2 ∙ sym k.2)
one_method kind line tokens name arguments result (Limit Arguments n) d p q h k e = absurd (omega (arith, e))
one_method kind line tokens name arguments result c d p q h k e = absurd h

-- ---- the line of a pair

one_unknown : (methods : List (List ℕ)) (first second line : List ℕ) (tokens : List Token) (p q : ℕ) → IsUnknownAt methods first second line tokens p
    → IsUnknownAt methods first second line tokens q → p ≡ q
one_unknown methods first second line tokens p q (inl (lacks, at)) (inl (also, there)) = at ∙ sym there
one_unknown methods first second line tokens p q (inl (lacks, at)) (inr (is, also, there)) = absurd (lacks is)
one_unknown methods first second line tokens p q (inr (is, lacks, at)) (inl (also, there)) = absurd (also is)
one_unknown methods first second line tokens p q (inr (is, lacks, at)) (inr (too, also, there)) = at ∙ sym there

-- the first with a property is one
one_first : {T : Type 0} (P : T → Type 0) (front others back more : List T) (x y : T) → front ++ x ∷ back ≡ others ++ y ∷ more → NoneOf P front → NoneOf P others
    → P x → P y → x ≡ y
one_first P [] [] back more x y same none also has is = cc
one_first P [] (z ∷ others) back more x y same none also has is = let heads : x ≡ z = cc in absurd (also.0 (subst P heads has))
one_first P (z ∷ front) [] back more x y same none also has is = let heads : z ≡ y = cc in absurd (none.0 (subst P (sym heads) is))
one_first P (z ∷ front) (w ∷ others) back more x y same none also has is =
    let tails : front ++ x ∷ back ≡ others ++ y ∷ more = cc in
    one_first P front others back more x y tails none.1 also.1 has is

first_is_one : {T : Type 0} (P : T → Type 0) (xs : List T) (x y : T) → IsFirst P xs (Some x) → IsFirst P xs (Some y) → x ≡ y
first_is_one P xs x y (front, back, is, none, has) (others, more, also, free, holds) =
    one_first P front others back more x y (sym is ∙ also) none free has holds

sign_is_one : (P : Related → Type 0) (xs : List Related) (m n : ℕ) → IsFirstSign P xs (Some m) → IsFirstSign P xs (Some n) → m ≡ n
sign_is_one P xs m n (Some x, first, is) (Some y, also, same) =
    let one : x ≡ y = first_is_one P xs x y first also in
    same_Some m n (is ∙ ap (λ (r : Related). Some r.sign) one ∙ sym same)
sign_is_one P xs m n (None, first, is) other = absurd (cc)
sign_is_one P xs m n (Some x, first, is) (None, also, same) = absurd (cc)

use_is_one : (P : Use → Type 0) (xs : List Use) (m n : ℕ) → IsFirstUse P xs (Some m) → IsFirstUse P xs (Some n) → m ≡ n
use_is_one P xs m n (Some x, first, is) (Some y, also, same) =
    let one : x ≡ y = first_is_one P xs x y first also in
    same_Some m n (is ∙ ap (λ (u : Use). Some (use_token u)) one ∙ sym same)
use_is_one P xs m n (None, first, is) other = absurd (cc)
use_is_one P xs m n (Some x, first, is) (None, also, same) = absurd (cc)

-- a formula that was read is troubled at one place by each cause
module _ (scope : Scope) (read : ParsedTree) where
  one_variable : (p q : ℕ) → IsTroubled scope read (formula.UnknownVariable p) → IsTroubled scope read (formula.UnknownVariable q) → p ≡ q
  one_variable p q (number, first, at) (other, also, there) =
      at ∙ ap (place_in_scope scope) (use_is_one (IsUnknownUse scope) (uses_in read) number other first also) ∙ sym there

  one_bare : (p q : ℕ) → IsTroubled scope read (formula.NoVariable p) → IsTroubled scope read (formula.NoVariable q) → p ≡ q
  one_bare p q (number, none, first, at) (other, free, also, there) =
      at ∙ ap (place_in_scope scope) (sign_is_one (IsBare scope) (relations_in read) number other first also) ∙ sym there

  one_token : (f g : Tree) (i j x y p q : ℕ) → f ≡ g → i ≡ j → slice_get (node_tokens read f) i ≡ Some x → slice_get (node_tokens read g) j ≡ Some y
      → p ≡ place_in_scope scope x → q ≡ place_in_scope scope y → p ≡ q
  one_token f g i j x y p q formulas nodes here there at also =
      at
      ∙ ap (place_in_scope scope) (same_Some x y (sym here ∙ ap (λ (h : Tree). slice_get (node_tokens read h) i) formulas
      ∙ ap (slice_get (node_tokens read g)) nodes ∙ there))
      ∙ sym also

  one_outside : (first : AreDifferent scope.first.now) (second : AreDifferent scope.second.now) (r s : Reason) (p q : ℕ)
      → IsTroubled scope read (formula.OutsideFragment p r) → IsTroubled scope read (formula.OutsideFragment q s) → (r ≡ s) × (p ≡ q)
  one_outside first second r s p q (f, i, x, gives, found, here, at) (g, j, y, given, also, there, is) =
      let formulas : f ≡ g = one_formula scope first second read f g gives given in
      let outside : Some (record { node = i; reason = r }) ≡ Some (record { node = j; reason = s }) =
      sym found ∙ ap (λ (h : Tree). first_offence 0 (post_order h)) formulas ∙ also in
      let same : ◌≡◌ {A = Outside} (record { node = i; reason = r }) (record { node = j; reason = s }) = same_Some _ _ outside in
      let nodes : i ≡ j = ap (λ (o : Outside). o.node) same in
      (ap (λ (o : Outside). o.reason) same, one_token f g i j x y p q formulas nodes here there at is)

-- a line with a formula has one cause of each rank
module _ (Unknown : ℕ → Type 0) (Methods : ℕ → ℕ → Type 0) (scope : ℕ → ℕ → Scope) (Taken : ℕ → ℕ → ℕ → Type 0) (Many : ℕ → ℕ → Tree → Type 0) (line : List ℕ)
    (tokens : List Token) (read : ParsedTree) (one_unknown : (p q : ℕ) → Unknown p → Unknown q → p ≡ q)
    (one_methods : (m n i j : ℕ) → Methods m n → Methods i j → (i ≡ m) × (j ≡ n))
    (apart : (m n : ℕ) → Methods m n → AreDifferent (scope m n).first.now × AreDifferent (scope m n).second.now)
    (one_taken : (m n i j p q : ℕ) → Taken m n p → Taken i j q → p ≡ q) where
  -- what troubles the formula, with the numbers of the two methods
  troubled_at : (m n i j : ℕ) (refused : FormulaRefused) → Methods m n → Methods i j → IsTroubled (scope i j) read refused → IsTroubled (scope m n) read refused
  troubled_at m n i j refused are also troubled =
      let same = one_methods m n i j are also in
      subst (λ (y : ℕ). IsTroubled (scope m y) read refused) same.1 (subst (λ (x : ℕ). IsTroubled (scope x j) read refused) same.0 troubled)

  one_formula_cause : HasOne (FormulaLineHas Unknown Methods scope Taken Many line tokens read)
  one_formula_cause UnknownMethod UnknownMethod p q h k e = (refl, one_unknown p q h k)
  one_formula_cause UnknownMethod (Limit Nodes n) p q h k e = absurd (omega (arith, e))
  one_formula_cause UnknownMethod d p q h k e = absurd (omega (arith, e))
  one_formula_cause UnknownVariable UnknownVariable p q (m, n, are, troubled) (i, j, also, other) e =
      (refl, one_variable (scope m n) read p q troubled (troubled_at m n i j (formula.UnknownVariable q) are also other))
  one_formula_cause UnknownVariable (Limit Nodes n) p q h k e = absurd (omega (arith, e))
  one_formula_cause UnknownVariable d p q h k e = absurd (omega (arith, e))
  one_formula_cause NoVariable NoVariable p q (m, n, are, troubled) (i, j, also, other) e =
      (refl, one_bare (scope m n) read p q troubled (troubled_at m n i j (formula.NoVariable q) are also other))
  one_formula_cause NoVariable (Limit Nodes n) p q h k e = absurd (omega (arith, e))
  one_formula_cause NoVariable d p q h k e = absurd (omega (arith, e))
  one_formula_cause (OutsideFragment r) (OutsideFragment s) p q (m, n, are, troubled) (i, j, also, other) e =
      let (reasons, places) = one_outside (scope m n) read (apart m n are).0 (apart m n are).1 r s p q troubled
      (troubled_at m n i j (formula.OutsideFragment q s) are also other) in
      (ap OutsideFragment reasons, places)
  one_formula_cause (OutsideFragment r) (Limit Nodes n) p q h k e = absurd (omega (arith, e))
  one_formula_cause (OutsideFragment r) d p q h k e = absurd (omega (arith, e))
  one_formula_cause Duplicate Duplicate p q (m, n, are, taken) (i, j, also, other) e = (refl, one_taken m n i j p q taken other)
  one_formula_cause Duplicate (Limit Nodes n) p q h k e = absurd (omega (arith, e))
  one_formula_cause Duplicate d p q h k e = absurd (omega (arith, e))
  one_formula_cause (Limit Nodes n) (Limit Nodes m) p q h k e = let numbers : n ≡ m = h.1 ∙ sym k.1 in (cc, h.0.6 ∙ sym k.0.6)
  one_formula_cause (Limit Nodes n) d p q h k e = absurd (omega (arith, e))
  one_formula_cause (Limit FormulaDepth n) (Limit FormulaDepth m) p q h k e = let numbers : n ≡ m = h.1 ∙ sym k.1 in (cc, h.0.6 ∙ sym k.0.6)
  one_formula_cause (Limit FormulaDepth n) d p q h k e = absurd (omega (arith, e))
  one_formula_cause (Limit Predicates n) (Limit Predicates m) p q h k e = let numbers : n ≡ m = h.1 ∙ sym k.1 in (cc, h.0.6 ∙ sym k.0.6)
  one_formula_cause (Limit Predicates n) (Limit Nodes m) p q h k e = absurd (omega (arith, e))
  one_formula_cause (Limit Predicates n) (Limit FormulaDepth m) p q h k e = absurd (omega (arith, e))
  one_formula_cause (Limit Predicates n) (Limit name m) p q h k e = absurd k
  one_formula_cause (Limit Predicates n) d p q h k e = absurd (omega (arith, e))
  one_formula_cause c d p q h k e = absurd h

one_pair_cause : (version : Version) (opened : Opened) (line : List ℕ) (tokens : List Token) (first second : List ℕ) (read : ParsedTree) → AreApart opened.kind
    → HasOne (PairHas version opened line tokens first second read)
one_pair_cause version opened line tokens first second read apart =
    one_formula_cause (IsUnknownAt (names_of opened.kind.methods) first second line tokens) (AreNumbers opened.kind first second) (scope_of version opened line tokens)
    (IsPaired opened.kind line tokens) (HasManyPredicates opened.kind) line tokens read (one_unknown (names_of opened.kind.methods) first second line tokens)
    (λ m n i j are also. one_pair opened.kind first second m n i j apart.names are also) (λ m n are. (apart.variables m, apart.variables n))
    (λ m n i j p q taken other. taken.1 ∙ sym other.1)

one_definition_cause : (opened : Opened) (line : List ℕ) (tokens : List Token) (owner name : List ℕ) (read : ParsedTree) → AreApart opened.kind
    → HasOne (DefinitionHas opened line tokens owner name read)
one_definition_cause opened line tokens owner name read apart =
    one_formula_cause (IsUnknownOwner opened.kind owner line tokens) (IsNumberOf opened.kind owner) (λ m n. definition_scope opened.kind line tokens m)
    (IsDefinedAt opened line tokens name) (λ m n f. ⊥) line tokens read (λ p q unknown other. unknown.1 ∙ sym other.1)
    (λ m n i j are also.
    let numbers : i ≡ m = one_number (names_of opened.kind.methods) owner i m apart.names also.0 are.0 in
    (numbers, also.1 ∙ numbers ∙ sym are.1))
    (λ m n are. (apart.variables m, apart.variables m)) (λ m n i j p q taken other. taken.1 ∙ sym other.1)

-- a default
one_default : (known : Known) (line : List ℕ) (tokens : List Token) → HasOne (DefaultHas known line tokens)
one_default known line tokens Duplicate Duplicate p q h k e = (refl, h.1 ∙ sym k.1)
one_default known line tokens Duplicate d p q h k e = absurd k
one_default known line tokens c d p q h k e = absurd h

-- ---- any line

-- the first wrong word is one
one_count : {R : Type 0} (Stands : List LineWord → R → Type 0) (words : List LineWord) (m n : ℕ) → IsWrongBehind Stands words m → IsWrongBehind Stands words n → m ≡ n
one_count Stands words m n wrong also =
    let fronts : take m words ≡ take n words =
    one_place Stands (take m words) (drop m words) (take n words) (drop n words) (take-append-drop m words ∙ sym (take-append-drop n words)) wrong.1 also.1 in
    let counts : length (take m words) ≡ length (take n words) = ap length fronts in
    let m_count : length (take m words) ≡ m = length-take-le m words wrong.0 in
    let n_count : length (take n words) ≡ n = length-take-le n words also.0 in
    omega (arith, counts, m_count, n_count)

one_line : (known : Known) (line : List ℕ) (tokens : List Token) → HasOne (LineHas known line tokens)
one_line known line tokens Header Header p q h k e = (refl, h.2 ∙ sym k.2)
one_line known line tokens Header (Limit Tokens n) p q h k e = absurd (omega (arith, e))
one_line known line tokens Header d p q h k e = absurd (omega (arith, e))
one_line known line tokens (Limit Tokens n) (Limit Tokens m) p q h k e = let numbers : n ≡ m = h.3 ∙ sym k.3 in (cc, h.4 ∙ sym k.4)
one_line known line tokens (Limit Tokens n) d p q h k e = absurd (omega (arith, e))
one_line known line tokens Syntax Syntax p q (v, m, begun, wrong, at) (w, n, also, other, there) e =
    let versions : w ≡ v = same_Some w v (sym also ∙ begun) in
    let here = subst (λ (x : Version). IsWrongBehind (RightLine x (stage_of known) (open_method_names known)) (words_of line tokens) n) versions other in
    let counts : m ≡ n = one_count (RightLine v (stage_of known) (open_method_names known)) (words_of line tokens) m n wrong here in
    (refl, at ∙ ap (place_at line tokens) counts ∙ sym there)
one_line known line tokens Syntax (Limit Tokens n) p q h k e = absurd (omega (arith, e))
one_line known line tokens Syntax d p q h k e = absurd (omega (arith, e))
one_line known line tokens c d p q h k e = absurd h

line_rank : (known : Known) (line : List ℕ) (tokens : List Token) (c : SpecCause) (p : ℕ) → LineHas known line tokens c p → rank c ≤ 2
line_rank known line tokens Header p h = omega arith
line_rank known line tokens (Limit Tokens n) p h = omega arith
line_rank known line tokens Syntax p h = omega arith
line_rank known line tokens c p h = absurd h

one_in_form : (taken : List (List ℕ)) (version : Version) (known : Known) (line : List ℕ) (tokens : List Token) (form : SaidForm) → IsApart known
    → HasOne (FormHas taken version known line tokens form)
one_in_form taken version known line tokens (kind_said name) apart = one_kind taken known line tokens name
one_in_form taken version known line tokens (method_said name arguments result) apart = one_method (kind_in known.block) line tokens name arguments result
one_in_form taken version known line tokens (commute_said first second read) apart = one_pair_cause version (opened_in known.block) line tokens first second read apart
one_in_form taken version known line tokens (define_said owner name read) apart = one_definition_cause (opened_in known.block) line tokens owner name read apart
one_in_form taken version known line tokens (default_said value) apart = one_default known line tokens

module _ (taken : List (List ℕ)) (known : Known) (line : List ℕ) (tokens : List Token) (apart : IsApart known) where
  apart_ranks : (version : Version) (form : SaidForm) (c d : SpecCause) (p q : ℕ) → LineHas known line tokens c p → FormHas taken version known line tokens form d q
      → rank c ≡ rank d → ⊥
  apart_ranks version form c d p q h k e =
      let low = line_rank known line tokens c p h in
      let high = least_form taken version known line tokens form d q k in
      omega (arith, e, low, high)

  one_cause : HasOne (Has taken known line tokens)
  one_cause c d p q (line_has h) (line_has k) e = one_line known line tokens c d p q h k e
  one_cause c d p q (line_has h) (form_has v begun form right k) e = absurd (apart_ranks v form c d p q h k e)
  one_cause c d p q (form_has v begun form right h) (line_has k) e = absurd (apart_ranks v form d c q p k h (sym e))
  one_cause c d p q (form_has v begun form right h) (form_has w also other fit k) e =
      let versions : w ≡ v = same_Some w v (sym also ∙ begun) in
      let fits : RightLine v (stage_of known) (open_method_names known) (words_of line tokens) other =
      subst (λ (x : Version). RightLine x (stage_of known) (open_method_names known) (words_of line tokens) other) versions fit in
      let here : FormHas taken v known line tokens other d q = subst (λ (x : Version). FormHas taken x known line tokens other d q) versions k in
      one_in_form taken v known line tokens form apart c d p q h
      (subst (λ (f : SaidForm). FormHas taken v known line tokens f d q)
      (one_form v (stage_of known) (open_method_names known) (words_of line tokens) other form fits right) here) e

-- ---- the end

one_end : (known : Known) → HasOne (EndHas known)
one_end known Header Header p q h k e = (refl, h.1 ∙ sym k.1)
one_end known Header (MissingPair a b) p q h k e = absurd (omega (arith, e))
one_end known Header d p q h k e = absurd k
one_end known (MissingPair a b) (MissingPair c d) p q h k e =
    let names = one_lacks (filled (opened_in known.block)) a b c d h.0 k.0 in
    let firsts : a ≡ c = names.0 in
    let seconds : b ≡ d = names.1 in
    (cc, h.1 ∙ sym k.1)
one_end known (MissingPair a b) Header p q h k e = absurd (omega (arith, e))
one_end known (MissingPair a b) d p q h k e = absurd k
one_end known c d p q h k e = absurd h

-- ---- lines, one behind another

-- a line that is refused isn't accepted
refused_accepted : (taken : List (List ℕ)) (known next : Known) (line : List ℕ) (tokens : List Token) (c : SpecCause) (p : ℕ) → AreTokens line tokens
    → IsFirstOf (Has taken known line tokens) c p → ¬ (AcceptsSpecLine taken known line next)
refused_accepted taken known next line tokens c p cut first accepts =
    accepts.clean c p (subst (λ (ts : List Token). Has taken known line ts c p) (one_list line tokens accepts.tokens cut accepts.cut) first.has)

-- behind these lines, each of which was read, this one is refused
record StopsAt (taken : List (List ℕ)) (known : Known) (before : List (List ℕ)) (line : List ℕ) (c : SpecCause) (p : ℕ) : Type 0 where
  last : Known
  reads : ReadsLines taken known before last
  kept : ¬ (IsSkipped line)
  tokens : List Token
  cut : AreTokens line tokens
  first : IsFirstOf (Has taken last line tokens) c p

none_read : {taken : List (List ℕ)} {known last : Known} → ReadsLines taken known [] last → last ≡ known
none_read no_more = refl

module _ (taken : List (List ℕ)) where
  -- it is no line that was read
  no_earlier : (known last : Known) (line : List ℕ) (lines : List (List ℕ)) (c : SpecCause) (p : ℕ) → StopsAt taken known [] line c p
      → ¬ (ReadsLines taken known (line ∷ lines) last)
  no_earlier known last line lines c p stops (skips skipped more) = stops.kept skipped
  no_earlier known last line lines c p stops (takes {mid = next} kept accepts more) =
      refused_accepted taken known next line stops.tokens c p stops.cut
      (subst (λ (k : Known). IsFirstOf (Has taken k line stops.tokens) c p) (none_read stops.reads) stops.first) accepts

  -- one line is refused for one thing
  one_here : (known : Known) (line other : List ℕ) (c d : SpecCause) (p q : ℕ) → IsApart known → line ≡ other → StopsAt taken known [] line c p
      → StopsAt taken known [] other d q → (c ≡ d) × (p ≡ q)
  one_here known line other c d p q apart same x y =
      let cut : AreTokens line y.tokens = subst (λ (l : List ℕ). AreTokens l y.tokens) (sym same) y.cut in
      let tokens : y.tokens ≡ x.tokens = one_list line y.tokens x.tokens cut x.cut in
      let behind : IsFirstOf (Has taken known other y.tokens) d q = subst (λ (k : Known). IsFirstOf (Has taken k other y.tokens) d q) (none_read y.reads) y.first in
      let here : IsFirstOf (Has taken known line y.tokens) d q = subst (λ (l : List ℕ). IsFirstOf (Has taken known l y.tokens) d q) (sym same) behind in
      first_one (Has taken known line x.tokens) (one_cause taken known line x.tokens apart) c d p q
      (subst (λ (k : Known). IsFirstOf (Has taken k line x.tokens) c p) (none_read x.reads) x.first)
      (subst (λ (ts : List Token). IsFirstOf (Has taken known line ts) d q) tokens here)

  -- the same line is read by both
  one_step : (known last final : Known) (before others : List (List ℕ)) (read line other : List ℕ) (c d : SpecCause) (p q : ℕ) → IsApart known
      → ((mid : Known) → IsApart mid → StopsAt taken mid before line c p → StopsAt taken mid others other d q → (length before ≡ length others) × (c ≡ d) × (p ≡ q))
      → (x : StopsAt taken known (read ∷ before) line c p) → (y : StopsAt taken known (read ∷ others) other d q)
      → ReadsLines taken known (read ∷ before) last → x.last ≡ last → ReadsLines taken known (read ∷ others) final → y.last ≡ final
      → (length before ≡ length others) × (c ≡ d) × (p ≡ q)
  one_step known last final before others read line other c d p q apart on x y (skips skipped more) xl (skips also rest) yl =
      on known apart
      (record { last = last; reads = more; kept = x.kept; tokens = x.tokens; cut = x.cut; first = subst (λ (k : Known). IsFirstOf (Has taken k line x.tokens) c p) xl x.first })
      (record { last = final; reads = rest; kept = y.kept; tokens = y.tokens; cut = y.cut; first = subst (λ (k : Known). IsFirstOf (Has taken k other y.tokens) d q) yl y.first })
  one_step known last final before others read line other c d p q apart on x y (skips skipped more) xl (takes kept accepts rest) yl = absurd (kept skipped)
  one_step known last final before others read line other c d p q apart on x y (takes kept accepts more) xl (skips skipped rest) yl = absurd (kept skipped)
  one_step known last final before others read line other c d p q apart on x y (takes {mid = mid} kept accepts more) xl (takes {mid = next} also accepted rest) yl =
      let same : next ≡ mid = one_accepted taken known next mid read apart accepted accepts in
      on mid (accepted_apart taken known mid read apart accepts)
      (record { last = last; reads = more; kept = x.kept; tokens = x.tokens; cut = x.cut; first = subst (λ (k : Known). IsFirstOf (Has taken k line x.tokens) c p) xl x.first })
      (record { last = final; reads = subst (λ (k : Known). ReadsLines taken k others final) same rest; kept = y.kept; tokens = y.tokens; cut = y.cut; first = subst (λ (k : Known). IsFirstOf (Has taken k other y.tokens) d q) yl y.first })

  -- of the same lines one is refused, for one thing
  one_stop : (known : Known) (before others behind more : List (List ℕ)) (line other : List ℕ) (c d : SpecCause) (p q : ℕ) → IsApart known
      → before ++ line ∷ behind ≡ others ++ other ∷ more → StopsAt taken known before line c p → StopsAt taken known others other d q
      → (length before ≡ length others) × (c ≡ d) × (p ≡ q)
  one_stop known [] [] behind more line other c d p q apart same x y =
      let lines : line ≡ other = cc in
      let one = one_here known line other c d p q apart lines x y in
      (refl, one.0, one.1)
  one_stop known [] (read ∷ others) behind more line other c d p q apart same x y =
      let lines : read ≡ line = cc in
      absurd (no_earlier known y.last line others c p x (subst (λ (l : List ℕ). ReadsLines taken known (l ∷ others) y.last) lines y.reads))
  one_stop known (read ∷ before) [] behind more line other c d p q apart same x y =
      let lines : read ≡ other = cc in
      absurd (no_earlier known x.last other before d q y (subst (λ (l : List ℕ). ReadsLines taken known (l ∷ before) x.last) lines x.reads))
  one_stop known (read ∷ before) (again ∷ others) behind more line other c d p q apart same x y =
      let heads : again ≡ read = cc in
      let tails : before ++ line ∷ behind ≡ others ++ other ∷ more = cc in
      let z : StopsAt taken known (read ∷ others) other d q = subst (λ (l : List ℕ). StopsAt taken known (l ∷ others) other d q) heads y in
      let one = one_step known x.last z.last before others read line other c d p q apart
      (λ mid apart_there left right. one_stop mid before others behind more line other c d p q apart_there tails left right) x z x.reads refl z.reads refl in
      (ap suc one.0, one.1, one.2)

-- ---- a text

abbrev refusal : ℕ → SpecCause → ℕ → SpecRefused
refusal place cause line = record { line = line; place = place; cause = cause }

same_refusal : (x y : SpecRefused) → x.line ≡ y.line → x.place ≡ y.place → x.cause ≡ y.cause → x ≡ y
same_refusal x y lines places causes =
    let first : x ≡ record { line = y.line; place = x.place; cause = x.cause } = ap (refusal x.place x.cause) lines in
    let second : refusal x.place x.cause y.line ≡ refusal y.place x.cause y.line = ap (λ (p : ℕ). refusal p x.cause y.line) places in
    let third : refusal y.place x.cause y.line ≡ y = ap (λ (c : SpecCause). refusal y.place c y.line) causes in
    first ∙ second ∙ third

stops_at : (taken lines : List (List ℕ)) (refused : SpecRefused) → (wrong : IsRefusedAtLine taken lines refused)
    → StopsAt taken nothing wrong.before wrong.line refused.cause refused.place
stops_at taken lines refused wrong =
    record { last = wrong.known; reads = wrong.reads; kept = wrong.kept; tokens = wrong.tokens; cut = wrong.cut; first = wrong.first }

module _ (taken lines : List (List ℕ)) (x y : SpecRefused) where
  both_lines : IsRefusedAtLine taken lines x → IsRefusedAtLine taken lines y → x ≡ y
  both_lines wrong also =
      let one = one_stop taken nothing wrong.before also.before wrong.behind also.behind wrong.line also.line x.cause y.cause x.place y.place (apart_without [])
      (sym wrong.parts ∙ also.parts) (stops_at taken lines x wrong) (stops_at taken lines y also) in
      let counts = one.0 in
      let first_number = wrong.number in
      let second_number = also.number in
      same_refusal x y (omega (arith, counts, first_number, second_number)) one.2 one.1

  both_ends : IsRefusedAtEnd taken lines x → IsRefusedAtEnd taken lines y → x ≡ y
  both_ends wrong also =
      let same : also.known ≡ wrong.known = one_read taken nothing also.known wrong.known lines (apart_without []) also.reads wrong.reads in
      let one = first_one (EndHas wrong.known) (one_end wrong.known) x.cause y.cause x.place y.place wrong.first
      (subst (λ (k : Known). IsFirstOf (EndHas k) y.cause y.place) same also.first) in
      same_refusal x y (wrong.number ∙ sym also.number) one.1 one.0

  both_at : IsRefusedAtLine taken lines x ⊎ IsRefusedAtEnd taken lines x → IsRefusedAtLine taken lines y ⊎ IsRefusedAtEnd taken lines y → x ≡ y
  both_at (inl wrong) (inl also) = both_lines wrong also
  both_at (inl wrong) (inr end) = absurd (line_fine taken lines end.known x end.reads wrong)
  both_at (inr end) (inl also) = absurd (line_fine taken lines end.known y end.reads also)
  both_at (inr end) (inr also) = both_ends end also

pub one_refusal : (text : List ℕ) (taken : List (List ℕ)) (x y : SpecRefused) → IsSpecRefused text taken x → IsSpecRefused text taken y → x ≡ y
one_refusal text taken x y (inl long) (inl also) = same_refusal x y (long.number ∙ sym also.number) (long.place ∙ sym also.place) (long.cause ∙ sym also.cause)
one_refusal text taken x y (inl long) (inr wrong) = let over = long.long in let short = wrong.short in absurd (omega (arith, over, short))
one_refusal text taken x y (inr wrong) (inl long) = let over = long.long in let short = wrong.short in absurd (omega (arith, over, short))
one_refusal text taken x y (inr wrong) (inr also) =
    let lines : also.lines ≡ wrong.lines = lines_one text text also.lines wrong.lines refl also.cut wrong.cut in
    both_at taken wrong.lines x y wrong.first
    (subst (λ (l : List (List ℕ)). IsRefusedAtLine taken l y ⊎ IsRefusedAtEnd taken l y) lines also.first)
