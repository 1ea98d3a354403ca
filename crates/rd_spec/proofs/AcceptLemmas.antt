-- What makes a right line accepted.
use Rattle.std.proofs.Common.{◌≡◌, ◌≢◌, ℕ, ◌<◌, ◌≤◌, true, false, List, [], ◌∷◌, ◌++◌, length, take, drop, codes, Some, refl, sym, ap, subst, arith, inl, inr, ◌∙◌}
use Rattle.std.specs.Prelude.{Contains, is_some}
use Rattle.std.proofs.lemmas.List.{take-append-drop}
use Rattle.std.proofs.lemmas.Option.{none-some, same_Some}
use Rattle.rd_base.specs.declared.limits.LimitName.{LimitName}
use Rattle.rd_base.specs.declared.limits.LimitName.TheVariants.{Bytes, Line, Events, Threads, Locks, Objects, Depth, SpecText, Tokens, Kinds, Methods as MethodLimit, Arguments, Nodes, FormulaDepth, Predicates}
use Rattle.rd_reading.specs.Adding.{AcceptsSpecLine, FormAdds, adds_form, adds_header, with_header}
use Rattle.rd_reading.specs.Causes.{DefaultHas, FormHas, Has, HasManyTokens, IsFirstRepeated, KindHas, LacksPair, LineHas, MethodHas, form_has, header_words, line_has}
use Rattle.rd_pairs.specs.Causes.{HasNone}
use Rattle.rd_reading.specs.Known.{opened_in, specified_kind_names, kinds_so_far, open_method_names, nothing, stage_of}
use Rattle.rd_open_kind.specs.Opened.{filled}
use Rattle.rd_pairs.specs.declared.spec_causes.SpecCause.{SpecCause}
use Rattle.rd_pairs.specs.declared.spec_causes.SpecCause.TheVariants.{Header, Syntax, UnknownMethod, UnknownVariable, NoVariable, OutsideFragment, Duplicate, MissingPair, KindTaken, Limit}
use Rattle.rd_reading.specs.declared.known.Known.{Known}
use Rattle.rd_ecl.specs.Specified.{IsWhole, SpecifiedKind, formula_at, names_of}
use Rattle.rd_lines.specs.Lines.{CountsTokens, RightLine, SaidForm, LineWord, plain, words_of}
use Rattle.rd_lines.proofs.LawLemmas.{one_form, right_line, same_bytes}
use Rattle.rd_lines.specs.declared.forms.Stage.TheVariants.{Defaulted}
use Rattle.rd_lines.specs.declared.forms.Version.{Version}
use Rattle.rd_lines.specs.declared.forms.Version.TheVariants.{One, Two}
use Rattle.rd_tokens.specs.declared.sorts.Token.{Token}
use Rattle.rd_tokens.specs.Tokens.{AreTokens}
use Rattle.rd_base.specs.declared.limits.TheConstants.{MOST_ARGUMENTS, MOST_KINDS, MOST_METHODS}

module _ (taken : List (List ℕ)) (known : Known) (line : List ℕ) (tokens : List Token) (version : Version) (begun : known.version ≡ Some version) where
  -- a line that is right and not too long has nothing that any line may have
  module _ (form : SaidForm) (short : ¬ (HasManyTokens version (words_of line tokens)))
      (right : RightLine version (stage_of known) (open_method_names known) (words_of line tokens) form) where
    -- no other version was told
    one_version : (other : Version) → known.version ≡ Some other → other ≡ version
    one_version other also = same_Some other version (sym also ∙ begun)

    no_limit : (name : LimitName) (number place : ℕ) → ¬ (LineHas known line tokens (Limit name number) place)
    no_limit Bytes number place has = has
    no_limit Line number place has = has
    no_limit Events number place has = has
    no_limit Threads number place has = has
    no_limit Locks number place has = has
    no_limit Objects number place has = has
    no_limit Depth number place has = has
    no_limit SpecText number place has = has
    no_limit Tokens number place (other, also, many, is, at) =
        short (subst (λ (v : Version). HasManyTokens v (words_of line tokens)) (one_version other also) many)
    no_limit Kinds number place has = has
    no_limit MethodLimit number place has = has
    no_limit Arguments number place has = has
    no_limit Nodes number place has = has
    no_limit FormulaDepth number place has = has
    no_limit Predicates number place has = has

    line_clean : (cause : SpecCause) (place : ℕ) → ¬ (LineHas known line tokens cause place)
    line_clean Header place (late, words, at) = none-some version (sym late ∙ begun)
    line_clean Syntax place (other, count, also, (within, wrong), at) =
        let words : List LineWord = words_of line tokens in
        let fits : RightLine other (stage_of known) (open_method_names known) words form =
        subst (λ (v : Version). RightLine v (stage_of known) (open_method_names known) words form) (sym (one_version other also)) right in
        right_line other (stage_of known) (open_method_names known) (take count words) (drop count words) form
        (subst (λ (ws : List LineWord). RightLine other (stage_of known) (open_method_names known) ws form) (sym (take-append-drop count words)) fits) wrong
    line_clean UnknownMethod place has = has
    line_clean UnknownVariable place has = has
    line_clean NoVariable place has = has
    line_clean (OutsideFragment reason) place has = has
    line_clean Duplicate place has = has
    line_clean (MissingPair first second) place has = has
    line_clean KindTaken place has = has
    line_clean (Limit name number) place has = no_limit name number place has

    pub clean_line : HasNone (FormHas taken version known line tokens form) → HasNone (Has taken known line tokens)
    clean_line clean cause place (line_has has) = line_clean cause place has
    clean_line clean cause place (form_has told also other fit has) =
        let same = one_version told also in
        let fits : RightLine version (stage_of known) (open_method_names known) (words_of line tokens) other =
        subst (λ (v : Version). RightLine v (stage_of known) (open_method_names known) (words_of line tokens) other) same fit in
        let forms : other ≡ form = one_form version (stage_of known) (open_method_names known) (words_of line tokens) other form fits right in
        clean cause place (subst (λ (f : SaidForm). FormHas taken version known line tokens f cause place) forms
        (subst (λ (v : Version). FormHas taken v known line tokens other cause place) same has))

    pub accepted : (next : Known) → AreTokens line tokens → HasNone (FormHas taken version known line tokens form) → FormAdds version known line tokens form next
        → AcceptsSpecLine taken known line next
    accepted next cut clean adds = record { tokens = tokens; cut = cut; clean = clean_line clean; adds = adds_form version begun form right adds }

-- ---- the words of a line

-- lines that begin alike begin with one word
pub same_first : (a b : List ℕ) (rest more : List LineWord) → plain a ∷ rest ≡ plain b ∷ more → a ≡ b
same_first a b rest more e = let words : plain a ≡ plain b = cc in same_bytes a b words

no_counted : (version : Version) (bytes : List ℕ) → bytes ≢ codes "commute" → bytes ≢ codes "define" → ¬ (CountsTokens version (plain bytes))
no_counted One bytes pair definition is = pair (same_bytes bytes (codes "commute") is)
no_counted Two bytes pair definition (inl is) = pair (same_bytes bytes (codes "commute") is)
no_counted Two bytes pair definition (inr is) = definition (same_bytes bytes (codes "define") is)

-- a line that begins otherwise is none of a pair or a definition
pub other_first : (version : Version) (bytes : List ℕ) (rest : List LineWord) → bytes ≢ codes "commute" → bytes ≢ codes "define"
    → ¬ (HasManyTokens version (plain bytes ∷ rest))
other_first version bytes rest pair definition many =
    let first : plain bytes ≡ many.head = (let written = many.written in cc) in
    no_counted version bytes pair definition (subst (CountsTokens version) (sym first) many.counted)

-- ---- the header

module _ (taken : List (List ℕ)) (line : List ℕ) (tokens : List Token) (version : Version) (words : words_of line tokens ≡ header_words version) where
  no_header_limit : (name : LimitName) (number place : ℕ) → ¬ (LineHas nothing line tokens (Limit name number) place)
  no_header_limit Bytes number place has = has
  no_header_limit Line number place has = has
  no_header_limit Events number place has = has
  no_header_limit Threads number place has = has
  no_header_limit Locks number place has = has
  no_header_limit Objects number place has = has
  no_header_limit Depth number place has = has
  no_header_limit SpecText number place has = has
  no_header_limit Tokens number place (other, begun, many, is, at) = none-some other begun
  no_header_limit Kinds number place has = has
  no_header_limit MethodLimit number place has = has
  no_header_limit Arguments number place has = has
  no_header_limit Nodes number place has = has
  no_header_limit FormulaDepth number place has = has
  no_header_limit Predicates number place has = has

  header_line : (cause : SpecCause) (place : ℕ) → ¬ (LineHas nothing line tokens cause place)
  header_line Header place (late, others, at) = others version words
  header_line Syntax place (other, count, begun, wrong, at) = none-some other begun
  header_line UnknownMethod place has = has
  header_line UnknownVariable place has = has
  header_line NoVariable place has = has
  header_line (OutsideFragment reason) place has = has
  header_line Duplicate place has = has
  header_line (MissingPair first second) place has = has
  header_line KindTaken place has = has
  header_line (Limit name number) place has = no_header_limit name number place has

  header_clean : HasNone (Has taken nothing line tokens)
  header_clean cause place (line_has has) = header_line cause place has
  header_clean cause place (form_has other begun form fit has) = none-some other begun

  pub header_accepted : AreTokens line tokens → AcceptsSpecLine taken nothing line (with_header nothing version)
  header_accepted cut = record { tokens = tokens; cut = cut; clean = header_clean; adds = adds_header version refl words refl }

-- ---- the line of a kind

no_kind_limit : (taken : List (List ℕ)) (known : Known) (line : List ℕ) (tokens : List Token) (name : List ℕ) → length (kinds_so_far known) < MOST_KINDS
    → (limit : LimitName) (number place : ℕ) → ¬ (KindHas taken known line tokens name (Limit limit number) place)
no_kind_limit taken known line tokens name few Bytes number place has = has
no_kind_limit taken known line tokens name few Line number place has = has
no_kind_limit taken known line tokens name few Events number place has = has
no_kind_limit taken known line tokens name few Threads number place has = has
no_kind_limit taken known line tokens name few Locks number place has = has
no_kind_limit taken known line tokens name few Objects number place has = has
no_kind_limit taken known line tokens name few Depth number place has = has
no_kind_limit taken known line tokens name few SpecText number place has = has
no_kind_limit taken known line tokens name few Tokens number place has = has
no_kind_limit taken known line tokens name few Kinds number place (many, is, at) = omega (arith, many, few)
no_kind_limit taken known line tokens name few MethodLimit number place has = has
no_kind_limit taken known line tokens name few Arguments number place has = has
no_kind_limit taken known line tokens name few Nodes number place has = has
no_kind_limit taken known line tokens name few FormulaDepth number place has = has
no_kind_limit taken known line tokens name few Predicates number place has = has

-- a kind with each of its pairs lacks none
pub lacks_none : (kind : SpecifiedKind) (first second : List ℕ) → IsWhole kind → ¬ (LacksPair kind first second)
lacks_none kind first second whole lacks =
    let missing = lacks.missing in
    let there = whole lacks.first_number lacks.second_number missing.ordered missing.known in
    let none = missing.missing in
    let wrong : is_some (formula_at kind lacks.first_number lacks.second_number) ≡ true = there in
    let never : is_some (formula_at kind lacks.first_number lacks.second_number) ≡ false = ap is_some none in absurd (cc)

pub kind_clean : (taken : List (List ℕ)) (known : Known) (line : List ℕ) (tokens : List Token) (name : List ℕ)
    → ¬ (Contains (specified_kind_names (kinds_so_far known)) name) → IsWhole (filled (opened_in known.block)) → ¬ (Contains taken name) → length (kinds_so_far known) < MOST_KINDS
    → HasNone (KindHas taken known line tokens name)
kind_clean taken known line tokens name new whole free few Header place has = has
kind_clean taken known line tokens name new whole free few Syntax place has = has
kind_clean taken known line tokens name new whole free few UnknownMethod place has = has
kind_clean taken known line tokens name new whole free few UnknownVariable place has = has
kind_clean taken known line tokens name new whole free few NoVariable place has = has
kind_clean taken known line tokens name new whole free few (OutsideFragment reason) place has = has
kind_clean taken known line tokens name new whole free few Duplicate place has = new has.0
kind_clean taken known line tokens name new whole free few (MissingPair first second) place has = lacks_none (filled (opened_in known.block)) first second whole has.0
kind_clean taken known line tokens name new whole free few KindTaken place has = free has.0
kind_clean taken known line tokens name new whole free few (Limit limit number) place has = no_kind_limit taken known line tokens name few limit number place has

-- ---- the line of a method

no_method_limit : (kind : SpecifiedKind) (line : List ℕ) (tokens : List Token) (name : List ℕ) (arguments : List (List ℕ)) (result : List ℕ)
    → length kind.methods < MOST_METHODS → length arguments ≤ MOST_ARGUMENTS → (limit : LimitName) (number place : ℕ) → ¬ (MethodHas kind line tokens name arguments result (Limit limit number) place)
no_method_limit kind line tokens name arguments result room few Bytes number place has = has
no_method_limit kind line tokens name arguments result room few Line number place has = has
no_method_limit kind line tokens name arguments result room few Events number place has = has
no_method_limit kind line tokens name arguments result room few Threads number place has = has
no_method_limit kind line tokens name arguments result room few Locks number place has = has
no_method_limit kind line tokens name arguments result room few Objects number place has = has
no_method_limit kind line tokens name arguments result room few Depth number place has = has
no_method_limit kind line tokens name arguments result room few SpecText number place has = has
no_method_limit kind line tokens name arguments result room few Tokens number place has = has
no_method_limit kind line tokens name arguments result room few Kinds number place has = has
no_method_limit kind line tokens name arguments result room few MethodLimit number place (many, is, at) = omega (arith, many, room)
no_method_limit kind line tokens name arguments result room few Arguments number place (many, is, at) = omega (arith, many, few)
no_method_limit kind line tokens name arguments result room few Nodes number place has = has
no_method_limit kind line tokens name arguments result room few FormulaDepth number place has = has
no_method_limit kind line tokens name arguments result room few Predicates number place has = has

pub method_clean : (kind : SpecifiedKind) (line : List ℕ) (tokens : List Token) (name : List ℕ) (arguments : List (List ℕ)) (result : List ℕ)
    → ¬ (Contains (names_of kind.methods) name) → ((n : ℕ) → ¬ (IsFirstRepeated (arguments ++ result ∷ []) n)) → length kind.methods < MOST_METHODS → length arguments ≤ MOST_ARGUMENTS
    → HasNone (MethodHas kind line tokens name arguments result)
method_clean kind line tokens name arguments result new once room few Header place has = has
method_clean kind line tokens name arguments result new once room few Syntax place has = has
method_clean kind line tokens name arguments result new once room few UnknownMethod place has = has
method_clean kind line tokens name arguments result new once room few UnknownVariable place has = has
method_clean kind line tokens name arguments result new once room few NoVariable place has = has
method_clean kind line tokens name arguments result new once room few (OutsideFragment reason) place has = has
method_clean kind line tokens name arguments result new once room few Duplicate place (inl (among, at)) = new among
method_clean kind line tokens name arguments result new once room few Duplicate place (inr (n, fresh, repeats, at)) = once n repeats
method_clean kind line tokens name arguments result new once room few (MissingPair first second) place has = has
method_clean kind line tokens name arguments result new once room few KindTaken place has = has
method_clean kind line tokens name arguments result new once room few (Limit limit number) place has =
    no_method_limit kind line tokens name arguments result room few limit number place has

-- ---- a default

-- one that stands behind no other repeats none
pub default_clean : (known : Known) (line : List ℕ) (tokens : List Token) → stage_of known ≢ Defaulted → HasNone (DefaultHas known line tokens)
default_clean known line tokens new Duplicate place (repeats, at) = new repeats
default_clean known line tokens new Header place has = has
default_clean known line tokens new Syntax place has = has
default_clean known line tokens new UnknownMethod place has = has
default_clean known line tokens new UnknownVariable place has = has
default_clean known line tokens new NoVariable place has = has
default_clean known line tokens new (OutsideFragment reason) place has = has
default_clean known line tokens new (MissingPair first second) place has = has
default_clean known line tokens new KindTaken place has = has
default_clean known line tokens new (Limit limit number) place has = has
