-- The first thing that is wrong with a line.
use Rattle.std.proofs.Common.{◌≡◌, ◌≢◌, ◌<◌, ◌≤◌, ◌+◌, ℕ, true, false, List, [], ◌∷◌, codes, length, nat_eq, take, drop, refl, sym, subst, arith, Result, Ok, Err, None, Some}
use Rattle.std.specs.Cmp.Lexicographic.{bytes_decides, pointwise}
use Rattle.std.specs.Prelude.{IfErr, OnOk}
use Rattle.std.proofs.Math.Nat.{lt_of_not-le}
use Rattle.std.proofs.lemmas.List.{take-append-drop}
use Rattle.rd_base.specs.declared.limits.LimitName.TheVariants.{Arguments, FormulaDepth, Kinds, Methods, Nodes, Predicates, Tokens}
use Rattle.rd_pairs.specs.declared.spec_causes.SpecCause.{SpecCause}
use Rattle.rd_pairs.specs.declared.spec_causes.SpecCause.TheVariants.{Duplicate, Header, KindTaken, Limit, MissingPair, NoVariable, OutsideFragment, Syntax, UnknownMethod, UnknownVariable}
use Rattle.rd_reading.specs.declared.known.Known.{Known}
use Rattle.rd_reading.specs.Causes.{FormHas, Has, HasManyTokens, LineHas, form_has, header_words, line_has}
use Rattle.rd_pairs.specs.Causes.{HasNone, IsFirstOf, place_at, rank, IsSpecLineRefused}
use Rattle.rd_reading.specs.Adding.{AcceptsSpecLine, Adds}
use Rattle.rd_reading.specs.Known.{kind_in, open_method_names, stage_of}
use Rattle.rd_ecl.specs.declared.kinds.Method.{Method}
use Rattle.rd_ecl.specs.Specified.{names_of}
use Rattle.rd_lines.specs.declared.forms.Stage.{Stage}
use Rattle.rd_lines.specs.declared.forms.Version.{Version}
use Rattle.rd_lines.specs.declared.forms.Version.TheVariants.{One, Two}
use Rattle.rd_lines.specs.Lines.{HasFewWords, IsWrongBehind, RightLine, SaidForm, LineWord, commute, default, define, kind, method, plain, words_of}
use Rattle.rd_lines.proofs.LawLemmas.{one_form, right_line, same_bytes}
use Rattle.rd_tokens.specs.declared.sorts.Token.{Token}
use Rattle.rd_tokens.specs.Tokens.{AreTokens}
use Rattle.rd_pairs.specs.declared.refused.SpecLineRefused.{SpecLineRefused}
use Rattle.rd_pairs.specs.declared.refused.SpecLineRefused.TheVariants.{Fault, NoMemory}
use Rattle.rd_reading.specs.Judging.{LineRefuses}
use Rattle.rd_base.specs.declared.limits.TheConstants.{MOST_TOKENS}

at_most : (n m : ℕ) → ¬ (m < n) → n ≤ m
at_most n m above = let below : n < m + 1 = lt_of_not-le (λ (h : m + 1 ≤ n). above (omega (arith, h))) in omega (arith, below)

-- a line that hasn't too many tokens is short
pub short_words : (version : Version) (words : List LineWord) → ¬ (HasManyTokens version words) → HasFewWords version words
short_words version words few = record {
  few = λ head first second behind counted written.
      at_most (length behind) MOST_TOKENS
      (λ many. few (record { head = head; first = first; second = second; behind = behind; counted = counted; written = written; many = many }));
}

pub short_few : (version : Version) (words : List LineWord) → HasFewWords version words → ¬ (HasManyTokens version words)
short_few version words short has =
    let few = short.few has.head has.first has.second has.behind has.counted has.written in
    let many = has.many in
    omega (arith, few, many)

-- what a right line has comes behind what any line may have
pub least_form : (taken : List (List ℕ)) (version : Version) (known : Known) (line : List ℕ) (tokens : List Token) (form : SaidForm) (cause : SpecCause) (place : ℕ)
    → FormHas taken version known line tokens form cause place → 3 ≤ rank cause
least_form taken version known line tokens (kind name) Duplicate place has = omega arith
least_form taken version known line tokens (kind name) (MissingPair first second) place has = omega arith
least_form taken version known line tokens (kind name) KindTaken place has = omega arith
least_form taken version known line tokens (kind name) (Limit Kinds number) place has = omega arith
least_form taken version known line tokens (kind name) cause place has = absurd has
least_form taken version known line tokens (method name arguments result) Duplicate place has = omega arith
least_form taken version known line tokens (method name arguments result) (Limit Methods number) place has = omega arith
least_form taken version known line tokens (method name arguments result) (Limit Arguments number) place has = omega arith
least_form taken version known line tokens (method name arguments result) cause place has = absurd has
least_form taken version known line tokens (commute first second read) UnknownMethod place has = omega arith
least_form taken version known line tokens (commute first second read) UnknownVariable place has = omega arith
least_form taken version known line tokens (commute first second read) NoVariable place has = omega arith
least_form taken version known line tokens (commute first second read) (OutsideFragment reason) place has = omega arith
least_form taken version known line tokens (commute first second read) Duplicate place has = omega arith
least_form taken version known line tokens (commute first second read) (Limit Nodes number) place has = omega arith
least_form taken version known line tokens (commute first second read) (Limit FormulaDepth number) place has = omega arith
least_form taken version known line tokens (commute first second read) (Limit Predicates number) place has = omega arith
least_form taken version known line tokens (commute first second read) cause place has = absurd has
least_form taken version known line tokens (define owner name read) UnknownMethod place has = omega arith
least_form taken version known line tokens (define owner name read) UnknownVariable place has = omega arith
least_form taken version known line tokens (define owner name read) NoVariable place has = omega arith
least_form taken version known line tokens (define owner name read) (OutsideFragment reason) place has = omega arith
least_form taken version known line tokens (define owner name read) Duplicate place has = omega arith
least_form taken version known line tokens (define owner name read) (Limit Nodes number) place has = omega arith
least_form taken version known line tokens (define owner name read) (Limit FormulaDepth number) place has = omega arith
least_form taken version known line tokens (define owner name read) (Limit Predicates number) place has = omega arith
least_form taken version known line tokens (define owner name read) cause place has = absurd has
least_form taken version known line tokens (default value) Duplicate place has = omega arith
least_form taken version known line tokens (default value) cause place has = absurd has

-- the header begins as no other line
no_word : (bytes : List ℕ) → pointwise nat_eq (codes "rdspec") bytes ≡ false → codes "rdspec" ≢ bytes
no_word bytes other same = let yes : pointwise nat_eq (codes "rdspec") bytes ≡ true = (bytes_decides (codes "rdspec") bytes).1 same in cc

module _ (words rest : List LineWord) (is : words ≡ plain (codes "rdspec") ∷ rest) where
  begins_other : (bytes : List ℕ) (more : List LineWord) → pointwise nat_eq (codes "rdspec") bytes ≡ false → words ≢ plain bytes ∷ more
  begins_other bytes more other also = no_word bytes other (same_bytes (codes "rdspec") bytes (cc))

  begins_no_form : (version : Version) (stage : Stage) (methods : List (List ℕ)) (form : SaidForm) → ¬ (RightLine version stage methods words form)
  begins_no_form version stage methods (kind name) right = begins_other (codes "kind") _ refl right.written
  begins_no_form version stage methods (method name arguments result) right = begins_other (codes "method") _ refl right.written
  begins_no_form version stage methods (commute first second read) right = begins_other (codes "commute") _ refl right.written
  begins_no_form version stage methods (define owner name read) right = begins_other (codes "define") _ refl right.written
  begins_no_form version stage methods (default value) right = begins_other (codes "default") _ refl right.written

-- each header begins with `rdspec`
behind_rdspec : Version → List LineWord
behind_rdspec One = plain (codes "1") ∷ []
behind_rdspec Two = plain (codes "2") ∷ []

header_first : (version : Version) → header_words version ≡ plain (codes "rdspec") ∷ behind_rdspec version
unfolding behind_rdspec
header_first One = refl
header_first Two = refl

module _ (taken : List (List ℕ)) where
  -- the line begins the text
  module _ (known : Known) (line : List ℕ) (tokens : List Token) (begins : known.version ≡ None) where
    least_header : (cause : SpecCause) (place : ℕ) → Has taken known line tokens cause place → 0 ≤ rank cause
    least_header cause place has = omega arith

    pub no_header : ((version : Version) → words_of line tokens ≢ header_words version) → IsFirstOf (Has taken known line tokens) Header 0
    no_header other = record { has = line_has (begins, other, refl); first = least_header }

    -- no version is known
    none_begun : {T : Type 0} (version : Version) → known.version ≡ Some version → T
    none_begun version begun = absurd (cc)

  pub right_header : (version : Version) (known : Known) (line : List ℕ) (tokens : List Token) → known.version ≡ None → words_of line tokens ≡ header_words version
      → HasNone (Has taken known line tokens)
  right_header version known line tokens begins is cause place has = of cause has where
    line_none : (cause : SpecCause) → ¬ (LineHas known line tokens cause place)
    line_none Header has = has.1 version is
    line_none (Limit Tokens number) has = none_begun known line tokens begins has.0 has.1
    line_none Syntax has = none_begun known line tokens begins has.0 has.2
    line_none cause has = has

    of : (cause : SpecCause) → ¬ (Has taken known line tokens cause place)
    of cause (line_has has) = line_none cause has
    of cause (form_has other begun form right has) = none_begun known line tokens begins other begun

  -- the line stands behind the header of this version
  module _ (version : Version) (known : Known) (line : List ℕ) (tokens : List Token) (begun : known.version ≡ Some version) where
    -- the line has the cause at the place
    abbrev Wrong : SpecCause → ℕ → Type 0
    Wrong cause place = Has taken known line tokens cause place

    -- the version is one
    same_begun : (other : Version) → known.version ≡ Some other → other ≡ version
    same_begun other also = cc

    few_begun : HasFewWords version (words_of line tokens) → (other : Version) → known.version ≡ Some other → ¬ (HasManyTokens other (words_of line tokens))
    few_begun short other also many =
        short_few version (words_of line tokens) short (subst (λ (v : Version). HasManyTokens v (words_of line tokens)) (same_begun other also) many)

    least_many : (cause : SpecCause) (place : ℕ) → Wrong cause place → 1 ≤ rank cause
    least_many cause place (line_has has) = here cause place has where
      here : (cause : SpecCause) (place : ℕ) → LineHas known line tokens cause place → 1 ≤ rank cause
      here Header place has = let begins = has.0 in absurd (cc)
      here (Limit Tokens number) place has = omega arith
      here Syntax place has = omega arith
      here cause place has = absurd has
    least_many cause place (form_has other also form right has) = let least = least_form taken other known line tokens form cause place has in omega (arith, least)

    -- too many tokens are told first
    pub many_tokens : (place : ℕ) → place ≡ place_at line tokens 3 → HasManyTokens version (words_of line tokens) → IsFirstOf Wrong (Limit Tokens MOST_TOKENS) place
    many_tokens place at many = record { has = line_has (version, begun, many, refl, at); first = least_many }

    module _ (short : HasFewWords version (words_of line tokens)) where
      least_syntax : (cause : SpecCause) (place : ℕ) → Wrong cause place → 2 ≤ rank cause
      least_syntax cause place (line_has has) = here cause place has where
        here : (cause : SpecCause) (place : ℕ) → LineHas known line tokens cause place → 2 ≤ rank cause
        here Header place has = let begins = has.0 in absurd (cc)
        here (Limit Tokens number) place has = absurd (few_begun short has.0 has.1 has.2)
        here Syntax place has = omega arith
        here cause place has = absurd has
      least_syntax cause place (form_has other also form right has) = let least = least_form taken other known line tokens form cause place has in omega (arith, least)

      -- then a wrong form
      pub wrong_line : (count place : ℕ) → IsWrongBehind (RightLine version (stage_of known) (open_method_names known)) (words_of line tokens) count
          → place ≡ place_at line tokens count → IsFirstOf Wrong Syntax place
      wrong_line count place wrong at = record { has = line_has (version, count, begun, wrong, at); first = least_syntax }

      module _ (form : SaidForm) (right : RightLine version (stage_of known) (open_method_names known) (words_of line tokens) form) where
        right_nowhere : (count : ℕ) → ¬ (IsWrongBehind (RightLine version (stage_of known) (open_method_names known)) (words_of line tokens) count)
        right_nowhere count wrong =
            right_line version (stage_of known) (open_method_names known) (take count (words_of line tokens)) (drop count (words_of line tokens)) form
            (subst (λ (words : List LineWord). RightLine version (stage_of known) (open_method_names known) words form) (sym (take-append-drop count (words_of line tokens))) right)
            wrong.1

        right_place : (cause : SpecCause) (place : ℕ) → ¬ (LineHas known line tokens cause place)
        right_place Header place has = let begins = has.0 in absurd (cc)
        right_place (Limit Tokens number) place has = few_begun short has.0 has.1 has.2
        right_place Syntax place has =
            right_nowhere has.1
            (subst (λ (v : Version). IsWrongBehind (RightLine v (stage_of known) (open_method_names known)) (words_of line tokens) has.1) (same_begun has.0 has.2) has.3)
        right_place cause place has = has

        -- what a right line has is what its form has
        has_form : (cause : SpecCause) (place : ℕ) → Wrong cause place → FormHas taken version known line tokens form cause place
        has_form cause place (line_has has) = absurd (right_place cause place has)
        has_form cause place (form_has other_version same other also has) =
            let of_version = same_begun other_version same in
            let also_here : RightLine version (stage_of known) (open_method_names known) (words_of line tokens) other =
            subst (λ (v : Version). RightLine v (stage_of known) (open_method_names known) (words_of line tokens) other) of_version also in
            subst (λ (f : SaidForm). FormHas taken version known line tokens f cause place)
            (one_form version (stage_of known) (open_method_names known) (words_of line tokens) other form also_here right)
            (subst (λ (v : Version). FormHas taken v known line tokens other cause place) of_version has)

        -- so is the first of it
        pub form_none : HasNone (FormHas taken version known line tokens form) → HasNone Wrong
        form_none none cause place has = none cause place (has_form cause place has)

        pub form_first : (refused : SpecLineRefused) → IsSpecLineRefused (FormHas taken version known line tokens form) refused → IsSpecLineRefused Wrong refused
        form_first (Fault fault) first = record {
          has = form_has version begun form right first.has;
          first = λ other elsewhere has. first.first other elsewhere (has_form other elsewhere has);
        }
        form_first NoMemory first = tt

        pub form_refused : {T : Type 0} (result : Result T SpecLineRefused) → IfErr result (IsSpecLineRefused (FormHas taken version known line tokens form)) → IfErr result (IsSpecLineRefused Wrong)
        form_refused (Ok x) refused = tt
        form_refused (Err refused) first = form_first refused first

-- what is said at the stage of what is known
pub stands_at : {R : Type 0} (known : Known) (stage : Stage) (methods : List Method) (P : Stage → List (List ℕ) → R → Type 0) (x : R) → stage ≡ stage_of known
    → methods ≡ (kind_in known.block).methods → P stage (names_of methods) x → P (stage_of known) (open_method_names known) x
stands_at known stage methods P x stands are holds =
    subst (λ (s : Stage). P s (open_method_names known) x) stands (subst (λ (m : List Method). P stage (names_of m) x) are holds)

-- what a line is said by its tokens
pub accepted : {T E : Type 0} (result : Result T E) (taken : List (List ℕ)) (known : Known) (line : List ℕ) (tokens : List Token) (next : Known)
    → AreTokens line tokens → OnOk result (HasNone (Has taken known line tokens)) → OnOk result (Adds known line tokens next)
    → OnOk result (AcceptsSpecLine taken known line next)
accepted (Ok x) taken known line tokens next cut clean adds = record { tokens = tokens; cut = cut; clean = clean; adds = adds }
accepted (Err e) taken known line tokens next cut clean adds = tt

line_refuses : (taken : List (List ℕ)) (known : Known) (line : List ℕ) (tokens : List Token) → AreTokens line tokens → (refused : SpecLineRefused)
    → IsSpecLineRefused (Has taken known line tokens) refused → LineRefuses taken known line refused
line_refuses taken known line tokens cut (Fault fault) first = (tokens, cut, first)
line_refuses taken known line tokens cut NoMemory first = tt

pub first_refused : {T : Type 0} (result : Result T SpecLineRefused) (taken : List (List ℕ)) (known : Known) (line : List ℕ) (tokens : List Token)
    → AreTokens line tokens → IfErr result (λ refused. (others : List (List ℕ)) → IsSpecLineRefused (Has others known line tokens) refused)
    → IfErr result (LineRefuses taken known line)
first_refused (Ok x) taken known line tokens cut first = tt
first_refused (Err refused) taken known line tokens cut first = line_refuses taken known line tokens cut refused (first taken)
