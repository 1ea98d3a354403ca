-- Each line has a first cause to refuse it, or none.
use Rattle.std.proofs.Common.{◌≡◌, ◌≢◌, ℕ, List, [], ◌∷◌, ◌++◌, codes, length, Option, Some, None, refl, sym, ◌∙◌, ap, subst, arith, ◌⊎◌, inl, inr}
use Rattle.std.specs.Prelude.{slice_get}
use Rattle.std.proofs.lemmas.Bool.{cases_Bool, cases_lt}
use Rattle.std.proofs.lemmas.List.{append_assoc, append-nil}
use Rattle.rd_base.specs.declared.limits.LimitName.TheVariants.{Arguments, Kinds, Methods as MethodLimit, Tokens}
use Rattle.rd_base.specs.declared.limits.TheConstants.{MOST_ARGUMENTS, MOST_KINDS, MOST_METHODS, MOST_TOKENS}
use Rattle.rd_ecl.specs.Specified.{SpecifiedKind, names_of}
use Rattle.rd_ecl.specs.Variables.{is_one_of}
use Rattle.rd_ecl.proofs.VariableLemmas.{among_decides}
use Rattle.rd_lines.specs.declared.forms.Stage.TheVariants.{Definitions, Defaulted, Methods, Pairs}
use Rattle.rd_lines.specs.declared.forms.Version.{Version}
use Rattle.rd_lines.specs.declared.forms.Version.TheVariants.{One, Two}
use Rattle.rd_lines.specs.Lines.{CountsTokens, LineWord, RightLine, SaidForm, plain, words_of}
use Rattle.rd_lines.specs.Lines.{kind as kind_said, method as method_said, commute as commute_said, default as default_said, define as define_said}
use Rattle.rd_open_kind.specs.Opened.{filled, with_default, with_definition, with_method_in, with_pair_in}
use Rattle.rd_tokens.specs.declared.sorts.Token.{Token}
use Rattle.rd_tokens.specs.Tokens.{AreTokens}
use Rattle.rd_tokens.proofs.CutLemmas.{each_is, each_lies, some_tokens}
use Rattle.rd_reading.specs.Adding.{AcceptsSpecLine, FormAdds, adds_form, adds_header, with_header, with_kind, with_open}
use Rattle.rd_reading.specs.Causes.{FormHas, Has, HasManyTokens, IsFirstRepeated, KindHas, MethodHas, header_words, variable_token}
use Rattle.rd_pairs.specs.Causes.{HasNone, IsFirstOf, place_at}
use Rattle.rd_reading.specs.Known.{kind_in, kinds_so_far, open_method_names, opened_in, specified_kind_names, stage_of}
use Rattle.rd_pairs.specs.declared.refused.SpecLineRefused.TheVariants.{Fault as FaultRefused}
use Rattle.rd_reading.specs.declared.known.Known.{Known}
use Rattle.rd_pairs.specs.declared.spec_causes.SpecCause.{SpecCause}
use Rattle.rd_pairs.specs.declared.spec_causes.SpecCause.TheVariants.{Duplicate, Header, KindTaken, Limit, MissingPair, Syntax}
use Rattle.rd_reading.proofs.DefaultLemmas.{judged_default}
use Rattle.rd_reading.proofs.DraftLemmas.{AreDrafts, may_stand, open_defined, open_draft}
use Rattle.rd_reading.proofs.FormLemmas.{decided, is_word, judged_words}
use Rattle.rd_reading.proofs.KindLemmas.{known_kind, many_kinds, missing_kind, right_kind, taken_kind}
use Rattle.rd_reading.proofs.LineLemmas.{form_first, form_none, many_tokens, no_header, right_header, short_words, wrong_line}
use Rattle.rd_reading.proofs.MethodLemmas.{judged_method as method_judged, known_method, variable_twice}
use Rattle.rd_pairs.proofs.NumberLemmas.{AreDifferent}
use Rattle.rd_reading.proofs.JudgedLemmas.{HasFirst, judged_definition, judged_pair}
use Rattle.rd_reading.proofs.OneLemmas.{name_more, none_apart, stands_there, take_front}
use Rattle.rd_reading.proofs.SearchLemmas.{lacks_or_whole}

-- ---- the line of a kind

judged_kind : (taken : List (List ℕ)) (known : Known) (line : List ℕ) (tokens : List Token) (name : List ℕ)
    → HasFirst (KindHas taken known line tokens name) ⊎ HasNone (KindHas taken known line tokens name)
judged_kind taken known line tokens name = elim (cases_Bool (is_one_of name (specified_kind_names (kinds_so_far known)))) [
  | inl there ↦ inl (Duplicate, place_at line tokens 1, known_kind taken known line tokens name (place_at line tokens 1) refl there)
  | inr fresh ↦ elim (lacks_or_whole (filled (opened_in known.block))) [
    | inl lacks ↦
        inl (
          MissingPair lacks.0 lacks.1,
          0,
          missing_kind taken known line tokens name fresh (MissingPair lacks.0 lacks.1) (lacks.0, lacks.1, refl, lacks.2),
        )
    | inr whole ↦ elim (cases_Bool (is_one_of name taken)) [
      | inl there ↦ inl (KindTaken, place_at line tokens 1, taken_kind taken known line tokens name fresh whole (place_at line tokens 1) refl there)
      | inr free ↦ elim (cases_lt (length (kinds_so_far known)) MOST_KINDS) [
        | inl few ↦ inr (right_kind taken known line tokens name fresh whole free few)
        | inr many ↦
            inl (Limit Kinds MOST_KINDS, place_at line tokens 1, many_kinds taken known line tokens name fresh whole free (place_at line tokens 1) refl many)
      ]
    ]
  ]
]

-- ---- the line of a method

repeated_in : (names before rest : List (List ℕ)) → names ≡ before ++ rest → AreDifferent before → ((n : ℕ) × IsFirstRepeated names n) ⊎ AreDifferent names
repeated_in names before [] same different = inr (subst AreDifferent (sym (same ∙ append-nil before)) different)
repeated_in names before (name ∷ rest) same different = elim (decided (is_one_of name before) (among_decides name before)) [
  | inl among ↦ inl (
    length before,
    record {
      name = name;
      stands = subst (λ (l : List (List ℕ)). slice_get l (length before) ≡ Some name) (sym same) (stands_there before name rest);
      repeats = rw (same, take_front before (name ∷ rest)) among;
      others = rw (same, take_front before (name ∷ rest)) different;
    },
  )
  | inr fresh ↦ repeated_in names (before ++ name ∷ []) rest (same ∙ sym (append_assoc before (name ∷ []) rest)) (name_more before name different fresh)
]

judged_method : (kind : SpecifiedKind) (line : List ℕ) (tokens : List Token) (name : List ℕ) (arguments : List (List ℕ)) (result : List ℕ)
    → HasFirst (MethodHas kind line tokens name arguments result) ⊎ HasNone (MethodHas kind line tokens name arguments result)
judged_method kind line tokens name arguments result = elim (cases_Bool (is_one_of name (names_of kind.methods))) [
  | inl there ↦ inl (Duplicate, place_at line tokens 1, known_method kind line tokens name arguments result (place_at line tokens 1) refl there)
  | inr fresh ↦ elim (repeated_in (arguments ++ result ∷ []) [] (arguments ++ result ∷ []) refl none_apart) [
    | inl twice ↦
        let place : ℕ = place_at line tokens (variable_token (length arguments) twice.0) in
        inl (Duplicate, place, variable_twice kind line tokens name arguments result fresh twice.0 place twice.1 refl)
    | inr different ↦ elim (cases_lt (length kind.methods) MOST_METHODS) [
      | inl room ↦ elim (cases_lt MOST_ARGUMENTS (length arguments)) [
        | inl many ↦
            inl (
              Limit Arguments MOST_ARGUMENTS,
              place_at line tokens 8,
              method_judged kind line tokens name arguments result fresh different
                  (Some (record { place = place_at line tokens 8; cause = Limit Arguments MOST_ARGUMENTS })) (inr (room, many, refl)) tt,
            )
        | inr few ↦ inr (method_judged kind line tokens name arguments result fresh different None tt (room, few))
      ]
      | inr full ↦
          inl (
            Limit MethodLimit MOST_METHODS,
            place_at line tokens 1,
            method_judged kind line tokens name arguments result fresh different
                (Some (record { place = place_at line tokens 1; cause = Limit MethodLimit MOST_METHODS })) (inl (full, refl)) tt,
          )
    ]
  ]
]

-- ---- any line

-- the line has no cause, and then this is known
abbrev IsCleanForm : List (List ℕ) → Version → Known → List ℕ → List Token → SaidForm → Type 0
IsCleanForm taken version known line tokens form =
    (next : Known) × HasNone (FormHas taken version known line tokens form) × FormAdds version known line tokens form next

judged_form : (taken : List (List ℕ)) (version : Version) (known : Known) (line : List ℕ) (tokens : List Token) (form : SaidForm) → AreDrafts known → AreTokens line tokens
    → RightLine version (stage_of known) (open_method_names known) (words_of line tokens) form
    → HasFirst (FormHas taken version known line tokens form) ⊎ IsCleanForm taken version known line tokens form
judged_form taken version known line tokens (kind_said name) are cut right = elim (judged_kind taken known line tokens name) [
  | inl first ↦ inl first
  | inr none ↦ inr (with_kind known name, none, refl)
]
judged_form taken version known line tokens (method_said name arguments result) are cut right =
    elim (judged_method (kind_in known.block) line tokens name arguments result) [
      | inl first ↦ inl first
      | inr none ↦
          inr (with_open known (with_method_in (opened_in known.block) (record { name = name; variables = arguments ++ result ∷ [] })) Methods, none, refl)
    ]
judged_form taken version known line tokens (commute_said first second read) are cut right =
    elim (judged_pair version (opened_in known.block) line tokens (each_lies line tokens cut) (each_is line tokens cut) (open_draft known.block right.stands are.draft)
    (open_defined known.block right.stands are.draft) (stage_of known) first second read right) [
      | inl cause ↦ inl cause
      | inr pair ↦
          inr (
            with_open known (with_pair_in (opened_in known.block) pair.left pair.right pair.tree) Pairs,
            pair.clean,
            (pair.left, pair.right, pair.tree, pair.says, refl),
          )
    ]
judged_form taken version known line tokens (define_said owner name read) are cut right =
    let stands = may_stand (stage_of known) right.stands in
    elim (judged_definition version (opened_in known.block) line tokens (each_lies line tokens cut) (each_is line tokens cut) (open_draft known.block stands are.draft)
    (stage_of known) owner name read right) [
      | inl cause ↦ inl cause
      | inr one ↦
          inr (
            with_open known (with_definition (opened_in known.block) one.number (record { name = name; formula = one.tree })) Definitions,
            one.clean,
            (one.number, one.tree, one.says, refl),
          )
    ]
judged_form taken version known line tokens (default_said value) are cut right = elim (judged_default known line tokens) [
  | inl first ↦ inl first
  | inr none ↦ inr (with_open known (with_default (opened_in known.block) value) Defaulted, none, refl)
]

second_word : (v : Version) → LineWord
second_word One = plain (codes "1")
second_word Two = plain (codes "2")

header_or : (words : List LineWord) → ((v : Version) × (words ≡ header_words v)) ⊎ ((v : Version) → words ≢ header_words v)
header_or [] = inr (λ v e. by v e) where
  by : (v : Version) → [] ≢ header_words v
  by One e = cc
  by Two e = cc
header_or (a ∷ []) = inr (λ v e. by v e) where
  by : (v : Version) → a ∷ [] ≢ header_words v
  by One e = cc
  by Two e = cc
header_or (a ∷ b ∷ []) = elim (is_word a (codes "rdspec")) [
  | inl first ↦ elim (is_word b (codes "1")) [
    | inl second ↦ inl (One, ap (λ (w : LineWord). w ∷ b ∷ []) first ∙ ap (λ (w : LineWord). plain (codes "rdspec") ∷ w ∷ []) second)
    | inr no_one ↦ elim (is_word b (codes "2")) [
      | inl second ↦ inl (Two, ap (λ (w : LineWord). w ∷ b ∷ []) first ∙ ap (λ (w : LineWord). plain (codes "rdspec") ∷ w ∷ []) second)
      | inr no_two ↦ inr (by_second no_one no_two)
    ]
  ]
  | inr other ↦ inr (by_first other)
] where
  by_second : b ≢ plain (codes "1") → b ≢ plain (codes "2") → (v : Version) → a ∷ b ∷ [] ≢ header_words v
  by_second no_one no_two One e = no_one (cc)
  by_second no_one no_two Two e = no_two (cc)

  by_first : a ≢ plain (codes "rdspec") → (v : Version) → a ∷ b ∷ [] ≢ header_words v
  by_first other One e = other (cc)
  by_first other Two e = other (cc)
header_or (a ∷ b ∷ c ∷ words) = inr (λ v e. by v e) where
  by : (v : Version) → a ∷ b ∷ c ∷ words ≢ header_words v
  by One e = cc
  by Two e = cc

counted_or : (version : Version) (word : LineWord) → CountsTokens version word ⊎ ¬ (CountsTokens version word)
counted_or One word = is_word word (codes "commute")
counted_or Two word = elim (is_word word (codes "commute")) [
  | inl is ↦ inl (inl is)
  | inr no_pair ↦ elim (is_word word (codes "define")) [
    | inl is ↦ inl (inr is)
    | inr no_definition ↦ inr (by no_pair no_definition)
  ]
] where
  by : word ≢ plain (codes "commute") → word ≢ plain (codes "define") → ¬ (CountsTokens Two word)
  by no_pair no_definition (inl is) = no_pair is
  by no_pair no_definition (inr is) = no_definition is

many_tokens_or : (version : Version) (words : List LineWord) → HasManyTokens version words ⊎ ¬ (HasManyTokens version words)
many_tokens_or version [] = inr (λ has. let written = has.written in cc)
many_tokens_or version (a ∷ []) = inr (λ has. let written = has.written in cc)
many_tokens_or version (a ∷ b ∷ []) = inr (λ has. let written = has.written in cc)
many_tokens_or version (a ∷ b ∷ c ∷ []) = inr (λ has. let written = has.written in cc)
many_tokens_or version (a ∷ b ∷ c ∷ d ∷ behind) = elim (counted_or version a) [
  | inl counted ↦ elim (is_word d (codes "when")) [
    | inl fourth ↦ elim (cases_lt MOST_TOKENS (length behind)) [
      | inl many ↦ inl (record {
        head = a;
        first = b;
        second = c;
        behind = behind;
        counted = counted;
        written = ap (λ (w : LineWord). a ∷ b ∷ c ∷ w ∷ behind) fourth;
        many = many;
      })
      | inr few ↦ inr (λ has.
          let tails : behind ≡ has.behind = cc (has.written) in
          let counts : length behind ≡ length has.behind = ap length tails in
          let many = has.many in
          omega (arith, counts, many, few))
    ]
    | inr other ↦ inr (λ has. other (cc (has.written)))
  ]
  | inr other ↦ inr (λ has. let heads : a ≡ has.head = cc (has.written) in other (subst (CountsTokens version) (sym heads) has.counted))
]

-- the line is accepted, or refused for a first cause
pub record IsStopped (taken : List (List ℕ)) (known : Known) (line : List ℕ) : Type 0 where
  pub tokens : List Token
  pub cut : AreTokens line tokens
  pub cause : SpecCause
  pub place : ℕ
  pub first : IsFirstOf (Has taken known line tokens) cause place

pub judged_line : (taken : List (List ℕ)) (known : Known) (line : List ℕ) → AreDrafts known
    → ((next : Known) × AcceptsSpecLine taken known line next) ⊎ IsStopped taken known line
judged_line taken known line are = by (some_tokens line).0 (some_tokens line).1 known.version refl where
  formed : (version : Version) (tokens : List Token) → AreTokens line tokens → known.version ≡ Some version → ¬ (HasManyTokens version (words_of line tokens))
      → ((next : Known) × AcceptsSpecLine taken known line next) ⊎ IsStopped taken known line
  formed version tokens cut begun short =
      let few = short_words version (words_of line tokens) short in
      elim (judged_words version (stage_of known) (open_method_names known) (words_of line tokens)) [
        | inl right ↦ elim (judged_form taken version known line tokens right.0 are cut right.1) [
          | inl cause ↦
              inr (record {
                tokens = tokens;
                cut = cut;
                cause = cause.0;
                place = cause.1;
                first = form_first taken version known line tokens begun few right.0 right.1 (FaultRefused (record { place = cause.1; cause = cause.0 })) cause.2;
              })
          | inr clean ↦
              inl (
                clean.0,
                record {
                  tokens = tokens;
                  cut = cut;
                  clean = form_none taken version known line tokens begun few right.0 right.1 clean.1;
                  adds = adds_form version begun right.0 right.1 clean.2;
                },
              )
        ]
        | inr wrong ↦
            inr (record {
              tokens = tokens;
              cut = cut;
              cause = Syntax;
              place = place_at line tokens wrong.0;
              first = wrong_line taken version known line tokens begun few wrong.0 (place_at line tokens wrong.0) wrong.1 refl;
            })
      ]

  by : (tokens : List Token) → AreTokens line tokens → (o : Option Version) → known.version ≡ o
      → ((next : Known) × AcceptsSpecLine taken known line next) ⊎ IsStopped taken known line
  by tokens cut (Some version) begun = elim (many_tokens_or version (words_of line tokens)) [
    | inl many ↦
        inr (record {
          tokens = tokens;
          cut = cut;
          cause = Limit Tokens MOST_TOKENS;
          place = place_at line tokens 3;
          first = many_tokens taken version known line tokens begun (place_at line tokens 3) refl many;
        })
    | inr short ↦ formed version tokens cut begun short
  ]
  by tokens cut None begins = elim (header_or (words_of line tokens)) [
    | inl is ↦
        inl (
          with_header known is.0,
          record {
            tokens = tokens;
            cut = cut;
            clean = right_header taken is.0 known line tokens begins is.1;
            adds = adds_header is.0 begins is.1 refl;
          },
        )
    | inr other ↦
        inr (record { tokens = tokens; cut = cut; cause = Header; place = 0; first = no_header taken known line tokens begins other })
  ]
