-- A line of words is right, or wrong at some place.
use Rattle.std.proofs.Common.{◌≡◌, ◌≢◌, ℕ, suc, ◌+◌, ◌≤◌, Bool, true, false, Decides, List, [], ◌∷◌, ◌++◌, length, length-append, map, take, drop, codes, nat_eq, refl, sym, ◌∙◌, ap, subst, arith, ◌⊎◌, inl, inr}
use Rattle.std.specs.List.{AllByRecursion}
use Rattle.std.specs.Cmp.Lexicographic.{bytes_decides, pointwise}
use Rattle.std.proofs.Math.Seq.{take-append_seam}
use Rattle.rd_base.specs.Names.{IsName, is_name}
use Rattle.rd_base.proofs.NameLemmas.{is_name_decides}
use Rattle.rd_ecl.specs.Variables.{IsVariable, is_one_of, is_variable}
use Rattle.rd_ecl.proofs.VariableLemmas.{variable_decides}
use Rattle.rd_grammar.specs.FirstWrong.{WrongAt}
use Rattle.rd_grammar.specs.Grammar.{ParsedTree, MarksSay, disj}
use Rattle.rd_grammar.specs.declared.marks.Mark.{Mark}
use Rattle.rd_grammar.proofs.ReadLemmas.{each_judged}
use Rattle.rd_lines.specs.declared.forms.Stage.{Stage}
use Rattle.rd_lines.specs.declared.forms.Stage.TheVariants.{Outside, Methods, Definitions, Defaulted, Pairs}
use Rattle.rd_lines.specs.declared.forms.Version.{Version}
use Rattle.rd_lines.specs.declared.forms.Version.TheVariants.{One, Two}
use Rattle.rd_lines.specs.Lines.{AreMarksFrom, IsOutOfOrder, IsWrongBehind, LineWord, RightLine, commute, default, define, dialect_of, kind, method, plain}
use Rattle.rd_lines.specs.Reading.{BeginsNoVariable, MayDefault, MayDefine, SaysResult, WordsSayFormula, names_behind}
use Rattle.rd_lines.proofs.CommuteLemmas.{commute_alone, commute_refused, commute_right, first_alone, first_unnamed, no_when, second_last, second_out_of_order, second_unnamed}
use Rattle.rd_lines.proofs.DefaultLemmas.{default_alone, default_longer, default_right, default_unnamed}
use Rattle.rd_lines.proofs.DefineLemmas.{define_alone, define_no_when, define_refused, define_right, name_last, name_unnamed, owner_alone, owner_unnamed}
use Rattle.rd_lines.proofs.FormulaLemmas.{formula_is, formula_wrong}
use Rattle.rd_lines.proofs.KindLemmas.{kind_is, refused_alone, refused_empty, refused_first, refused_longer, refused_name}
use Rattle.rd_lines.proofs.LawLemmas.{same_bytes}
use Rattle.rd_lines.proofs.MethodLemmas.{arrow_alone, method_alone, method_refused, method_unnamed, no_arrow, no_result, result_is, result_longer, result_missing}
use Rattle.rd_lines.proofs.OrderLemmas.{finds_out, found_out}
use Rattle.rd_tokens.specs.declared.sorts.Sort.{Sort}
use Rattle.rd_tokens.specs.declared.sorts.Sort.TheVariants.{Close, Open, Text, Word, Wrong}
use Rattle.rd_tokens.specs.Words.{truth_word}
use Rattle.rd_tokens.specs.declared.words.dialects.Dialect.{Dialect}
use Rattle.rd_tokens.specs.declared.words.dialects.Dialect.TheVariants.{Unsided}
use Rattle.rd_tokens.proofs.DialectLemmas.{some_symbol_in}

-- what a test decides, holds or doesn't
pub decided : {P : Type 0} (test : Bool) → Decides test P → P ⊎ ¬ P
decided true decides = inl (decides.0 refl)
decided false decides = inr (λ holds. let yes = decides.1 holds in absurd (cc))

-- the words are right and say something, or are wrong behind so many
abbrev pub IsJudged : {R : Type 0} → (List LineWord → R → Type 0) → List LineWord → Type 0
IsJudged {R} Says words = ((said : R) × Says words said) ⊎ ((count : ℕ) × IsWrongBehind Says words count)

-- ---- words

abbrev word_with : Sort → List ℕ → LineWord
word_with sort bytes = record { sort = sort; bytes = bytes }

pub is_word : (word : LineWord) (bytes : List ℕ) → (word ≡ plain bytes) ⊎ ¬ (word ≡ plain bytes)
is_word word bytes = by word.sort refl where
  other : (sort : Sort) → word.sort ≡ sort → sort ≢ Word → ¬ (word ≡ plain bytes)
  other sort is differs same = differs (sym is ∙ ap (λ (w : LineWord). w.sort) same)

  by : (sort : Sort) → word.sort ≡ sort → (word ≡ plain bytes) ⊎ ¬ (word ≡ plain bytes)
  by Word is = elim (decided (pointwise nat_eq word.bytes bytes) (bytes_decides word.bytes bytes)) [
    | inl same ↦
        let first : word ≡ plain word.bytes = ap (λ (s : Sort). word_with s word.bytes) is in
        inl (first ∙ ap plain same)
    | inr differs ↦ inr (λ same. differs (ap (λ (w : LineWord). w.bytes) same))
  ]
  by Open is = inr (other Open is (λ e. cc))
  by Close is = inr (other Close is (λ e. cc))
  by Text is = inr (other Text is (λ e. cc))
  by Wrong is = inr (other Wrong is (λ e. cc))

-- a word of such bytes, or none
word_of : (P : List ℕ → Type 0) → ((bytes : List ℕ) → P bytes ⊎ ¬ (P bytes)) → (word : LineWord)
    → ((name : List ℕ) × P name × (word ≡ plain name)) ⊎ ((name : List ℕ) → P name → word ≢ plain name)
word_of P asked word = elim (is_word word word.bytes) [
  | inl same ↦ elim (asked word.bytes) [
    | inl holds ↦ inl (word.bytes, holds, same)
    | inr lacks ↦ inr (λ name holds is. lacks (subst P (same_bytes name word.bytes (sym is ∙ same)) holds))
  ]
  | inr other ↦ inr (λ name holds is. other (is ∙ ap plain (sym (ap (λ (w : LineWord). w.bytes) is))))
]

name_of : (word : LineWord) → ((name : List ℕ) × IsName name × (word ≡ plain name)) ⊎ ((name : List ℕ) → IsName name → word ≢ plain name)
name_of word = word_of IsName (λ bytes. decided (is_name bytes) (is_name_decides bytes)) word

variable_of : (word : LineWord) → ((name : List ℕ) × IsVariable name × (word ≡ plain name)) ⊎ ((name : List ℕ) → IsVariable name → word ≢ plain name)
variable_of word = word_of IsVariable (λ bytes. decided (is_variable bytes) (variable_decides bytes)) word

-- ---- the line of a kind

judged_kind : (version : Version) (stage : Stage) (methods : List (List ℕ)) (words : List LineWord) → IsJudged (RightLine version stage methods) (plain (codes "kind") ∷ words)
judged_kind version stage methods [] = inr (1, refused_alone version [] refl stage methods)
judged_kind version stage methods (word ∷ rest) = elim (name_of word) [
  | inl found ↦ behind found.0 found.1 found.2 rest
  | inr none ↦ inr (1, refused_name version (word ∷ rest) rest word refl none stage methods)
] where
  behind : (name : List ℕ) → IsName name → word ≡ plain name → (rest : List LineWord)
      → IsJudged (RightLine version stage methods) (plain (codes "kind") ∷ word ∷ rest)
  behind name named is [] =
      inl (kind name, subst (λ (w : LineWord). RightLine version stage methods (plain (codes "kind") ∷ w ∷ []) (kind name)) (sym is) (kind_is version stage methods name named))
  behind name named is (next ∷ more) = inr (2, refused_longer version (word ∷ next ∷ more) (next ∷ more) more word next name refl is named refl stage methods)

-- ---- the line of a method

judged_result : (words : List LineWord) → IsJudged SaysResult words
judged_result [] = inr (0, result_missing [] refl)
judged_result (first ∷ rest) = elim (is_word first (codes "->")) [
  | inl is ↦ behind is rest
  | inr none ↦ inr (0, no_arrow (first ∷ rest) rest first refl none)
] where
  last : (rest more : List LineWord) (second : LineWord) → rest ≡ second ∷ more → first ≡ plain (codes "->") → (name : List ℕ) → IsVariable name → second ≡ plain name
      → IsJudged SaysResult (first ∷ rest)
  last rest [] second next is name variable named = inl (name, result_is (first ∷ rest) rest [] first second name refl is next named variable refl)
  last rest (third ∷ more) second next is name variable named =
      inr (2, result_longer (first ∷ rest) rest (third ∷ more) more first second third name refl is next named variable refl)

  behind : first ≡ plain (codes "->") → (rest : List LineWord) → IsJudged SaysResult (first ∷ rest)
  behind is [] = inr (1, arrow_alone (first ∷ []) [] first refl is refl)
  behind is (second ∷ more) = elim (variable_of second) [
    | inl found ↦ last (second ∷ more) more second refl is found.0 found.1 found.2
    | inr none ↦ inr (1, no_result (first ∷ second ∷ more) (second ∷ more) more first second refl is refl none)
  ]

-- the variables in front, and the words behind them
record Front (words : List LineWord) : Type 0 where
  names : List (List ℕ)
  behind : List LineWord
  each : AllByRecursion IsVariable names
  written : words ≡ map plain names ++ behind
  ends : BeginsNoVariable behind

front_of : (words : List LineWord) → Front words
front_of [] = record { names = []; behind = []; each = tt; written = refl; ends = tt }
front_of (word ∷ words) = elim (variable_of word) [
  | inl found ↦
      let rest = front_of words in
      record {
        names = found.0 ∷ rest.names;
        behind = rest.behind;
        each = (found.1, rest.each);
        written = ap (λ (w : LineWord). w ∷ words) found.2 ∙ ap (λ (l : List LineWord). plain found.0 ∷ l) rest.written;
        ends = rest.ends;
      }
  | inr none ↦ record { names = []; behind = word ∷ words; each = tt; written = refl; ends = none }
]

judged_method : (version : Version) (methods : List (List ℕ)) (words : List LineWord) → IsJudged (RightLine version Methods methods) (plain (codes "method") ∷ words)
judged_method version methods [] = inr (1, method_alone version methods [] refl)
judged_method version methods (word ∷ rest) = elim (name_of word) [
  | inl found ↦ behind found.0 found.1 found.2 (front_of rest)
  | inr none ↦ inr (1, method_unnamed version methods (word ∷ rest) rest word refl none)
] where
  behind : (name : List ℕ) → IsName name → word ≡ plain name → Front rest → IsJudged (RightLine version Methods methods) (plain (codes "method") ∷ word ∷ rest)
  behind name named is front = elim (judged_result front.behind) [
    | inl result ↦ inl (
      method name front.names result.0,
      record {
        stands = refl;
        named = named;
        each_argument = front.each;
        gives = result.1.is;
        written = ap (λ (w : LineWord). plain (codes "method") ∷ w ∷ rest) is
            ∙ ap (λ (l : List LineWord). plain (codes "method") ∷ plain name ∷ l)
            (front.written ∙ ap (λ (l : List LineWord). map plain front.names ++ l) result.1.written);
      },
    )
    | inr wrong ↦
        inr (
          2 + length front.names + wrong.0,
          method_refused version methods name front.names named front.each (word ∷ rest) rest front.behind word front.names wrong.0 refl is front.written front.ends refl wrong.1,
        )
  ]

-- ---- the line of a pair

marks_of : (dialect : Dialect) (k : ℕ) (words : List LineWord) → (marks : List Mark) × AreMarksFrom dialect k words marks
marks_of dialect k [] = ([], tt)
marks_of dialect k (word ∷ words) =
    let symbol = some_symbol_in dialect word.sort word.bytes in
    let rest = marks_of dialect (suc k) words in
    (record { symbol = symbol.0; token = k } ∷ rest.0, (symbol.1, refl, rest.1))

drop_front : {T : Type 0} (front rest : List T) → drop (length front) (front ++ rest) ≡ rest
drop_front [] rest = refl
drop_front (x ∷ front) rest = drop_front front rest

judged_formula : (dialect : Dialect) (words : List LineWord) → IsJudged (WordsSayFormula dialect) words
judged_formula dialect words = by (each_judged (marks_of dialect 0 words).0) where
  cut : (marks front rest : List Mark) → marks ≡ front ++ rest → WrongAt (MarksSay disj) front rest
      → (length front ≤ length marks) × WrongAt (MarksSay disj) (take (length front) marks) (drop (length front) marks)
  cut marks front rest same wrong = rw same (
    omega (arith, length-append front rest),
    rw (take-append_seam front rest, drop_front front rest) wrong,
  )

  by : ((f : ParsedTree) × MarksSay disj (marks_of dialect 0 words).0 f) ⊎ ((front : List Mark) × (rest : List Mark) × ((marks_of dialect 0 words).0 ≡ front ++ rest) × WrongAt (MarksSay disj) front rest)
      → IsJudged (WordsSayFormula dialect) words
  by (inl (f, says)) = inl (f, formula_is dialect words (marks_of dialect 0 words).0 f (marks_of dialect 0 words).1 says)
  by (inr (front, rest, same, wrong)) =
      let parts = cut (marks_of dialect 0 words).0 front rest same wrong in
      inr (length front, formula_wrong dialect words (marks_of dialect 0 words).0 (length front) (marks_of dialect 0 words).1 parts.0 parts.1)

ordered : (methods : List (List ℕ)) (first second : List ℕ) → IsOutOfOrder methods first second ⊎ ¬ (IsOutOfOrder methods first second)
ordered methods first second = elim (decided (pointwise nat_eq first second) (bytes_decides first second)) [
  | inl same ↦ inr (λ out. out.4 same)
  | inr differ ↦
      decided (is_one_of first (names_behind second methods)) (found_out first second differ methods, finds_out first second differ methods)
]

module _ (version : Version) (stage : Stage) (inside : stage ≢ Outside) (methods : List (List ℕ)) where
  abbrev IsJudgedPair : List LineWord → Type 0
  IsJudgedPair words = IsJudged (RightLine version stage methods) (plain (codes "commute") ∷ words)

  -- two names, and what stands behind them
  module _ (word next : LineWord) (first second : List ℕ) (is : word ≡ plain first) (named : IsName first) (also : next ≡ plain second) (named_too : IsName second)
      (order : ¬ (IsOutOfOrder methods first second)) where
    behind_when : (third : LineWord) (formula : List LineWord) → third ≡ plain (codes "when") → IsJudgedPair (word ∷ next ∷ third ∷ formula)
    behind_when third formula when =
        let written : word ∷ next ∷ third ∷ formula ≡ plain first ∷ plain second ∷ plain (codes "when") ∷ formula =
        ap (λ (w : LineWord). w ∷ next ∷ third ∷ formula) is ∙ ap (λ (w : LineWord). plain first ∷ w ∷ third ∷ formula) also
        ∙ ap (λ (w : LineWord). plain first ∷ plain second ∷ w ∷ formula) when in
        elim (judged_formula (dialect_of version) formula) [
          | inl says ↦
              inl (
                commute first second says.0,
                commute_right version stage inside methods first second named named_too order (word ∷ next ∷ third ∷ formula) formula says.0 written says.1,
              )
          | inr wrong ↦
              inr (
                4 + wrong.0,
                commute_refused version stage inside methods first second named named_too order (word ∷ next ∷ third ∷ formula) formula wrong.0 written wrong.1,
              )
        ]

    behind_second : (behind : List LineWord) → IsJudgedPair (word ∷ next ∷ behind)
    behind_second [] =
        inr (3, second_last version stage inside methods (word ∷ next ∷ []) (next ∷ []) [] word next first second refl is named refl also named_too order refl)
    behind_second (third ∷ formula) = elim (is_word third (codes "when")) [
      | inl when ↦ behind_when third formula when
      | inr none ↦
          inr (
            3,
            no_when version stage inside methods (word ∷ next ∷ third ∷ formula) (next ∷ third ∷ formula) (third ∷ formula) formula word next third first second
                refl is named refl also named_too order refl none,
          )
    ]

  behind_first : (word : LineWord) (first : List ℕ) → word ≡ plain first → IsName first → (rest : List LineWord) → IsJudgedPair (word ∷ rest)
  behind_first word first is named [] = inr (2, first_alone version stage inside methods (word ∷ []) [] word first refl is named refl)
  behind_first word first is named (next ∷ behind) = elim (name_of next) [
    | inl found ↦ elim (ordered methods first found.0) [
      | inl out ↦
          inr (2, second_out_of_order version stage inside methods (word ∷ next ∷ behind) (next ∷ behind) behind word next first found.0 refl is named refl found.2 out)
      | inr order ↦ behind_second word next first found.0 is named found.2 found.1 order behind
    ]
    | inr none ↦ inr (2, second_unnamed version stage inside methods (word ∷ next ∷ behind) (next ∷ behind) behind word next first refl is named refl none)
  ]

  judged_pair : (words : List LineWord) → IsJudgedPair words
  judged_pair [] = inr (1, commute_alone version stage inside methods [] refl)
  judged_pair (word ∷ rest) = elim (name_of word) [
    | inl found ↦ behind_first word found.0 found.2 found.1 rest
    | inr none ↦ inr (1, first_unnamed version stage inside methods (word ∷ rest) rest word refl none)
  ]

-- ---- the line of a definition

module _ (version : Version) (stage : Stage) (may : MayDefine version stage) (methods : List (List ℕ)) where
  abbrev IsJudgedDefinition : List LineWord → Type 0
  IsJudgedDefinition words = IsJudged (RightLine version stage methods) (plain (codes "define") ∷ words)

  -- a method and a name, and what stands behind them
  module _ (word next : LineWord) (owner name : List ℕ) (is : word ≡ plain owner) (named : IsName owner) (also : next ≡ plain name) (variable : IsVariable name) where
    behind_define : (third : LineWord) (formula : List LineWord) → third ≡ plain (codes "when") → IsJudgedDefinition (word ∷ next ∷ third ∷ formula)
    behind_define third formula when =
        let written : word ∷ next ∷ third ∷ formula ≡ plain owner ∷ plain name ∷ plain (codes "when") ∷ formula =
        ap (λ (w : LineWord). w ∷ next ∷ third ∷ formula) is ∙ ap (λ (w : LineWord). plain owner ∷ w ∷ third ∷ formula) also
        ∙ ap (λ (w : LineWord). plain owner ∷ plain name ∷ w ∷ formula) when in
        elim (judged_formula Unsided formula) [
          | inl says ↦
              inl (
                define owner name says.0,
                define_right version stage may methods owner name named variable (word ∷ next ∷ third ∷ formula) formula says.0 written says.1,
              )
          | inr wrong ↦
              inr (
                4 + wrong.0,
                define_refused version stage may methods owner name named variable (word ∷ next ∷ third ∷ formula) formula wrong.0 written wrong.1,
              )
        ]

    behind_name : (behind : List LineWord) → IsJudgedDefinition (word ∷ next ∷ behind)
    behind_name [] =
        inr (3, name_last version stage may methods (word ∷ next ∷ []) (next ∷ []) [] word next owner name refl is named refl also variable refl)
    behind_name (third ∷ formula) = elim (is_word third (codes "when")) [
      | inl when ↦ behind_define third formula when
      | inr none ↦
          inr (
            3,
            define_no_when version stage may methods (word ∷ next ∷ third ∷ formula) (next ∷ third ∷ formula) (third ∷ formula) formula word next third owner name
                refl is named refl also variable refl none,
          )
    ]

  behind_owner : (word : LineWord) (owner : List ℕ) → word ≡ plain owner → IsName owner → (rest : List LineWord) → IsJudgedDefinition (word ∷ rest)
  behind_owner word owner is named [] = inr (2, owner_alone version stage may methods (word ∷ []) [] word owner refl is named refl)
  behind_owner word owner is named (next ∷ behind) = elim (variable_of next) [
    | inl found ↦ behind_name word next owner found.0 is named found.2 found.1 behind
    | inr none ↦ inr (2, name_unnamed version stage may methods (word ∷ next ∷ behind) (next ∷ behind) behind word next owner refl is named refl none)
  ]

  judged_define : (words : List LineWord) → IsJudgedDefinition words
  judged_define [] = inr (1, define_alone version stage may methods [] refl)
  judged_define (word ∷ rest) = elim (name_of word) [
    | inl found ↦ behind_owner word found.0 found.2 found.1 rest
    | inr none ↦ inr (1, owner_unnamed version stage may methods (word ∷ rest) rest word refl none)
  ]

-- ---- the line of a default

truth_of : (word : LineWord) → ((value : Bool) × (word ≡ plain (truth_word value))) ⊎ ((value : Bool) → word ≢ plain (truth_word value))
truth_of word = elim (is_word word (codes "true")) [
  | inl is ↦ inl (true, is)
  | inr no_true ↦ elim (is_word word (codes "false")) [
    | inl is ↦ inl (false, is)
    | inr no_false ↦ inr (neither no_true no_false)
  ]
] where
  neither : ¬ (word ≡ plain (codes "true")) → ¬ (word ≡ plain (codes "false")) → (value : Bool) → word ≢ plain (truth_word value)
  neither no_true no_false true = no_true
  neither no_true no_false false = no_false

judged_default : (version : Version) (stage : Stage) (may : MayDefault version stage) (methods : List (List ℕ)) (words : List LineWord)
    → IsJudged (RightLine version stage methods) (plain (codes "default") ∷ words)
judged_default version stage may methods [] = inr (1, default_alone version stage may methods [] refl)
judged_default version stage may methods (word ∷ rest) = elim (truth_of word) [
  | inl found ↦ behind found.0 found.1 rest
  | inr none ↦ inr (1, default_unnamed version stage may methods (word ∷ rest) rest word refl none)
] where
  behind : (value : Bool) → word ≡ plain (truth_word value) → (rest : List LineWord) → IsJudged (RightLine version stage methods) (plain (codes "default") ∷ word ∷ rest)
  behind value is [] = inl (default value, default_right version stage may methods (word ∷ []) [] word value refl is refl)
  behind value is (next ∷ more) = inr (2, default_longer version stage may methods (word ∷ next ∷ more) (next ∷ more) more word next value refl is refl)

-- ---- any line

-- where such a line may stand, and whether the word begins it
where_methods : (stage : Stage) → (stage ≡ Methods) ⊎ ¬ (stage ≡ Methods)
where_methods Outside = inr (λ e. cc)
where_methods Methods = inl refl
where_methods Definitions = inr (λ e. cc)
where_methods Defaulted = inr (λ e. cc)
where_methods Pairs = inr (λ e. cc)

where_inside : (stage : Stage) → (stage ≢ Outside) ⊎ ¬ (stage ≢ Outside)
where_inside Outside = inr (λ inside. inside refl)
where_inside Methods = inl (λ e. cc)
where_inside Definitions = inl (λ e. cc)
where_inside Defaulted = inl (λ e. cc)
where_inside Pairs = inl (λ e. cc)

may_define : (version : Version) (stage : Stage) → MayDefine version stage ⊎ ¬ (MayDefine version stage)
may_define One stage = inr (λ may. let two = may.0 in cc)
may_define Two Outside = inr (λ may. elim may.1 [ inl e ↦ cc | inr e ↦ cc ])
may_define Two Methods = inl (refl, inl refl)
may_define Two Definitions = inl (refl, inr refl)
may_define Two Defaulted = inr (λ may. elim may.1 [ inl e ↦ cc | inr e ↦ cc ])
may_define Two Pairs = inr (λ may. elim may.1 [ inl e ↦ cc | inr e ↦ cc ])

may_default : (version : Version) (stage : Stage) → MayDefault version stage ⊎ ¬ (MayDefault version stage)
may_default One stage = inr (λ may. let two = may.0 in cc)
may_default Two Outside = inr (λ may. elim may.1 [ inl e ↦ cc | inr more ↦ elim more [ inl e ↦ cc | inr e ↦ cc ] ])
may_default Two Methods = inl (refl, inl refl)
may_default Two Definitions = inl (refl, inr (inl refl))
may_default Two Defaulted = inl (refl, inr (inr refl))
may_default Two Pairs = inr (λ may. elim may.1 [ inl e ↦ cc | inr more ↦ elim more [ inl e ↦ cc | inr e ↦ cc ] ])

begins_with : {May : Type 0} → May ⊎ ¬ May → (word : LineWord) (bytes : List ℕ) → (May × (word ≡ plain bytes)) ⊎ (May → word ≢ plain bytes)
begins_with (inl may) word bytes = elim (is_word word bytes) [
  | inl is ↦ inl (may, is)
  | inr none ↦ inr (λ there. none)
]
begins_with (inr never) word bytes = inr (λ may. absurd (never may))

pub judged_words : (version : Version) (stage : Stage) (methods : List (List ℕ)) (words : List LineWord) → IsJudged (RightLine version stage methods) words
judged_words version stage methods [] = inr (0, refused_empty version [] refl stage methods)
judged_words version stage methods (word ∷ rest) = elim (is_word word (codes "kind")) [
  | inl is ↦ subst Judged (sym is) (judged_kind version stage methods rest)
  | inr no_kind ↦ elim (begins_with (where_methods stage) word (codes "method")) [
    | inl found ↦
        subst (λ (s : Stage). IsJudged (RightLine version s methods) (word ∷ rest)) (sym found.0)
        (subst (λ (w : LineWord). IsJudged (RightLine version Methods methods) (w ∷ rest)) (sym found.1) (judged_method version methods rest))
    | inr no_method ↦ elim (begins_with (where_inside stage) word (codes "commute")) [
      | inl found ↦ subst Judged (sym found.1) (judged_pair version stage found.0 methods rest)
      | inr no_commute ↦ elim (begins_with (may_define version stage) word (codes "define")) [
        | inl found ↦ subst Judged (sym found.1) (judged_define version stage found.0 methods rest)
        | inr no_define ↦ elim (begins_with (may_default version stage) word (codes "default")) [
          | inl found ↦ subst Judged (sym found.1) (judged_default version stage found.0 methods rest)
          | inr no_default ↦
              inr (
                0,
                refused_first version (word ∷ rest) rest word stage refl
                    (record { no_kind = no_kind; no_method = no_method; no_commute = no_commute; no_define = no_define; no_default = no_default }) methods,
              )
        ]
      ]
    ]
  ]
] where
  Judged : LineWord → Type 0
  Judged first = IsJudged (RightLine version stage methods) (first ∷ rest)
