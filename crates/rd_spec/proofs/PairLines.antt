-- The lines of a kind's pairs are read again.
use Rattle.std.proofs.Common.{◌≡◌, ◌≢◌, ℕ, zero, suc, ◌+◌, ◌<◌, ◌≤◌, false, List, [], ◌∷◌, ◌++◌, length, map, drop, codes, Some, None, refl, sym, ap, subst, arith, inl, inr, ◌∙◌}
use Rattle.std.specs.Prelude.{All, slice_get, option_map, unwrap_or, is_some}
use Rattle.std.specs.List.{AllByRecursion}
use Rattle.std.proofs.lemmas.List.{length-map, drop-map}
use Rattle.std.proofs.lemmas.Option.{slice_get-get_or}
use Rattle.rd_base.specs.Names.{IsName}
use Rattle.rd_base.proofs.FoundLemmas.{each_by_recursion, each_from_recursion}
use Rattle.rd_print.specs.declared.canonical.word_list.PrintedWord.{PrintedWord}
use Rattle.rd_print.specs.Canonical.{plain_word, canonical_words}
use Rattle.rd_print.proofs.WordFewLemmas.{few_words}
use Rattle.rd_reading.specs.Adding.{AcceptsSpecLine}
use Rattle.rd_reading.specs.Causes.{HasManyTokens}
use Rattle.rd_pairs.specs.PairCauses.{AreNumbers, HasManyPredicates, IsPaired, IsUnknownAt, PairHas, scope_of, variables_of_method}
use Rattle.rd_pairs.specs.Causes.{HasNone}
use Rattle.rd_ecl.specs.declared.kinds.Method.{Method}
use Rattle.rd_ecl.specs.Formulas.{Tree, Fits, AreValues}
use Rattle.rd_ecl.specs.Specified.{AreMethods, IsPair, SpecifiedKind, formula_at, names_of, slots_at}
use Rattle.rd_ecl.specs.Variables.{AreVariables}
use Rattle.rd_formulas.specs.Reading.{SaysFormula}
use Rattle.rd_formulas.specs.Scope.{SaysTree}
use Rattle.rd_formulas.specs.declared.scope.Scope.{Scope}
use Rattle.rd_grammar.specs.Grammar.{ParsedTree}
use Rattle.rd_lines.specs.declared.forms.Stage.{Stage}
use Rattle.rd_lines.specs.declared.forms.Stage.TheVariants.{Outside, Pairs}
use Rattle.rd_lines.specs.declared.forms.Version.{Version}
use Rattle.rd_lines.specs.declared.forms.Version.TheVariants.{One}
use Rattle.rd_lines.specs.Lines.{AreMarksFrom, IsOutOfOrder, LineWord, plain, word_at, words_of, commute as commute_said}
use Rattle.rd_lines.proofs.FormulaLemmas.{words_marked}
use Rattle.rd_open_kind.specs.Opened.{Opened, with_pair_in}
use Rattle.rd_pairs.proofs.ScopeLemmas.{slots_are}
use Rattle.rd_pairs.proofs.NumberLemmas.{AreDifferent, contained, one_pair, one_place}
use Rattle.rd_pairs.proofs.MeaningLemmas.{one_formula}
use Rattle.rd_print.specs.Printed.{commute_words, formula_words, name_at}
use Rattle.rd_print.specs.Text.{IsRightWord, words_text}
use Rattle.rd_print.proofs.TextFormulaLemmas.{says_formula}
use Rattle.rd_tokens.specs.declared.sorts.Token.{Token}
use Rattle.rd_tokens.specs.declared.words.dialects.Dialect.TheVariants.{Sided}
use Rattle.rd_tokens.specs.Tokens.{AreTokens}
use Rattle.rd_reading.specs.Texts.{ReadsLines}
use Rattle.rd_spec.proofs.AcceptLemmas.{accepted}
use Rattle.rd_spec.proofs.FormulaLines.{IsSmall, formula_clean}
use Rattle.rd_spec.proofs.MethodLines.{at, line_read}
use Rattle.rd_spec.proofs.TextLemmas.{kept_line, lift}

-- ---- what a pair's line may have, and this one hasn't

-- the kind, two of its methods, and a formula that may be set
pub record IsReady (kind : SpecifiedKind) (m n : ℕ) (f : Tree) : Type 0 where
  pub names : AreDifferent (names_of kind.methods)
  pub variables : (i : ℕ) → AreDifferent (variables_of_method kind i)
  pub small : IsSmall f
  pub unset : formula_at kind m n ≡ None
  pub room : ¬ (HasManyPredicates kind m n f)

module _ (version : Version) (opened : Opened) (line : List ℕ) (tokens : List Token) (first second : List ℕ) (read : ParsedTree) (m n : ℕ) (f : Tree)
    (ready : IsReady opened.kind m n f) (are : AreNumbers opened.kind first second m n) (says : SaysTree (scope_of version opened line tokens m n) read f) where
  known_methods : (place : ℕ) → ¬ (IsUnknownAt (names_of opened.kind.methods) first second line tokens place)
  known_methods place (inl (unknown, there)) = unknown (contained (names_of opened.kind.methods) first m are.first_name)
  known_methods place (inr (known, unknown, there)) = unknown (contained (names_of opened.kind.methods) second n are.second_name)

  new_pair : (place : ℕ) → ¬ (IsPaired opened.kind line tokens m n place)
  new_pair place (set, there) =
      let never : is_some (formula_at opened.kind m n) ≡ false = ap is_some ready.unset in absurd (cc)

  pub pair_clean : HasNone (PairHas version opened line tokens first second read)
  pair_clean =
      formula_clean (IsUnknownAt (names_of opened.kind.methods) first second line tokens) (AreNumbers opened.kind first second) (scope_of version opened line tokens)
      (IsPaired opened.kind line tokens) (HasManyPredicates opened.kind) line tokens read m n f known_methods
      (λ i j others. one_pair opened.kind first second m n i j ready.names are others) says
      (λ g also. one_formula (scope_of version opened line tokens m n) (ready.variables m) (ready.variables n) read g f also says) ready.small new_pair ready.room

-- ---- the methods of a pair

at_behind : (before : List (List ℕ)) (x : List ℕ) (behind : List (List ℕ)) (k i : ℕ) → i ≡ length before + k + 1
    → slice_get (before ++ x ∷ behind) i ≡ slice_get behind k
at_behind [] x behind k zero e = absurd (omega (arith, e))
at_behind [] x behind k (suc i) e = let same : i ≡ k = omega (arith, e) in ap (slice_get behind) same
at_behind (b ∷ before) x behind k zero e = absurd (omega (arith, e))
at_behind (b ∷ before) x behind k (suc i) e = at_behind before x behind k i (omega (arith, e))

at_middle : (before : List (List ℕ)) (x : List ℕ) (behind : List (List ℕ)) → slice_get (before ++ x ∷ behind) (length before) ≡ Some x
at_middle [] x behind = refl
at_middle (b ∷ before) x behind = at_middle before x behind

-- a method that isn't declared behind another is in order with it
in_their_order : (names : List (List ℕ)) (i j : ℕ) (first second : List ℕ) → AreDifferent names → slice_get names i ≡ Some first → slice_get names j ≡ Some second → i ≤ j
    → ¬ (IsOutOfOrder names first second)
in_their_order names i j first second different here there ordered (before, behind, same, (k, within, at), other) =
    let seconds : slice_get names (length before) ≡ Some second = subst (λ (l : List (List ℕ)). slice_get l (length before) ≡ Some second) (sym same) (at_middle before second behind) in
    let spot : slice_get behind k ≡ Some first = slice_get-get_or behind k first within ∙ ap Some at in
    let firsts : slice_get names (length before + k + 1) ≡ Some first =
    subst (λ (l : List (List ℕ)). slice_get l (length before + k + 1) ≡ Some first) (sym same) (at_behind before second behind k (length before + k + 1) refl ∙ spot) in
    let one : j ≡ length before = one_place names second j (length before) different there seconds in
    let two : i ≡ length before + k + 1 = one_place names first i (length before + k + 1) different here firsts in
    omega (arith, ordered, one, two)

name_there : (methods : List Method) (i : ℕ) → i < length methods → slice_get (names_of methods) i ≡ Some (name_at methods i)
name_there [] i within = absurd (omega (arith, within))
name_there (method ∷ methods) zero within = refl
name_there (method ∷ methods) (suc i) within = name_there methods i (omega (arith, within))

variables_there : (methods : List Method) (i : ℕ) → i < length methods → All (λ (method : Method). AreVariables method.variables) methods
    → AreVariables (unwrap_or (option_map (λ (method : Method). method.variables) (slice_get methods i)) [])
variables_there methods i within each = by methods i within (each_by_recursion (λ (method : Method). AreVariables method.variables) methods each) where
  by : (methods : List Method) (i : ℕ) → i < length methods → AllByRecursion (λ (method : Method). AreVariables method.variables) methods
      → AreVariables (unwrap_or (option_map (λ (method : Method). method.variables) (slice_get methods i)) [])
  by [] i within each = absurd (omega (arith, within))
  by (method ∷ methods) zero within (here, rest) = here
  by (method ∷ methods) (suc i) within (here, rest) = by methods i (omega (arith, within)) rest

-- ---- the line of a pair

-- what the printed kind knows of the pair
pub record IsPrinted (kind : SpecifiedKind) (i j : ℕ) (f : Tree) : Type 0 where
  pub ordered : i ≤ j
  pub known : j < length kind.methods
  pub there : formula_at kind i j ≡ Some f
  pub pair : IsPair f (slots_at kind.methods i) (slots_at kind.methods j)
  pub values : AreValues f
  pub methods : AreMethods kind.methods
  pub first_name : IsName (name_at kind.methods i)
  pub second_name : IsName (name_at kind.methods j)
  pub sound : All IsRightWord (commute_words kind (i, j))

commute_first : codes "commute" ≡ 99 ∷ codes "ommute"
commute_first = refl

module _ (taken : List (List ℕ)) (closed : List SpecifiedKind) (kind : SpecifiedKind) (part : Opened) (stage : Stage) (inside : stage ≢ Outside) (i j : ℕ) (f : Tree)
    (printed_there : IsPrinted kind i j f) (methods : part.kind.methods ≡ kind.methods) (ready : IsReady part.kind i j f) where
  abbrev pub first : List ℕ
  first = name_at kind.methods i

  abbrev pub second : List ℕ
  second = name_at kind.methods j

  abbrev pub words : List PrintedWord
  words = canonical_words (variables_of_method kind i) (variables_of_method kind j) f

  abbrev pub front : List PrintedWord
  front = plain_word (codes "commute") ∷ plain_word first ∷ plain_word second ∷ plain_word (codes "when") ∷ []

  all_words : commute_words kind (i, j) ≡ front ++ words
  all_words = rw printed_there.there refl

  sound_front : All IsRightWord front
  sound_front =
      let each = each_by_recursion IsRightWord (commute_words kind (i, j)) printed_there.sound in
      each_from_recursion IsRightWord front (each.0, (each.1.0, (each.1.1.0, (each.1.1.1.0, tt))))

  abbrev pub line : List ℕ
  line = words_text (commute_words kind (i, j))

  within_first : i < length kind.methods
  within_first = let ordered = printed_there.ordered in let known = printed_there.known in omega (arith, ordered, known)

  numbers : AreNumbers part.kind first second i j
  numbers = record {
    first_name = subst (λ (ms : List Method). slice_get (names_of ms) i ≡ Some (name_at kind.methods i)) (sym methods) (name_there kind.methods i within_first);
    second_name = subst (λ (ms : List Method). slice_get (names_of ms) j ≡ Some (name_at kind.methods j)) (sym methods) (name_there kind.methods j printed_there.known);
  }

  variables_first : AreVariables (variables_of_method kind i)
  variables_first = variables_there kind.methods i within_first printed_there.methods.each

  variables_second : AreVariables (variables_of_method kind j)
  variables_second = variables_there kind.methods j printed_there.known printed_there.methods.each

  -- the tokens behind `when` say the formula
  abbrev scope : List Token → Scope
  scope tokens = scope_of One (record part { kind = kind }) line tokens i j

  says : (tokens : List Token) → AreTokens line tokens → SaysFormula (scope tokens) f
  says tokens are =
      let pair = printed_there.pair in
      says_formula front tokens (scope tokens) f refl sound_front variables_first.each variables_second.each
      (subst (λ (x : ℕ). Fits f x (length (variables_of_method kind j))) (sym (slots_are kind i)) (subst (λ (y : ℕ). Fits f (slots_at kind.methods i) y) (sym (slots_are kind j)) pair.fits))
      pair.slots printed_there.values (ap words_text all_words) are refl

  -- the words behind `when`
  behind : (tokens : List Token) → words_of line tokens ≡ map lift (commute_words kind (i, j)) → words_of line (drop 4 tokens) ≡ map lift words
  behind tokens read =
      sym (drop-map (word_at line) 4 tokens) ∙ ap (λ (l : List LineWord). drop 4 l) (read ∙ ap (map lift) all_words)

  few_behind : length words ≤ 192
  few_behind = let few = ready.small.few in let count = few_words (variables_of_method kind i) (variables_of_method kind j) f in omega (arith, few, count)

  short_line : (tokens : List Token) → words_of line tokens ≡ map lift (commute_words kind (i, j)) → ¬ (HasManyTokens One (words_of line tokens))
  short_line tokens read many =
      let same : many.head ∷ many.first ∷ many.second ∷ plain (codes "when") ∷ many.behind ≡ map lift (front ++ words) =
      sym many.written ∙ read ∙ ap (map lift) all_words in
      let rest : many.behind ≡ map lift words = ap (λ (l : List LineWord). drop 4 l) same in
      let count : length many.behind ≡ length words = ap length rest ∙ length-map words lift in
      let long = many.many in
      let few = few_behind in
      omega (arith, count, long, few)

  same_scope : (tokens : List Token) (read : ParsedTree) → SaysTree (scope tokens) read f → SaysTree (scope_of One part line tokens i j) read f
  same_scope tokens read gives =
      subst (λ (ms : List Method). SaysTree (scope_of One (record part { kind = record part.kind { methods = ms } }) line tokens i j) read f) (sym methods) gives

  pub pair_read : ReadsLines taken (at One closed part stage) (line ∷ []) (at One closed (with_pair_in part i j f) Pairs)
  pair_read =
      line_read taken (at One closed part stage) (at One closed (with_pair_in part i j f) Pairs) (commute_words kind (i, j)) printed_there.sound
      (kept_line 99 (codes "ommute") (plain_word first ∷ plain_word second ∷ plain_word (codes "when") ∷ formula_words kind i j) (λ e. omega (arith, e)) (λ e. omega (arith, e)))
      (λ tokens are read. accept tokens are read (says tokens are)) where
        accept : (tokens : List Token) → AreTokens (words_text (commute_words kind (i, j))) tokens → words_of (words_text (commute_words kind (i, j))) tokens ≡ map lift (commute_words kind (i, j))
            → SaysFormula (scope tokens) f
            → AcceptsSpecLine taken (at One closed part stage) (words_text (commute_words kind (i, j))) (at One closed (with_pair_in part i j f) Pairs)
        accept tokens are read (tree, (marks, marked, said), gives) =
            let fits = same_scope tokens tree gives in
            accepted taken (at One closed part stage) line tokens One refl (commute_said first second tree) (short_line tokens read)
            (record {
              stands = inside;
              named_first = printed_there.first_name;
              named_second = printed_there.second_name;
              order = subst (λ (ms : List Method). ¬ (IsOutOfOrder (names_of ms) first second)) (sym methods)
                  (in_their_order (names_of kind.methods) i j first second (subst (λ (ms : List Method). AreDifferent (names_of ms)) methods ready.names)
                  (name_there kind.methods i within_first) (name_there kind.methods j printed_there.known) printed_there.ordered);
              behind = map lift words;
              marks = marks;
              written = read ∙ ap (map lift) all_words;
              marked = subst (λ (ws : List LineWord). AreMarksFrom Sided 0 ws marks) (behind tokens read) (words_marked Sided line (drop 4 tokens) marks marked);
              says = said;
            }) (at One closed (with_pair_in part i j f) Pairs) are
            (pair_clean One part line tokens first second tree i j f ready numbers fits)
            (i, j, f, record { numbers = numbers; says = fits }, refl)
