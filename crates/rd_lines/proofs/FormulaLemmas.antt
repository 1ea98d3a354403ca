-- Where the words of a formula are wrong: where its marks are.
use Rattle.std.proofs.Common.{◌≡◌, ◌≢◌, ◌≤◌, ℕ, zero, suc, ◌+◌, true, List, [], ◌∷◌, ◌++◌, length, take, drop, Some, refl, sym, ◌∙◌, ap, subst, arith, length-drop}
use Rattle.std.specs.Prelude.{slice_get}
use Rattle.std.specs.List.{AllByRecursion}
use Rattle.rd_tokens.specs.declared.sorts.Token.{Token}
use Rattle.rd_grammar.specs.FirstWrong.{Begins, WrongAt}
use Rattle.rd_grammar.specs.Grammar.{ParsedTree, both, either, is_term, Level, disj, conj, prim, MarksSay, disj_one, disj_or, conj_one, conj_and, neg_one, neg_not, prim_leaf, prim_in, prim_relation}
use Rattle.rd_grammar.specs.declared.marks.Mark.{Mark}
use Rattle.rd_grammar.specs.declared.marks.Symbol.{Symbol}
use Rattle.rd_grammar.specs.declared.marks.Symbol.TheVariants.{Open, Close, Not, And, Or, Leaf as LeafOf, Sign as SignOf, Other}
use Rattle.rd_tokens.specs.declared.words.dialects.Dialect.{Dialect}
use Rattle.rd_tokens.specs.Words.{IsMark, AreMarks}
use Rattle.rd_lines.specs.Lines.{LineWord, word_at, words_of, AreMarksFrom, IsWrongBehind}
use Rattle.rd_lines.specs.Reading.{WordsSayFormula, IsRefusedBehindWhen, count_of}
use Rattle.std.proofs.Common.{Result, Ok, Err, IfOk}
use Rattle.std.specs.Prelude.{IfErr}
use Rattle.std.proofs.lemmas.List.{length-map}
use Rattle.rd_grammar.specs.Grammar.{parsed_tree, AreMarksRefused}
use Rattle.rd_grammar.specs.declared.parsed.Parsed.{Parsed}
use Rattle.rd_grammar.specs.declared.parsed.MarksRefused.{MarksRefused}
use Rattle.rd_grammar.specs.declared.parsed.MarksRefused.TheVariants.{Syntax, NoMemory}
use Rattle.rd_lines.proofs.LawLemmas.{one_marks}
use Rattle.rd_lines.proofs.SpokenLemmas.{spoken, spoken_leaf, spoken_term, stays, word_for, word_is}
use Rattle.rd_base.specs.declared.limits.TheConstants.{MOST_TOKENS}

-- a formula has no mark that formulas don't have
abbrev IsSaid : Mark → Type 0
IsSaid m = m.symbol ≢ Other

said_behind : (xs ys : List Mark) → AllByRecursion IsSaid xs → AllByRecursion IsSaid ys → AllByRecursion IsSaid (xs ++ ys)
said_behind [] ys first second = second
said_behind (x ∷ xs) ys first second = (first.0, said_behind xs ys first.1 second)

said_in_rest : (xs ys : List Mark) → AllByRecursion IsSaid (xs ++ ys) → AllByRecursion IsSaid ys
said_in_rest [] ys each = each
said_in_rest (x ∷ xs) ys each = said_in_rest xs ys each.1

is_said : (m : Mark) (symbol : Symbol) → symbol ≢ Other → m.symbol ≡ symbol → IsSaid m
is_said m symbol other is same = other (sym is ∙ same)

term_said : (m : Mark) → is_term m.symbol ≡ true → IsSaid m
term_said m is same = let clash : is_term Other ≡ true = subst (λ (s : Symbol). is_term s ≡ true) same is in cc

each_said : {l : Level} {ms : List Mark} {f : ParsedTree} → MarksSay l ms f → AllByRecursion IsSaid ms
each_said (disj_one says) = each_said says
each_said (disj_or {ms = ms} {ns = ns} says m is also) = said_behind ms (m ∷ ns) (each_said says) (is_said m Or (λ e. cc) is, each_said also)
each_said (conj_one says) = each_said says
each_said (conj_and {ms = ms} {ns = ns} says m is also) = said_behind ms (m ∷ ns) (each_said says) (is_said m And (λ e. cc) is, each_said also)
each_said (neg_one says) = each_said says
each_said (neg_not m is says) = (is_said m Not (λ e. cc) is, each_said says)
each_said (prim_leaf m word is) = (is_said m (LeafOf word) (λ e. cc) is, tt)
each_said (prim_in {ms = ms} opening closing is says also) =
    (is_said opening Open (λ e. cc) is, said_behind ms (closing ∷ []) (each_said says) (is_said closing Close (λ e. cc) also, tt))
each_said (prim_relation l m r sign is signed also) = (term_said l is, (is_said m (SignOf sign) (λ e. cc) signed, (term_said r also, tt)))

-- words that say marks
abbrev words_for : Dialect → List Mark → List LineWord
words_for dialect [] = []
words_for dialect (m ∷ ms) = word_for (spoken dialect m.symbol) ∷ words_for dialect ms

take_next : {T : Type 0} (n : ℕ) (xs rest : List T) (x : T) → drop n xs ≡ x ∷ rest → take (suc n) xs ≡ take n xs ++ x ∷ []
take_next zero [] rest x same = absurd (cc)
take_next zero (y ∷ xs) rest x same = let heads : y ≡ x = cc in ap (λ (t : _). t ∷ []) heads
take_next (suc n) [] rest x same = absurd (cc)
take_next (suc n) (y ∷ xs) rest x same = ap (λ (l : List _). y ∷ l) (take_next n xs rest x same)

module _ (dialect : Dialect) where
  -- marks of tokens are marks of their words
  marks_from : (line : List ℕ) (k : ℕ) (tokens : List Token) (marks : List Mark) → length marks ≡ length tokens
      → ((place : ℕ) (token : Token) (mark : Mark) → slice_get tokens place ≡ Some token → slice_get marks place ≡ Some mark → IsMark dialect line (k + place) token mark)
      → AreMarksFrom dialect k (words_of line tokens) marks
  marks_from line k [] [] count each = tt
  marks_from line k [] (mark ∷ marks) count each = absurd (omega arith)
  marks_from line k (token ∷ tokens) [] count each = absurd (omega arith)
  marks_from line k (token ∷ tokens) (mark ∷ marks) count each =
      let first = each 0 token mark refl refl in
      let number : mark.token ≡ k = omega (arith, first.number) in
      let count_behind : length marks ≡ length tokens = omega (arith, count) in (
        first.symbol,
        number,
        marks_from line (suc k) tokens marks count_behind
            (λ place t m here there. let sum : k + suc place ≡ suc k + place = omega arith in subst (λ n. IsMark dialect line n t m) sum (each (suc place) t m here there)),
      )

  pub words_marked : (line : List ℕ) (tokens : List Token) (marks : List Mark) → AreMarks dialect line tokens marks → AreMarksFrom dialect 0 (words_of line tokens) marks
  words_marked line tokens marks are =
      marks_from line 0 tokens marks are.count
      (λ place t m here there. let sum : place ≡ 0 + place = omega arith in subst (λ n. IsMark dialect line n t m) sum (are.each place t m here there))

  -- a formula with other numbers, and with no name where no word is one, is a formula
  abbrev numbered : ℕ → List Mark → List Mark
  numbered k [] = []
  numbered k (m ∷ ms) = record { symbol = spoken dialect m.symbol; token = k } ∷ numbered (suc k) ms

  numbered_behind : (k : ℕ) (ms ns : List Mark) → numbered k (ms ++ ns) ≡ numbered k ms ++ numbered (k + length ms) ns
  numbered_behind k [] ns = let same : k ≡ k + 0 = omega arith in ap (λ (n : ℕ). numbered n ns) same
  numbered_behind k (m ∷ ms) ns =
      let sum : suc k + length ms ≡ k + length (m ∷ ms) = omega arith in
      let tails : numbered (suc k) (ms ++ ns) ≡ numbered (suc k) ms ++ numbered (k + length (m ∷ ms)) ns =
      numbered_behind (suc k) ms ns ∙ ap (λ (n : ℕ). numbered (suc k) ms ++ numbered n ns) sum in
      ap (λ (l : List Mark). record { symbol = spoken dialect m.symbol; token = k } ∷ l) tails

  renumbered : {l : Level} {ms : List Mark} {f : ParsedTree} → MarksSay l ms f → (k : ℕ) → (g : ParsedTree) × MarksSay l (numbered k ms) g
  renumbered (disj_one says) k = let part = renumbered says k in (part.0, disj_one part.1)
  renumbered (disj_or {ms = ms} {ns = ns} says m is also) k =
      let left = renumbered says k in
      let right = renumbered also (suc (k + length ms)) in
      let whole = disj_or left.1 (record { symbol = spoken dialect m.symbol; token = k + length ms }) (ap (spoken dialect) is) right.1 in
      let f = either left.0 (k + length ms) right.0 in (f, subst (λ (l : List Mark). MarksSay disj l f) (sym (numbered_behind k ms (m ∷ ns))) whole)
  renumbered (conj_one says) k = let part = renumbered says k in (part.0, conj_one part.1)
  renumbered (conj_and {ms = ms} {ns = ns} says m is also) k =
      let left = renumbered says k in
      let right = renumbered also (suc (k + length ms)) in
      let whole = conj_and left.1 (record { symbol = spoken dialect m.symbol; token = k + length ms }) (ap (spoken dialect) is) right.1 in
      let f = both left.0 (k + length ms) right.0 in (f, subst (λ (l : List Mark). MarksSay conj l f) (sym (numbered_behind k ms (m ∷ ns))) whole)
  renumbered (neg_one says) k = let part = renumbered says k in (part.0, neg_one part.1)
  renumbered (neg_not m is says) k = let part = renumbered says (suc k) in (_, neg_not (record { symbol = spoken dialect m.symbol; token = k }) (ap (spoken dialect) is) part.1)
  renumbered (prim_leaf m word is) k = (_, prim_leaf (record { symbol = spoken dialect m.symbol; token = k }) (spoken_leaf word dialect) (ap (spoken dialect) is))
  renumbered (prim_in {ms = ms} opening closing is says also) k =
      let part = renumbered says (suc k) in
      let whole = prim_in (record { symbol = spoken dialect opening.symbol; token = k }) (record { symbol = spoken dialect closing.symbol; token = suc k + length ms }) (ap (spoken dialect) is) part.1 (ap (spoken dialect) also) in
      let parts : numbered k (opening ∷ ms ++ closing ∷ []) ≡ record { symbol = spoken dialect opening.symbol; token = k } ∷ numbered (suc k) ms ++ record { symbol = spoken dialect closing.symbol; token = suc k + length ms } ∷ [] =
      ap (λ (l : List Mark). record { symbol = spoken dialect opening.symbol; token = k } ∷ l) (numbered_behind (suc k) ms (closing ∷ [])) in
      (part.0, subst (λ (l : List Mark). MarksSay prim l part.0) (sym parts) whole)
  renumbered (prim_relation l m r sign is signed also) k = (
    _,
    prim_relation (record { symbol = spoken dialect l.symbol; token = k }) (record { symbol = spoken dialect m.symbol; token = suc k }) (record { symbol = spoken dialect r.symbol; token = suc (suc k) }) sign
        (spoken_term dialect l.symbol is) (ap (spoken dialect) signed) (spoken_term dialect r.symbol also),
  )

  extended : (k : ℕ) (front : List LineWord) (marks more : List Mark) → AreMarksFrom dialect k front marks → AllByRecursion IsSaid more
      → AreMarksFrom dialect k (front ++ words_for dialect more) (numbered k (marks ++ more))
  extended k [] [] [] are each = tt
  extended k [] [] (m ∷ more) are each = (word_is dialect m.symbol each.0, refl, extended (suc k) [] [] more tt each.1)
  extended k [] (mark ∷ marks) more are each = absurd are
  extended k (word ∷ front) [] more are each = absurd are
  extended k (word ∷ front) (mark ∷ marks) more are each = (stays dialect word.sort word.bytes mark.symbol are.0, refl, extended (suc k) front marks more are.2 each)

  -- words begin a formula exactly where their marks do
  begins_words : (front : List LineWord) (marks : List Mark) → AreMarksFrom dialect 0 front marks → Begins (MarksSay disj) marks → Begins (WordsSayFormula dialect) front
  begins_words front marks are (more, f, says) =
      let again = renumbered says 0 in (
        words_for dialect more,
        again.0,
        record { marks = numbered 0 (marks ++ more); marked = extended 0 front marks more are (said_in_rest marks more (each_said says)); says = again.1 },
      )

  pub record FrontMarks (k : ℕ) (front : List LineWord) (marks : List Mark) : Type 0 where
    pub here : List Mark
    pub behind : List Mark
    pub parts : marks ≡ here ++ behind
    pub are : AreMarksFrom dialect k front here

  front_marks : (k : ℕ) (front more : List LineWord) (marks : List Mark) → AreMarksFrom dialect k (front ++ more) marks → FrontMarks k front marks
  front_marks k [] more marks are = record { here = []; behind = marks; parts = refl; are = tt }
  front_marks k (word ∷ front) more [] are = absurd are
  front_marks k (word ∷ front) more (mark ∷ marks) are =
      let rest = front_marks (suc k) front more marks are.2 in
      record {
        here = mark ∷ rest.here;
        behind = rest.behind;
        parts = ap (λ (l : List Mark). mark ∷ l) rest.parts;
        are = (are.0, are.1, rest.are);
      }

  never_words : (front : List LineWord) (marks : List Mark) → AreMarksFrom dialect 0 front marks → ¬ (Begins (MarksSay disj) marks) → ¬ (Begins (WordsSayFormula dialect) front)
  never_words front marks are none (more, f, says) =
      let cut = front_marks 0 front more says.marks says.marked in
      let same : cut.here ≡ marks = one_marks dialect 0 front cut.here marks cut.are are in
      let parts : says.marks ≡ marks ++ cut.behind = cut.parts ∙ ap (λ (l : List Mark). l ++ cut.behind) same in
      none (cut.behind, f, subst (λ (l : List Mark). MarksSay disj l f) parts says.says)

  no_words_said : (words : List LineWord) (marks : List Mark) → AreMarksFrom dialect 0 words marks → ((f : ParsedTree) → ¬ (MarksSay disj marks f)) → (f : ParsedTree) → ¬ (WordsSayFormula dialect words f)
  no_words_said words marks are none f says =
      let same : says.marks ≡ marks = one_marks dialect 0 words says.marks marks says.marked are in
      none f (subst (λ (l : List Mark). MarksSay disj l f) same says.says)

  -- the first marks are those of the first words
  marked_first : (k n : ℕ) (words : List LineWord) (marks : List Mark) → AreMarksFrom dialect k words marks → AreMarksFrom dialect k (take n words) (take n marks)
  marked_first k zero words marks are = tt
  marked_first k (suc n) [] [] are = tt
  marked_first k (suc n) [] (mark ∷ marks) are = absurd are
  marked_first k (suc n) (word ∷ words) [] are = absurd are
  marked_first k (suc n) (word ∷ words) (mark ∷ marks) are = (are.0, are.1, marked_first (suc k) n words marks are.2)

  as_many : (k : ℕ) (words : List LineWord) (marks : List Mark) → AreMarksFrom dialect k words marks → length words ≡ length marks
  as_many k [] [] are = refl
  as_many k [] (mark ∷ marks) are = absurd are
  as_many k (word ∷ words) [] are = absurd are
  as_many k (word ∷ words) (mark ∷ marks) are = let rest = as_many (suc k) words marks are.2 in ap suc rest

  wrong_words : (words : List LineWord) (marks : List Mark) (n : ℕ) (rest : List LineWord) (behind : List Mark) → AreMarksFrom dialect 0 words marks
      → drop n words ≡ rest → drop n marks ≡ behind → WrongAt (MarksSay disj) (take n marks) behind → WrongAt (WordsSayFormula dialect) (take n words) rest
  wrong_words words marks n [] [] are same also wrong = (
    begins_words (take n words) (take n marks) (marked_first 0 n words marks are) wrong.0,
    no_words_said (take n words) (take n marks) (marked_first 0 n words marks are) wrong.1,
  )
  wrong_words words marks n [] (mark ∷ behind) are same also wrong =
      absurd (omega (arith, length-drop n words, length-drop n marks, as_many 0 words marks are, ap length same, ap length also))
  wrong_words words marks n (word ∷ rest) [] are same also wrong =
      absurd (omega (arith, length-drop n words, length-drop n marks, as_many 0 words marks are, ap length same, ap length also))
  wrong_words words marks n (word ∷ rest) (mark ∷ behind) are same also wrong =
      let first = take_next n words rest word same in
      let second = take_next n marks behind mark also in
      let next : AreMarksFrom dialect 0 (take n words ++ word ∷ []) (take n marks ++ mark ∷ []) =
      rw (← first, ← second) (marked_first 0 (suc n) words marks are) in (
        begins_words (take n words) (take n marks) (marked_first 0 n words marks are) wrong.0,
        never_words (take n words ++ word ∷ []) (take n marks ++ mark ∷ []) next wrong.1,
      )

  pub formula_wrong : (words : List LineWord) (marks : List Mark) (n : ℕ) → AreMarksFrom dialect 0 words marks → n ≤ length marks
      → WrongAt (MarksSay disj) (take n marks) (drop n marks) → IsWrongBehind (WordsSayFormula dialect) words n
  formula_wrong words marks n are within wrong =
      (omega (arith, as_many 0 words marks are), wrong_words words marks n (drop n words) (drop n marks) are refl refl wrong)

  pub formula_is : (words : List LineWord) (marks : List Mark) (f : ParsedTree) → AreMarksFrom dialect 0 words marks → MarksSay disj marks f → WordsSayFormula dialect words f
  formula_is words marks f are says = record { marks = marks; marked = are; says = says }

  -- what reading the marks gives, said of the words
  pub words_say : (line : List ℕ) (tokens : List Token) (marks : List Mark) (result : Result Parsed MarksRefused) → AreMarks dialect line tokens marks
      → IfOk result (λ f. MarksSay disj marks (parsed_tree f)) → IfOk result (λ f. WordsSayFormula dialect (words_of line tokens) (parsed_tree f))
  words_say line tokens marks (Ok parsed) are says = formula_is (words_of line tokens) marks (parsed_tree parsed) (words_marked line tokens marks are) says
  words_say line tokens marks (Err refused) are says = tt

  pub words_refused : (line : List ℕ) (tokens : List Token) (marks : List Mark) (result : Result Parsed MarksRefused) → AreMarks dialect line tokens marks
      → IfErr result (AreMarksRefused marks) → IfErr result (IsRefusedBehindWhen dialect (words_of line tokens))
  words_refused line tokens marks (Ok parsed) are refused = tt
  words_refused line tokens marks (Err (Syntax count)) are refused =
      formula_wrong (words_of line tokens) marks count (words_marked line tokens marks are) refused.0 refused.1
  words_refused line tokens marks (Err NoMemory) are refused = tt

  pub count_bound : (line : List ℕ) (tokens : List Token) (result : Result Parsed MarksRefused) → length tokens ≤ MOST_TOKENS
      → IfErr result (IsRefusedBehindWhen dialect (words_of line tokens)) → IfErr result (λ refused. count_of refused ≤ MOST_TOKENS)
  count_bound line tokens (Ok parsed) few refused = tt
  count_bound line tokens (Err (Syntax count)) few refused = omega (arith, refused.0, length-map tokens (word_at line))
  count_bound line tokens (Err NoMemory) few refused = omega arith
