-- The canonical words of a formula are read again as that formula.
use Rattle.std.proofs.Common.{◌≡◌, ℕ, suc, ◌+◌, ◌<◌, Bool, true, false, ◌||◌, List, [], ◌∷◌, ◌++◌, codes, length, get_or, refl, sym, ◌∙◌, ap, subst, Option, Some}
use Rattle.std.specs.Prelude.{All, unwrap_or}
use Rattle.std.proofs.lemmas.Bool.{and_parts}
use Rattle.std.proofs.lemmas.List.Elements.{All-get_or}
use Rattle.std.proofs.lemmas.Option.{slice_get-get_or}
use Rattle.rd_base.specs.declared.values.Value.{Value}
use Rattle.rd_base.specs.declared.values.Value.TheVariants.{Nil, Bool as Truth, Int, Text}
use Rattle.rd_base.specs.Spelling.{value_spelling, IsValue}
use Rattle.rd_ecl.specs.declared.formulas.Rel.{Rel}
use Rattle.rd_ecl.specs.declared.formulas.Rel.TheVariants.{Eq, Lt, Le}
use Rattle.rd_ecl.specs.declared.formulas.Side.{Side}
use Rattle.rd_ecl.specs.declared.formulas.Side.TheVariants.{First, Second}
use Rattle.rd_ecl.specs.declared.formulas.Term.{Term}
use Rattle.rd_ecl.specs.declared.formulas.Term.TheVariants.{Slot, Const}
use Rattle.rd_ecl.specs.Formulas.{Tree, truth, atom, cross, mixed, negation, both, either, Fits, FitsTerm, has_slots, is_slot, AreValues, IsConstant}
use Rattle.rd_ecl.specs.Variables.{IsVariable}
use Rattle.rd_formulas.specs.declared.scope.Scope.{Scope}
use Rattle.rd_formulas.specs.declared.terms.Meant.{Meant}
use Rattle.rd_formulas.specs.declared.terms.Meant.TheVariants.{Slot as SlotOf, Value as ValueOf}
use Rattle.rd_formulas.specs.Meaning.{cross_relation, relation_of_terms, sided_relation}
use Rattle.rd_formulas.specs.Reading.{SaysFormula}
use Rattle.rd_formulas.specs.Scope.{MeansAt, SaysTree, token_bytes_at, variables_of}
use Rattle.rd_grammar.specs.declared.marks.Mark.{Mark}
use Rattle.rd_grammar.specs.declared.marks.Sign.{Sign}
use Rattle.rd_grammar.specs.declared.marks.Sign.TheVariants.{Different}
use Rattle.rd_grammar.specs.declared.marks.Symbol.{Symbol}
use Rattle.rd_grammar.specs.declared.marks.Leaf.TheVariants.{Truth as TruthLeaf}
use Rattle.rd_grammar.specs.declared.marks.Symbol.TheVariants.{Open, Close, Not, And, Or, Leaf as LeafMark, Sign as SignOf, Term as TermMark}
use Rattle.rd_grammar.specs.Canonical.{AreCanonical, ArePart, is_either, is_of_two as reads_two, mark}
use Rattle.rd_grammar.specs.Grammar.{ParsedTree, leaf, relation, negation as read_not, both as read_and, either as read_or, is_term}
use Rattle.rd_grammar.proofs.CanonicalLemmas.{canonical_are_read}
use Rattle.rd_tokens.specs.declared.sorts.Sort.TheVariants.{Word as Plain}
use Rattle.rd_tokens.specs.declared.words.dialects.Dialect.{Dialect}
use Rattle.rd_tokens.specs.declared.words.dialects.Dialect.TheVariants.{Sided}
use Rattle.rd_tokens.specs.declared.words.terms.Said.{Said}
use Rattle.rd_tokens.specs.declared.words.terms.Said.TheVariants.{Variable, Value as ValueSaid}
use Rattle.rd_tokens.specs.Words.{AreMarks, IsSymbol, IsTerm, SaysTerm, SaysTermIn, side_mark}
use Rattle.rd_tokens.proofs.WordLemmas.{some_symbol, term_word as word_of_term}
use Rattle.rd_print.specs.declared.canonical.word_list.PrintedWord.{PrintedWord}
use Rattle.rd_print.specs.Canonical.{AreWords, has_two_parts, is_or, not_words, part_words, plain_word, relation_words, relation_sign, slot_word, term_word, value_word, canonical_words}
use Rattle.rd_print.proofs.WordStandLemmas.{AreFrom, Stand, are_marks, from_append, stand_all, stand_back, stand_front}

-- Terms

-- the word is a term for the grammar
abbrev IsTermWord : PrintedWord → Type 0
IsTermWord word = (symbol : Symbol) × (is_term symbol ≡ true) × IsSymbol word.sort word.bytes symbol

plain_term : (bytes : List ℕ) → IsTerm bytes → IsTermWord (plain_word bytes)
plain_term bytes is = let found = some_symbol Plain bytes in (found.0, word_of_term bytes found.0 is found.1, found.1)

value_term : (value : Value) → IsValue value → IsTermWord (value_word value)
value_term Nil is = plain_term (value_spelling Nil) (ValueSaid Nil, (is, refl))
value_term (Truth true) is = plain_term (value_spelling (Truth true)) (ValueSaid (Truth true), (is, refl))
value_term (Truth false) is = plain_term (value_spelling (Truth false)) (ValueSaid (Truth false), (is, refl))
value_term (Int z) is = plain_term (value_spelling (Int z)) (ValueSaid (Int z), (is, refl))
value_term (Text text) is = (TermMark, refl, refl)

slot_bytes : (side : Side) (names : List (List ℕ)) (slot : ℕ) → slot < length names
    → (slot_word side names slot).bytes ≡ get_or names slot [] ++ side_mark side
slot_bytes side names slot within = ap (λ (o : Option (List ℕ)). unwrap_or o [] ++ side_mark side) (slice_get-get_or names slot [] within)

slot_term : (side : Side) (names : List (List ℕ)) (slot : ℕ) → All IsVariable names → slot < length names → IsTermWord (slot_word side names slot)
slot_term side names slot each within =
    plain_term (slot_word side names slot).bytes
    (Variable side (get_or names slot []), (All-get_or IsVariable names slot [] within each, slot_bytes side names slot within))

term_is : (side : Side) (names : List (List ℕ)) (term : Term) → All IsVariable names → FitsTerm term (length names) → IsConstant term
    → IsTermWord (term_word side names term)
term_is side names (Slot slot) each fits is = slot_term side names slot each fits
term_is side names (Const value) each fits is = value_term value is

-- what a term means
abbrev meant : Side → Term → Meant
meant side (Slot slot) = SlotOf side slot
meant side (Const value) = ValueOf value

sided_means : (scope : Scope) (n : ℕ) (said : Said) → scope.dialect ≡ Sided → SaysTerm (token_bytes_at scope n) said → SaysTermIn scope.dialect (token_bytes_at scope n) said
sided_means scope n said sided says = subst (λ (dialect : Dialect). SaysTermIn dialect (token_bytes_at scope n) said) (sym sided) says

slot_means : (scope : Scope) (n : ℕ) (side : Side) (slot : ℕ) → scope.dialect ≡ Sided → All IsVariable (variables_of scope side) → slot < length (variables_of scope side)
    → token_bytes_at scope n ≡ (slot_word side (variables_of scope side) slot).bytes → MeansAt scope n (SlotOf side slot)
slot_means scope n side slot sided each within here =
    let names = variables_of scope side in
    let says = sided_means scope n (Variable side (get_or names slot [])) sided (All-get_or IsVariable names slot [] within each, here ∙ slot_bytes side names slot within) in
    (get_or names slot [], says, slice_get-get_or names slot [] within)

term_means : (scope : Scope) (n : ℕ) (side : Side) (term : Term) → scope.dialect ≡ Sided → All IsVariable (variables_of scope side) → FitsTerm term (length (variables_of scope side))
    → IsConstant term → token_bytes_at scope n ≡ (term_word side (variables_of scope side) term).bytes → MeansAt scope n (meant side term)
term_means scope n side (Slot slot) sided each fits is here = slot_means scope n side slot sided each fits here
term_means scope n side (Const value) sided each fits is here = sided_means scope n (ValueSaid value) sided (is, here)

-- Relations

related_sided : (sign : Sign) (side : Side) (left right : Term) → (is_slot left || is_slot right) ≡ true
    → relation_of_terms sign (meant side left) (meant side right) ≡ Some (sided_relation sign side left right)
related_sided sign First (Slot i) (Slot j) some = refl
related_sided sign First (Slot i) (Const value) some = refl
related_sided sign First (Const value) (Slot j) some = refl
related_sided sign First (Const value) (Const other) some = absurd (cc)
related_sided sign Second (Slot i) (Slot j) some = refl
related_sided sign Second (Slot i) (Const value) some = refl
related_sided sign Second (Const value) (Slot j) some = refl
related_sided sign Second (Const value) (Const other) some = absurd (cc)

sided_sign : (rel : Rel) (side : Side) (left right : Term) → sided_relation (relation_sign rel) side left right ≡ atom side rel left right
sided_sign Eq side left right = refl
sided_sign Lt side left right = refl
sided_sign Le side left right = refl

across_sign : (rel : Rel) (flipped : Bool) (i j : ℕ) → cross_relation (relation_sign rel) flipped i j ≡ mixed rel flipped i j
across_sign Eq flipped i j = refl
across_sign Lt flipped i j = refl
across_sign Le flipped i j = refl

-- Words that are read again

-- from this number on, the words are read as the formula
record IsShown (scope : Scope) (n : ℕ) (words : List PrintedWord) (f : Tree) : Type 0 where
  read : ParsedTree
  marks : List Mark
  canonical : AreCanonical read marks
  from : AreFrom n words marks
  gives : SaysTree scope read f
  of_two : reads_two read ≡ has_two_parts f
  of_or : is_either read ≡ is_or f

-- the same of a part that may need parentheses
record IsPart (scope : Scope) (n : ℕ) (words : List PrintedWord) (f : Tree) (needs : Bool) : Type 0 where
  read : ParsedTree
  marks : List Mark
  part : ArePart needs (AreCanonical read) marks
  from : AreFrom n words marks
  gives : SaysTree scope read f
  of_two : reads_two read ≡ has_two_parts f
  of_or : is_either read ≡ is_or f

abbrev Shows : Scope → List PrintedWord → Tree → Type 0
Shows scope words f = (n : ℕ) → Stand scope n words → IsShown scope n words f

part_shown : (scope : Scope) (needs : Bool) (n : ℕ) (words : List PrintedWord) (f : Tree) → Shows scope words f → Stand scope n (part_words needs words)
    → IsPart scope n (part_words needs words) f needs
part_shown scope false n words f shows stand =
    let s = shows n stand in
    record { read = s.read; marks = s.marks; part = s.canonical; from = s.from; gives = s.gives; of_two = s.of_two; of_or = s.of_or }
part_shown scope true n words f shows stand =
    let s = shows (suc n) (stand_front scope (suc n) words _ stand.1) in
    let last = suc n + length words in
    record {
      read = s.read;
      marks = mark Open n ∷ s.marks ++ mark Close last ∷ [];
      part = (s.marks, n, last, refl, s.canonical);
      from = (refl, refl, from_append (suc n) words _ s.marks (mark Close last ∷ []) s.from (refl, refl, tt));
      gives = s.gives;
      of_two = s.of_two;
      of_or = s.of_or;
    }

relation_shown : (scope : Scope) (n : ℕ) (left right : PrintedWord) (sign : Sign) (x y : Meant) (f : Tree) → IsTermWord left → IsTermWord right
    → MeansAt scope n x → MeansAt scope (suc (suc n)) y → relation_of_terms sign x y ≡ Some f → has_two_parts f ≡ false → is_or f ≡ false
    → IsShown scope n (relation_words left sign right) f
relation_shown scope n left right sign x y f first second here there same two or =
    record {
      read = relation n sign (suc n) (suc (suc n));
      marks = mark first.0 n ∷ mark (SignOf sign) (suc n) ∷ mark second.0 (suc (suc n)) ∷ [];
      canonical = (first.0, second.0, first.1, second.1, refl);
      from = (first.2, refl, (refl, refl, (second.2, refl, tt)));
      gives = (x, y, here, there, same);
      of_two = sym two;
      of_or = sym or;
    }

-- the variables of each side, which are written with it
record AreNames (scope : Scope) : Type 0 where
  sided : scope.dialect ≡ Sided
  first : All IsVariable scope.first.now
  second : All IsVariable scope.second.now

named : (scope : Scope) (side : Side) → AreNames scope → All IsVariable (variables_of scope side)
named scope First names = names.first
named scope Second names = names.second

side_shown : (scope : Scope) (n : ℕ) (side : Side) (sign : Sign) (left right : Term) (f : Tree) → AreNames scope
    → FitsTerm left (length (variables_of scope side)) → FitsTerm right (length (variables_of scope side)) → IsConstant left → IsConstant right
    → (is_slot left || is_slot right) ≡ true → sided_relation sign side left right ≡ f → has_two_parts f ≡ false → is_or f ≡ false
    → Stand scope n (relation_words (term_word side (variables_of scope side) left) sign (term_word side (variables_of scope side) right))
    → IsShown scope n (relation_words (term_word side (variables_of scope side) left) sign (term_word side (variables_of scope side) right)) f
side_shown scope n side sign left right f names fits more is be some same two or stand =
    let vars = variables_of scope side in
    let each = named scope side names in
    relation_shown scope n (term_word side vars left) (term_word side vars right) sign (meant side left) (meant side right) f
    (term_is side vars left each fits is) (term_is side vars right each more be)
    (term_means scope n side left names.sided each fits is stand.0) (term_means scope (suc (suc n)) side right names.sided each more be stand.1.1.0)
    (related_sided sign side left right some ∙ ap (λ (t : Tree). Some t) same) two or

across_shown : (scope : Scope) (n : ℕ) (left right : Side) (sign : Sign) (i j : ℕ) (f : Tree) → AreNames scope
    → i < length (variables_of scope left) → j < length (variables_of scope right)
    → relation_of_terms sign (SlotOf left i) (SlotOf right j) ≡ Some f → has_two_parts f ≡ false → is_or f ≡ false
    → Stand scope n (relation_words (slot_word left (variables_of scope left) i) sign (slot_word right (variables_of scope right) j))
    → IsShown scope n (relation_words (slot_word left (variables_of scope left) i) sign (slot_word right (variables_of scope right) j)) f
across_shown scope n left right sign i j f names within below same two or stand =
    relation_shown scope n (slot_word left (variables_of scope left) i) (slot_word right (variables_of scope right) j) sign (SlotOf left i) (SlotOf right j) f
    (slot_term left (variables_of scope left) i (named scope left names) within)
    (slot_term right (variables_of scope right) j (named scope right names) below)
    (slot_means scope n left i names.sided (named scope left names) within stand.0)
    (slot_means scope (suc (suc n)) right j names.sided (named scope right names) below stand.1.1.0) same two or

-- Formulas

abbrev words_in : Scope → Tree → List PrintedWord
words_in scope f = canonical_words scope.first.now scope.second.now f

-- a formula of the slots that there are, with a slot in each relation and with values
record IsGood (scope : Scope) (f : Tree) : Type 0 where
  fits : Fits f (length scope.first.now) (length scope.second.now)
  slots : has_slots f ≡ true
  values : AreValues f

plain_not : (scope : Scope) (f : Tree) → Shows scope (words_in scope f) f
    → Shows scope (plain_word (codes "not") ∷ part_words (has_two_parts f) (words_in scope f)) (negation f)
plain_not scope f shows n stand =
    let p = part_shown scope (has_two_parts f) (suc n) (words_in scope f) f shows stand.1 in
    record {
      read = read_not n p.read;
      marks = mark Not n ∷ p.marks;
      canonical = (p.marks, refl, subst (λ (needs : Bool). ArePart needs (AreCanonical p.read) p.marks) (sym p.of_two) p.part);
      from = (refl, refl, p.from);
      gives = (f, refl, p.gives);
      of_two = refl;
      of_or = refl;
    }

not_shown : (scope : Scope) (f : Tree) → AreNames scope → IsGood scope f → Shows scope (words_in scope f) f
    → Shows scope (not_words scope.first.now scope.second.now f (words_in scope f)) (negation f)
not_shown scope (atom First Eq left right) names good shows n stand =
    side_shown scope n First Different left right (negation (atom First Eq left right)) names good.fits.0 good.fits.1 good.values.0 good.values.1 good.slots refl refl refl stand
not_shown scope (atom Second Eq left right) names good shows n stand =
    side_shown scope n Second Different left right (negation (atom Second Eq left right)) names good.fits.0 good.fits.1 good.values.0 good.values.1 good.slots refl refl refl stand
not_shown scope (atom side Lt left right) names good shows n stand = plain_not scope (atom side Lt left right) shows n stand
not_shown scope (atom side Le left right) names good shows n stand = plain_not scope (atom side Le left right) shows n stand
not_shown scope (truth value) names good shows n stand = plain_not scope (truth value) shows n stand
not_shown scope (cross i j) names good shows n stand = plain_not scope (cross i j) shows n stand
not_shown scope (mixed rel flipped i j) names good shows n stand = plain_not scope (mixed rel flipped i j) shows n stand
not_shown scope (negation f) names good shows n stand = plain_not scope (negation f) shows n stand
not_shown scope (both f g) names good shows n stand = plain_not scope (both f g) shows n stand
not_shown scope (either f g) names good shows n stand = plain_not scope (either f g) shows n stand

both_shown : (scope : Scope) (f g : Tree) → Shows scope (words_in scope f) f → Shows scope (words_in scope g) g → Shows scope (words_in scope (both f g)) (both f g)
both_shown scope f g first second n stand =
    let front = part_words (is_or f) (words_in scope f) in
    let p = part_shown scope (is_or f) n (words_in scope f) f first (stand_front scope n front _ stand) in
    let middle = n + length front in
    let rest = stand_back scope n front _ stand in
    let q = part_shown scope (has_two_parts g) (suc middle) (words_in scope g) g second rest.1 in
    record {
      read = read_and p.read middle q.read;
      marks = p.marks ++ mark And middle ∷ q.marks;
      canonical = (
        p.marks,
        q.marks,
        refl,
        subst (λ (needs : Bool). ArePart needs (AreCanonical p.read) p.marks) (sym p.of_or) p.part,
        subst (λ (needs : Bool). ArePart needs (AreCanonical q.read) q.marks) (sym q.of_two) q.part,
      );
      from = from_append n front _ p.marks (mark And middle ∷ q.marks) p.from (refl, refl, q.from);
      gives = (f, g, refl, p.gives, q.gives);
      of_two = refl;
      of_or = refl;
    }

either_shown : (scope : Scope) (f g : Tree) → Shows scope (words_in scope f) f → Shows scope (words_in scope g) g → Shows scope (words_in scope (either f g)) (either f g)
either_shown scope f g first second n stand =
    let front = words_in scope f in
    let p = first n (stand_front scope n front _ stand) in
    let middle = n + length front in
    let rest = stand_back scope n front _ stand in
    let q = part_shown scope (is_or g) (suc middle) (words_in scope g) g second rest.1 in
    record {
      read = read_or p.read middle q.read;
      marks = p.marks ++ mark Or middle ∷ q.marks;
      canonical = (
        p.marks,
        q.marks,
        refl,
        p.canonical,
        subst (λ (needs : Bool). ArePart needs (AreCanonical q.read) q.marks) (sym q.of_or) q.part,
      );
      from = from_append n front _ p.marks (mark Or middle ∷ q.marks) p.from (refl, refl, q.from);
      gives = (f, g, refl, p.gives, q.gives);
      of_two = refl;
      of_or = refl;
    }

left_good : (scope : Scope) (f g : Tree) → IsGood scope (both f g) → IsGood scope f
left_good scope f g good = record { fits = good.fits.0; slots = (and_parts _ _ good.slots).0; values = good.values.0 }

right_good : (scope : Scope) (f g : Tree) → IsGood scope (both f g) → IsGood scope g
right_good scope f g good = record { fits = good.fits.1; slots = (and_parts _ _ good.slots).1; values = good.values.1 }

shown : (scope : Scope) (f : Tree) → AreNames scope → IsGood scope f → Shows scope (words_in scope f) f
shown scope (truth value) names good n stand =
    record {
      read = leaf (TruthLeaf value) n;
      marks = mark (LeafMark (TruthLeaf value)) n ∷ [];
      canonical = refl;
      from = (refl, refl, tt);
      gives = refl;
      of_two = refl;
      of_or = refl;
    }
shown scope (atom First rel left right) names good n stand =
    side_shown scope n First (relation_sign rel) left right (atom First rel left right) names good.fits.0 good.fits.1 good.values.0 good.values.1 good.slots
    (sided_sign rel First left right) refl refl stand
shown scope (atom Second rel left right) names good n stand =
    side_shown scope n Second (relation_sign rel) left right (atom Second rel left right) names good.fits.0 good.fits.1 good.values.0 good.values.1 good.slots
    (sided_sign rel Second left right) refl refl stand
shown scope (cross i j) names good n stand =
    across_shown scope n First Second Different i j (cross i j) names good.fits.0 good.fits.1 refl refl refl stand
shown scope (mixed rel false i j) names good n stand =
    across_shown scope n First Second (relation_sign rel) i j (mixed rel false i j) names good.fits.0 good.fits.1
    (ap (λ (t : Tree). Some t) (across_sign rel false i j)) refl refl stand
shown scope (mixed rel true i j) names good n stand =
    across_shown scope n Second First (relation_sign rel) j i (mixed rel true i j) names good.fits.1 good.fits.0
    (ap (λ (t : Tree). Some t) (across_sign rel true i j)) refl refl stand
shown scope (negation f) names good n stand =
    let inner : IsGood scope f = record { fits = good.fits; slots = good.slots; values = good.values } in
    not_shown scope f names inner (shown scope f names inner) n stand
shown scope (both f g) names good n stand =
    both_shown scope f g (shown scope f names (left_good scope f g good)) (shown scope g names (right_good scope f g good)) n stand
shown scope (either f g) names good n stand =
    let pair : IsGood scope (both f g) = record { fits = good.fits; slots = good.slots; values = good.values } in
    either_shown scope f g (shown scope f names (left_good scope f g pair)) (shown scope g names (right_good scope f g pair)) n stand

pub says_again : (scope : Scope) (f : Tree) → scope.dialect ≡ Sided → All IsVariable scope.first.now → All IsVariable scope.second.now
    → Fits f (length scope.first.now) (length scope.second.now) → has_slots f ≡ true → AreValues f
    → AreWords scope.line.now scope.tokens.now (words_in scope f) → SaysFormula scope f
says_again scope f sided first second fits slots values are =
    let s = shown scope f (record { sided = sided; first = first; second = second }) (record { fits = fits; slots = slots; values = values }) 0 (stand_all scope (words_in scope f) are) in (
      s.read,
      (
        s.marks,
        subst (λ (dialect : Dialect). AreMarks dialect scope.line.now scope.tokens.now s.marks) (sym sided) (are_marks scope.line.now scope.tokens.now (words_in scope f) s.marks are s.from),
        canonical_are_read s.read s.marks s.canonical,
      ),
      s.gives,
    )
