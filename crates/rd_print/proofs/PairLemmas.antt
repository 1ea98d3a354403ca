-- The text of a pair, part by part.
use Rattle.std.proofs.Common.{◌≡◌, ℕ, Bool, true, false, List, [], ◌∷◌, ◌++◌, codes, refl, sym, ◌∙◌, ap, append_assoc, Option, Some}
use Rattle.std.specs.Prelude.{option_map, slice_get, unwrap_or}
use Rattle.rd_base.specs.declared.values.Value.{Value}
use Rattle.rd_base.specs.declared.values.Value.TheVariants.{Nil, Bool as Truth, Int, Text}
use Rattle.rd_print.specs.declared.canonical.word_list.PrintedWord.{PrintedWord}
use Rattle.rd_print.specs.Canonical.{is_or, not_words, part_words, plain_word, sided_words, relation_sign, sort_of_value, term_word, canonical_words}
use Rattle.rd_ecl.specs.declared.formulas.Rel.TheVariants.{Eq, Lt, Le}
use Rattle.rd_ecl.specs.declared.formulas.Side.{Side}
use Rattle.rd_ecl.specs.declared.formulas.Side.TheVariants.{First, Second}
use Rattle.rd_ecl.specs.declared.formulas.Term.{Term}
use Rattle.rd_ecl.specs.declared.formulas.Term.TheVariants.{Slot, Const}
use Rattle.rd_ecl.specs.declared.kinds.Method.{Method}
use Rattle.rd_ecl.specs.Formulas.{Tree, truth, atom, cross, mixed, negation, both, either}
use Rattle.rd_ecl.specs.Specified.{SpecifiedKind, formula_at}
use Rattle.rd_grammar.specs.declared.marks.Sign.{Sign}
use Rattle.rd_grammar.specs.declared.marks.Sign.TheVariants.{Different}
use Rattle.rd_tokens.specs.declared.sorts.Sort.TheVariants.{Word as Plain}
use Rattle.rd_print.specs.Text.{gap, words_text}
use Rattle.rd_print.specs.Printed.{name_at, pair_text, variables_at}

-- a space stands before the words, behind a word
abbrev IsBegun : List PrintedWord → Type 0
IsBegun [] = ⊥
IsBegun (w ∷ words) = gap Plain w.sort ≡ codes " "

both_begun : (words more : List PrintedWord) → IsBegun words → IsBegun (words ++ more)
both_begun [] more is = absurd is
both_begun (w ∷ words) more is = is

part_begun : (needs : Bool) (words : List PrintedWord) → IsBegun words → IsBegun (part_words needs words)
part_begun false words is = is
part_begun true words is = refl

value_begun : (value : Value) → gap Plain (sort_of_value value) ≡ codes " "
value_begun Nil = refl
value_begun (Truth value) = refl
value_begun (Int z) = refl
value_begun (Text text) = refl

module _ (first second : List (List ℕ)) where
  term_begun : (side : Side) (names : List (List ℕ)) (term : Term) → gap Plain (term_word side names term).sort ≡ codes " "
  term_begun side names (Slot slot) = refl
  term_begun side names (Const value) = value_begun value

  sided_begun : (side : Side) (sign : Sign) (left right : Term) → IsBegun (sided_words first second side sign left right)
  sided_begun First sign left right = term_begun First first left
  sided_begun Second sign left right = term_begun Second second left

  not_begun : (f : Tree) (words : List PrintedWord) → IsBegun (not_words first second f words)
  not_begun (atom side Eq left right) words = sided_begun side Different left right
  not_begun (atom side Lt left right) words = refl
  not_begun (atom side Le left right) words = refl
  not_begun (truth value) words = refl
  not_begun (cross i j) words = refl
  not_begun (mixed rel flipped i j) words = refl
  not_begun (negation f) words = refl
  not_begun (both f g) words = refl
  not_begun (either f g) words = refl

  words_begun : (f : Tree) → IsBegun (canonical_words first second f)
  words_begun (truth value) = refl
  words_begun (atom side rel left right) = sided_begun side (relation_sign rel) left right
  words_begun (cross i j) = refl
  words_begun (mixed rel false i j) = refl
  words_begun (mixed rel true i j) = refl
  words_begun (negation f) = not_begun f (canonical_words first second f)
  words_begun (both f g) = both_begun (part_words (is_or f) (canonical_words first second f)) _ (part_begun (is_or f) _ (words_begun f))
  words_begun (either f g) = both_begun (canonical_words first second f) _ (words_begun f)

when_text : (words : List PrintedWord) → IsBegun words → words_text (plain_word (codes "when") ∷ words) ≡ codes "when " ++ words_text words
when_text [] is = absurd is
when_text (w ∷ words) is = ap (λ (xs : List ℕ). (codes "when" ++ xs) ++ words_text (w ∷ words)) is

-- the text of names, and of a formula behind `when`
abbrev pub parts_text : List ℕ → List ℕ → List ℕ → List ℕ
parts_text left right formula = left ++ codes " " ++ right ++ codes " when " ++ formula

parts : (left right formula : List ℕ) → (left ++ codes " ") ++ ((right ++ codes " ") ++ (codes "when " ++ formula)) ≡ parts_text left right formula
parts left right formula = simp append_assoc

pub formula_behind : (kind : SpecifiedKind) (first second : ℕ) (f : Tree) → formula_at kind first second ≡ Some f
    → pair_text kind first second ≡ parts_text (name_at kind.methods first) (name_at kind.methods second)
    (words_text (canonical_words (variables_at kind.methods first) (variables_at kind.methods second) f))
formula_behind kind first second f is =
    let left = name_at kind.methods first in
    let right = name_at kind.methods second in
    let words = canonical_words (variables_at kind.methods first) (variables_at kind.methods second) in
    ap (λ (o : Option Tree). (left ++ codes " ") ++ ((right ++ codes " ") ++ words_text (plain_word (codes "when") ∷ unwrap_or (option_map words o) []))) is
    ∙ ap (λ (xs : List ℕ). (left ++ codes " ") ++ ((right ++ codes " ") ++ xs)) (when_text (words f) (words_begun _ _ f))
    ∙ parts left right (words_text (words f))

-- the same, by the methods
regroup : (text left right formula : List ℕ) → (((text ++ left) ++ codes " ") ++ right) ++ codes " when " ++ formula ≡ text ++ parts_text left right formula
regroup text left right formula = simp append_assoc

pub pair_by : (kind : SpecifiedKind) (first second : ℕ) (left right : Method) (f : Tree) (text : List ℕ) → slice_get kind.methods first ≡ Some left
    → slice_get kind.methods second ≡ Some right → formula_at kind first second ≡ Some f
    → (((text ++ left.name) ++ codes " ") ++ right.name) ++ codes " when " ++ words_text (canonical_words left.variables right.variables f) ≡ text ++ pair_text kind first second
pair_by kind first second left right f text here there is =
    let behind = λ (o p : Option Method).
    words_text (canonical_words (unwrap_or (option_map (λ m. m.variables) o) []) (unwrap_or (option_map (λ m. m.variables) p) []) f) in
    let named = λ (o p : Option Method).
    parts_text (unwrap_or (option_map (λ m. m.name) o) []) (unwrap_or (option_map (λ m. m.name) p) []) (behind o p) in
    let known = formula_behind kind first second f is ∙ ap (λ (o : Option Method). named o (slice_get kind.methods second)) here ∙ ap (λ (p : Option Method). named (Some left) p) there in
    regroup text left.name right.name (words_text (canonical_words left.variables right.variables f)) ∙ ap (λ (xs : List ℕ). text ++ xs) (sym known)
