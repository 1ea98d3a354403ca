-- A formula has at most three words for each of its nodes.
use Rattle.std.proofs.Common.{◌≡◌, ℕ, ◌+◌, ◌*◌, ◌≤◌, Bool, true, false, List, [], ◌∷◌, ◌++◌, codes, length, length-append, arith}
use Rattle.rd_ecl.specs.declared.formulas.Rel.TheVariants.{Eq, Lt, Le}
use Rattle.rd_ecl.specs.Formulas.{Tree, truth, atom, cross, mixed, negation, both, either, nodes, post_order}
use Rattle.rd_print.specs.declared.canonical.word_list.PrintedWord.{PrintedWord}
use Rattle.rd_print.specs.Canonical.{closing, has_two_parts, is_or, not_words, part_words, plain_word, canonical_words}

-- how many parentheses a part has that needs them
abbrev pair : Bool → ℕ
pair true = 2
pair false = 0

part_length : (needs : Bool) (words : List PrintedWord) → length (part_words needs words) ≡ length words + pair needs
part_length false words = omega arith
part_length true words = omega (arith, length-append words (closing ∷ []))

or_of_two : (f : Tree) → pair (is_or f) ≤ pair (has_two_parts f)
or_of_two (truth value) = omega arith
or_of_two (atom side rel left right) = omega arith
or_of_two (cross i j) = omega arith
or_of_two (mixed rel flipped i j) = omega arith
or_of_two (negation f) = omega arith
or_of_two (both f g) = omega arith
or_of_two (either f g) = omega arith

module _ (first second : List (List ℕ)) where
  abbrev Few : Tree → List PrintedWord → ℕ → Type 0
  Few f words count = length words + pair (has_two_parts f) ≤ 3 * count

  plain_not : (f : Tree) (bytes : List ℕ) (words : List PrintedWord) (count : ℕ) → Few f words count
      → length (plain_word bytes ∷ part_words (has_two_parts f) words) + 0 ≤ 3 * (count + 1)
  plain_not f bytes words count few = omega (arith, part_length (has_two_parts f) words, few)

  not_few : (f : Tree) (words : List PrintedWord) (count : ℕ) → Few f words count → length (not_words first second f words) + 0 ≤ 3 * (count + 1)
  not_few (truth value) words count few = plain_not (truth value) (codes "not") words count few
  not_few (atom side Eq left right) words count few = omega arith
  not_few (atom side Lt left right) words count few = plain_not (atom side Lt left right) (codes "not") words count few
  not_few (atom side Le left right) words count few = plain_not (atom side Le left right) (codes "not") words count few
  not_few (cross i j) words count few = plain_not (cross i j) (codes "not") words count few
  not_few (mixed rel flipped i j) words count few = plain_not (mixed rel flipped i j) (codes "not") words count few
  not_few (negation f) words count few = plain_not (negation f) (codes "not") words count few
  not_few (both f g) words count few = plain_not (both f g) (codes "not") words count few
  not_few (either f g) words count few = plain_not (either f g) (codes "not") words count few

  few_nodes : (f : Tree) → Few f (canonical_words first second f) (nodes f)
  few_nodes (truth value) = omega arith
  few_nodes (atom side rel left right) = omega arith
  few_nodes (cross i j) = omega arith
  few_nodes (mixed rel true i j) = omega arith
  few_nodes (mixed rel false i j) = omega arith
  few_nodes (negation f) =
      omega (arith, not_few f (canonical_words first second f) (nodes f) (few_nodes f), length-append (post_order f) (negation f ∷ []))
  few_nodes (both f g) =
      let left = part_words (is_or f) (canonical_words first second f) in
      let right = part_words (has_two_parts g) (canonical_words first second g) in
      omega (
        arith,
        few_nodes f,
        few_nodes g,
        or_of_two f,
        part_length (is_or f) (canonical_words first second f),
        part_length (has_two_parts g) (canonical_words first second g),
        length-append left (plain_word (codes "and") ∷ right),
        length-append (post_order f ++ post_order g) (both f g ∷ []),
        length-append (post_order f) (post_order g),
      )
  few_nodes (either f g) =
      let left = canonical_words first second f in
      let right = part_words (is_or g) (canonical_words first second g) in
      omega (
        arith,
        few_nodes f,
        few_nodes g,
        or_of_two g,
        part_length (is_or g) (canonical_words first second g),
        length-append left (plain_word (codes "or") ∷ right),
        length-append (post_order f ++ post_order g) (either f g ∷ []),
        length-append (post_order f) (post_order g),
      )

  pub few_words : (f : Tree) → length (canonical_words first second f) ≤ 3 * nodes f
  few_words f = omega (arith, few_nodes f)
