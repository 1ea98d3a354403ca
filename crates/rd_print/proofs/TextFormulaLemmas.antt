-- The canonical text of a formula says the formula.
use Rattle.std.proofs.Common.{◌≡◌, ℕ, true, List, ◌++◌, drop, length, sym, subst}
use Rattle.std.specs.Prelude.{All}
use Rattle.rd_base.proofs.FoundLemmas.{each_by_recursion, each_from_recursion}
use Rattle.rd_print.specs.declared.canonical.word_list.PrintedWord.{PrintedWord}
use Rattle.rd_print.specs.Canonical.{AreWords, canonical_words}
use Rattle.rd_print.proofs.WordAgainLemmas.{says_again}
use Rattle.rd_ecl.specs.Formulas.{Tree, Fits, has_slots, AreValues}
use Rattle.rd_ecl.specs.Variables.{IsVariable}
use Rattle.rd_formulas.specs.declared.scope.Scope.{Scope}
use Rattle.rd_formulas.specs.Reading.{SaysFormula}
use Rattle.rd_tokens.specs.declared.sorts.Token.{Token}
use Rattle.rd_tokens.specs.declared.words.dialects.Dialect.TheVariants.{Sided}
use Rattle.rd_tokens.specs.Tokens.{AreTokens}
use Rattle.rd_print.specs.Text.{IsRightWord, words_text}
use Rattle.rd_print.proofs.TextAgainLemmas.{behind_again}
use Rattle.rd_print.proofs.TextSoundLemmas.{formula_sound, sound_both}

all_both : (words more : List PrintedWord) → All IsRightWord words → All IsRightWord more → All IsRightWord (words ++ more)
all_both words more here there =
    each_from_recursion IsRightWord (words ++ more)
    (sound_both words more (each_by_recursion IsRightWord words here) (each_by_recursion IsRightWord more there))

pub says_formula : (front : List PrintedWord) (tokens : List Token) (scope : Scope) (f : Tree) → scope.dialect ≡ Sided → All IsRightWord front → All IsVariable scope.first.now
    → All IsVariable scope.second.now → Fits f (length scope.first.now) (length scope.second.now) → has_slots f ≡ true → AreValues f
    → scope.line.now ≡ words_text (front ++ canonical_words scope.first.now scope.second.now f) → AreTokens scope.line.now tokens
    → scope.tokens.now ≡ drop (length front) tokens → SaysFormula scope f
says_formula front tokens scope f sided fronts firsts seconds fits slots values line are rest =
    let words = canonical_words scope.first.now scope.second.now f in
    let sound = all_both front words fronts (formula_sound scope.first.now scope.second.now f firsts seconds fits values) in
    let behind = behind_again front words tokens sound (subst (λ (text : List ℕ). AreTokens text tokens) line are) in
    let there : AreWords scope.line.now (drop (length front) tokens) words =
    subst (λ (text : List ℕ). AreWords text (drop (length front) tokens) words) (sym line) behind in
    says_again scope f sided firsts seconds fits slots values (subst (λ (ts : List Token). AreWords scope.line.now ts words) (sym rest) there)
