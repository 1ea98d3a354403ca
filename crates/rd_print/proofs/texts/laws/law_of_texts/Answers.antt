use Rattle.rd_print.proofs.TextAgainLemmas.{behind_again, front_again, one_words, words_again}
use Rattle.rd_print.proofs.TextFormulaLemmas.{says_formula}
use Rattle.rd_print.proofs.TextPlainLemmas.{words_plain}
use Rattle.rd_print.proofs.TextSoundLemmas.{formula_sound}
use Rattle.rd_print.proofs.texts.laws.law_of_texts.Goals as goal

pub returns : goal.returns
returns c = record {
  again = words_again;
  parts = λ front words tokens each are. (front_again front words tokens each are, behind_again front words tokens each are);
  bytes = words_plain;
  one = one_words;
  sound = formula_sound;
  formula = says_formula;
}
