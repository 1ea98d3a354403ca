use Rattle.rd_print.proofs.WordAgainLemmas.{says_again}
use Rattle.rd_print.proofs.WordFewLemmas.{few_words}
use Rattle.rd_print.proofs.WordOneLemmas.{says_one}
use Rattle.rd_print.proofs.canonical.laws.law_of_canonical_words.Goals as goal

pub returns : goal.returns
returns c = record {
  again = says_again;
  one = λ scope f g first second. says_one scope first second f g;
  few = few_words;
}
