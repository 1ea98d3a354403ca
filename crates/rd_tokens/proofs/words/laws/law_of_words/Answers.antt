use Rattle.rd_tokens.proofs.DialectLemmas.{some_symbol_in, one_symbol_in, token_said_in, term_word_in, truth_said_in, name_said_in}
use Rattle.rd_tokens.proofs.MarkLemmas.{numbered, one_list}
use Rattle.rd_tokens.proofs.TermLemmas.{one_term_in}
use Rattle.rd_tokens.proofs.words.laws.law_of_words.Goals as goal

pub returns : goal.returns
returns c = record {
  some = some_symbol_in;
  one = one_symbol_in;
  terms = one_term_in;
  said = token_said_in;
  found = term_word_in;
  truth = truth_said_in;
  names = name_said_in;
  numbered = numbered;
  alike = one_list;
}
