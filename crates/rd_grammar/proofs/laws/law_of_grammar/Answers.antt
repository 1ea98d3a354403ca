use Rattle.rd_grammar.specs.Grammar.{MarksSay, disj}
use Rattle.rd_grammar.proofs.CanonicalLemmas.{canonical_are_read, has_canonical}
use Rattle.rd_grammar.proofs.FirstWrong.{one_place, right_nowhere}
use Rattle.rd_grammar.proofs.ReadLemmas.{each_judged, one_tree}
use Rattle.rd_grammar.proofs.laws.law_of_grammar.Goals as goal

pub returns : goal.returns
returns c = record {
  one = one_tree;
  judged = each_judged;
  right = right_nowhere (MarksSay disj);
  place = λ front rest others more. one_place (MarksSay disj) front rest others more;
  canonical = canonical_are_read;
  shown = has_canonical;
}
