use Rattle.rd_tokens.proofs.CutLemmas.{some_tokens, one_list, each_lies, each_is, tokens_rise, tokens_whole}
use Rattle.rd_tokens.proofs.cutting.law_of_tokens.Goals as goal

pub returns : goal.returns
returns c = record {
  some = some_tokens;
  one = one_list;
  within = each_lies;
  sorts = each_is;
  rise = tokens_rise;
  whole = tokens_whole;
}
