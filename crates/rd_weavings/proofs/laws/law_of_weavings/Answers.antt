use Rattle.std.specs.Prelude.{IsTrue}
use Rattle.rd_weavings.proofs.SameLemmas.{racing_kept, reaches_kept}
use Rattle.rd_weavings.proofs.laws.law_of_weavings.Goals as goal

pub returns : goal.returns
returns c = record {
  reaches = λ all one other logs is also s t i j k l at_i at_j at_k at_l.
      (reaches_kept all logs one other is also s t i j k l at_i at_j at_k at_l, reaches_kept all logs other one also is s t k l i j at_k at_l at_i at_j);
  races = λ commuting all one other back logs is also s t i j k l at_i at_j at_k at_l racing.
      racing_kept (λ a b. IsTrue (commuting a b)) back all logs one other is also s t i j k l at_i at_j at_k at_l racing;
}
