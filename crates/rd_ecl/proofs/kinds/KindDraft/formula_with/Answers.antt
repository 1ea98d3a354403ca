use Rattle.std.proofs.Common.{◌≡◌, ◌≤◌, Option, Some, None, IfSome, sym, arith}
use Rattle.std.specs.Prelude.{option_map}
use Rattle.rd_ecl.specs.Formulas.{Tree, nodes, tree_of}
use Rattle.rd_ecl.specs.Specified.{formula_at}
use Rattle.rd_ecl.proofs.kinds.KindDraft.formula_with.Goals as goal
use Rattle.rd_base.specs.declared.limits.TheConstants.{MOST_TOKENS}

few_there : {X : Type 0} (tree : X → Tree) (part : Option X) (found : Option Tree) → option_map tree part ≡ found
    → ((f : Tree) → found ≡ Some f → nodes f ≤ MOST_TOKENS) → IfSome part (λ x. nodes (tree x) ≤ MOST_TOKENS)
few_there tree (Some x) found e few = few (tree x) (sym e)
few_there tree None found e few = tt

pub returns-clause-few : goal.returns-clause-few
returns-clause-few c =
    let pairs = c.methods-methods.ensures.valid.pairs in
    few_there (λ part. tree_of part.now) c.formula.result (formula_at c.args.self.now c.args.low c.args.high) c.formula.ensures
    (λ f e. let few = (pairs.each c.args.low c.args.high f e).few in omega (arith, few))
