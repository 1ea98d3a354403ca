use Rattle.std.proofs.Common.{arith, length, ◌-◌}
use Rattle.rd_tokens.specs.Tokens.{IsTokenOf, LiesIn}
use Rattle.rd_formula_trials.proofs.ScopeLemmas.{each_behind, none_defined}
use Rattle.rd_formula_trials.proofs.formula_texts.read.Goals as goal

pub read_formula-requires-clause-scope : goal.read_formula-requires-clause-scope
read_formula-requires-clause-scope c =
    let front = c.args.front in
    let items = c.items-2.result.now in (
      record {
        within = each_behind (LiesIn c.args.line.now) front (length items - front) items c.in_ok-found.found c.items-2.ensures c.in_ok-found.ensures.within;
        sorts = each_behind (IsTokenOf c.args.line.now) front (length items - front) items c.in_ok-found.found c.items-2.ensures c.in_ok-found.ensures.sorts;
        first = c.requires.first;
        second = c.requires.second;
        first_defined = none_defined (length c.args.first.now) c.new-none.result c.new-none.ensures;
        second_defined = none_defined (length c.args.second.now) c.new-none.result c.new-none.ensures;
      },
      omega (arith, c.if-line-gt10000.false),
    )
