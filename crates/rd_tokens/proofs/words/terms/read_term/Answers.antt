use Rattle.rd_tokens.proofs.TermLemmas.{ok_some, ok_none, found_in, found_sided}
use Rattle.rd_tokens.specs.declared.words.dialects.Dialect.TheVariants.{Unsided}
use Rattle.rd_tokens.proofs.words.terms.read_term.Goals as goal

pub returns-in-Sided : goal.returns-in-Sided
returns-in-Sided c =
    let found = found_sided c.args.dialect c.args.bytes.now c.term.result c.in-Sided.is c.term.ensures.found in
    record {
      some = ok_some c.args.dialect c.args.bytes.now c.term.result found;
      none = ok_none c.args.dialect c.args.bytes.now c.term.result found;
      memory = c.term.ensures.memory;
    }

pub returns-in-Unsided-clause-some : goal.returns-in-Unsided-clause-some
returns-in-Unsided-clause-some c =
    ok_some c.args.dialect c.args.bytes.now c.unsided_term.result
    (found_in c.args.dialect Unsided c.args.bytes.now c.unsided_term.result c.in-Unsided.is c.unsided_term.ensures.found)

pub returns-in-Unsided-clause-none : goal.returns-in-Unsided-clause-none
returns-in-Unsided-clause-none c =
    ok_none c.args.dialect c.args.bytes.now c.unsided_term.result
    (found_in c.args.dialect Unsided c.args.bytes.now c.unsided_term.result c.in-Unsided.is c.unsided_term.ensures.found)
