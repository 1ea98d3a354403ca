use Rattle.std.proofs.Common.{option_map, arith, sym, ap, ◌∙◌}
use Rattle.rd_grammar.specs.Grammar.{parsed_tree}
use Rattle.rd_grammar.specs.Machine.{state_of}
use Rattle.rd_grammar.proofs.ReadLemmas.{says_at_end, wrong_here, nothing_said_here, wrong_at_end, nothing_said_at_end}
use Rattle.rd_grammar.proofs.reader.parse_formula.Goals as goal

pub returns-in_default-clause-syntax : goal.returns-in_default-clause-syntax
returns-in_default-clause-syntax c =
    wrong_here c.args.marks.now c.loop-place.place (state_of c.loop-place.reader) _ (omega arith) c.loop-place.invariant
    (sym c.in_ok-next.ensures ∙ ap (option_map state_of) c.in_default.is)

pub returns-in_default-clause-only : goal.returns-in_default-clause-only
returns-in_default-clause-only c place is =
    nothing_said_here c.args.marks.now c.loop-place.place (state_of c.loop-place.reader) _ (omega arith) c.loop-place.invariant
    (sym c.in_ok-next.ensures ∙ ap (option_map state_of) c.in_default.is)

pub returns-in-Some-2-clause-ok : goal.returns-in-Some-2-clause-ok
returns-in-Some-2-clause-ok c =
    says_at_end c.args.marks.now c.loop-place.place (state_of c.loop-place.reader) (parsed_tree c.in-Some-2.formula) (omega arith) c.loop-place.invariant
    (sym c.in_ok-formula.ensures ∙ ap (option_map parsed_tree) c.in-Some-2.is)

pub returns-in-None-clause-syntax : goal.returns-in-None-clause-syntax
returns-in-None-clause-syntax c =
    wrong_at_end c.args.marks.now c.loop-place.place (state_of c.loop-place.reader) (omega arith) c.loop-place.invariant
    (sym c.in_ok-formula.ensures ∙ ap (option_map parsed_tree) c.in-None.is)

pub returns-in-None-clause-only : goal.returns-in-None-clause-only
returns-in-None-clause-only c place is =
    nothing_said_at_end c.args.marks.now c.loop-place.place (state_of c.loop-place.reader) (omega arith) c.loop-place.invariant
    (sym c.in_ok-formula.ensures ∙ ap (option_map parsed_tree) c.in-None.is)
