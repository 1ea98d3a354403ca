use Rattle.std.proofs.Common.{arith, ◌≢◌}
use Rattle.rd_ecl.specs.Formulas.{tree_of}
use Rattle.rd_formulas.specs.Reading.{IsFormulaRefused, IsTroubled, SaysFormula}
use Rattle.rd_formulas.proofs.FindingLemmas.{err_then, ok_then}
use Rattle.rd_formulas.proofs.ReadingLemmas.{few_named, has_terms, refused_by}
use Rattle.rd_formulas.proofs.SayingLemmas.{unnamed_says}
use Rattle.rd_formulas.proofs.reading.read_formula.Goals as goal
use Rattle.rd_formulas.specs.Scope.{Outlines}
use Rattle.rd_tokens.specs.declared.words.dialects.Dialect.TheVariants.{Named}
use Rattle.rd_grammar.specs.Grammar.{MarksSay, disj, parsed_tree}

pub resolve-requires-clause-terms : goal.resolve-requires-clause-terms
resolve-requires-clause-terms c =
    has_terms c.args.scope.now c.in_ok-marks.marks (parsed_tree c.in-Ok.parsed) c.requires.scope.0 c.in_ok-marks.ensures (rw (← c.items.ensures) c.in-Ok.ensures.ok)

pub resolve-requires-clause-few : goal.resolve-requires-clause-few
resolve-requires-clause-few c =
    let count = c.in_ok-marks.ensures.count in
    let few = c.requires.few in
    few_named c.in_ok-marks.marks (parsed_tree c.in-Ok.parsed) (rw (← c.items.ensures) c.in-Ok.ensures.ok) (omega (arith, count, few))

pub returns-in-Ok-clause-refused : goal.returns-in-Ok-clause-refused
returns-in-Ok-clause-refused c =
    let scope = c.args.scope.now in
    let read = parsed_tree c.in-Ok.parsed in
    let says : MarksSay disj c.in_ok-marks.marks read = rw (← c.items.ensures) c.in-Ok.ensures.ok in
    err_then c.resolve.result (IsTroubled scope read) (IsFormulaRefused scope) (λ refused wrong. refused_by scope read refused (c.in_ok-marks.marks, c.in_ok-marks.ensures, says) wrong)
    c.resolve.ensures.refused

pub returns-in-Ok-clause-says : goal.returns-in-Ok-clause-says
returns-in-Ok-clause-says c =
    let scope = c.args.scope.now in
    let read = parsed_tree c.in-Ok.parsed in
    let says : MarksSay disj c.in_ok-marks.marks read = rw (← c.items.ensures) c.in-Ok.ensures.ok in
    let terms = has_terms scope c.in_ok-marks.marks read c.requires.scope.0 c.in_ok-marks.ensures says in
    ok_then c.resolve.result (λ f. Outlines scope read (tree_of f)) (λ f. scope.dialect ≢ Named → SaysFormula scope (tree_of f))
    (λ f outlines none. (read, (c.in_ok-marks.marks, c.in_ok-marks.ensures, says), unnamed_says scope read (tree_of f) none terms outlines)) c.resolve.ensures.outlines
