use Rattle.rd_ecl.specs.Formulas.{tree_of}
use Rattle.rd_formulas.specs.Meaning.{relations_in, uses_in}
use Rattle.rd_formulas.specs.Scope.{IsBare, IsReady, IsUnknownUse, Outlines}
use Rattle.rd_formulas.proofs.BuildingLemmas.{ready}
use Rattle.rd_formulas.proofs.FindingLemmas.{no_sign, no_use, ok_then}
use Rattle.rd_formulas.proofs.reading.resolve.Goals as goal
use Rattle.rd_grammar.specs.Grammar.{parsed_tree}

pub built-requires-clause-ready : goal.built-requires-clause-ready
built-requires-clause-ready c = (
  c.requires.terms,
  ready c.args.scope.now (parsed_tree c.args.parsed.now) (no_use (IsUnknownUse c.args.scope.now) (uses_in (parsed_tree c.args.parsed.now)) c.in_default.ensures)
      (no_sign (IsBare c.args.scope.now) (relations_in (parsed_tree c.args.parsed.now)) c.in_default-first_bare.ensures),
)

pub returns-clause-ready : goal.returns-clause-ready
returns-clause-ready c =
    let scope = c.args.scope.now in
    let read = parsed_tree c.args.parsed.now in
    ok_then c.built.result (λ f. Outlines scope read (tree_of f)) (λ f. IsReady scope read) (λ f outlines. ready scope read
    (no_use (IsUnknownUse scope) (uses_in read) c.in_default.ensures) (no_sign (IsBare scope) (relations_in read) c.in_default-first_bare.ensures)) c.built.ensures.outlines
