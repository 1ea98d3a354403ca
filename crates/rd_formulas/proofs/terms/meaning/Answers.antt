use Rattle.std.proofs.Common.{◌∙◌, ap}
use Rattle.std.specs.Prelude.{Some}
use Rattle.rd_tokens.specs.Words.{SaysTermIn}
use Rattle.rd_tokens.specs.declared.words.terms.Said.TheVariants.{Variable}
use Rattle.rd_formulas.specs.Scope.{token_bytes_at}
use Rattle.rd_formulas.proofs.FindingLemmas.{given_at, there_unless}
use Rattle.rd_formulas.proofs.terms.meaning.Goals as goal

pub unwrap-requires : goal.unwrap-requires
unwrap-requires c =
    let side = c.in-Some-Variable.side in
    let name = c.in-Some-Variable.name in
    let says : SaysTermIn c.args.scope.now.dialect (token_bytes_at c.args.scope.now c.args.number) (Variable side name) =
    rw (← c.word.ensures) (given_at c.in_ok-side.field-0 (SaysTermIn c.args.scope.now.dialect c.word.result.now) (Variable side name)
    (c.in-Some-Variable.is ∙ ap Some c.in-Some-Variable.field-0-is) c.in_ok-side.ensures.some) in
    there_unless c.slot.result _ c.slot.ensures.none (λ other. c.requires.2 (side, name, says, rw (← c.items.ensures.value) other))
