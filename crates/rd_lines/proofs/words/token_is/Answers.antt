use Rattle.rd_lines.proofs.words.token_is.Goals as goal

pub returns-in_default : goal.returns-in_default
returns-in_default c = (λ h. cc, λ same. absurd (c.in_default.ensures.none c.args.word.now same))
