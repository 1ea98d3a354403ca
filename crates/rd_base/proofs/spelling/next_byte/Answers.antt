use Rattle.std.proofs.Common.{sym, ◌∙◌}
use Rattle.rd_base.proofs.TextLemmas.{next_of_standing}
use Rattle.rd_base.proofs.spelling.next_byte.Goals as goal

pub returns-then-stands-clause-some : goal.returns-then-stands-clause-some
returns-then-stands-clause-some c =
    next_of_standing c.args.bytes.now c.in-len1-up.len_at_least (sym c.stands.ensures ∙ c.if-stands.true)
