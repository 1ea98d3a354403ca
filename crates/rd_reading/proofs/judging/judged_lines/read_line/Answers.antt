use Rattle.std.proofs.Common.{sym, subst, ap, length, arith}
use Rattle.std.proofs.lemmas.Result.{on_ok_weaker}
use Rattle.rd_tokens.specs.Tokens.{AreTokens}
use Rattle.rd_reading.proofs.LineLemmas.{accepted, first_refused}
use Rattle.rd_reading.proofs.WordLemmas.{token_count}
use Rattle.rd_reading.proofs.judging.judged_lines.read_line.Goals as goal

pub read_behind_header-requires-clause-count : goal.read_behind_header-requires-clause-count
read_behind_header-requires-clause-count c =
    let count = token_count c.args.line.now c.in_ok-found.found c.in_ok-found.ensures.value c.in_ok-found.ensures.within in
    omega (arith, count, ap length c.items.ensures)

pub returns-in-Some-clause-ok : goal.returns-in-Some-clause-ok
returns-in-Some-clause-ok c =
    accepted c.read_behind_header.result c.args.taken.now c.args.known.now c.args.line.now c.items.result.now c.read_behind_header.new.known
    (subst (AreTokens c.args.line.now) (sym c.items.ensures) c.in_ok-found.ensures.value) c.read_behind_header.ensures.clean c.read_behind_header.ensures.adds

pub returns-clause-ok : goal.returns-clause-ok
returns-clause-ok c =
    accepted c.read_header.result c.args.taken.now c.args.known.now c.args.line.now c.items-in-None.result.now c.read_header.new.known
    (subst (AreTokens c.args.line.now) (sym c.items-in-None.ensures) c.in_ok-found.ensures.value)
    (on_ok_weaker c.read_header.result (λ clean. clean c.args.taken.now) c.read_header.ensures.clean) c.read_header.ensures.adds

pub returns-clause-refused : goal.returns-clause-refused
returns-clause-refused c =
    first_refused c.read_header.result c.args.taken.now c.args.known.now c.args.line.now c.items-in-None.result.now
    (subst (AreTokens c.args.line.now) (sym c.items-in-None.ensures) c.in_ok-found.ensures.value) c.read_header.ensures.refused
