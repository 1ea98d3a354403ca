use Rattle.std.proofs.lemmas.List.{take_rest}
use Rattle.rd_json.proofs.StringLemmas.{first_escaped}
use Rattle.rd_json.proofs.strings.first_escaped.Goals as goal

pub returns-in-Some-clause-parts : goal.returns-in-Some-clause-parts
returns-in-Some-clause-parts c = rw take_rest (first_escaped c.args.bytes.now c.in-Some.at c.in-Some.ensures)
