use Rattle.std.proofs.Common.{◌≡◌, Some, ap, refl, sym, ◌∙◌}
use Rattle.rd_event.specs.Reading.{name_read}
use Rattle.rd_event.proofs.WordLemmas.{name_found, name_refused}
use Rattle.rd_logs.specs.LogLines.{log_header_of}
use Rattle.rd_logs.proofs.LogLemmas.{header_apart, header_behind}
use Rattle.rd_logs.proofs.reading.read_log_header.Goals as goal

pub returns-in_err-name-clause-read : goal.returns-in_err-name-clause-read
returns-in_err-name-clause-read c = rw c.from_residual.ensures (sym (header_apart c.args.bytes.now c.as_slice.result.now c.as_slice.ensures c.in_err-name.ensures.cases))

pub returns-in_default-clause-read : goal.returns-in_default-clause-read
returns-in_default-clause-read c =
    let found : log_header_of c.args.bytes.now ≡ name_read c.in_ok-name.name.now
    = header_behind c.args.bytes.now c.as_slice.result.now c.in_ok-name.name.now c.as_slice.ensures c.in_ok-name.ensures.cases.0 c.in_ok-name.ensures.cases.1 in
    sym (found ∙ name_refused c.in_ok-name.name.now (λ named. absurd (let e = c.in_default.ensures.variant.1 named in cc)))

pub returns-clause-read : goal.returns-clause-read
returns-clause-read c =
    let found : log_header_of c.args.bytes.now ≡ name_read c.in_ok-name.name.now
    = header_behind c.args.bytes.now c.as_slice.result.now c.in_ok-name.name.now c.as_slice.ensures c.in_ok-name.ensures.cases.0 c.in_ok-name.ensures.cases.1 in
    ap Some c.in-Ok.ensures.value ∙ sym (found ∙ name_found c.in_ok-name.name.now (c.in-Ok.ensures.variant.0 refl))
