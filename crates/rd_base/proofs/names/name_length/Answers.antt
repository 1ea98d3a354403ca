use Rattle.std.proofs.Common.{rules, tests, ◌≡◌, true, false, slice_index, arith}
use Rattle.rd_base.specs.Names.{is_name_byte}
use Rattle.rd_base.proofs.NameLemmas.{one_more, no_more}
use Rattle.rd_base.proofs.names.name_length.Goals as goal

pub returns-then-not-is_name_byte-clause-value : goal.returns-then-not-is_name_byte-clause-value
returns-then-not-is_name_byte-clause-value c =
    let fails : is_name_byte (slice_index c.args.bytes.now c.loop-length.length) ≡ false = search (tests, rules) in
    no_more c.args.bytes.now c.loop-length.length c.loop-length.invariant.0 fails

pub loop-length-preserved : goal.loop-length-preserved
loop-length-preserved c =
    let passes : is_name_byte (slice_index c.args.bytes.now c.loop-length.length) ≡ true = search (tests, rules) in
    let more = one_more c.args.bytes.now c.loop-length.length c.loop-length.invariant.0 (search (tests, rules)) passes in
    (omega (arith, more), search (tests, rules))
