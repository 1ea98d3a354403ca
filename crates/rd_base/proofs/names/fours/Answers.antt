use Rattle.std.proofs.Common.{rules, tests, ◌≡◌, ◌+◌, ◌≤◌, true, length, slice_index, arith}
use Rattle.rd_base.specs.Names.{is_name_byte}
use Rattle.rd_base.proofs.NameLemmas.{one_more}
use Rattle.rd_base.proofs.names.fours.Goals as goal

pub loop-length-preserved : goal.loop-length-preserved
loop-length-preserved c =
    let at = c.loop-length.length in
    let bytes = c.args.bytes.now in
    let inside : at + 4 ≤ length bytes = search (tests, rules) in
    let first : is_name_byte (slice_index bytes at) ≡ true = search (tests, rules) in
    let second : is_name_byte (slice_index bytes (at + 1)) ≡ true = search (tests, rules) in
    let third : is_name_byte (slice_index bytes (at + 2)) ≡ true = search (tests, rules) in
    let fourth : is_name_byte (slice_index bytes (at + 3)) ≡ true = search (tests, rules) in
    let one = one_more bytes at c.loop-length.invariant.0 (omega (arith, inside)) first in
    let two = one_more bytes (at + 1) (omega (arith, one)) (omega (arith, inside)) second in
    let three = one_more bytes (at + 2) (omega (arith, two)) (omega (arith, inside)) third in
    let four = one_more bytes (at + 3) (omega (arith, three)) (omega (arith, inside)) fourth in
    (omega (arith, four), inside)
