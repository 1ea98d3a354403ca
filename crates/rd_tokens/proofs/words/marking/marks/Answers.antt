use Rattle.std.proofs.Common.{◌<◌, length, rules}
use Rattle.std.proofs.lemmas.Option.{slice_get-get_or}
use Rattle.rd_tokens.proofs.MarkLemmas.{so_far_push}
use Rattle.rd_tokens.proofs.words.marking.marks.Goals as goal

pub loop-number-preserved : goal.loop-number-preserved
loop-number-preserved c =
    let within : c.loop-number.number < length c.args.tokens.now = search rules in
    so_far_push c.args.dialect c.args.line.now c.args.tokens.now c.loop-number.number c.loop-number.marks c.push.new.self _ c.mark.result c.loop-number.invariant
    (slice_get-get_or c.args.tokens.now c.loop-number.number _ within) c.mark.ensures c.in_ok-push.ensures.ok
