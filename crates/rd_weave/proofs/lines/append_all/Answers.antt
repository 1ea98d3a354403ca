use Rattle.std.proofs.Common.{map, reverse, ap, ◌∙◌}
use Rattle.rd_logs.specs.WholeLogs.{record_of}
use Rattle.rd_weave.proofs.LineLemmas.{rest_is}
use Rattle.rd_weave.proofs.lines.append_all.Goals as goal

pub returns : goal.returns
returns c =
    c.in_ok-append_events.ensures (map record_of c.args.logs.now) (λ l. c.turn_around.ensures.turned l ∙ ap reverse (rest_is c.args.logs.now l)) c.requires
