use Rattle.std.proofs.Common.{Some, None}
use Rattle.std.proofs.lemmas.List.{take_rest}
use Rattle.rd_io.proofs.FeedLemmas.{feed_behind}
use Rattle.rd_io.proofs.lines.first_feed.Goals as goal

pub returns-in_err-at : goal.returns-in_err-at
returns-in_err-at c =
    rw c.from_residual.ensures
    (feed_behind c.args.bytes.now c.args.from None c.requires.within c.requires.before
    (rw (take_rest, c.in_err-at.was) at c.memchr.ensures))

pub returns : goal.returns
returns c =
    feed_behind c.args.bytes.now c.args.from (Some c.in_ok-at.at) c.requires.within c.requires.before
    (rw (take_rest, c.in_ok-at.was) at c.memchr.ensures)
