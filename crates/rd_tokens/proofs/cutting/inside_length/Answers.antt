use Rattle.std.proofs.Common.{arith, sym, ◌∙◌, ◌≡◌, false, get_or}
use Rattle.rd_tokens.specs.ReadingTokens.{ends_quote}
use Rattle.rd_tokens.proofs.LoopLemmas.{ends_here, goes_on, ends_behind}
use Rattle.rd_tokens.proofs.cutting.inside_length.Goals as goal

pub returns-then-ends_quote-clause-value : goal.returns-then-ends_quote-clause-value
returns-then-ends_quote-clause-value c =
    omega (
      arith,
      c.loop-index.invariant,
      ends_here c.loop-index.taken c.args.bytes.now c.loop-index.index c.loop-index-test.true
          (sym c.ends_quote.ensures ∙ c.if-ends_quote.true),
    )

pub loop-index-preserved : goal.loop-index-preserved
loop-index-preserved c =
    let on : ends_quote c.loop-index.taken (get_or c.args.bytes.now c.loop-index.index 0) ≡ false = sym c.ends_quote.ensures ∙ c.if-ends_quote.false in
    let step = goes_on c.loop-index.taken c.args.bytes.now c.loop-index.index c.loop-index-test.true on in
    rw c.takes_next-taken.ensures (omega (arith, c.loop-index.invariant, step))

pub returns-clause-value : goal.returns-clause-value
returns-clause-value c =
    omega (arith, c.loop-index.invariant, ends_behind c.loop-index.taken c.args.bytes.now c.loop-index.index c.loop-index-test.false)
