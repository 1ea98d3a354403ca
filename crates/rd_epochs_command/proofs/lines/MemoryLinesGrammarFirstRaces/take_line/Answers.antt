use Rattle.std.proofs.Common.{codes, refl}
use Rattle.rd_epochs_command.proofs.KeywordLemmas.{found_behind, same_behind}
use Rattle.rd_memory.specs.MemoryTraces.{memory_says}
use Rattle.rd_walk.proofs.TakingLemmas.{taken_as, wrote_none}
use Rattle.rd_epochs_command.proofs.lines.MemoryLinesGrammarFirstRaces.take_line.Goals as goal

pub returns-then-is_some-clause-line : goal.returns-then-is_some-clause-line
returns-then-is_some-clause-line g c =
    let (rest, is) = found_behind c.args.bytes.now (codes "acquire ") c.behind-3.result c.is_some.result c.is_some.ensures c.if-is_some.true c.behind-3.ensures.some in
    taken_as memory_says _ _ _ _ _ (same_behind (codes "acquire ") rest c.args.bytes.now refl is) _ _ _ _ _ _ _
    (λ refused. wrote_none g.S.Sink.written _ _ (c.take_keyword.ensures.silent refused)) c.take_keyword.ensures.line

pub returns-then-is_some-2-clause-line : goal.returns-then-is_some-2-clause-line
returns-then-is_some-2-clause-line g c =
    let (rest, is) = found_behind c.args.bytes.now (codes "release ") c.behind-4.result c.is_some-2.result c.is_some-2.ensures c.if-is_some-2.true c.behind-4.ensures.some in
    taken_as memory_says _ _ _ _ _ (same_behind (codes "release ") rest c.args.bytes.now refl is) _ _ _ _ _ _ _
    (λ refused. wrote_none g.S.Sink.written _ _ (c.take_keyword-then-is_some-2.ensures.silent refused)) c.take_keyword-then-is_some-2.ensures.line

pub returns-then-is_some-3-clause-line : goal.returns-then-is_some-3-clause-line
returns-then-is_some-3-clause-line g c =
    let (rest, is) = found_behind c.args.bytes.now (codes "join ") c.behind-5.result c.is_some-3.result c.is_some-3.ensures c.if-is_some-3.true c.behind-5.ensures.some in
    taken_as memory_says _ _ _ _ _ (same_behind (codes "join ") rest c.args.bytes.now refl is) _ _ _ _ _ _ _
    (λ refused. wrote_none g.S.Sink.written _ _ (c.take_keyword-then-is_some-3.ensures.silent refused)) c.take_keyword-then-is_some-3.ensures.line
