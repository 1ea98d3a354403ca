use Rattle.std.proofs.Common.{refl}
use Rattle.rd_walk.proofs.TakingLemmas.{taken_as, wrote_none}
use Rattle.rd_walk.specs.Walk.{trace_says}
use Rattle.rd_walk.proofs.grammar.TraceLinesGrammar.take_line.Goals as goal

pub returns-in-Some-eq99-clause-line : goal.returns-in-Some-eq99-clause-line
returns-in-Some-eq99-clause-line g c =
    taken_as trace_says _ _ _ _ _ (λ before. refl) _ _ _ _ _ _ _ (λ is. wrote_none g.S.Sink.written _ _ (c.take_keyword.ensures.silent is)) c.take_keyword.ensures.line

pub returns-in-Some-eq97-clause-line : goal.returns-in-Some-eq97-clause-line
returns-in-Some-eq97-clause-line g c =
    taken_as trace_says _ _ _ _ _ (λ before. refl) _ _ _ _ _ _ _ (λ is. wrote_none g.S.Sink.written _ _ (c.take_keyword-in-Some-eq97.ensures.silent is)) c.take_keyword-in-Some-eq97.ensures.line

pub returns-in-Some-eq114-clause-line : goal.returns-in-Some-eq114-clause-line
returns-in-Some-eq114-clause-line g c =
    taken_as trace_says _ _ _ _ _ (λ before. refl) _ _ _ _ _ _ _ (λ is. wrote_none g.S.Sink.written _ _ (c.take_keyword-in-Some-eq114.ensures.silent is)) c.take_keyword-in-Some-eq114.ensures.line

pub returns-in-Some-eq106-clause-line : goal.returns-in-Some-eq106-clause-line
returns-in-Some-eq106-clause-line g c =
    taken_as trace_says _ _ _ _ _ (λ before. refl) _ _ _ _ _ _ _ (λ is. wrote_none g.S.Sink.written _ _ (c.take_keyword-in-Some-eq106.ensures.silent is)) c.take_keyword-in-Some-eq106.ensures.line

pub returns-in-Some-eq111-clause-line : goal.returns-in-Some-eq111-clause-line
returns-in-Some-eq111-clause-line g c =
    taken_as trace_says _ _ _ _ _ (λ before. refl) _ _ _ _ _ _ _ (λ is. wrote_none g.S.Sink.written _ _ (c.take_keyword-in-Some-eq111.ensures.silent is)) c.take_keyword-in-Some-eq111.ensures.line

pub returns-in-Some-eq115-clause-line : goal.returns-in-Some-eq115-clause-line
returns-in-Some-eq115-clause-line g c =
    taken_as trace_says _ _ _ _ _ (λ before. refl) _ _ _ _ _ _ _ (λ is. wrote_none g.S.Sink.written _ _ (c.take_keyword-in-Some-eq115.ensures.silent is)) c.take_keyword-in-Some-eq115.ensures.line

pub returns-in-Some-eq117-clause-line : goal.returns-in-Some-eq117-clause-line
returns-in-Some-eq117-clause-line g c =
    taken_as trace_says _ _ _ _ _ (λ before. refl) _ _ _ _ _ _ _ (λ is. wrote_none g.S.Sink.written _ _ (c.take_keyword-in-Some-eq117.ensures.silent is)) c.take_keyword-in-Some-eq117.ensures.line

pub returns-in_default-clause-line : goal.returns-in_default-clause-line
returns-in_default-clause-line g c =
    taken_as trace_says _ _ _ _ _ (λ before. refl) _ _ _ _ _ _ _ (λ is. wrote_none g.S.Sink.written _ _ (c.take_anywhere.ensures.silent is)) c.take_anywhere.ensures.line
