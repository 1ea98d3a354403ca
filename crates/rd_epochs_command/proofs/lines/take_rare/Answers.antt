use Rattle.std.proofs.Common.{◌≢◌, true≢false, codes, refl, sym, ap, subst, ◌∙◌}
use Rattle.std.specs.Cmp.Lexicographic.{bytes_decides}
use Rattle.std.specs.Prelude.{option_map}
use Rattle.rd_epochs_command.proofs.ItemLemmas.{line_bad}
use Rattle.rd_epochs_command.proofs.KeywordLemmas.{found_behind, none_behind, same_behind, same_header, same_skipped, taken_for}
use Rattle.rd_memory.specs.MemoryTraces.{items_said, memory_says}
use Rattle.rd_walk.proofs.TakingLemmas.{taken_as, wrote_none}
use Rattle.rd_walk.specs.Taking.{TakesGrammarLine}
use Rattle.rd_wf.specs.Roster.{RosterStandsFor}
use Rattle.rd_epochs_command.proofs.lines.take_rare.Goals as goal

pub returns-then-is_some-clause-line : goal.returns-then-is_some-clause-line
returns-then-is_some-clause-line g c =
    let (rest, is) = found_behind c.args.bytes.now (codes "fork ") c.behind.result c.is_some.result c.is_some.ensures c.if-is_some.true c.behind.ensures.some in
    taken_as memory_says _ _ _ _ _ (same_behind (codes "fork ") rest c.args.bytes.now refl is) _ _ _ _ _ _ _
    (λ refused. wrote_none g.S.Sink.written _ _ (c.take_anywhere.ensures.silent refused)) c.take_anywhere.ensures.line

pub returns-then-is_some-2-clause-line : goal.returns-then-is_some-2-clause-line
returns-then-is_some-2-clause-line g c =
    let (rest, is) = found_behind c.args.bytes.now (codes "thread ") c.behind-2.result c.is_some-2.result c.is_some-2.ensures c.if-is_some-2.true c.behind-2.ensures.some in
    taken_as memory_says _ _ _ _ _ (same_behind (codes "thread ") rest c.args.bytes.now refl is) _ _ _ _ _ _ _
    (λ refused. wrote_none g.S.Sink.written _ _ (c.take_anywhere-then-is_some-2.ensures.silent refused)) c.take_anywhere-then-is_some-2.ensures.line

pub returns-then-is_skipped-clause-line : goal.returns-then-is_skipped-clause-line
returns-then-is_skipped-clause-line g c =
    taken_as memory_says _ _ _ _ _ (same_skipped c.args.bytes.now (sym c.is_skipped.ensures ∙ c.if-is_skipped.true)) _ _ _ _ _ _ _
    (λ refused. wrote_none g.S.Sink.written _ _ (c.take_anywhere-then-is_skipped.ensures.silent refused)) c.take_anywhere-then-is_skipped.ensures.line

pub returns-then-eq-clause-line : goal.returns-then-eq-clause-line
returns-then-eq-clause-line g c =
    let is = (bytes_decides c.args.bytes.now c.as_slice.result.now).0 (sym c.eq.ensures ∙ c.if-eq.true) ∙ c.as_slice.ensures in
    taken_for g.A.Analysis.leads g.A.Analysis.text g.A.Analysis.bound c.args.number c.args.bytes.now (codes "rdtrace 1") c.args.walker.now c.take_anywhere-then-eq.new.walker
    (g.S.Sink.written c.args.out.now) (g.S.Sink.written c.take_anywhere-then-eq.new.out) c.args.steps.now c.take_anywhere-then-eq.new.steps c.take_anywhere-then-eq.result
    (same_header c.args.bytes.now is c.law_of_keywords.ensures.header)
    (λ refused. wrote_none g.S.Sink.written _ _ (c.take_anywhere-then-eq.ensures.silent refused)) c.take_anywhere-then-eq.ensures.line

pub returns-clause-line : goal.returns-clause-line
returns-clause-line g c =
    let bytes = c.args.bytes.now in
    let same = c.refuse.ensures.same in
    let wrote = g.S.Sink.written c.args.out.now in
    let fork = none_behind bytes (codes "fork ") c.behind.result c.is_some.result c.is_some.ensures c.if-is_some.false c.behind.ensures.none in
    let thread = none_behind bytes (codes "thread ") c.behind-2.result c.is_some-2.result c.is_some-2.ensures c.if-is_some-2.false c.behind-2.ensures.none in
    let header : bytes ≢ codes "rdmem 1"
    = λ e. true≢false (sym ((bytes_decides bytes c.as_slice.result.now).1 (e ∙ sym c.as_slice.ensures)) ∙ (sym c.eq.ensures ∙ c.if-eq.false)) in
    let nothing = c.law_of_keywords.ensures.other bytes c.requires.read c.requires.write c.requires.acquire c.requires.release c.requires.join fork thread header
    (sym c.is_skipped.ensures ∙ c.if-is_skipped.false) in
    subst (TakesGrammarLine memory_says g.A.Analysis.leads g.A.Analysis.text g.A.Analysis.bound c.args.number bytes c.args.walker.now c.refuse.new.walker wrote wrote c.args.steps.now c.args.steps.now)
    (sym c.refuse.ensures.refused)
    (line_bad memory_says g.A.Analysis.leads g.A.Analysis.text g.A.Analysis.bound c.args.number bytes c.args.walker.now c.refuse.new.walker wrote c.args.steps.now
    (λ before. ap (option_map (items_said before)) nothing)
    c.refuse.ensures.cause (λ kinds before stands. subst (λ roster. RosterStandsFor kinds roster before) (sym same.0) stands) same.1)
