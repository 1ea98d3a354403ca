use Rattle.std.proofs.Common.{◌≡◌, IfOk, IfErr, Some, None, subst, sym, ◌∙◌}
use Rattle.rd_event.specs.declared.reading.LineRefused.TheVariants.{BadLine, NoMemory}
use Rattle.rd_logs.specs.declared.lines.LogLine.{LogLine}
use Rattle.rd_logs.proofs.LogLemmas.{bad_says_none, none_with, ok_whole, skipped_found, with_found}
use Rattle.rd_logs.proofs.reading.read_log_line.Goals as goal

pub returns-then-is_skipped-clause-line : goal.returns-then-is_skipped-clause-line
returns-then-is_skipped-clause-line c = skipped_found c.args.thread.now c.args.bytes.now (sym c.is_skipped.ensures ∙ c.if-is_skipped.true)

pub returns-in_default-clause-none : goal.returns-in_default-clause-none
returns-in_default-clause-none c = λ bad. none_with c.args.thread.now c.args.bytes.now c.items-name.ensures.name (sym c.is_skipped.ensures ∙ c.if-is_skipped.false) c.in_default.ensures.none

pub returns-clause-line : goal.returns-clause-line
returns-clause-line c =
    subst (λ found. IfOk c.read_with.result (λ line. found ≡ Some line)) (sym (with_found c.args.thread.now c.args.bytes.now c.in-Some.keyword.now c.in-Some.rest.now (sym c.is_skipped.ensures ∙ c.if-is_skipped.false) c.in-Some.ensures.before c.in-Some.ensures.after)) c.read_with.ensures.line

pub returns-clause-none : goal.returns-clause-none
returns-clause-none c =
    subst (λ found. IfErr c.read_with.result (λ e. e ≡ BadLine → found ≡ None)) (sym (with_found c.args.thread.now c.args.bytes.now c.in-Some.keyword.now c.in-Some.rest.now (sym c.is_skipped.ensures ∙ c.if-is_skipped.false) c.in-Some.ensures.before c.in-Some.ensures.after)) c.read_with.ensures.none

pub returns-clause-memory : goal.returns-clause-memory
returns-clause-memory c =
    subst (λ found. IfErr c.read_with.result (λ e. e ≡ NoMemory → (line : LogLine) × (found ≡ Some line))) (sym (with_found c.args.thread.now c.args.bytes.now c.in-Some.keyword.now c.in-Some.rest.now (sym c.is_skipped.ensures ∙ c.if-is_skipped.false) c.in-Some.ensures.before c.in-Some.ensures.after))
    c.read_with.ensures.memory

pub returns-clause-says : goal.returns-clause-says
returns-clause-says c = (ok_whole c.args.thread.now c.args.bytes.now c.items-name.ensures.name c.read_with.result
    (subst (λ found. IfOk c.read_with.result (λ line. found ≡ Some line)) (sym (with_found c.args.thread.now c.args.bytes.now c.in-Some.keyword.now c.in-Some.rest.now (sym c.is_skipped.ensures ∙ c.if-is_skipped.false) c.in-Some.ensures.before c.in-Some.ensures.after)) c.read_with.ensures.line)).1

pub returns-clause-range : goal.returns-clause-range
returns-clause-range c = (ok_whole c.args.thread.now c.args.bytes.now c.items-name.ensures.name c.read_with.result
    (subst (λ found. IfOk c.read_with.result (λ line. found ≡ Some line)) (sym (with_found c.args.thread.now c.args.bytes.now c.in-Some.keyword.now c.in-Some.rest.now (sym c.is_skipped.ensures ∙ c.if-is_skipped.false) c.in-Some.ensures.before c.in-Some.ensures.after)) c.read_with.ensures.line)).0

pub returns-clause-only : goal.returns-clause-only
returns-clause-only c = bad_says_none c.args.thread.now c.args.bytes.now c.read_with.result
    (subst (λ found. IfErr c.read_with.result (λ e. e ≡ BadLine → found ≡ None)) (sym (with_found c.args.thread.now c.args.bytes.now c.in-Some.keyword.now c.in-Some.rest.now (sym c.is_skipped.ensures ∙ c.if-is_skipped.false) c.in-Some.ensures.before c.in-Some.ensures.after)) c.read_with.ensures.none)
