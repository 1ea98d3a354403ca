use Rattle.std.proofs.Common.{option_map, refl, sym, ap, ◌∙◌, true≢false}
use Rattle.rd_event.specs.declared.items.Line.TheVariants.{Event}
use Rattle.rd_event.specs.declared.items.LineEvent.TheVariants.{Release}
use Rattle.rd_event.proofs.ReadingLemmas.{release_behind}
use Rattle.rd_rules.specs.MayFollow.{version_of}
use Rattle.rd_wf.proofs.BytesLemmas.{no_second, pair_taken, taken_where}
use Rattle.rd_wf.proofs.roster.keywords.ReleaseLineKeyword.accept_bytes.Goals as goal

pub returns-in_default : goal.returns-in_default
returns-in_default g c = λ kinds lines stands. ((λ known. absurd (true≢false (sym known.0 ∙ sym c.finds_all.ensures ∙ c.if-finds_all.false))), refl)

pub returns-then-finds_all : goal.returns-then-finds_all
returns-then-finds_all g c = λ kinds lines stands.
    taken_where _ _ kinds c.args.limits.now lines c.args.bytes.now c.args.roster.now c.header_line.new.self (λ known. known.1) c.header_line.result (c.header_line.ensures kinds lines stands)

pub returns-in_default-cut_at_space : goal.returns-in_default-cut_at_space
returns-in_default-cut_at_space g c = λ kinds lines stands. (
  (λ known. release_behind (version_of lines) c.args.bytes.now c.in-Some.names.now c.in-Some.ensures.some ∙ ap (option_map _) (no_second c.in-Some.names.now c.in_default-cut_at_space.ensures.none)),
  refl,
)

pub returns : goal.returns
returns g c = λ kinds lines stands.
    pair_taken _ kinds c.args.limits.now lines c.args.bytes.now c.args.roster.now c.release.new.self stands _ (λ known. known.0) c.in-Some.names.now c.in-Some-cut_at_space.thread.now c.in-Some-cut_at_space.lock.now (λ names. Event (Release names.0 names.1))
    c.in-Some-cut_at_space.ensures.before c.in-Some-cut_at_space.ensures.after (release_behind (version_of lines) c.args.bytes.now c.in-Some.names.now c.in-Some.ensures.some)
    c.release.result c.release.ensures
