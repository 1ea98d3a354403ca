use Rattle.std.proofs.Common.{option_map, refl, ap, ◌∙◌}
use Rattle.rd_event.specs.declared.items.Line.TheVariants.{Event}
use Rattle.rd_event.specs.declared.items.LineEvent.TheVariants.{Join}
use Rattle.rd_event.proofs.ReadingLemmas.{join_behind}
use Rattle.rd_rules.specs.MayFollow.{version_of}
use Rattle.rd_wf.proofs.BytesLemmas.{no_join, no_second, pair_taken}
use Rattle.rd_wf.proofs.roster.keywords.JoinLineKeyword.accept_bytes.Goals as goal

pub returns-in_default : goal.returns-in_default
returns-in_default g c = λ kinds lines stands. ((λ known. no_join (version_of lines) c.args.bytes.now known.1 c.in_default.ensures.none), refl)

pub returns-in_default-cut_at_space : goal.returns-in_default-cut_at_space
returns-in_default-cut_at_space g c = λ kinds lines stands. (
  (λ known. join_behind (version_of lines) c.args.bytes.now c.in-Some.names.now c.in-Some.ensures.some ∙ ap (option_map _) (no_second c.in-Some.names.now c.in_default-cut_at_space.ensures.none)),
  refl,
)

pub returns : goal.returns
returns g c = λ kinds lines stands.
    pair_taken _ kinds c.args.limits.now lines c.args.bytes.now c.args.roster.now c.join.new.self stands _ (λ known. known.0) c.in-Some.names.now c.in-Some-cut_at_space.thread.now c.in-Some-cut_at_space.child.now (λ names. Event (Join names.0 names.1))
    c.in-Some-cut_at_space.ensures.before c.in-Some-cut_at_space.ensures.after (join_behind (version_of lines) c.args.bytes.now c.in-Some.names.now c.in-Some.ensures.some)
    c.join.result c.join.ensures
