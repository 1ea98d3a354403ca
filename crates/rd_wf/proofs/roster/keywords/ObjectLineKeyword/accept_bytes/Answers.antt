use Rattle.std.proofs.Common.{option_map, refl, ap, ◌∙◌}
use Rattle.rd_event.specs.declared.items.Line.TheVariants.{Object}
use Rattle.rd_event.proofs.ReadingLemmas.{object_behind}
use Rattle.rd_rules.specs.MayFollow.{version_of}
use Rattle.rd_wf.proofs.BytesLemmas.{names_none, no_object, pair_taken}
use Rattle.rd_wf.proofs.roster.keywords.ObjectLineKeyword.accept_bytes.Goals as goal

pub returns-in_default : goal.returns-in_default
returns-in_default g c = λ kinds lines stands. ((λ known. no_object (version_of lines) c.args.bytes.now known.1 c.in_default.ensures.none), refl)

pub returns-in_default-cut_name : goal.returns-in_default-cut_name
returns-in_default-cut_name g c = λ kinds lines stands. (
  (λ known. object_behind (version_of lines) c.args.bytes.now c.in-Some.names.now c.in-Some.ensures.some ∙ ap (option_map _) (names_none c.in-Some.names.now _ _ refl refl c.in_default-cut_name.ensures.none)),
  refl,
)

pub returns : goal.returns
returns g c = λ kinds lines stands.
    pair_taken _ kinds c.args.limits.now lines c.args.bytes.now c.args.roster.now c.object_by_bytes.new.self stands _ (λ _. refl) c.in-Some.names.now c.in-Some-cut_name.name.now c.in-Some-cut_name.kind.now (λ names. Object names.0 names.1)
    c.in-Some-cut_name.ensures.before c.in-Some-cut_name.ensures.after (object_behind (version_of lines) c.args.bytes.now c.in-Some.names.now c.in-Some.ensures.some)
    c.object_by_bytes.result c.object_by_bytes.ensures
