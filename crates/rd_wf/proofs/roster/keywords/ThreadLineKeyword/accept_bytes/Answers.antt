use Rattle.std.proofs.Common.{option_map, refl, ap, ◌∙◌}
use Rattle.rd_base.specs.Names.{IsName}
use Rattle.rd_event.specs.declared.items.Line.TheVariants.{Thread}
use Rattle.rd_event.proofs.WordLemmas.{name_found, name_refused}
use Rattle.rd_rules.specs.MayFollow.{version_of}
use Rattle.rd_wf.proofs.BytesLemmas.{line_taken, no_thread, thread_behind}
use Rattle.rd_wf.proofs.roster.keywords.ThreadLineKeyword.accept_bytes.Goals as goal

pub returns-in_default : goal.returns-in_default
returns-in_default g c = λ kinds lines stands. ((λ known. no_thread (version_of lines) c.args.bytes.now known.1 c.in_default.ensures.none), refl)

pub returns : goal.returns
returns g c = λ kinds lines stands.
    let name = c.in-Some.name.now in
    let says = thread_behind (version_of lines) c.args.bytes.now name c.in-Some.ensures.some in
    line_taken _ kinds c.args.limits.now lines c.args.bytes.now c.args.roster.now c.root.new.self stands _ (λ _. refl) (IsName name) (Thread name)
    (λ named. says ∙ ap (option_map (λ name. Thread name)) (name_found name named)) (λ none. says ∙ ap (option_map (λ name. Thread name)) (name_refused name none))
    c.root.result c.root.ensures
