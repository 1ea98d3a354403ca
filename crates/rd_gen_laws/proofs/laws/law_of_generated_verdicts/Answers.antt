use Rattle.std.proofs.Common.{◌≡◌, [], subst}
use Rattle.std.proofs.lemmas.List.{append-nil}
use Rattle.rd_check_command.specs.Checked.{races_of}
use Rattle.rd_ecl.specs.Kinds.{kinds_of}
use Rattle.rd_gen.specs.Generated.{generated}
use Rattle.rd_gen_command.proofs.ReportLemmas.{items_accepted}
use Rattle.rd_gen_command.specs.GeneratedWalks.{generated_walk}
use Rattle.rd_gen_laws.proofs.ExactLemmas.{replays_exact}
use Rattle.rd_kinds.specs.Shipped.{shipped_kinds}
use Rattle.rd_object.specs.declared.shapes.ReplayEnd.TheVariants.{Exact}
use Rattle.rd_replay_command.specs.Replaying.{replay_of}
use Rattle.rd_replay_command.specs.States.{built_in_kinds}
use Rattle.rd_walk.specs.Walk.{entries_of, items}
use Rattle.rd_rules.specs.Events.{AreAccepted}
use Rattle.rd_check_command.specs.Verdicts.{AreDeterministic}
use Rattle.rd_gen_laws.proofs.laws.law_of_generated_verdicts.Goals as goal

pub returns : goal.returns
returns c limits number count usable range none =
    let entries = entries_of (generated_walk built_in_kinds limits number count) in
    let alone = append-nil shipped_kinds in
    subst (λ kinds. AreAccepted (kinds_of kinds) (items entries) → races_of kinds entries ≡ 0 → replay_of (kinds_of kinds) entries ≡ Exact → AreDeterministic kinds entries)
    alone (c.law_of_verdicts.ensures [] entries)
    (items_accepted built_in_kinds limits usable range [] 1 (generated number count)) none (replays_exact limits number count)
