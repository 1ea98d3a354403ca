use Rattle.std.proofs.Common.{◌≡◌, [], ◌∷◌, ◌++◌, sym, subst}
use Rattle.std.proofs.lemmas.Result.{on_ok_weaker}
use Rattle.rd_epoch.proofs.StandLemmas.{stands_declared}
use Rattle.rd_epoch.specs.Epochs.{EpochsStandFor, no_access}
use Rattle.rd_epoch.proofs.epochs.Epochs.declare.Goals as goal

pub returns-clause-stands : goal.returns-clause-stands
returns-clause-stands c = on_ok_weaker c.add.result
    (λ (is : c.add.new.self ≡ c.args.self.now ++ no_access ∷ []) roots lines es stands.
    subst (λ held. EpochsStandFor held roots lines es) (sym is) (stands_declared c.args.self.now roots lines es stands))
    c.add.ensures.ok
