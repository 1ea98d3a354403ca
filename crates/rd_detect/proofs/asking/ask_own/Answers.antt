use Rattle.std.proofs.Common.{◌++◌, ◌∷◌, [], if◌then◌else◌, sym, subst}
use Rattle.std.specs.Prelude.{option_map}
use Rattle.std.proofs.lemmas.List.{append-nil}
use Rattle.rd_detect.specs.Detect.{IsLatestOf}
use Rattle.rd_detect.proofs.asking.ask_own.Goals.{then-asked+in_ok-found, else-asked}
use Rattle.rd_detect.proofs.asking.ask_own.Goals as goal

pub returns-clause-latest : goal.returns-clause-latest
returns-clause-latest g c = λ points point at before. elim c.if-asked.branch [
  | then-asked+in_ok-found w ↦
      subst (λ found. IsLatestOf c.args.store.now (points ++ (if c.args.asked then point ∷ [] else [])) c.args.stamp.clock.now (option_map (λ held. held.value) found)) (sym w.found-is)
      (subst (λ asked. IsLatestOf c.args.store.now (points ++ (if asked then point ∷ [] else [])) c.args.stamp.clock.now (option_map (λ held. held.value) w.in_ok-found.found)) (sym w.if-asked.true)
      (w.in_ok-found.ensures.latest points point at before))
  | else-asked w ↦
      subst (λ found. IsLatestOf c.args.store.now (points ++ (if c.args.asked then point ∷ [] else [])) c.args.stamp.clock.now (option_map (λ held. held.value) found)) (sym w.found-is)
      (subst (λ asked. IsLatestOf c.args.store.now (points ++ (if asked then point ∷ [] else [])) c.args.stamp.clock.now (option_map (λ held. held.value) c.args.found)) (sym w.if-asked.false)
      (subst (λ points. IsLatestOf c.args.store.now points c.args.stamp.clock.now (option_map (λ held. held.value) c.args.found)) (sym (append-nil points)) before))
]
