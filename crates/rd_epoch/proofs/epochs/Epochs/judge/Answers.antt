use Rattle.std.proofs.Common.{◌++◌, ◌∷◌, [], ap, sym, subst, ◌∙◌, arith}
use Rattle.std.specs.Prelude.{option_map}
use Rattle.rd_clock.specs.Stamps.{lent_stamp}
use Rattle.rd_epoch.specs.EpochParts.{IsHeldAt, found_for, held_after}
use Rattle.rd_epoch.specs.Epochs.{IsFirstTold, event_of_access, held_at}
use Rattle.rd_epoch.specs.declared.epochs.First.{First}
use Rattle.rd_epoch.proofs.EpochLemmas.{answers}
use Rattle.rd_epoch.proofs.StandLemmas.{stands_after, takes_none}
use Rattle.rd_epoch.proofs.StillLemmas.{still}
use Rattle.rd_epoch.proofs.epochs.Epochs.judge.Goals as goal

pub take-requires-clause-still : goal.take-requires-clause-still
take-requires-clause-still g c =
    let (roots, lines, es, slots, next, has) = c.requires.next in
    still c.args.self.now roots lines es c.args.access.now (lent_stamp c.args.stamp.now) slots next c.args.learnt has

pub returns : goal.returns
returns g c = record {
  answer = λ roots lines es slots next.
      subst (IsFirstTold (lines ++ c.args.access.now.line ∷ []) (es ++ event_of_access c.args.access.now (lent_stamp c.args.stamp.now) slots ∷ []) c.args.access.now.place c.args.access.now.variable)
      (sym (c.first_of.ensures ∙ ap (option_map (λ line. let first : First = record { later = c.args.access.now.line; earlier = line } in first)) c.in_ok-found.ensures.found))
      (subst (λ place. IsFirstTold (lines ++ c.args.access.now.line ∷ []) (es ++ event_of_access c.args.access.now (lent_stamp c.args.stamp.now) slots ∷ []) place c.args.access.now.variable
      (option_map (λ line. record { later = c.args.access.now.line; earlier = line }) (found_for c.args.stamp.now.clock.now c.args.access.now.write (held_at c.args.self.now c.args.access.now.variable))))
      (sym next.at_end) (answers c.args.self.now roots lines es c.args.access.now (lent_stamp c.args.stamp.now) slots next));
  stands = λ roots lines es slots next.
      stands_after c.args.self.now c.take.new.self roots lines es c.args.access.now (lent_stamp c.args.stamp.now) slots next
      (subst (λ o. IsHeldAt c.args.access.now.variable (held_after c.args.stamp.now.clock.now c.args.access.now.write
      (record { thread = c.args.stamp.now.thread; number = c.args.stamp.now.number; line = c.args.access.now.line }) (held_at c.args.self.now c.args.access.now.variable) o) c.args.self.now c.take.new.self)
      c.in_ok-found.ensures.found c.in_ok-found.ensures.held);
  count = c.in_ok-found.ensures.held.count;
  err = tt;
  cost = omega (arith, c.take.ensures.cost);
  raced = c.take.ensures.raced;
  memory = tt;
}

pub returns-in_err-found : goal.returns-in_err-found
returns-in_err-found g c = takes_none c.args.self.now c.take.new.self c.args.access.now (lent_stamp c.args.stamp.now) _ _ _ c.from_residual.ensures.0
    c.in_err-found.ensures.err (omega (arith, c.take.ensures.cost)) c.take.ensures.raced c.in_err-found.ensures.memory
