use Rattle.std.proofs.Common.{◌≡◌, inr, ◌∷◌, [], ◌++◌, None, length, refl, ap, sym, subst, ◌∙◌, arith}
use Rattle.std.specs.Prelude.{option_map}
use Rattle.std.proofs.lemmas.Result.{IfOk-weaker, on_err_weaker, on_ok_weaker}
use Rattle.std.proofs.lemmas.Grind.{elements}
use Rattle.rd_clock.specs.Stamps.{lent_stamp}
use Rattle.rd_event.specs.declared.events.Event.TheVariants as event
use Rattle.rd_store.specs.Lent.{lent_witness}
use Rattle.rd_detect.specs.Detect.{Detecting, IsAnswer, IsLatestOf, IsCallKept, IsCallLeft, asked_points, tables_of, touched_points}
use Rattle.rd_detect.specs.Covers.{AreLeft}
use Rattle.rd_detect.specs.Seats.{AreSeats}
use Rattle.rd_detect.proofs.LaterLemmas.{both_on_ok, stand_kept}
use Rattle.rd_detect.proofs.CallLemmas.{asked_bound, below, left_joined, left_unjudged, own_below, taken_after, tried_bound}
use Rattle.rd_detect.proofs.CellLemmas.{is_answer}
use Rattle.rd_detect.proofs.OverLemmas.{none_found}
use Rattle.rd_detect.proofs.SweepLemmas.{stands_taken}
use Rattle.rd_detect.proofs.detector.Detector.judge.Goals as goal

pub returns-in_err-latest-clause-judged : goal.returns-in_err-latest-clause-judged
returns-in_err-latest-clause-judged g c = left_unjudged c.args.self.now c.look.new.self c.args.tracker.now _ _ _ _ _ _ _ c.from_residual.ensures.0
    c.look.ensures.same
    (asked_bound c.args.self.now.tables (length c.args.tracker.now.threads) c.args.seen.now.call.now c.args.steps.now c.look.new.steps
    (c.look.ensures.cost (length c.args.tracker.now.threads) (below c.requires.next.0 c.args.self.now c.args.tracker.now c.requires.next.1 c.requires.next.2 c.requires.next.3 c.args.seen.now.place c.args.seen.now.call.now (lent_stamp c.args.seen.now.stamp) c.requires.next.4)))

pub keep_over-requires : goal.keep_over-requires
keep_over-requires g c =
    subst (AreSeats c.look.new.self.store c.args.seen.now.call.now.thread (touched_points c.look.new.self.tables c.args.seen.now.call.now)) (sym c.as_slice.ensures.value)
    (subst (λ tables. AreSeats c.look.new.self.store c.args.seen.now.call.now.thread (touched_points tables c.args.seen.now.call.now) c.look.new.seats.items) (sym c.look.ensures.same.tables) c.in_ok-latest.ensures.seats)

pub returns-in_err-keep_over-clause-judged : goal.returns-in_err-keep_over-clause-judged
returns-in_err-keep_over-clause-judged g c = left_unjudged c.args.self.now c.keep_over.new.self c.args.tracker.now _ _ _ _ _ _ _ c.from_residual-in_err-keep_over.ensures.0
    (subst (IsCallLeft c.args.self.now) (sym c.in_err-keep_over.ensures.err) c.look.ensures.same)
    (tried_bound c.args.self.now.tables (length c.args.tracker.now.threads) c.args.seen.now.call.now c.args.steps.now c.look.new.steps
    (c.look.ensures.cost (length c.args.tracker.now.threads) (below c.requires.next.0 c.args.self.now c.args.tracker.now c.requires.next.1 c.requires.next.2 c.requires.next.3 c.args.seen.now.place c.args.seen.now.call.now (lent_stamp c.args.seen.now.stamp) c.requires.next.4))
    (length c.as_slice.result.now) c.keep_over.new.steps (omega (arith, own_below c.requires.next.0 c.args.self.now c.args.tracker.now c.requires.next.1 c.requires.next.2 c.requires.next.3 c.args.seen.now.place c.args.seen.now.call.now (lent_stamp c.args.seen.now.stamp) c.requires.next.4))
    (ap length c.as_slice.ensures.value ∙ c.in_ok-latest.ensures.seats.long) (omega (arith, c.keep_over.ensures.cost)))

pub returns-then-branch-clause-judged : goal.returns-then-branch-clause-judged
returns-then-branch-clause-judged g c = record {
  answer = λ kinds roots lines es next.
      subst (λ place. IsAnswer kinds (lines ++ c.args.seen.now.line ∷ []) (es ++ event.Call c.args.seen.now.call.now ∷ []) place None) (sym next.at_end)
      (is_answer c.law_of_merging.ensures.tells kinds c.args.self.now c.args.tracker.now roots lines es c.args.seen.now.place c.args.seen.now.call.now (lent_stamp c.args.seen.now.stamp) next c.args.seen.now.line
      None
      (subst (λ latest. IsLatestOf c.args.self.now.store (asked_points (tables_of kinds) c.args.seen.now.call.now) c.args.seen.now.stamp.clock.now latest) nothing
      (subst (λ tables. IsLatestOf c.args.self.now.store (asked_points tables c.args.seen.now.call.now) c.args.seen.now.stamp.clock.now (option_map (λ held. held.value) c.in_ok-latest.latest))
      next.stands.tables_are c.in_ok-latest.ensures.latest))
      None refl);
  stands = λ kinds roots lines es next.
      stands_taken kinds c.args.self.now c.keep_over.new.self c.args.tracker.now roots lines es c.args.seen.now.place c.args.seen.now.call.now (lent_stamp c.args.seen.now.stamp) c.args.seen.now.line c.law_of_merging.ensures.tells next
      (taken_after c.args.tracker.now.threads c.args.self.now c.look.new.self c.keep_over.new.self c.args.seen.now.call.now _ c.look.ensures.same
      (c.in_ok-keep_over.ensures.taken c.if-branch.true c.args.tracker.now.threads));
  taken = taken_after c.args.tracker.now.threads c.args.self.now c.look.new.self c.keep_over.new.self c.args.seen.now.call.now _ c.look.ensures.same
      (c.in_ok-keep_over.ensures.taken c.if-branch.true c.args.tracker.now.threads);
  err = tt;
  cost = tried_bound c.args.self.now.tables (length c.args.tracker.now.threads) c.args.seen.now.call.now c.args.steps.now c.look.new.steps
      (c.look.ensures.cost (length c.args.tracker.now.threads) (below c.requires.next.0 c.args.self.now c.args.tracker.now c.requires.next.1 c.requires.next.2 c.requires.next.3 c.args.seen.now.place c.args.seen.now.call.now (lent_stamp c.args.seen.now.stamp) c.requires.next.4))
      (length c.as_slice.result.now) c.keep_over.new.steps (omega (arith, own_below c.requires.next.0 c.args.self.now c.args.tracker.now c.requires.next.1 c.requires.next.2 c.requires.next.3 c.args.seen.now.place c.args.seen.now.call.now (lent_stamp c.args.seen.now.stamp) c.requires.next.4))
      (ap length c.as_slice.ensures.value ∙ c.in_ok-latest.ensures.seats.long) (omega (arith, c.keep_over.ensures.cost));
}
  where
    nothing : option_map (λ held. held.value) c.in_ok-latest.latest ≡ None
    nothing = none_found c.in_ok-latest.latest (sym c.is_some.ensures ∙ c.in_ok-keep_over.ensures.none c.if-branch.true)

pub keep_new-requires : goal.keep_new-requires
keep_new-requires g c =
    subst (λ (d : Detecting). AreSeats d.store c.args.seen.now.call.now.thread (touched_points d.tables c.args.seen.now.call.now) c.as_slice-2.result.now) (sym (c.in_ok-keep_over.ensures.kept c.if-branch.false))
    (subst (AreSeats c.look.new.self.store c.args.seen.now.call.now.thread (touched_points c.look.new.self.tables c.args.seen.now.call.now)) (sym c.as_slice-2.ensures.value)
    (subst (λ tables. AreSeats c.look.new.self.store c.args.seen.now.call.now.thread (touched_points tables c.args.seen.now.call.now) c.look.new.seats.items) (sym c.look.ensures.same.tables) c.in_ok-latest.ensures.seats))

pub returns-clause-judged : goal.returns-clause-judged
returns-clause-judged g c = record {
  answer = IfOk-weaker c.keep_new.result _ _
      (λ answer is kinds roots lines es next.
      subst (λ place. IsAnswer kinds (lines ++ c.args.seen.now.line ∷ []) (es ++ event.Call c.args.seen.now.call.now ∷ []) place answer) (sym next.at_end)
      (is_answer c.law_of_merging.ensures.tells kinds c.args.self.now c.args.tracker.now roots lines es c.args.seen.now.place c.args.seen.now.call.now (lent_stamp c.args.seen.now.stamp) next c.args.seen.now.line
      (option_map (λ held. held.value) c.in_ok-latest.latest)
      (subst (λ tables. IsLatestOf c.args.self.now.store (asked_points tables c.args.seen.now.call.now) c.args.seen.now.stamp.clock.now (option_map (λ held. held.value) c.in_ok-latest.latest))
      next.stands.tables_are c.in_ok-latest.ensures.latest)
      answer is))
      c.keep_new.ensures.answer;
  stands = on_ok_weaker c.keep_new.result
      (λ taken kinds roots lines es next.
      stands_taken kinds c.args.self.now c.keep_new.new.self c.args.tracker.now roots lines es c.args.seen.now.place c.args.seen.now.call.now (lent_stamp c.args.seen.now.stamp) c.args.seen.now.line c.law_of_merging.ensures.tells next
      (taken_after c.args.tracker.now.threads c.args.self.now c.look.new.self c.keep_new.new.self c.args.seen.now.call.now _ c.look.ensures.same
      (subst (λ (d : Detecting). IsCallKept c.args.tracker.now.threads d c.keep_new.new.self c.args.seen.now.call.now (lent_witness c.args.seen.now)) (c.in_ok-keep_over.ensures.kept c.if-branch.false) taken)))
      c.keep_new.ensures.taken;
  taken = on_ok_weaker c.keep_new.result
      (λ taken. taken_after c.args.tracker.now.threads c.args.self.now c.look.new.self c.keep_new.new.self c.args.seen.now.call.now _ c.look.ensures.same
      (subst (λ (d : Detecting). IsCallKept c.args.tracker.now.threads d c.keep_new.new.self c.args.seen.now.call.now (lent_witness c.args.seen.now)) (c.in_ok-keep_over.ensures.kept c.if-branch.false) taken))
      c.keep_new.ensures.taken;
  err = on_err_weaker c.keep_new.result
      (λ left. left_joined c.args.self.now c.look.new.self c.keep_new.new.self c.look.ensures.same
      (subst (λ (d : Detecting). IsCallLeft d c.keep_new.new.self) (c.in_ok-keep_over.ensures.kept c.if-branch.false) left))
      c.keep_new.ensures.err;
  cost = tried_bound c.args.self.now.tables (length c.args.tracker.now.threads) c.args.seen.now.call.now c.args.steps.now c.look.new.steps
      (c.look.ensures.cost (length c.args.tracker.now.threads) (below c.requires.next.0 c.args.self.now c.args.tracker.now c.requires.next.1 c.requires.next.2 c.requires.next.3 c.args.seen.now.place c.args.seen.now.call.now (lent_stamp c.args.seen.now.stamp) c.requires.next.4))
      (length c.as_slice.result.now) c.keep_new.new.steps (omega (arith, own_below c.requires.next.0 c.args.self.now c.args.tracker.now c.requires.next.1 c.requires.next.2 c.requires.next.3 c.args.seen.now.place c.args.seen.now.call.now (lent_stamp c.args.seen.now.stamp) c.requires.next.4))
      (ap length c.as_slice.ensures.value ∙ c.in_ok-latest.ensures.seats.long) (omega (arith, c.keep_over.ensures.cost, c.keep_new.ensures.cost, ap length c.as_slice.ensures.value, ap length c.as_slice-2.ensures.value));
}

pub look-requires-clause-kind : goal.look-requires-clause-kind
look-requires-clause-kind g c = grind (arith, elements)

pub returns-then-branch-clause-covers : goal.returns-then-branch-clause-covers
returns-then-branch-clause-covers g c = λ es stamped stand.
    stand_kept es c.args.seen.now.call.now (lent_stamp c.args.seen.now.stamp) stamped c.args.self.now c.look.new.self c.keep_over.new.self c.args.covers.now c.look.new.covers c.look.new.covers stand
    c.look.ensures.same c.look.ensures.stay c.in_ok-latest.ensures.covers c.look.new.seats.items c.in_ok-latest.ensures.own
    (subst (λ tables. AreSeats c.look.new.self.store c.args.seen.now.call.now.thread (touched_points tables c.args.seen.now.call.now) c.look.new.seats.items) (sym c.look.ensures.same.tables) c.in_ok-latest.ensures.seats)
    c.cells-cells.ensures.one_each c.args.tracker.now.threads c.args.seen.now.line c.args.seen.now.place
    (c.in_ok-keep_over.ensures.taken c.if-branch.true c.args.tracker.now.threads) (inr (refl, c.keep_over.ensures.points))

pub returns-clause-covers : goal.returns-clause-covers
returns-clause-covers g c = on_ok_weaker c.keep_new.result
    (λ both es stamped stand.
    stand_kept es c.args.seen.now.call.now (lent_stamp c.args.seen.now.stamp) stamped c.args.self.now c.look.new.self c.keep_new.new.self c.args.covers.now c.look.new.covers c.keep_new.new.covers stand
    c.look.ensures.same c.look.ensures.stay c.in_ok-latest.ensures.covers c.look.new.seats.items c.in_ok-latest.ensures.own
    (subst (λ tables. AreSeats c.look.new.self.store c.args.seen.now.call.now.thread (touched_points tables c.args.seen.now.call.now) c.look.new.seats.items) (sym c.look.ensures.same.tables) c.in_ok-latest.ensures.seats)
    c.cells-cells.ensures.one_each c.args.tracker.now.threads c.args.seen.now.line c.args.seen.now.place
    (subst (λ (d : Detecting). IsCallKept c.args.tracker.now.threads d c.keep_new.new.self c.args.seen.now.call.now (lent_witness c.args.seen.now)) (c.in_ok-keep_over.ensures.kept c.if-branch.false) both.0)
    (subst (λ (d : Detecting). AreLeft d.store c.keep_new.new.self.store c.look.new.covers c.keep_new.new.covers) (c.in_ok-keep_over.ensures.kept c.if-branch.false) both.1))
    (both_on_ok c.keep_new.result _ _ c.keep_new.ensures.taken c.keep_new.ensures.covers)
