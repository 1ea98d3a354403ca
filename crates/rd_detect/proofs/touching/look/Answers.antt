use Rattle.std.proofs.Common.{◌≡◌, ◌+◌, ◌≤◌, List, Some, ◌++◌, ◌∷◌, [], None, length, map, take, refl, ap, sym, subst, ◌∙◌}
use Rattle.std.specs.List.{sum_by}
use Rattle.std.specs.Prelude.{flat_map, option_map}
use Rattle.rd_points.specs.Tables.{conflicts_at, touched}
use Rattle.rd_points.specs.declared.points.Point.{Point}
use Rattle.rd_store.specs.Lent.{lent_point}
use Rattle.rd_store.specs.Stores.{IsSameStore, point_at}
use Rattle.std.proofs.lemmas.List.{map_more}
use Rattle.rd_detect.specs.Covers.{AreOwn, AreTrueFor, CoversKept, epoch_of}
use Rattle.rd_detect.specs.Detect.{IsLatestOf, asking_bound, conflicting_points, in_class, point_of}
use Rattle.rd_detect.specs.Seats.{AreSeats, other_classes}
use Rattle.rd_detect.proofs.AskingLemmas.{asked_less, asking_more, cost_within, points_more}
use Rattle.rd_detect.proofs.CoverLemmas.{follow_joined, kept_entered, kept_joined, latest_all, own_kept, own_more, own_next, true_after, true_entered}
use Rattle.rd_detect.proofs.LookLemmas.{below_same, latest_same, same_cell, same_joined, seats_more}
use Rattle.rd_detect.proofs.OwnLemmas.{fewer}
use Rattle.rd_detect.proofs.touching.look.Goals as goal

pub ask_others-requires : goal.ask_others-requires
ask_others-requires g c =
    true_after c.loop-touch.store c.args.seen.now.stamp.clock.now (epoch_of c.args.seen.now.stamp) c.args.covers.now c.loop-touch.covers
    (true_entered c.args.store.now c.loop-touch.store c.loop-touch.invariant.2 c.loop-touch.invariant.4 c.args.covers.now c.args.seen.now.stamp.clock.now c.requires.told)
    c.loop-touch.invariant.5

pub ask_own-requires-clause-told : goal.ask_own-requires-clause-told
ask_own-requires-clause-told g c =
    subst (λ covers. AreTrueFor c.enter.new.store covers c.args.seen.now.stamp.clock.now) (sym c.enter.ensures.covers)
    (true_entered c.loop-touch.store c.enter.new.store c.enter.ensures.same c.enter.ensures.stay c.ask_others.new.covers c.args.seen.now.stamp.clock.now
    (true_after c.loop-touch.store c.args.seen.now.stamp.clock.now (epoch_of c.args.seen.now.stamp) c.loop-touch.covers c.ask_others.new.covers
    (true_after c.loop-touch.store c.args.seen.now.stamp.clock.now (epoch_of c.args.seen.now.stamp) c.args.covers.now c.loop-touch.covers
    (true_entered c.args.store.now c.loop-touch.store c.loop-touch.invariant.2 c.loop-touch.invariant.4 c.args.covers.now c.args.seen.now.stamp.clock.now c.requires.told)
    c.loop-touch.invariant.5)
    c.ask_others.ensures.covers))

pub loop-touch-preserved : goal.loop-touch-preserved
loop-touch-preserved g c = (
  subst (λ points. IsLatestOf c.args.store.now (flat_map (conflicting_points c.args.table.now) points) c.args.seen.now.stamp.clock.now (option_map (λ held. held.value) c.in_ok-latest-2.latest)) (sym more)
      (subst (λ points. IsLatestOf c.args.store.now points c.args.seen.now.stamp.clock.now (option_map (λ held. held.value) c.in_ok-latest-2.latest))
      (points_more c.args.table.now before (lent_point c.new-sought.result.point) c.conflicts-classes.result.now c.conflicts-classes.ensures)
      (latest_same c.enter.new.store c.args.store.now (found ++ map (in_class (lent_point c.new-sought.result.point)) c.conflicts-classes.result.now) c.args.seen.now.stamp.clock.now (option_map (λ held. held.value) c.in_ok-latest-2.latest)
      (λ p t. sym (same_cell c.args.store.now c.enter.new.store joined p t))
      (latest_all c.enter.new.store c.args.seen.now.stamp.clock.now found (lent_point c.new-sought.result.point) c.new-sought.result.point.class c.conflicts-classes.result.now (option_map (λ held. held.value) c.in_ok-latest-2.latest)
      c.contains-asked.result c.contains-asked.ensures.value refl
      (c.in_ok-latest-2.ensures.latest (found ++ map (in_class (lent_point c.new-sought.result.point)) (other_classes c.new-sought.result.point.class c.conflicts-classes.result.now)) (lent_point c.new-sought.result.point) at
      (latest_same c.loop-touch.store c.enter.new.store (found ++ map (in_class (lent_point c.new-sought.result.point)) (other_classes c.new-sought.result.point.class c.conflicts-classes.result.now)) c.args.seen.now.stamp.clock.now
      (option_map (λ held. held.value) c.in_ok-latest.latest) (same_cell c.loop-touch.store c.enter.new.store c.enter.ensures.same)
      (c.in_ok-latest.ensures.latest found
      (latest_same c.args.store.now c.loop-touch.store found c.args.seen.now.stamp.clock.now (option_map (λ held. held.value) c.loop-touch.latest)
      (same_cell c.args.store.now c.loop-touch.store c.loop-touch.invariant.2) c.loop-touch.invariant.0))))))),
  subst (λ points. AreSeats c.enter.new.store c.args.seen.now.call.now.thread points c.push.new.self.items) (sym more)
      (subst (AreSeats c.enter.new.store c.args.seen.now.call.now.thread (before ++ (lent_point c.new-sought.result.point) ∷ [])) (sym c.push.ensures.items)
      (seats_more c.loop-touch.store c.enter.new.store c.args.seen.now.call.now.thread before c.loop-touch.seats.items (lent_point c.new-sought.result.point) c.in_ok-seat.seat c.enter.ensures.same c.enter.ensures.stay
      c.in_ok-seat.ensures.entered c.loop-touch.invariant.1)),
  joined,
  λ threads below.
      subst (λ points. c.ask_own.new.steps ≤ c.args.steps.now + sum_by (asking_bound c.args.table.now threads) points) (sym more)
      (asking_more c.args.table.now before (lent_point c.new-sought.result.point) c.conflicts-classes.result.now c.conflicts-classes.ensures threads c.args.steps.now _ _ (c.loop-touch.invariant.3 threads below)
      (own_next c.loop-touch.steps c.ask_others.new.steps c.ask_own.new.steps threads c.new-sought.result.point.class c.conflicts-classes.result.now c.contains-asked.result c.contains-asked.ensures.value
      (c.ask_others.ensures.cost threads (below_same c.args.store.now c.loop-touch.store threads (same_cell c.args.store.now c.loop-touch.store c.loop-touch.invariant.2) below))
      (c.ask_own.ensures.cost threads (below_same c.args.store.now c.enter.new.store threads (same_cell c.args.store.now c.enter.new.store joined) below)))),
  λ index point stands. c.enter.ensures.stay index point (c.loop-touch.invariant.4 index point stands),
  kept_joined c.enter.new.store c.args.seen.now.stamp.clock.now (epoch_of c.args.seen.now.stamp) c.args.covers.now c.ask_others.new.covers c.ask_own.new.covers
      (kept_entered c.loop-touch.store c.enter.new.store c.enter.ensures.same c.enter.ensures.stay c.args.seen.now.stamp.clock.now (epoch_of c.args.seen.now.stamp) c.args.covers.now c.ask_others.new.covers
      (kept_joined c.loop-touch.store c.args.seen.now.stamp.clock.now (epoch_of c.args.seen.now.stamp) c.args.covers.now c.loop-touch.covers c.ask_others.new.covers
      c.loop-touch.invariant.5 c.ask_others.ensures.covers))
      owned,
  subst (AreOwn (epoch_of c.args.seen.now.stamp) c.ask_own.new.covers) (sym c.push.ensures.items)
      (own_more (epoch_of c.args.seen.now.stamp) c.ask_own.new.covers c.loop-touch.seats.items c.in_ok-seat.seat c.in_ok-latest-2.ensures.own
      (own_kept c.enter.new.store c.args.seen.now.stamp.clock.now (epoch_of c.args.seen.now.stamp) c.loop-touch.covers c.ask_own.new.covers c.loop-touch.seats.items
      (follow_joined c.enter.new.store c.args.seen.now.stamp.clock.now (epoch_of c.args.seen.now.stamp) c.loop-touch.covers c.ask_others.new.covers c.ask_own.new.covers
      (kept_entered c.loop-touch.store c.enter.new.store c.enter.ensures.same c.enter.ensures.stay c.args.seen.now.stamp.clock.now (epoch_of c.args.seen.now.stamp) c.loop-touch.covers c.ask_others.new.covers
      c.ask_others.ensures.covers).follow
      owned.follow)
      c.loop-touch.invariant.6)),
)
  where
    before : List Point
    before = map (point_of c.args.seen.now.call.now) (take c.loop-touch.touch-index c.row-touches.result.now)

    found : List Point
    found = flat_map (conflicting_points c.args.table.now) before

    joined : IsSameStore c.args.store.now c.enter.new.store
    joined = same_joined c.args.store.now c.loop-touch.store c.enter.new.store c.loop-touch.invariant.2 c.enter.ensures.same

    owned : CoversKept c.enter.new.store c.args.seen.now.stamp.clock.now (epoch_of c.args.seen.now.stamp) c.ask_others.new.covers c.ask_own.new.covers
    owned = subst (λ covers. CoversKept c.enter.new.store c.args.seen.now.stamp.clock.now (epoch_of c.args.seen.now.stamp) covers c.ask_own.new.covers) c.enter.ensures.covers c.ask_own.ensures.covers

    at : point_at c.enter.new.store c.in_ok-seat.seat.index ≡ Some (lent_point c.new-sought.result.point)
    at = c.in_ok-seat.ensures.entered.at

    more : map (point_of c.args.seen.now.call.now) (take (c.loop-touch.touch-index + 1) c.row-touches.result.now) ≡ before ++ (lent_point c.new-sought.result.point) ∷ []
    more = map_more (point_of c.args.seen.now.call.now) c.row-touches.result.now c.loop-touch.touch-index (record { class = 0; slot = None }) c.loop-touch-test.true
        ∙ ap (λ p. before ++ p ∷ []) (sym (ap lent_point c.new-sought.ensures ∙ c.point-point.ensures))

pub returns-in_err-latest-clause-cost : goal.returns-in_err-latest-clause-cost
returns-in_err-latest-clause-cost g c = λ threads below.
    asked_less c.args.table.now threads c.args.seen.now.call.now c.row-touches.result.now _ c.loop-touch.touch-index c.args.steps.now _ _ c.conflicts-classes.result.now c.loop-touch-test.true
    (c.conflicts-classes.ensures ∙ ap (λ (p : Point). conflicts_at c.args.table.now p.class) (ap lent_point c.new-sought.ensures ∙ c.point-point.ensures))
    (c.row-touches.ensures.value ∙ ap (touched c.args.table.now c.args.seen.now.call.now.method) c.items.ensures)
    (c.loop-touch.invariant.3 threads below)
    (cost_within c.loop-touch.steps _ (length c.conflicts-classes.result.now) (threads + 1) (length (other_classes c.new-sought.result.point.class c.conflicts-classes.result.now))
    (fewer c.new-sought.result.point.class c.conflicts-classes.result.now)
    (c.ask_others.ensures.cost threads (below_same c.args.store.now c.loop-touch.store threads (same_cell c.args.store.now c.loop-touch.store c.loop-touch.invariant.2) below)))

pub returns-in_err-seat-clause-cost : goal.returns-in_err-seat-clause-cost
returns-in_err-seat-clause-cost g c = λ threads below.
    asked_less c.args.table.now threads c.args.seen.now.call.now c.row-touches.result.now _ c.loop-touch.touch-index c.args.steps.now _ _ c.conflicts-classes.result.now c.loop-touch-test.true
    (c.conflicts-classes.ensures ∙ ap (λ (p : Point). conflicts_at c.args.table.now p.class) (ap lent_point c.new-sought.ensures ∙ c.point-point.ensures))
    (c.row-touches.ensures.value ∙ ap (touched c.args.table.now c.args.seen.now.call.now.method) c.items.ensures)
    (c.loop-touch.invariant.3 threads below)
    (cost_within c.loop-touch.steps _ (length c.conflicts-classes.result.now) (threads + 1) (length (other_classes c.new-sought.result.point.class c.conflicts-classes.result.now))
    (fewer c.new-sought.result.point.class c.conflicts-classes.result.now)
    (c.ask_others.ensures.cost threads (below_same c.args.store.now c.loop-touch.store threads (same_cell c.args.store.now c.loop-touch.store c.loop-touch.invariant.2) below)))

pub returns-in_err-latest-2-clause-cost : goal.returns-in_err-latest-2-clause-cost
returns-in_err-latest-2-clause-cost g c = λ threads below.
    let joined = same_joined c.args.store.now c.loop-touch.store c.enter.new.store c.loop-touch.invariant.2 c.enter.ensures.same in
    asked_less c.args.table.now threads c.args.seen.now.call.now c.row-touches.result.now _ c.loop-touch.touch-index c.args.steps.now _ _ c.conflicts-classes.result.now c.loop-touch-test.true
    (c.conflicts-classes.ensures ∙ ap (λ (p : Point). conflicts_at c.args.table.now p.class) (ap lent_point c.new-sought.ensures ∙ c.point-point.ensures))
    (c.row-touches.ensures.value ∙ ap (touched c.args.table.now c.args.seen.now.call.now.method) c.items.ensures)
    (c.loop-touch.invariant.3 threads below)
    (own_next c.loop-touch.steps c.ask_others.new.steps c.ask_own.new.steps threads c.new-sought.result.point.class c.conflicts-classes.result.now c.contains-asked.result c.contains-asked.ensures.value
    (c.ask_others.ensures.cost threads (below_same c.args.store.now c.loop-touch.store threads (same_cell c.args.store.now c.loop-touch.store c.loop-touch.invariant.2) below))
    (c.ask_own.ensures.cost threads (below_same c.args.store.now c.enter.new.store threads (same_cell c.args.store.now c.enter.new.store joined) below)))
