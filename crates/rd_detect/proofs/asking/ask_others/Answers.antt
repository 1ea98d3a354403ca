use Rattle.std.proofs.Common.{◌≡◌, ℕ, ◌+◌, ◌*◌, ◌≤◌, List, ◌++◌, ◌∷◌, [], length, map, take, refl, ap, sym, subst, ◌∙◌, arith}
use Rattle.std.specs.Prelude.{option_map, slice_index_or}
use Rattle.std.proofs.lemmas.List.{append-nil, take_all}
use Rattle.rd_store.specs.Lent.{lent_point}
use Rattle.rd_detect.specs.Covers.{CoversKept, epoch_of}
use Rattle.rd_detect.specs.Detect.{IsLatestOf, in_class}
use Rattle.rd_detect.specs.Seats.{other_classes}
use Rattle.rd_detect.proofs.AskingLemmas.{cost_within, in_class_more}
use Rattle.rd_detect.proofs.CoverLemmas.{cost_next, covered_none, kept_joined, kept_refl, latest_covered}
use Rattle.rd_detect.proofs.OwnLemmas.{next_other, next_own, others_front}
use Rattle.rd_detect.proofs.asking.ask_others.Goals.{in-Some+in_ok-found-in-Some, in-None}
use Rattle.rd_detect.proofs.asking.ask_others.Goals as goal

pub loop-class-init : goal.loop-class-init
loop-class-init g c = (
  λ points before. subst (λ list. IsLatestOf c.args.store.now list c.args.stamp.clock.now (option_map (λ held. held.value) c.args.found)) (sym (append-nil points)) before,
  kept_refl c.args.store.now c.args.stamp.clock.now (epoch_of c.args.stamp) c.args.covers.now c.requires.few,
  λ threads below. omega arith,
)

pub loop-class-preserved-then-class-sought : goal.loop-class-preserved-then-class-sought
loop-class-preserved-then-class-sought g c = (
  λ points before.
      subst (λ list. IsLatestOf c.args.store.now (points ++ map (in_class (lent_point c.args.sought.point)) list) c.args.stamp.clock.now (option_map (λ held. held.value) c.loop-class.found)) (sym same)
      (c.loop-class.invariant.0 points before),
  c.loop-class.invariant.1,
  λ threads below. subst (λ list. c.loop-class.steps ≤ c.args.steps.now + length list * (threads + 1)) (sym same) (c.loop-class.invariant.2 threads below),
)
  where
    same : other_classes c.args.sought.point.class (take (c.loop-class.class-index + 1) c.args.classes.now) ≡ other_classes c.args.sought.point.class (take c.loop-class.class-index c.args.classes.now)
    same = next_own c.args.sought.point.class c.args.classes.now c.loop-class.class-index c.loop-class-test.true c.if-class-sought.true

pub returns-in_err-found-in-Some-clause-cost : goal.returns-in_err-found-in-Some-clause-cost
returns-in_err-found-in-Some-clause-cost g c = λ threads below.
    cost_within _ _ (length (other_classes c.args.sought.point.class c.args.classes.now)) (threads + 1) (length (other_classes c.args.sought.point.class (take (c.loop-class.class-index + 1) c.args.classes.now)))
    (others_front c.args.sought.point.class c.args.classes.now (c.loop-class.class-index + 1))
    (subst (λ list. c.ask_at.new.steps ≤ c.args.steps.now + length list * (threads + 1)) (sym more)
    (cost_next _ _ _ threads done class (c.loop-class.invariant.2 threads below) (c.ask_at.ensures.cost threads below)))
  where
    done : List ℕ
    done = other_classes c.args.sought.point.class (take c.loop-class.class-index c.args.classes.now)

    class : ℕ
    class = slice_index_or c.args.classes.now c.loop-class.class-index 0

    more : other_classes c.args.sought.point.class (take (c.loop-class.class-index + 1) c.args.classes.now) ≡ done ++ class ∷ []
    more = next_other c.args.sought.point.class c.args.classes.now c.loop-class.class-index c.loop-class-test.true c.if-class-sought.false

pub loop-class-preserved : goal.loop-class-preserved
loop-class-preserved g c = elim c.match-index_of.branch [
  | in-Some+in_ok-found-in-Some w ↦ (
    λ points before.
        subst (λ found. IsLatestOf c.args.store.now (points ++ map (in_class (lent_point c.args.sought.point)) (other_classes c.args.sought.point.class (take (c.loop-class.class-index + 1) c.args.classes.now))) c.args.stamp.clock.now (option_map (λ held. held.value) found)) (sym w.found-is)
        (subst (λ list. IsLatestOf c.args.store.now list c.args.stamp.clock.now (option_map (λ held. held.value) w.in_ok-found-in-Some.found)) (asked points)
        (w.in_ok-found-in-Some.ensures.latest (points ++ map (in_class (lent_point c.args.sought.point)) done) _ w.in-Some.ensures (c.loop-class.invariant.0 points before))),
    subst (CoversKept c.args.store.now c.args.stamp.clock.now (epoch_of c.args.stamp) c.args.covers.now) (sym w.covers-is)
        (kept_joined c.args.store.now c.args.stamp.clock.now (epoch_of c.args.stamp) c.args.covers.now c.loop-class.covers w.ask_at.new.covers c.loop-class.invariant.1 w.ask_at.ensures.covers),
    λ threads below. subst (λ steps. steps ≤ c.args.steps.now + length (other_classes c.args.sought.point.class (take (c.loop-class.class-index + 1) c.args.classes.now)) * (threads + 1)) (sym w.steps-is)
        (subst (λ list. w.ask_at.new.steps ≤ c.args.steps.now + length list * (threads + 1)) (sym more)
        (cost_next _ _ _ threads done class (c.loop-class.invariant.2 threads below) (w.ask_at.ensures.cost threads below))),
  )
  | in-None w ↦ (
    λ points before.
        subst (λ found. IsLatestOf c.args.store.now (points ++ map (in_class (lent_point c.args.sought.point)) (other_classes c.args.sought.point.class (take (c.loop-class.class-index + 1) c.args.classes.now))) c.args.stamp.clock.now (option_map (λ held. held.value) found)) (sym w.found-is)
        (subst (λ list. IsLatestOf c.args.store.now list c.args.stamp.clock.now (option_map (λ held. held.value) c.loop-class.found)) (asked points)
        (latest_covered c.args.store.now (points ++ map (in_class (lent_point c.args.sought.point)) done) _ c.args.stamp.clock.now (option_map (λ held. held.value) c.loop-class.found)
        (covered_none c.args.store.now _ c.args.stamp.clock.now w.in-None.ensures) (c.loop-class.invariant.0 points before))),
    subst (CoversKept c.args.store.now c.args.stamp.clock.now (epoch_of c.args.stamp) c.args.covers.now) (sym w.covers-is) c.loop-class.invariant.1,
    λ threads below. subst (λ steps. steps ≤ c.args.steps.now + length (other_classes c.args.sought.point.class (take (c.loop-class.class-index + 1) c.args.classes.now)) * (threads + 1)) (sym w.steps-is)
        (subst (λ list. w.tick.new.self ≤ c.args.steps.now + length list * (threads + 1)) (sym more)
        (cost_next _ _ _ threads done class (c.loop-class.invariant.2 threads below) (omega (arith, w.tick.ensures)))),
  )
]
  where
    done : List ℕ
    done = other_classes c.args.sought.point.class (take c.loop-class.class-index c.args.classes.now)

    class : ℕ
    class = slice_index_or c.args.classes.now c.loop-class.class-index 0

    more : other_classes c.args.sought.point.class (take (c.loop-class.class-index + 1) c.args.classes.now) ≡ done ++ class ∷ []
    more = next_other c.args.sought.point.class c.args.classes.now c.loop-class.class-index c.loop-class-test.true c.if-class-sought.false

    asked : (points : _) → (points ++ map (in_class (lent_point c.args.sought.point)) done) ++ lent_point c.in_class.result.point ∷ []
        ≡ points ++ map (in_class (lent_point c.args.sought.point)) (other_classes c.args.sought.point.class (take (c.loop-class.class-index + 1) c.args.classes.now))
    asked points = ap (λ q. (points ++ map (in_class (lent_point c.args.sought.point)) done) ++ lent_point q ∷ []) c.in_class.ensures
        ∙ (in_class_more (lent_point c.args.sought.point) points done class _ _ refl refl
        ∙ ap (λ list. points ++ map (in_class (lent_point c.args.sought.point)) list) (sym more))

pub returns-clause-latest : goal.returns-clause-latest
returns-clause-latest g c = λ points before.
    subst (λ classes. IsLatestOf c.args.store.now (points ++ map (in_class (lent_point c.args.sought.point)) (other_classes c.args.sought.point.class classes)) c.args.stamp.clock.now (option_map (λ held. held.value) c.loop-class.found))
    (take_all c.loop-class.class-index c.args.classes.now c.loop-class-test.false) (c.loop-class.invariant.0 points before)
