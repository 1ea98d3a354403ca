use Rattle.std.proofs.Common.{◌<◌, [], ◌∷◌, ◌++◌, refl, sym, ap, subst, ◌∙◌, arith}
use Rattle.std.specs.Prelude.{slice_index}
use Rattle.std.specs.BTreeSet.{contains}
use Rattle.std.specs.Ordering.{nat_cmp}
use Rattle.rd_turns.specs.NumberedLogs.{logs_by_numbers}
use Rattle.rd_turns.specs.Turning.{IsTurning}
use Rattle.rd_turns.specs.Waiting.{IsWokenBy}
use Rattle.rd_turns.proofs.StandingLemmas.{can_place, next_some}
use Rattle.rd_turns.proofs.TurningLemmas.{begins_turning, ends, fewer, inside, lower, next, settled, turned}
use Rattle.rd_weavings.specs.Logs.{next_spot}
use Rattle.rd_weavings.specs.WeaveTests.{turns_left}
use Rattle.rd_weavings.proofs.SpotLemmas.{spot_is}
use Rattle.rd_turns.proofs.turns.take_turns.Goals as goal

pub loop-log-init : goal.loop-log-init
loop-log-init c =
    subst (λ spots. IsTurning c.args.logs.now spots c.in_ok-tables.tables (contains nat_cmp c.in_ok-ready.ready)) (sym c.new-spots.ensures.items)
    (begins_turning c.args.logs.now c.in_ok-tables.tables (contains nat_cmp c.in_ok-ready.ready) c.in_ok-tables.ensures c.in_ok-ready.ensures)

pub given-requires : goal.given-requires
given-requires c =
    let inside = inside c.args.logs.now c.requires.range c.requires.own c.in_ok-waiting.waiting c.in_ok-waiting.ensures.knows c.loop-log.spots.items c.loop-log.tables (contains nat_cmp c.loop-log.ready)
    c.loop-log.invariant c.in-Some.log c.in-Some.step c.in-Some.ensures.some.0 in
    omega (arith, inside, c.loop-log.invariant.tables.logs)

pub give-requires-clause-next : goal.give-requires-clause-next
give-requires-clause-next c =
    can_place c.args.logs.now c.loop-log.spots.items c.loop-log.tables c.requires.range c.loop-log.invariant.tables c.requires.own c.in-Some.log c.in-Some.step
    (next_some c.args.logs.now c.loop-log.spots.items c.loop-log.tables c.requires.range c.loop-log.invariant.tables c.in-Some.log c.in-Some.step c.in-Some.ensures.some.0)

pub loop-log-smaller : goal.loop-log-smaller
loop-log-smaller c =
    let behind = c.in_ok-push.ensures.items ∙ ap (λ s. c.loop-log.spots.items ++ s ∷ [])
    (spot_is (record { log = c.in-Some.log; place = c.given.result }) (next_spot c.loop-log.spots.items c.in-Some.log) refl (c.given.ensures ∙ c.loop-log.invariant.tables.given c.in-Some.log)) in
    let less = fewer c.args.logs.now c.requires.range c.requires.own c.in_ok-waiting.waiting c.in_ok-waiting.ensures.knows c.loop-log.spots.items c.loop-log.tables (contains nat_cmp c.loop-log.ready)
    c.loop-log.invariant c.in-Some.log c.in-Some.step c.in-Some.ensures.some.0 in
    let smaller : turns_left (logs_by_numbers c.args.logs.now) c.push.new.self.items < turns_left (logs_by_numbers c.args.logs.now) c.loop-log.spots.items =
    omega (arith, less, ap (turns_left (logs_by_numbers c.args.logs.now)) behind) in
    smaller

pub loop-log-preserved : goal.loop-log-preserved
loop-log-preserved c =
    let n = c.args.logs.now in
    let spots = c.loop-log.spots.items in
    let t = c.loop-log.tables in
    let l = c.in-Some.log in
    let step = c.in-Some.step in
    let told = c.in-Some.ensures.some.0 in
    let w = c.in_ok-waiting.waiting in
    let knows = c.in_ok-waiting.ensures.knows in
    let first = c.loop-log.invariant in
    let turning = settled n c.requires.range c.requires.own w knows spots t (contains nat_cmp c.loop-log.ready) first (contains nat_cmp c.next_giver.new.ready) c.in-Some.ensures.kept in
    let is_next = next n c.requires.range c.requires.own w knows spots t (contains nat_cmp c.next_giver.new.ready) turning l step told in
    let is_inside = inside n c.requires.range c.requires.own w knows spots t (contains nat_cmp c.next_giver.new.ready) turning l step told in
    let behind = c.in_ok-push.ensures.items ∙ ap (λ s. spots ++ s ∷ []) (spot_is (record { log = l; place = c.given.result }) (next_spot spots l) refl (c.given.ensures ∙ first.tables.given l)) in
    let tables = c.give.ensures.tables is_next.log is_next.at in
    subst (λ xs. IsTurning n xs c.give.new.tables (contains nat_cmp c.give.new.ready)) (sym behind)
    (subst (λ x. IsTurning n (spots ++ next_spot spots l ∷ []) x (contains nat_cmp c.give.new.ready)) (sym tables)
    (turned n c.requires.range c.requires.own w knows spots t (contains nat_cmp c.next_giver.new.ready) turning l step told (contains nat_cmp c.give.new.ready)
    (lower n c.requires.range c.requires.own w knows spots t (contains nat_cmp c.loop-log.ready) first l is_inside c.in-Some.ensures.first)
    c.in-Some.ensures.some.1 c.in_ok-give.ensures.kept
    (λ k woken. c.in_ok-give.ensures.woken k (subst (λ x. IsWokenBy w x step k) (sym tables) woken))
    (λ even k listed. c.in_ok-give.ensures.left k is_next.log is_next.at (ap (λ x. slice_index x.given l) tables ∙ even) listed)))

pub returns : goal.returns
returns c =
    ends c.args.logs.now c.requires.range c.requires.own c.in_ok-waiting.waiting c.in_ok-waiting.ensures.knows c.loop-log.spots.items c.loop-log.tables (contains nat_cmp c.loop-log.ready) c.loop-log.invariant
    c.in_default.ensures.none
