use Rattle.std.proofs.Common.{◌↔◌, ◌≡◌, ◌⊎◌, sym, subst}
use Rattle.rd_linear.specs.Lanes.{AreThreadsRising}
use Rattle.rd_linear.specs.Linear.{Stands}
use Rattle.rd_linear.proofs.ThreadLemmas.{found_has, gap_found, hit_found, inserted_has, rising_inserted}
use Rattle.rd_linear.proofs.lanes.add_thread.Goals as goal

pub returns-in_ok-insert-clause-rising : goal.returns-in_ok-insert-clause-rising
returns-in_ok-insert-clause-rising c =
    let xs = c.args.threads.now.items in
    let gap = gap_found xs c.as_slice.result.now c.args.thread c.in-Err.at c.as_slice.ensures.value c.requires.rising c.in-Err.ensures.position in
    subst AreThreadsRising (sym c.in_ok-insert.ensures.items) (rising_inserted xs c.args.thread c.in-Err.at c.requires.rising gap)

pub returns-in_ok-insert-clause-has : goal.returns-in_ok-insert-clause-has
returns-in_ok-insert-clause-has c =
    let xs = c.args.threads.now.items in
    let gap = gap_found xs c.as_slice.result.now c.args.thread c.in-Err.at c.as_slice.ensures.value c.requires.rising c.in-Err.ensures.position in
    λ t. subst (λ l. Stands l t ↔ ((t ≡ c.args.thread) ⊎ Stands xs t)) (sym c.in_ok-insert.ensures.items) (inserted_has xs c.args.thread c.in-Err.at gap.0 t)

pub returns-in_default-clause-has : goal.returns-in_default-clause-has
returns-in_default-clause-has c =
    let xs = c.args.threads.now.items in
    found_has xs c.args.thread c.in_default.field-0
    (hit_found xs c.as_slice.result.now c.args.thread c.in_default.field-0 c.as_slice.ensures.value c.requires.rising c.in_default.ensures.position)
