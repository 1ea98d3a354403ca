use Rattle.std.proofs.Common.{◌≡◌, ◌≤◌, ◌+◌, Some, length, ap, arith, subst, sym, ◌∙◌}
use Rattle.std.specs.Option.{option_map_or}
use Rattle.std.proofs.lemmas.Option.{slice_get-get_or}
use Rattle.rd_order.specs.Order.{thread_of}
use Rattle.rd_linear.specs.Lanes.{AreThreadsBelow, thread_at}
use Rattle.rd_linear.proofs.ThreadLemmas.{threads_more, threads_same}
use Rattle.rd_linear.proofs.lanes.threads_of.Goals as goal
use Rattle.rd_linear.proofs.lanes.threads_of.Goals.{then-not-goes_on+in_ok-add_thread, else-not-goes_on}

pub loop-place-preserved : goal.loop-place-preserved
loop-place-preserved c =
    let es = c.args.events.now in let place = c.loop-place.place in let old = c.loop-place.threads in
    elim c.if-not-goes_on.branch [
      | then-not-goes_on+in_ok-add_thread w ↦
          (let event = slice_get-get_or es place w.index-events-place.result c.loop-place-test.true ∙ ap Some (sym w.index-events-place.is) in
          let of : thread_at es place ≡ w.thread_of.result = ap (λ o. option_map_or thread_of o 0) event ∙ sym w.thread_of.ensures in
          let taken = threads_more es place w.thread_of.result old.items w.add_thread.new.threads.items c.loop-place.invariant.0 of w.in_ok-add_thread.ensures.rising w.in_ok-add_thread.ensures.has in
          let more = w.in_ok-add_thread.ensures.more in let few = c.loop-place.invariant.1 in
          let count : length w.add_thread.new.threads.items ≤ place + 1 = omega (arith, more, few) in
          subst (λ threads. AreThreadsBelow es (place + 1) threads.items × (length threads.items ≤ place + 1)) (sym w.threads-is) (taken, count))
      | else-not-goes_on w ↦
          (let same = c.goes_on.ensures w.if-not-goes_on.false in let few = c.loop-place.invariant.1 in
          let count : length old.items ≤ place + 1 = omega (arith, few) in
          subst (λ threads. AreThreadsBelow es (place + 1) threads.items × (length threads.items ≤ place + 1)) (sym w.threads-is)
          (threads_same es place old.items c.loop-place.invariant.0 same.0 same.1, count))
    ]
