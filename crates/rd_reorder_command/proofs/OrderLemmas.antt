-- The order that the number picks of the events of accepted lines.
use Rattle.std.proofs.Common.{◌≡◌, ℕ, ◌<◌, List, [], length, Some, get_or, map, slice_get, sym, ap, subst, ◌∙◌}
use Rattle.std.specs.List.{range_with_len}
use Rattle.std.specs.Option.{option_map_or}
use Rattle.std.proofs.lemmas.Option.{slice_get-get_or}
use Rattle.rd_ecl.specs.Kinds.{Kind}
use Rattle.rd_event.specs.declared.events.Event.{Event as Numbered}
use Rattle.rd_event.specs.declared.events.Event.TheVariants as numbered
use Rattle.rd_event.specs.declared.items.Line.{Line}
use Rattle.rd_linear.proofs.ActingLemmas.{HaveActing, acting_linear, have_acting, order_alike, range_acting}
use Rattle.rd_linear.specs.Lanes.{HaveThreads, order_by}
use Rattle.rd_linear.specs.Orders.{IsLinear}
use Rattle.rd_order.proofs.EventListLemmas.{known_later, may_follow_at}
use Rattle.rd_order.specs.Order.{thread_of}
use Rattle.rd_reorder_command.proofs.ValueLemmas.{order_same, threads_same}
use Rattle.rd_reorder_command.specs.Outcomes.{places_by}
use Rattle.rd_reorder_command.specs.Values.{without_values}
use Rattle.rd_rewriting.proofs.KeepingLemmas.{follow_told}
use Rattle.rd_rewriting.specs.Keeping.{FollowFrom}
use Rattle.rd_rules.specs.Events.{events_of, roots_of}
use Rattle.rd_rules.specs.MayFollow.{threads_of}

module _ (kinds : List Kind) (lines : List Line) (follow : FollowFrom kinds [] lines) where
  abbrev es : List Numbered
  es = events_of kinds lines

  -- the thread of each event is one
  acting_below : (p : ℕ) (e : Numbered) → slice_get es p ≡ Some e → thread_of e < length (threads_of lines)
  acting_below p e at =
      let told = (follow_told kinds lines follow).told in
      (told.known (thread_of e)).0 (known_later (roots_of lines) es p (thread_of e) (may_follow_at (roots_of lines) es p e told.formed at).known_actor)

  all_act : HaveActing es (range_with_len 0 (length (threads_of lines)))
  all_act = range_acting es (length (threads_of lines)) (λ p inside.
      let e = get_or es p (numbered.Acquire 0 0) in
      let at : slice_get es p ≡ Some e = slice_get-get_or es p (numbered.Acquire 0 0) inside in
      subst (λ o. option_map_or thread_of o 0 < length (threads_of lines)) (sym at)
      (acting_below p e at))

  -- the order of the threads that act is that of all
  pub picked_same : (threads : List ℕ) (number : ℕ) → HaveThreads es threads → order_by es threads number ≡ places_by kinds lines number
  picked_same threads number have = order_alike es threads (range_with_len 0 (length (threads_of lines))) (have_acting es threads have) all_act number

  -- and it is linear
  pub picked_linear : (number : ℕ) → IsLinear es (places_by kinds lines number)
  picked_linear number = acting_linear es (range_with_len 0 (length (threads_of lines))) number all_act

  -- so it is with what picks the order of these events without the values of calls, among the threads that act
  pub picked_places : (events : List Numbered) (places items : List ℕ) (number : ℕ) → events ≡ map without_values es → items ≡ places
      → ((threads : List ℕ) × HaveThreads events threads × (places ≡ order_by events threads number)) → items ≡ places_by kinds lines number
  picked_places events places items number are same (threads, have, is) =
      same
      ∙ (is
      ∙ (ap (λ l. order_by l threads number) are
      ∙ (order_same es threads number ∙ picked_same threads number (threads_same es threads (subst (λ l. HaveThreads l threads) are have)))))
