-- Where no call is reported, every linear order ends as the recorded one.
use Rattle.std.proofs.Common.{ℕ, Bool, List}
use Rattle.std.specs.Prelude.{All}
use Rattle.rd_ecl.specs.Specified.{SpecifiedKind}
use Rattle.rd_event.specs.declared.events.Event.{Event}
use Rattle.rd_object.specs.Machines.{IsSound, KeepsShapes, Machine}
use Rattle.rd_object.specs.declared.shapes.Shape.{Shape}
use Rattle.rd_order.specs.EventLists.{WellFormed}
use Rattle.rd_linear.specs.Determinism.{AreOnObjects, Ends, IsDeterministic, NoneReported, kinds_from}
use Rattle.rd_linear.specs.Orders.{IsLinear, in_order}
use Rattle.rd_linear.proofs.ExchangeLemmas.{unlinked}
use Rattle.rd_linear.proofs.FollowLemmas.{not_linked_back}
use Rattle.rd_linear.proofs.OrderLemmas.{Lasts, formed_lasts, order_kept, order_same}
use Rattle.rd_linear.proofs.ReplayLemmas.{ends_exchanged, none_exchanged, on_exchanged}

-- what one exchange keeps of a list in which no call is reported
quiet_lasts : (roots : ℕ → Bool) (kinds : List SpecifiedKind) (objects : List ℕ) → Lasts roots (λ xs. AreOnObjects objects xs × NoneReported kinds xs)
quiet_lasts roots kinds objects xs a b ys formed loose k =
    let apart = unlinked xs a b ys loose in
    (on_exchanged kinds objects xs a b ys k.0, none_exchanged kinds objects xs a b ys apart (not_linked_back roots xs a b ys formed apart) k.0 k.1)

pub always_quiet : (roots : ℕ → Bool) (kinds : List SpecifiedKind) (objects : List ℕ) (es : List Event) (places : List ℕ) → WellFormed roots es → AreOnObjects objects es
    → NoneReported kinds es → IsLinear es places → NoneReported kinds (in_order es places)
always_quiet roots kinds objects es places formed on none l =
    (order_kept roots (λ xs. AreOnObjects objects xs × NoneReported kinds xs) (quiet_lasts roots kinds objects) es formed (on, none) places l).1

pub deterministic : (machines : List Machine) (roots : ℕ → Bool) (more : List SpecifiedKind) (objects : List ℕ) (shapes : List Shape) (es : List Event)
    → All IsSound machines → All KeepsShapes machines → WellFormed roots es → AreOnObjects objects es → NoneReported (kinds_from machines more) es
    → Ends machines objects es shapes → IsDeterministic machines roots objects es shapes
deterministic machines roots more objects shapes es sound keeps formed on none ends = record {
  formed = λ places l. order_kept roots (WellFormed roots) (formed_lasts roots) es formed formed places l;
  reaches = λ places l. order_same roots (WellFormed roots) (formed_lasts roots) es formed formed places l;
  ends = λ places l.
      (order_kept roots (λ xs. AreOnObjects objects xs × NoneReported (kinds_from machines more) xs × Ends machines objects xs shapes)
      (λ xs a b ys formed loose k.
      let apart = unlinked xs a b ys loose in (
        on_exchanged (kinds_from machines more) objects xs a b ys k.0,
        none_exchanged (kinds_from machines more) objects xs a b ys apart (not_linked_back roots xs a b ys formed apart) k.0 k.1,
        ends_exchanged machines more objects shapes xs a b ys sound keeps loose k.0 k.1 k.2,
      ))
      es formed (on, none, ends) places l).2;
}
