-- A well-formed list for examples.
use Rattle.std.proofs.Common.{inl, inr, List, [], ◌∷◌, refl, sym, arith, lit<, lit≤}
use Rattle.std.proofs.lemmas.Option.{none-some, same_Some}
use Rattle.rd_event.specs.declared.events.Event.{Event}
use Rattle.rd_event.specs.declared.events.Event.TheVariants.{Fork, Join}
use Rattle.rd_order.specs.EventLists.{forks, joins, Follow, MayHappen, WellFormed}
use Rattle.rd_order.specs.TestLists.{one_root, NextNumbers}
use Rattle.rd_order.proofs.EventListLemmas.{may_fork, may_join}
use Rattle.rd_order.proofs.TestListLemmas.{few_by_numbers, new_to_one, one_below}

pub fork_of_1 : MayHappen one_root [] (Fork 0 1)
unfolding forks joins
fork_of_1 = may_fork one_root [] 0 1 (new_to_one [] 1 (lit< tt) refl) (inl refl) refl

pub fork_of_2 : MayHappen one_root (Fork 0 1 ∷ []) (Fork 1 2)
unfolding forks joins
fork_of_2 = may_fork one_root (Fork 0 1 ∷ []) 1 2 (new_to_one (Fork 0 1 ∷ []) 2 (lit< tt) refl) (inr (lit< tt)) refl

-- a thread forks another, which forks a third, and joins both
abbrev pub family : List Event
family = Fork 0 1 ∷ Fork 1 2 ∷ Join 0 1 ∷ Join 0 2 ∷ []

family_follow : Follow one_root [] family
unfolding forks joins
family_follow = (
  fork_of_1,
  (
    fork_of_2,
    (
      may_join one_root (Fork 0 1 ∷ Fork 1 2 ∷ []) 0 1 (inr (lit< tt)) (λ e. omega arith) (inl refl) refl,
      (may_join one_root (Fork 0 1 ∷ Fork 1 2 ∷ Join 0 1 ∷ []) 0 2 (inr (lit< tt)) (λ e. omega arith) (inl refl) refl, tt),
    ),
  ),
)

family_numbered : NextNumbers 1 family
family_numbered = (
  λ u is. sym (same_Some 1 u is),
  (λ u is. sym (same_Some 2 u is), (λ u is. absurd (none-some u is), (λ u is. absurd (none-some u is), tt))),
)

pub family_formed : WellFormed one_root family
family_formed = record { follow = family_follow; bounded = few_by_numbers one_root 1 family one_below family_numbered (lit≤ tt) }
