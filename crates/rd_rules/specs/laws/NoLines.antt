-- What is told of no lines. A trait's law may cite definitions alone, so this proof stands among them.
use Rattle.std.specs.Prelude.{◌≡◌, ◌<◌, ℕ, zero, suc, List, [], length, IfSome}
use Rattle.std.proofs.Common.{inl, inr, refl, arith}
use Rattle.std.proofs.lemmas.Bool.Decides.{Decides-ltb}
use Rattle.std.proofs.lemmas.List.Elements.{All-nil}
use Rattle.std.proofs.lemmas.Option.{none-some}
use Rattle.rd_order.specs.Counts.{Counts}
use Rattle.rd_order.specs.EventLists.{calls, forks, givings, IsCallOf, joins, IsKnownThread, takings}
use Rattle.rd_order.specs.Order.{call_in}
use Rattle.rd_rules.specs.Events.{AreTold, Tally, events_of, roots_of}
use Rattle.rd_rules.specs.MayFollow.{acquires, releases, shares, unshares}
use Rattle.rd_ecl.specs.Kinds.{Kind}

-- no thread is known
none_known : (kinds : List Kind) (n c : ℕ) → Counts (IsKnownThread (roots_of []) (events_of kinds [])) n c → c ≡ 0
unfolding forks
none_known kinds zero c counted = counted
none_known kinds (suc n) c (inl some) = elim some.0 [ inl root ↦ absurd (omega (arith, (Decides-ltb n 0).0 root)) | inr forked ↦ absurd (omega (arith, forked)) ]
none_known kinds (suc n) c (inr none) = none_known kinds n c none.1

-- no lock is taken or given back
no_tally : Tally (λ t l. 0) [] [] (λ thread lock. 0)
no_tally = record {
  named = λ t l thread lock at lock_at. refl;
  no_thread = λ t l past. refl;
  no_lock = λ t l past. refl;
  new_thread = λ thread lock none. refl;
  new_lock = λ thread lock none. refl;
}

-- nothing is told of no lines
pub told_none : (kinds : List Kind) → AreTold kinds []
unfolding calls forks joins takings givings acquires releases shares unshares
told_none kinds = record {
  told = record {
    formed = record {
      follow = tt;
      bounded = record { few_events = omega arith; few_threads = λ n c counted. (let none : c ≡ 0 = none_known kinds n c counted in omega arith) };
    };
    counted = refl;
    known = λ t. (
      λ known. elim known [ inl root ↦ (Decides-ltb t 0).0 root | inr forked ↦ absurd (omega arith) ],
      λ below. absurd (omega arith),
    );
    ended = λ t. (λ some. absurd (omega arith), λ x. absurd (none-some x.0 x.1));
    begun = λ name there. there;
    places = λ t name at. absurd (none-some name at);
    few = omega arith;
    one_kind = λ object kind some. absurd (omega arith);
  };
  used = record {
    alone = record { taken = no_tally; given = no_tally };
    shares = record { taken = no_tally; given = no_tally };
    places = λ l lock at. absurd (none-some lock at);
  };
  declared = All-nil (λ kind. kind < length kinds);
  fit = All-nil (λ e. IfSome (call_in e) (IsCallOf kinds));
}
