-- Well-formed lists: by their places, with one event more.
use Rattle.std.proofs.Common.{◌≡◌, ◌≢◌, ◌↔◌, ◌⊎◌, inl, inr, ℕ, zero, suc, ◌+◌, ◌<◌, ◌≤◌, Bool, true, cond, List, [], ◌∷◌, ◌++◌, take, Some, refl, sym, ◌∙◌, ap, subst, arith, length-append}
use Rattle.std.specs.Prelude.{slice_get, count_by, if◌then◌else◌}
use Rattle.std.proofs.lemmas.Bool.{cases_Bool, cases_lt, false≢true}
use Rattle.std.proofs.lemmas.List.{append-nil, append_assoc}
use Rattle.std.proofs.lemmas.List.Sums.{sum_by-cons, sum_by-take-le, sum_by_push}
use Rattle.std.proofs.lemmas.Option.{none-some, same_Some}
use Rattle.rd_event.specs.declared.events.Call.{Call as CallOf}
use Rattle.rd_event.specs.declared.events.Event.{Event}
use Rattle.rd_event.specs.declared.events.Event.TheVariants.{Fork, Join, Acquire, Release, Share, Unshare, Call}
use Rattle.rd_order.specs.Counts.{Counts}
use Rattle.rd_order.specs.Order.{forked_thread, Hold, exclusive, shared, Against}
use Rattle.rd_order.specs.OrderTests.{is_this}
use Rattle.rd_order.specs.EventLists.{calls, forks, givings, joins, takings, IsKnownThread, MayHappen, Follow, IsBounded, WellFormed}
use Rattle.rd_order.proofs.CountsLemmas.{counts_all, counts_below, counts_within}

-- ---- places

-- each event may follow those before it and in front of it
abbrev EachMay : (ℕ → Bool) → List Event → List Event → Type 0
EachMay roots before es = (j : ℕ) (e : Event) → slice_get es j ≡ Some e → MayHappen roots (before ++ take j es) e

each_from : (roots : ℕ → Bool) (before es : List Event) → Follow roots before es → EachMay roots before es
each_from roots before [] f j e at = absurd (none-some e at)
each_from roots before (x ∷ es) f zero e at = rw append-nil (subst (MayHappen roots before) (same_Some x e at) f.0)
each_from roots before (x ∷ es) f (suc j) e at = subst (λ l. MayHappen roots l e) (append_assoc before (x ∷ []) (take j es)) (each_from roots (before ++ x ∷ []) es f.1 j e at)

from_each : (roots : ℕ → Bool) (before es : List Event) → EachMay roots before es → Follow roots before es
from_each roots before [] each = tt
from_each roots before (x ∷ es) each = (
  subst (λ l. MayHappen roots l x) (append-nil before) (each 0 x refl),
  from_each roots (before ++ x ∷ []) es
      (λ j e at. subst (λ l. MayHappen roots l e) (sym (append_assoc before (x ∷ []) (take j es))) (each (suc j) e at)),
)

-- a list is well-formed where each event may follow those in front of it, within the bounds
pub formed_by_places : (roots : ℕ → Bool) (es : List Event)
    → WellFormed roots es ↔ (((j : ℕ) (e : Event) → slice_get es j ≡ Some e → MayHappen roots (take j es) e) × IsBounded roots es)
formed_by_places roots es = (
  λ formed. (each_from roots [] es formed.follow, formed.bounded),
  λ x. record { follow = from_each roots [] es x.0; bounded = x.1 },
)

pub may_follow_at : (roots : ℕ → Bool) (es : List Event) (j : ℕ) (e : Event) → WellFormed roots es → slice_get es j ≡ Some e → MayHappen roots (take j es) e
may_follow_at roots es j e formed at = each_from roots [] es formed.follow j e at

-- ---- bounds

-- a thread is known or not
pub known_cases : (roots : ℕ → Bool) (es : List Event) (t : ℕ) → IsKnownThread roots es t ⊎ ¬ (IsKnownThread roots es t)
known_cases roots es t = elim (cases_Bool (roots t)) [
  | inl root ↦ inl (inl root)
  | inr no_root ↦ elim (cases_lt 0 (forks es t)) [
    | inl some ↦ inl (inr some)
    | inr none ↦ inr (λ known. elim known [ inl root ↦ absurd (false≢true (sym no_root ∙ root)) | inr begun ↦ omega (arith, none, begun) ])
  ]
]

pub forks_more : (es : List Event) (e : Event) (t : ℕ) → forks (es ++ e ∷ []) t ≡ forks es t + (if is_this (forked_thread e) t then 1 else 0)
unfolding forks
forks_more es e t = sum_by_push (λ x. if is_this (forked_thread x) t then 1 else 0) es e

-- a thread that was known is known with one event more
pub known_more : (roots : ℕ → Bool) (es : List Event) (e : Event) (t : ℕ) → IsKnownThread roots es t → IsKnownThread roots (es ++ e ∷ []) t
known_more roots es e t (inl root) = inl root
known_more roots es e t (inr begun) = inr (omega (arith, begun, forks_more es e t))

-- without its last event a list is within the bounds if it was
pub bounded_shorter : (roots : ℕ → Bool) (es : List Event) (e : Event) → IsBounded roots (es ++ e ∷ []) → IsBounded roots es
bounded_shorter roots es e bounded = record {
  few_events = omega (arith, length-append es (e ∷ []), bounded.few_events);
  few_threads = λ n c. counts_within (IsKnownThread roots es) (IsKnownThread roots (es ++ e ∷ [])) n c 4294967295 (known_cases roots (es ++ e ∷ [])) (known_more roots es e)
      (bounded.few_threads n);
}

-- where the known threads are those below a number that fits, they are few
pub few_known : (roots : ℕ → Bool) (es : List Event) (total : ℕ) → total ≤ 4294967295 → ((t : ℕ) → IsKnownThread roots es t ↔ (t < total))
    → (n c : ℕ) → Counts (IsKnownThread roots es) n c → c ≤ 4294967295
few_known roots es total fits known n c a = omega (arith, fits, counts_below (IsKnownThread roots es) total n c (λ t. (known t).0) a)

-- and where all below a number that doesn't are known, they aren't
pub many_known : (roots : ℕ → Bool) (es : List Event) (total : ℕ) → 4294967295 < total → ((t : ℕ) → t < total → IsKnownThread roots es t) → ¬ (IsBounded roots es)
many_known roots es total many known bounded =
    omega (arith, many, bounded.few_threads total total (counts_all (IsKnownThread roots es) total known))

-- ---- one event more

follow_more : (roots : ℕ → Bool) (before es : List Event) (e : Event) → Follow roots before (es ++ e ∷ []) ↔ (Follow roots before es × MayHappen roots (before ++ es) e)
follow_more roots before [] e = (
  λ f. (tt, rw append-nil f.0),
  λ f. (subst (λ l. MayHappen roots l e) (append-nil before) f.1, tt),
)
follow_more roots before (x ∷ es) e =
    let rest = follow_more roots (before ++ x ∷ []) es e in (
      λ f. ((f.0, (rest.0 f.1).0), subst (λ l. MayHappen roots l e) (append_assoc before (x ∷ []) es) (rest.0 f.1).1),
      λ f. (f.0.0, rest.1 (f.0.1, subst (λ l. MayHappen roots l e) (sym (append_assoc before (x ∷ []) es)) f.1)),
    )

-- a list with one event more is well-formed where the list is and the event may follow it, within the bounds
pub formed_more : (roots : ℕ → Bool) (es : List Event) (e : Event)
    → WellFormed roots (es ++ e ∷ []) ↔ (WellFormed roots es × MayHappen roots es e × IsBounded roots (es ++ e ∷ []))
formed_more roots es e =
    let more = follow_more roots [] es e in (
      λ formed. (
        record { follow = (more.0 formed.follow).0; bounded = bounded_shorter roots es e formed.bounded },
        (more.0 formed.follow).1,
        formed.bounded,
      ),
      λ x. record { follow = more.1 (x.0.follow, x.1); bounded = x.2 },
    )

-- a front of a well-formed list is well-formed
pub formed_front : (roots : ℕ → Bool) (es fs : List Event) → WellFormed roots (es ++ fs) → WellFormed roots es
formed_front roots es [] formed = subst (WellFormed roots) (append-nil es) formed
formed_front roots es (e ∷ fs) formed =
    ((formed_more roots es e).0 (formed_front roots (es ++ e ∷ []) fs (subst (WellFormed roots) (sym (append_assoc es (e ∷ []) fs)) formed))).0

-- ---- threads of well-formed lists

-- where an event passes the test, the count isn't 0
pub counted_once : (test : Event → Bool) (es : List Event) (m : ℕ) (e : Event) → slice_get es m ≡ Some e → test e ≡ true → 0 < count_by test es
counted_once test [] m e at pass = absurd (none-some e at)
counted_once test (x ∷ es) zero e at pass =
    let here : 0 < cond (test x) 1 0 = rw (same_Some x e at, pass) (omega arith) in
    omega (arith, sum_by-cons (λ y. cond (test y) 1 0) x es, here)
counted_once test (x ∷ es) (suc m) e at pass =
    let rest : 0 < count_by test es = counted_once test es m e at pass in
    omega (arith, sum_by-cons (λ y. cond (test y) 1 0) x es)

-- and where the count isn't 0 an event passes
pub some_counted : (test : Event → Bool) (es : List Event) → 0 < count_by test es → (m : ℕ) × (e : Event) × (slice_get es m ≡ Some e) × (test e ≡ true)
some_counted test [] some = absurd (omega (arith, some))
some_counted test (x ∷ es) some = elim (cases_Bool (test x)) [
  | inl pass ↦ (0, x, refl, pass)
  | inr fail ↦
      (let rest = some_counted test es (omega (arith, some, sum_by-cons (λ y. cond (test y) 1 0) x es, ap {B = ℕ} (λ b. cond b 1 0) fail)) in
      (suc rest.0, rest.1, rest.2, rest.3))
]

-- a thread that was known is known
pub known_later : (roots : ℕ → Bool) (es : List Event) (j t : ℕ) → IsKnownThread roots (take j es) t → IsKnownThread roots es t
unfolding forks
known_later roots es j t (inl root) = inl root
known_later roots es j t (inr forked_before) = inr (omega (arith, sum_by-take-le (λ e. cond (is_this (forked_thread e) t) 1 0) es j, forked_before))

-- ---- events that take and give back no hold

pub may_fork : (roots : ℕ → Bool) (before : List Event) (t u : ℕ) → ¬ (IsKnownThread roots before u) → IsKnownThread roots before t → joins before t ≡ 0 → MayHappen roots before (Fork t u)
may_fork roots before t u fresh known running = record {
  fresh = λ v is known_v. fresh (subst (IsKnownThread roots before) (sym (same_Some u v is)) known_v);
  known_actor = known;
  known_joined = λ v is. absurd (none-some v is);
  running = running;
  other_joined = λ v is. absurd (none-some v is);
  free = λ h k is. absurd (none-some h is);
  held = λ h is. absurd (none-some h is);
  one_kind = λ call is. absurd (none-some call is);
}

pub may_join : (roots : ℕ → Bool) (before : List Event) (t u : ℕ) → IsKnownThread roots before u → u ≢ t → IsKnownThread roots before t → joins before t ≡ 0 → MayHappen roots before (Join t u)
may_join roots before t u known_u other known running = record {
  fresh = λ v is. absurd (none-some v is);
  known_actor = known;
  known_joined = λ v is. subst (IsKnownThread roots before) (same_Some u v is) known_u;
  running = running;
  other_joined = λ v is. subst (λ w. w ≢ t) (same_Some u v is) other;
  free = λ h k is. absurd (none-some h is);
  held = λ h is. absurd (none-some h is);
  one_kind = λ call is. absurd (none-some call is);
}

pub may_call : (roots : ℕ → Bool) (before : List Event) (call : CallOf) → IsKnownThread roots before call.thread → joins before call.thread ≡ 0
    → ((kind : ℕ) → kind ≢ call.kind → calls before call.object kind ≡ 0) → MayHappen roots before (Call call)
may_call roots before call known running one_kind = record {
  fresh = λ v is. absurd (none-some v is);
  known_actor = known;
  known_joined = λ v is. absurd (none-some v is);
  running = running;
  other_joined = λ v is. absurd (none-some v is);
  free = λ h k is. absurd (none-some h is);
  held = λ h is. absurd (none-some h is);
  one_kind = λ other is. subst (λ d. (kind : ℕ) → kind ≢ d.kind → calls before d.object kind ≡ 0) (same_Some call other is) one_kind;
}

-- ---- events that take a lock or give it back

-- the lock of a hold
unfoldable pub lock_in : Hold → ℕ
lock_in (exclusive lock) = lock
lock_in (shared lock) = lock

pub exclusive_not_shared : (lock other : ℕ) → ¬ (exclusive lock ≡ shared other)
exclusive_not_shared lock other same = cc

pub may_acquire : (roots : ℕ → Bool) (before : List Event) (t lock : ℕ) → IsKnownThread roots before t → joins before t ≡ 0
    → ((u : ℕ) → u ≢ t → takings before u (exclusive lock) ≡ givings before u (exclusive lock))
    → ((u : ℕ) → u ≢ t → takings before u (shared lock) ≡ givings before u (shared lock)) → MayHappen roots before (Acquire t lock)
unfolding lock_in
may_acquire roots before t lock known running none_has none_shares = record {
  fresh = λ v is. absurd (none-some v is);
  known_actor = known;
  known_joined = λ v is. absurd (none-some v is);
  running = running;
  other_joined = λ v is. absurd (none-some v is);
  free = free;
  held = λ h is. absurd (none-some h is);
  one_kind = λ call is. absurd (none-some call is);
}
  where
    free : (h k : Hold) → Some (exclusive lock) ≡ Some h → Against h k → (u : ℕ) → u ≢ t → takings before u k ≡ givings before u k
    free (exclusive a) (exclusive b) is against u other =
        subst (λ m. takings before u (exclusive m) ≡ givings before u (exclusive m)) (ap lock_in (same_Some (exclusive lock) (exclusive a) is) ∙ against) (none_has u other)
    free (exclusive a) (shared b) is against u other =
        subst (λ m. takings before u (shared m) ≡ givings before u (shared m)) (ap lock_in (same_Some (exclusive lock) (exclusive a) is) ∙ against) (none_shares u other)
    free (shared a) k is against u other = absurd (exclusive_not_shared lock a (same_Some (exclusive lock) (shared a) is))

pub may_release : (roots : ℕ → Bool) (before : List Event) (t lock : ℕ) → IsKnownThread roots before t → joins before t ≡ 0
    → givings before t (exclusive lock) < takings before t (exclusive lock) → MayHappen roots before (Release t lock)
may_release roots before t lock known running has = record {
  fresh = λ v is. absurd (none-some v is);
  known_actor = known;
  known_joined = λ v is. absurd (none-some v is);
  running = running;
  other_joined = λ v is. absurd (none-some v is);
  free = λ h k is. absurd (none-some h is);
  held = λ h is. subst (λ k. givings before t k < takings before t k) (same_Some (exclusive lock) h is) has;
  one_kind = λ call is. absurd (none-some call is);
}

pub may_share : (roots : ℕ → Bool) (before : List Event) (t lock : ℕ) → IsKnownThread roots before t → joins before t ≡ 0
    → ((u : ℕ) → u ≢ t → takings before u (exclusive lock) ≡ givings before u (exclusive lock)) → MayHappen roots before (Share t lock)
unfolding lock_in
may_share roots before t lock known running none_has = record {
  fresh = λ v is. absurd (none-some v is);
  known_actor = known;
  known_joined = λ v is. absurd (none-some v is);
  running = running;
  other_joined = λ v is. absurd (none-some v is);
  free = free;
  held = λ h is. absurd (none-some h is);
  one_kind = λ call is. absurd (none-some call is);
}
  where
    free : (h k : Hold) → Some (shared lock) ≡ Some h → Against h k → (u : ℕ) → u ≢ t → takings before u k ≡ givings before u k
    free (shared a) (exclusive b) is against u other =
        subst (λ m. takings before u (exclusive m) ≡ givings before u (exclusive m)) (ap lock_in (same_Some (shared lock) (shared a) is) ∙ against) (none_has u other)
    free (shared a) (shared b) is against u other = absurd against
    free (exclusive a) k is against u other = absurd (exclusive_not_shared a lock (sym (same_Some (shared lock) (exclusive a) is)))

pub may_unshare : (roots : ℕ → Bool) (before : List Event) (t lock : ℕ) → IsKnownThread roots before t → joins before t ≡ 0
    → givings before t (shared lock) < takings before t (shared lock) → MayHappen roots before (Unshare t lock)
may_unshare roots before t lock known running has = record {
  fresh = λ v is. absurd (none-some v is);
  known_actor = known;
  known_joined = λ v is. absurd (none-some v is);
  running = running;
  other_joined = λ v is. absurd (none-some v is);
  free = λ h k is. absurd (none-some h is);
  held = λ h is. subst (λ k. givings before t k < takings before t k) (same_Some (shared lock) h is) has;
  one_kind = λ call is. absurd (none-some call is);
}
