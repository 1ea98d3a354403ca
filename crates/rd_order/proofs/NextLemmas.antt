-- The next place on the farthest path, by what is noted.
use Rattle.std.proofs.Common.{true, false, true≢false, ◌≡◌, ◌<◌, ◌+◌, ◌⊎◌, ℕ, List, [], ◌∷◌, Option, Some, None, slice_get, arith, inl, inr, refl, sym, ◌∙◌, ap, subst}
use Rattle.std.specs.Prelude.{is_some}
use Rattle.std.proofs.lemmas.Option.{none-some, same_Some}
use Rattle.rd_event.specs.declared.events.Event.{Event}
use Rattle.rd_order.specs.Order.{Against, Edge, Hold, Linked, Reaches, begins, ends, exclusive, forked_thread, hands_over, hold_given, same_thread, shared, spans, thread_of}
use Rattle.rd_order.proofs.OrderLemmas.{edge_reaches, reaches_joined}
use Rattle.rd_order.specs.declared.steps.Notes.{Notes}
use Rattle.rd_order.specs.Paths.{Comes, IsFarthest, LeadsOn}
use Rattle.rd_order.specs.Noting.{AreNoted, IsLastFrom, MeetsThread, TakesOn, acquire_noted, next_by, noted_of, share_noted, taker, thread_noted}
use Rattle.rd_order.proofs.LastLemmas.{last_like, later_last, of_option}

-- its event takes a hold against this one
abbrev pub TakesBehind : List Event → ℕ → Option Hold → ℕ → Type 0
TakesBehind es j o k = (given : Hold) × (taken : Hold) × (o ≡ Some given) × Against given taken × TakesOn es j taken k

-- it is of a thread that e forks, or joins it
abbrev pub MeetsFork : List Event → ℕ → Event → ℕ → Type 0
MeetsFork es j e k = (u : ℕ) × (forked_thread e ≡ Some u) × MeetsThread es j u k

-- who takes a hold against an exclusive one acquires the lock or shares it, and against a share acquires it
from_exclusive : (es : List Event) (j k lock : ℕ) (taken : Hold) → Against (exclusive lock) taken → TakesOn es j taken k → TakesOn es j (exclusive lock) k ⊎ TakesOn es j (shared lock) k
from_exclusive es j k lock (exclusive other) same takes = inl (subst (λ l. TakesOn es j (exclusive l) k) (sym same) takes)
from_exclusive es j k lock (shared other) same takes = inr (subst (λ l. TakesOn es j (shared l) k) (sym same) takes)

from_shared : (es : List Event) (j k lock : ℕ) (taken : Hold) → Against (shared lock) taken → TakesOn es j taken k → TakesOn es j (exclusive lock) k
from_shared es j k lock (exclusive other) same takes = subst (λ l. TakesOn es j (exclusive l) k) (sym same) takes
from_shared es j k lock (shared other) against takes = absurd against

behind : (es : List Event) (j k : ℕ) (given : Hold) → TakesBehind es j (Some given) k → (taken : Hold) × Against given taken × TakesOn es j taken k
behind es j k given has = (has.1, subst (λ h. Against h has.1) (sym (same_Some given has.0 has.2)) has.3, has.4)

taker_is : (es : List Event) (j lo : ℕ) (o : Option Hold) (notes : Notes) → AreNoted es j lo notes → IsLastFrom (TakesBehind es j o) lo (taker notes o)
taker_is es j lo None notes noted = λ k least has. none-some has.0 has.2
taker_is es j lo (Some (exclusive lock)) notes noted =
    last_like (λ k. TakesOn es j (exclusive lock) k ⊎ TakesOn es j (shared lock) k) (TakesBehind es j (Some (exclusive lock))) lo (taker notes (Some (exclusive lock)))
    (λ k least has. elim has [ inl takes ↦ (exclusive lock, exclusive lock, refl, refl, takes) | inr takes ↦ (exclusive lock, shared lock, refl, refl, takes) ])
    (λ k least has. let found = behind es j k (exclusive lock) has in from_exclusive es j k lock found.0 found.1 found.2)
    (later_last (TakesOn es j (exclusive lock)) (TakesOn es j (shared lock)) lo (acquire_noted notes lock) (share_noted notes lock) (noted.acquires_are lock) (noted.shares_are lock))
taker_is es j lo (Some (shared lock)) notes noted =
    last_like (TakesOn es j (exclusive lock)) (TakesBehind es j (Some (shared lock))) lo (acquire_noted notes lock)
    (λ k least takes. (shared lock, exclusive lock, refl, refl, takes))
    (λ k least has. let found = behind es j k (shared lock) has in from_shared es j k lock found.0 found.1 found.2) (noted.acquires_are lock)

-- what is meant by all three
abbrev Goes : List Event → ℕ → Event → ℕ → Type 0
Goes es j e k = (MeetsThread es j (thread_of e) k ⊎ MeetsFork es j e k) ⊎ TakesBehind es j (hold_given e) k

edge_by : (es : List Event) (n k : ℕ) (e b : Event) → slice_get es n ≡ Some e → slice_get es k ≡ Some b → n < k → Linked e b → Edge es n k
edge_by es n k e b at also rises linked = record { rises = rises; a = e; b = b; at_i = at; at_j = also; linked = linked }

leads_by : (es : List Event) (j n k : ℕ) (e : Event) → slice_get es n ≡ Some e → n < k → Goes es j e k → LeadsOn es j n k
leads_by es j n k e at rises (inl (inl (comes, (b, also, inl same)))) = (edge_by es n k e b at also rises (same_thread (sym same)), comes)
leads_by es j n k e at rises (inl (inl (comes, (b, also, inr joins)))) = (edge_by es n k e b at also rises (ends joins), comes)
leads_by es j n k e at rises (inl (inr (u, forks, (comes, (b, also, inl same))))) =
    (edge_by es n k e b at also rises (begins (forks ∙ ap Some (sym same))), comes)
leads_by es j n k e at rises (inl (inr (u, forks, (comes, (b, also, inr joins))))) = (edge_by es n k e b at also rises (spans u forks joins), comes)
leads_by es j n k e at rises (inr (given, taken, gives, against, (comes, (b, also, takes)))) =
    (edge_by es n k e b at also rises (hands_over given taken gives takes against), comes)

goes_by : (es : List Event) (j k : ℕ) (e b : Event) → slice_get es k ≡ Some b → Comes es j k → Linked e b → Goes es j e k
goes_by es j k e b also comes (same_thread same) = inl (inl (comes, (b, also, inl (sym same))))
goes_by es j k e b also comes (begins forks) = inl (inr (thread_of b, forks, (comes, (b, also, inl refl))))
goes_by es j k e b also comes (ends joins) = inl (inl (comes, (b, also, inr joins)))
goes_by es j k e b also comes (spans u forks joins) = inl (inr (u, forks, (comes, (b, also, inr joins))))
goes_by es j k e b also comes (hands_over given taken gives takes against) = inr (given, taken, gives, against, (comes, (b, also, takes)))

led_on : (es : List Event) (j n k : ℕ) (e : Event) → slice_get es n ≡ Some e → LeadsOn es j n k → Goes es j e k
led_on es j n k e at leads =
    let edge = leads.0 in
    let same : edge.a ≡ e = same_Some edge.a e (sym edge.at_i ∙ at) in
    goes_by es j k e edge.b edge.at_j leads.1 (subst (λ a. Linked a edge.b) same edge.linked)

farthest_by : (es : List Event) (j n : ℕ) (e : Event) (x : Option ℕ) → slice_get es n ≡ Some e → IsLastFrom (Goes es j e) (n + 1) x → IsFarthest es j n x
farthest_by es j n e None at last = λ k leads. let edge = leads.0 in let rises = edge.rises in last k (omega (arith, rises)) (led_on es j n k e at leads)
farthest_by es j n e (Some w) at last =
    let l = last.0 in
    (leads_by es j n w e at (omega (arith, l)) last.1, λ k leads. let edge = leads.0 in let rises = edge.rises in last.2 k (omega (arith, rises)) (led_on es j n k e at leads))

pub next_is : (es : List Event) (j n : ℕ) (e : Event) (notes : Notes) → slice_get es n ≡ Some e → AreNoted es j (n + 1) notes → IsFarthest es j n (next_by notes e)
next_is es j n e notes at noted =
    farthest_by es j n e (next_by notes e) at
    (later_last (λ k. MeetsThread es j (thread_of e) k ⊎ MeetsFork es j e k) (TakesBehind es j (hold_given e)) (n + 1) _ (taker notes (hold_given e))
    (later_last (MeetsThread es j (thread_of e)) (MeetsFork es j e) (n + 1) (thread_noted notes (thread_of e)) (noted_of (thread_noted notes) (forked_thread e))
    (noted.threads_are (thread_of e)) (of_option (MeetsThread es j) (thread_noted notes) (forked_thread e) (n + 1) noted.threads_are))
    (taker_is es j (n + 1) (hold_given e) notes noted))

-- ---- whether the place comes to j

pub step_comes : (es : List Event) (j n next : ℕ) → IsFarthest es j n (Some next) → Reaches es n j
step_comes es j n next ((edge, inl same), most) = subst (Reaches es n) same (edge_reaches es n next edge)
step_comes es j n next ((edge, inr more), most) = reaches_joined es n next j (edge_reaches es n next edge) more

pub no_step : (es : List Event) (j n : ℕ) → IsFarthest es j n None → ¬ (Reaches es n j)
no_step es j n none ([], edge) = none j (edge, inl refl)
no_step es j n none (k ∷ ks, leads) = none k (leads.0, inr (ks, leads.1))

pub comes_not : (es : List Event) (j n : ℕ) → n < j → IsFarthest es j n None → ¬ (Comes es j n)
comes_not es j n below none (inl same) = omega arith
comes_not es j n below none (inr reaches) = no_step es j n none reaches

pub comes_some : (es : List Event) (j n : ℕ) (x : Option ℕ) → IsFarthest es j n x → is_some x ≡ true → Comes es j n
comes_some es j n None is some = absurd (true≢false (sym some))
comes_some es j n (Some next) is some = inr (step_comes es j n next is)

pub comes_none : (es : List Event) (j n : ℕ) (x : Option ℕ) → n < j → IsFarthest es j n x → is_some x ≡ false → ¬ (Comes es j n)
comes_none es j n None below is none = comes_not es j n below is
comes_none es j n (Some next) below is none = absurd (true≢false none)
