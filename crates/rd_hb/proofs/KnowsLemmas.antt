-- What is known from places, and what reaches an event that is appended.
use Rattle.std.proofs.Common.{◌≡◌, ◌≢◌, ◌↔◌, ◌⊎◌, inl, inr, ℕ, suc, ◌<◌, Bool, List, [], ◌∷◌, ◌++◌, length, Some, refl, sym, ◌∙◌, ap, subst, arith}
use Rattle.std.specs.Prelude.{slice_get}
use Rattle.std.proofs.lemmas.Bool.{cases_lt}
use Rattle.std.proofs.lemmas.Option.{slice_get_within, same_Some}
use Rattle.rd_event.specs.declared.events.Event.{Event}
use Rattle.rd_order.specs.Order.{Against, GivesBack, Hold, IsOf, Linked, Reaches, begins, ends, exclusive, forked_thread, hands_over, hold_given, hold_taken, joined_thread, same_thread, spans, thread_of}
use Rattle.rd_order.specs.EventLists.{WellFormed}
use Rattle.rd_hb.specs.Knows.{Carries, Knows}
use Rattle.rd_order.proofs.CountsLemmas.{Front}
use Rattle.rd_order.proofs.LockLemmas.{holds_reach}
use Rattle.rd_order.proofs.OrderLemmas.{at_front, at_end, edge_reaches, length_more, reaches_joined, reaches_last, reaches_longer, reaches_rises, reaches_shorter}
use Rattle.rd_hb.proofs.ClockLemmas.{is_of_longer, is_of_shorter, is_of_within, own_reaches}

-- ---- places

-- a place of the longer list is the appended event or stands before it
at_or_below : (es : List Event) (e : Event) (m : ℕ) → m < length (es ++ e ∷ []) → (m ≡ length es) ⊎ (m < length es)
at_or_below es e m inside =
    let most : m < suc (length es) = subst (λ n. m < n) (length_more es e) inside in
    elim (cases_lt m (length es)) [ inl before ↦ inr before | inr from ↦ inl (omega arith) ]

-- ---- places from which threads carry on

pub carries_within : (es : List Event) (t m : ℕ) → Carries es t m → m < length es
carries_within es t m (inl of) = is_of_within es t m of
carries_within es t m (inr x) = slice_get_within es m x.0 x.1

pub carries_longer : (es fs : List Event) (t m : ℕ) → Carries es t m → Carries (es ++ fs) t m
carries_longer es fs t m (inl of) = inl (is_of_longer es fs t m of)
carries_longer es fs t m (inr x) = inr (x.0, at_front es fs m (slice_get_within es m x.0 x.1) ∙ x.1, x.2)

pub carries_shorter : (es fs : List Event) (t m : ℕ) → m < length es → Carries (es ++ fs) t m → Carries es t m
carries_shorter es fs t m inside (inl of) = inl (is_of_shorter es fs t m inside of)
carries_shorter es fs t m inside (inr x) = inr (x.0, sym (at_front es fs m inside) ∙ x.1, x.2)

-- whoever carries on from an appended event acts in it or is forked by it
pub carries_last : (es : List Event) (e : Event) (t : ℕ) → Carries (es ++ e ∷ []) t (length es) → (thread_of e ≡ t) ⊎ (forked_thread e ≡ Some t)
carries_last es e t (inl of) = inl (ap thread_of (same_Some e of.0 (sym (at_end es e) ∙ of.1)) ∙ of.2)
carries_last es e t (inr x) = inr (ap forked_thread (same_Some e x.0 (sym (at_end es e) ∙ x.1)) ∙ x.2)

-- a place from which the thread of a later event carries on reaches that event
pub carried_reaches : (es : List Event) (t m n : ℕ) → m < n → Carries es t m → IsOf es t n → Reaches es m n
carried_reaches es t m n l (inl of) of_n = own_reaches es t m n l of of_n
carried_reaches es t m n l (inr x) of_n =
    edge_reaches es m n (record { rises = l; a = x.0; b = of_n.0; at_i = x.1; at_j = of_n.1; linked = begins (x.2 ∙ ap Some (sym of_n.2)) })

-- ---- places that give back a hold

pub gives_within : (es : List Event) (hold : Hold) (m : ℕ) → GivesBack es hold m → m < length es
gives_within es hold m x = slice_get_within es m x.0 x.1

pub gives_longer : (es fs : List Event) (hold : Hold) (m : ℕ) → GivesBack es hold m → GivesBack (es ++ fs) hold m
gives_longer es fs hold m x = (x.0, at_front es fs m (slice_get_within es m x.0 x.1) ∙ x.1, x.2)

pub gives_shorter : (es fs : List Event) (hold : Hold) (m : ℕ) → m < length es → GivesBack (es ++ fs) hold m → GivesBack es hold m
gives_shorter es fs hold m inside x = (x.0, sym (at_front es fs m inside) ∙ x.1, x.2)

pub gives_last : (es : List Event) (e : Event) (hold : Hold) → GivesBack (es ++ e ∷ []) hold (length es) → hold_given e ≡ Some hold
gives_last es e hold x = ap hold_given (same_Some e x.0 (sym (at_end es e) ∙ x.1)) ∙ x.2

-- where another hold or none is given back last, it was given back before
pub other_gives : (es : List Event) (e : Event) (hold : Hold) → hold_given e ≢ Some hold → (m : ℕ) → GivesBack (es ++ e ∷ []) hold m → (m < length es) × GivesBack es hold m
other_gives es e hold other m gives = elim (at_or_below es e m (gives_within (es ++ e ∷ []) hold m gives)) [
  | inl last ↦ absurd (other (gives_last es e hold (subst (GivesBack (es ++ e ∷ []) hold) last gives)))
  | inr before ↦ (before, gives_shorter es (e ∷ []) hold m before gives)
]

-- where it is given back last, that is the last place, or it was given back before
pub given_again : (es : List Event) (e : Event) (hold : Hold) → hold_given e ≡ Some hold → (m : ℕ)
    → (GivesBack es hold m ⊎ (m ≡ length es)) ↔ GivesBack (es ++ e ∷ []) hold m
given_again es e hold gives m = (
  λ x. elim x [
    | inl before ↦ gives_longer es (e ∷ []) hold m before
    | inr last ↦ subst (GivesBack (es ++ e ∷ []) hold) (sym last) (e, at_end es e, gives)
  ],
  λ back. elim (at_or_below es e m (gives_within (es ++ e ∷ []) hold m back)) [
    | inl last ↦ inr last
    | inr before ↦ inl (gives_shorter es (e ∷ []) hold m before back)
  ],
)

-- of two places that release a lock the earlier reaches the later
pub gives_reach : (roots : ℕ → Bool) (es : List Event) (lock m n : ℕ) → WellFormed roots es → m < n → GivesBack es (exclusive lock) m → GivesBack es (exclusive lock) n → Reaches es m n
gives_reach roots es lock m n formed rises x y =
    holds_reach roots es m n x.0 y.0 (exclusive lock) (exclusive lock) formed rises x.1 y.1 (inr x.2) (inr y.2) refl

-- ---- knowing

-- to know a place is to carry on from it or from one that it reaches
pub known_by : (es : List Event) (P : ℕ → Type 0) (k : ℕ) → Knows es P k → (m : ℕ) × P m × ((k ≡ m) ⊎ Reaches es k m)
known_by es P k (inl has) = (k, has, inl refl)
known_by es P k (inr x) = (x.0, x.1, inr x.2)

pub known_from : (es : List Event) (P : ℕ → Type 0) (k m : ℕ) → P m → (k ≡ m) ⊎ Reaches es k m → Knows es P k
known_from es P k m has (inl here) = inl (subst P (sym here) has)
known_from es P k m has (inr r) = inr (m, has, r)

-- one way after another
pub way_joined : (es : List Event) (k m n : ℕ) → (k ≡ m) ⊎ Reaches es k m → (m ≡ n) ⊎ Reaches es m n → (k ≡ n) ⊎ Reaches es k n
way_joined es k m n (inl here) more = subst (λ i. (i ≡ n) ⊎ Reaches es i n) (sym here) more
way_joined es k m n (inr r) (inl here) = inr (subst (Reaches es k) here r)
way_joined es k m n (inr r) (inr s) = inr (reaches_joined es k m n r s)

-- who knows a place knows all that reaches it
pub known_before : (es : List Event) (P : ℕ → Type 0) (k m : ℕ) → Knows es P m → (k ≡ m) ⊎ Reaches es k m → Knows es P k
known_before es P k m knows way = let x = known_by es P m knows in known_from es P k x.0 x.1 (way_joined es k m x.0 way x.2)

-- who knows all places with P knows all that is known from them
pub known_wider : (es : List Event) (P Q : ℕ → Type 0) → ((m : ℕ) → P m → Knows es Q m) → (k : ℕ) → Knows es P k → Knows es Q k
known_wider es P Q wider k knows = let x = known_by es P k knows in known_before es Q k x.0 (wider x.0 x.1) x.2

-- with an event of a thread all earlier ones of that thread are known
pub knows_front : (es : List Event) (u : ℕ) (P : ℕ → Type 0) → Front (IsOf es u) (Knows es P)
knows_front es u P i k l of_k of_i knows = known_before es P k i knows (inr (own_reaches es u k i l of_k of_i))

-- from no place nothing is known
pub nothing_known : (es : List Event) (P : ℕ → Type 0) → ((m : ℕ) → ¬ (P m)) → (k : ℕ) → ¬ (Knows es P k)
nothing_known es P none k knows = let x = known_by es P k knows in none x.0 x.1

-- what was known is known with more events behind
pub knows_longer : (es fs : List Event) (P Q : ℕ → Type 0) → ((m : ℕ) → P m → Q m) → (k : ℕ) → Knows es P k → Knows (es ++ fs) Q k
knows_longer es fs P Q up k (inl has) = inl (up k has)
knows_longer es fs P Q up k (inr x) = inr (x.0, up x.0 x.1, reaches_longer es fs k x.0 x.2)

-- and nothing else is, from the places that there were
pub knows_shorter : (es fs : List Event) (P Q : ℕ → Type 0) → ((m : ℕ) → Q m → (m < length es) × P m) → (k : ℕ) → Knows (es ++ fs) Q k → (k < length es) × Knows es P k
knows_shorter es fs P Q down k knows =
    let x = known_by (es ++ fs) Q k knows in
    let had = down x.0 x.1 in
    let before : x.0 < length es = had.0 in
    elim x.2 [
      | inl here ↦ (omega (arith, here), known_from es P k x.0 had.1 (inl here))
      | inr r ↦
          (let up : k < x.0 = reaches_rises (es ++ fs) k x.0 r in
          (omega arith, known_from es P k x.0 had.1 (inr (reaches_shorter es fs k x.0 before r))))
    ]

-- ---- what reaches an appended event

-- the event at a place is linked to this one
abbrev pub LinksTo : List Event → Event → ℕ → Type 0
LinksTo es e m = (a : Event) × (slice_get es m ≡ Some a) × Linked a e

pub reaches_new : (es : List Event) (e : Event) (k : ℕ) → Reaches (es ++ e ∷ []) k (length es) → Knows es (LinksTo es e) k
reaches_new es e k r =
    let last = reaches_last (es ++ e ∷ []) k (length es) r in
    let edge = last.2 in
    let inside : last.0 < length es = edge.rises in
    known_from es (LinksTo es e) k last.0 (
      edge.a,
      sym (at_front es (e ∷ []) last.0 inside) ∙ edge.at_i,
      subst (Linked edge.a) (same_Some edge.b e (sym edge.at_j ∙ at_end es e)) edge.linked,
    )
    (elim last.1 [ inl here ↦ inl here | inr before ↦ inr (reaches_shorter es (e ∷ []) k last.0 inside before) ])

pub new_reaches : (es : List Event) (e : Event) (k m : ℕ) → LinksTo es e m → (k ≡ m) ⊎ Reaches es k m → Reaches (es ++ e ∷ []) k (length es)
new_reaches es e k m link way =
    let inside : m < length es = slice_get_within es m link.0 link.1 in
    let last = edge_reaches (es ++ e ∷ []) m (length es) (record {
      rises = inside;
      a = link.0;
      b = e;
      at_i = at_front es (e ∷ []) m inside ∙ link.1;
      at_j = at_end es e;
      linked = link.2;
    }) in
    elim way [
      | inl here ↦ subst (λ i. Reaches (es ++ e ∷ []) i (length es)) (sym here) last
      | inr before ↦ reaches_joined (es ++ e ∷ []) k m (length es) (reaches_longer es (e ∷ []) k m before) last
    ]

-- the event takes in what is known from a place: its thread joins one that carries on from there, or takes a hold where one against it was given back
abbrev pub Brings : List Event → Event → ℕ → Type 0
Brings es e m =
    ((w : ℕ) × (joined_thread e ≡ Some w) × Carries es w m) ⊎ ((hold : Hold) × (other : Hold) × (hold_taken e ≡ Some other) × Against hold other × GivesBack es hold m)

-- an event is linked to the places from which its thread carries on, and to those that bring it something
pub carried_links : (es : List Event) (e : Event) (m : ℕ) → Carries es (thread_of e) m → LinksTo es e m
carried_links es e m (inl of) = (of.0, of.1, same_thread of.2)
carried_links es e m (inr x) = (x.0, x.1, begins x.2)

pub brought_links : (es : List Event) (e : Event) (m : ℕ) → Brings es e m → LinksTo es e m
brought_links es e m (inl (w, join, inl of)) = (of.0, of.1, ends (join ∙ ap Some (sym of.2)))
brought_links es e m (inl (w, join, inr x)) = (x.0, x.1, spans w x.2 join)
brought_links es e m (inr (hold, other, takes, against, x)) = (x.0, x.1, hands_over hold other x.2 takes against)

-- and to no others
pub links_carry : (es : List Event) (e : Event) (m : ℕ) → LinksTo es e m → Carries es (thread_of e) m ⊎ Brings es e m
links_carry es e m (a, at, same_thread same) = inl (inl (a, at, same))
links_carry es e m (a, at, begins fork) = inl (inr (a, at, fork))
links_carry es e m (a, at, ends join) = inr (inl (thread_of a, join, inl (a, at, refl)))
links_carry es e m (a, at, spans w fork join) = inr (inl (w, join, inr (a, at, fork)))
links_carry es e m (a, at, hands_over hold other back taking against) = inr (inr (hold, other, taking, against, (a, at, back)))

-- so it is reached by what its thread knew, and by what it takes in
pub event_reached : (es : List Event) (e : Event) (k : ℕ)
    → Reaches (es ++ e ∷ []) k (length es) ↔ (Knows es (Carries es (thread_of e)) k ⊎ Knows es (Brings es e) k)
event_reached es e k = (
  λ r. (let x = known_by es (LinksTo es e) k (reaches_new es e k r) in elim (links_carry es e x.0 x.1) [
    | inl carries ↦ inl (known_from es (Carries es (thread_of e)) k x.0 carries x.2)
    | inr brings ↦ inr (known_from es (Brings es e) k x.0 brings x.2)
  ]),
  λ knows. elim knows [
    | inl own ↦ (let x = known_by es (Carries es (thread_of e)) k own in new_reaches es e k x.0 (carried_links es e x.0 x.1) x.2)
    | inr other ↦ (let x = known_by es (Brings es e) k other in new_reaches es e k x.0 (brought_links es e x.0 x.1) x.2)
  ],
)

-- ---- what is known with one more event

-- the appended event is of its thread
pub last_is_of : (es : List Event) (e : Event) → IsOf (es ++ e ∷ []) (thread_of e) (length es)
last_is_of es e = (e, at_end es e, refl)

-- and of no other
pub last_thread : (es : List Event) (e : Event) (u : ℕ) → IsOf (es ++ e ∷ []) u (length es) → u ≡ thread_of e
last_thread es e u of = sym of.2 ∙ ap thread_of (sym (same_Some e of.0 (sym (at_end es e) ∙ of.1)))

-- a place that is known from an appended event, where the places with Q are this one and such as reach it
pub last_knows : (es : List Event) (e : Event) (Q : ℕ → Type 0) → Q (length es)
    → ((m : ℕ) → Q m → (m ≡ length es) ⊎ Reaches (es ++ e ∷ []) m (length es))
    → (k : ℕ) → ((k ≡ length es) ⊎ Reaches (es ++ e ∷ []) k (length es)) ↔ Knows (es ++ e ∷ []) Q k
last_knows es e Q here ways k = (
  known_from (es ++ e ∷ []) Q k (length es) here,
  λ knows. (let x = known_by (es ++ e ∷ []) Q k knows in way_joined (es ++ e ∷ []) k x.0 (length es) x.2 (ways x.0 x.1)),
)

-- its thread knows the event, and what reaches it
pub actor_knows : (es : List Event) (e : Event) (k : ℕ)
    → ((k ≡ length es) ⊎ Reaches (es ++ e ∷ []) k (length es)) ↔ Knows (es ++ e ∷ []) (Carries (es ++ e ∷ []) (thread_of e)) k
actor_knows es e =
    last_knows es e (Carries (es ++ e ∷ []) (thread_of e)) (inl (last_is_of es e))
    (λ m carries. elim (at_or_below es e m (carries_within (es ++ e ∷ []) (thread_of e) m carries)) [
      | inl last ↦ inl last
      | inr before ↦ inr (carried_reaches (es ++ e ∷ []) (thread_of e) m (length es) before carries (last_is_of es e))
    ])

-- so does a thread that it forks, which carried on from no place before
pub child_knows : (es : List Event) (e : Event) (w k : ℕ) → forked_thread e ≡ Some w → ((m : ℕ) → ¬ (Carries es w m))
    → ((k ≡ length es) ⊎ Reaches (es ++ e ∷ []) k (length es)) ↔ Knows (es ++ e ∷ []) (Carries (es ++ e ∷ []) w) k
child_knows es e w k fork fresh =
    last_knows es e (Carries (es ++ e ∷ []) w) (inr (e, at_end es e, fork))
    (λ m carries. elim (at_or_below es e m (carries_within (es ++ e ∷ []) w m carries)) [
      | inl last ↦ inl last
      | inr before ↦ absurd (fresh m (carries_shorter es (e ∷ []) w m before carries))
    ])
    k

-- and a lock that it releases: the earlier releases reach this one
pub lock_knows : (roots : ℕ → Bool) (es : List Event) (e : Event) (lock k : ℕ) → WellFormed roots (es ++ e ∷ []) → hold_given e ≡ Some (exclusive lock)
    → ((k ≡ length es) ⊎ Reaches (es ++ e ∷ []) k (length es)) ↔ Knows (es ++ e ∷ []) (GivesBack (es ++ e ∷ []) (exclusive lock)) k
lock_knows roots es e lock k formed gives =
    last_knows es e (GivesBack (es ++ e ∷ []) (exclusive lock)) (e, at_end es e, gives)
    (λ m back. elim (at_or_below es e m (gives_within (es ++ e ∷ []) (exclusive lock) m back)) [
      | inl last ↦ inl last
      | inr before ↦ inr (gives_reach roots (es ++ e ∷ []) lock m (length es) formed before back (e, at_end es e, gives))
    ])
    k

-- and it is known from its own place
pub place_knows : (es : List Event) (e : Event) (k : ℕ)
    → ((k ≡ length es) ⊎ Reaches (es ++ e ∷ []) k (length es)) ↔ Knows (es ++ e ∷ []) (λ m. m ≡ length es) k
place_knows es e = last_knows es e (λ m. m ≡ length es) refl (λ m last. inl last)

-- every other thread carries on from where it did
pub other_carries : (es : List Event) (e : Event) (w : ℕ) → w ≢ thread_of e → forked_thread e ≢ Some w → (m : ℕ) → Carries (es ++ e ∷ []) w m → (m < length es) × Carries es w m
other_carries es e w other unforked m carries = elim (at_or_below es e m (carries_within (es ++ e ∷ []) w m carries)) [
  | inl last ↦ elim (carries_last es e w (subst (Carries (es ++ e ∷ []) w) last carries)) [ inl acts ↦ absurd (other (sym acts)) | inr fork ↦ absurd (unforked fork) ]
  | inr before ↦ (before, carries_shorter es (e ∷ []) w m before carries)
]
