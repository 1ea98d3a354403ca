-- The events of accepted lines are a well-formed list.
use Rattle.std.proofs.Common.{◌≡◌, ◌≢◌, ◌↔◌, inl, inr, ℕ, zero, suc, ◌+◌, ◌<◌, ◌≤◌, ◌==◌, ◌^◌, Bool, false, cond, ltb, ◌&&◌, List, [], ◌∷◌, ◌++◌, length, Option, Some, None, is_some, IfSome, All, Contains, slice_get, unwrap_or, refl, sym, ap, subst, ◌∙◌, arith, true≢false}
use Rattle.std.specs.List.{cons_option}
use Rattle.std.proofs.lemmas.Bool.{cases_eq, cases_lt, eq-eqb, ne_eqb}
use Rattle.std.proofs.lemmas.Bool.Decides.{Decides-ltb}
use Rattle.std.proofs.lemmas.List.{append_assoc, append-nil, length-append, length-map}
use Rattle.std.proofs.lemmas.List.Elements.{All-append, All-nil, All-push, filter_map-append, Contains-append_left, Contains-push, Contains-push_cases}
use Rattle.std.proofs.lemmas.List.Sums.{sum_by_push}
use Rattle.std.proofs.lemmas.Option.{none-some, same_Some, slice_get_within, unwrap_or-slice_get}
use Rattle.rd_base.specs.Limits.{AreUsable}
use Rattle.rd_base.specs.declared.limits.Limits.{Limits}
use Rattle.rd_base.specs.declared.values.Value.{Value}
use Rattle.rd_event.specs.declared.events.Call.{Call as CallOf}
use Rattle.rd_event.specs.declared.events.Event.{Event as Numbered}
use Rattle.rd_event.specs.declared.events.Event.TheVariants as numbered
use Rattle.rd_event.specs.declared.items.Line.{Line}
use Rattle.rd_event.specs.declared.items.Line.TheVariants.{Skip, Header, Thread, Object, Event}
use Rattle.rd_event.specs.declared.items.LineEvent.{LineEvent}
use Rattle.rd_event.specs.declared.items.LineEvent.TheVariants.{Fork, Join, Acquire, Release, Share, Unshare, Call}
use Rattle.rd_order.proofs.EventListLemmas.{few_known, formed_more, may_acquire, may_call, may_fork, may_join, may_release, may_share, may_unshare}
use Rattle.rd_order.specs.EventLists.{calls, Follow, forks, givings, is_call_on, joins, IsBounded, IsCallOf, IsKnownThread, MayHappen, takings, WellFormedWith}
use Rattle.rd_order.specs.Order.{call_in, exclusive, forked_thread, joined_thread, shared}
use Rattle.rd_order.specs.OrderTests.{is_this}
use Rattle.rd_rules.proofs.FollowLemmas.{Meets, met}
use Rattle.rd_rules.proofs.UseLemmas.{held_free, held_more, none_and, once, one_for, used_acquire, used_release, used_share, used_still, used_thread, used_unshare}
use Rattle.rd_rules.proofs.PlaceLemmas.{OnePlace, got_left, got_push, one_place_more, place_below, place_named, place_new}
use Rattle.rd_rules.specs.declared.causes.Accepted.TheVariants as accepted
use Rattle.rd_rules.specs.laws.NoLines.{told_none}
use Rattle.rd_rules.specs.Events.{AreAccepted, AreAcceptedFrom, AreTold, AreUsed, IsTold, event_of, events_from, events_of, root_count, roots_of}
use Rattle.rd_ecl.specs.Kinds.{Kind, KindMethod, kind_names, method_names}
use Rattle.rd_rules.specs.MayFollow.{MayFollow, accepted_of, acquired_name, acquires, acting_name, begun_name, declared_kind, events, is_acquire_of, is_event, is_release_of, is_root, is_share_of, is_skip, is_unshare_of, joined_name, joined_of, kind_number, locks_of, method_number, methods_of, numbered_event, object_kinds, objects_of, passes, place, released_name, releases, same_name, shared_name, shares, taken_name, threads_of, unshared_name, unshares, with_lock, with_locks}

-- ---- one more name, and one more join

-- the count isn't 0 for the place of each of these names
abbrev Marks : (ℕ → ℕ) → List (List ℕ) → List (List ℕ) → Type 0
Marks count names marked = (t : ℕ) → (0 < count t) ↔ ((name : List ℕ) × (slice_get names t ≡ Some name) × Contains marked name)

marks_name : (count : ℕ → ℕ) (names marked : List (List ℕ)) (name : List ℕ) → Marks count names marked → ((n : List ℕ) → Contains marked n → Contains names n) → ¬ (Contains names name)
    → Marks count (names ++ name ∷ []) marked
marks_name count names marked name marks within fresh t = (
  λ some. let (n, at, there) = (marks t).0 some in (n, got_left names (name ∷ []) t n at, there),
  λ x. elim (got_push names name t x.0 x.1) [
    | inl before ↦ (marks t).1 (x.0, before, x.2)
    | inr last ↦ absurd (fresh (subst (Contains names) last.1 (within x.0 x.2)))
  ],
)

marks_more : (count after : ℕ → ℕ) (names marked : List (List ℕ)) (name : List ℕ) → Marks count names marked → OnePlace names → Contains names name
    → ((t : ℕ) → after t ≡ count t + cond (place names name == t) 1 0) → Marks after names (marked ++ name ∷ [])
marks_more count after names marked name marks places there adds t = (
  λ some. elim (cases_eq (place names name) t) [
    | inl same ↦ (name, subst (λ i. slice_get names i ≡ Some name) same (place_named names name there), Contains-push marked name)
    | inr other ↦
        let adds_none : after t ≡ count t + 0 = adds t ∙ ap (λ b. count t + cond b 1 0) (ne_eqb (place names name) t other) in
        let (n, at, before) = (marks t).0 (omega arith) in (n, at, Contains-append_left marked (name ∷ []) n before)
  ],
  λ x. elim (Contains-push_cases marked name x.0 x.2) [
    | inl before ↦ (let was : 0 < count t = (marks t).1 (x.0, x.1, before) in omega (arith, adds t))
    | inr here ↦
        let same : place names name ≡ t = places t name (subst (λ n. slice_get names t ≡ Some n) (sym here) x.1) in
        let adds_one : after t ≡ count t + 1 = adds t ∙ ap (λ b. count t + cond b 1 0) (eq-eqb (place names name) t same) in
        omega arith
  ],
)

-- ---- one event more

-- known by number where it is one of the first n
abbrev KnownBelow : (ℕ → Bool) → List Numbered → ℕ → Type 0
KnownBelow roots es n = (t : ℕ) → IsKnownThread roots es t ↔ (t < n)

known_fork : (roots : ℕ → Bool) (es : List Numbered) (n thread : ℕ) → KnownBelow roots es n → KnownBelow roots (es ++ numbered.Fork thread n ∷ []) (n + 1)
unfolding forks
known_fork roots es n thread known t =
    let more : forks (es ++ numbered.Fork thread n ∷ []) t ≡ forks es t + cond (n == t) 1 0 = sum_by_push (λ e. cond (is_this (forked_thread e) t) 1 0) es (numbered.Fork thread n) in (
      λ k. elim k [
        | inl root ↦ (let below : t < n = (known t).0 (inl root) in omega arith)
        | inr some ↦ elim (cases_eq n t) [
          | inl same ↦ omega arith
          | inr other ↦
              let none : forks (es ++ numbered.Fork thread n ∷ []) t ≡ forks es t + 0 = more ∙ ap (λ b. forks es t + cond b 1 0) (ne_eqb n t other) in
              let was : 0 < forks es t = omega arith in
              let below : t < n = (known t).0 (inr was) in omega arith
        ]
      ],
      λ below. elim (cases_eq n t) [
        | inl same ↦ (let one : forks (es ++ numbered.Fork thread n ∷ []) t ≡ forks es t + 1 = more ∙ ap (λ b. forks es t + cond b 1 0) (eq-eqb n t same) in inr (omega arith))
        | inr other ↦ (let was : t < n = omega arith in elim ((known t).1 was) [ inl root ↦ inl root | inr some ↦ inr (omega arith) ])
      ],
    )

-- an event that begins no thread
known_same : (roots : ℕ → Bool) (es : List Numbered) (n : ℕ) (e : Numbered) → forked_thread e ≡ None → KnownBelow roots es n → KnownBelow roots (es ++ e ∷ []) n
unfolding forks
known_same roots es n e none known t =
    let more : forks (es ++ e ∷ []) t ≡ forks es t + 0 = sum_by_push (λ e. cond (is_this (forked_thread e) t) 1 0) es e ∙ ap (λ o. forks es t + cond (is_this o t) 1 0) none in (
      λ k. elim k [ inl root ↦ (known t).0 (inl root) | inr some ↦ (let was : 0 < forks es t = omega arith in (known t).0 (inr was)) ],
      λ below. elim ((known t).1 below) [ inl root ↦ inl root | inr some ↦ inr (omega arith) ],
    )

joins_fork : (es : List Numbered) (thread child t : ℕ) → joins (es ++ numbered.Fork thread child ∷ []) t ≡ joins es t
unfolding joins
joins_fork es thread child t = sum_by_push (λ e. cond (is_this (joined_thread e) t) 1 0) es (numbered.Fork thread child) ∙ omega arith

joins_join : (es : List Numbered) (thread child t : ℕ) → joins (es ++ numbered.Join thread child ∷ []) t ≡ joins es t + cond (child == t) 1 0
unfolding joins
joins_join es thread child t = sum_by_push (λ e. cond (is_this (joined_thread e) t) 1 0) es (numbered.Join thread child)

joins_call : (es : List Numbered) (call : CallOf) (t : ℕ) → joins (es ++ numbered.Call call ∷ []) t ≡ joins es t
unfolding joins
joins_call es call t = sum_by_push (λ e. cond (is_this (joined_thread e) t) 1 0) es (numbered.Call call) ∙ omega arith

joins_still : (es : List Numbered) (e : Numbered) → joined_thread e ≡ None → (t : ℕ) → joins (es ++ e ∷ []) t ≡ joins es t
unfolding joins
joins_still es e none t = sum_by_push (λ e. cond (is_this (joined_thread e) t) 1 0) es e ∙ ap (λ o. joins es t + cond (is_this o t) 1 0) none ∙ omega arith

-- the calls on an object are of the kind that these numbers give it
abbrev OneKind : List Numbered → List ℕ → Type 0
OneKind es objects = (object kind : ℕ) → 0 < calls es object kind → slice_get objects object ≡ Some kind

one_kind_same : (es : List Numbered) (objects : List ℕ) (e : Numbered) → call_in e ≡ None → OneKind es objects → OneKind (es ++ e ∷ []) objects
unfolding calls
one_kind_same es objects e none one object kind some =
    let more : calls (es ++ e ∷ []) object kind ≡ calls es object kind + 0 =
    sum_by_push (λ e. cond (is_call_on (call_in e) object kind) 1 0) es e ∙ ap (λ o. calls es object kind + cond (is_call_on o object kind) 1 0) none in
    one object kind (omega arith)

one_kind_call : (es : List Numbered) (objects : List ℕ) (call : CallOf) → slice_get objects call.object ≡ Some call.kind → OneKind es objects → OneKind (es ++ numbered.Call call ∷ []) objects
unfolding calls
one_kind_call es objects call at one object kind some =
    let more : calls (es ++ numbered.Call call ∷ []) object kind ≡ calls es object kind + cond ((call.object == object) && (call.kind == kind)) 1 0 =
    sum_by_push (λ e. cond (is_call_on (call_in e) object kind) 1 0) es (numbered.Call call) in
    elim (cases_eq call.object object) [
      | inl same ↦ elim (cases_eq call.kind kind) [
        | inl of ↦ ap (slice_get objects) (sym same) ∙ at ∙ ap Some of
        | inr other ↦
            let none : calls (es ++ numbered.Call call ∷ []) object kind ≡ calls es object kind + 0 =
            more ∙ (λ i. calls es object kind + cond (eq-eqb call.object object same i && ne_eqb call.kind kind other i) 1 0) in
            one object kind (omega arith)
      ]
      | inr apart ↦
          let none : calls (es ++ numbered.Call call ∷ []) object kind ≡ calls es object kind + 0 =
          more ∙ ap (λ b. calls es object kind + cond (b && (call.kind == kind)) 1 0) (ne_eqb call.object object apart) in
          one object kind (omega arith)
    ]

-- so no call on the object is of another kind
no_other_kind : (es : List Numbered) (objects : List ℕ) (call : CallOf) → slice_get objects call.object ≡ Some call.kind → OneKind es objects
    → (kind : ℕ) → kind ≢ call.kind → calls es call.object kind ≡ 0
no_other_kind es objects call at one kind other = elim (cases_eq (calls es call.object kind) 0) [
  | inl none ↦ none
  | inr some ↦
      let was : 0 < calls es call.object kind = omega arith in
      absurd (other (same_Some kind call.kind (sym (one call.object kind was) ∙ at)))
]

-- the bounds of a list whose known threads are those below a number
bounded : (roots : ℕ → Bool) (es : List Numbered) (n : ℕ) → KnownBelow roots es n → n ≤ 4294967295 → length es ≤ 4294967294 → IsBounded roots es
bounded roots es n known fits few = record { few_events = few; few_threads = few_known roots es n fits known }

-- ---- what is told, with one event more

module _ (roots : ℕ → Bool) (es : List Numbered) (count : ℕ) (threads joined : List (List ℕ)) (objects : List ℕ) (told : IsTold roots es count threads joined objects) where
  -- a thread with this name is known, and runs where it isn't joined
  known_name : (name : List ℕ) → Contains threads name → IsKnownThread roots es (place threads name)
  known_name name there = (told.known (place threads name)).1 (place_below threads name there)

  running : (name : List ℕ) → Contains threads name → ¬ (Contains joined name) → joins es (place threads name) ≡ 0
  running name there ended = elim (cases_eq (joins es (place threads name)) 0) [
    | inl none ↦ none
    | inr some ↦
        let was : 0 < joins es (place threads name) = omega arith in
        let (other, at, over) = (told.ended (place threads name)).0 was in
        let same : name ≡ other = same_Some name other (sym (place_named threads name there) ∙ at) in
        absurd (ended (subst (Contains joined) (sym same) over))
  ]

  told_fork : (thread child : List ℕ) → Contains threads thread → ¬ (Contains joined thread) → ¬ (Contains threads child) → count < 4294967294 → length threads < 4294967295
      → IsTold roots (es ++ numbered.Fork (place threads thread) (length threads) ∷ []) (count + 1) (threads ++ child ∷ []) joined objects
  told_fork thread child there runs fresh few room =
      let event : Numbered = numbered.Fork (place threads thread) (length threads) in
      let below : place threads thread < length threads = place_below threads thread there in
      let so_many : length es ≡ count = told.counted in
      let more : length (threads ++ child ∷ []) ≡ length threads + 1 = length-append threads (child ∷ []) in
      let may : MayHappen roots es event = may_fork roots es (place threads thread) (length threads)
      (λ known. let past : length threads < length threads = (told.known (length threads)).0 known in omega arith) (known_name thread there) (running thread there runs) in record {
        formed = (formed_more roots es event).1 (
          told.formed,
          may,
          bounded roots (es ++ event ∷ []) (length threads + 1) (known_fork roots es (length threads) (place threads thread) told.known) (omega arith) (omega (arith, length-append es (event ∷ []))),
        );
        counted = omega (arith, length-append es (event ∷ []));
        known = λ t. subst (λ n. IsKnownThread roots (es ++ event ∷ []) t ↔ (t < n)) (sym more) (known_fork roots es (length threads) (place threads thread) told.known t);
        ended = λ t. subst (λ n. (0 < n) ↔ ((name : List ℕ) × (slice_get (threads ++ child ∷ []) t ≡ Some name) × Contains joined name)) (sym (joins_fork es (place threads thread) (length threads) t))
            (marks_name (joins es) threads joined child told.ended told.begun fresh t);
        begun = λ name over. Contains-append_left threads (child ∷ []) name (told.begun name over);
        places = one_place_more threads child told.places fresh;
        few = omega arith;
        one_kind = one_kind_same es objects event refl told.one_kind;
      }

  told_join : (thread child : List ℕ) → Contains threads thread → ¬ (Contains joined thread) → Contains threads child → child ≢ thread → count < 4294967294
      → IsTold roots (es ++ numbered.Join (place threads thread) (place threads child) ∷ []) (count + 1) threads (joined ++ child ∷ []) objects
  told_join thread child there runs awaited apart few =
      let event : Numbered = numbered.Join (place threads thread) (place threads child) in
      let below : place threads thread < length threads = place_below threads thread there in
      let child_below : place threads child < length threads = place_below threads child awaited in
      let so_many : length es ≡ count = told.counted in
      let room : length threads ≤ 4294967295 = told.few in
      let other : place threads child ≢ place threads thread =
      (λ same. apart (same_Some child thread (sym (place_named threads child awaited) ∙ ap (slice_get threads) same ∙ place_named threads thread there))) in
      let may : MayHappen roots es event = may_join roots es (place threads thread) (place threads child) (known_name child awaited) other (known_name thread there) (running thread there runs) in record {
        formed = (formed_more roots es event).1 (
          told.formed,
          may,
          bounded roots (es ++ event ∷ []) (length threads) (known_same roots es (length threads) event refl told.known) told.few (omega (arith, length-append es (event ∷ []))),
        );
        counted = omega (arith, length-append es (event ∷ []));
        known = known_same roots es (length threads) event refl told.known;
        ended = marks_more (joins es) (joins (es ++ event ∷ [])) threads joined child told.ended told.places awaited (joins_join es (place threads thread) (place threads child));
        begun = λ name over. elim (Contains-push_cases joined child name over) [ inl before ↦ told.begun name before | inr here ↦ subst (Contains threads) here awaited ];
        places = told.places;
        few = told.few;
        one_kind = one_kind_same es objects event refl told.one_kind;
      }

  told_call : (thread : List ℕ) (call : CallOf) → Contains threads thread → ¬ (Contains joined thread) → call.thread ≡ place threads thread → slice_get objects call.object ≡ Some call.kind
      → count < 4294967294 → IsTold roots (es ++ numbered.Call call ∷ []) (count + 1) threads joined objects
  told_call thread call there runs acts at few =
      let event : Numbered = numbered.Call call in
      let below : place threads thread < length threads = place_below threads thread there in
      let so_many : length es ≡ count = told.counted in
      let room : length threads ≤ 4294967295 = told.few in
      let may : MayHappen roots es event = may_call roots es call
      (subst (IsKnownThread roots es) (sym acts) (known_name thread there)) (subst (λ t. joins es t ≡ 0) (sym acts) (running thread there runs)) (no_other_kind es objects call at told.one_kind) in record {
        formed = (formed_more roots es event).1 (
          told.formed,
          may,
          bounded roots (es ++ event ∷ []) (length threads) (known_same roots es (length threads) event refl told.known) told.few (omega (arith, length-append es (event ∷ []))),
        );
        counted = omega (arith, length-append es (event ∷ []));
        known = known_same roots es (length threads) event refl told.known;
        ended = λ t. subst (λ n. (0 < n) ↔ ((name : List ℕ) × (slice_get threads t ≡ Some name) × Contains joined name)) (sym (joins_call es call t)) (told.ended t);
        begun = told.begun;
        places = told.places;
        few = told.few;
        one_kind = one_kind_call es objects call at told.one_kind;
      }

  -- an event that begins no thread, joins none and is no call
  told_still : (e : Numbered) → forked_thread e ≡ None → joined_thread e ≡ None → call_in e ≡ None → MayHappen roots es e → count < 4294967294
      → IsTold roots (es ++ e ∷ []) (count + 1) threads joined objects
  told_still e begins joins_none calls_none may few =
      let so_many : length es ≡ count = told.counted in record {
        formed = (formed_more roots es e).1 (
          told.formed,
          may,
          bounded roots (es ++ e ∷ []) (length threads) (known_same roots es (length threads) e begins told.known) told.few (omega (arith, length-append es (e ∷ []))),
        );
        counted = omega (arith, length-append es (e ∷ []));
        known = known_same roots es (length threads) e begins told.known;
        ended = λ t. subst (λ n. (0 < n) ↔ ((name : List ℕ) × (slice_get threads t ≡ Some name) × Contains joined name)) (sym (joins_still es e joins_none t)) (told.ended t);
        begun = told.begun;
        places = told.places;
        few = told.few;
        one_kind = one_kind_same es objects e calls_none told.one_kind;
      }

  told_object : (kind : ℕ) → IsTold roots es count threads joined (objects ++ kind ∷ [])
  told_object kind = record {
    formed = told.formed;
    counted = told.counted;
    known = told.known;
    ended = told.ended;
    begun = told.begun;
    places = told.places;
    few = told.few;
    one_kind = λ object of some. got_left objects (kind ∷ []) object of (told.one_kind object of some);
  }

-- as many roots as threads, where there is no event
root_total : (es : List Numbered) (r n : ℕ) → es ≡ [] → KnownBelow (λ t. ltb t r) es n → r ≡ n
unfolding forks
root_total es r n none known =
    let no_forks : (t : ℕ) → forks es t ≡ 0 = (λ t. ap (λ l. forks l t) none) in
    elim (cases_lt r n) [
      | inl less ↦ elim ((known r).1 less) [
        | inl root ↦ (let past : r < r = (Decides-ltb r r).0 root in absurd (omega arith))
        | inr some ↦ absurd (omega (arith, no_forks r))
      ]
      | inr most ↦ elim (cases_eq r n) [
        | inl same ↦ same
        | inr other ↦ (let below : n < r = omega arith in let past : n < n = (known n).0 (inl ((Decides-ltb n r).1 below)) in absurd (omega arith))
      ]
    ]

known_roots : (es : List Numbered) (r : ℕ) → es ≡ [] → KnownBelow (λ t. ltb t r) es r
unfolding forks
known_roots es r none t =
    let no_forks : forks es t ≡ 0 = ap (λ l. forks l t) none in (
      λ known. elim known [ inl root ↦ (Decides-ltb t r).0 root | inr some ↦ absurd (omega arith) ],
      λ below. inl ((Decides-ltb t r).1 below),
    )

told_root : (r : ℕ) (es : List Numbered) (count : ℕ) (threads joined : List (List ℕ)) (objects : List ℕ) (name : List ℕ) → es ≡ [] → IsTold (λ t. ltb t r) es count threads joined objects
    → ¬ (Contains threads name) → length threads < 4294967295 → IsTold (λ t. ltb t (r + 1)) es count (threads ++ name ∷ []) joined objects
told_root r es count threads joined objects name none told fresh room =
    let total : r ≡ length threads = root_total es r (length threads) none told.known in
    let more : length (threads ++ name ∷ []) ≡ r + 1 = length-append threads (name ∷ []) ∙ ap (λ n. n + 1) (sym total) in record {
      formed = record {
        follow = subst (Follow (λ t. ltb t (r + 1)) []) (sym none) tt;
        bounded = bounded (λ t. ltb t (r + 1)) es (r + 1) (known_roots es (r + 1) none) (omega arith) (omega (arith, ap length none));
      };
      counted = told.counted;
      known = λ t. subst (λ n. IsKnownThread (λ u. ltb u (r + 1)) es t ↔ (t < n)) (sym more) (known_roots es (r + 1) none t);
      ended = marks_name (joins es) threads joined name told.ended told.begun fresh;
      begun = λ other over. Contains-append_left threads (name ∷ []) other (told.begun other over);
      places = one_place_more threads name told.places fresh;
      few = omega arith;
      one_kind = told.one_kind;
    }

-- ---- one line more

cons_append : (o : Option Numbered) (xs ys : List Numbered) → cons_option o (xs ++ ys) ≡ cons_option o xs ++ ys
cons_append None xs ys = refl
cons_append (Some x) xs ys = refl

events_from_more : (kinds : List Kind) (before lines : List Line) (line : Line)
    → events_from kinds before (lines ++ line ∷ []) ≡ events_from kinds before lines ++ cons_option (event_of kinds (before ++ lines) line) []
events_from_more kinds before [] line = ap (λ b. cons_option (event_of kinds b line) []) (sym (append-nil before))
events_from_more kinds before (x ∷ xs) line =
    ap (cons_option (event_of kinds before x)) (events_from_more kinds (before ++ x ∷ []) xs line)
    ∙ cons_append (event_of kinds before x) (events_from kinds (before ++ x ∷ []) xs) (cons_option (event_of kinds ((before ++ x ∷ []) ++ xs) line) [])
    ∙ ap (λ b. cons_option (event_of kinds before x) (events_from kinds (before ++ x ∷ []) xs) ++ cons_option (event_of kinds b line) []) (append_assoc before (x ∷ []) xs)

none_left : (es : List Numbered) → length es ≡ 0 → es ≡ []
none_left [] e = refl
none_left (x ∷ xs) e = absurd (omega arith)

module _ (kinds : List Kind) (lines : List Line) (line : Line) where
  -- the events of one line more are those before it, and then its own
  pub events_more : events_of kinds (lines ++ line ∷ []) ≡ events_of kinds lines ++ cons_option (event_of kinds lines line) []
  events_more = events_from_more kinds [] lines line

  objects_more : object_kinds kinds (lines ++ line ∷ []) ≡ object_kinds kinds lines ++ cons_option (declared_kind kinds line) []
  objects_more = filter_map-append (declared_kind kinds) lines (line ∷ [])

module _ (lines : List Line) (line : Line) where
  pub threads_more : threads_of (lines ++ line ∷ []) ≡ threads_of lines ++ cons_option (begun_name line) []
  threads_more = filter_map-append begun_name lines (line ∷ [])

  joined_more : joined_of (lines ++ line ∷ []) ≡ joined_of lines ++ cons_option (joined_name line) []
  joined_more = filter_map-append joined_name lines (line ∷ [])

  count_more : events (lines ++ line ∷ []) ≡ events lines + cond (is_event line) 1 0
  count_more = sum_by_push (λ l. cond (is_event l) 1 0) lines line

  pub roots_more : root_count (lines ++ line ∷ []) ≡ root_count lines + cond (is_root line) 1 0
  roots_more = sum_by_push (λ l. cond (is_root l) 1 0) lines line

  pub acquires_more : (thread lock : List ℕ) → acquires (lines ++ line ∷ []) thread lock ≡ acquires lines thread lock + cond (is_acquire_of thread lock line) 1 0
  unfolding acquires
  acquires_more thread lock = sum_by_push (λ l. cond (is_acquire_of thread lock l) 1 0) lines line

  pub releases_more : (thread lock : List ℕ) → releases (lines ++ line ∷ []) thread lock ≡ releases lines thread lock + cond (is_release_of thread lock line) 1 0
  unfolding releases
  releases_more thread lock = sum_by_push (λ l. cond (is_release_of thread lock l) 1 0) lines line

  pub shares_more : (thread lock : List ℕ) → shares (lines ++ line ∷ []) thread lock ≡ shares lines thread lock + cond (is_share_of thread lock line) 1 0
  unfolding shares
  shares_more thread lock = sum_by_push (λ l. cond (is_share_of thread lock l) 1 0) lines line

  pub unshares_more : (thread lock : List ℕ) → unshares (lines ++ line ∷ []) thread lock ≡ unshares lines thread lock + cond (is_unshare_of thread lock line) 1 0
  unfolding unshares
  unshares_more thread lock = sum_by_push (λ l. cond (is_unshare_of thread lock l) 1 0) lines line

  pub locks_more : locks_of (lines ++ line ∷ []) ≡ with_lock (locks_of lines) (taken_name line)
  locks_more = by [] lines
    where
      by : (locks : List (List ℕ)) (before : List Line) → with_locks locks (before ++ line ∷ []) ≡ with_lock (with_locks locks before) (taken_name line)
      by locks [] = refl
      by locks (x ∷ xs) = by (with_lock locks (taken_name x)) xs

no_more : {X : Type 0} (xs : List X) (o : Option X) → o ≡ None → xs ++ cons_option o [] ≡ xs
no_more xs o none = ap (λ p. xs ++ cons_option p []) none ∙ append-nil xs

abbrev ToldOf : List Kind → List Line → Type 0
ToldOf kinds lines = IsTold (roots_of lines) (events_of kinds lines) (events lines) (threads_of lines) (joined_of lines) (object_kinds kinds lines)

abbrev UsedOf : List Kind → List Line → Type 0
UsedOf kinds lines = AreUsed (events_of kinds lines) (threads_of lines) (locks_of lines) (acquires lines) (releases lines) (shares lines) (unshares lines)

all_more : {X : Type 0} (P : X → Type 0) (xs : List X) (o : Option X) → All P xs → IfSome o P → All P (xs ++ cons_option o [])
all_more P xs None all has = All-append P xs [] all (All-nil P)
all_more P xs (Some x) all has = All-push P xs x all has

module _ (kinds : List Kind) (lines : List Line) (line : Line) where
  -- what its event and its names make of the others is told of all of them
  told_as : (r : ℕ) (es : List Numbered) (count : ℕ) (threads joined : List (List ℕ)) (objects : List ℕ) → root_count (lines ++ line ∷ []) ≡ r → events_of kinds (lines ++ line ∷ []) ≡ es
      → events (lines ++ line ∷ []) ≡ count → threads_of (lines ++ line ∷ []) ≡ threads → joined_of (lines ++ line ∷ []) ≡ joined → object_kinds kinds (lines ++ line ∷ []) ≡ objects
      → IsTold (λ t. ltb t r) es count threads joined objects → ToldOf kinds (lines ++ line ∷ [])
  told_as r es count threads joined objects a b c d e f told = subst (λ (T : Type 0). T) (λ i. IsTold (λ t. ltb t (sym a i)) (sym b i) (sym c i) (sym d i) (sym e i) (sym f i)) told

  -- so it is with a line that begins no thread and is no event, whatever it makes of the objects
  told_silent : (objects : List ℕ) → is_root line ≡ false → is_event line ≡ false → begun_name line ≡ None → joined_name line ≡ None → event_of kinds lines line ≡ None
      → object_kinds kinds (lines ++ line ∷ []) ≡ objects
      → IsTold (roots_of lines) (events_of kinds lines) (events lines) (threads_of lines) (joined_of lines) objects → ToldOf kinds (lines ++ line ∷ [])
  told_silent objects root event begins joins numbers declares told = told_as (root_count lines) (events_of kinds lines) (events lines) (threads_of lines) (joined_of lines) objects
      (roots_more lines line ∙ ap (λ b. root_count lines + cond b 1 0) root ∙ omega arith)
      (events_more kinds lines line ∙ no_more (events_of kinds lines) (event_of kinds lines line) numbers)
      (count_more lines line ∙ ap (λ b. events lines + cond b 1 0) event ∙ omega arith)
      (threads_more lines line ∙ no_more (threads_of lines) (begun_name line) begins)
      (joined_more lines line ∙ no_more (joined_of lines) (joined_name line) joins)
      declares
      told

  used_as : (es : List Numbered) (threads locks : List (List ℕ)) (took gave sharing unsharing : List ℕ → List ℕ → ℕ) → events_of kinds (lines ++ line ∷ []) ≡ es
      → threads_of (lines ++ line ∷ []) ≡ threads → locks_of (lines ++ line ∷ []) ≡ locks
      → ((t l : List ℕ) → acquires (lines ++ line ∷ []) t l ≡ took t l) → ((t l : List ℕ) → releases (lines ++ line ∷ []) t l ≡ gave t l)
      → ((t l : List ℕ) → shares (lines ++ line ∷ []) t l ≡ sharing t l) → ((t l : List ℕ) → unshares (lines ++ line ∷ []) t l ≡ unsharing t l)
      → AreUsed es threads locks took gave sharing unsharing → UsedOf kinds (lines ++ line ∷ [])
  used_as es threads locks took gave sharing unsharing a b c d e f g used =
      subst (λ (T : Type 0). T) (λ i. AreUsed (sym a i) (sym b i) (sym c i) (λ t l. sym (d t l) i) (λ t l. sym (e t l) i) (λ t l. sym (f t l) i) (λ t l. sym (g t l) i)) used

  -- with a line that acquires no lock the lines acquire as often, and so it is with what it doesn't release, share or unshare
  none_of : (o : Option (List ℕ)) → o ≡ None → (t l : List ℕ) → once (passes (acting_name line) (same_name t) && passes o (same_name l)) ≡ 0
  none_of o none t l = ap (λ o. once (passes (acting_name line) (same_name t) && passes o (same_name l))) none ∙ none_and (passes (acting_name line) (same_name t)) false refl

  acquires_same : acquired_name line ≡ None → (t l : List ℕ) → acquires (lines ++ line ∷ []) t l ≡ acquires lines t l
  acquires_same none t l = omega (arith, acquires_more lines line t l, none_of (acquired_name line) none t l)

  releases_same : released_name line ≡ None → (t l : List ℕ) → releases (lines ++ line ∷ []) t l ≡ releases lines t l
  releases_same none t l = omega (arith, releases_more lines line t l, none_of (released_name line) none t l)

  shares_same : shared_name line ≡ None → (t l : List ℕ) → shares (lines ++ line ∷ []) t l ≡ shares lines t l
  shares_same none t l = omega (arith, shares_more lines line t l, none_of (shared_name line) none t l)

  unshares_same : unshared_name line ≡ None → (t l : List ℕ) → unshares (lines ++ line ∷ []) t l ≡ unshares lines t l
  unshares_same none t l = omega (arith, unshares_more lines line t l, none_of (unshared_name line) none t l)

  locks_same : taken_name line ≡ None → locks_of (lines ++ line ∷ []) ≡ locks_of lines
  locks_same none = locks_more lines line ∙ ap (with_lock (locks_of lines)) none

  -- the line takes no lock and gives none back
  record Apart : Type 0 where
    takes : taken_name line ≡ None
    acquired : acquired_name line ≡ None
    released : released_name line ≡ None
    shared : shared_name line ≡ None
    unshared : unshared_name line ≡ None

  used_apart : (es : List Numbered) (threads : List (List ℕ)) → Apart → events_of kinds (lines ++ line ∷ []) ≡ es → threads_of (lines ++ line ∷ []) ≡ threads
      → AreUsed es threads (locks_of lines) (acquires lines) (releases lines) (shares lines) (unshares lines) → UsedOf kinds (lines ++ line ∷ [])
  used_apart es threads apart es_are threads_are =
      used_as es threads (locks_of lines) (acquires lines) (releases lines) (shares lines) (unshares lines) es_are threads_are (locks_same apart.takes)
      (acquires_same apart.acquired) (releases_same apart.released) (shares_same apart.shared) (unshares_same apart.unshared)

  -- all is told of one line more, where the object that it declares and the call that it is are of the kinds
  grown : AreTold kinds lines → ToldOf kinds (lines ++ line ∷ []) → UsedOf kinds (lines ++ line ∷ []) → IfSome (declared_kind kinds line) (λ kind. kind < length kinds)
      → IfSome (event_of kinds lines line) (λ e. IfSome (call_in e) (IsCallOf kinds)) → AreTold kinds (lines ++ line ∷ [])
  grown told is used kind call = record {
    told = is;
    used = used;
    declared = subst (All (λ kind. kind < length kinds)) (sym (objects_more kinds lines line)) (all_more (λ kind. kind < length kinds) (object_kinds kinds lines) (declared_kind kinds line) told.declared kind);
    fit = subst (All (λ e. IfSome (call_in e) (IsCallOf kinds))) (sym (events_more kinds lines line))
        (all_more (λ e. IfSome (call_in e) (IsCallOf kinds)) (events_of kinds lines) (event_of kinds lines line) told.fit call);
  }

-- with a root, which comes before every event
pub no_events : (kinds : List Kind) (lines : List Line) → AreTold kinds lines → events lines ≡ 0 → events_of kinds lines ≡ []
no_events kinds lines told none = none_left (events_of kinds lines) (told.told.counted ∙ none)

-- as many roots as threads there
pub all_roots : (kinds : List Kind) (lines : List Line) → AreTold kinds lines → events lines ≡ 0 → root_count lines ≡ length (threads_of lines)
all_roots kinds lines told none = root_total (events_of kinds lines) (root_count lines) (length (threads_of lines)) (no_events kinds lines told none) told.told.known

not_skipped : (line : Line) → is_skip line ≡ false → line ≢ Skip
not_skipped line counted skip = true≢false (sym (ap is_skip skip) ∙ counted)

-- a line that says nothing of threads, locks and objects, as one that is skipped, or the header
told_quiet : (kinds : List Kind) (lines : List Line) (line : Line) → is_root line ≡ false → is_event line ≡ false → begun_name line ≡ None → joined_name line ≡ None → Apart kinds lines line
    → event_of kinds lines line ≡ None → declared_kind kinds line ≡ None → AreTold kinds lines → AreTold kinds (lines ++ line ∷ [])
told_quiet kinds lines line root event begins joins apart numbers declares told = grown kinds lines line told
    (told_silent kinds lines line (object_kinds kinds lines) root event begins joins numbers
    (objects_more kinds lines line ∙ no_more (object_kinds kinds lines) (declared_kind kinds line) declares) told.told)
    (used_apart kinds lines line (events_of kinds lines) (threads_of lines) apart
    (events_more kinds lines line ∙ no_more (events_of kinds lines) (event_of kinds lines line) numbers)
    (threads_more lines line ∙ no_more (threads_of lines) (begun_name line) begins) told.used)
    (subst (λ o. IfSome o (λ kind. kind < length kinds)) (sym declares) tt)
    (subst (λ o. IfSome o (λ e. IfSome (call_in e) (IsCallOf kinds))) (sym numbers) tt)

told_declared : (kinds : List Kind) (limits : Limits) (lines : List Line) (name kind : List ℕ) → Meets kinds limits lines (Object name kind) → AreTold kinds lines → AreTold kinds (lines ++ Object name kind ∷ [])
told_declared kinds limits lines name kind may told =
    let line : Line = Object name kind in
    let below : place (kind_names kinds) kind < length (kind_names kinds) = place_below (kind_names kinds) kind may.known_kind in
    grown kinds lines line told
    (told_silent kinds lines line (object_kinds kinds lines ++ place (kind_names kinds) kind ∷ []) refl refl refl refl refl (objects_more kinds lines line)
    (told_object (roots_of lines) (events_of kinds lines) (events lines) (threads_of lines) (joined_of lines) (object_kinds kinds lines) told.told (place (kind_names kinds) kind)))
    (used_apart kinds lines line (events_of kinds lines) (threads_of lines) (record { takes = refl; acquired = refl; released = refl; shared = refl; unshared = refl })
    (events_more kinds lines line ∙ append-nil (events_of kinds lines)) (threads_more lines line ∙ append-nil (threads_of lines)) told.used)
    (omega (arith, below, length-map kinds (λ kind. kind.name)))
    tt

told_rooted : (kinds : List Kind) (limits : Limits) (lines : List Line) (name : List ℕ) → Meets kinds limits lines (Thread name) → length (threads_of (lines ++ Thread name ∷ [])) ≤ 4294967295
    → AreTold kinds lines → AreTold kinds (lines ++ Thread name ∷ [])
told_rooted kinds limits lines name may few told =
    let line : Line = Thread name in
    let more : length (threads_of (lines ++ line ∷ [])) ≡ length (threads_of lines) + 1 = ap length (threads_more lines line) ∙ length-append (threads_of lines) (name ∷ []) in
    grown kinds lines line told
    (told_as kinds lines line (root_count lines + 1) (events_of kinds lines) (events lines) (threads_of lines ++ name ∷ []) (joined_of lines) (object_kinds kinds lines)
    (roots_more lines line)
    (events_more kinds lines line ∙ append-nil (events_of kinds lines))
    (count_more lines line ∙ omega arith)
    (threads_more lines line)
    (joined_more lines line ∙ append-nil (joined_of lines))
    (objects_more kinds lines line ∙ append-nil (object_kinds kinds lines))
    (told_root (root_count lines) (events_of kinds lines) (events lines) (threads_of lines) (joined_of lines) (object_kinds kinds lines) name
    (no_events kinds lines told (may.early_root refl)) told.told may.new_thread (omega arith)))
    (used_apart kinds lines line (events_of kinds lines) (threads_of lines ++ name ∷ []) (record { takes = refl; acquired = refl; released = refl; shared = refl; unshared = refl })
    (events_more kinds lines line ∙ append-nil (events_of kinds lines)) (threads_more lines line)
    (used_thread (events_of kinds lines) (threads_of lines) (locks_of lines) (acquires lines) (releases lines) (shares lines) (unshares lines) told.used name may.new_thread))
    tt
    tt

-- the line of an event, with what it makes of the threads
module _ (kinds : List Kind) (limits : Limits) (lines : List Line) (event : LineEvent) (usable : AreUsable limits) (may : Meets kinds limits lines (Event event)) where
  told_event : (threads joined : List (List ℕ)) → threads_of (lines ++ Event event ∷ []) ≡ threads → joined_of (lines ++ Event event ∷ []) ≡ joined
      → (events lines < 4294967294 → IsTold (roots_of lines) (events_of kinds lines ++ numbered_event kinds lines event ∷ []) (events lines + 1) threads joined (object_kinds kinds lines))
      → ToldOf kinds (lines ++ Event event ∷ [])
  told_event threads joined begins joins told =
      let few_events : events lines < limits.events = may.few_events refl in
      let most : limits.events ≤ 4294967294 = usable.events in
      told_as kinds lines (Event event) (root_count lines) (events_of kinds lines ++ numbered_event kinds lines event ∷ []) (events lines + 1) threads joined (object_kinds kinds lines)
      (roots_more lines (Event event) ∙ omega arith)
      (events_more kinds lines (Event event))
      (count_more lines (Event event))
      begins
      joins
      (objects_more kinds lines (Event event) ∙ append-nil (object_kinds kinds lines))
      (told (omega arith))

told_forked : (kinds : List Kind) (limits : Limits) (lines : List Line) (thread child : List ℕ) → AreUsable limits
    → Meets kinds limits lines (Event (Fork thread child))
    → length (threads_of (lines ++ Event (Fork thread child) ∷ [])) ≤ 4294967295 → AreTold kinds lines → AreTold kinds (lines ++ Event (Fork thread child) ∷ [])
told_forked kinds limits lines thread child usable may few told =
    let line : Line = Event (Fork thread child) in
    let event : Numbered = numbered_event kinds lines (Fork thread child) in
    let more : length (threads_of (lines ++ line ∷ [])) ≡ length (threads_of lines) + 1 = ap length (threads_more lines line) ∙ length-append (threads_of lines) (child ∷ []) in
    grown kinds lines line told
    (told_event kinds limits lines (Fork thread child) usable may (threads_of lines ++ child ∷ []) (joined_of lines) (threads_more lines line) (joined_more lines line ∙ append-nil (joined_of lines))
    (λ few_events. told_fork (roots_of lines) (events_of kinds lines) (events lines) (threads_of lines) (joined_of lines) (object_kinds kinds lines) told.told
    thread child may.known_actor may.running may.new_thread few_events (omega arith)))
    (used_apart kinds lines line (events_of kinds lines ++ event ∷ []) (threads_of lines ++ child ∷ []) (record { takes = refl; acquired = refl; released = refl; shared = refl; unshared = refl }) (events_more kinds lines line) (threads_more lines line)
    (used_thread (events_of kinds lines ++ event ∷ []) (threads_of lines) (locks_of lines) (acquires lines) (releases lines) (shares lines) (unshares lines)
    (used_still (events_of kinds lines) (threads_of lines) (locks_of lines) (acquires lines) (releases lines) (shares lines) (unshares lines) told.used event refl refl) child may.new_thread))
    tt
    tt

told_joined : (kinds : List Kind) (limits : Limits) (lines : List Line) (thread child : List ℕ) → AreUsable limits
    → Meets kinds limits lines (Event (Join thread child)) → AreTold kinds lines → AreTold kinds (lines ++ Event (Join thread child) ∷ [])
told_joined kinds limits lines thread child usable may told =
    let line : Line = Event (Join thread child) in
    let event : Numbered = numbered_event kinds lines (Join thread child) in
    let begins : threads_of (lines ++ line ∷ []) ≡ threads_of lines = threads_more lines line ∙ append-nil (threads_of lines) in
    grown kinds lines line told
    (told_event kinds limits lines (Join thread child) usable may (threads_of lines) (joined_of lines ++ child ∷ []) begins (joined_more lines line)
    (told_join (roots_of lines) (events_of kinds lines) (events lines) (threads_of lines) (joined_of lines) (object_kinds kinds lines) told.told
    thread child may.known_actor may.running may.known_joined (λ same. may.other_joined (ap (λ name. Some name) (sym same)))))
    (used_apart kinds lines line (events_of kinds lines ++ event ∷ []) (threads_of lines) (record { takes = refl; acquired = refl; released = refl; shared = refl; unshared = refl }) (events_more kinds lines line) begins
    (used_still (events_of kinds lines) (threads_of lines) (locks_of lines) (acquires lines) (releases lines) (shares lines) (unshares lines) told.used event refl refl))
    tt
    tt

module _ (kinds : List Kind) (limits : Limits) (lines : List Line) (thread lock : List ℕ) (usable : AreUsable limits) (told : AreTold kinds lines) where
  -- the thread is known and runs
  acting : Contains (threads_of lines) thread → IsKnownThread (roots_of lines) (events_of kinds lines) (place (threads_of lines) thread)
  acting = known_name (roots_of lines) (events_of kinds lines) (events lines) (threads_of lines) (joined_of lines) (object_kinds kinds lines) told.told thread

  still_runs : Contains (threads_of lines) thread → ¬ (Contains (joined_of lines) thread) → joins (events_of kinds lines) (place (threads_of lines) thread) ≡ 0
  still_runs = running (roots_of lines) (events_of kinds lines) (events lines) (threads_of lines) (joined_of lines) (object_kinds kinds lines) told.told thread

  -- an event of the thread that begins no thread, joins none and is no call
  told_use : (event : LineEvent) → Meets kinds limits lines (Event event) → begun_name (Event event) ≡ None → joined_name (Event event) ≡ None
      → forked_thread (numbered_event kinds lines event) ≡ None → joined_thread (numbered_event kinds lines event) ≡ None → call_in (numbered_event kinds lines event) ≡ None
      → MayHappen (roots_of lines) (events_of kinds lines) (numbered_event kinds lines event) → ToldOf kinds (lines ++ Event event ∷ [])
  told_use event may begins joins forks_none joins_none calls_none happens =
      told_event kinds limits lines event usable may (threads_of lines) (joined_of lines)
      (threads_more lines (Event event) ∙ no_more (threads_of lines) (begun_name (Event event)) begins)
      (joined_more lines (Event event) ∙ no_more (joined_of lines) (joined_name (Event event)) joins)
      (told_still (roots_of lines) (events_of kinds lines) (events lines) (threads_of lines) (joined_of lines) (object_kinds kinds lines) told.told (numbered_event kinds lines event)
      forks_none joins_none calls_none happens)

  -- each other thread gave the lock back as often as it took it
  free_alone : (line : Line) → taken_name line ≡ Some lock → acting_name line ≡ Some thread → Meets kinds limits lines line
      → (u : ℕ) → u ≢ place (threads_of lines) thread
      → takings (events_of kinds lines) u (exclusive (place (locks_of lines) lock)) ≡ givings (events_of kinds lines) u (exclusive (place (locks_of lines) lock))
  free_alone line takes acts may = held_free exclusive (events_of kinds lines) (threads_of lines) (locks_of lines) (acquires lines) (releases lines) told.used.alone thread lock told.told.places free
    where
      free : (u : ℕ) (other : List ℕ) → slice_get (threads_of lines) u ≡ Some other → other ≢ thread → acquires lines other lock ≡ releases lines other lock
      free u other at apart =
          let part : IfSome (taken_name line) (λ lock. IfSome (slice_get (threads_of lines) u) (λ thread. acting_name line ≢ Some thread → acquires lines thread lock ≡ releases lines thread lock)) =
          (may.free u (slice_get_within (threads_of lines) u other at)).0 in
          subst (λ o. IfSome o (λ lock. IfSome (Some other) (λ thread. acting_name line ≢ Some thread → acquires lines thread lock ≡ releases lines thread lock))) takes
          (subst (λ o. IfSome (taken_name line) (λ lock. IfSome o (λ thread. acting_name line ≢ Some thread → acquires lines thread lock ≡ releases lines thread lock))) at part)
          (λ same. apart (sym (same_Some thread other (sym acts ∙ same))))

  told_acquired : Meets kinds limits lines (Event (Acquire thread lock)) → AreTold kinds (lines ++ Event (Acquire thread lock) ∷ [])
  told_acquired may =
      let line : Line = Event (Acquire thread lock) in
      let t : ℕ = place (threads_of lines) thread in
      let l : ℕ = place (locks_of lines) lock in
      grown kinds lines line told
      (told_use (Acquire thread lock) may refl refl refl refl refl
      (may_acquire (roots_of lines) (events_of kinds lines) t l (acting may.known_actor) (still_runs may.known_actor may.running)
      (free_alone line refl refl may)
      (held_free shared (events_of kinds lines) (threads_of lines) (locks_of lines) (shares lines) (unshares lines) told.used.shares thread lock told.told.places free)))
      (used_as kinds lines line (events_of kinds lines ++ numbered.Acquire t l ∷ []) (threads_of lines) (with_lock (locks_of lines) (Some lock))
      (λ u m. acquires lines u m + one_for thread lock u m) (releases lines) (shares lines) (unshares lines)
      (events_more kinds lines line) (threads_more lines line ∙ append-nil (threads_of lines)) (locks_more lines line)
      (acquires_more lines line) (releases_same kinds lines line refl) (shares_same kinds lines line refl) (unshares_same kinds lines line refl)
      (used_acquire (events_of kinds lines) (threads_of lines) (locks_of lines) (acquires lines) (releases lines) (shares lines) (unshares lines) thread lock told.used told.told.places may.known_actor))
      tt
      tt
    where
      free : (u : ℕ) (other : List ℕ) → slice_get (threads_of lines) u ≡ Some other → other ≢ thread → shares lines other lock ≡ unshares lines other lock
      free u other at apart =
          subst (λ o. IfSome o (λ name. Some thread ≢ Some name → shares lines name lock ≡ unshares lines name lock)) at (may.free u (slice_get_within (threads_of lines) u other at)).1
          (λ same. apart (sym (same_Some thread other same)))

  told_shared : Meets kinds limits lines (Event (Share thread lock)) → AreTold kinds (lines ++ Event (Share thread lock) ∷ [])
  told_shared may =
      let line : Line = Event (Share thread lock) in
      let t : ℕ = place (threads_of lines) thread in
      let l : ℕ = place (locks_of lines) lock in
      grown kinds lines line told
      (told_use (Share thread lock) may refl refl refl refl refl
      (may_share (roots_of lines) (events_of kinds lines) t l (acting may.known_actor) (still_runs may.known_actor may.running) (free_alone line refl refl may)))
      (used_as kinds lines line (events_of kinds lines ++ numbered.Share t l ∷ []) (threads_of lines) (with_lock (locks_of lines) (Some lock))
      (acquires lines) (releases lines) (λ u m. shares lines u m + one_for thread lock u m) (unshares lines)
      (events_more kinds lines line) (threads_more lines line ∙ append-nil (threads_of lines)) (locks_more lines line)
      (acquires_same kinds lines line refl) (releases_same kinds lines line refl) (shares_more lines line) (unshares_same kinds lines line refl)
      (used_share (events_of kinds lines) (threads_of lines) (locks_of lines) (acquires lines) (releases lines) (shares lines) (unshares lines) thread lock told.used told.told.places may.known_actor))
      tt
      tt

  told_released : Meets kinds limits lines (Event (Release thread lock)) → AreTold kinds (lines ++ Event (Release thread lock) ∷ [])
  told_released may =
      let line : Line = Event (Release thread lock) in
      let t : ℕ = place (threads_of lines) thread in
      let l : ℕ = place (locks_of lines) lock in
      let held = held_more exclusive (events_of kinds lines) (threads_of lines) (locks_of lines) (acquires lines) (releases lines) told.used.alone thread lock may.known_actor may.held.0 in
      grown kinds lines line told
      (told_use (Release thread lock) may refl refl refl refl refl
      (may_release (roots_of lines) (events_of kinds lines) t l (acting may.known_actor) (still_runs may.known_actor may.running) held.1))
      (used_as kinds lines line (events_of kinds lines ++ numbered.Release t l ∷ []) (threads_of lines) (locks_of lines)
      (acquires lines) (λ u m. releases lines u m + one_for thread lock u m) (shares lines) (unshares lines)
      (events_more kinds lines line) (threads_more lines line ∙ append-nil (threads_of lines)) (locks_same kinds lines line refl)
      (acquires_same kinds lines line refl) (releases_more lines line) (shares_same kinds lines line refl) (unshares_same kinds lines line refl)
      (used_release (events_of kinds lines) (threads_of lines) (locks_of lines) (acquires lines) (releases lines) (shares lines) (unshares lines) told.used thread lock told.told.places may.known_actor held.0))
      tt
      tt

  told_unshared : Meets kinds limits lines (Event (Unshare thread lock)) → AreTold kinds (lines ++ Event (Unshare thread lock) ∷ [])
  told_unshared may =
      let line : Line = Event (Unshare thread lock) in
      let t : ℕ = place (threads_of lines) thread in
      let l : ℕ = place (locks_of lines) lock in
      let held = held_more shared (events_of kinds lines) (threads_of lines) (locks_of lines) (shares lines) (unshares lines) told.used.shares thread lock may.known_actor may.held.1 in
      grown kinds lines line told
      (told_use (Unshare thread lock) may refl refl refl refl refl
      (may_unshare (roots_of lines) (events_of kinds lines) t l (acting may.known_actor) (still_runs may.known_actor may.running) held.1))
      (used_as kinds lines line (events_of kinds lines ++ numbered.Unshare t l ∷ []) (threads_of lines) (locks_of lines)
      (acquires lines) (releases lines) (shares lines) (λ u m. unshares lines u m + one_for thread lock u m)
      (events_more kinds lines line) (threads_more lines line ∙ append-nil (threads_of lines)) (locks_same kinds lines line refl)
      (acquires_same kinds lines line refl) (releases_same kinds lines line refl) (shares_same kinds lines line refl) (unshares_more lines line)
      (used_unshare (events_of kinds lines) (threads_of lines) (locks_of lines) (acquires lines) (releases lines) (shares lines) (unshares lines) told.used thread lock told.told.places may.known_actor held.0))
      tt
      tt

-- each object has a kind, by its place
pub kinds_placed : (kinds : List Kind) (lines : List Line) → length (object_kinds kinds lines) ≡ length (objects_of lines)
kinds_placed kinds [] = refl
kinds_placed kinds (Skip ∷ lines) = kinds_placed kinds lines
kinds_placed kinds (Header version ∷ lines) = kinds_placed kinds lines
kinds_placed kinds (Thread name ∷ lines) = kinds_placed kinds lines
kinds_placed kinds (Object name kind ∷ lines) = ap suc (kinds_placed kinds lines)
kinds_placed kinds (Event event ∷ lines) = kinds_placed kinds lines

got_inside : (numbers : List ℕ) (i other : ℕ) → i < length numbers → slice_get numbers i ≡ Some (unwrap_or (slice_get numbers i) other)
got_inside [] i other below = absurd (omega arith)
got_inside (x ∷ xs) zero other below = refl
got_inside (x ∷ xs) (suc i) other below = got_inside xs i other (omega arith)

told_called : (kinds : List Kind) (limits : Limits) (lines : List Line) (thread object method : List ℕ) (slots : List Value) → AreUsable limits
    → Meets kinds limits lines (Event (Call thread object method slots))
    → AreTold kinds lines → AreTold kinds (lines ++ Event (Call thread object method slots) ∷ [])
told_called kinds limits lines thread object method slots usable may told =
    let line : Line = Event (Call thread object method slots) in
    let call : CallOf = record {
      thread = place (threads_of lines) thread;
      object = place (objects_of lines) object;
      kind = kind_number kinds lines object;
      method = method_number kinds lines object method;
      slots = slots;
    } in
    let begins : threads_of (lines ++ line ∷ []) ≡ threads_of lines = threads_more lines line ∙ append-nil (threads_of lines) in
    let below : place (objects_of lines) object < length (objects_of lines) = place_below (objects_of lines) object may.known_object in
    let inside : place (objects_of lines) object < length (object_kinds kinds lines) = omega (arith, kinds_placed kinds lines) in
    let at : slice_get (object_kinds kinds lines) call.object ≡ Some call.kind = got_inside (object_kinds kinds lines) (place (objects_of lines) object) (length kinds) inside in
    let kind : kind_number kinds lines object < length kinds =
    rw unwrap_or-slice_get (told.declared (place (objects_of lines) object) (length kinds) inside) in
    let methods : List KindMethod = methods_of kinds lines object in
    let method_below : method_number kinds lines object method < length (method_names methods) = place_below (method_names methods) method may.known_method in
    grown kinds lines line told
    (told_event kinds limits lines (Call thread object method slots) usable may (threads_of lines) (joined_of lines) begins (joined_more lines line ∙ append-nil (joined_of lines))
    (told_call (roots_of lines) (events_of kinds lines) (events lines) (threads_of lines) (joined_of lines) (object_kinds kinds lines) told.told
    thread call may.known_actor may.running refl at))
    (used_apart kinds lines line (events_of kinds lines ++ numbered.Call call ∷ []) (threads_of lines) (record { takes = refl; acquired = refl; released = refl; shared = refl; unshared = refl }) (events_more kinds lines line) begins
    (used_still (events_of kinds lines) (threads_of lines) (locks_of lines) (acquires lines) (releases lines) (shares lines) (unshares lines) told.used (numbered.Call call) refl refl))
    tt
    (record { kind = kind; method = omega (arith, method_below, length-map methods (λ method. method.name)); slots = may.right_count })

-- what is told of accepted lines is told of them with one line more
pub told_more : (kinds : List Kind) (limits : Limits) (lines : List Line) (line : Line) → AreUsable limits → MayFollow kinds limits lines line
    → length (threads_of (lines ++ line ∷ [])) ≤ 4294967295 → AreTold kinds lines → AreTold kinds (lines ++ line ∷ [])
told_more kinds limits lines Skip usable follows few told = told_quiet kinds lines Skip refl refl refl refl (record { takes = refl; acquired = refl; released = refl; shared = refl; unshared = refl }) refl refl told
told_more kinds limits lines (Header version) usable follows few told = told_quiet kinds lines (Header version) refl refl refl refl (record { takes = refl; acquired = refl; released = refl; shared = refl; unshared = refl }) refl refl told
told_more kinds limits lines (Object name kind) usable (inl skip) few told = absurd (not_skipped (Object name kind) refl skip)
told_more kinds limits lines (Object name kind) usable (inr follows) few told = told_declared kinds limits lines name kind (met kinds limits lines (Object name kind) (λ h. cc) (inr follows)) told
told_more kinds limits lines (Thread name) usable (inl skip) few told = absurd (not_skipped (Thread name) refl skip)
told_more kinds limits lines (Thread name) usable (inr follows) few told = told_rooted kinds limits lines name (met kinds limits lines (Thread name) (λ h. cc) (inr follows)) few told
told_more kinds limits lines (Event (Fork thread child)) usable (inl skip) few told = absurd (not_skipped (Event (Fork thread child)) refl skip)
told_more kinds limits lines (Event (Fork thread child)) usable (inr follows) few told = told_forked kinds limits lines thread child usable (met kinds limits lines (Event (Fork thread child)) (λ h. cc) (inr follows)) few told
told_more kinds limits lines (Event (Join thread child)) usable (inl skip) few told = absurd (not_skipped (Event (Join thread child)) refl skip)
told_more kinds limits lines (Event (Join thread child)) usable (inr follows) few told = told_joined kinds limits lines thread child usable (met kinds limits lines (Event (Join thread child)) (λ h. cc) (inr follows)) told
told_more kinds limits lines (Event (Acquire thread lock)) usable (inl skip) few told = absurd (not_skipped (Event (Acquire thread lock)) refl skip)
told_more kinds limits lines (Event (Acquire thread lock)) usable (inr follows) few told = told_acquired kinds limits lines thread lock usable told (met kinds limits lines (Event (Acquire thread lock)) (λ h. cc) (inr follows))
told_more kinds limits lines (Event (Release thread lock)) usable (inl skip) few told = absurd (not_skipped (Event (Release thread lock)) refl skip)
told_more kinds limits lines (Event (Release thread lock)) usable (inr follows) few told = told_released kinds limits lines thread lock usable told (met kinds limits lines (Event (Release thread lock)) (λ h. cc) (inr follows))
told_more kinds limits lines (Event (Share thread lock)) usable (inl skip) few told = absurd (not_skipped (Event (Share thread lock)) refl skip)
told_more kinds limits lines (Event (Share thread lock)) usable (inr follows) few told = told_shared kinds limits lines thread lock usable told (met kinds limits lines (Event (Share thread lock)) (λ h. cc) (inr follows))
told_more kinds limits lines (Event (Unshare thread lock)) usable (inl skip) few told = absurd (not_skipped (Event (Unshare thread lock)) refl skip)
told_more kinds limits lines (Event (Unshare thread lock)) usable (inr follows) few told = told_unshared kinds limits lines thread lock usable told (met kinds limits lines (Event (Unshare thread lock)) (λ h. cc) (inr follows))
told_more kinds limits lines (Event (Call thread object method slots)) usable (inl skip) few told = absurd (not_skipped (Event (Call thread object method slots)) refl skip)
told_more kinds limits lines (Event (Call thread object method slots)) usable (inr follows) few told = told_called kinds limits lines thread object method slots usable (met kinds limits lines (Event (Call thread object method slots)) (λ h. cc) (inr follows)) told

-- the threads stay below the limit
few_more : (kinds : List Kind) (limits : Limits) (lines : List Line) (line : Line) → limits.threads < 2 ^ 32 → MayFollow kinds limits lines line
    → length (threads_of lines) ≤ 4294967295 → length (threads_of (lines ++ line ∷ [])) ≤ 4294967295
few_more kinds limits lines line range follows few = by (begun_name line) refl
  where
    by : (o : Option (List ℕ)) → begun_name line ≡ o → length (threads_of (lines ++ line ∷ [])) ≤ 4294967295
    by None begins = subst (λ names. length names ≤ 4294967295) (sym (threads_more lines line ∙ no_more (threads_of lines) (begun_name line) begins)) few
    by (Some name) begins =
        let more : length (threads_of (lines ++ line ∷ [])) ≡ length (threads_of lines) + 1 =
        ap length (threads_more lines line ∙ ap (λ o. threads_of lines ++ cons_option o []) begins) ∙ length-append (threads_of lines) (name ∷ []) in
        elim follows [
          | inl skip ↦ absurd (none-some name (sym (ap begun_name skip) ∙ begins))
          | inr may ↦ (let below : length (threads_of lines) < limits.threads = (met kinds limits lines line (λ skip. none-some name (sym (ap begun_name skip) ∙ begins)) (inr may)).few_threads (ap is_some begins) in omega arith)
        ]

pub told_from : (kinds : List Kind) (before lines : List Line) → AreTold kinds before → AreAcceptedFrom kinds before lines → AreTold kinds (before ++ lines)
told_from kinds before [] told accepted = subst (AreTold kinds) (sym (append-nil before)) told
told_from kinds before (line ∷ lines) told accepted =
    let next = accepted.0 in
    let more = told_more kinds next.limits before line next.usable next.follows (few_more kinds next.limits before line next.range next.follows told.told.few) told in
    subst (AreTold kinds) (append_assoc before (line ∷ []) lines) (told_from kinds (before ++ line ∷ []) lines more accepted.1)

-- what is told of accepted lines
pub accepted_told : (kinds : List Kind) (lines : List Line) → AreAccepted kinds lines → AreTold kinds lines
accepted_told kinds lines accepted = told_from kinds [] lines (told_none kinds) accepted

-- so they are well-formed for the kinds
pub told_formed : (kinds : List Kind) (lines : List Line) → AreTold kinds lines → WellFormedWith kinds (roots_of lines) (events_of kinds lines)
told_formed kinds lines told = record { formed = told.told.formed; fit = told.fit }

-- ---- the number of a new lock

pub new_lock_next : (kinds : List Kind) (before : List Line) (thread lock : List ℕ) → ¬ (Contains (locks_of before) lock)
    → accepted_of kinds before (Event (Acquire thread lock)) ≡ accepted.Event (numbered.Acquire (place (threads_of before) thread) (length (locks_of before)))
unfolding accepted_of
new_lock_next kinds before thread lock fresh = ap (λ l. accepted.Event (numbered.Acquire (place (threads_of before) thread) l)) (place_new (locks_of before) lock fresh)

pub shared_lock_next : (kinds : List Kind) (before : List Line) (thread lock : List ℕ) → ¬ (Contains (locks_of before) lock)
    → accepted_of kinds before (Event (Share thread lock)) ≡ accepted.Event (numbered.Share (place (threads_of before) thread) (length (locks_of before)))
unfolding accepted_of
shared_lock_next kinds before thread lock fresh = ap (λ l. accepted.Event (numbered.Share (place (threads_of before) thread) l)) (place_new (locks_of before) lock fresh)
