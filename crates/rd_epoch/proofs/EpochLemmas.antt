-- What is kept of a variable tells its races.
use Rattle.std.proofs.Common.{◌≡◌, ◌≢◌, ◌⊎◌, ◌↔◌, inl, inr, ℕ, zero, suc, ◌+◌, ◌<◌, ◌≤◌, Bool, true, false, cond, List, [], ◌∷◌, ◌++◌, length, get_or, Option, Some, None, refl, sym, ap, subst, ◌∙◌, arith, true≢false}
use Rattle.std.specs.Prelude.{Contains, option_map, slice_get}
use Rattle.std.proofs.lemmas.Bool.{cases_lt, cases_eq}
use Rattle.std.proofs.lemmas.List.{get_or_past}
use Rattle.std.proofs.lemmas.Bool.Decides.{not_from_Decides}
use Rattle.std.proofs.lemmas.List.Elements.{Contains-append_cases, Contains-append_left, Contains-append_right, Contains-get_or, Contains-push, Contains-push_cases}
use Rattle.std.proofs.lemmas.List.Kept.{AllPairs-filter}
use Rattle.std.proofs.lemmas.List.Quantifiers.{all_pairs_push}
use Rattle.std.proofs.lemmas.Option.{slice_get_within}
use Rattle.rd_base.specs.declared.values.Value.{Value}
use Rattle.rd_clock.specs.Clock.{component}
use Rattle.rd_clock.specs.declared.clock.Stamp.{Stamp}
use Rattle.rd_event.specs.declared.events.Event.{Event}
use Rattle.rd_hb.proofs.ClockLemmas.{clock_tells, is_of_longer, own_number_longer, own_reaches}
use Rattle.rd_order.specs.Order.{IsOf, Reaches}
use Rattle.rd_order.proofs.OrderLemmas.{at_end, at_front, length_more, reaches_decides, reaches_joined, reaches_longer, reaches_rises, reaches_shorter}
use Rattle.rd_order.specs.OrderTests.{reaches}
use Rattle.rd_races.specs.Commuting.{Commute}
use Rattle.rd_races.specs.Races.{IsLatest, Racing}
use Rattle.rd_epoch.specs.Accesses.{IsAccess, IsFirstRace, IsReported, variable_kinds}
use Rattle.rd_epoch.specs.EpochParts.{IsHeardEpoch, IsLatestLine, asked, found_for, held_after, held_with, latest_line, unheard}
use Rattle.rd_epoch.specs.Epochs.{HasRaced, HeldAccesses, HoldsOf, IsFirstTold, IsEpoch, IsKeptRead, IsLastWrite, IsNextAccess, IsOpen, IsPassedRead, IsQuiet, event_of_access, held_at, no_access, reads_of_one}
use Rattle.rd_epoch.specs.declared.epochs.Access.{Access}
use Rattle.rd_epoch.specs.declared.epochs.First.{First}
use Rattle.rd_epoch.specs.declared.kept.Epoch.{Epoch}
use Rattle.rd_epoch.proofs.AccessLemmas.{access_longer, access_shorter, access_within, raced_by, races, reported_longer, reported_shorter, same_sort, same_variable}
use Rattle.rd_epoch.proofs.LineLemmas.{from_unheard, in_unheard, is_latest_line, none_in}

-- ---- one event more

pub epoch_longer : (lines more : List ℕ) (es fs : List Event) (k : ℕ) (epoch : Epoch) → length lines ≡ length es → IsEpoch lines es k epoch → IsEpoch (lines ++ more) (es ++ fs) k epoch
epoch_longer lines more es fs k epoch lengths is = record {
  line = at_front lines more k (omega (arith, inside, lengths)) ∙ is.line;
  thread = is_of_longer es fs epoch.thread k is.thread;
  number = (own_number_longer es fs epoch.thread k epoch.number inside).0 is.number;
}
  where
    inside : k < length es
    inside = slice_get_within es k is.thread.0 is.thread.1

-- what is held of a variable that the next event doesn't access stays true
pub holds_longer : (lines : List ℕ) (es : List Event) (line : ℕ) (e : Event) (u : ℕ) (held : HeldAccesses) (b : Bool) → length lines ≡ length es
    → ((w : Bool) (k : ℕ) → IsAccess (es ++ e ∷ []) u w k → k < length es)
    → HoldsOf lines es u held b → HoldsOf (lines ++ line ∷ []) (es ++ e ∷ []) u held b
holds_longer lines es line e u held true lengths before is =
    (is.0, is.1, access_longer es (e ∷ []) u is.0 is.1 is.2, reported_longer es (e ∷ []) is.1 (access_within es u is.0 is.1 is.2) is.3)
holds_longer lines es line e u held false lengths before is = record {
  quiet = λ w k at reported. is.quiet w k (short w k at) (reported_shorter es (e ∷ []) k (before w k at) reported);
  write = write held.write is.write;
  reads = record {
    only = λ epoch has. let one = is.reads.only epoch has in (one.0, opened one.0 one.1, epoch_longer lines (line ∷ []) es (e ∷ []) one.0 epoch lengths one.2);
    all = λ k at. elim (is.reads.all k (short false k at)) [
      | inl kept ↦ inl (kept.0, kept.1, epoch_longer lines (line ∷ []) es (e ∷ []) k kept.0 lengths kept.2)
      | inr passed ↦ inr (passed.0, passed.1, access_longer es (e ∷ []) u passed.0 passed.1 passed.2, reaches_longer es (e ∷ []) k passed.1 passed.3)
    ];
    one_each = is.reads.one_each;
  };
}
  where
    short : (w : Bool) (k : ℕ) → IsAccess (es ++ e ∷ []) u w k → IsAccess es u w k
    short w k at = access_shorter es (e ∷ []) u w k (before w k at) at

    write : (o : Option Epoch) → IsLastWrite lines es u o → IsLastWrite (lines ++ line ∷ []) (es ++ e ∷ []) u o
    write None none = λ k at. none k (short true k at)
    write (Some epoch) one = (
      one.0,
      access_longer es (e ∷ []) u true one.0 one.1,
      epoch_longer lines (line ∷ []) es (e ∷ []) one.0 epoch lengths one.2,
      λ k at other. reaches_longer es (e ∷ []) k one.0 (one.3 k (short true k at) other),
    )

    opened : (k : ℕ) → IsOpen es u k → IsOpen (es ++ e ∷ []) u k
    opened k is = record {
      read = access_longer es (e ∷ []) u false k is.read;
      none = λ w m at r. is.none w m (short w m at) (reaches_shorter es (e ∷ []) k m (before w m at) r);
    }

-- ---- the next access

module _ (held : List HeldAccesses) (roots : ℕ → Bool) (lines : List ℕ) (es : List Event) (access : Access) (stamp : Stamp) (slots : List Value)
    (next : IsNextAccess held roots lines es access stamp slots) where
  abbrev now : List Event
  now = es ++ event_of_access access stamp slots ∷ []

  abbrev now_lines : List ℕ
  now_lines = lines ++ access.line ∷ []

  abbrev n : ℕ
  n = length es

  abbrev v : ℕ
  v = access.variable

  abbrev w : Bool
  w = access.write

  abbrev this : Epoch
  this = record { thread = stamp.thread; number = stamp.number; line = access.line }

  abbrev before : HeldAccesses
  before = held_at held access.variable

  more : n < length now
  more = omega (arith, length_more es (event_of_access access stamp slots))

  this_access : IsAccess now v w n
  this_access = record { call = _; at = at_end es (event_of_access access stamp slots); object = refl; method = refl }

  pub this_epoch : IsEpoch now_lines now n this
  this_epoch = record {
    line = ap (slice_get now_lines) (sym next.stands.lengths) ∙ at_end lines access.line;
    thread = (event_of_access access stamp slots, at_end es (event_of_access access stamp slots), refl);
    number = next.stamped.number;
  }

  longer : (u : ℕ) (x : Bool) (k : ℕ) → IsAccess es u x k → IsAccess now u x k
  longer u x k at = access_longer es (event_of_access access stamp slots ∷ []) u x k at

  shorter : (u : ℕ) (x : Bool) (k : ℕ) → k < n → IsAccess now u x k → IsAccess es u x k
  shorter u x k inside at = access_shorter es (event_of_access access stamp slots ∷ []) u x k inside at

  -- it is an earlier one, or this one
  pub earlier_or_this : (u : ℕ) (x : Bool) (k : ℕ) → IsAccess now u x k → (k < n) ⊎ ((k ≡ n) × (u ≡ v) × (x ≡ w))
  earlier_or_this u x k at = elim (cases_lt k n) [
    | inl early ↦ inl early
    | inr late ↦
        let last : k ≡ n = let inside = access_within now u x k at in omega (arith, length_more es (event_of_access access stamp slots)) in
        let same : IsAccess now u x n = subst (IsAccess now u x) last at in
        inr (last, same_variable now u v x w n same this_access, same_sort now u v x w n same this_access)
  ]

  -- the clock counts a kept access exactly where it reaches this one
  pub told : (k : ℕ) (epoch : Epoch) → IsEpoch lines es k epoch → IsHeardEpoch stamp.clock epoch ↔ Reaches now k n
  told k epoch is = clock_tells now k n epoch.thread epoch.number (component stamp.clock epoch.thread) inside more
      (is_of_longer es (event_of_access access stamp slots ∷ []) epoch.thread k is.thread)
      ((own_number_longer es (event_of_access access stamp slots ∷ []) epoch.thread k epoch.number inside).0 is.number)
      (next.stamped.clock epoch.thread)
    where
      inside : k < n
      inside = slice_get_within es k is.thread.0 is.thread.1

  -- one of the two writes
  abbrev Writes : Bool → Type 0
  Writes x = (x ≡ true) ⊎ (w ≡ true)

  race : (x : Bool) (k : ℕ) → IsAccess es v x k → Writes x → ¬ (Reaches now k n) → Racing (Commute variable_kinds) now k n
  race x k at writes apart = races roots now next.formed v x w k n (longer v x k at) this_access (access_within es v x k at, apart) writes

  -- it doesn't race where it is held that the first race came, and else by what is held
  pub holds_before : HoldsOf lines es v before before.raced
  holds_before = elim (cases_lt v (length held)) [
    | inl inside ↦ next.stands.each v inside
    | inr past ↦ subst (λ h. HoldsOf lines es v h h.raced) (sym (get_or_past held v no_access past)) (record {
      quiet = λ x k at. none x k past at;
      write = λ k at. none true k past at;
      reads = record { only = λ epoch has. none_in epoch has; all = λ k at. none false k past at; one_each = λ i j d less inside. absurd (omega arith) };
    })
  ]
    where
      none : {P : Type 0} (x : Bool) (k : ℕ) → length held ≤ v → IsAccess es v x k → P
      none x k past at = let known = next.stands.numbered v x k at in absurd (omega arith)

  module _ (quiet : IsQuiet lines es v before) where
    -- what is asked is an earlier access
    asked_is : (epoch : Epoch) → Contains (asked w before) epoch → (k : ℕ) × (x : Bool) × IsAccess es v x k × IsEpoch lines es k epoch × Writes x
    asked_is epoch has = elim (Contains-append_cases (reads_of_one before.write) (cond w before.reads []) epoch has) [
      | inl write ↦ of_write before.write quiet.write write
      | inr read ↦ of_reads w refl read
    ]
      where
        of_write : (o : Option Epoch) → IsLastWrite lines es v o → Contains (reads_of_one o) epoch → (k : ℕ) × (x : Bool) × IsAccess es v x k × IsEpoch lines es k epoch × ((x ≡ true) ⊎ (w ≡ true))
        of_write None none has = none_in epoch has
        of_write (Some one) is has = elim (Contains-push_cases [] one epoch has) [
          | inl none ↦ none_in epoch none
          | inr same ↦ (is.0, true, is.1, subst (IsEpoch lines es is.0) same is.2, inl refl)
        ]

        of_reads : (b : Bool) → w ≡ b → Contains (cond b before.reads []) epoch → (k : ℕ) × (x : Bool) × IsAccess es v x k × IsEpoch lines es k epoch × ((x ≡ true) ⊎ (w ≡ true))
        of_reads true writes has = let one = quiet.reads.only epoch has in (one.0, false, one.1.read, one.2, inr writes)
        of_reads false writes has = none_in epoch has

    -- each earlier access that may race is asked, or reaches a later one that may
    asked_or_passed : (x : Bool) (k : ℕ) → IsAccess es v x k → Writes x
        → IsKeptRead lines es (asked w before) k ⊎ ((y : Bool) × (m : ℕ) × IsAccess es v y m × Writes y × Reaches es k m)
    asked_or_passed true k at writes = of_write before.write quiet.write refl
      where
        of_write : (o : Option Epoch) → IsLastWrite lines es v o → before.write ≡ o
            → IsKeptRead lines es (asked w before) k ⊎ ((y : Bool) × (m : ℕ) × IsAccess es v y m × ((y ≡ true) ⊎ (w ≡ true)) × Reaches es k m)
        of_write None none is = absurd (none k at)
        of_write (Some one) held is = elim (cases_eq k held.0) [
          | inl same ↦ inl (one, Contains-append_left (reads_of_one before.write) (cond w before.reads []) one (subst (λ o. Contains (reads_of_one o) one) (sym is) (Contains-push [] one)), subst (λ p. IsEpoch lines es p one) (sym same) held.2)
          | inr other ↦ inr (true, held.0, held.1, inl refl, held.3 k at other)
        ]
    asked_or_passed false k at writes = elim writes [
      | inl not_so ↦ absurd (true≢false (sym not_so))
      | inr write ↦ elim (quiet.reads.all k at) [
        | inl kept ↦ inl (kept.0, Contains-append_right (reads_of_one before.write) (cond w before.reads []) kept.0 (subst (λ b. Contains (cond b before.reads []) kept.0) (sym write) kept.1), kept.2)
        | inr passed ↦ inr (passed.0, passed.1, passed.2, inr write, passed.3)
      ]
    ]

    -- So where an earlier one races, one that is asked does, which isn't before it. This is why the others may be forgotten.
    upper : (fuel : ℕ) (x : Bool) (k : ℕ) → n ≤ k + fuel → IsAccess es v x k → Writes x → ¬ (Reaches now k n)
        → (epoch : Epoch) × (m : ℕ) × Contains (asked w before) epoch × IsEpoch lines es m epoch × (¬ (Reaches now m n)) × (k ≤ m)
    upper zero x k few at writes apart = absurd (let inside = access_within es v x k at in omega arith)
    upper (suc fuel) x k few at writes apart = elim (asked_or_passed x k at writes) [
      | inl kept ↦ (kept.0, k, kept.1, kept.2, apart, omega arith)
      | inr passed ↦
          let rises : k < passed.1 = reaches_rises es k passed.1 passed.4 in
          let more = upper fuel passed.0 passed.1 (omega arith) passed.2 passed.3 (λ r. apart (reaches_joined now k passed.1 n (reaches_longer es (event_of_access access stamp slots ∷ []) k passed.1 passed.4) r)) in
          (more.0, more.1, more.2, more.3, more.4, let above = more.5 in omega arith)
    ]

    upper_of : (k : ℕ) → Racing (Commute variable_kinds) now k n → (epoch : Epoch) × (m : ℕ) × Contains (asked w before) epoch × IsEpoch lines es m epoch × (¬ (Reaches now m n)) × (k ≤ m)
    upper_of k racing =
        let by = raced_by roots now next.formed v w k n this_access racing in
        upper n by.0 k (omega arith) (shorter v by.0 k racing.unordered.0 by.1) by.2 racing.unordered.1

    abbrev found : Option ℕ
    found = latest_line stamp.clock None (asked w before)

    none_reported : IsLatestLine stamp.clock (asked w before) None → ¬ (IsReported now n)
    none_reported heard reported =
        let one = upper_of reported.0 reported.1 in
        one.4 ((told one.1 one.0 one.3).0 (heard one.0 one.2))

    latest_is : (line : ℕ) → IsLatestLine stamp.clock (asked w before) (Some line) → (k : ℕ) × IsLatest (Commute variable_kinds) now n k × (slice_get now_lines k ≡ Some line)
    latest_is line is = (
      one.0,
      record {
        racing = race one.1 one.0 one.2 one.4 apart;
        latest = λ k racing.
            let top = upper_of k racing in
            let below : top.0.line ≤ line = is.1 top.0 top.2 (λ heard. top.4 ((told top.1 top.0 top.3).0 heard)) in
            no_later top.1 top.0 top.3 below (top.5);
      },
      at_front lines (access.line ∷ []) one.0 (omega (arith, access_within es v one.1 one.0 one.2, next.stands.lengths)) ∙ (one.3.line ∙ ap Some is.0.3),
    )
      where
        one : (k : ℕ) × (x : Bool) × IsAccess es v x k × IsEpoch lines es k is.0.0 × Writes x
        one = asked_is is.0.0 is.0.1

        apart : ¬ (Reaches now one.0 n)
        apart r = is.0.2 ((told one.0 is.0.0 one.3).1 r)

        no_later : {k : ℕ} (m : ℕ) (epoch : Epoch) → IsEpoch lines es m epoch → epoch.line ≤ line → k ≤ m → k ≤ one.0
        no_later m epoch at below above = elim (cases_lt one.0 m) [
          | inl later ↦ absurd (let rising = next.stands.rising one.0 m is.0.0.line epoch.line later one.3.line at.line in let same = is.0.3 in omega arith)
          | inr not_later ↦ omega arith
        ]

    first_is : (line : ℕ) → IsLatestLine stamp.clock (asked w before) (Some line) → IsFirstRace now v n
    first_is line is = record {
      write = w;
      at = this_access;
      reported = ((latest_is line is).0, (latest_is line is).1.racing);
      first = λ x k early at reported. quiet.quiet x k (shorter v x k early at) (reported_shorter es (event_of_access access stamp slots ∷ []) k early reported);
    }

    answer_by : (o : Option ℕ) → IsLatestLine stamp.clock (asked w before) o → IsFirstTold now_lines now n v (option_map (λ line. record { later = access.line; earlier = line }) o)
    answer_by None none = λ first. none_reported none first.reported
    answer_by (Some line) is = (first_is line is, this_epoch.line, latest_is line is)

    -- ---- what is held then

    all_reach : IsLatestLine stamp.clock (asked w before) None → (x : Bool) (k : ℕ) → IsAccess es v x k → Writes x → Reaches now k n
    all_reach none x k at writes = by (reaches now k n) refl
      where
        by : (b : Bool) → reaches now k n ≡ b → Reaches now k n
        by true is = (reaches_decides now k n).0 is
        by false is = absurd (none_reported none (k, race x k at writes (not_from_Decides (reaches now k n) (reaches_decides now k n) is)))

    still_quiet : IsLatestLine stamp.clock (asked w before) None → (x : Bool) (k : ℕ) → IsAccess now v x k → ¬ (IsReported now k)
    still_quiet none x k at reported = elim (earlier_or_this v x k at) [
      | inl early ↦ quiet.quiet x k (shorter v x k early at) (reported_shorter es (event_of_access access stamp slots ∷ []) k early reported)
      | inr last ↦ none_reported none (subst (IsReported now) last.0 reported)
    ]

    written : w ≡ true → IsLatestLine stamp.clock (asked w before) None → IsQuiet now_lines now v (record { raced = false; write = Some this; reads = [] })
    written is none = record {
      quiet = still_quiet none;
      write = (
        n,
        subst (λ x. IsAccess now v x n) is this_access,
        this_epoch,
        λ k at other. elim (earlier_or_this v true k at) [ inl early ↦ all_reach none true k (shorter v true k early at) (inl refl) | inr last ↦ absurd (other last.0) ],
      );
      reads = record {
        only = λ epoch has. none_in epoch has;
        all = λ k at. elim (earlier_or_this v false k at) [
          | inl early ↦ inr (w, n, this_access, all_reach none false k (shorter v false k early at) (inr is))
          | inr last ↦ absurd (true≢false (sym (last.2 ∙ is)))
        ];
        one_each = λ i j d less inside. absurd (omega arith);
      };
    }

    read : w ≡ false → IsLatestLine stamp.clock (asked w before) None
        → IsQuiet now_lines now v (record { raced = false; write = before.write; reads = unheard stamp.clock before.reads ++ this ∷ [] })
    read is none = record {
      quiet = still_quiet none;
      write = of_write before.write quiet.write;
      reads = record {
        only = λ epoch has. elim (Contains-push_cases (unheard stamp.clock before.reads) this epoch has) [
          | inl old ↦
              let kept = from_unheard stamp.clock before.reads epoch old in
              let one = quiet.reads.only epoch kept.0 in
              (one.0, still_open one.0 epoch one.1 one.2 kept.1, epoch_longer lines (access.line ∷ []) es (event_of_access access stamp slots ∷ []) one.0 epoch next.stands.lengths one.2)
          | inr same ↦ (n, this_open, subst (IsEpoch now_lines now n) same this_epoch)
        ];
        all = λ k at. elim (earlier_or_this v false k at) [
          | inl early ↦ old_read k (shorter v false k early at)
          | inr last ↦ inl (this, Contains-push (unheard stamp.clock before.reads) this, subst (λ p. IsEpoch now_lines now p this) (sym last.0) this_epoch)
        ];
        one_each = all_pairs_push (λ a b. a.thread ≢ b.thread) (unheard stamp.clock before.reads) this
            (AllPairs-filter (λ (a : Epoch) b. a.thread ≢ b.thread) _ before.reads quiet.reads.one_each)
            (λ k d inside same. own_thread (get_or (unheard stamp.clock before.reads) k d) (from_unheard stamp.clock before.reads _ (Contains-get_or (unheard stamp.clock before.reads) k d inside)) same);
      };
    }
      where
        of_write : (o : Option Epoch) → IsLastWrite lines es v o → IsLastWrite now_lines now v o
        of_write None never = λ k at. elim (earlier_or_this v true k at) [ inl early ↦ never k (shorter v true k early at) | inr last ↦ true≢false (last.2 ∙ is) ]
        of_write (Some epoch) one = (
          one.0,
          longer v true one.0 one.1,
          epoch_longer lines (access.line ∷ []) es (event_of_access access stamp slots ∷ []) one.0 epoch next.stands.lengths one.2,
          λ k at other. elim (earlier_or_this v true k at) [
            | inl early ↦ reaches_longer es (event_of_access access stamp slots ∷ []) k one.0 (one.3 k (shorter v true k early at) other)
            | inr last ↦ absurd (true≢false (last.2 ∙ is))
          ],
        )

        this_open : IsOpen now v n
        this_open = record {
          read = subst (λ x. IsAccess now v x n) is this_access;
          none = λ x k at r. let rises = reaches_rises now n k r in let inside = access_within now v x k at in omega (arith, length_more es (event_of_access access stamp slots));
        }

        still_open : (k : ℕ) (epoch : Epoch) → IsOpen es v k → IsEpoch lines es k epoch → ¬ (IsHeardEpoch stamp.clock epoch) → IsOpen now v k
        still_open k epoch was at unheard = record {
          read = longer v false k was.read;
          none = λ x m other r. elim (earlier_or_this v x m other) [
            | inl early ↦ was.none x m (shorter v x m early other) (reaches_shorter es (event_of_access access stamp slots ∷ []) k m early r)
            | inr last ↦ unheard ((told k epoch at).1 (subst (Reaches now k) last.0 r))
          ];
        }

        old_read : (k : ℕ) → IsAccess es v false k → IsKeptRead now_lines now (unheard stamp.clock before.reads ++ this ∷ []) k ⊎ IsPassedRead now v k
        old_read k at = elim (quiet.reads.all k at) [
          | inl kept ↦ by kept (reaches now k n) refl
          | inr passed ↦ inr (passed.0, passed.1, longer v passed.0 passed.1 passed.2, reaches_longer es (event_of_access access stamp slots ∷ []) k passed.1 passed.3)
        ]
          where
            by : IsKeptRead lines es before.reads k → (b : Bool) → reaches now k n ≡ b → IsKeptRead now_lines now (unheard stamp.clock before.reads ++ this ∷ []) k ⊎ IsPassedRead now v k
            by kept true is = inr (w, n, this_access, (reaches_decides now k n).0 is)
            by kept false is = inl (
              kept.0,
              Contains-append_left (unheard stamp.clock before.reads) (this ∷ []) kept.0
                  (in_unheard stamp.clock before.reads kept.0 kept.1 (λ heard. not_from_Decides (reaches now k n) (reaches_decides now k n) is ((told k kept.0 kept.2).0 heard))),
              epoch_longer lines (access.line ∷ []) es (event_of_access access stamp slots ∷ []) k kept.0 next.stands.lengths kept.2,
            )

        own_thread : (epoch : Epoch) → Contains before.reads epoch × ¬ (IsHeardEpoch stamp.clock epoch) → epoch.thread ≡ stamp.thread → ⊥
        own_thread epoch kept same =
            let one = quiet.reads.only epoch kept.0 in
            let inside = slice_get_within es one.0 one.2.thread.0 one.2.thread.1 in
            kept.1 ((told one.0 epoch one.2).1 (own_reaches now epoch.thread one.0 n inside
            (is_of_longer es (event_of_access access stamp slots ∷ []) epoch.thread one.0 one.2.thread)
            (subst (λ t. IsOf now t n) (sym same) this_epoch.thread)))

    holds_by : (o : Option ℕ) → IsLatestLine stamp.clock (asked w before) o → before.raced ≡ false
        → HoldsOf now_lines now v (held_after stamp.clock w this before o) (held_after stamp.clock w this before o).raced
    holds_by (Some line) is quiet_is = (w, n, this_access, ((latest_is line is).0, (latest_is line is).1.racing))
    holds_by None none quiet_is =
        subst (λ b. HoldsOf now_lines now v (cond b before (held_with stamp.clock w this before)) (cond b before (held_with stamp.clock w this before)).raced) (sym quiet_is)
        (by w refl)
      where
        by : (b : Bool) → w ≡ b → HoldsOf now_lines now v (held_with stamp.clock b this before) (held_with stamp.clock b this before).raced
        by true is = written is none
        by false is = read is none

  -- ---- both together

  not_first : HasRaced es v → ¬ (IsFirstRace now v n)
  not_first raced first =
      let inside = access_within es v raced.0 raced.1 raced.2 in
      first.first raced.0 raced.1 inside (longer v raced.0 raced.1 raced.2) (reported_longer es (event_of_access access stamp slots ∷ []) raced.1 inside raced.3)

  abbrev answer_of : Option ℕ → Option First
  answer_of o = option_map (λ line. record { later = access.line; earlier = line }) o

  pub answers : IsFirstTold now_lines now n v (answer_of (found_for stamp.clock w before))
  answers = by before.raced refl holds_before
    where
      by : (b : Bool) → before.raced ≡ b → HoldsOf lines es v before b → IsFirstTold now_lines now n v (answer_of (found_for stamp.clock w before))
      by true is raced = subst (λ c. IsFirstTold now_lines now n v (answer_of (cond c None (latest_line stamp.clock None (asked w before))))) (sym is) (not_first raced)
      by false is quiet = subst (λ c. IsFirstTold now_lines now n v (answer_of (cond c None (latest_line stamp.clock None (asked w before))))) (sym is)
          (answer_by quiet (latest_line stamp.clock None (asked w before)) (is_latest_line stamp.clock (asked w before)))

  pub holds_after : HoldsOf now_lines now v (held_after stamp.clock w this before (found_for stamp.clock w before)) (held_after stamp.clock w this before (found_for stamp.clock w before)).raced
  holds_after = by before.raced refl holds_before
    where
      After : Option ℕ → Type 0
      After o = HoldsOf now_lines now v (held_after stamp.clock w this before o) (held_after stamp.clock w this before o).raced

      by : (b : Bool) → before.raced ≡ b → HoldsOf lines es v before b → After (found_for stamp.clock w before)
      by true is raced = subst (λ c. After (cond c None (latest_line stamp.clock None (asked w before)))) (sym is)
          (subst (λ c. HoldsOf now_lines now v (cond c before (held_with stamp.clock w this before)) (cond c before (held_with stamp.clock w this before)).raced) (sym is)
          (subst (HoldsOf now_lines now v before) (sym is)
          (raced.0, raced.1, longer v raced.0 raced.1 raced.2, reported_longer es (event_of_access access stamp slots ∷ []) raced.1 (access_within es v raced.0 raced.1 raced.2) raced.3)))
      by false is quiet = subst (λ c. After (cond c None (latest_line stamp.clock None (asked w before)))) (sym is)
          (holds_by quiet (latest_line stamp.clock None (asked w before)) (is_latest_line stamp.clock (asked w before)) is)
