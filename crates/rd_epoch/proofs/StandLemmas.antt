-- What is held of all variables, after an event.
use Rattle.std.proofs.Common.{◌≡◌, ◌≢◌, ◌⊎◌, inl, inr, ℕ, ◌+◌, ◌<◌, ◌≤◌, Bool, true, false, List, [], ◌∷◌, ◌++◌, length, Option, Some, refl, sym, ap, subst, ◌∙◌, arith, true≢false}
use Rattle.std.specs.Prelude.{Result, Ok, Err, IsErr, slice_get}
use Rattle.std.proofs.Math.ListN.{get_or-append}
use Rattle.std.proofs.Math.Seq.{get_or-append_seam}
use Rattle.std.proofs.lemmas.Bool.{cases_eq, cases_lt}
use Rattle.std.proofs.lemmas.List.{length-append}
use Rattle.std.proofs.lemmas.Option.{slice_get_within}
use Rattle.rd_base.specs.declared.memory.NoMemory.{NoMemory}
use Rattle.rd_base.specs.declared.values.Value.{Value}
use Rattle.rd_clock.specs.declared.clock.Stamp.{Stamp}
use Rattle.rd_ecl.specs.Kinds.{kinds_of}
use Rattle.rd_event.specs.declared.events.Call.{Call as CallOf}
use Rattle.rd_event.specs.declared.events.Event.{Event}
use Rattle.rd_event.specs.declared.events.Event.TheVariants.{Call}
use Rattle.rd_order.specs.EventLists.{WellFormedWith}
use Rattle.rd_order.proofs.OrderLemmas.{length_more}
use Rattle.rd_epoch.specs.Accesses.{IsAccess, variable_kinds}
use Rattle.rd_epoch.specs.EpochParts.{IsHeldAt, found_for, held_after}
use Rattle.rd_epoch.specs.Epochs.{LinesRise, EpochsStandFor, HeldAccesses, HoldsOf, IsNextAccess, event_of_access, held_at, no_access}
use Rattle.rd_epoch.specs.Taking.{TakesAccess}
use Rattle.rd_epoch.specs.declared.epochs.Access.{Access}
use Rattle.rd_epoch.specs.declared.epochs.First.{First}
use Rattle.rd_epoch.proofs.AccessLemmas.{access_shorter, access_within, at_more}
use Rattle.rd_epoch.proofs.LikeLemmas.{holds_like}
use Rattle.rd_epoch.proofs.LineLemmas.{none_in}
use Rattle.rd_epoch.proofs.EpochLemmas.{holds_after, holds_longer, earlier_or_this}

rising_more : (lines : List ℕ) (line : ℕ) → LinesRise lines → ((k l : ℕ) → slice_get lines k ≡ Some l → l < line) → LinesRise (lines ++ line ∷ [])
rising_more lines line rising below i j a b less at_i at_j = elim (at_more lines line b j at_j) [
  | inl early ↦ elim (at_more lines line a i at_i) [
    | inl first ↦ rising i j a b less first.1 early.1
    | inr last ↦ absurd (let inside = early.0 in let is = last.0 in omega arith)
  ]
  | inr last ↦ elim (at_more lines line a i at_i) [
    | inl first ↦ let l = below i a first.1 in let is = last.1 in omega arith
    | inr also ↦ absurd (let is = last.0 in let other = also.0 in omega arith)
  ]
]

lengths_more : {X Y : Type 0} (xs : List X) (ys : List Y) (x : X) (y : Y) → length xs ≡ length ys → length (xs ++ x ∷ []) ≡ length (ys ++ y ∷ [])
lengths_more xs ys x y same = omega (arith, length_more xs x, length_more ys y)

-- ---- an event that is no access

pub stands_quiet : (held : List HeldAccesses) (roots : ℕ → Bool) (lines : List ℕ) (es : List Event) (line : ℕ) (e : Event) → ((call : CallOf) → e ≢ Call call)
    → WellFormedWith (kinds_of variable_kinds) roots (es ++ e ∷ []) → ((k l : ℕ) → slice_get lines k ≡ Some l → l < line)
    → EpochsStandFor held roots lines es → EpochsStandFor held roots (lines ++ line ∷ []) (es ++ e ∷ [])
stands_quiet held roots lines es line e other formed below is = record {
  formed = formed;
  lengths = lengths_more lines es line e is.lengths;
  rising = rising_more lines line is.rising below;
  numbered = λ u w k at. is.numbered u w k (access_shorter es (e ∷ []) u w k (early u w k at) at);
  each = λ u inside. holds_longer lines es line e u (held_at held u) (held_at held u).raced is.lengths (early u) (is.each u inside);
}
  where
    early : (u : ℕ) (w : Bool) (k : ℕ) → IsAccess (es ++ e ∷ []) u w k → k < length es
    early u w k at = elim (at_more es e (Call at.call) k at.at) [ inl first ↦ first.0 | inr last ↦ absurd (other at.call (sym last.1)) ]

-- ---- an access

pub stands_after : (held now : List HeldAccesses) (roots : ℕ → Bool) (lines : List ℕ) (es : List Event) (access : Access) (stamp : Stamp) (slots : List Value)
    → IsNextAccess held roots lines es access stamp slots
    → IsHeldAt access.variable
    (held_after stamp.clock access.write (record { thread = stamp.thread; number = stamp.number; line = access.line }) (held_at held access.variable)
    (found_for stamp.clock access.write (held_at held access.variable))) held now
    → EpochsStandFor now roots (lines ++ access.line ∷ []) (es ++ event_of_access access stamp slots ∷ [])
stands_after held now roots lines es access stamp slots next is = record {
  formed = next.formed;
  lengths = lengths_more lines es access.line (event_of_access access stamp slots) next.stands.lengths;
  rising = rising_more lines access.line next.stands.rising next.line;
  numbered = λ u w k at. elim (before u w k at) [
    | inl early ↦ let known = next.stands.numbered u w k (access_shorter es (event_of_access access stamp slots ∷ []) u w k early at) in let count = is.count in omega arith
    | inr last ↦ let count = is.count in let same = last.1 in omega arith
  ];
  each = λ u inside. elim (cases_eq u access.variable) [
    | inl same ↦ subst (λ u. HoldsOf (lines ++ access.line ∷ []) (es ++ event_of_access access stamp slots ∷ []) u (held_at now u) (held_at now u).raced) (sym same)
        (holds_like (lines ++ access.line ∷ []) (es ++ event_of_access access stamp slots ∷ []) access.variable _ (held_at now access.variable) is.at (holds_after held roots lines es access stamp slots next))
    | inr other ↦ subst (λ (h : HeldAccesses). HoldsOf (lines ++ access.line ∷ []) (es ++ event_of_access access stamp slots ∷ []) u h h.raced) (sym (is.others u other))
        (holds_longer lines es access.line (event_of_access access stamp slots) u (held_at held u) (held_at held u).raced next.stands.lengths
        (λ w k at. elim (before u w k at) [ inl early ↦ early | inr last ↦ absurd (other last.1) ])
        (next.stands.each u (let count = is.count in let most = next.numbered in omega arith)))
  ];
}
  where
    before : (u : ℕ) (w : Bool) (k : ℕ) → IsAccess (es ++ event_of_access access stamp slots ∷ []) u w k → (k < length es) ⊎ ((k ≡ length es) × (u ≡ access.variable))
    before u w k at = elim (earlier_or_this held roots lines es access stamp slots next u w k at) [ inl early ↦ inl early | inr last ↦ inr (last.0, last.1) ]

-- ---- none yet

pub stands_new : (roots : ℕ → Bool) → WellFormedWith (kinds_of variable_kinds) roots [] → EpochsStandFor [] roots [] []
stands_new roots formed = record {
  formed = formed;
  lengths = refl;
  rising = λ i j a b less at_i at_j. absurd (let inside = slice_get_within [] i a at_i in omega arith);
  numbered = λ u w k at. absurd (let inside = access_within [] u w k at in omega arith);
  each = λ u inside. absurd (omega arith);
}

-- ---- want of memory

pub takes_none : (old new : List HeldAccesses) (access : Access) (stamp : Stamp) (result : Result (Option First) NoMemory) (before after : ℕ) → IsErr result → new ≡ old
    → after ≤ before + (2 + length (held_at old access.variable).reads) → ((held_at old access.variable).raced ≡ true → after ≡ before)
    → (access.variable ≡ length old) ⊎ ((access.write ≡ false) × ((held_at old access.variable).reads ≢ [])) → TakesAccess old new access stamp result before after
takes_none old new access stamp (Ok answer) before after none same cost raced memory = absurd (true≢false (sym none))
takes_none old new access stamp (Err e) before after none same cost raced memory = record {
  answer = tt;
  stands = tt;
  count = tt;
  err = same;
  cost = cost;
  raced = raced;
  memory = memory;
}

-- a variable more, without an access
pub stands_declared : (held : List HeldAccesses) (roots : ℕ → Bool) (lines : List ℕ) (es : List Event) → EpochsStandFor held roots lines es → EpochsStandFor (held ++ no_access ∷ []) roots lines es
stands_declared held roots lines es stands = record {
  formed = stands.formed;
  lengths = stands.lengths;
  rising = stands.rising;
  numbered = λ v w k at. let known = stands.numbered v w k at in omega (arith, known, length-append held (no_access ∷ []));
  each = λ v inside. elim (cases_lt v (length held)) [
    | inl early ↦ subst (λ (h : HeldAccesses). HoldsOf lines es v h h.raced) (sym (get_or-append held (no_access ∷ []) no_access v early)) (stands.each v early)
    | inr past ↦
        let last : v ≡ length held = omega (arith, past, inside, length-append held (no_access ∷ [])) in
        let none : (w : Bool) (k : ℕ) → ¬ (IsAccess es v w k) = λ w k at. (let known = stands.numbered v w k at in absurd (omega (arith, known, past))) in
        subst (λ (h : HeldAccesses). HoldsOf lines es v h h.raced) (sym (ap (held_at (held ++ no_access ∷ [])) last ∙ get_or-append_seam held no_access [] no_access))
        (record {
          quiet = λ w k at. absurd (none w k at);
          write = λ k at. none true k at;
          reads = record { only = λ epoch has. none_in epoch has; all = λ k at. absurd (none false k at); one_each = λ i j d less within. absurd (omega (arith, within)) };
        })
  ];
}
