-- What a report on generated lines leaves.
use Rattle.std.proofs.Common.{◌≡◌, ℕ, ◌+◌, ◌<◌, ◌≤◌, ◌^◌, List, [], ◌∷◌, ◌++◌, Option, Some, None, refl, sym, ap, ◌∙◌, inl, inr, arith}
use Rattle.std.proofs.lemmas.List.{append_assoc}
use Rattle.rd_base.specs.Bytes.{IsFront}
use Rattle.rd_base.specs.Limits.{AreUsable}
use Rattle.rd_base.specs.declared.limits.Limits.{Limits}
use Rattle.rd_ecl.specs.Kinds.{Kind}
use Rattle.rd_event.specs.declared.items.Line.{Line}
use Rattle.rd_gen_command.specs.GeneratedWalks.{CountsGenerated, behind_counts, trace_counts_text, walk_items}
use Rattle.rd_walk.proofs.WalkLemmas.{entries_after}
use Rattle.rd_walk.specs.Progress.{IsBegun}
use Rattle.rd_walk.specs.Walk.{Entry, Walked, accepted_or, after, bound_from, entries_of, goes_or_ends, items, step_bound}
use Rattle.rd_rules.proofs.FollowLemmas.{follows_from_none}
use Rattle.rd_rules.specs.Events.{AreAcceptedFrom}
use Rattle.rd_rules.specs.MayFollow.{first_broken}
use Rattle.rd_rules.specs.declared.causes.WfCause.{WfCause}

-- the items that a walk accepts are accepted, each after those in front of it
pub items_accepted : (kinds : List Kind) (limits : Limits) → AreUsable limits → limits.threads < 2 ^ 32 → (before : List Line) (number : ℕ) (lines : List Line)
    → AreAcceptedFrom kinds before (items (entries_of (walk_items kinds limits before number lines)))
unfolding walk_items entries_of
items_accepted kinds limits usable range before number [] = tt
items_accepted kinds limits usable range before number (item ∷ lines) =
    by (first_broken kinds limits before item) refl (items_accepted kinds limits usable range (before ++ item ∷ []) (number + 1) lines)
  where
    by : (broken : Option WfCause) → first_broken kinds limits before item ≡ broken
        → AreAcceptedFrom kinds (before ++ item ∷ []) (items (entries_of (walk_items kinds limits (before ++ item ∷ []) (number + 1) lines)))
        → AreAcceptedFrom kinds before (items (entries_of (goes_or_ends number (accepted_or item broken) (λ found. walk_items kinds limits (before ++ found ∷ []) (number + 1) lines))))
    by None is rest = (record { limits = limits; usable = usable; range = range; follows = follows_from_none kinds limits before item is }, rest)
    by (Some cause) is rest = tt

-- the steps of the entries that were begun
pub counts_begun : (text : List Entry → List ℕ) (bound : List Line → Line → ℕ) (whole walked : Walked) (entries : List Entry) (part : List ℕ) (before now : ℕ)
    → whole ≡ after entries walked → IsBegun text part entries → now ≤ before + step_bound bound entries → CountsGenerated text bound whole part before now
counts_begun text bound whole walked entries part before now is begun cost = record {
  begun = entries;
  first = (entries_of walked, ap entries_of is ∙ entries_after entries walked);
  is_begun = inr begun;
  cost = cost;
}

-- none was begun
pub counts_none : (text : List Entry → List ℕ) (bound : List Line → Line → ℕ) (whole : Walked) (part : List ℕ) (before : ℕ)
    → CountsGenerated text bound whole part before before
unfolding bound_from
counts_none text bound whole part before = record { begun = []; first = (entries_of whole, refl); is_begun = inl refl; cost = omega arith }

-- the same behind the counts
pub counts_behind : (text : List Entry → List ℕ) (bound : List Line → Line → ℕ) (whole : Walked) (number count : ℕ) (part : List ℕ) (before now : ℕ)
    → CountsGenerated text bound whole part before now
    → CountsGenerated (behind_counts text number count) bound whole (trace_counts_text number count ++ part) before now
counts_behind text bound whole number count part before now counts = record {
  begun = counts.begun;
  first = counts.first;
  is_begun = elim counts.is_begun [
    | inl none ↦ inl none
    | inr begun ↦ inr (front_behind_counts begun)
  ];
  cost = counts.cost;
}
  where
    front_behind_counts : IsBegun text part counts.begun → IsBegun (behind_counts text number count) (trace_counts_text number count ++ part) counts.begun
    front_behind_counts begun =
        let (more, is) = begun.written in
        record {
          told = begun.told;
          last = begun.last;
          is = begun.is;
          one = begun.one;
          written = (more, ap (λ t. trace_counts_text number count ++ t) is ∙ sym (append_assoc (trace_counts_text number count) (text begun.told) more));
        }

-- a front of a front
pub front_of_front : (part rest front text : List ℕ) → front ≡ part ++ rest → IsFront front text → (behind : List ℕ) × (text ≡ part ++ behind)
front_of_front part rest front text is (more, whole) = (rest ++ more, whole ∙ ap (λ t. t ++ more) is ∙ append_assoc part rest more)
