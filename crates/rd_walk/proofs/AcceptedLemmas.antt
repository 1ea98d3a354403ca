-- The items that a walk accepts are accepted, each after those in front of it, whatever lines say.
use Rattle.std.proofs.Common.{◌≡◌, ℕ, ◌+◌, ◌<◌, ◌^◌, List, [], ◌∷◌, ◌++◌, Option, Some, None, refl}
use Rattle.rd_base.specs.Limits.{AreUsable}
use Rattle.rd_base.specs.declared.limits.Limits.{Limits}
use Rattle.rd_io.specs.Lines.{Stop, Reading, reading}
use Rattle.rd_io.specs.Lines.Reading.{stops, line}
use Rattle.rd_ecl.specs.Kinds.{Kind}
use Rattle.rd_event.specs.declared.items.Line.{Line}
use Rattle.rd_rules.proofs.FollowLemmas.{follows_from_none}
use Rattle.rd_rules.specs.Events.{AreAccepted, AreAcceptedFrom}
use Rattle.rd_rules.specs.MayFollow.{first_broken}
use Rattle.rd_rules.specs.declared.causes.WfCause.{WfCause}
use Rattle.rd_walk.specs.Walk.{Saying, Walked, accepted_or, entries_of, goes_or_ends, items, items_go, line_goes, trace_by, trace_says, walk_by}

module _ (kinds : List Kind) (limits : Limits) (usable : AreUsable limits) (range : limits.threads < 2 ^ 32) where
  -- the items of one line, where it goes on with accepted ones
  module _ (number : ℕ) (more : List Line → Walked) (later : (behind : List Line) → AreAcceptedFrom kinds behind (items (entries_of (more behind)))) where
    items_accepted : (before said : List Line) → AreAcceptedFrom kinds before (items (entries_of (items_go kinds limits number before said more)))
    unfolding entries_of
    items_accepted before [] = later before
    items_accepted before (item ∷ behind) = by (first_broken kinds limits before item) refl (items_accepted (before ++ item ∷ []) behind)
      where
        by : (broken : Option WfCause) → first_broken kinds limits before item ≡ broken
            → AreAcceptedFrom kinds (before ++ item ∷ []) (items (entries_of (items_go kinds limits number (before ++ item ∷ []) behind more)))
            → AreAcceptedFrom kinds before (items (entries_of (goes_or_ends number (accepted_or item broken) (λ found. items_go kinds limits number (before ++ found ∷ []) behind more))))
        by None is rest = (record { limits = limits; usable = usable; range = range; follows = follows_from_none kinds limits before item is }, rest)
        by (Some cause) is rest = tt

    line_accepted : (before : List Line) (said : Option (List Line)) → AreAcceptedFrom kinds before (items (entries_of (line_goes kinds limits number before said more)))
    unfolding entries_of
    line_accepted before None = tt
    line_accepted before (Some said) = items_accepted before said

  walk_accepted : (says : Saying) (before : List Line) (number : ℕ) (lines : Reading) → AreAcceptedFrom kinds before (items (entries_of (walk_by says kinds limits before number lines)))
  unfolding walk_by entries_of
  walk_accepted says before number (stops ending) = tt
  walk_accepted says before number (line bytes more) =
      line_accepted number (λ behind. walk_by says kinds limits behind (number + 1) more) (λ behind. walk_accepted says behind (number + 1) more) before (says before bytes)

-- so are those of a text
pub text_accepted : (says : Saying) (kinds : List Kind) (limits : Limits) → AreUsable limits → limits.threads < 2 ^ 32 → (stop : Stop) (bytes : List ℕ)
    → AreAccepted kinds (items (entries_of (trace_by says kinds limits stop bytes)))
unfolding trace_by
text_accepted says kinds limits usable range stop bytes = walk_accepted kinds limits usable range says [] 1 (reading limits.line limits.bytes stop bytes)

-- and those of a trace
pub trace_accepted : (kinds : List Kind) (limits : Limits) → AreUsable limits → limits.threads < 2 ^ 32 → (stop : Stop) (bytes : List ℕ)
    → AreAccepted kinds (items (entries_of (trace_by trace_says kinds limits stop bytes)))
trace_accepted = text_accepted trace_says
