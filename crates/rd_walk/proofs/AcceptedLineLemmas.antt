-- The walk over lines, in the words of accepted lines.
use Rattle.std.proofs.Common.{◌≡◌, inl, inr, ℕ, ◌+◌, List, [], ◌∷◌, ◌++◌, Option, Some, None, Result, Ok, Err, refl, sym, subst}
use Rattle.rd_base.specs.declared.limits.Limits.{Limits}
use Rattle.rd_ecl.specs.Kinds.{Kind}
use Rattle.rd_event.proofs.ReadingLemmas.{found_said, none_said}
use Rattle.rd_event.specs.Reading.{item_of}
use Rattle.rd_event.specs.declared.items.Line.{Line}
use Rattle.rd_io.specs.Lines.Reading.{stops, line}
use Rattle.rd_io.specs.Lines.{Stop, Reading, reading}
use Rattle.rd_walk.specs.AcceptedLines.{IsAcceptedLine, IsRefusedLine, IsWalk, SaysItem}
use Rattle.rd_walk.proofs.WalkLemmas.{walk_line}
use Rattle.rd_walk.specs.Walk.{Walked, accepted_or, ending_of, entries_of, goes_or_ends, judgement_of, judgement_of_item, trace_by, trace_of, walk, walk_by}
use Rattle.rd_rules.proofs.FollowLemmas.{broken_from_some, follows_from_none}
use Rattle.rd_rules.specs.MayFollow.{first_broken, version_of}
use Rattle.rd_rules.specs.declared.causes.TraceCause.{TraceCause}
use Rattle.rd_rules.specs.declared.causes.WfCause.{WfCause}

module _ (kinds : List Kind) (limits : Limits) (before : List Line) (bytes : List ℕ) where
  -- what is judged of a line: it is accepted, or refused for a cause
  abbrev IsJudged : Result Line TraceCause → Type 0
  IsJudged (Ok item) = IsAcceptedLine kinds limits before bytes item
  IsJudged (Err cause) = IsRefusedLine kinds limits before bytes cause

  judged_followed : (item : Line) (broken : Option WfCause) → first_broken kinds limits before item ≡ broken → SaysItem (version_of before) bytes item
      → IsJudged (accepted_or item broken)
  judged_followed item None is said = record { said = said; follows = follows_from_none kinds limits before item is }
  judged_followed item (Some cause) is said = (item, cause, said, broken_from_some kinds limits before item cause is, refl)

  judged_found : (found : Option Line) → item_of (version_of before) bytes ≡ found → IsJudged (judgement_of_item kinds limits before found)
  judged_found None is = none_said (version_of before) bytes is
  judged_found (Some item) is =
      judged_followed item (first_broken kinds limits before item) refl (record { range = (found_said (version_of before) bytes item is).0; says = (found_said (version_of before) bytes item is).1 })

  judged_is : IsJudged (judgement_of kinds limits before bytes)
  unfolding judgement_of
  judged_is = judged_found (item_of (version_of before) bytes) refl

walk_is : (kinds : List Kind) (limits : Limits) (before : List Line) (number : ℕ) (lines : Reading)
    → IsWalk kinds limits before number lines (entries_of (walk kinds limits before number lines)) (ending_of (walk kinds limits before number lines))
unfolding walk_by entries_of ending_of
walk_is kinds limits before number (stops end) = (refl, refl)
walk_is kinds limits before number (line bytes more) =
    subst (λ walked. IsWalk kinds limits before number (line bytes more) (entries_of walked) (ending_of walked)) (sym (walk_line kinds limits before number bytes more))
    (by (λ item. walk kinds limits (before ++ item ∷ []) (number + 1) more) (judgement_of kinds limits before bytes) (judged_is kinds limits before bytes)
    (λ item. walk_is kinds limits (before ++ item ∷ []) (number + 1) more))
  where
    by : (next : Line → Walked) (r : Result Line TraceCause) → IsJudged kinds limits before bytes r
        → ((item : Line) → IsWalk kinds limits (before ++ item ∷ []) (number + 1) more (entries_of (next item)) (ending_of (next item)))
        → IsWalk kinds limits before number (line bytes more) (entries_of (goes_or_ends number r next)) (ending_of (goes_or_ends number r next))
    by next (Ok item) is later = inr (item, entries_of (next item), is, refl, later item)
    by next (Err cause) is later = inl (cause, is, refl, refl)

pub trace_walk : (kinds : List Kind) (limits : Limits) (stop : Stop) (bytes : List ℕ)
    → IsWalk kinds limits [] 1 (reading limits.line limits.bytes stop bytes) (entries_of (trace_of kinds limits stop bytes)) (ending_of (trace_of kinds limits stop bytes))
unfolding trace_by
trace_walk kinds limits stop bytes = walk_is kinds limits [] 1 (reading limits.line limits.bytes stop bytes)
