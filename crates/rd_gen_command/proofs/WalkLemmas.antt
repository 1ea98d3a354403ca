-- The walk over items, one after another.
use Rattle.std.proofs.Common.{◌≡◌, ℕ, ◌+◌, List, [], ◌∷◌, ◌++◌, Some, None, refl, sym, ap, ◌∙◌}
use Rattle.rd_base.specs.declared.limits.Limits.{Limits}
use Rattle.rd_ecl.specs.Kinds.{Kind}
use Rattle.rd_event.specs.declared.items.Line.{Line}
use Rattle.rd_gen_command.specs.GeneratedWalks.{walk_items}
use Rattle.rd_io.specs.Lines.LinesEnding.{at_end}
use Rattle.rd_walk.proofs.WalkLemmas.{after_more, after_none, items_more}
use Rattle.rd_walk.specs.Walk.{Entry, Walked, accepted_or, after, ends, goes, goes_or_ends, items, trace_end_of}
use Rattle.rd_walk.specs.declared.walk.WalkEnd.TheVariants.{Refused}
use Rattle.rd_rules.specs.MayFollow.{first_broken}
use Rattle.rd_rules.specs.declared.causes.TraceCause.TheVariants.{Wf}
use Rattle.rd_rules.specs.declared.causes.WfCause.{WfCause}

module _ (kinds : List Kind) (limits : Limits) where
  stops : (before : List Line) (number : ℕ) → walk_items kinds limits before number [] ≡ ends (trace_end_of limits before number at_end)
  unfolding walk_items
  stops before number = refl

  accepts : (before : List Line) (number : ℕ) (item : Line) (lines : List Line) → first_broken kinds limits before item ≡ None
      → walk_items kinds limits before number (item ∷ lines) ≡ goes (record { number = number; item = item }) (walk_items kinds limits (before ++ item ∷ []) (number + 1) lines)
  unfolding walk_items
  accepts before number item lines none =
      ap (λ broken. goes_or_ends number (accepted_or item broken) (λ found. walk_items kinds limits (before ++ found ∷ []) (number + 1) lines)) none

  refuses : (before : List Line) (number : ℕ) (item : Line) (lines : List Line) (cause : WfCause) → first_broken kinds limits before item ≡ Some cause
      → walk_items kinds limits before number (item ∷ lines) ≡ ends (Refused number (Wf cause))
  unfolding walk_items
  refuses before number item lines cause some =
      ap (λ broken. goes_or_ends number (accepted_or item broken) (λ found. walk_items kinds limits (before ++ found ∷ []) (number + 1) lines)) some

  -- no line was taken yet
  pub begun : (lines : List Line) → walk_items kinds limits [] 1 lines ≡ after [] (walk_items kinds limits [] 1 lines)
  begun lines = sym (after_none (walk_items kinds limits [] 1 lines))

  -- where entries were accepted and the rest is walked over
  module _ (whole : Walked) (entries : List Entry) (number : ℕ) (lines : List Line) (so_far : whole ≡ after entries (walk_items kinds limits (items entries) number lines)) where
    pub walks_end : lines ≡ [] → whole ≡ after entries (ends (trace_end_of limits (items entries) number at_end))
    walks_end none =
        so_far ∙ ap (λ l. after entries (walk_items kinds limits (items entries) number l)) none ∙ ap (after entries) (stops (items entries) number)

    pub walks_on : (item : Line) (rest : List Line) → lines ≡ item ∷ rest → first_broken kinds limits (items entries) item ≡ None
        → whole ≡ after (entries ++ record { number = number; item = item } ∷ [])
        (walk_items kinds limits (items (entries ++ record { number = number; item = item } ∷ [])) (number + 1) rest)
    walks_on item rest is none =
        let entry : Entry = record { number = number; item = item } in
        so_far ∙ ap (λ l. after entries (walk_items kinds limits (items entries) number l)) is ∙ ap (after entries) (accepts (items entries) number item rest none)
        ∙ after_more entries entry (walk_items kinds limits (items entries ++ item ∷ []) (number + 1) rest)
        ∙ ap (λ before. after (entries ++ entry ∷ []) (walk_items kinds limits before (number + 1) rest)) (sym (items_more entries entry))

    pub walks_refused : (item : Line) (rest : List Line) (cause : WfCause) → lines ≡ item ∷ rest → first_broken kinds limits (items entries) item ≡ Some cause
        → whole ≡ after entries (ends (Refused number (Wf cause)))
    walks_refused item rest cause is some =
        so_far ∙ ap (λ l. after entries (walk_items kinds limits (items entries) number l)) is ∙ ap (after entries) (refuses (items entries) number item rest cause some)
