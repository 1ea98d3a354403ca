-- The walk over the lines of a trace, one line after another.
use Rattle.std.proofs.Common.{◌≡◌, ◌≢◌, fold, ℕ, ◌+◌, ◌≤◌, List, [], ◌∷◌, ◌++◌, Option, Some, None, Ok, Err, true, ap, ◌∙◌, refl, sym, arith, inl, false, length, true≢false}
use Rattle.std.specs.Prelude.{◌<◌, option_map}
use Rattle.std.proofs.lemmas.List.Elements.{All-append, All-map, All-push}
use Rattle.std.proofs.lemmas.List.{append_assoc, append-nil, map-append}
use Rattle.std.proofs.lemmas.List.Sums.{fold-append}
use Rattle.rd_io.specs.Lines.{Reading, LinesEnding}
use Rattle.rd_io.specs.Lines.Reading.{stops, line}
use Rattle.rd_base.specs.declared.limits.Limits.{Limits}
use Rattle.rd_event.specs.Reading.{item_of}
use Rattle.rd_event.specs.Items.{is_skipped}
use Rattle.rd_event.specs.declared.items.Line.{Line}
use Rattle.rd_event.specs.declared.items.Line.TheVariants.{Skip}
use Rattle.rd_ecl.specs.Kinds.{Kind}
use Rattle.rd_base.specs.Limits.{AreUsable}
use Rattle.rd_walk.specs.Analysis.{AreBefore, IsNextEntry}
use Rattle.rd_rules.specs.MayFollow.{accepted_of, first_broken, is_event, threads_of, version_of}
use Rattle.rd_wf.specs.Roster.{AcceptsAs, RosterStandsFor}
use Rattle.rd_rules.specs.declared.causes.Accepted.{Accepted}
use Rattle.rd_rules.specs.declared.causes.Accepted.TheVariants.{Nothing}
use Rattle.rd_wf.specs.declared.roster.Roster.{Roster}
use Rattle.rd_walk.specs.Walk.{Entry, Walked, accepted_or, after, bound_from, trace_end_of, ending_of, ends, entries_of, lines_begun, goes, goes_or_ends, items, judgement_of, judgement_of_item, Saying, entries_at, items_go, line_goes, trace_says, walk, walk_by}
use Rattle.rd_walk.specs.Taking.{BeginsAs, EndsAs, GoesAs}
use Rattle.rd_rules.specs.declared.causes.WfCause.{WfCause}
use Rattle.rd_rules.specs.declared.causes.TraceCause.TheVariants.{BadLine, Wf}
use Rattle.rd_walk.specs.declared.walk.WalkEnd.TheVariants.{Refused}

pub judged_bad : (kinds : List Kind) (limits : Limits) (before : List Line) (bytes : List ℕ) → item_of (version_of before) bytes ≡ None
    → judgement_of kinds limits before bytes ≡ Err BadLine
unfolding judgement_of
judged_bad kinds limits before bytes says = ap (judgement_of_item kinds limits before) says

pub judged_unbroken : (kinds : List Kind) (limits : Limits) (before : List Line) (bytes : List ℕ) (item : Line)
    → item_of (version_of before) bytes ≡ Some item → first_broken kinds limits before item ≡ None → judgement_of kinds limits before bytes ≡ Ok item
unfolding judgement_of
judged_unbroken kinds limits before bytes item says unbroken = ap (judgement_of_item kinds limits before) says ∙ ap (accepted_or item) unbroken

pub judged_broken : (kinds : List Kind) (limits : Limits) (before : List Line) (bytes : List ℕ) (item : Line) (cause : WfCause)
    → item_of (version_of before) bytes ≡ Some item → first_broken kinds limits before item ≡ Some cause → judgement_of kinds limits before bytes ≡ Err (Wf cause)
unfolding judgement_of
judged_broken kinds limits before bytes item cause says broken = ap (judgement_of_item kinds limits before) says ∙ ap (accepted_or item) broken

-- what the roster accepts as an item is judged so
pub judged_as : (kinds : List Kind) (limits : Limits) (before : List Line) (bytes : List ℕ) (item : Line) (accepted : Accepted) (roster : Roster)
    → AcceptsAs kinds limits before bytes item accepted roster → judgement_of kinds limits before bytes ≡ Ok item
unfolding judgement_of
judged_as kinds limits before bytes item accepted roster is = ap (judgement_of_item kinds limits before) is.says ∙ ap (accepted_or item) is.unbroken

-- the entries of this line are of one in front of the next
pub before_next : (number : ℕ) (before : List Entry) (said : List Line) → AreBefore number before → AreBefore (number + 1) (before ++ entries_at number said)
before_next number before said behind =
    All-append (λ (entry : Entry). is_event entry.item ≡ true → entry.number < number + 1) before (entries_at number said)
    (λ k d inside event. let below = behind k d inside event in omega (arith, below))
    (All-map (λ (entry : Entry). is_event entry.item ≡ true → entry.number < number + 1) (λ item. record { number = number; item = item }) said (λ k d inside event. omega arith))

-- so are they before this line itself, where it said no event yet
pub before_still : (number : ℕ) (before : List Entry) (item : Line) → is_event item ≡ false → AreBefore number before → AreBefore number (before ++ entries_at number (item ∷ []))
before_still number before item quiet behind =
    All-push (λ (entry : Entry). is_event entry.item ≡ true → entry.number < number) before (record { number = number; item = item }) behind
    (λ event. absurd (true≢false (sym event ∙ quiet)))

-- and is the next entry
pub next_as : (kinds : List Kind) (limits : Limits) (before : List Entry) (number : ℕ) (bytes : List ℕ) (item : Line) (accepted : Accepted) (roster : Roster) → AreUsable limits
    → AreBefore number before → AcceptsAs kinds limits (items before) bytes item accepted roster → IsNextEntry kinds roster before number item accepted
next_as kinds limits before number bytes item accepted roster usable behind is = record {
  limits = limits;
  usable = usable;
  follows = is.follows;
  numbers = is.numbers;
  stands = is.stands;
  few = is.few;
  rising = behind;
}

-- a line that is skipped says so
pub skipped_said : (before : List Line) (bytes : List ℕ) → is_skipped bytes ≡ true → trace_says before bytes ≡ Some (Skip ∷ [])
unfolding item_of
skipped_said before bytes skipped = rw skipped refl

-- and is the next entry where it may follow
pub next_skipped : (kinds : List Kind) (roster : Roster) (before : List Entry) (number : ℕ) (limits : Limits) → AreUsable limits → AreBefore number before
    → RosterStandsFor kinds roster (items before ++ Skip ∷ []) → length (threads_of (items before ++ Skip ∷ [])) ≤ 4294967295
    → IsNextEntry kinds roster before number Skip Nothing
unfolding accepted_of
next_skipped kinds roster before number limits usable behind stands few = record {
  limits = limits;
  usable = usable;
  follows = inl refl;
  numbers = refl;
  stands = stands;
  few = few;
  rising = behind;
}

pub walk_stops : (says : Saying) (kinds : List Kind) (limits : Limits) (before : List Line) (number : ℕ) (ending : LinesEnding)
    → walk_by says kinds limits before number (stops ending) ≡ ends (trace_end_of limits before number ending)
unfolding walk_by
walk_stops says kinds limits before number ending = refl

-- a line of a trace is judged, and then the next
pub line_judged : (kinds : List Kind) (limits : Limits) (before : List Line) (number : ℕ) (bytes : List ℕ) (more : List Line → Walked)
    → line_goes kinds limits number before (trace_says before bytes) more
    ≡ goes_or_ends number (judgement_of kinds limits before bytes) (λ item. more (before ++ item ∷ []))
unfolding judgement_of
line_judged kinds limits before number bytes more = by (item_of (version_of before) bytes)
  where
    by : (said : Option Line)
        → line_goes kinds limits number before (option_map (λ item. item ∷ []) said) more
        ≡ goes_or_ends number (judgement_of_item kinds limits before said) (λ item. more (before ++ item ∷ []))
    by None = refl
    by (Some item) = refl

pub walk_line : (kinds : List Kind) (limits : Limits) (before : List Line) (number : ℕ) (bytes : List ℕ) (more : Reading)
    → walk kinds limits before number (line bytes more)
    ≡ goes_or_ends number (judgement_of kinds limits before bytes) (λ item. walk kinds limits (before ++ item ∷ []) (number + 1) more)
unfolding walk_by
walk_line kinds limits before number bytes more = line_judged kinds limits before number bytes (λ behind. walk kinds limits behind (number + 1) more)

-- a line of any grammar, and then the next
pub walk_goes : (says : Saying) (kinds : List Kind) (limits : Limits) (before : List Line) (number : ℕ) (bytes : List ℕ) (more : Reading)
    → walk_by says kinds limits before number (line bytes more)
    ≡ line_goes kinds limits number before (says before bytes) (λ behind. walk_by says kinds limits behind (number + 1) more)
unfolding walk_by
walk_goes says kinds limits before number bytes more = refl

-- an item that is all that a line says, and that may follow
pub goes_as_one : (says : Saying) (kinds : List Kind) (limits : Limits) (number : ℕ) (before : List Line) (bytes : List ℕ) (item : Line)
    → says before bytes ≡ Some (item ∷ []) → first_broken kinds limits before item ≡ None → GoesAs says kinds limits number before bytes (item ∷ [])
unfolding after
goes_as_one says kinds limits number before bytes item said unbroken more =
    ap (λ found. line_goes kinds limits number before found more) said
    ∙ ap (λ broken. goes_or_ends number (accepted_or item broken) (λ found. items_go kinds limits number (before ++ found ∷ []) [] more)) unbroken

-- two items of a line: the second is judged behind the first
module _ (says : Saying) (kinds : List Kind) (limits : Limits) (number : ℕ) (before : List Line) (bytes : List ℕ) (first second : Line)
    (said : says before bytes ≡ Some (first ∷ second ∷ [])) where
  first_goes : (broken : Option WfCause) → first_broken kinds limits before first ≡ broken → (more : List Line → Walked)
      → line_goes kinds limits number before (says before bytes) more
      ≡ goes_or_ends number (accepted_or first broken) (λ found. items_go kinds limits number (before ++ found ∷ []) (second ∷ []) more)
  first_goes broken is more =
      ap (λ found. line_goes kinds limits number before found more) said
      ∙ ap (λ b. goes_or_ends number (accepted_or first b) (λ found. items_go kinds limits number (before ++ found ∷ []) (second ∷ []) more)) is

  module _ (unbroken : first_broken kinds limits before first ≡ None) where
    second_goes : (broken : Option WfCause) → first_broken kinds limits (before ++ first ∷ []) second ≡ broken → (more : List Line → Walked)
        → line_goes kinds limits number before (says before bytes) more
        ≡ goes (record { number = number; item = first }) (goes_or_ends number (accepted_or second broken) (λ found. more ((before ++ first ∷ []) ++ found ∷ [])))
    second_goes broken is more =
        first_goes None unbroken more
        ∙ ap (λ b. goes (record { number = number; item = first }) (goes_or_ends number (accepted_or second b) (λ found. more ((before ++ first ∷ []) ++ found ∷ [])))) is

    pub goes_as_two : first_broken kinds limits (before ++ first ∷ []) second ≡ None → GoesAs says kinds limits number before bytes (first ∷ second ∷ [])
    unfolding after
    goes_as_two is more =
        second_goes None is more
        ∙ ap (λ lines. goes (record { number = number; item = first }) (goes (record { number = number; item = second }) (more lines))) (append_assoc before (first ∷ []) (second ∷ []))

    pub ends_at_second : (cause : WfCause) → first_broken kinds limits (before ++ first ∷ []) second ≡ Some cause
        → EndsAs says kinds limits number before bytes (first ∷ []) (Refused number (Wf cause))
    unfolding after
    ends_at_second cause is more = second_goes (Some cause) is more

    pub begins_with_first : BeginsAs says kinds limits number before bytes (first ∷ [])
    unfolding after
    begins_with_first more = (items_go kinds limits number (before ++ first ∷ []) (second ∷ []) more, first_goes None unbroken more)

  pub ends_at_first : (cause : WfCause) → first_broken kinds limits before first ≡ Some cause → EndsAs says kinds limits number before bytes [] (Refused number (Wf cause))
  unfolding after
  ends_at_first cause is more = first_goes (Some cause) is more

-- an item that is all that a line says, and that may not follow
pub ends_at_one : (says : Saying) (kinds : List Kind) (limits : Limits) (number : ℕ) (before : List Line) (bytes : List ℕ) (item : Line) (cause : WfCause)
    → says before bytes ≡ Some (item ∷ []) → first_broken kinds limits before item ≡ Some cause → EndsAs says kinds limits number before bytes [] (Refused number (Wf cause))
unfolding after
ends_at_one says kinds limits number before bytes item cause said broken more =
    ap (λ found. line_goes kinds limits number before found more) said
    ∙ ap (λ b. goes_or_ends number (accepted_or item b) (λ found. items_go kinds limits number (before ++ found ∷ []) [] more)) broken

-- a line that says nothing, and one of which nothing is told
pub ends_as_bad : (says : Saying) (kinds : List Kind) (limits : Limits) (number : ℕ) (before : List Line) (bytes : List ℕ) → says before bytes ≡ None
    → EndsAs says kinds limits number before bytes [] (Refused number BadLine)
unfolding after
ends_as_bad says kinds limits number before bytes none more = ap (λ found. line_goes kinds limits number before found more) none

pub begins_untold : (says : Saying) (kinds : List Kind) (limits : Limits) (number : ℕ) (before : List Line) (bytes : List ℕ) → BeginsAs says kinds limits number before bytes []
unfolding after
begins_untold says kinds limits number before bytes more = (line_goes kinds limits number before (says before bytes) more, refl)

pub items_more : (entries : List Entry) (entry : Entry) → items (entries ++ entry ∷ []) ≡ items entries ++ entry.item ∷ []
items_more entries entry = map-append (λ (e : Entry). e.item) entries (entry ∷ [])

-- the items of entries, and of those of one line
pub items_at : (number : ℕ) (said : List Line) → items (entries_at number said) ≡ said
items_at number [] = refl
items_at number (item ∷ said) = ap (λ more. item ∷ more) (items_at number said)

pub items_said : (entries : List Entry) (number : ℕ) (said : List Line) → items (entries ++ entries_at number said) ≡ items entries ++ said
items_said entries number said =
    map-append (λ (e : Entry). e.item) entries (entries_at number said) ∙ ap (λ more. items entries ++ more) (items_at number said)

pub after_none : (walked : Walked) → after [] walked ≡ walked
unfolding after
after_none walked = refl

pub after_more : (entries : List Entry) (entry : Entry) (walked : Walked) → after entries (goes entry walked) ≡ after (entries ++ entry ∷ []) walked
unfolding after
after_more [] entry walked = refl
after_more (e ∷ es) entry walked = ap (goes e) (after_more es entry walked)

pub after_append : (entries more : List Entry) (walked : Walked) → after entries (after more walked) ≡ after (entries ++ more) walked
unfolding after
after_append [] more walked = refl
after_append (e ∷ es) more walked = ap (goes e) (after_append es more walked)

pub entries_after : (entries : List Entry) (walked : Walked) → entries_of (after entries walked) ≡ entries ++ entries_of walked
unfolding after entries_of
entries_after [] walked = refl
entries_after (e ∷ es) walked = ap (λ xs. e ∷ xs) (entries_after es walked)

pub ending_after : (entries : List Entry) (walked : Walked) → ending_of (after entries walked) ≡ ending_of walked
unfolding after ending_of
ending_after [] walked = refl
ending_after (e ∷ es) walked = ending_after es walked

pub bound_more : (bound : List Line → Line → ℕ) (before : List Line) (entries : List Entry) (entry : Entry)
    → bound_from bound before (entries ++ entry ∷ []) ≡ bound_from bound before entries + bound (before ++ items entries) entry.item
unfolding bound_from
bound_more bound before [] entry =
    let e : before ++ [] ≡ before = append-nil before in
    rw e (omega arith)
bound_more bound before (x ∷ xs) entry =
    let step = bound_more bound (before ++ x.item ∷ []) xs entry in
    let same : before ++ x.item ∷ [] ++ items xs ≡ before ++ x.item ∷ items xs = append_assoc before (x.item ∷ []) (items xs) in
    let there = rw same at step in
    omega arith

pub bound_append : (bound : List Line → Line → ℕ) (before : List Line) (entries more : List Entry)
    → bound_from bound before (entries ++ more) ≡ bound_from bound before entries + bound_from bound (before ++ items entries) more
unfolding bound_from
bound_append bound before [] more =
    let e : before ++ [] ≡ before = append-nil before in
    rw e (omega arith)
bound_append bound before (x ∷ xs) more =
    let step = bound_append bound (before ++ x.item ∷ []) xs more in
    let same : before ++ x.item ∷ [] ++ items xs ≡ before ++ x.item ∷ items xs = append_assoc before (x.item ∷ []) (items xs) in
    let there = rw same at step in
    omega arith

pub bound_one : (bound : List Line → Line → ℕ) (before : List Line) (entry : Entry) → bound_from bound before (entry ∷ []) ≡ bound before entry.item
unfolding bound_from
bound_one bound before entry = omega arith

-- the bound rises with further entries
pub bound_front : (bound : List Line → Line → ℕ) (before : List Line) (entries more : List Entry)
    → bound_from bound before entries ≤ bound_from bound before (entries ++ more)
unfolding bound_from
bound_front bound before [] more = omega arith
bound_front bound before (x ∷ xs) more = let step = bound_front bound (before ++ x.item ∷ []) xs more in omega arith

-- ---- how many lines were begun

-- behind entries of one line
begun_between : (number n : ℕ) (said : List Line) → n ≤ number
    → (n ≤ fold (λ before entry. entry.number) n (entries_at number said)) × (fold (λ before entry. entry.number) n (entries_at number said) ≤ number)
begun_between number n [] least = (omega arith, least)
begun_between number n (item ∷ said) least = let more = begun_between number number said (omega arith) in (omega (arith, least, more.0), more.1)

pub begun_at_most : (entries : List Entry) (number : ℕ) (said : List Line) → lines_begun entries ≤ number
    → (lines_begun entries ≤ lines_begun (entries ++ entries_at number said)) × (lines_begun (entries ++ entries_at number said) ≤ number)
begun_at_most entries number said least =
    let is = fold-append (λ (before : ℕ) (entry : Entry). entry.number) 0 entries (entries_at number said) in
    let both = begun_between number (lines_begun entries) said least in
    (omega (arith, is, both.0), omega (arith, is, both.1))

pub begun_at : (entries : List Entry) (number : ℕ) (said : List Line) → said ≢ [] → lines_begun (entries ++ entries_at number said) ≡ number
begun_at entries number [] some = absurd (some refl)
begun_at entries number (item ∷ said) some =
    let is = fold-append (λ (before : ℕ) (entry : Entry). entry.number) 0 entries (entries_at number (item ∷ said)) in
    let both = begun_between number number said (omega arith) in
    omega (arith, is, both.0, both.1)
