-- What is kept of the accepted lines, with one line more.
use Rattle.std.proofs.Common.{◌≡◌, ℕ, Bool, List, [], ◌∷◌, ◌++◌, length, map, refl, sym, ap, subst, ◌∙◌}
use Rattle.std.specs.Prelude.{codes, filter}
use Rattle.std.proofs.lemmas.List.{append-nil, append_assoc, map-append}
use Rattle.std.proofs.lemmas.List.Elements.{filter-append}
use Rattle.std.proofs.lemmas.List.Sums.{length-filter}
use Rattle.rd_ecl.specs.Kinds.{Kind}
use Rattle.rd_event.specs.Items.{line_text}
use Rattle.rd_event.specs.declared.items.Line.{Line}
use Rattle.rd_event.specs.declared.items.Line.TheVariants.{Skip, Header, Thread, Object, Event}
use Rattle.rd_rewriting.specs.Keeping.{FollowFrom, IsFollower, KeepsLines, KeepsMore, Spells, tells_event, tells_object, tells_root, text_if}
use Rattle.rd_rewriting.specs.Reordered.{is_declaration}
use Rattle.rd_rewriting.specs.declared.kept.Kept.{Kept}
use Rattle.rd_walk.proofs.WalkLemmas.{items_more}
use Rattle.rd_walk.specs.Analysis.{IsNextEntry}
use Rattle.rd_walk.specs.Walk.{Entry, items}
use Rattle.rd_rules.proofs.EventsLemmas.{told_more}
use Rattle.rd_rules.specs.Events.{AreTold, events_of}
use Rattle.rd_rules.specs.MayFollow.{accepted_of, is_event, is_root}
use Rattle.rd_rules.specs.declared.causes.Accepted.{Accepted}
use Rattle.rd_rules.specs.declared.causes.Accepted.TheVariants as accepted
use Rattle.rd_wf.specs.declared.roster.Roster.{Roster}
use Rattle.rd_rules.specs.laws.NoLines.{told_none}

-- ---- lines that follow one another

follow_more : (kinds : List Kind) (before lines : List Line) (line : Line) → FollowFrom kinds before lines → IsFollower kinds (before ++ lines) line
    → FollowFrom kinds before (lines ++ line ∷ [])
follow_more kinds before [] line follow next = (subst (λ b. IsFollower kinds b line) (append-nil before) next, tt)
follow_more kinds before (x ∷ xs) line follow next =
    (follow.0, follow_more kinds (before ++ x ∷ []) xs line follow.1 (subst (λ b. IsFollower kinds b line) (sym (append_assoc before (x ∷ []) xs)) next))

told_from : (kinds : List Kind) (before lines : List Line) → AreTold kinds before → FollowFrom kinds before lines → AreTold kinds (before ++ lines)
told_from kinds before [] told follow = subst (AreTold kinds) (sym (append-nil before)) told
told_from kinds before (line ∷ lines) told follow =
    let next = follow.0 in
    let more = told_more kinds next.limits before line next.usable next.follows next.few told in
    subst (AreTold kinds) (append_assoc before (line ∷ []) lines) (told_from kinds (before ++ line ∷ []) lines more follow.1)

-- what is told of them
pub follow_told : (kinds : List Kind) (lines : List Line) → FollowFrom kinds [] lines → AreTold kinds lines
follow_told kinds lines follow = told_from kinds [] lines (told_none kinds) follow

-- as many events as lines of events
pub events_counted : (kinds : List Kind) (lines : List Line) → FollowFrom kinds [] lines → length (events_of kinds lines) ≡ length (filter is_event lines)
events_counted kinds lines follow = (follow_told kinds lines follow).told.counted ∙ sym (length-filter is_event lines)

-- ---- what a line is in numbers, and its text

module _ (kinds : List Kind) (before : List Line) where
  root_is : (item : Line) (bytes : List ℕ) → Spells bytes item → text_if (tells_root (accepted_of kinds before item)) bytes ≡ map line_text (filter is_root (item ∷ []))
  unfolding accepted_of
  root_is Skip bytes spells = refl
  root_is (Header version) bytes spells = refl
  root_is (Thread name) bytes spells = ap (λ b. (b ++ codes "\n") ∷ []) (spells refl)
  root_is (Object name kind) bytes spells = refl
  root_is (Event event) bytes spells = refl

  object_is : (item : Line) (bytes : List ℕ) → Spells bytes item → text_if (tells_object (accepted_of kinds before item)) bytes ≡ map line_text (filter is_declaration (item ∷ []))
  unfolding accepted_of
  object_is Skip bytes spells = refl
  object_is (Header version) bytes spells = refl
  object_is (Thread name) bytes spells = refl
  object_is (Object name kind) bytes spells = ap (λ b. (b ++ codes "\n") ∷ []) (spells refl)
  object_is (Event event) bytes spells = refl

  text_is : (item : Line) (bytes : List ℕ) → Spells bytes item → text_if (tells_event (accepted_of kinds before item)) bytes ≡ map line_text (filter is_event (item ∷ []))
  unfolding accepted_of
  text_is Skip bytes spells = refl
  text_is (Header version) bytes spells = refl
  text_is (Thread name) bytes spells = refl
  text_is (Object name kind) bytes spells = refl
  text_is (Event event) bytes spells = ap (λ b. (b ++ codes "\n") ∷ []) (spells refl)

-- ---- one line more

-- the texts of those that pass, and of one more
texts_more : (test : Line → Bool) (lines : List Line) (item : Line) (old new told : List (List ℕ)) → old ≡ map line_text (filter test lines)
    → told ≡ map line_text (filter test (item ∷ [])) → new ≡ old ++ told → new ≡ map line_text (filter test (lines ++ item ∷ []))
texts_more test lines item old new told are is more =
    more
    ∙ ((λ i. are i ++ is i)
    ∙ sym (ap (map line_text) (filter-append test lines (item ∷ [])) ∙ map-append line_text (filter test lines) (filter test (item ∷ []))))

pub next_follower : {number : ℕ} (kinds : List Kind) (roster : Roster) (before : List Entry) (item : Line) (numbers : Accepted) → IsNextEntry kinds roster before number item numbers
    → IsFollower kinds (items before) item
next_follower kinds roster before item numbers next = record { limits = next.limits; usable = next.usable; follows = next.follows; few = next.few }

module _ (kinds : List Kind) (lines : List Line) (item : Line) (bytes : List ℕ) (old new : Kept) (keeps : KeepsLines kinds old lines) (next : IsFollower kinds lines item) where
  keeps_more : Spells bytes item → KeepsMore old new bytes (accepted_of kinds lines item) → KeepsLines kinds new (lines ++ item ∷ [])
  keeps_more spells more = record {
    follow = follow_more kinds [] lines item keeps.follow next;
    roots = texts_more is_root lines item old.roots new.roots _ keeps.roots (root_is kinds lines item bytes spells) more.roots;
    objects = texts_more is_declaration lines item old.objects new.objects _ keeps.objects (object_is kinds lines item bytes spells) more.objects;
    texts = texts_more is_event lines item old.lines new.lines _ keeps.texts (text_is kinds lines item bytes spells) more.texts;
  }

-- what is kept of entries and one more
pub keeps_entry : (kinds : List Kind) (before : List Entry) (entry : Entry) (bytes : List ℕ) (old new : Kept) (roster : Roster) (numbers : Accepted) → KeepsLines kinds old (items before)
    → IsNextEntry kinds roster before entry.number entry.item numbers → Spells bytes entry.item → KeepsMore old new bytes numbers → KeepsLines kinds new (items (before ++ entry ∷ []))
keeps_entry kinds before entry bytes old new roster numbers keeps next spells more =
    subst (KeepsLines kinds new) (sym (items_more before entry))
    (keeps_more kinds (items before) entry.item bytes old new keeps (next_follower kinds roster before entry.item numbers next) spells
    (subst (KeepsMore old new bytes) next.numbers more))

-- nothing more is kept of a line that is nothing
pub nothing_more : (now : Kept) (bytes : List ℕ) → KeepsMore now now bytes accepted.Nothing
nothing_more now bytes = record {
  roots = sym (append-nil now.roots);
  objects = sym (append-nil now.objects);
  texts = sym (append-nil now.lines);
}

-- of a line that is skipped nothing is asked
pub skip_spelled : (bytes : List ℕ) → Spells bytes Skip
skip_spelled bytes is = cc
