-- What is kept of the accepted lines. This project's profile.
use Rattle.std.specs.Prelude.{◌≡◌, ℕ, ◌<◌, ◌≤◌, Bool, true, false, if◌then◌else◌, List, [], ◌∷◌, ◌++◌, All, codes, filter, length, map}
use Rattle.rd_base.specs.Limits.{AreUsable}
use Rattle.rd_base.specs.declared.limits.Limits.{Limits}
use Rattle.rd_ecl.specs.Kinds.{Kind}
use Rattle.rd_event.specs.Items.{line_spelling, line_text}
use Rattle.rd_event.specs.declared.items.Line.{Line}
use Rattle.rd_rewriting.specs.declared.kept.Kept.{Kept}
use Rattle.rd_rewriting.specs.Reordered.{is_declaration}
use Rattle.rd_rules.specs.MayFollow.{MayFollow, is_event, is_root, is_skip, threads_of}
use Rattle.rd_wf.specs.Roster.{RosterStandsFor}
use Rattle.rd_rules.specs.declared.causes.Accepted.{Accepted}
use Rattle.rd_rules.specs.declared.causes.Accepted.TheVariants as accepted
use Rattle.rd_wf.specs.declared.roster.Roster.{Roster}

-- the line may follow those in front of it, within some usable limits, and their threads and its own fit 32 bits
pub record IsFollower (kinds : List Kind) (before : List Line) (line : Line) : Type 0 where
  pub limits : Limits
  pub usable : AreUsable limits
  pub follows : MayFollow kinds limits before line
  pub few : length (threads_of (before ++ line ∷ [])) ≤ 4294967295

-- behind other lines, so it is with each
abbrev pub FollowFrom : List Kind → List Line → List Line → Type 0
FollowFrom kinds before [] = Unit {0}
FollowFrom kinds before (line ∷ lines) = IsFollower kinds before line × FollowFrom kinds (before ++ line ∷ []) lines

-- The lines of the roots, of the objects and of the events among these are kept, each with its line feed. Each of the lines may follow those in
-- front of it.
pub record KeepsLines (kinds : List Kind) (now : Kept) (lines : List Line) : Type 0 where
  pub follow : FollowFrom kinds [] lines
  pub roots : now.roots ≡ map line_text (filter is_root lines)
  pub objects : now.objects ≡ map line_text (filter is_declaration lines)
  pub texts : now.lines ≡ map line_text (filter is_event lines)

-- nothing is kept
pub record KeepsNothing (start : Kept) : Type 0 where
  pub no_root : start.roots ≡ []
  pub no_object : start.objects ≡ []
  pub no_text : start.lines ≡ []

-- ---- one line more

-- what is asked of the bytes of a line that isn't skipped: that they are its spelling
abbrev pub Spells : List ℕ → Line → Type 0
Spells bytes item = is_skip item ≡ false → bytes ≡ line_spelling item

-- what the line is in numbers: a root, an object or an event
abbrev pub tells_root : Accepted → Bool
tells_root (accepted.Root thread) = true
tells_root _ = false

abbrev pub tells_object : Accepted → Bool
tells_object (accepted.Object object kind) = true
tells_object _ = false

abbrev pub tells_event : Accepted → Bool
tells_event (accepted.Event event) = true
tells_event _ = false

-- the line with these bytes, with its line feed, where it is one
abbrev pub text_if : Bool → List ℕ → List (List ℕ)
text_if is bytes = if is then (bytes ++ codes "\n") ∷ [] else []

-- the line with these bytes, which is this in numbers, is kept too
pub record KeepsMore (old new : Kept) (bytes : List ℕ) (numbers : Accepted) : Type 0 where
  pub roots : new.roots ≡ old.roots ++ text_if (tells_root numbers) bytes
  pub objects : new.objects ≡ old.objects ++ text_if (tells_object numbers) bytes
  pub texts : new.lines ≡ old.lines ++ text_if (tells_event numbers) bytes

-- ---- writing

-- what is kept is of these lines, and the roster stands for them
pub record KeepsNamed (kinds : List Kind) (now : Kept) (names : Roster) (lines : List Line) : Type 0 where
  pub keeps : KeepsLines kinds now lines
  pub stands : RosterStandsFor kinds names lines

-- these are places of events
abbrev pub ArePlaces : Kept → List ℕ → Type 0
ArePlaces now places = All (λ place. place < length now.lines) places
