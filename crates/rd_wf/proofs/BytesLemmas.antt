-- A line that is taken by its bytes.
use Rattle.std.proofs.Common.{◌≡◌, ◌≢◌, ℕ, ◌==◌, ◌+◌, Bool, true, false, if◌then◌else◌, List, [], ◌∷◌, ◌++◌, length, Option, Some, None, Result, Ok, Err, codes, decimal, get_or, refl, sym, ap, subst, ◌∙◌, inl, inr, arith, true≢false}
use Rattle.std.specs.Prelude.{⊤, slice_get}
use Rattle.std.proofs.lemmas.Option.{none-some, same_Some}
use Rattle.std.specs.List.{before_first, after_first}
use Rattle.std.specs.Map.{lookup_key}
use Rattle.std.specs.Option.{option_and_then, option_map}
use Rattle.std.specs.Str.{bytes_eq}
use Rattle.std.specs.Cmp.Lexicographic.{bytes_decides}
use Rattle.std.proofs.lemmas.Bool.{eqb-true, false_from_ne_true}
use Rattle.rd_base.specs.Bytes.{is_space}
use Rattle.rd_base.specs.Names.{IsName, is_name}
use Rattle.rd_base.specs.declared.limits.Limits.{Limits}
use Rattle.rd_base.proofs.NameLemmas.{is_name_decides}
use Rattle.rd_ecl.specs.Kinds.{Kind}
use Rattle.rd_base.specs.declared.values.Value.{Value}
use Rattle.rd_event.specs.Items.{LineInRange, Says, is_skipped, slots_spelling, words_apart}
use Rattle.rd_event.specs.ReadingSlots.{slots_read}
use Rattle.rd_event.specs.Reading.{call_read, event_with, header_read, item_of, item_with, name_read, names_read, share_with}
use Rattle.rd_event.specs.declared.items.Line.{Line}
use Rattle.rd_event.specs.declared.items.Line.TheVariants.{Skip, Header, Thread, Object, Event}
use Rattle.rd_event.specs.declared.items.LineEvent.{LineEvent}
use Rattle.rd_event.specs.declared.items.LineEvent.TheVariants.{Fork, Join, Acquire, Release, Share, Unshare, Call}
use Rattle.rd_event.proofs.SlotLemmas.{slots_said}
use Rattle.rd_event.proofs.ReadingLemmas.{call_behind, call_keyword, found_said}
use Rattle.rd_event.proofs.WordLemmas.{name_found, name_refused, nothing_refused}
use Rattle.rd_rules.specs.MayFollow.{accepted_of, first_broken, same_name, version_of}
use Rattle.rd_rules.specs.declared.causes.Accepted.{Accepted}
use Rattle.rd_rules.specs.declared.causes.Accepted.TheVariants.{Nothing}
use Rattle.rd_rules.specs.declared.causes.WfRefused.TheVariants as wf
use Rattle.rd_wf.specs.Roster.{Accepts, AcceptsAs, BeginsWith, RosterStandsFor, TakesBytes, TakesCall, TakesNames}
use Rattle.rd_wf.specs.declared.roster.Roster.{Roster}
use Rattle.rd_rules.specs.declared.causes.BytesRefused.{BytesRefused}
use Rattle.rd_rules.specs.declared.causes.BytesRefused.TheVariants as refused
use Rattle.rd_wf.proofs.NextLemmas.{after_skip, err_memory, ok_few, ok_follows}
use Rattle.rd_wf.proofs.RangeLemmas.{ok_range}

-- ---- names in bytes

-- two names behind a keyword are read
pub names_at : (rest first second : List ℕ) → first ≡ before_first is_space rest → second ≡ after_first is_space rest
    → IsName first × IsName second → ◌≡◌ {A = Option (List ℕ × List ℕ)} (names_read rest) (Some (first, second))
unfolding names_read
names_at rest first second before after named =
    let one : name_read (before_first is_space rest) ≡ Some first = ap name_read (sym before) ∙ name_found first named.0 in
    let two : name_read (after_first is_space rest) ≡ Some second = ap name_read (sym after) ∙ name_found second named.1 in
    rw (one, two) refl

-- no second word, no names
none_second : (found : Option (List ℕ)) → ◌≡◌ {A = Option (List ℕ × List ℕ)} (option_and_then (λ first. option_map (λ second. (first, second)) None) found) None
none_second None = refl
none_second (Some first) = refl

pub no_names : (rest : List ℕ) → name_read (after_first is_space rest) ≡ None → names_read rest ≡ None
unfolding names_read
no_names rest none = rw none (none_second (name_read (before_first is_space rest)))

pub no_second : (rest : List ℕ) → after_first is_space rest ≡ [] → names_read rest ≡ None
no_second rest ends = no_names rest (ap name_read ends ∙ nothing_refused)

no_first : (rest : List ℕ) → name_read (before_first is_space rest) ≡ None → names_read rest ≡ None
unfolding names_read
no_first rest none = rw none refl

pub names_none : (rest first second : List ℕ) → first ≡ before_first is_space rest → second ≡ after_first is_space rest
    → ¬ (IsName first × IsName second) → names_read rest ≡ None
names_none rest first second before after none = by (is_name first) refl
  where
    by : (b : Bool) → is_name first ≡ b → names_read rest ≡ None
    by true e = no_names rest (ap name_read (sym after) ∙ name_refused second (λ named. none ((is_name_decides first).0 e, named)))
    by false e = no_first rest (ap name_read (sym before) ∙ name_refused first (λ named. true≢false (sym ((is_name_decides first).1 named) ∙ e)))

-- ---- the item of a line by its keyword

-- what is read behind the keywords that rd_event's lemmas leave out
mapped : (put : List ℕ × List ℕ → LineEvent) (found : Option (List ℕ × List ℕ)) → option_map (λ event. Event event) (option_map put found) ≡ option_map (λ names. Event (put names)) found
mapped put None = refl
mapped put (Some names) = refl

pub fork_behind : (version : ℕ) (bytes rest : List ℕ) → bytes ≡ codes "fork " ++ rest → item_of version bytes ≡ option_map (λ names. Event (Fork names.0 names.1)) (names_read rest)
unfolding item_of item_with event_with
fork_behind version bytes rest is = rw is (mapped (λ names. Fork names.0 names.1) (names_read rest))

pub thread_behind : (version : ℕ) (bytes rest : List ℕ) → bytes ≡ codes "thread " ++ rest → item_of version bytes ≡ option_map (λ name. Thread name) (name_read rest)
unfolding item_of item_with
thread_behind version bytes rest is = rw is refl

pub header_behind : (version : ℕ) (bytes rest : List ℕ) → bytes ≡ codes "rdtrace " ++ rest → item_of version bytes ≡ header_read rest
unfolding item_of item_with
header_behind version bytes rest is = rw is refl

pub share_behind : (version : ℕ) (bytes rest : List ℕ) → bytes ≡ codes "share " ++ rest → version ≡ 2 → item_of version bytes ≡ option_map (λ names. Event (Share names.0 names.1)) (names_read rest)
unfolding item_of item_with event_with share_with
share_behind version bytes rest is second = rw (is, second) (mapped (λ names. Share names.0 names.1) (names_read rest))

pub unshare_behind : (version : ℕ) (bytes rest : List ℕ) → bytes ≡ codes "unshare " ++ rest → version ≡ 2 → item_of version bytes ≡ option_map (λ names. Event (Unshare names.0 names.1)) (names_read rest)
unfolding item_of item_with event_with share_with
unshare_behind version bytes rest is second = rw (is, second) (mapped (λ names. Unshare names.0 names.1) (names_read rest))

-- a version that there isn't
pub no_version : (rest : List ℕ) → rest ≢ codes "1" → rest ≢ codes "2" → header_read rest ≡ None
no_version rest one two = rw (
  false_from_ne_true (bytes_eq rest (codes "1")) (λ e. one ((bytes_decides rest (codes "1")).0 e)),
  false_from_ne_true (bytes_eq rest (codes "2")) (λ e. two ((bytes_decides rest (codes "2")).0 e)),
) refl

share_not : (version : ℕ) (bytes rest : List ℕ) → bytes ≡ codes "share " ++ rest → (version == 2) ≡ false → item_of version bytes ≡ None
unfolding item_of item_with event_with
share_not version bytes rest is first = rw (is, first) refl

unshare_not : (version : ℕ) (bytes rest : List ℕ) → bytes ≡ codes "unshare " ++ rest → (version == 2) ≡ false → item_of version bytes ≡ None
unfolding item_of item_with event_with
unshare_not version bytes rest is first = rw (is, first) refl

-- ---- bytes that say none

-- the keyword of the lines that begin with a byte, of which two begin with that of the header
abbrev keyword_by : ℕ → Bool → List ℕ
keyword_by b header =
    if b == 99 then codes "call " else if b == 97 then codes "acquire " else if b == 106 then codes "join " else if b == 115 then codes "share "
    else if b == 117 then codes "unshare " else if b == 102 then codes "fork " else if b == 111 then codes "object " else if b == 116 then codes "thread "
    else if b == 114 then (if header then codes "rdtrace " else codes "release ") else (b + 1) ∷ []

abbrev is_header : Line → Bool
is_header (Header version) = true
is_header _ = false

-- a line that is not skipped begins with the keyword of its first byte
begun : (bytes : List ℕ) (b : ℕ) (rest : List ℕ) → bytes ≡ b ∷ rest → (c : ℕ) (header : Bool) (spelling more : List ℕ) → bytes ≡ spelling
    → spelling ≡ keyword_by c header ++ more → get_or spelling 0 0 ≡ c → (more : List ℕ) × (bytes ≡ keyword_by b header ++ more)
begun bytes b rest is c header spelling more says split first =
    let same : b ≡ c = ap (λ l. get_or l 0 0) (sym is ∙ says) ∙ first in
    (more, says ∙ split ∙ ap (λ n. keyword_by n header ++ more) (sym same))

spelled : (version : ℕ) (bytes : List ℕ) (item : Line) → LineInRange item × Says version bytes item → (b : ℕ) (rest : List ℕ) → bytes ≡ b ∷ rest → b ≢ 35
    → (more : List ℕ) × (bytes ≡ keyword_by b (is_header item) ++ more)
spelled version bytes Skip said b rest is other = absurd (other (eqb-true b 35 (subst (λ l. is_skipped l ≡ true) is said.1)))
spelled version bytes (Header number) said b rest is other = begun bytes b rest is 114 true _ (decimal number) said.1 refl refl
spelled version bytes (Thread name) said b rest is other = begun bytes b rest is 116 false _ name said.1 refl refl
spelled version bytes (Object name kind) said b rest is other = begun bytes b rest is 111 false _ (words_apart name kind) said.1 refl refl
spelled version bytes (Event (Fork thread child)) said b rest is other = begun bytes b rest is 102 false _ (words_apart thread child) said.1.1 refl refl
spelled version bytes (Event (Join thread child)) said b rest is other = begun bytes b rest is 106 false _ (words_apart thread child) said.1.1 refl refl
spelled version bytes (Event (Acquire thread lock)) said b rest is other = begun bytes b rest is 97 false _ (words_apart thread lock) said.1.1 refl refl
spelled version bytes (Event (Release thread lock)) said b rest is other = begun bytes b rest is 114 false _ (words_apart thread lock) said.1.1 refl refl
spelled version bytes (Event (Share thread lock)) said b rest is other = begun bytes b rest is 115 false _ (words_apart thread lock) said.1.1 refl refl
spelled version bytes (Event (Unshare thread lock)) said b rest is other = begun bytes b rest is 117 false _ (words_apart thread lock) said.1.1 refl refl
spelled version bytes (Event (Call thread object method slots)) said b rest is other =
    begun bytes b rest is 99 false _ (words_apart thread (words_apart object (words_apart method (slots_spelling slots)))) said.1.1 refl refl

-- so bytes say none that begin with no such keyword
pub none_by : (version : ℕ) (bytes : List ℕ) (b : ℕ) (rest : List ℕ) → bytes ≡ b ∷ rest → b ≢ 35
    → ((header : Bool) (more : List ℕ) → bytes ≡ keyword_by b header ++ more → item_of version bytes ≡ None) → item_of version bytes ≡ None
none_by version bytes b rest is other none = by (item_of version bytes) refl
  where
    by : (found : Option Line) → item_of version bytes ≡ found → item_of version bytes ≡ None
    by None e = e
    by (Some item) e = let more = spelled version bytes item (found_said version bytes item e) b rest is other in none (is_header item) more.0 more.1

-- those of one sort that don't begin with its keyword
module _ (version : ℕ) (bytes : List ℕ) where
  pub no_call : BeginsWith 99 bytes → ((rest : List ℕ) → bytes ≢ codes "call " ++ rest) → item_of version bytes ≡ None
  no_call begins other = none_by version bytes 99 begins.0 begins.1 (λ e. omega (arith, e)) (λ header more is. absurd (other more is))

  pub no_acquire : BeginsWith 97 bytes → ((rest : List ℕ) → bytes ≢ codes "acquire " ++ rest) → item_of version bytes ≡ None
  no_acquire begins other = none_by version bytes 97 begins.0 begins.1 (λ e. omega (arith, e)) (λ header more is. absurd (other more is))

  pub no_join : BeginsWith 106 bytes → ((rest : List ℕ) → bytes ≢ codes "join " ++ rest) → item_of version bytes ≡ None
  no_join begins other = none_by version bytes 106 begins.0 begins.1 (λ e. omega (arith, e)) (λ header more is. absurd (other more is))

  pub no_fork : BeginsWith 102 bytes → ((rest : List ℕ) → bytes ≢ codes "fork " ++ rest) → item_of version bytes ≡ None
  no_fork begins other = none_by version bytes 102 begins.0 begins.1 (λ e. omega (arith, e)) (λ header more is. absurd (other more is))

  pub no_object : BeginsWith 111 bytes → ((rest : List ℕ) → bytes ≢ codes "object " ++ rest) → item_of version bytes ≡ None
  no_object begins other = none_by version bytes 111 begins.0 begins.1 (λ e. omega (arith, e)) (λ header more is. absurd (other more is))

  pub no_thread : BeginsWith 116 bytes → ((rest : List ℕ) → bytes ≢ codes "thread " ++ rest) → item_of version bytes ≡ None
  no_thread begins other = none_by version bytes 116 begins.0 begins.1 (λ e. omega (arith, e)) (λ header more is. absurd (other more is))

  pub no_share : BeginsWith 115 bytes → ((rest : List ℕ) → bytes ≢ codes "share " ++ rest) → item_of version bytes ≡ None
  no_share begins other = none_by version bytes 115 begins.0 begins.1 (λ e. omega (arith, e)) (λ header more is. absurd (other more is))

  pub no_unshare : BeginsWith 117 bytes → ((rest : List ℕ) → bytes ≢ codes "unshare " ++ rest) → item_of version bytes ≡ None
  no_unshare begins other = none_by version bytes 117 begins.0 begins.1 (λ e. omega (arith, e)) (λ header more is. absurd (other more is))

  pub no_release : BeginsWith 114 bytes → ((rest : List ℕ) → bytes ≢ codes "release " ++ rest) → ((rest : List ℕ) → bytes ≢ codes "rdtrace " ++ rest) → item_of version bytes ≡ None
  no_release begins other headless = none_by version bytes 114 begins.0 begins.1 (λ e. omega (arith, e)) by
    where
      by : (header : Bool) (more : List ℕ) → bytes ≡ keyword_by 114 header ++ more → item_of version bytes ≡ None
      by true more is = absurd (headless more is)
      by false more is = absurd (other more is)

  -- shares in version 1
  pub first_share : BeginsWith 115 bytes → version ≢ 2 → item_of version bytes ≡ None
  first_share begins first = none_by version bytes 115 begins.0 begins.1 (λ e. omega (arith, e)) (λ header more is. share_not version bytes more is (false_from_ne_true _ (λ e. first (eqb-true version 2 e))))

  pub first_unshare : BeginsWith 117 bytes → version ≢ 2 → item_of version bytes ≡ None
  first_unshare begins first = none_by version bytes 117 begins.0 begins.1 (λ e. omega (arith, e)) (λ header more is. unshare_not version bytes more is (false_from_ne_true _ (λ e. first (eqb-true version 2 e))))

-- those that begin with no byte of any sort
module _ (b : ℕ) (call : b ≢ 99) (acquire : b ≢ 97) (release : b ≢ 114) (join : b ≢ 106) (share : b ≢ 115) (unshare : b ≢ 117) (fork : b ≢ 102) (object : b ≢ 111) (thread : b ≢ 116) where
  apart : (c : ℕ) → b ≢ c → (b == c) ≡ false
  apart c other = false_from_ne_true _ (λ e. other (eqb-true b c e))

  keyword_other : (header : Bool) → keyword_by b header ≡ (b + 1) ∷ []
  keyword_other header = rw (
    apart 99 call,
    apart 97 acquire,
    apart 106 join,
    apart 115 share,
    apart 117 unshare,
    apart 102 fork,
    apart 111 object,
    apart 116 thread,
    apart 114 release,
  ) refl

  pub no_keyword : (version : ℕ) (bytes rest : List ℕ) → bytes ≡ b ∷ rest → b ≢ 35 → item_of version bytes ≡ None
  no_keyword version bytes rest is other = none_by version bytes b rest is other (λ header more says.
      let same : b ≡ b + 1 = ap (λ l. get_or l 0 0) (sym is ∙ says ∙ ap (λ keyword. keyword ++ more) (keyword_other header)) in absurd (omega (arith, same)))

-- the first byte
pub first_is : (bytes : List ℕ) (b : ℕ) → Some b ≡ slice_get bytes 0 → (rest : List ℕ) × (bytes ≡ b ∷ rest)
first_is [] b none = absurd (none-some b (sym none))
first_is (x ∷ rest) b is = (rest, ap (λ n. n ∷ rest) (same_Some x b (sym is)))

pub nothing_skipped : (bytes : List ℕ) → None ≡ slice_get bytes 0 → is_skipped bytes ≡ true
nothing_skipped [] none = refl
nothing_skipped (x ∷ rest) none = absurd (none-some x none)

-- ---- a line that is taken

-- what is accepted is accepted as the item that the bytes say
accepts_in : (old new : Roster) (limits : Limits) (bytes : List ℕ) (line : Line) (numbers : Accepted) → Accepts old new limits line numbers
    → (kinds : List Kind) (lines : List Line) → RosterStandsFor kinds old lines
    → item_of (version_of lines) bytes ≡ Some line → AcceptsAs kinds limits lines bytes line numbers new
accepts_in old new limits bytes line numbers accepts kinds lines stands says =
    let told = accepts kinds lines stands in record {
      says = says;
      unbroken = told.0;
      follows = ok_follows old new limits line (Ok numbers) accepts kinds lines stands;
      numbers = told.1;
      range = ok_range old new limits line (Ok numbers) accepts kinds lines stands (found_said (version_of lines) bytes line says).0;
      stands = told.2;
      few = ok_few old new limits line (Ok numbers) accepts (omega (arith, new.few_threads)) kinds lines stands;
    }

-- a line that is skipped
pub skip_taken : (kinds : List Kind) (limits : Limits) (lines : List Line) (bytes : List ℕ) (roster : Roster) → RosterStandsFor kinds roster lines → is_skipped bytes ≡ true
    → (item : Line) × AcceptsAs kinds limits lines bytes item Nothing roster
unfolding item_of accepted_of first_broken
skip_taken kinds limits lines bytes roster stands skipped = (
  Skip,
  accepts_in roster roster limits bytes Skip Nothing (λ kinds lines stands. (refl, refl, after_skip kinds roster roster lines stands refl refl refl refl refl refl refl)) kinds lines stands (rw skipped refl),
)

module _ (Z : Type 0) (kinds : List Kind) (limits : Limits) (lines : List Line) (bytes : List ℕ) (old new : Roster) (stands : RosterStandsFor kinds old lines) where
  -- by its names
  pub line_taken : (complete : Bool) → (Z → complete ≡ true) → (named : Type 0) (line : Line) → (named → item_of (version_of lines) bytes ≡ Some line) → (¬ named → item_of (version_of lines) bytes ≡ None)
      → (result : Result Accepted BytesRefused) → TakesNames complete named old new limits line result
      → TakesBytes Z kinds limits lines bytes old new result
  line_taken complete known named line said unsaid (Ok accepted) taken = (line, accepts_in old new limits bytes line accepted taken.1 kinds lines stands (said taken.0))
  line_taken complete known named line said unsaid (Err refused.BadLine) taken = ((λ z. unsaid (taken.0 (known z))), taken.1)
  line_taken complete known named line said unsaid (Err (refused.Cause cause)) taken = (line, said taken.0, taken.1.0 kinds lines stands, taken.1.1)
  line_taken complete known named line said unsaid (Err refused.NoMemory) taken =
      (line, said taken.0, inr (err_memory old new limits line (Err wf.NoMemory) taken.1 refl kinds lines stands).0, (taken.1 kinds lines stands).2)

  -- by two names that stand behind its keyword
  pub pair_taken : (complete : Bool) → (Z → complete ≡ true) → (rest first second : List ℕ) (make : List ℕ × List ℕ → Line) → first ≡ before_first is_space rest → second ≡ after_first is_space rest
      → item_of (version_of lines) bytes ≡ option_map make (names_read rest)
      → (result : Result Accepted BytesRefused) → TakesNames complete (IsName first × IsName second) old new limits (make (first, second)) result
      → TakesBytes Z kinds limits lines bytes old new result
  pair_taken complete known rest first second make before after says =
      line_taken complete known (IsName first × IsName second) (make (first, second))
      (λ named. says ∙ ap (option_map make) (names_at rest first second before after named))
      (λ none. says ∙ ap (option_map make) (names_none rest first second before after none))

  -- a call
  pub call_taken : (complete : Bool) → (Z → complete ≡ true) → (rest : List ℕ) → bytes ≡ codes "call " ++ rest
      → (result : Result Accepted BytesRefused) → TakesCall complete rest old new limits result
      → TakesBytes Z kinds limits lines bytes old new result
  call_taken complete known rest is (Ok accepted) (event, read, accepts) = (Event event, accepts_in old new limits bytes (Event event) accepted accepts kinds lines stands (said event read))
    where
      said : (event : LineEvent) → call_read rest ≡ Some event → item_of (version_of lines) bytes ≡ Some (Event event)
      said event read = call_behind (version_of lines) bytes rest is ∙ ap (option_map (λ event. Event event)) read
  call_taken complete known rest is (Err refused.BadLine) taken =
      ((λ z. call_behind (version_of lines) bytes rest is ∙ ap (option_map (λ event. Event event)) (taken.0 (known z))), taken.1)
  call_taken complete known rest is (Err (refused.Cause cause)) (event, read, refuses) =
      (Event event, call_behind (version_of lines) bytes rest is ∙ ap (option_map (λ event. Event event)) read, refuses.0 kinds lines stands, refuses.1)
  call_taken complete known rest is (Err refused.NoMemory) (event, read, same) = (
    Event event,
    call_behind (version_of lines) bytes rest is ∙ ap (option_map (λ event. Event event)) read,
    inl (call_keyword bytes rest is),
    subst (λ roster. RosterStandsFor kinds roster lines) (sym same) stands,
  )

-- an answer that says less
pub taken_where : (Y Z : Type 0) (kinds : List Kind) (limits : Limits) (lines : List Line) (bytes : List ℕ) (old new : Roster) → (Z → Y) → (result : Result Accepted BytesRefused)
    → TakesBytes Y kinds limits lines bytes old new result → TakesBytes Z kinds limits lines bytes old new result
taken_where Y Z kinds limits lines bytes old new less (Ok accepted) taken = taken
taken_where Y Z kinds limits lines bytes old new less (Err refused.BadLine) taken = ((λ z. taken.0 (less z)), taken.1)
taken_where Y Z kinds limits lines bytes old new less (Err (refused.Cause cause)) taken = taken
taken_where Y Z kinds limits lines bytes old new less (Err refused.NoMemory) taken = taken

-- a line whose words are known to be names
pub taken_named : (named : Type 0) → named → (old new : Roster) (limits : Limits) (line : Line) (result : Result Accepted BytesRefused)
    → TakesNames true named old new limits line result → TakesNames true ⊤ old new limits line result
taken_named named are old new limits line (Ok accepted) taken = (tt, taken.1)
taken_named named are old new limits line (Err refused.BadLine) taken = absurd (taken.0 refl are)
taken_named named are old new limits line (Err (refused.Cause cause)) taken = (tt, taken.1)
taken_named named are old new limits line (Err refused.NoMemory) taken = (tt, taken.1)

-- ---- the words of a call

abbrev called : Option (List ℕ) → Option (List ℕ) → Option (List ℕ) → Option (List Value) → Option LineEvent
called thread object method values =
    option_and_then (λ thread. option_and_then (λ object. option_and_then (λ method. option_map (λ slots. Call thread object method slots) values) method) object) thread

no_object_called : (thread method : Option (List ℕ)) (values : Option (List Value)) → called thread None method values ≡ None
no_object_called None method values = refl
no_object_called (Some thread) method values = refl

no_method_called : (thread object : Option (List ℕ)) (values : Option (List Value)) → called thread object None values ≡ None
no_method_called None object values = refl
no_method_called (Some thread) None values = refl
no_method_called (Some thread) (Some object) values = refl

no_values_called : (thread object method : Option (List ℕ)) → called thread object method None ≡ None
no_values_called None object method = refl
no_values_called (Some thread) None method = refl
no_values_called (Some thread) (Some object) None = refl
no_values_called (Some thread) (Some object) (Some method) = refl

no_slots : slots_read 7 [] ≡ None
no_slots = by (slots_read 7 []) refl
  where
    by : (found : Option (List Value)) → slots_read 7 [] ≡ found → slots_read 7 [] ≡ None
    by None e = e
    by (Some slots) e = let said = slots_said [] slots e in absurd (omega (arith, said.2, ap length said.1))

module _ (words thread names object rest method values : List ℕ) (is_thread : thread ≡ before_first is_space words) (is_names : names ≡ after_first is_space words) where
  -- what is read of the words, whatever they are
  spread : call_read words ≡ called (name_read (before_first is_space words)) (name_read (before_first is_space (after_first is_space words)))
      (name_read (before_first is_space (after_first is_space (after_first is_space words)))) (slots_read 7 (after_first is_space (after_first is_space (after_first is_space words))))
  unfolding call_read
  spread = refl

  pub no_words : after_first is_space words ≡ [] → call_read words ≡ None
  no_words none =
      spread
      ∙ ap (λ object. called (name_read (before_first is_space words)) object (name_read (before_first is_space (after_first is_space (after_first is_space words))))
      (slots_read 7 (after_first is_space (after_first is_space (after_first is_space words))))) (ap (λ l. name_read (before_first is_space l)) none ∙ nothing_refused)
      ∙ no_object_called (name_read (before_first is_space words)) (name_read (before_first is_space (after_first is_space (after_first is_space words))))
      (slots_read 7 (after_first is_space (after_first is_space (after_first is_space words))))

  pub no_more_words : after_first is_space names ≡ [] → call_read words ≡ None
  no_more_words none =
      let ends : after_first is_space (after_first is_space words) ≡ [] = ap (after_first is_space) (sym is_names) ∙ none in
      spread
      ∙ ap (λ method. called (name_read (before_first is_space words)) (name_read (before_first is_space (after_first is_space words))) method
      (slots_read 7 (after_first is_space (after_first is_space (after_first is_space words))))) (ap (λ l. name_read (before_first is_space l)) ends ∙ nothing_refused)
      ∙ no_method_called (name_read (before_first is_space words)) (name_read (before_first is_space (after_first is_space words)))
      (slots_read 7 (after_first is_space (after_first is_space (after_first is_space words))))

  module _ (is_object : object ≡ before_first is_space names) (is_rest : rest ≡ after_first is_space names) where
    pub no_values : after_first is_space rest ≡ [] → call_read words ≡ None
    no_values none =
        let ends : after_first is_space (after_first is_space (after_first is_space words)) ≡ [] =
        ap (λ names. after_first is_space (after_first is_space names)) (sym is_names) ∙ ap (after_first is_space) (sym is_rest) ∙ none in
        spread ∙ ap (called (name_read (before_first is_space words)) (name_read (before_first is_space (after_first is_space words)))
        (name_read (before_first is_space (after_first is_space (after_first is_space words))))) (ap (slots_read 7) ends ∙ no_slots)
        ∙ no_values_called (name_read (before_first is_space words)) (name_read (before_first is_space (after_first is_space words)))
        (name_read (before_first is_space (after_first is_space (after_first is_space words))))

    module _ (is_method : method ≡ before_first is_space rest) (is_values : values ≡ after_first is_space rest) where
      parts : call_read words ≡ called (name_read thread) (name_read object) (name_read method) (slots_read 7 values)
      parts =
          let rest_is : rest ≡ after_first is_space (after_first is_space words) = is_rest ∙ ap (after_first is_space) is_names in
          let object_is : object ≡ before_first is_space (after_first is_space words) = is_object ∙ ap (before_first is_space) is_names in
          let method_is : method ≡ before_first is_space (after_first is_space (after_first is_space words)) = is_method ∙ ap (before_first is_space) rest_is in
          let values_are : values ≡ after_first is_space (after_first is_space (after_first is_space words)) = is_values ∙ ap (after_first is_space) rest_is in
          spread ∙ (λ i. called (name_read (sym is_thread i)) (name_read (sym object_is i)) (name_read (sym method_is i)) (slots_read 7 (sym values_are i)))

      pub call_says : IsName thread × IsName object × IsName method → call_read words ≡ option_map (λ slots. Call thread object method slots) (slots_read 7 values)
      call_says named = parts ∙ (λ i. called (name_found thread named.0 i) (name_found object named.1 i) (name_found method named.2 i) (slots_read 7 values))

      pub call_unnamed : ¬ (IsName thread × IsName object × IsName method) → call_read words ≡ None
      call_unnamed none = parts ∙ by (is_name thread) (is_name object) (is_name method) refl refl refl
        where
          unnamed : (name : List ℕ) → is_name name ≡ false → name_read name ≡ None
          unnamed name e = name_refused name (λ named. true≢false (sym ((is_name_decides name).1 named) ∙ e))

          by : (a b c : Bool) → is_name thread ≡ a → is_name object ≡ b → is_name method ≡ c → called (name_read thread) (name_read object) (name_read method) (slots_read 7 values) ≡ None
          by false b c one two three = ap (λ thread. called thread (name_read object) (name_read method) (slots_read 7 values)) (unnamed thread one)
          by true false c one two three = ap (λ object. called (name_read thread) object (name_read method) (slots_read 7 values)) (unnamed object two) ∙ no_object_called (name_read thread) (name_read method) (slots_read 7 values)
          by true true false one two three = ap (λ method. called (name_read thread) (name_read object) method (slots_read 7 values)) (unnamed method three) ∙ no_method_called (name_read thread) (name_read object) (slots_read 7 values)
          by true true true one two three = absurd (none ((is_name_decides thread).0 one, (is_name_decides object).0 two, (is_name_decides method).0 three))

      pub call_worthless : slots_read 7 values ≡ None → call_read words ≡ None
      call_worthless none = parts ∙ ap (called (name_read thread) (name_read object) (name_read method)) none ∙ no_values_called (name_read thread) (name_read object) (name_read method)

-- what hangs on no name hangs on one that is one
pub named_too : (named : Type 0) → named → (old new : Roster) (limits : Limits) (line : Line) (result : Result Accepted BytesRefused)
    → TakesNames true ⊤ old new limits line result → TakesNames true named old new limits line result
named_too named is old new limits line (Ok accepted) takes = (is, takes.1)
named_too named is old new limits line (Err refused.BadLine) takes = absurd (takes.0 refl tt)
named_too named is old new limits line (Err (refused.Cause cause)) takes = (is, takes.1)
named_too named is old new limits line (Err refused.NoMemory) takes = (is, takes.1)

-- what hangs on one name hangs on two, of which the second is one
pub also_named : (named also : Type 0) → also → (old new : Roster) (limits : Limits) (line : Line) (result : Result Accepted BytesRefused)
    → TakesNames true named old new limits line result → TakesNames true (named × also) old new limits line result
also_named named also is old new limits line (Ok accepted) takes = ((takes.0, is), takes.1)
also_named named also is old new limits line (Err refused.BadLine) takes = (λ yes both. takes.0 yes both.0, takes.1)
also_named named also is old new limits line (Err (refused.Cause cause)) takes = ((takes.0, is), takes.1)
also_named named also is old new limits line (Err refused.NoMemory) takes = ((takes.0, is), takes.1)

-- the key that a look-up finds is the name
pub key_is : {X : Type 0} (name : List ℕ) (entries : List (List ℕ × X)) (known : List ℕ) → Some known ≡ lookup_key (same_name name) entries → known ≡ name
key_is name [] known is = absurd (none-some known (sym is))
key_is name (e ∷ entries) known is = by (key_is name entries known) (same_name name e.0) refl is
  where
    by : (Some known ≡ lookup_key (same_name name) entries → known ≡ name) → (b : Bool) → same_name name e.0 ≡ b
        → Some known ≡ (if b then Some e.0 else lookup_key (same_name name) entries) → known ≡ name
    by rest true same is = same_Some known e.0 is ∙ sym ((bytes_decides name e.0).0 same)
    by rest false same is = rest is
