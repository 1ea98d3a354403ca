-- `log_line_of` finds a line exactly where the bytes say it.
use Rattle.std.proofs.Common.{◌≡◌, ◌≢◌, ℕ, ◌<◌, ◌≤◌, ◌==◌, Bool, true, false, if◌then◌else◌, List, [], ◌∷◌, ◌++◌, length, take, drop, get_or, refl, sym, ◌∙◌, ap, arith, codes, decimal, Option, Some, None, IfSome, IfOk, IfErr, Result, Ok, Err, length-append}
use Rattle.std.specs.Prelude.{⊤}
use Rattle.std.specs.List.{before_first, after_first}
use Rattle.std.specs.Option.{option_map, option_and_then}
use Rattle.std.specs.Str.{bytes_eq}
use Rattle.std.specs.Cmp.Lexicographic.{bytes_decides}
use Rattle.std.proofs.lemmas.Option.{same_Some, none-some, MatchOption-at_some}
use Rattle.std.proofs.lemmas.Bool.{eqb-true, false_from_ne_true, true≢false}
use Rattle.std.proofs.lemmas.Bool.Decides.{Decides-eqb}
use Rattle.std.proofs.lemmas.Fmt.{decimal_nonempty}
use Rattle.std.proofs.lemmas.List.{take-append-drop}
use Rattle.std.proofs.lemmas.Slice.Eq.{bytes_eq-Decides}
use Rattle.rd_base.specs.Bytes.{is_space}
use Rattle.rd_base.specs.Names.{IsName}
use Rattle.rd_base.specs.declared.values.Value.{Value}
use Rattle.rd_base.proofs.FoundLemmas.{if_some, map_found, map_some, then_found}
use Rattle.rd_decimals.proofs.DecimalLemmas.{number_found, number_said}
use Rattle.rd_decimals.specs.Decimals.{number_read}
use Rattle.rd_event.specs.declared.items.LineEvent.{LineEvent}
use Rattle.rd_event.specs.declared.items.LineEvent.TheVariants as event
use Rattle.rd_event.specs.Items.{is_skipped, slots_spelling, words_apart}
use Rattle.rd_event.specs.Reading.{call_read, name_read, names_read}
use Rattle.rd_event.specs.ReadingSlots.{slots_read}
use Rattle.rd_event.proofs.CallLemmas.{CallSaid, call_found, call_said}
use Rattle.rd_event.proofs.SlotLemmas.{slots_said}
use Rattle.rd_event.proofs.WordLemmas.{NameSaid, NamesSaid, after_space, before_space, cut_joined, name_found, name_is, name_said, names_found, names_said, nothing_refused}
use Rattle.rd_event.specs.declared.reading.LineRefused.{LineRefused}
use Rattle.rd_event.specs.declared.reading.LineRefused.TheVariants.{BadLine}
use Rattle.rd_logs.specs.declared.lines.LogLine.{LogLine}
use Rattle.rd_logs.specs.declared.lines.LogLine.TheVariants.{Skip, Object, Event, Acquire}
use Rattle.rd_logs.specs.LogLines.{LogLineInRange, SaysInLog, acquire_read, header_spelling, log_header_of, log_line_of, log_line_with, log_spelling, most_acquires, some_number}

-- ---- what is found is said

-- of a line with this keyword, and these bytes behind its space
abbrev LineSaid : List ℕ → List ℕ → List ℕ → LogLine → Type 0
LineSaid thread keyword rest line = LogLineInRange thread line × (keyword ++ 32 ∷ rest ≡ log_spelling line) × (0 < length rest)

with_keyword : (keyword text rest shown : List ℕ) → bytes_eq keyword text ≡ true → rest ≡ shown → keyword ++ 32 ∷ rest ≡ text ++ 32 ∷ shown
with_keyword keyword text rest shown same is = ap (λ word. word ++ 32 ∷ rest) ((bytes_decides keyword text).0 same) ∙ ap (λ bytes. text ++ 32 ∷ bytes) is

named_some : (name bytes : List ℕ) → IsName name → name ≡ bytes → 0 < length bytes
named_some name bytes named is = let some = named.some in omega (arith, some, ap length is)

object_said : (thread keyword rest : List ℕ) → bytes_eq keyword (codes "object") ≡ true
    → IfSome (option_map (λ (names : List ℕ × List ℕ). Object names.0 names.1) (names_read rest)) (LineSaid thread keyword rest)
object_said thread keyword rest same =
    map_some (NamesSaid rest) (LineSaid thread keyword rest) (λ names. Object names.0 names.1) (names_read rest) (names_said rest) (λ names said. (
      said.0,
      with_keyword keyword (codes "object") rest (words_apart names.0 names.1) same (sym said.1),
      omega (arith, length-append names.0 (32 ∷ names.1), ap length said.1),
    ))

fork_said : (thread keyword rest : List ℕ) → IsName thread → bytes_eq keyword (codes "fork") ≡ true
    → IfSome (option_map (λ child. Event (event.Fork thread child)) (name_read rest)) (LineSaid thread keyword rest)
fork_said thread keyword rest named same =
    map_some (NameSaid rest) (LineSaid thread keyword rest) (λ child. Event (event.Fork thread child)) (name_read rest) (name_said rest)
    (λ child said. ((refl, (named, said.0), refl), with_keyword keyword (codes "fork") rest child same (sym said.1), named_some child rest said.0 said.1))

join_said : (thread keyword rest : List ℕ) → IsName thread → bytes_eq keyword (codes "join") ≡ true
    → IfSome (option_map (λ child. Event (event.Join thread child)) (name_read rest)) (LineSaid thread keyword rest)
join_said thread keyword rest named same =
    map_some (NameSaid rest) (LineSaid thread keyword rest) (λ child. Event (event.Join thread child)) (name_read rest) (name_said rest)
    (λ child said. ((refl, (named, said.0), refl), with_keyword keyword (codes "join") rest child same (sym said.1), named_some child rest said.0 said.1))

release_said : (thread keyword rest : List ℕ) → IsName thread → bytes_eq keyword (codes "release") ≡ true
    → IfSome (option_map (λ lock. Event (event.Release thread lock)) (name_read rest)) (LineSaid thread keyword rest)
release_said thread keyword rest named same =
    map_some (NameSaid rest) (LineSaid thread keyword rest) (λ lock. Event (event.Release thread lock)) (name_read rest) (name_said rest)
    (λ lock said. ((refl, (named, said.0), refl), with_keyword keyword (codes "release") rest lock same (sym said.1), named_some lock rest said.0 said.1))

other_number : (n m : ℕ) → (n == m) ≡ false → n ≢ m
other_number n m apart same = true≢false (sym ((Decides-eqb n m).1 same) ∙ apart)

-- a number that isn't 0
some_number_is : (n number : ℕ) → some_number n ≡ Some number → (1 ≤ number) × (n ≡ number)
some_number_is n number is = by (n == 0) refl is
  where
    by : (b : Bool) → (n == 0) ≡ b → (if b then None else Some n) ≡ Some number → (1 ≤ number) × (n ≡ number)
    by true none is = absurd (none-some number is)
    by false some is = let same = same_Some n number is in (omega (arith, same, other_number n 0 some), same)

acquire_said : (thread keyword rest : List ℕ) → bytes_eq keyword (codes "acquire") ≡ true → IfSome (acquire_read rest) (LineSaid thread keyword rest)
unfolding acquire_read
acquire_said thread keyword rest same =
    let Said : LogLine → Type 0 = LineSaid thread keyword rest in
    let behind = after_first is_space rest in
    then_found Said _ (name_read (before_first is_space rest)) (λ lock lock_found.
    map_found Said (λ number. Acquire lock number) (option_and_then some_number (number_read most_acquires behind)) (λ number number_is.
    let name = name_is _ lock lock_found in
    let (n, found, some) = both (number_read most_acquires behind) number number_is in
    let said = number_said most_acquires n behind found in
    let this = some_number_is n number some in
    let more : 0 < length behind = omega (arith, ap length said.1, decimal_nonempty n (omega (arith, said.0))) in
    let whole : rest ≡ words_apart lock (decimal number) = cut_joined rest more ∙ ap (λ word. word ++ 32 ∷ behind) (sym name.1) ∙ ap (λ bytes. lock ++ 32 ∷ bytes) (said.1 ∙ ap decimal this.1) in (
      (name.0, this.0, omega (arith, said.0, this.1)),
      with_keyword keyword (codes "acquire") rest (words_apart lock (decimal number)) same whole,
      omega (arith, ap length whole, length-append lock (32 ∷ decimal number)),
    )))
  where
    both : (found : Option ℕ) (number : ℕ) → option_and_then some_number found ≡ Some number → (n : ℕ) × (found ≡ Some n) × (some_number n ≡ Some number)
    both None number is = absurd (none-some number is)
    both (Some n) number is = (n, refl, is)

-- the call of a thread is one of it
own_call : (thread rest : List ℕ) → IsName thread → (call : LineEvent) → CallSaid (words_apart thread rest) call → LineSaid thread (codes "call") rest (Event call)
own_call thread rest named (event.Fork t child) said = absurd (let e = ap (λ l. get_or l 0 0) said.1 in omega (arith, e))
own_call thread rest named (event.Join t child) said = absurd (let e = ap (λ l. get_or l 0 0) said.1 in omega (arith, e))
own_call thread rest named (event.Acquire t lock) said = absurd (let e = ap (λ l. get_or l 0 0) said.1 in omega (arith, e))
own_call thread rest named (event.Release t lock) said = absurd (let e = ap (λ l. get_or l 0 0) said.1 in omega (arith, e))
own_call thread rest named (event.Share t lock) said = absurd (let e = ap (λ l. get_or l 0 0) said.1 in omega (arith, e))
own_call thread rest named (event.Unshare t lock) said = absurd (let e = ap (λ l. get_or l 0 0) said.1 in omega (arith, e))
own_call thread rest named (event.Call t object method slots) said =
    let words = words_apart object (words_apart method (slots_spelling slots)) in
    let texts : words_apart thread rest ≡ words_apart t words = ap (drop 5) said.1 in
    let first : t ≡ thread = sym (before_space t words said.0.0) ∙ ap (before_first is_space) (sym texts) ∙ before_space thread rest named in
    let behind : rest ≡ words = sym (after_space thread rest named) ∙ ap (after_first is_space) texts ∙ after_space t words said.0.0 in (
      (refl, said.0, first),
      ap (λ bytes. codes "call" ++ 32 ∷ bytes) behind,
      omega (arith, ap length behind, length-append object (32 ∷ words_apart method (slots_spelling slots))),
    )

call_line_said : (thread keyword rest : List ℕ) → IsName thread → bytes_eq keyword (codes "call") ≡ true
    → IfSome (option_map (λ call. Event call) (call_read (words_apart thread rest))) (LineSaid thread keyword rest)
call_line_said thread keyword rest named same =
    map_some (CallSaid (words_apart thread rest)) (LineSaid thread keyword rest) (λ call. Event call) (call_read (words_apart thread rest)) (call_said (words_apart thread rest))
    (λ call said. let own = own_call thread rest named call said in (own.0, ap (λ word. word ++ 32 ∷ rest) ((bytes_decides keyword (codes "call")).0 same) ∙ own.1, own.2))

with_said : (thread keyword rest : List ℕ) → IsName thread → IfSome (log_line_with thread keyword rest) (LineSaid thread keyword rest)
unfolding log_line_with
with_said thread keyword rest named =
    let Said : LogLine → Type 0 = LineSaid thread keyword rest in
    if_some Said _ _ _ (object_said thread keyword rest)
    (if_some Said _ _ _ (fork_said thread keyword rest named)
    (if_some Said _ _ _ (join_said thread keyword rest named)
    (if_some Said _ _ _ (release_said thread keyword rest named)
    (if_some Said _ _ _ (acquire_said thread keyword rest)
    (if_some Said _ _ _ (call_line_said thread keyword rest named) tt)))))

-- a line that isn't skipped says it by its spelling
abbrev Whole : List ℕ → List ℕ → LogLine → Type 0
Whole thread bytes line = LogLineInRange thread line × SaysInLog bytes line

says_by : (thread bytes : List ℕ) (line : LogLine) → LineSaid thread (before_first is_space bytes) (after_first is_space bytes) line → Whole thread bytes line
says_by thread bytes Skip said = absurd (let l = ap length said.1 in omega (arith, l, length-append (before_first is_space bytes) (32 ∷ after_first is_space bytes)))
says_by thread bytes (Object name kind) said = (said.0, cut_joined bytes said.2 ∙ said.1)
says_by thread bytes (Event own) said = (said.0, cut_joined bytes said.2 ∙ said.1)
says_by thread bytes (Acquire lock number) said = (said.0, cut_joined bytes said.2 ∙ said.1)

some_said : (thread bytes : List ℕ) → IsName thread → IfSome (log_line_of thread bytes) (Whole thread bytes)
unfolding log_line_of
some_said thread bytes named =
    if_some (Whole thread bytes) _ (Some Skip) _ (λ skipped. (tt, skipped))
    (each (log_line_with thread (before_first is_space bytes) (after_first is_space bytes)) (with_said thread (before_first is_space bytes) (after_first is_space bytes) named))
  where
    each : (found : Option LogLine) → IfSome found (LineSaid thread (before_first is_space bytes) (after_first is_space bytes)) → IfSome found (Whole thread bytes)
    each None said = tt
    each (Some line) said = says_by thread bytes line said

pub line_said : (thread bytes : List ℕ) (line : LogLine) → IsName thread → log_line_of thread bytes ≡ Some line → LogLineInRange thread line × SaysInLog bytes line
line_said thread bytes line named found = MatchOption-at_some ⊤ (Whole thread bytes) line found (some_said thread bytes named)

-- ---- what is said is found

event_found : (thread : List ℕ) (own : LineEvent) → LogLineInRange thread (Event own) → log_line_of thread (log_spelling (Event own)) ≡ Some (Event own)
unfolding log_line_of log_line_with
event_found thread (event.Fork t child) range = ap (option_map (λ child. Event (event.Fork thread child))) (name_found child range.1.1) ∙ ap (λ t. Some (Event (event.Fork t child))) (sym range.2)
event_found thread (event.Join t child) range = ap (option_map (λ child. Event (event.Join thread child))) (name_found child range.1.1) ∙ ap (λ t. Some (Event (event.Join t child))) (sym range.2)
event_found thread (event.Release t lock) range = ap (option_map (λ lock. Event (event.Release thread lock))) (name_found lock range.1.1) ∙ ap (λ t. Some (Event (event.Release t lock))) (sym range.2)
event_found thread (event.Call t object method slots) range =
    let (thread_is, object_is, method_is, slots_are) = range.1 in
    ap (λ t. option_map (λ call. Event call) (call_read (words_apart t (words_apart object (words_apart method (slots_spelling slots)))))) (sym range.2)
    ∙ ap (option_map (λ call. Event call)) (call_found t object method slots thread_is object_is method_is slots_are)
event_found thread (event.Acquire t lock) range = absurd (true≢false (sym range.0))
event_found thread (event.Share t lock) range = absurd (true≢false (sym range.0))
event_found thread (event.Unshare t lock) range = absurd (true≢false (sym range.0))

object_found : (thread name kind : List ℕ) → IsName name × IsName kind → log_line_of thread (log_spelling (Object name kind)) ≡ Some (Object name kind)
unfolding log_line_of log_line_with
object_found thread name kind range = ap (option_map (λ (names : List ℕ × List ℕ). Object names.0 names.1)) (names_found name kind range.0 range.1)

some_number_found : (number : ℕ) → 1 ≤ number → some_number number ≡ Some number
some_number_found number some = ap (λ b. if b then None else Some number) (false_from_ne_true (number == 0) (λ zero. let none = eqb-true number 0 zero in omega (arith, some, none)))

acquire_found : (thread lock : List ℕ) (number : ℕ) → LogLineInRange thread (Acquire lock number) → log_line_of thread (log_spelling (Acquire lock number)) ≡ Some (Acquire lock number)
unfolding log_line_of log_line_with acquire_read
acquire_found thread lock number range =
    rw (
      before_space lock (decimal number) range.0,
      after_space lock (decimal number) range.0,
      name_found lock range.0,
      number_found most_acquires number (omega arith) range.2,
      some_number_found number range.1,
    ) refl

skip_found : (thread bytes : List ℕ) → is_skipped bytes ≡ true → log_line_of thread bytes ≡ Some Skip
unfolding log_line_of
skip_found thread bytes skipped = rw skipped refl

pub line_found : (thread bytes : List ℕ) (line : LogLine) → LogLineInRange thread line → SaysInLog bytes line → log_line_of thread bytes ≡ Some line
line_found thread bytes Skip range says = skip_found thread bytes says
line_found thread bytes (Object name kind) range says = ap (log_line_of thread) says ∙ object_found thread name kind range
line_found thread bytes (Event own) range says = ap (log_line_of thread) says ∙ event_found thread own range
line_found thread bytes (Acquire lock number) range says = ap (log_line_of thread) says ∙ acquire_found thread lock number range

spelling_says : (line : LogLine) → SaysInLog (log_spelling line) line
spelling_says Skip = refl
spelling_says (Object name kind) = refl
spelling_says (Event own) = refl
spelling_says (Acquire lock number) = refl

pub found_again : (thread : List ℕ) (line : LogLine) → LogLineInRange thread line → log_line_of thread (log_spelling line) ≡ Some line
found_again thread line range = line_found thread (log_spelling line) line range (spelling_says line)

pub one_line : (thread bytes : List ℕ) (x y : LogLine) → LogLineInRange thread x → LogLineInRange thread y → SaysInLog bytes x → SaysInLog bytes y → x ≡ y
one_line thread bytes x y x_range y_range x_says y_says = same_Some x y (sym (line_found thread bytes x x_range x_says) ∙ line_found thread bytes y y_range y_says)

-- where none is found, the bytes say none
pub none_said : (thread bytes : List ℕ) → log_line_of thread bytes ≡ None → (line : LogLine) → LogLineInRange thread line → ¬ (SaysInLog bytes line)
none_said thread bytes none line range says = none-some line (sym none ∙ line_found thread bytes line range says)

-- ---- what the code looks at

-- a call by what stands behind its thread
pub call_parts : (thread rest : List ℕ) → IsName thread → call_read (words_apart thread rest)
    ≡ option_and_then (λ object. option_and_then (λ method. option_map (λ slots. event.Call thread object method slots) (slots_read 7 (after_first is_space (after_first is_space rest))))
    (name_read (before_first is_space (after_first is_space rest)))) (name_read (before_first is_space rest))
unfolding call_read
call_parts thread rest named = rw (before_space thread rest named, after_space thread rest named, name_found thread named) refl

-- where nothing stands behind a space, two words aren't found, nor a number, nor a call
pub no_names : (bytes : List ℕ) → after_first is_space bytes ≡ [] → names_read bytes ≡ None
unfolding names_read
no_names bytes none = rw (none, nothing_refused) (no_second (name_read (before_first is_space bytes)))
  where
    no_second : (found : Option (List ℕ)) → ◌≡◌ {A = Option (List ℕ × List ℕ)} (option_and_then (λ first. option_map (λ second. (first, second)) None) found) None
    no_second None = refl
    no_second (Some first) = refl

nothing_then : {A B : Type 0} (f : A → Option B) → ((x : A) → f x ≡ None) → (found : Option A) → option_and_then f found ≡ None
nothing_then f none None = refl
nothing_then f none (Some x) = none x

no_number : number_read most_acquires [] ≡ None
no_number = by (number_read most_acquires []) refl
  where
    by : (found : Option ℕ) → number_read most_acquires [] ≡ found → number_read most_acquires [] ≡ None
    by None is = is
    by (Some n) is =
        let said = number_said most_acquires n [] is in
        let some = decimal_nonempty n (omega (arith, said.0)) in
        absurd (let l = ap length said.1 in omega (arith, l, some))

pub no_acquire : (rest : List ℕ) → after_first is_space rest ≡ [] → acquire_read rest ≡ None
unfolding acquire_read
no_acquire rest none = rw (none, no_number) (nothing_then _ (λ lock. refl) (name_read (before_first is_space rest)))

pub no_call : (thread rest : List ℕ) → IsName thread → after_first is_space rest ≡ [] → call_read (words_apart thread rest) ≡ None
no_call thread rest named none =
    call_parts thread rest named
    ∙ nothing_then _ (λ object. ap (λ words. option_and_then (λ method. option_map (λ slots. event.Call thread object method slots) (slots_read 7 (after_first is_space words))) (name_read (before_first is_space words))) none
    ∙ ap (λ found. option_and_then (λ method. option_map (λ slots. event.Call thread object method slots) (slots_read 7 (after_first is_space []))) found) nothing_refused)
    (name_read (before_first is_space rest))

same_cond : {A : Type 0} (b : Bool) (x y : Option A) → x ≡ None → y ≡ None → (if b then x else y) ≡ None
same_cond true x y first second = first
same_cond false x y first second = second

pub nothing_behind : (thread keyword : List ℕ) → IsName thread → log_line_with thread keyword [] ≡ None
unfolding log_line_with
nothing_behind thread keyword named =
    same_cond _ _ _ (ap (option_map (λ (names : List ℕ × List ℕ). Object names.0 names.1)) (no_names [] refl))
    (same_cond _ _ _ (ap (option_map (λ child. Event (event.Fork thread child))) nothing_refused)
    (same_cond _ _ _ (ap (option_map (λ child. Event (event.Join thread child))) nothing_refused)
    (same_cond _ _ _ (ap (option_map (λ lock. Event (event.Release thread lock))) nothing_refused)
    (same_cond _ _ _ (no_acquire [] refl)
    (same_cond _ _ None (ap (option_map (λ call. Event call)) (no_call thread [] named refl)) refl)))))

no_slots : slots_read 7 [] ≡ None
no_slots = by (slots_read 7 []) refl
  where
    by : (found : Option (List Value)) → slots_read 7 [] ≡ found → slots_read 7 [] ≡ None
    by None is = is
    by (Some slots) is = absurd (let some = (slots_said [] slots is).2 in omega (arith, some))

-- what a call with the thread in front is by what is read of it
module _ (thread rest : List ℕ) (named : IsName thread) where
  abbrev read : Option LogLine
  read = option_map (λ call. Event call) (call_read (words_apart thread rest))

  none_is : call_read (words_apart thread rest) ≡ None → read ≡ None
  none_is is = ap (option_map (λ call. Event call)) is

  pub no_words : after_first is_space rest ≡ [] → read ≡ None
  no_words none = none_is (no_call thread rest named none)

  pub no_object : (object : List ℕ) → object ≡ before_first is_space rest → name_read object ≡ None → read ≡ None
  no_object object is none =
      none_is (call_parts thread rest named
      ∙ ap (option_and_then (λ object. option_and_then (λ method. option_map (λ slots. event.Call thread object method slots) (slots_read 7 (after_first is_space (after_first is_space rest))))
      (name_read (before_first is_space (after_first is_space rest))))) (ap name_read (sym is) ∙ none))

  pub no_method : (words method : List ℕ) → words ≡ after_first is_space rest → method ≡ before_first is_space words → name_read method ≡ None → read ≡ None
  no_method words method is_words is none =
      none_is (call_parts thread rest named
      ∙ nothing_then _ (λ object. ap (option_and_then (λ method. option_map (λ slots. event.Call thread object method slots) (slots_read 7 (after_first is_space (after_first is_space rest)))))
      (ap (λ w. name_read (before_first is_space w)) (sym is_words) ∙ ap name_read (sym is) ∙ none)) (name_read (before_first is_space rest)))

  pub no_values : (words values : List ℕ) → words ≡ after_first is_space rest → values ≡ after_first is_space words → slots_read 7 values ≡ None → read ≡ None
  no_values words values is_words is none =
      none_is (call_parts thread rest named
      ∙ nothing_then _ (λ object. nothing_then _ (λ method. ap (option_map (λ slots. event.Call thread object method slots))
      (ap (λ w. slots_read 7 (after_first is_space w)) (sym is_words) ∙ ap (slots_read 7) (sym is) ∙ none)) (name_read (before_first is_space (after_first is_space rest)))) (name_read (before_first is_space rest)))

  pub nothing_after : (words : List ℕ) → words ≡ after_first is_space rest → after_first is_space words ≡ [] → read ≡ None
  nothing_after words is_words none = no_values words [] is_words (sym none) no_slots

  pub call_is : (object words method values name own : List ℕ) (slots : List Value) → object ≡ before_first is_space rest → words ≡ after_first is_space rest → method ≡ before_first is_space words
      → values ≡ after_first is_space words → name_read object ≡ Some name → name_read method ≡ Some own → slots_read 7 values ≡ Some slots → read ≡ Some (Event (event.Call thread name own slots))
  call_is object words method values name own slots is_object is_words is_method is_values object_is method_is slots_are =
      let found : call_read (words_apart thread rest) ≡ Some (event.Call thread name own slots)
      = call_parts thread rest named ∙ by (name_read (before_first is_space rest)) (name_read (before_first is_space (after_first is_space rest))) (slots_read 7 (after_first is_space (after_first is_space rest)))
      (ap name_read (sym is_object) ∙ object_is)
      (ap (λ w. name_read (before_first is_space w)) (sym is_words) ∙ ap name_read (sym is_method) ∙ method_is)
      (ap (λ w. slots_read 7 (after_first is_space w)) (sym is_words) ∙ ap (slots_read 7) (sym is_values) ∙ slots_are) in
      ap (option_map (λ call. Event call)) found
    where
      by : (first second : Option (List ℕ)) (third : Option (List Value)) → first ≡ Some name → second ≡ Some own → third ≡ Some slots
          → option_and_then (λ object. option_and_then (λ method. option_map (λ slots. event.Call thread object method slots) third) second) first ≡ Some (event.Call thread name own slots)
      by first second third one two three = rw (one, two, three) refl

-- ---- what a call of `read_log_line` tells

pub ok_whole : (thread bytes : List ℕ) → IsName thread → (result : Result LogLine LineRefused) → IfOk result (λ line. log_line_of thread bytes ≡ Some line)
    → IfOk result (LogLineInRange thread) × IfOk result (SaysInLog bytes)
ok_whole thread bytes named (Ok line) found = line_said thread bytes line named found
ok_whole thread bytes named (Err e) found = (tt, tt)

pub bad_says_none : (thread bytes : List ℕ) (result : Result LogLine LineRefused) → IfErr result (λ e. e ≡ BadLine → log_line_of thread bytes ≡ None)
    → IfErr result (λ e. e ≡ BadLine → (line : LogLine) → LogLineInRange thread line → ¬ (SaysInLog bytes line))
bad_says_none thread bytes (Ok line) none = none
bad_says_none thread bytes (Err e) none = λ bad. none_said thread bytes (none bad)

pub with_found : (thread bytes keyword rest : List ℕ) → is_skipped bytes ≡ false → keyword ≡ before_first is_space bytes → rest ≡ after_first is_space bytes
    → log_line_of thread bytes ≡ log_line_with thread keyword rest
unfolding log_line_of
with_found thread bytes keyword rest other before after = rw (other, before, after) refl

pub none_with : (thread bytes : List ℕ) → IsName thread → is_skipped bytes ≡ false → after_first is_space bytes ≡ [] → log_line_of thread bytes ≡ None
none_with thread bytes named other none =
    with_found thread bytes (before_first is_space bytes) [] other refl (sym none) ∙ nothing_behind thread (before_first is_space bytes) named

pub skipped_found : (thread bytes : List ℕ) → is_skipped bytes ≡ true → log_line_of thread bytes ≡ Some Skip
skipped_found = skip_found

-- ---- the header, by what `strip_prefix` tells

pub header_apart : (bytes front : List ℕ) → front ≡ codes "rdlog 1 " → bytes_eq (take (length front) bytes) front ≡ false → log_header_of bytes ≡ None
unfolding log_header_of
header_apart bytes front is apart = let test : bytes_eq (take 8 bytes) (codes "rdlog 1 ") ≡ false = rw is at apart in rw test refl

pub header_behind : (bytes front name : List ℕ) → front ≡ codes "rdlog 1 " → bytes_eq (take (length front) bytes) front ≡ true → name ≡ drop (length front) bytes → log_header_of bytes ≡ name_read name
unfolding log_header_of
header_behind bytes front name is same behind =
    let test : bytes_eq (take 8 bytes) (codes "rdlog 1 ") ≡ true = rw is at same in
    let rest : name ≡ drop 8 bytes = rw is at behind in
    rw (test, rest) refl

pub header_found : (thread bytes : List ℕ) → IsName thread → bytes ≡ header_spelling thread → log_header_of bytes ≡ Some thread
unfolding log_header_of
header_found thread bytes named is = ap log_header_of is ∙ name_found thread named

pub header_said : (thread bytes : List ℕ) → log_header_of bytes ≡ Some thread → bytes ≡ header_spelling thread
unfolding log_header_of
header_said thread bytes found = by (bytes_eq (take 8 bytes) (codes "rdlog 1 ")) refl found
  where
    by : (b : Bool) → bytes_eq (take 8 bytes) (codes "rdlog 1 ") ≡ b → (if b then name_read (drop 8 bytes) else None) ≡ Some thread → bytes ≡ header_spelling thread
    by true same read =
        sym (take-append-drop 8 bytes) ∙ ap (λ front. front ++ drop 8 bytes) ((bytes_eq-Decides (take 8 bytes) (codes "rdlog 1 ")).0 same)
        ∙ ap (λ name. codes "rdlog 1 " ++ name) (sym (name_is (drop 8 bytes) thread read).1)
    by false apart read = absurd (none-some thread read)
