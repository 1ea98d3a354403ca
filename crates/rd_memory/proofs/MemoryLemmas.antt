-- `memory_line_of` finds a line exactly where the bytes say it.
use Rattle.std.proofs.Common.{◌≡◌, ℕ, suc, ◌+◌, ◌<◌, Bool, true, false, List, [], ◌∷◌, ◌++◌, length, take, refl, sym, ◌∙◌, ap, arith, codes, Option, Some, None, IfSome, IfOk, OnErr, Result, Ok, Err, length-append}
use Rattle.std.specs.Prelude.{⊤}
use Rattle.std.specs.List.{before_first, after_first, position_or_len}
use Rattle.std.specs.Option.{option_map, option_and_then}
use Rattle.std.specs.Str.{bytes_eq}
use Rattle.std.specs.Cmp.Lexicographic.{bytes_decides}
use Rattle.std.proofs.lemmas.Option.{same_Some, none-some, MatchOption-at_some}
use Rattle.std.proofs.lemmas.Result.{IfOk-weaker}
use Rattle.std.proofs.lemmas.Bool.{eqb-true, true≢false}
use Rattle.rd_base.specs.Bytes.{is_space}
use Rattle.rd_base.proofs.FoundLemmas.{if_some, map_some, then_found}
use Rattle.rd_event.specs.declared.items.Line.{Line}
use Rattle.rd_event.specs.declared.items.Line.TheVariants as item
use Rattle.rd_event.specs.declared.items.LineEvent.{LineEvent}
use Rattle.rd_event.specs.declared.items.LineEvent.TheVariants.{Fork, Join, Acquire, Release, Share, Unshare, Call}
use Rattle.rd_event.specs.declared.reading.LineRefused.{LineRefused}
use Rattle.rd_event.specs.declared.reading.LineRefused.TheVariants.{BadLine, NoMemory}
use Rattle.rd_event.specs.Items.{LineInRange, Says, event_spelling, line_spelling}
use Rattle.rd_event.specs.Reading.{is_call_keyword, item_of, names_read}
use Rattle.rd_event.proofs.WordLemmas.{NamesSaid, cut_joined, names_found, names_said}
use Rattle.rd_event.proofs.ReadingLemmas.{found_said, line_found as item_found}
use Rattle.rd_memory.specs.declared.lines.MemLine.{MemLine}
use Rattle.rd_memory.specs.declared.lines.MemLine.TheVariants.{Skip, Header, Thread, Event, Access}
use Rattle.rd_memory.specs.MemoryLines.{MemLineInRange, SaysMemory, access_keyword, access_of, memory_line_of, memory_spelling, common_line}

-- What is found is said.
abbrev pub LineSaid : List ℕ → MemLine → Type 0
LineSaid bytes line = MemLineInRange line × SaysMemory bytes line

access_said : (write : Bool) (bytes : List ℕ) → bytes_eq (before_first is_space bytes) (access_keyword write) ≡ true
    → IfSome (option_map (access_of write) (names_read (after_first is_space bytes))) (LineSaid bytes)
access_said write bytes same =
    let rest = after_first is_space bytes in
    map_some (NamesSaid rest) (LineSaid bytes) (access_of write) (names_read rest) (names_said rest)
    (λ names said.
    let more : 0 < length rest = omega (arith, length-append names.0 (32 ∷ names.1), ap length said.1) in (
      said.0,
      cut_joined bytes more ∙ ap (λ word. word ++ 32 ∷ rest) ((bytes_decides (before_first is_space bytes) (access_keyword write)).0 same)
          ∙ ap (λ words. access_keyword write ++ 32 ∷ words) (sym said.1),
    ))

common_said : (bytes : List ℕ) (found : Line) → LineInRange found → Says 1 bytes found → IfSome (common_line found) (LineSaid bytes)
common_said bytes item.Skip range says = (tt, says)
common_said bytes (item.Header version) range says = tt
common_said bytes (item.Thread thread) range says = (range, says)
common_said bytes (item.Object name kind) range says = tt
common_said bytes (item.Event (Fork thread child)) range says = ((refl, range), says.1)
common_said bytes (item.Event (Join thread child)) range says = ((refl, range), says.1)
common_said bytes (item.Event (Acquire thread lock)) range says = ((refl, range), says.1)
common_said bytes (item.Event (Release thread lock)) range says = ((refl, range), says.1)
common_said bytes (item.Event (Share thread lock)) range says = tt
common_said bytes (item.Event (Unshare thread lock)) range says = tt
common_said bytes (item.Event (Call thread object method slots)) range says = tt

some_said : (bytes : List ℕ) → IfSome (memory_line_of bytes) (LineSaid bytes)
unfolding memory_line_of
some_said bytes =
    let Said : MemLine → Type 0 = LineSaid bytes in
    if_some Said _ _ _ (access_said false bytes)
    (if_some Said _ _ _ (access_said true bytes)
    (if_some Said _ (Some Header) _ (λ same. (tt, (bytes_decides bytes (codes "rdmem 1")).0 same))
    (then_found Said common_line (item_of 1 bytes)
    (λ found is. let said = found_said 1 bytes found is in common_said bytes found said.0 said.1))))

pub found_said_line : (bytes : List ℕ) (line : MemLine) → memory_line_of bytes ≡ Some line → MemLineInRange line × SaysMemory bytes line
found_said_line bytes line found = MatchOption-at_some ⊤ (LineSaid bytes) line found (some_said bytes)

-- What is said is found.
hash_keyword : (bytes : List ℕ) → before_first is_space (35 ∷ bytes) ≡ 35 ∷ before_first is_space bytes
hash_keyword bytes =
    let more : 1 + position_or_len is_space bytes ≡ suc (position_or_len is_space bytes) = omega arith in
    ap (λ n. take n (35 ∷ bytes)) more

skip_found : (bytes : List ℕ) → Says 1 bytes item.Skip → memory_line_of bytes ≡ Some Skip
unfolding memory_line_of item_of
skip_found [] says = refl
skip_found (byte ∷ bytes) says = rw (eqb-true byte 35 says, hash_keyword bytes) refl

thread_found : (thread : List ℕ) → LineInRange (item.Thread thread) → memory_line_of (line_spelling (item.Thread thread)) ≡ Some (Thread thread)
unfolding memory_line_of
thread_found thread range =
    ap (option_and_then common_line) (item_found 1 (line_spelling (item.Thread thread)) (item.Thread thread) range refl)

event_found : (event : LineEvent) → MemLineInRange (Event event) → memory_line_of (event_spelling event) ≡ Some (Event event)
unfolding memory_line_of
event_found (Fork thread child) range =
    ap (option_and_then common_line) (item_found 1 (event_spelling (Fork thread child)) (item.Event (Fork thread child)) range.1 (tt, refl))
event_found (Join thread child) range =
    ap (option_and_then common_line) (item_found 1 (event_spelling (Join thread child)) (item.Event (Join thread child)) range.1 (tt, refl))
event_found (Acquire thread lock) range =
    ap (option_and_then common_line) (item_found 1 (event_spelling (Acquire thread lock)) (item.Event (Acquire thread lock)) range.1 (tt, refl))
event_found (Release thread lock) range =
    ap (option_and_then common_line) (item_found 1 (event_spelling (Release thread lock)) (item.Event (Release thread lock)) range.1 (tt, refl))
event_found (Share thread lock) range = absurd (true≢false (sym range.0))
event_found (Unshare thread lock) range = absurd (true≢false (sym range.0))
event_found (Call thread object method slots) range = absurd (true≢false (sym range.0))

access_found : (thread variable : List ℕ) (write : Bool) → MemLineInRange (Access thread variable write)
    → memory_line_of (memory_spelling (Access thread variable write)) ≡ Some (Access thread variable write)
unfolding memory_line_of
access_found thread variable false range = ap (option_map (access_of false)) (names_found thread variable range.0 range.1)
access_found thread variable true range = ap (option_map (access_of true)) (names_found thread variable range.0 range.1)

pub header_found : memory_line_of (codes "rdmem 1") ≡ Some Header
unfolding memory_line_of
header_found = refl

pub line_found : (bytes : List ℕ) (line : MemLine) → MemLineInRange line → SaysMemory bytes line → memory_line_of bytes ≡ Some line
line_found bytes Skip range says = skip_found bytes says
line_found bytes Header range says = ap memory_line_of says ∙ header_found
line_found bytes (Thread thread) range says = ap memory_line_of says ∙ thread_found thread range
line_found bytes (Event event) range says = ap memory_line_of says ∙ event_found event range
line_found bytes (Access thread variable write) range says = ap memory_line_of says ∙ access_found thread variable write range

-- a line's spelling says it
spelling_says : (line : MemLine) → SaysMemory (memory_spelling line) line
spelling_says Skip = refl
spelling_says Header = refl
spelling_says (Thread thread) = refl
spelling_says (Event event) = refl
spelling_says (Access thread variable write) = refl

pub found_again : (line : MemLine) → MemLineInRange line → memory_line_of (memory_spelling line) ≡ Some line
found_again line range = line_found (memory_spelling line) line range (spelling_says line)

-- no bytes say two lines
pub one_line : (bytes : List ℕ) (x y : MemLine) → MemLineInRange x → MemLineInRange y → SaysMemory bytes x → SaysMemory bytes y → x ≡ y
one_line bytes x y x_range y_range x_says y_says =
    same_Some x y (sym (line_found bytes x x_range x_says) ∙ line_found bytes y y_range y_says)

-- where none is found, the bytes say none
pub none_said : (bytes : List ℕ) → memory_line_of bytes ≡ None → (line : MemLine) → MemLineInRange line → ¬ (SaysMemory bytes line)
none_said bytes none line range says = none-some line (sym none ∙ line_found bytes line range says)

-- bytes that no line says
none_where : (bytes : List ℕ) (found : Option MemLine) → memory_line_of bytes ≡ found
    → ((line : MemLine) → MemLineInRange line → SaysMemory bytes line → ⊥) → memory_line_of bytes ≡ None
none_where bytes None is unsaid = is
none_where bytes (Some line) is unsaid = let said = found_said_line bytes line is in absurd (unsaid line said.0 said.1)

pub none_from_unsaid : (bytes : List ℕ) → ((line : MemLine) → MemLineInRange line → SaysMemory bytes line → ⊥) → memory_line_of bytes ≡ None
none_from_unsaid bytes unsaid = none_where bytes (memory_line_of bytes) refl unsaid

-- ---- what a call of `read_line` tells

other_keyword : (bytes text : List ℕ) → bytes ≡ text → is_call_keyword (before_first is_space text) ≡ false
    → is_call_keyword (before_first is_space bytes) ≡ true → ⊥
other_keyword bytes text is other call = true≢false (sym call ∙ ap (λ all. is_call_keyword (before_first is_space all)) is ∙ other)

skip_no_call : (bytes : List ℕ) → Says 1 bytes item.Skip → is_call_keyword (before_first is_space bytes) ≡ true → ⊥
skip_no_call [] says call = true≢false (sym call)
skip_no_call (byte ∷ bytes) says call = other_keyword (byte ∷ bytes) (35 ∷ bytes) (ap (λ first. first ∷ bytes) (eqb-true byte 35 says)) (rw (hash_keyword bytes) refl) call

-- an item whose line begins as a call is none of these lines
call_uncommon : (bytes : List ℕ) (found : Line) → Says 1 bytes found → is_call_keyword (before_first is_space bytes) ≡ true → common_line found ≡ None
call_uncommon bytes item.Skip says call = absurd (skip_no_call bytes says call)
call_uncommon bytes (item.Header version) says call = refl
call_uncommon bytes (item.Thread thread) says call = absurd (other_keyword bytes _ says refl call)
call_uncommon bytes (item.Object name kind) says call = refl
call_uncommon bytes (item.Event (Fork thread child)) says call = absurd (other_keyword bytes _ says.1 refl call)
call_uncommon bytes (item.Event (Join thread child)) says call = absurd (other_keyword bytes _ says.1 refl call)
call_uncommon bytes (item.Event (Acquire thread lock)) says call = absurd (other_keyword bytes _ says.1 refl call)
call_uncommon bytes (item.Event (Release thread lock)) says call = absurd (other_keyword bytes _ says.1 refl call)
call_uncommon bytes (item.Event (Share thread lock)) says call = refl
call_uncommon bytes (item.Event (Unshare thread lock)) says call = refl
call_uncommon bytes (item.Event (Call thread object method slots)) says call = refl

-- whatever it is refused for, the bytes are none of these lines
pub refused_uncommon : (bytes : List ℕ) (e : LineRefused) → (e ≡ BadLine → item_of 1 bytes ≡ None)
    → (e ≡ NoMemory → (found : Line) × (item_of 1 bytes ≡ Some found)) → (e ≡ NoMemory → is_call_keyword (before_first is_space bytes) ≡ true)
    → option_and_then common_line (item_of 1 bytes) ≡ None
refused_uncommon bytes BadLine none memory call = ap (option_and_then common_line) (none refl)
refused_uncommon bytes NoMemory none memory call =
    let found = memory refl in
    ap (option_and_then common_line) found.1 ∙ call_uncommon bytes found.0 (found_said 1 bytes found.0 found.1).1 (call refl)

-- the same of what a call answers
pub ok_says : (bytes : List ℕ) (result : Result MemLine LineRefused) → IfOk result (λ line. memory_line_of bytes ≡ Some line) → IfOk result (SaysMemory bytes)
ok_says bytes result = IfOk-weaker result _ _ (λ line found. (found_said_line bytes line found).1)

pub ok_in_range : (bytes : List ℕ) (result : Result MemLine LineRefused) → IfOk result (λ line. memory_line_of bytes ≡ Some line) → IfOk result MemLineInRange
ok_in_range bytes result = IfOk-weaker result _ _ (λ line found. (found_said_line bytes line found).0)

pub err_says_none : (bytes : List ℕ) (result : Result MemLine LineRefused) → OnErr result (memory_line_of bytes ≡ None)
    → OnErr result ((line : MemLine) → MemLineInRange line → ¬ (SaysMemory bytes line))
err_says_none bytes (Ok line) none = none
err_says_none bytes (Err e) none = none_said bytes none
