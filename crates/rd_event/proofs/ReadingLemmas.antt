-- `item_of` finds an item of a version exactly where the bytes say it.
use Rattle.std.proofs.Common.{◌≡◌, ℕ, ◌<◌, true, List, ◌∷◌, ◌++◌, length, refl, sym, ◌∙◌, ap, subst, arith, codes, decimal, Option, Some, None, IfSome, OnOk, OnErr, IfErr, Result, Ok, Err, inl, inr, length-append}
use Rattle.std.specs.Prelude.{⊤}
use Rattle.std.specs.List.{before_first, after_first}
use Rattle.std.specs.Option.{option_map}
use Rattle.std.specs.Str.{bytes_eq}
use Rattle.std.specs.Cmp.Lexicographic.{bytes_decides}
use Rattle.std.proofs.lemmas.Option.{same_Some, none-some, IfSome_then, MatchOption-at_some}
use Rattle.std.proofs.lemmas.Result.{on_ok_weaker}
use Rattle.std.proofs.lemmas.Bool.{eqb-true}
use Rattle.std.proofs.lemmas.Fmt.{decimal_digit}
use Rattle.rd_base.specs.Bytes.{is_space}
use Rattle.rd_base.specs.Names.{IsName}
use Rattle.rd_base.proofs.FoundLemmas.{if_some, map_some}
use Rattle.rd_event.specs.declared.items.Line.{Line}
use Rattle.rd_event.specs.declared.items.Line.TheVariants.{Skip, Header, Thread, Object, Event}
use Rattle.rd_event.specs.declared.items.LineEvent.{LineEvent}
use Rattle.rd_event.specs.declared.items.LineEvent.TheVariants.{Fork, Join, Acquire, Release, Share, Unshare, Call}
use Rattle.rd_event.specs.declared.reading.Pair.{Pair}
use Rattle.rd_event.specs.declared.reading.Pair.TheVariants.{Object as ObjectPair, Join as JoinPair, Acquire as AcquirePair, Release as ReleasePair}
use Rattle.rd_event.specs.declared.reading.LineRefused.{LineRefused}
use Rattle.rd_event.specs.declared.reading.LineRefused.TheVariants.{BadLine}
use Rattle.rd_event.specs.Items.{IsEvent, LineInRange, HasEvent, HasItem, words_apart, event_spelling, line_spelling, Says}
use Rattle.rd_event.specs.Reading.{names_read, pair_item, is_call_keyword, call_read, header_read, share_with, event_with, item_with, item_of}
use Rattle.rd_event.proofs.CallLemmas.{CallSaid, call_said, call_found}
use Rattle.rd_event.proofs.WordLemmas.{NameSaid, NamesSaid, cut_joined, name_said, names_said, name_found, names_found}

-- a line of a keyword and of what stands behind its space
with_keyword : (keyword text rest shown : List ℕ) → bytes_eq keyword text ≡ true → shown ≡ rest
    → keyword ++ 32 ∷ rest ≡ text ++ 32 ∷ shown
with_keyword keyword text rest shown same is =
    ap (λ word. word ++ 32 ∷ rest) ((bytes_decides keyword text).0 same) ∙ ap (λ bytes. text ++ 32 ∷ bytes) (sym is)

-- a line of a keyword and two names
abbrev TwoNamesSaid : List ℕ → List ℕ → List ℕ → List ℕ × List ℕ → Type 0
TwoNamesSaid keyword text rest names =
    (IsName names.0 × IsName names.1) × (keyword ++ 32 ∷ rest ≡ text ++ 32 ∷ words_apart names.0 names.1) × (0 < length rest)

two_names_said : (keyword text rest : List ℕ) → bytes_eq keyword text ≡ true
    → IfSome (names_read rest) (TwoNamesSaid keyword text rest)
two_names_said keyword text rest same =
    IfSome_then (names_read rest) {P = NamesSaid rest} {Q = TwoNamesSaid keyword text rest} (names_said rest)
    (λ names said.
    let more : 0 < length rest = omega (arith, length-append names.0 (32 ∷ names.1), ap length said.1) in
    (said.0, with_keyword keyword text rest (words_apart names.0 names.1) same said.1, more))

abbrev EventSaid : ℕ → List ℕ → List ℕ → LineEvent → Type 0
EventSaid version keyword rest event =
    IsEvent event × (HasEvent version event × (keyword ++ 32 ∷ rest ≡ event_spelling event)) × (0 < length rest)

share_said : (version : ℕ) (keyword rest : List ℕ) → version ≡ 2 → IfSome (share_with keyword rest) (EventSaid version keyword rest)
unfolding share_with
share_said version keyword rest second =
    let Said : LineEvent → Type 0 = EventSaid version keyword rest in
    if_some Said _ _ _ (λ same. map_some _ Said _ _ (two_names_said keyword (codes "share") rest same) (λ names said. (said.0, (second, said.1), said.2)))
    (if_some Said _ _ _ (λ same. map_some _ Said _ _ (two_names_said keyword (codes "unshare") rest same) (λ names said. (said.0, (second, said.1), said.2)))
    tt)

called_said : (version : ℕ) (keyword rest : List ℕ) (event : LineEvent) → is_call_keyword keyword ≡ true → CallSaid rest event
    → EventSaid version keyword rest event
called_said version keyword rest event same said =
    (said.0, (said.3 version, ap (λ word. word ++ 32 ∷ rest) ((bytes_decides keyword (codes "call")).0 same) ∙ said.1), said.2)

event_said : (version : ℕ) (keyword rest : List ℕ) → IfSome (event_with version keyword rest) (EventSaid version keyword rest)
unfolding event_with
event_said version keyword rest =
    let Said : LineEvent → Type 0 = EventSaid version keyword rest in
    if_some Said _ _ _ (λ same. map_some _ Said _ _ (two_names_said keyword (codes "fork") rest same) (λ names said. (said.0, (tt, said.1), said.2)))
    (if_some Said _ _ _ (λ same. map_some _ Said _ _ (two_names_said keyword (codes "join") rest same) (λ names said. (said.0, (tt, said.1), said.2)))
    (if_some Said _ _ _ (λ same. map_some _ Said _ _ (two_names_said keyword (codes "acquire") rest same) (λ names said. (said.0, (tt, said.1), said.2)))
    (if_some Said _ _ _ (λ same. map_some _ Said _ _ (two_names_said keyword (codes "release") rest same) (λ names said. (said.0, (tt, said.1), said.2)))
    (if_some Said _ (call_read rest) _
    (λ same. IfSome_then (call_read rest) {P = CallSaid rest} {Q = Said} (call_said rest)
    (λ event said. called_said version keyword rest event same said))
    (if_some Said _ (share_with keyword rest) _ (λ second. share_said version keyword rest (eqb-true version 2 second))
    tt)))))

abbrev ItemSaid : ℕ → List ℕ → List ℕ → Line → Type 0
ItemSaid version keyword rest item = LineInRange item × Says version (keyword ++ 32 ∷ rest) item × (0 < length rest)

-- the digits of both versions
one_digit : decimal 1 ≡ codes "1"
one_digit = decimal_digit 1 (omega arith)

two_digit : decimal 2 ≡ codes "2"
two_digit = decimal_digit 2 (omega arith)

header_said : (version : ℕ) (keyword rest : List ℕ) → bytes_eq keyword (codes "rdtrace") ≡ true
    → IfSome (header_read rest) (ItemSaid version keyword rest)
header_said version keyword rest same =
    let Said : Line → Type 0 = ItemSaid version keyword rest in
    if_some Said _ (Some (Header 1)) _
    (λ one. let is = (bytes_decides rest (codes "1")).0 one in
    (inl refl, with_keyword keyword (codes "rdtrace") rest (codes "1") same (sym is) ∙ ap (λ digits. codes "rdtrace " ++ digits) (sym one_digit), omega (arith, ap length is)))
    (if_some Said _ (Some (Header 2)) _
    (λ two. let is = (bytes_decides rest (codes "2")).0 two in
    (inr refl, with_keyword keyword (codes "rdtrace") rest (codes "2") same (sym is) ∙ ap (λ digits. codes "rdtrace " ++ digits) (sym two_digit), omega (arith, ap length is)))
    tt)

thread_said : (version : ℕ) (keyword rest name : List ℕ) → bytes_eq keyword (codes "thread") ≡ true → NameSaid rest name
    → ItemSaid version keyword rest (Thread name)
thread_said version keyword rest name same said =
    let more : 0 < length rest = omega (arith, said.0.some, ap length said.1) in
    (said.0, with_keyword keyword (codes "thread") rest name same said.1, more)

item_said : (version : ℕ) (keyword rest : List ℕ) → IfSome (item_with version keyword rest) (ItemSaid version keyword rest)
unfolding item_with
item_said version keyword rest =
    let Said : Line → Type 0 = ItemSaid version keyword rest in
    if_some Said _ (header_read rest) _ (λ same. header_said version keyword rest same)
    (if_some Said _ _ _ (λ same. map_some _ Said _ _ (name_said rest) (λ name said. thread_said version keyword rest name same said))
    (if_some Said _ _ _ (λ same. map_some _ Said _ _ (two_names_said keyword (codes "object") rest same) (λ names said. said))
    (map_some _ Said _ _ (event_said version keyword rest) (λ event said. said))))

abbrev LineSaid : ℕ → List ℕ → Line → Type 0
LineSaid version bytes item = LineInRange item × Says version bytes item

line_said : (version : ℕ) (bytes : List ℕ) → IfSome (item_of version bytes) (LineSaid version bytes)
unfolding item_of
line_said version bytes =
    let keyword = before_first is_space bytes in
    let rest = after_first is_space bytes in
    if_some (LineSaid version bytes) _ (Some Skip) _
    (λ skipped. (tt, skipped))
    (IfSome_then (item_with version keyword rest) {P = ItemSaid version keyword rest} {Q = LineSaid version bytes} (item_said version keyword rest)
    (λ item said. (said.0, subst (λ all. Says version all item) (sym (cut_joined bytes said.2)) said.1)))

-- the item of a call
pub call_item : (version : ℕ) (keyword rest : List ℕ) → is_call_keyword keyword ≡ true
    → item_with version keyword rest ≡ option_map (λ event. Event event) (call_read rest)
unfolding item_with event_with
call_item version keyword rest same = rw ((bytes_decides keyword (codes "call")).0 same) refl

-- the item of a line that begins with one of these keywords and a space
pub call_behind : (version : ℕ) (bytes rest : List ℕ) → bytes ≡ codes "call " ++ rest → item_of version bytes ≡ option_map (λ event. Event event) (call_read rest)
unfolding item_of item_with event_with
call_behind version bytes rest is = rw is refl

pub call_keyword : (bytes rest : List ℕ) → bytes ≡ codes "call " ++ rest → is_call_keyword (before_first is_space bytes) ≡ true
call_keyword bytes rest is = rw is refl

pair_behind : (pair : Pair) (put : List ℕ × List ℕ → LineEvent) → ((names : List ℕ × List ℕ) → pair_item pair names ≡ Event (put names)) → (found : Option (List ℕ × List ℕ))
    → option_map (λ event. Event event) (option_map put found) ≡ option_map (pair_item pair) found
pair_behind pair put is None = refl
pair_behind pair put is (Some names) = ap Some (sym (is names))

pub acquire_behind : (version : ℕ) (bytes rest : List ℕ) → bytes ≡ codes "acquire " ++ rest → item_of version bytes ≡ option_map (pair_item AcquirePair) (names_read rest)
unfolding item_of item_with event_with
acquire_behind version bytes rest is = rw is (pair_behind AcquirePair (λ names. Acquire names.0 names.1) (λ names. refl) (names_read rest))

pub release_behind : (version : ℕ) (bytes rest : List ℕ) → bytes ≡ codes "release " ++ rest → item_of version bytes ≡ option_map (pair_item ReleasePair) (names_read rest)
unfolding item_of item_with event_with
release_behind version bytes rest is = rw is (pair_behind ReleasePair (λ names. Release names.0 names.1) (λ names. refl) (names_read rest))

pub object_behind : (version : ℕ) (bytes rest : List ℕ) → bytes ≡ codes "object " ++ rest → item_of version bytes ≡ option_map (pair_item ObjectPair) (names_read rest)
unfolding item_of item_with
object_behind version bytes rest is = rw is refl

pub join_behind : (version : ℕ) (bytes rest : List ℕ) → bytes ≡ codes "join " ++ rest → item_of version bytes ≡ option_map (pair_item JoinPair) (names_read rest)
unfolding item_of item_with event_with
join_behind version bytes rest is = rw is (pair_behind JoinPair (λ names. Join names.0 names.1) (λ names. refl) (names_read rest))

-- an item that is found is in its range, and the bytes say it
pub found_said : (version : ℕ) (bytes : List ℕ) (item : Line) → item_of version bytes ≡ Some item → LineInRange item × Says version bytes item
found_said version bytes item found = MatchOption-at_some ⊤ (LineSaid version bytes) item found (line_said version bytes)

-- What is said is found.

-- an item that the bytes say is found
pub line_found : (version : ℕ) (bytes : List ℕ) (item : Line) → LineInRange item → Says version bytes item → item_of version bytes ≡ Some item
unfolding item_of item_with event_with share_with
line_found version bytes Skip range says = rw says refl
line_found version bytes (Header number) (inl one) says = rw (says, one, one_digit) refl
line_found version bytes (Header number) (inr two) says = rw (says, two, two_digit) refl
line_found version bytes (Thread thread) range says = rw says (ap (option_map (λ name. Thread name)) (name_found thread range))
line_found version bytes (Object name kind) range says =
    rw says (ap (option_map (λ names. Object names.0 names.1)) (names_found name kind range.0 range.1))
line_found version bytes (Event (Fork thread child)) range says =
    rw says.1 (ap (λ found. option_map (λ event. Event event) (option_map (λ names. Fork names.0 names.1) found))
    (names_found thread child range.0 range.1))
line_found version bytes (Event (Join thread child)) range says =
    rw says.1 (ap (λ found. option_map (λ event. Event event) (option_map (λ names. Join names.0 names.1) found))
    (names_found thread child range.0 range.1))
line_found version bytes (Event (Acquire thread lock)) range says =
    rw says.1 (ap (λ found. option_map (λ event. Event event) (option_map (λ names. Acquire names.0 names.1) found))
    (names_found thread lock range.0 range.1))
line_found version bytes (Event (Release thread lock)) range says =
    rw says.1 (ap (λ found. option_map (λ event. Event event) (option_map (λ names. Release names.0 names.1) found))
    (names_found thread lock range.0 range.1))
line_found version bytes (Event (Share thread lock)) range says =
    rw (says.1, says.0) (ap (λ found. option_map (λ event. Event event) (option_map (λ names. Share names.0 names.1) found))
    (names_found thread lock range.0 range.1))
line_found version bytes (Event (Unshare thread lock)) range says =
    rw (says.1, says.0) (ap (λ found. option_map (λ event. Event event) (option_map (λ names. Unshare names.0 names.1) found))
    (names_found thread lock range.0 range.1))
line_found version bytes (Event (Call thread object method slots)) range says =
    rw says.1 (ap (option_map (λ event. Event event)) (call_found thread object method slots range.0 range.1 range.2 range.3))

-- an item's spelling says it in each version that has it, and it is found there
pub spelling_says : (version : ℕ) (item : Line) → HasItem version item → Says version (line_spelling item) item
spelling_says version Skip has = refl
spelling_says version (Header number) has = refl
spelling_says version (Thread thread) has = refl
spelling_says version (Object name kind) has = refl
spelling_says version (Event event) has = (has, refl)

pub found_again : (version : ℕ) (item : Line) → LineInRange item → HasItem version item → item_of version (line_spelling item) ≡ Some item
found_again version item range has = line_found version (line_spelling item) item range (spelling_says version item has)

-- no bytes say two items
pub one_line : (version : ℕ) (bytes : List ℕ) (x y : Line) → LineInRange x → LineInRange y → Says version bytes x → Says version bytes y → x ≡ y
one_line version bytes x y x_range y_range x_says y_says =
    same_Some x y (sym (line_found version bytes x x_range x_says) ∙ line_found version bytes y y_range y_says)

-- where none is found, the bytes say none
pub none_said : (version : ℕ) (bytes : List ℕ) → item_of version bytes ≡ None → (item : Line) → LineInRange item → ¬ (Says version bytes item)
none_said version bytes none item range says = none-some item (sym none ∙ line_found version bytes item range says)

-- the same of what a call answers
pub ok_in_range : (version : ℕ) (bytes : List ℕ) (item : Line) (result : Result Unit LineRefused) → OnOk result (item_of version bytes ≡ Some item)
    → OnOk result (LineInRange item)
ok_in_range version bytes item result = on_ok_weaker result (λ found. (found_said version bytes item found).0)

pub ok_says : (version : ℕ) (bytes : List ℕ) (item : Line) (result : Result Unit LineRefused) → OnOk result (item_of version bytes ≡ Some item)
    → OnOk result (Says version bytes item)
ok_says version bytes item result = on_ok_weaker result (λ found. (found_said version bytes item found).1)

pub err_says_none : (version : ℕ) (bytes : List ℕ) (result : Result Unit LineRefused)
    → IfErr result (λ e. e ≡ BadLine → item_of version bytes ≡ None)
    → IfErr result (λ e. e ≡ BadLine → (item : Line) → LineInRange item → ¬ (Says version bytes item))
err_says_none version bytes (Ok unit) none = none
err_says_none version bytes (Err e) none = λ bad. none_said version bytes (none bad)

-- what is found by another name is found of the bytes
pub ok_found : (version : ℕ) (bytes : List ℕ) (found : Option Line) (item : Line) (result : Result Unit LineRefused) → item_of version bytes ≡ found → OnOk result (found ≡ Some item)
    → OnOk result (item_of version bytes ≡ Some item)
ok_found version bytes found item result is = on_ok_weaker result (λ told. is ∙ told)

pub err_not_found : (version : ℕ) (bytes : List ℕ) (found : Option Line) (result : Result Unit LineRefused) → item_of version bytes ≡ found → OnErr result (found ≡ None)
    → IfErr result (λ e. e ≡ BadLine → item_of version bytes ≡ None)
err_not_found version bytes found (Ok done) is none = tt
err_not_found version bytes found (Err e) is none = λ bad. is ∙ none
