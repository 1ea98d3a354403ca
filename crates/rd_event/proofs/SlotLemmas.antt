-- `slots_read` finds the slots of a call exactly in their spelling.
use Rattle.std.proofs.Common.{◌≡◌, ℕ, zero, suc, ◌-◌, ◌<◌, ◌≤◌, true, false, List, [], ◌∷◌, ◌++◌, length, refl, sym, ◌∙◌, ap, codes, Option, Some, None, IfSome, option_map, option_and_then, is_some, arith, append_assoc, length-append, bytes_eq, pos, negsuc, ◌+◌, length-drop, ◌≢◌, inl, inr}
use Rattle.std.specs.Prelude.{⊤}
use Rattle.std.specs.Fmt.{digits}
use Rattle.std.specs.List.{AllByRecursion}
use Rattle.std.specs.Cmp.Lexicographic.{bytes_decides}
use Rattle.std.proofs.lemmas.Bool.{cases_Bool, cases_lt, false_from_ne_true}
use Rattle.std.proofs.lemmas.Fmt.{decimal_nonempty}
use Rattle.std.proofs.lemmas.List.{nil_from_length}
use Rattle.std.proofs.lemmas.Option.{none-some, MatchOption-at_some}
use Rattle.rd_base.specs.declared.values.Value.{Value}
use Rattle.rd_base.specs.declared.values.Value.TheVariants.{Nil, Bool as Truth, Int, Text}
use Rattle.rd_base.specs.Spelling.{IsValue, value_spelling}
use Rattle.rd_base.specs.ReadingValues.{integer_of, value_of}
use Rattle.rd_base.proofs.FoundLemmas.{if_some, map_found, then_found, each_by_recursion, each_from_recursion}
use Rattle.rd_base.proofs.ValueLemmas.{value_found, found_said as value_said}
use Rattle.rd_event.specs.Items.{AreSlots, words_apart, slots_spelling}
use Rattle.rd_event.specs.declared.slots.Place.TheVariants.{Outside}
use Rattle.rd_event.specs.ReadingSlots.{value_length, first_value, other_values, slots_read}
use Rattle.rd_event.proofs.CutLemmas.{values_joined, value_before, value_behind, arrow_before, arrow_behind}

-- Steps of the loop that reads the slots.
abbrev SoFar : List ℕ → List Value → List ℕ → Type 0
SoFar bytes slots rest = slots_read 7 bytes ≡ option_map (λ more. slots ++ more) (slots_read (7 - length slots) rest)

no_room : (bytes : List ℕ) → slots_read 0 bytes ≡ None
unfolding slots_read
no_room bytes = refl

slots_at_arrow : (room : ℕ) (bytes : List ℕ) → bytes_eq (first_value bytes) (codes "->") ≡ true
    → slots_read (suc room) bytes ≡ option_map (λ result. result ∷ []) (value_of (other_values bytes))
unfolding slots_read
slots_at_arrow room bytes arrow = rw arrow refl

slots_at_argument : (room : ℕ) (bytes : List ℕ) → bytes_eq (first_value bytes) (codes "->") ≡ false
    → slots_read (suc room) bytes
    ≡ option_and_then (λ argument. option_map (λ slots. argument ∷ slots) (slots_read room (other_values bytes))) (value_of (first_value bytes))
unfolding slots_read
slots_at_argument room bytes arrow = rw arrow refl

with_room : (bytes : List ℕ) (slots : List Value) (rest : List ℕ) → SoFar bytes slots rest → length slots < 7
    → slots_read 7 bytes ≡ option_map (λ more. slots ++ more) (slots_read (suc (6 - length slots)) rest)
with_room bytes slots rest so_far room =
    let count : 7 - length slots ≡ suc (6 - length slots) = omega arith in
    so_far ∙ ap (λ n. option_map (λ more. slots ++ more) (slots_read n rest)) count

result_read : (bytes : List ℕ) (slots : List Value) (rest : List ℕ) (result : Value) → SoFar bytes slots rest → length slots < 7
    → bytes_eq (first_value rest) (codes "->") ≡ true → value_of (other_values rest) ≡ Some result
    → slots_read 7 bytes ≡ Some (slots ++ result ∷ [])
result_read bytes slots rest result so_far room arrow found =
    with_room bytes slots rest so_far room
    ∙ ap (option_map (λ more. slots ++ more))
    (slots_at_arrow (6 - length slots) rest arrow ∙ ap (option_map (λ result. result ∷ [])) found)

result_refused : (bytes : List ℕ) (slots : List Value) (rest : List ℕ) → SoFar bytes slots rest → length slots < 7
    → bytes_eq (first_value rest) (codes "->") ≡ true → value_of (other_values rest) ≡ None
    → slots_read 7 bytes ≡ None
result_refused bytes slots rest so_far room arrow none =
    with_room bytes slots rest so_far room
    ∙ ap (option_map (λ more. slots ++ more))
    (slots_at_arrow (6 - length slots) rest arrow ∙ ap (option_map (λ result. result ∷ [])) none)

argument_refused : (bytes : List ℕ) (slots : List Value) (rest : List ℕ) → SoFar bytes slots rest → length slots < 7
    → bytes_eq (first_value rest) (codes "->") ≡ false → value_of (first_value rest) ≡ None
    → slots_read 7 bytes ≡ None
argument_refused bytes slots rest so_far room arrow none =
    with_room bytes slots rest so_far room
    ∙ ap (option_map (λ more. slots ++ more))
    (slots_at_argument (6 - length slots) rest arrow
    ∙ ap (option_and_then (λ argument. option_map (λ slots. argument ∷ slots) (slots_read (6 - length slots) (other_values rest)))) none)

map_twice : (slots : List Value) (argument : Value) (found : Option (List Value))
    → option_map (λ more. slots ++ more) (option_map (λ more. argument ∷ more) found)
    ≡ option_map (λ more. (slots ++ argument ∷ []) ++ more) found
map_twice slots argument (Some more) = ap (λ all. Some all) (sym (append_assoc slots (argument ∷ []) more))
map_twice slots argument None = refl

argument_read : (bytes : List ℕ) (slots : List Value) (rest : List ℕ) (argument : Value) → SoFar bytes slots rest → length slots < 7
    → bytes_eq (first_value rest) (codes "->") ≡ false → value_of (first_value rest) ≡ Some argument
    → SoFar bytes (slots ++ argument ∷ []) (other_values rest)
argument_read bytes slots rest argument so_far room arrow found =
    let count : 6 - length slots ≡ 7 - length (slots ++ argument ∷ []) = omega (arith, length-append slots (argument ∷ [])) in
    with_room bytes slots rest so_far room
    ∙ ap (option_map (λ more. slots ++ more))
    (slots_at_argument (6 - length slots) rest arrow
    ∙ ap (option_and_then (λ argument. option_map (λ slots. argument ∷ slots) (slots_read (6 - length slots) (other_values rest)))) found)
    ∙ map_twice slots argument (slots_read (6 - length slots) (other_values rest))
    ∙ ap (λ n. option_map (λ more. (slots ++ argument ∷ []) ++ more) (slots_read n (other_values rest))) count

-- an arrow is no value
arrow_spells_none : value_of (codes "->") ≡ None
unfolding value_of integer_of digits
arrow_spells_none = refl

-- nothing is none either
nothing_spells_none : value_of [] ≡ None
unfolding value_of integer_of digits
nothing_spells_none = refl

-- where bytes don't begin with an arrow and a space, no result stands behind a first value that is an arrow
nothing_behind_arrow : (bytes : List ℕ) → ((rest : List ℕ) → bytes ≢ 45 ∷ 62 ∷ 32 ∷ rest) → bytes_eq (first_value bytes) (codes "->") ≡ true
    → value_of (other_values bytes) ≡ None
nothing_behind_arrow bytes never arrow =
    elim (cases_lt 0 (length (other_values bytes))) [
      | inl some ↦
          let is = (bytes_decides (first_value bytes) (codes "->")).0 arrow in
          absurd (never (other_values bytes) (values_joined bytes some ∙ ap (λ word. word ++ 32 ∷ other_values bytes) is))
      | inr none ↦ ap value_of (nil_from_length (other_values bytes) (omega arith)) ∙ nothing_spells_none
    ]

value_is_no_arrow : (bytes : List ℕ) (value : Value) → value_of bytes ≡ Some value → bytes_eq bytes (codes "->") ≡ false
value_is_no_arrow bytes value found =
    false_from_ne_true _ (λ same.
    none-some value (sym arrow_spells_none ∙ ap value_of (sym ((bytes_decides bytes (codes "->")).0 same)) ∙ found))

pub result_found : (bytes : List ℕ) (slots : List Value) (rest last : List ℕ) (result : Value) → SoFar bytes slots rest → length slots < 7
    → rest ≡ 45 ∷ 62 ∷ 32 ∷ last → value_of last ≡ Some result → slots_read 7 bytes ≡ Some (slots ++ result ∷ [])
result_found bytes slots rest last result so_far room is found =
    result_read bytes slots rest result so_far room (rw (is, arrow_before last) refl) (rw (is, arrow_behind last) found)

pub result_missed : (bytes : List ℕ) (slots : List Value) (rest last : List ℕ) → SoFar bytes slots rest → length slots < 7
    → rest ≡ 45 ∷ 62 ∷ 32 ∷ last → value_of last ≡ None → slots_read 7 bytes ≡ None
result_missed bytes slots rest last so_far room is none =
    result_refused bytes slots rest so_far room (rw (is, arrow_before last) refl) (rw (is, arrow_behind last) none)

pub argument_found : (bytes : List ℕ) (slots : List Value) (rest : List ℕ) (argument : Value) → SoFar bytes slots rest → length slots < 7
    → value_of (first_value rest) ≡ Some argument → SoFar bytes (slots ++ argument ∷ []) (other_values rest)
argument_found bytes slots rest argument so_far room found =
    argument_read bytes slots rest argument so_far room (value_is_no_arrow (first_value rest) argument found) found

-- no slots stand in nothing
nothing_first : first_value [] ≡ []
unfolding value_length
nothing_first = refl

nothing_read : (room : ℕ) → slots_read room [] ≡ None
nothing_read zero = no_room []
nothing_read (suc room) =
    slots_at_argument room [] (ap (λ word. bytes_eq word (codes "->")) nothing_first)
    ∙ ap (option_and_then (λ argument. option_map (λ slots. argument ∷ slots) (slots_read room (other_values []))))
    (ap value_of nothing_first ∙ nothing_spells_none)

pub argument_alone : (bytes : List ℕ) (slots : List Value) (rest : List ℕ) (argument : Value) → SoFar bytes slots rest → length slots < 7
    → value_of (first_value rest) ≡ Some argument → length rest ≤ value_length Outside rest → slots_read 7 bytes ≡ None
argument_alone bytes slots rest argument so_far room found all =
    let none : other_values rest ≡ [] =
    nil_from_length (other_values rest) (omega (arith, length-drop (value_length Outside rest + 1) rest)) in
    argument_found bytes slots rest argument so_far room found
    ∙ ap (λ rest. option_map (λ more. (slots ++ argument ∷ []) ++ more) (slots_read (7 - length (slots ++ argument ∷ [])) rest)) none
    ∙ ap (option_map (λ more. (slots ++ argument ∷ []) ++ more)) (nothing_read (7 - length (slots ++ argument ∷ [])))

pub argument_missed : (bytes : List ℕ) (slots : List Value) (rest : List ℕ) → SoFar bytes slots rest → length slots < 7
    → ((last : List ℕ) → rest ≢ 45 ∷ 62 ∷ 32 ∷ last) → value_of (first_value rest) ≡ None → slots_read 7 bytes ≡ None
argument_missed bytes slots rest so_far room never none =
    elim (cases_Bool (bytes_eq (first_value rest) (codes "->"))) [
      | inl arrow ↦ result_refused bytes slots rest so_far room arrow (nothing_behind_arrow rest never arrow)
      | inr other ↦ argument_refused bytes slots rest so_far room other none
    ]

pub too_many : (bytes : List ℕ) (slots : List Value) (rest : List ℕ) → SoFar bytes slots rest → 7 ≤ length slots → slots_read 7 bytes ≡ None
too_many bytes slots rest so_far full =
    let none : 7 - length slots ≡ 0 = omega arith in
    so_far ∙ ap (λ n. option_map (λ more. slots ++ more) (slots_read n rest)) none ∙ ap (option_map (λ more. slots ++ more)) (no_room rest)

-- Steps of the test that bytes spell slots.
with_one : (room : ℕ) → 0 < room → room ≡ suc (room - 1)
with_one room some = omega arith

some_made : {A B : Type 0} (f : A → B) (found : Option A) → is_some (option_map f found) ≡ is_some found
some_made f (Some x) = refl
some_made f None = refl

some_behind : {A B C : Type 0} (f : A → B → C) (first : Option A) (others : Option B) → is_some first ≡ true
    → is_some (option_and_then (λ x. option_map (f x) others) first) ≡ is_some others
some_behind f (Some x) others some = some_made (f x) others
some_behind f None others some = cc

none_behind : {A B C : Type 0} (f : A → B → C) (first : Option A) (others : Option B) → is_some first ≡ false
    → is_some (option_and_then (λ x. option_map (f x) others) first) ≡ false
none_behind f (Some x) others none = cc
none_behind f None others none = refl

pub tested_without_room : (room : ℕ) (bytes : List ℕ) → room ≡ 0 → is_some (slots_read room bytes) ≡ false
tested_without_room room bytes none = ap (λ n. is_some (slots_read n bytes)) none ∙ ap is_some (no_room bytes)

pub tested_at_arrow : (room : ℕ) (bytes : List ℕ) → 0 < room → bytes_eq (first_value bytes) (codes "->") ≡ true
    → is_some (slots_read room bytes) ≡ is_some (value_of (other_values bytes))
tested_at_arrow room bytes some arrow =
    ap (λ n. is_some (slots_read n bytes)) (with_one room some) ∙ ap is_some (slots_at_arrow (room - 1) bytes arrow)
    ∙ some_made (λ result. result ∷ []) (value_of (other_values bytes))

pub tested_at_argument : (room : ℕ) (bytes : List ℕ) → 0 < room → bytes_eq (first_value bytes) (codes "->") ≡ false
    → is_some (value_of (first_value bytes)) ≡ true → is_some (slots_read room bytes) ≡ is_some (slots_read (room - 1) (other_values bytes))
tested_at_argument room bytes some arrow value =
    ap (λ n. is_some (slots_read n bytes)) (with_one room some) ∙ ap is_some (slots_at_argument (room - 1) bytes arrow)
    ∙ some_behind (λ argument slots. argument ∷ slots) (value_of (first_value bytes)) (slots_read (room - 1) (other_values bytes)) value

pub tested_at_no_value : (room : ℕ) (bytes : List ℕ) → 0 < room → bytes_eq (first_value bytes) (codes "->") ≡ false
    → is_some (value_of (first_value bytes)) ≡ false → is_some (slots_read room bytes) ≡ false
tested_at_no_value room bytes some arrow none =
    ap (λ n. is_some (slots_read n bytes)) (with_one room some) ∙ ap is_some (slots_at_argument (room - 1) bytes arrow)
    ∙ none_behind (λ argument slots. argument ∷ slots) (value_of (first_value bytes)) (slots_read (room - 1) (other_values bytes)) none

-- what a passed test found, and that a failed one found nothing
pub slots_there : {A : Type 0} (found : Option A) → is_some found ≡ true → (x : A) × (found ≡ Some x)
slots_there (Some x) some = (x, refl)
slots_there None some = cc

pub nothing_there : {A : Type 0} (found : Option A) → is_some found ≡ false → found ≡ None
nothing_there (Some x) none = cc
nothing_there None none = refl

no_arrow : (value : Value) → IsValue value → bytes_eq (value_spelling value) (codes "->") ≡ false
no_arrow value range =
    false_from_ne_true _ (λ same.
    let is = (bytes_decides (value_spelling value) (codes "->")).0 same in
    none-some value (sym arrow_spells_none ∙ ap value_of (sym is) ∙ value_found value range))

-- slots are found in their spelling
slots_found_in : (slots : List Value) (room : ℕ) → 1 ≤ length slots → length slots ≤ room → AllByRecursion IsValue slots
    → slots_read room (slots_spelling slots) ≡ Some slots
slots_found_in [] room some few each = absurd (omega arith)
slots_found_in (slot ∷ slots) zero some few each = absurd (omega arith)
slots_found_in (result ∷ []) (suc room) some few each =
    slots_at_arrow room (slots_spelling (result ∷ [])) (rw (arrow_before (value_spelling result)) refl)
    ∙ rw (arrow_behind (value_spelling result), value_found result each.0) refl
slots_found_in (argument ∷ slot ∷ slots) (suc room) some few each =
    let before = value_before argument (slots_spelling (slot ∷ slots)) each.0 in
    let behind = value_behind argument (slots_spelling (slot ∷ slots)) each.0 in
    let more = slots_found_in (slot ∷ slots) room (omega arith) (omega arith) each.1 in
    slots_at_argument room (slots_spelling (argument ∷ slot ∷ slots)) (ap (λ word. bytes_eq word (codes "->")) before ∙ no_arrow argument each.0)
    ∙ rw (before, behind, value_found argument each.0, more) refl

pub slots_found : (slots : List Value) → AreSlots slots → slots_read 7 (slots_spelling slots) ≡ Some slots
slots_found slots are = slots_found_in slots 7 are.some are.few (each_by_recursion _ slots are.each)

-- and only there
abbrev SlotsSaid : ℕ → List ℕ → List Value → Type 0
SlotsSaid room bytes slots =
    (1 ≤ length slots) × (length slots ≤ room) × AllByRecursion IsValue slots × (slots_spelling slots ≡ bytes) × (0 < length bytes)

-- a value is spelled by one byte or more
spelled : (value : Value) → IsValue value → 0 < length (value_spelling value)
spelled Nil range = omega arith
spelled (Truth true) range = omega arith
spelled (Truth false) range = omega arith
spelled (Int (pos n)) range = decimal_nonempty n (omega (arith, range.sfits))
spelled (Int (negsuc n)) range = omega arith
spelled (Text text) range = omega arith

pub one_more : (argument : Value) (slots : List Value) → 1 ≤ length slots
    → slots_spelling (argument ∷ slots) ≡ words_apart (value_spelling argument) (slots_spelling slots)
one_more argument [] some = absurd (omega arith)
one_more argument (slot ∷ slots) some = refl

-- two words, a space apart, are the bytes
said_apart : (bytes first second : List ℕ) → first_value bytes ≡ first → other_values bytes ≡ second → 0 < length second
    → (words_apart first second ≡ bytes) × (0 < length bytes)
said_apart bytes first second before behind some =
    let more : 0 < length (other_values bytes) = omega (arith, ap length behind) in
    let joined = values_joined bytes more in
    let all : words_apart first second ≡ bytes =
    ap (λ word. word ++ 32 ∷ second) (sym before) ∙ ap (λ rest. first_value bytes ++ 32 ∷ rest) (sym behind) ∙ sym joined in
    (all, omega (arith, length-append first (32 ∷ second), ap length all))

result_said : (room : ℕ) (bytes : List ℕ) (result : Value) → bytes_eq (first_value bytes) (codes "->") ≡ true
    → value_of (other_values bytes) ≡ Some result → SlotsSaid (suc room) bytes (result ∷ [])
result_said room bytes result arrow found =
    let said = value_said (other_values bytes) result found in
    let all = said_apart bytes (codes "->") (value_spelling result) ((bytes_decides (first_value bytes) (codes "->")).0 arrow) said.1
    (spelled result said.0) in
    (omega arith, omega arith, (said.0, tt), all.0, all.1)

argument_said : (room : ℕ) (bytes : List ℕ) (argument : Value) (slots : List Value) → value_of (first_value bytes) ≡ Some argument
    → SlotsSaid room (other_values bytes) slots → SlotsSaid (suc room) bytes (argument ∷ slots)
argument_said room bytes argument slots found rest =
    let said = value_said (first_value bytes) argument found in
    let some : 0 < length (slots_spelling slots) = omega (arith, rest.4, ap length rest.3) in
    let all = said_apart bytes (value_spelling argument) (slots_spelling slots) said.1 (sym rest.3) some in
    (omega arith, omega (arith, rest.1), (said.0, rest.2), one_more argument slots rest.0 ∙ all.0, all.1)

slots_said_in : (room : ℕ) (bytes : List ℕ) → IfSome (slots_read room bytes) (SlotsSaid room bytes)
unfolding slots_read
slots_said_in zero bytes = tt
slots_said_in (suc room) bytes =
    let Said : List Value → Type 0 = SlotsSaid (suc room) bytes in
    if_some Said _ _ _
    (λ arrow. map_found Said (λ result. result ∷ []) (value_of (other_values bytes)) (λ result found. result_said room bytes result arrow found))
    (then_found Said _ (value_of (first_value bytes)) (λ argument found.
    map_found Said (λ slots. argument ∷ slots) (slots_read room (other_values bytes)) (λ slots more.
    argument_said room bytes argument slots found
    (MatchOption-at_some ⊤ (SlotsSaid room (other_values bytes)) slots more (slots_said_in room (other_values bytes))))))

pub slots_said : (bytes : List ℕ) (slots : List Value) → slots_read 7 bytes ≡ Some slots
    → AreSlots slots × (slots_spelling slots ≡ bytes) × (0 < length bytes)
slots_said bytes slots found =
    let said = MatchOption-at_some ⊤ (SlotsSaid 7 bytes) slots found (slots_said_in 7 bytes) in
    (record { some = said.0; few = said.1; each = each_from_recursion _ slots said.2 }, said.3, said.4)
