-- `call_read` finds a call exactly in its spelling.
use Rattle.std.proofs.Common.{◌≡◌, ℕ, ◌<◌, List, ◌∷◌, ◌++◌, length, refl, sym, ◌∙◌, ap, arith, codes, Some, IfSome, length-append}
use Rattle.std.specs.List.{before_first, after_first}
use Rattle.rd_base.specs.Bytes.{is_space}
use Rattle.rd_base.specs.declared.values.Value.{Value}
use Rattle.rd_base.specs.Names.{IsName}
use Rattle.rd_base.proofs.FoundLemmas.{map_found, then_found}
use Rattle.rd_event.specs.declared.items.LineEvent.{LineEvent}
use Rattle.rd_event.specs.declared.items.LineEvent.TheVariants.{Call}
use Rattle.rd_event.specs.Items.{IsEvent, HasEvent, AreSlots, words_apart, event_spelling, slots_spelling}
use Rattle.rd_event.specs.Reading.{name_read, call_read}
use Rattle.rd_event.specs.ReadingSlots.{slots_read}
use Rattle.rd_event.proofs.SlotLemmas.{slots_found, slots_said}
use Rattle.rd_event.proofs.WordLemmas.{name_is, cut_joined, before_space, after_space, name_found}

-- two words, a space apart, are the bytes
said_apart : (bytes first second : List ℕ) → first ≡ before_first is_space bytes → second ≡ after_first is_space bytes
    → 0 < length second → (words_apart first second ≡ bytes) × (0 < length bytes)
said_apart bytes first second before behind some =
    let more : 0 < length (after_first is_space bytes) = omega (arith, ap length behind) in
    let all : words_apart first second ≡ bytes =
    ap (λ word. word ++ 32 ∷ second) before ∙ ap (λ rest. before_first is_space bytes ++ 32 ∷ rest) behind
    ∙ sym (cut_joined bytes more) in
    (all, omega (arith, length-append first (32 ∷ second), ap length all))

-- What is found is said.
abbrev pub CallSaid : List ℕ → LineEvent → Type 0
CallSaid rest event =
    IsEvent event × (codes "call" ++ 32 ∷ rest ≡ event_spelling event) × (0 < length rest) × ((version : ℕ) → HasEvent version event)

parts_said : (rest names words thread object method : List ℕ) (slots : List Value)
    → names ≡ after_first is_space rest → words ≡ after_first is_space names
    → name_read (before_first is_space rest) ≡ Some thread → name_read (before_first is_space names) ≡ Some object
    → name_read (before_first is_space words) ≡ Some method → slots_read 7 (after_first is_space words) ≡ Some slots
    → CallSaid rest (Call thread object method slots)
parts_said rest names words thread object method slots is_names is_words thread_found object_found method_found slots_are =
    let first = name_is _ thread thread_found in
    let second = name_is _ object object_found in
    let third = name_is _ method method_found in
    let values = slots_said _ slots slots_are in
    let some : 0 < length (slots_spelling slots) = omega (arith, values.2, ap length values.1) in
    let method_on = said_apart words method (slots_spelling slots) third.1 values.1 some in
    let object_on = said_apart names object words second.1 is_words method_on.1 in
    let thread_on = said_apart rest thread names first.1 is_names object_on.1 in
    let whole : words_apart thread (words_apart object (words_apart method (slots_spelling slots))) ≡ rest =
    ap (λ more. words_apart thread (words_apart object more)) method_on.0 ∙ ap (words_apart thread) object_on.0 ∙ thread_on.0 in
    ((first.0, second.0, third.0, values.0), ap (λ all. codes "call" ++ 32 ∷ all) (sym whole), thread_on.1, (λ version. tt))

pub call_said : (rest : List ℕ) → IfSome (call_read rest) (CallSaid rest)
unfolding call_read
call_said rest =
    let Said : LineEvent → Type 0 = CallSaid rest in
    let names = after_first is_space rest in
    let words = after_first is_space names in
    then_found Said _ (name_read (before_first is_space rest)) (λ thread thread_found.
    then_found Said _ (name_read (before_first is_space names)) (λ object object_found.
    then_found Said _ (name_read (before_first is_space words)) (λ method method_found.
    map_found Said _ (slots_read 7 (after_first is_space words)) (λ slots slots_are.
    parts_said rest names words thread object method slots refl refl thread_found object_found method_found slots_are))))

-- What is said is found.
pub call_found : (thread object method : List ℕ) (slots : List Value) → IsName thread → IsName object → IsName method → AreSlots slots
    → call_read (words_apart thread (words_apart object (words_apart method (slots_spelling slots)))) ≡ Some (Call thread object method slots)
unfolding call_read
call_found thread object method slots first second third values =
    let words = words_apart method (slots_spelling slots) in
    let names = words_apart object words in
    rw (
      before_space thread names first,
      after_space thread names first,
      before_space object words second,
      after_space object words second,
      before_space method (slots_spelling slots) third,
      after_space method (slots_spelling slots) third,
      name_found thread first,
      name_found object second,
      name_found method third,
      slots_found slots values,
    ) refl

-- the call of three names and slots, each read from what stands behind the one before it
pub call_there : (rest names words values thread object method : List ℕ) (slots : List Value)
    → name_read (before_first is_space rest) ≡ Some thread → names ≡ after_first is_space rest
    → name_read (before_first is_space names) ≡ Some object → words ≡ after_first is_space names
    → name_read (before_first is_space words) ≡ Some method → values ≡ after_first is_space words
    → slots_read 7 values ≡ Some slots → call_read rest ≡ Some (Call thread object method slots)
unfolding call_read
call_there rest names words values thread object method slots thread_found names_are object_found words_are method_found values_are found =
    rw (sym names_are, sym words_are, sym values_are, thread_found, object_found, method_found, found) refl
