-- What is put behind a text, slot by slot, is the spelling of the slots.
use Rattle.std.proofs.Common.{◌≡◌, ℕ, ◌+◌, ◌-◌, ◌≤◌, List, [], ◌∷◌, ◌++◌, length, take, get_or, flat_map, refl, sym, ◌∙◌, ap, arith, append_assoc, length-append}
use Rattle.std.proofs.lemmas.List.{take_more, take_all}
use Rattle.rd_base.specs.declared.values.Value.{Value}
use Rattle.rd_base.specs.Spelling.{value_spelling}
use Rattle.rd_event.specs.Items.{slots_spelling}
use Rattle.rd_event.proofs.SlotLemmas.{one_more}

-- an argument and its space
abbrev pub argument_spelling : Value → List ℕ
argument_spelling argument = value_spelling argument ++ 32 ∷ []

slots_joined : (arguments : List Value) (last : Value)
    → slots_spelling (arguments ++ last ∷ []) ≡ flat_map argument_spelling arguments ++ (45 ∷ 62 ∷ 32 ∷ value_spelling last)
slots_joined [] last = refl
slots_joined (argument ∷ arguments) last =
    let rest = flat_map argument_spelling arguments ++ (45 ∷ 62 ∷ 32 ∷ value_spelling last) in
    one_more argument (arguments ++ last ∷ []) (omega (arith, length-append arguments (last ∷ [])))
    ∙ ap (λ more. value_spelling argument ++ 32 ∷ more) (slots_joined arguments last)
    ∙ sym (append_assoc (value_spelling argument) (32 ∷ []) rest)
    ∙ sym (append_assoc (argument_spelling argument) (flat_map argument_spelling arguments) (45 ∷ 62 ∷ 32 ∷ value_spelling last))

-- slots are the arguments and the last
last_apart : (slots : List Value) (last : Value) → 1 ≤ length slots → last ≡ get_or slots (length slots - 1) last
    → slots ≡ take (length slots - 1) slots ++ last ∷ []
last_apart slots last some is =
    let all : length slots ≤ length slots - 1 + 1 = omega arith in
    sym (take_all (length slots - 1 + 1) slots all)
    ∙ take_more slots (length slots - 1) last (omega arith)
    ∙ ap (λ slot. take (length slots - 1) slots ++ slot ∷ []) (sym is)

pub slots_appended : (start text arrow end : List ℕ) (slots : List Value) (last : Value) (index : ℕ) → 1 ≤ length slots
    → last ≡ get_or slots (length slots - 1) last → length (take (length slots - 1) slots) ≤ index
    → text ≡ start ++ flat_map argument_spelling (take index (take (length slots - 1) slots))
    → arrow ≡ text ++ 45 ∷ 62 ∷ 32 ∷ [] → end ≡ arrow ++ value_spelling last
    → end ≡ start ++ slots_spelling slots
slots_appended start text arrow end slots last index some is_last ended is_text is_arrow is_end =
    let front = take (length slots - 1) slots in
    let arguments = flat_map argument_spelling front in
    let whole : text ≡ start ++ arguments =
    is_text ∙ ap (λ items. start ++ flat_map argument_spelling items) (take_all index front ended) in
    is_end ∙ ap (λ text. text ++ value_spelling last) (is_arrow ∙ ap (λ text. text ++ 45 ∷ 62 ∷ 32 ∷ []) whole)
    ∙ append_assoc (start ++ arguments) (45 ∷ 62 ∷ 32 ∷ []) (value_spelling last)
    ∙ append_assoc start arguments (45 ∷ 62 ∷ 32 ∷ value_spelling last)
    ∙ ap (λ rest. start ++ rest) (sym (slots_joined front last))
    ∙ ap (λ slots. start ++ slots_spelling slots) (sym (last_apart slots last some is_last))
