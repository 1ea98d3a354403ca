-- The texts of the lines of a kind and of its methods, part by part.
use Rattle.std.proofs.Common.{◌≡◌, ℕ, ◌-◌, List, [], ◌∷◌, ◌++◌, codes, length, flat_map, map, refl, sym, ◌∙◌, ap, append_assoc, append-nil}
use Rattle.std.specs.List.{range_with_len}
use Rattle.std.proofs.lemmas.Grind.{flat_map-append}
use Rattle.std.proofs.lemmas.List.Folds.{flat_map-map}
use Rattle.rd_print.specs.Canonical.{plain_word}
use Rattle.rd_ecl.specs.declared.kinds.Method.{Method}
use Rattle.rd_ecl.specs.Specified.{SpecifiedKind}
use Rattle.rd_print.specs.Text.{words_text}
use Rattle.rd_print.specs.Printed.{block_lines, block_text, commute_words, kind_words, printed_line, method_words, pairs_of, slot_words, spec_text}
use Rattle.rd_print.specs.Writing.{methods_text, pairs_text, spaced_text}
use Rattle.rd_print.proofs.JoinLemmas.{flat_of_flat, flat_same}

-- arguments, each behind a space
abbrev pub arguments_text : List (List ℕ) → List ℕ
arguments_text arguments = flat_map (λ name. codes " " ++ name) arguments

argument_first : (argument last : List ℕ) (more : List (List ℕ)) → slot_words (argument ∷ more ++ last ∷ []) ≡ plain_word argument ∷ slot_words (more ++ last ∷ [])
argument_first argument last [] = refl
argument_first argument last (next ∷ more) = refl

pub slots_text : (arguments : List (List ℕ)) (last : List ℕ) → spaced_text (slot_words (arguments ++ last ∷ [])) ≡ arguments_text arguments ++ (codes " -> " ++ last)
slots_text [] last = ap (λ (xs : List ℕ). codes " -> " ++ xs) (append-nil last)
slots_text (argument ∷ more) last =
    ap spaced_text (argument_first argument last more)
    ∙ ap (λ (xs : List ℕ). (codes " " ++ argument) ++ xs) (slots_text more last)
    ∙ sym (append_assoc (codes " " ++ argument) (arguments_text more) (codes " -> " ++ last))

-- what is written of variables: the arguments, then the result
pub slots_by : (before text new : List ℕ) (variables arguments : List (List ℕ)) (last : List ℕ) → variables ≡ arguments ++ last ∷ []
    → text ≡ before ++ arguments_text arguments → new ≡ (text ++ codes " -> ") ++ last → new ≡ before ++ spaced_text (slot_words variables)
slots_by before text new variables arguments last is done here =
    here ∙ ap (λ (xs : List ℕ). (xs ++ codes " -> ") ++ last) done
    ∙ append_assoc (before ++ arguments_text arguments) (codes " -> ") last
    ∙ append_assoc before (arguments_text arguments) (codes " -> " ++ last)
    ∙ ap (λ (xs : List ℕ). before ++ xs) (sym (slots_text arguments last))
    ∙ ap (λ (names : List (List ℕ)). before ++ spaced_text (slot_words names)) (sym is)

-- variables behind a word
slots_behind : (bytes : List ℕ) (variables : List (List ℕ)) → words_text (plain_word bytes ∷ slot_words variables) ≡ bytes ++ spaced_text (slot_words variables)
slots_behind bytes [] = sym (append-nil bytes)
slots_behind bytes (last ∷ []) =
    append_assoc bytes (codes " ") (codes "-> " ++ last) ∙ ap (λ (xs : List ℕ). bytes ++ (codes " -> " ++ xs)) (sym (append-nil last))
slots_behind bytes (argument ∷ next ∷ more) =
    ap (λ (xs : List ℕ). (bytes ++ codes " ") ++ xs) (slots_behind argument (next ∷ more))
    ∙ append_assoc bytes (codes " ") (argument ++ spaced_text (slot_words (next ∷ more)))

method_line : (method : Method)
    → printed_line (method_words method) ≡ (codes "method " ++ (method.name ++ spaced_text (slot_words method.variables))) ++ codes "\n"
method_line method = ap (λ (xs : List ℕ). (codes "method " ++ xs) ++ codes "\n") (slots_behind method.name method.variables)

method_parts : (text name slots : List ℕ) → (((text ++ codes "method ") ++ name) ++ slots) ++ codes "\n" ≡ text ++ ((codes "method " ++ (name ++ slots)) ++ codes "\n")
method_parts text name slots = simp append_assoc

pub method_by : (text new : List ℕ) (method : Method)
    → new ≡ (((text ++ codes "method ") ++ method.name) ++ spaced_text (slot_words method.variables)) ++ codes "\n" → new ≡ text ++ printed_line (method_words method)
method_by text new method here =
    here ∙ method_parts text method.name (spaced_text (slot_words method.variables)) ∙ ap (λ (xs : List ℕ). text ++ xs) (sym (method_line method))

-- the lines of the pairs
pairs_lines : (kind : SpecifiedKind) (count : ℕ) → flat_map printed_line (map (commute_words kind) (pairs_of count))
    ≡ flat_map (λ first. flat_map (λ second. printed_line (commute_words kind (first, second))) (range_with_len first (count - first))) (range_with_len 0 count)
pairs_lines kind count =
    flat_map-map printed_line (commute_words kind) (pairs_of count)
    ∙ flat_of_flat (λ (pair : ℕ × ℕ). printed_line (commute_words kind pair)) (λ first. map (λ second. (first, second)) (range_with_len first (count - first))) (range_with_len 0 count)
    ∙ flat_same _ _ (range_with_len 0 count)
    (λ first. flat_map-map (λ (pair : ℕ × ℕ). printed_line (commute_words kind pair)) (λ second. (first, second)) (range_with_len first (count - first)))

-- the lines of a kind
kind_lines : (kind : SpecifiedKind) → block_text kind ≡ (printed_line (kind_words kind) ++ methods_text kind.methods) ++ pairs_text kind
kind_lines kind =
    let methods = map method_words kind.methods in
    let pairs = map (commute_words kind) (pairs_of (length kind.methods)) in
    let head = printed_line (kind_words kind) in
    ap (λ (xs : List ℕ). head ++ xs) (flat_map-append printed_line methods pairs)
    ∙ ap (λ (xs : List ℕ). head ++ (xs ++ flat_map printed_line pairs)) (flat_map-map printed_line method_words kind.methods)
    ∙ ap (λ (xs : List ℕ). head ++ (methods_text kind.methods ++ xs)) (pairs_lines kind (length kind.methods))
    ∙ sym (append_assoc head (methods_text kind.methods) (pairs_text kind))

kind_parts : (text head methods pairs : List ℕ) → ((text ++ head) ++ methods) ++ pairs ≡ text ++ ((head ++ methods) ++ pairs)
kind_parts text head methods pairs = simp append_assoc

pub kind_by : (text new : List ℕ) (kind : SpecifiedKind) → new ≡ ((text ++ printed_line (kind_words kind)) ++ methods_text kind.methods) ++ pairs_text kind
    → new ≡ text ++ block_text kind
kind_by text new kind here =
    here ∙ kind_parts text (printed_line (kind_words kind)) (methods_text kind.methods) (pairs_text kind)
    ∙ ap (λ (xs : List ℕ). text ++ xs) (sym (kind_lines kind))

-- the lines of a specification
pub spec_lines_text : (kinds : List SpecifiedKind) → spec_text kinds ≡ codes "rdspec 1\n" ++ flat_map block_text kinds
spec_lines_text kinds = ap (λ (xs : List ℕ). codes "rdspec 1\n" ++ xs) (flat_of_flat printed_line block_lines kinds)
