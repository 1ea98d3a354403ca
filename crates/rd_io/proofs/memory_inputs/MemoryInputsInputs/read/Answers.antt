use Rattle.std.proofs.lemmas.Grind.{common_steps, elements}
use Rattle.std.proofs.Common.{◌≡◌, ◌<◌, ◌≤◌, ◌-◌, Some, length, take, drop, refl, sym, ap, ◌∙◌, arith}
use Rattle.std.specs.Prelude.{slice_get}
use Rattle.std.proofs.lemmas.List.{take_rest}
use Rattle.std.proofs.lemmas.Option.{slice_get_read}
use Rattle.rd_io.specs.MemoryInputs.{StoredFile, InputsState, bytes_at, piece_at, source_of, with_taken}
use Rattle.rd_io.specs.contracts.memory_inputs.File as file
use Rattle.rd_io.specs.contracts.memory_inputs.MemoryInputs.{the_view}
use Rattle.rd_io.proofs.StoredFileLemmas.{taken_more, read_told, ends_at_nothing}
use Rattle.rd_io.proofs.memory_inputs.MemoryInputsInputs.read.Goals as goal

within : (c : goal.After-self-1) → c.in-Some.index < length c.self.inside.files.items
within c = c.self.invariant.file c.in-Some.index c.in-Some.is

current : (c : goal.After-self-1) → slice_get c.self.inside.files.items c.in-Some.index ≡ Some (file.the_view c.file.inside)
current c = slice_get_read _ _ _ _ refl (within c) c.index-file.ensures ∙ ap Some (sym c.file.view_is)

held_is : (c : goal.After-self-1)
    → take (length c.deref.result.now - c.self.inside.position) (drop c.self.inside.position c.deref.result.now) ≡ c.args.self.now.held
held_is c =
    let bytes : bytes_at c.self.inside.files.items c.self.inside.current ≡ c.file.inside.bytes.items = rw (c.in-Some.is, current c) refl in
    take_rest c.deref.result.now c.self.inside.position
    ∙ ap (drop c.self.inside.position) (c.deref.ensures.value ∙ sym bytes)
    ∙ ap (λ (s : InputsState). s.held) c.self.view_is

piece_is : (c : goal.After-self-1) → c.file.inside.piece ≡ c.args.self.now.piece
piece_is c =
    let piece : piece_at c.self.inside.files.items c.self.inside.current ≡ c.file.inside.piece = rw (c.in-Some.is, current c) refl in
    sym piece ∙ ap (λ (s : InputsState). s.piece) c.self.view_is

pub returns-clause-amount : goal.returns-clause-amount
returns-clause-amount c =
    let piece = piece_is c in let held = held_is c in cc c.take_piece-count.ensures.count

pub returns-clause-ok : goal.returns-clause-ok
returns-clause-ok c =
    taken_more (the_view c.self.inside) (bytes_at c.self.inside.files.items c.self.inside.current) _ _ _ refl refl c.is_next_failing.ensures.counted
    ∙ ap (λ (s : InputsState). with_taken s c.take_piece-count.result) c.self.view_is

pub returns-clause-told : goal.returns-clause-told
returns-clause-told c =
    let given = c.self.invariant.pieces c.in-Some.index c.index-file.result.now (within c) in
    let item = ap (λ (f : StoredFile). f.piece) (c.file.view_is ∙ c.index-file.ensures) in
    let piece = piece_is c in
    let some : 1 ≤ c.args.self.now.piece = omega arith in
    read_told c.args.self.now _ _ _ (ap source_of (returns-clause-ok c))
    (c.take_piece-count.ensures.taken ∙ ap (take c.take_piece-count.result) (held_is c))
    (λ none room. ends_at_nothing c.args.self.now _ _ some (returns-clause-amount c) none (omega arith))
    (λ unopened.
    let here : c.self.inside.opens ≡ 0 = ap (λ (s : InputsState). s.opens) c.self.view_is ∙ unopened in
    let none = c.self.invariant.opened here in
    let at = c.in-Some.is in
    cc)

pub invariant_of-self : goal.invariant_of-self
invariant_of-self c = grind (arith, common_steps)

pub returns-then-is_next_failing-clause-bound : goal.returns-then-is_next_failing-clause-bound
returns-then-is_next_failing-clause-bound c = grind (arith, common_steps)

pub returns-then-is_next_failing-clause-told : goal.returns-then-is_next_failing-clause-told
returns-then-is_next_failing-clause-told c = grind (arith, common_steps)

pub returns-then-is_next_failing-clause-cause : goal.returns-then-is_next_failing-clause-cause
returns-then-is_next_failing-clause-cause c = grind (arith, common_steps)

pub returns-then-is_next_failing-clause-amount : goal.returns-then-is_next_failing-clause-amount
returns-then-is_next_failing-clause-amount c = grind (arith, common_steps)

pub returns-then-is_next_failing-clause-ok : goal.returns-then-is_next_failing-clause-ok
returns-then-is_next_failing-clause-ok c = grind (arith, common_steps)

pub returns-then-is_next_failing-clause-err : goal.returns-then-is_next_failing-clause-err
returns-then-is_next_failing-clause-err c = grind (arith, common_steps)

pub invariant_of-self-in_default : goal.invariant_of-self-in_default
invariant_of-self-in_default c = grind (arith, common_steps)

pub returns-in_default-clause-bound : goal.returns-in_default-clause-bound
returns-in_default-clause-bound c = grind (arith, common_steps)

pub returns-in_default-clause-told : goal.returns-in_default-clause-told
returns-in_default-clause-told c = grind (arith, common_steps)

pub returns-in_default-clause-cause : goal.returns-in_default-clause-cause
returns-in_default-clause-cause c = grind (arith, common_steps)

pub returns-in_default-clause-refused : goal.returns-in_default-clause-refused
returns-in_default-clause-refused c = grind (arith, common_steps)

pub returns-in_default-clause-amount : goal.returns-in_default-clause-amount
returns-in_default-clause-amount c = grind (arith, common_steps)

pub returns-in_default-clause-ok : goal.returns-in_default-clause-ok
returns-in_default-clause-ok c = grind (arith, common_steps)

pub returns-in_default-clause-err : goal.returns-in_default-clause-err
returns-in_default-clause-err c = grind (arith, common_steps)

pub index-file-requires : goal.index-file-requires
index-file-requires c = grind (arith, common_steps)

pub slice_bounds-take_piece-end : goal.slice_bounds-take_piece-end
slice_bounds-take_piece-end c = grind (arith, common_steps)

pub overflow_add-self : goal.overflow_add-self
overflow_add-self c = grind (arith, common_steps)

pub returns-clause-bound : goal.returns-clause-bound
returns-clause-bound c = grind (arith, common_steps)

pub returns-clause-cause : goal.returns-clause-cause
returns-clause-cause c = grind (arith, common_steps)

pub returns-clause-refused : goal.returns-clause-refused
returns-clause-refused c = grind (arith, common_steps)

pub returns-clause-err : goal.returns-clause-err
returns-clause-err c = grind (arith, common_steps)

pub returns-then-is_next_failing-clause-refused : goal.returns-then-is_next_failing-clause-refused
returns-then-is_next_failing-clause-refused c = grind (arith, elements)

pub slice_bounds-take_piece-count : goal.slice_bounds-take_piece-count
slice_bounds-take_piece-count c = grind (arith, elements)

pub slice_bounds-take_piece-start : goal.slice_bounds-take_piece-start
slice_bounds-take_piece-start c = grind (arith, elements)

pub invariant_of-self-2 : goal.invariant_of-self-2
invariant_of-self-2 c = grind (arith, elements)
