use Rattle.std.proofs.Common.{◌≡◌, None, Some, refl, sym, ap, subst, ◌∙◌, inl, inr}
use Rattle.std.specs.Prelude.{slice_get}
use Rattle.rd_io.specs.Calls.{FailsNext, with_fault}
use Rattle.rd_io.specs.MemoryInputs.{StoredFile, InputsState, is_named, file_named, source_of, with_opened, with_failed_open}
use Rattle.rd_io.specs.contracts.memory_inputs.MemoryInputs.{the_view}
use Rattle.rd_io.proofs.StoredFileLemmas.{file_found, place_missing, opened_told, not_opened_told, missed_open, refused_open, opened_at}
use Rattle.rd_io.proofs.memory_inputs.MemoryInputsInputs.open.Goals as goal

missing : (c : goal.After-fail) → file_named c.self.inside.files.items c.args.name.now ≡ None
missing c = place_missing (is_named c.args.name.now) c.self.inside.files.items (cc)

pub returns-in_default-clause-refused : goal.returns-in_default-clause-refused
returns-in_default-clause-refused c =
    (λ _. inr (subst (λ (s : InputsState). file_named s.files c.args.name.now ≡ None) c.self.view_is (missing c)), λ _. refl)

pub returns-in_default-clause-err : goal.returns-in_default-clause-err
returns-in_default-clause-err c =
    missed_open (the_view c.self.inside) c.args.name.now _ _ (missing c) c.saturating_add-self-inside.ensures
    (c.fail.ensures.counted ∙ ap with_fault c.is_next_failing-failing.ensures.counted)
    ∙ ap (λ (s : InputsState). with_failed_open s c.args.name.now) c.self.view_is

pub returns-in_default-clause-told : goal.returns-in_default-clause-told
returns-in_default-clause-told c =
    not_opened_told c.args.self.now _ _ (ap source_of (returns-in_default-clause-err c))

pub returns-then-failing-clause-err : goal.returns-then-failing-clause-err
returns-then-failing-clause-err c =
    let found = file_found (is_named c.args.name.now) c.self.inside.files.items c.in-Some.index (cc) in
    refused_open (the_view c.self.inside) c.args.name.now found.0 _ found.2
    (c.fail-then-failing.ensures.counted ∙ ap with_fault c.is_next_failing-failing.ensures.counted)
    ∙ ap (λ (s : InputsState). with_failed_open s c.args.name.now) c.self.view_is

pub returns-then-failing-clause-told : goal.returns-then-failing-clause-told
returns-then-failing-clause-told c =
    not_opened_told c.args.self.now _ _ (ap source_of (returns-then-failing-clause-err c))

found : (c : goal.After-self-4-1) → (file : StoredFile)
    × (slice_get c.self.inside.files.items c.in-Some.index ≡ Some file)
    × (file_named c.self.inside.files.items c.args.name.now ≡ Some file)
found c = file_found (is_named c.args.name.now) c.self.inside.files.items c.in-Some.index (cc)

pub returns-clause-ok : goal.returns-clause-ok
returns-clause-ok c =
    let file = found c in (
      file.0,
      subst (λ (s : InputsState). file_named s.files c.args.name.now ≡ Some file.0) c.self.view_is file.2,
      opened_at (the_view c.self.inside) c.in-Some.index file.0 _ _ file.1 c.saturating_add-self-inside-2.ensures
          c.is_next_failing-failing.ensures.counted
          ∙ ap (λ (s : InputsState). with_opened s file.0) c.self.view_is,
    )

pub returns-clause-told : goal.returns-clause-told
returns-clause-told c =
    let ok = returns-clause-ok c in opened_told c.args.self.now _ _ ok.0 ok.1 (ap source_of ok.2)

pub returns-clause-refused : goal.returns-clause-refused
returns-clause-refused c = (
  λ wrong. cc,
  λ refused. elim refused [
    | inl fails ↦ absurd (let fails_here : FailsNext c.self.inside.calls = subst (λ (s : InputsState). FailsNext s.calls) (sym c.self.view_is) fails in
        let yes : _ = c.is_next_failing-failing.ensures.answer.1 fails_here in cc)
    | inr none ↦ let ok = returns-clause-ok c in let at = ok.1 in cc
  ],
)
