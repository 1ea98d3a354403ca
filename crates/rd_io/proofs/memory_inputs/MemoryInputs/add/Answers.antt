use Rattle.std.proofs.Common.{◌≡◌, [], ◌∷◌, ◌++◌, ap, refl, ◌∙◌}
use Rattle.rd_io.specs.MemoryInputs.{StoredFile, InputsState, with_file}
use Rattle.rd_io.specs.contracts.memory_inputs.MemoryInputs.{the_view}
use Rattle.rd_io.proofs.StoredFileLemmas.{place_more, file_added}
use Rattle.rd_io.proofs.memory_inputs.MemoryInputs.add.Goals as goal

added : (c : goal.In_ok-push) → StoredFile
added c = record { name = c.args.name.now; bytes = c.args.bytes.now; piece = c.args.piece }

files_are : (c : goal.In_ok-push) → c.push.new.self.items ≡ c.self.inside.files.items ++ added c ∷ []
unfolding added
files_are c = c.in_ok-push.ensures.items ∙ ap (λ (f : StoredFile). c.self.inside.files.items ++ f ∷ []) c.in_ok-file.ensures

pub invariant_of-self-2 : goal.invariant_of-self-2
unfolding added
invariant_of-self-2 c = place_more _ _ _ _ _ _ (files_are c) c.requires.some c.self.invariant

pub returns-clause-ok : goal.returns-clause-ok
unfolding added
returns-clause-ok c =
    file_added (the_view c.self.inside) _ _ _ _ (files_are c) c.self.invariant.file refl refl refl
    ∙ ap (λ (s : InputsState). with_file s (added c)) c.self.view_is
