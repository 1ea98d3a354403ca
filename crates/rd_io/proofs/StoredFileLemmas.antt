-- Files in memory: how one is found, and what the inputs tell after a call.
use Rattle.std.proofs.Common.{◌≡◌, ℕ, Bool, cond, ◌<◌, ◌≤◌, ◌+◌, List, [], ◌∷◌, ◌++◌, Option, None, Some, Ok, length, take, drop, get_or, refl, sym, ap, ◌∙◌, subst, arith}
use Rattle.std.specs.Prelude.{find, position, slice_get, map, option_map, is_some}
use Rattle.std.specs.List.{position_or_len}
use Rattle.std.proofs.lemmas.Grind.{common_steps}
use Rattle.std.proofs.lemmas.List.Folds.{find_at}
use Rattle.std.specs.Option.{ForSome}
use Rattle.std.proofs.lemmas.List.Elements.{All-push}
use Rattle.std.proofs.Math.ListN.{get_or-append}
use Rattle.std.proofs.Math.Seq.{take-add}
use Rattle.std.proofs.lemmas.List.{length-append, drop-drop, take-append-drop, nil_from_length}
use Rattle.std.proofs.lemmas.Option.{slice_get_past, slice_get-get_or}
use Rattle.rd_io.specs.Calls.{CallCount, with_call, with_fault}
use Rattle.rd_io.specs.Inputs.{Source, Goes, IsOpened, IsNotOpened, Reads, file_of, next_count}
use Rattle.rd_io.specs.declared.inputs.Failed.{Failed}
use Rattle.rd_io.specs.MemoryInputs.{StoredFile, InputsState, name_and_bytes, file_named, IsPlace, file_at, bytes_at, piece_at, source_of, taken_by_read, with_file, with_opened, with_failed_open, with_taken}

no_file : StoredFile
no_file = record { name = []; bytes = []; piece = 0 }

-- the place that is found is that of the first file with the name
place_found : (test : StoredFile → Bool) (files : List StoredFile) (place : ℕ)
    → Some place ≡ position test files → (place < length files) × (find test files ≡ slice_get files place)
place_found test files place h = (grind (arith, common_steps), grind (arith, common_steps, find_at))

pub file_found : (test : StoredFile → Bool) (files : List StoredFile) (place : ℕ)
    → Some place ≡ position test files → (file : StoredFile) × (slice_get files place ≡ Some file) × (find test files ≡ Some file)
file_found test files place h =
    let found = place_found test files place h in
    let here : slice_get files place ≡ Some (get_or files place no_file) = slice_get-get_or files place no_file found.0 in
    (get_or files place no_file, here, found.1 ∙ here)

-- where no place is found no file has the name
pub place_missing : (test : StoredFile → Bool) (files : List StoredFile)
    → None ≡ position test files → find test files ≡ None
place_missing test files h =
    let past : length files ≤ position_or_len test files = grind (arith, common_steps) in
    find_at test files ∙ slice_get_past files (position_or_len test files) past

file_of-files : (files : List StoredFile) (name : List ℕ)
    → file_of (map name_and_bytes files) name ≡ option_map (λ file. file.bytes) (file_named files name)
file_of-files [] name = refl
file_of-files (file ∷ files) name = grind (arith, common_steps, file_of-files files name)

-- a name is counted as missing where the model finds none
misses_told : (files : List StoredFile) (name : List ℕ) (here missing : ℕ)
    → cond (is_some (file_named files name)) here missing ≡ cond (is_some (file_of (map name_and_bytes files) name)) here missing
misses_told files name here missing =
    rw (file_of-files files name)
    (elim (file_named files name) as (λ o. cond (is_some o) here missing ≡ cond (is_some (option_map (λ f. f.bytes) o)) here missing)
    [ None ↦ refl | Some file ↦ refl ])

-- what holds of what was told and is told
goes_from : (old new : Source) (R : Source → Source → Type 0) → R old new → Goes (Some old) (Some new) R
goes_from old new R fact source h =
    let same : old ≡ source = cc in
    subst (λ s. (x : Source) × (Some new ≡ Some x) × R s x) same (new, refl, fact)

pub opened_told : (old : InputsState) (new : Source) (name : List ℕ) (file : StoredFile)
    → file_named old.files name ≡ Some file → new ≡ source_of (with_opened old file)
    → Goes (Some (source_of old)) (Some new) (λ a b. IsOpened a b name)
opened_told old new name file found e =
    goes_from _ _ (λ a b. IsOpened a b name)
    (subst (λ n. IsOpened (source_of old) n name) (sym e)
    (record {
      files = refl;
      held = file_of-files old.files name ∙ ap (option_map (λ f. f.bytes)) found;
      taken = refl;
      opens = refl;
      misses = refl;
    }))

pub not_opened_told : (old : InputsState) (new : Source) (name : List ℕ) → new ≡ source_of (with_failed_open old name)
    → Goes (Some (source_of old)) (Some new) (λ a b. IsNotOpened a b name)
not_opened_told old new name e =
    goes_from _ _ (λ a b. IsNotOpened a b name)
    (subst (λ n. IsNotOpened (source_of old) n name) (sym e)
    (record {
      files = refl;
      held = refl;
      taken = refl;
      opens = refl;
      misses = misses_told old.files name old.misses (next_count old.misses);
    }))

-- a name that no file has
pub missed_open : (old : InputsState) (name : List ℕ) (misses : ℕ) (calls : CallCount)
    → file_named old.files name ≡ None → misses ≡ next_count old.misses → calls ≡ with_fault (with_call old.calls)
    → record old { misses = misses; calls = calls } ≡ with_failed_open old name
missed_open old name misses calls none e f = rw (none, e, f) refl

-- a name that a file has, where the call is to fail
pub refused_open : (old : InputsState) (name : List ℕ) (file : StoredFile) (calls : CallCount)
    → file_named old.files name ≡ Some file → calls ≡ with_fault (with_call old.calls)
    → record old { calls = calls } ≡ with_failed_open old name
refused_open old name file calls found f = rw (found, f) refl

-- the file at this place becomes the current one
pub opened_at : (old : InputsState) (place : ℕ) (file : StoredFile) (opens : ℕ) (calls : CallCount)
    → slice_get old.files place ≡ Some file → opens ≡ next_count old.opens → calls ≡ with_call old.calls
    → record old {
      held = drop 0 (bytes_at old.files (Some place));
      taken = take 0 (bytes_at old.files (Some place));
      piece = piece_at old.files (Some place);
      opens = opens;
      calls = calls;
    } ≡ with_opened old file
opened_at old place file opens calls here e f = rw (here, e, f) refl

-- a file that is added leaves the others in their places
at_more : (files : List StoredFile) (file : StoredFile) (place : Option ℕ) → ForSome place (λ k. k < length files)
    → file_at (files ++ file ∷ []) place ≡ file_at files place
at_more files file None h = refl
at_more files file (Some k) h =
    let within : k < length files = h k refl in
    slice_get-get_or (files ++ file ∷ []) k no_file (simp length-append (omega arith))
    ∙ ap Some (get_or-append files (file ∷ []) no_file k within)
    ∙ sym (slice_get-get_or files k no_file within)

pub place_more : (files now : List StoredFile) (file : StoredFile) (place : Option ℕ) (position opens : ℕ)
    → now ≡ files ++ file ∷ [] → 1 ≤ file.piece → IsPlace files place position opens → IsPlace now place position opens
place_more files now file place position opens e some at =
    rw e
    (record {
      file = λ k here. grind (arith, common_steps, at.file k here);
      within = rw (at_more files file place at.file) at.within;
      pieces = All-push (λ file. 1 ≤ file.piece) files file at.pieces some;
      opened = at.opened;
    })

pub file_added : (old : InputsState) (now : List StoredFile) (file : StoredFile) (place : Option ℕ) (position : ℕ)
    → now ≡ old.files ++ file ∷ [] → ForSome place (λ k. k < length old.files)
    → old.held ≡ drop position (bytes_at old.files place) → old.taken ≡ take position (bytes_at old.files place)
    → old.piece ≡ piece_at old.files place
    → record old {
      files = now;
      held = drop position (bytes_at now place);
      taken = take position (bytes_at now place);
      piece = piece_at now place;
    }
    ≡ with_file old file
file_added old now file place position e at held taken piece =
    rw (e, at_more old.files file place at, held, taken, piece) refl

-- so many bytes more were taken of the current file
pub taken_more : (old : InputsState) (bytes : List ℕ) (position count : ℕ) (calls : CallCount)
    → old.held ≡ drop position bytes → old.taken ≡ take position bytes → calls ≡ with_call old.calls
    → record old { held = drop (position + count) bytes; taken = take (position + count) bytes; calls = calls }
    ≡ with_taken old count
taken_more old bytes position count calls held taken e =
    rw (held, taken, e, drop-drop, take-add) refl

pub read_told : (old : InputsState) (new : Source) (buffer : List ℕ) (count : ℕ)
    → new ≡ source_of (with_taken old count) → take count buffer ≡ take count old.held
    → (count ≡ 0 → 0 < length buffer → old.held ≡ []) → (old.opens ≡ 0 → count ≡ 0)
    → Goes (Some (source_of old)) (Some new) (λ a b. Reads {E = Failed} a b buffer (Ok count))
read_told old new buffer count e same ends none =
    goes_from _ _ (λ a b. Reads {E = Failed} a b buffer (Ok count))
    (subst (λ n. Reads {E = Failed} (source_of old) n buffer (Ok count)) (sym e) (
      record {
        files = refl;
        held = rw same (sym (take-append-drop count old.held));
        taken = ap (λ x. old.taken ++ x) (sym same);
        opens = refl;
        misses = refl;
      },
      ends,
      none,
    ))

-- a read into a buffer with room takes nothing only at the end
pub ends_at_nothing : (old : InputsState) (size count : ℕ) → 1 ≤ old.piece → count ≡ taken_by_read old size
    → count ≡ 0 → 0 < size → old.held ≡ []
ends_at_nothing old size count some e none room = nil_from_length old.held (omega arith)
