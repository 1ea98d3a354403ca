-- What inputs leave that are opened and read, and what is walked over.
use Rattle.rd_event.specs.declared.items.Line.{Line}
use Rattle.rd_io.specs.Inputs.{Source, Takes, IsOpened, IsNotOpened, next_count, file_of}
use Rattle.rd_walk.proofs.WalkLemmas.{bound_front, ending_after, entries_after}
use Rattle.rd_walk.specs.Traces.{OpensOnly}
use Rattle.rd_walk.specs.Walk.{Entry, Walked, after, ending_of, ends, entries_of, step_bound}
use Rattle.rd_walk.specs.declared.walk.WalkEnd.{WalkEnd}
use Rattle.std.proofs.Common.{◌≡◌, ℕ, ◌+◌, ◌^◌, ◌≤◌, cond, List, [], ◌∷◌, ◌++◌, length, Option, Some, None, sym, ap, ◌∙◌, subst, arith}
use Rattle.std.proofs.lemmas.List.{append-nil, length-append}
use Rattle.std.specs.Prelude.{is_some, is_none}

pub entries_at : (entries : List Entry) (ending : WalkEnd) → entries_of (after entries (ends ending)) ≡ entries
unfolding entries_of
entries_at entries ending = entries_after entries (ends ending) ∙ append-nil entries

pub ending_at : (entries : List Entry) (ending : WalkEnd) → ending_of (after entries (ends ending)) ≡ ending
unfolding ending_of
ending_at entries ending = ending_after entries (ends ending)

pub bound_at : (bound : List Line → Line → ℕ) (entries : List Entry) (walked : Walked) → step_bound bound entries ≤ step_bound bound (entries_of (after entries walked))
bound_at bound entries walked =
    subst (λ es. step_bound bound entries ≤ step_bound bound es) (sym (entries_after entries walked)) (bound_front bound [] entries (entries_of walked))

pub count_at : (entries : List Entry) (walked : Walked) → length entries ≤ length (entries_of (after entries walked))
count_at entries walked = omega (arith, ap length (entries_after entries walked), length-append entries (entries_of walked))

missed : (file : Option (List ℕ)) (misses : ℕ) → cond (is_some file) misses (next_count misses) ≤ misses + cond (is_none file) 1 0
missed None misses = omega arith
missed (Some bytes) misses = omega arith

-- it could not be opened
pub opens_none : (name : List ℕ) (old new : Source) → IsNotOpened old new name → OpensOnly (name ∷ []) old new
opens_none name old new opened =
    record {
      files = opened.files;
      later = omega (arith, opened.opens);
      opens = omega (arith, opened.opens);
      misses = omega (arith, opened.misses, missed (file_of old.files name) old.misses);
    }

-- it was opened, and this was taken of it
module _ (name : List ℕ) (old mid new : Source) (taken : List ℕ) (few_opens : old.opens ≤ 2 ^ 63) (opened : IsOpened old mid name) (takes : Takes mid new taken) where
  pub opens_once : new.opens ≡ old.opens + 1
  opens_once = omega (arith, takes.opens, opened.opens)

  pub opens_only : OpensOnly (name ∷ []) old new
  opens_only =
      record {
        files = takes.files ∙ opened.files;
        later = omega (arith, opens_once);
        opens = omega (arith, opens_once);
        misses = omega (arith, takes.misses, opened.misses);
      }

  pub taken_is : new.taken ≡ taken
  taken_is = takes.taken ∙ ap (λ xs. xs ++ taken) opened.taken

  pub file_is : file_of old.files name ≡ Some (taken ++ new.held)
  file_is = opened.held ∙ ap Some takes.held

  pub rest_is : file_of old.files name ≡ Some (new.taken ++ new.held)
  rest_is = file_is ∙ ap (λ t. Some (t ++ new.held)) (sym taken_is)
