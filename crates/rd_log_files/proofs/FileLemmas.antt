-- Where reading logs from files has come.
use Rattle.std.proofs.Common.{◌≡◌, ◌≢◌, ℕ, suc, ◌+◌, ◌-◌, ◌^◌, ◌≤◌, ◌<◌, cond, Bool, true, false, List, [], ◌∷◌, ◌++◌, length, map, take, drop, get_or, Option, Some, None, Result, Ok, Err, refl, sym, ap, ◌∙◌, subst, arith}
use Rattle.std.specs.Prelude.{IfErr, is_none, nat_lt, count_by}
use Rattle.std.specs.Result.{IsErr, IsErrAnd}
use Rattle.std.proofs.lemmas.Bool.Decides.{nat_tests}
use Rattle.std.proofs.lemmas.List.Sums.{sum_by-append}
use Rattle.std.proofs.lemmas.List.{append_assoc, append-nil, length-append, length-take-le, map-append, take-append-drop}
use Rattle.std.proofs.Math.Seq.{take-length, take-suc}
use Rattle.rd_base.specs.declared.limits.Limits.{Limits}
use Rattle.rd_io.specs.Inputs.{IsNotOpened, IsOpened, Source, Takes, file_of}
use Rattle.rd_walk.proofs.FileLemmas.{opens_none}
use Rattle.rd_walk.specs.Traces.{IsUntaken, OpensOnly}
use Rattle.rd_log_files.specs.Gathered.{counted_log, first_limit, first_limit_from, passed_or}
use Rattle.rd_log_files.specs.LogFiles.{FilesHold, LeavesFile, LeavesLogs, PassesIn, PassesLimit, ReadsFile, ReadsLogs, TakesLines, TakesLogs}
use Rattle.rd_logs.specs.WholeLogs.{log_texts}
use Rattle.rd_logs.specs.declared.whole.Log.{Log}
use Rattle.rd_log_files.specs.declared.unread.LogLimit.{LogLimit}
use Rattle.rd_log_files.proofs.GatheredLemmas.{first_behind, first_more, first_none, none_is_no_limit, passed_behind}

-- what `?` hands on
pub failed_so : {T E : Type 0} (result : Result T E) (P Q : E → Type 0) → ((e : E) → P e → Q e) → IsErr result × IsErrAnd result P → IfErr result Q
failed_so (Ok answer) P Q so is = absurd is.1
failed_so (Err e) P Q so is = so e is.1

-- ---- one file

-- memory ran out before it was opened
pub left_alone : (limits : Limits) (log events : ℕ) (name : List ℕ) (old : Source) → LeavesFile limits log events name old old
left_alone limits log events name old = record {
  opened = record { files = refl; later = omega arith; opens = omega arith; misses = omega arith };
  unopened = λ same. (refl, refl);
  whole = λ more. absurd (omega (arith, more));
  taken = λ more. absurd (omega (arith, more));
}

-- it could not be opened
pub left_unopened : (limits : Limits) (log events : ℕ) (name : List ℕ) (old new : Source) → IsNotOpened old new name → LeavesFile limits log events name old new
left_unopened limits log events name old new opened = record {
  opened = opens_none name old new opened;
  unopened = λ same. (opened.taken, opened.held);
  whole = λ more. absurd (omega (arith, more, opened.opens));
  taken = λ more. absurd (omega (arith, more, opened.opens));
}

-- it was opened, and this was taken of it
module _ (name : List ℕ) (old mid new : Source) (taken : List ℕ) (few : old.opens < 2 ^ 64 - 1) (opened : IsOpened old mid name) (takes : Takes mid new taken) where
  pub opened_once : new.opens ≡ old.opens + 1
  opened_once = omega (arith, takes.opens, opened.opens, few)

  taken_is : new.taken ≡ taken
  taken_is = takes.taken ∙ ap (λ front. front ++ taken) opened.taken

  pub left_taken : (limits : Limits) (log events : ℕ) → TakesLines limits log events taken → LeavesFile limits log events name old new
  left_taken limits log events lines = record {
    opened = record {
      files = takes.files ∙ opened.files;
      later = omega (arith, opened_once);
      opens = omega (arith, opened_once);
      misses = omega (arith, takes.misses, opened.misses);
    };
    unopened = λ same. absurd (omega (arith, same, opened_once));
    whole = λ more. opened.held ∙ ap Some takes.held ∙ ap (λ front. Some (front ++ new.held)) (sym taken_is);
    taken = λ more. subst (TakesLines limits log events) (sym taken_is) lines;
  }

  -- all of it
  pub read_whole : new.held ≡ [] → ReadsFile name old new taken
  read_whole none = record {
    opens = opened_once;
    misses = takes.misses ∙ opened.misses;
    text = opened.held ∙ ap Some (takes.held ∙ ap (λ held. taken ++ held) none ∙ append-nil taken);
    none_left = none;
  }

-- ---- files that are there

some_same : (a b : List ℕ) → Some a ≡ Some b → a ≡ b
some_same a b e = cc

-- one file more
pub held_more : (files : List (List ℕ × List ℕ)) (names logs : List (List ℕ)) (name bytes : List ℕ) → FilesHold files names logs → file_of files name ≡ Some bytes
    → FilesHold files (names ++ name ∷ []) (logs ++ bytes ∷ [])
held_more files names logs name bytes held is =
    map-append (λ n. file_of files n) names (name ∷ [])
    ∙ ap (λ front. front ++ file_of files name ∷ []) held
    ∙ ap (λ last. map Some logs ++ last ∷ []) is
    ∙ sym (map-append Some logs (bytes ∷ []))

-- of more files these are the first
pub held_front : (files : List (List ℕ × List ℕ)) (names more front logs : List (List ℕ)) → FilesHold files names front → FilesHold files (names ++ more) logs
    → (rest : List (List ℕ)) × (logs ≡ front ++ rest)
held_front files [] more [] logs held all = (logs, refl)
held_front files [] more (bytes ∷ front) logs held all = let none : ⊥ = cc in absurd none
held_front files (name ∷ names) more [] logs held all = let none : ⊥ = cc in absurd none
held_front files (name ∷ names) more (bytes ∷ front) [] held all = let none : ⊥ = cc in absurd none
held_front files (name ∷ names) more (bytes ∷ front) (other ∷ logs) held all =
    let held_behind : FilesHold files names front = cc in
    let all_behind : FilesHold files (names ++ more) logs = cc in
    let some : ◌≡◌ {A = Option (List ℕ)} (Some other) (Some bytes) = cc in
    let (rest, is) = held_front files names more front logs held_behind all_behind in
    let same : other ≡ bytes = some_same other bytes some in
    let all_is : other ∷ logs ≡ bytes ∷ (front ++ rest) = cc (same, is) in
    (rest, all_is)

some_all : (a b : List (List ℕ)) → map Some a ≡ map Some b → a ≡ b
some_all [] [] e = refl
some_all [] (y ∷ b) e = let none : ⊥ = cc in absurd none
some_all (x ∷ a) [] e = let none : ⊥ = cc in absurd none
some_all (x ∷ a) (y ∷ b) e =
    let here : ◌≡◌ {A = Option (List ℕ)} (Some x) (Some y) = cc in
    let behind : map Some a ≡ map Some b = cc in
    let first = some_same x y here in
    let rest = some_all a b behind in
    let all : x ∷ a ≡ y ∷ b = cc (first, rest) in
    all

-- they have one list of bytes
pub held_one : (files : List (List ℕ × List ℕ)) (names logs others : List (List ℕ)) → FilesHold files names logs → FilesHold files names others → logs ≡ others
held_one files names logs others held other = some_all logs others (sym held ∙ other)

-- ---- the names that were read

count_front : (p : List ℕ → Bool) (front : List (List ℕ)) (name : List ℕ) (behind : List (List ℕ))
    → count_by p (name ∷ []) ≤ count_by p (front ++ name ∷ behind)
count_front p front name behind =
    let all : count_by p (front ++ name ∷ behind) ≡ count_by p front + count_by p (name ∷ behind) = sum_by-append (λ x. cond (p x) 1 0) front (name ∷ behind) in
    let rest : count_by p (name ∷ behind) ≡ count_by p (name ∷ []) + count_by p behind = sum_by-append (λ x. cond (p x) 1 0) (name ∷ []) behind in
    omega (arith, all, rest)

-- logs were read from the first so many of the files with these names
pub record ReadSoFar (limits : Limits) (names : List (List ℕ)) (count : ℕ) (logs : List (List ℕ)) (old now : Source) : Type 0 where
  pub files : now.files ≡ old.files
  pub opens : now.opens ≡ old.opens + count
  pub misses : now.misses ≡ old.misses
  pub whole : FilesHold old.files (take count names) logs
  pub leaves : LeavesLogs limits names old now
  pub none_left : 1 ≤ count → now.held ≡ []

-- the logs so far pass no limit, and have so many lines that aren't skipped
abbrev pub CountsLogs : Limits → List (List ℕ) → ℕ → Type 0
CountsLogs limits logs events = (more : List (List ℕ)) → first_limit limits (logs ++ more) ≡ first_limit_from limits (length logs + 1) events more

pub read_none : (limits : Limits) (names : List (List ℕ)) (old : Source) → ReadSoFar limits names 0 [] old old
read_none limits names old = record {
  files = refl;
  opens = omega arith;
  misses = refl;
  whole = refl;
  leaves = record {
    opened = record { files = refl; later = omega arith; opens = omega arith; misses = omega arith };
    unopened = λ same. (refl, refl);
    taken = λ count some more. absurd (omega (arith, some, more));
  };
  none_left = λ some. absurd (omega (arith, some));
}

pub counts_no_logs : (limits : Limits) → CountsLogs limits [] 0
counts_no_logs limits more = refl

pub counts_log : (limits : Limits) (logs : List (List ℕ)) (events behind : ℕ) (bytes : List ℕ) → CountsLogs limits logs events
    → counted_log limits (length logs + 1) events bytes ≡ Ok behind → CountsLogs limits (logs ++ bytes ∷ []) behind
counts_log limits logs events behind bytes so_far counted more =
    ap (first_limit limits) (append_assoc logs (bytes ∷ []) more)
    ∙ so_far (bytes ∷ more)
    ∙ first_more limits (length logs + 1) events bytes more
    ∙ ap (λ r. passed_or r (λ n. first_limit_from limits (length logs + 1 + 1) n more)) counted
    ∙ ap (λ n. first_limit_from limits (n + 1) behind more) (sym (length-append logs (bytes ∷ [])))

module _ (limits : Limits) (logs : List (List ℕ)) (events : ℕ) (bytes : List ℕ) (so_far : CountsLogs limits logs events) where
  last_log : first_limit limits (logs ++ bytes ∷ [])
      ≡ passed_or (counted_log limits (length logs + 1) events bytes) (λ n. first_limit_from limits (length logs + 1 + 1) n [])
  last_log = so_far (bytes ∷ []) ∙ first_more limits (length logs + 1) events bytes []

  -- a limit is passed by the next log
  pub passes_next : (passed : LogLimit) → counted_log limits (length logs + 1) events bytes ≡ Err passed → first_limit limits (logs ++ bytes ∷ []) ≡ Some passed
  passes_next passed is = last_log ∙ ap (λ r. passed_or r (λ n. first_limit_from limits (length logs + 1 + 1) n [])) is

  by_last : (counted : Result ℕ LogLimit) (passed : LogLimit) → passed_or counted (λ n. first_limit_from limits (length logs + 1 + 1) n []) ≡ Some passed → counted ≡ Err passed
  by_last (Ok n) passed is = absurd (none_is_no_limit passed (sym (first_none limits (length logs + 1 + 1) n) ∙ is))
  by_last (Err found) passed is = cc

  -- where one is passed, it is by it
  pub next_passes : (passed : LogLimit) → first_limit limits (logs ++ bytes ∷ []) ≡ Some passed → counted_log limits (length logs + 1) events bytes ≡ Err passed
  next_passes passed is = by_last (counted_log limits (length logs + 1) events bytes) passed (sym last_log ∙ is)

  pub next_place : (passed : LogLimit) → first_limit limits (logs ++ bytes ∷ []) ≡ Some passed → passed.log ≡ length logs + 1
  next_place passed is = (passed_behind limits (length logs + 1) events 1 _ passed (next_passes passed is)).1

-- the next file is opened
module _ (limits : Limits) (names logs : List (List ℕ)) (count : ℕ) (name : List ℕ) (events : ℕ) (old mid new : Source) (within : count < length names)
    (name_is : name ≡ get_or names count name) (count_is : length logs ≡ count) (so_far : ReadSoFar limits names count logs old mid) (counts : CountsLogs limits logs events) where
  one_more : count + 1 ≡ suc count
  one_more = omega arith

  next_is : take (count + 1) names ≡ take count names ++ name ∷ []
  next_is = ap (λ n. take n names) one_more ∙ take-suc names count name within ∙ ap (λ n. take count names ++ n ∷ []) (sym name_is)

  names_are : names ≡ take count names ++ name ∷ drop (count + 1) names
  names_are =
      sym (take-append-drop (count + 1) names)
      ∙ ap (λ front. front ++ drop (count + 1) names) next_is
      ∙ append_assoc (take count names) (name ∷ []) (drop (count + 1) names)

  here : (bytes : List ℕ) → file_of mid.files name ≡ Some bytes → FilesHold old.files (take (count + 1) names) (logs ++ bytes ∷ [])
  here bytes is =
      subst (λ ns. FilesHold old.files ns (logs ++ bytes ∷ [])) (sym next_is)
      (held_more old.files (take count names) logs name bytes so_far.whole (ap (λ files. file_of files name) (sym so_far.files) ∙ is))

  -- and passes a limit
  pub passes_so : (passed : LogLimit) → PassesIn limits (length logs + 1) events name mid new passed → PassesLimit limits names old new passed
  passes_so passed is =
      let first = passes_next limits logs events is.bytes counts passed is.passes in
      let place : passed.log ≡ count + 1 = next_place limits logs events is.bytes counts passed first ∙ ap (λ n. n + 1) count_is in record {
        opens = omega (arith, is.opens, so_far.opens, place);
        misses = is.misses ∙ so_far.misses;
        front = logs ++ is.bytes ∷ [];
        whole = subst (λ n. FilesHold old.files (take n names) (logs ++ is.bytes ∷ [])) (sym place) (here is.bytes is.text);
        first = first;
        all = λ all held.
            let (rest, whole) =
            held_front old.files (take (count + 1) names) (drop (count + 1) names) (logs ++ is.bytes ∷ []) all (here is.bytes is.text)
            (subst (λ ns. FilesHold old.files ns all) (sym (take-append-drop (count + 1) names)) held) in
            ap (first_limit limits) whole ∙ first_behind limits 1 0 (logs ++ is.bytes ∷ []) rest passed first;
      }

  module _ (left : LeavesFile limits (length logs + 1) events name mid new) where
    misses_more : new.misses ≤ old.misses + count_by (λ n. is_none (file_of old.files n)) names
    misses_more =
        let one : new.misses ≤ mid.misses + count_by (λ n. is_none (file_of old.files n)) (name ∷ []) =
        subst (λ files. new.misses ≤ mid.misses + count_by (λ n. is_none (file_of files n)) (name ∷ [])) so_far.files left.opened.misses in
        let all = count_front (λ n. is_none (file_of old.files n)) (take count names) name (drop (count + 1) names) in
        omega (arith, one, all, so_far.misses, ap (count_by (λ n. is_none (file_of old.files n))) names_are)

    opens_more : OpensOnly names old new
    opens_more = record {
      files = left.opened.files ∙ so_far.files;
      later = omega (arith, left.opened.later, so_far.opens);
      opens = omega (arith, left.opened.opens, so_far.opens, within);
      misses = misses_more;
    }

    takes_next : new.opens ≡ mid.opens + 1 → TakesLogs limits (take (count + 1) names) old new
    takes_next once =
        let lines = left.taken once in record {
          before = logs;
          whole = here (new.taken ++ new.held) (left.whole once);
          begun = lines.begun;
          read = lines.read;
          last = λ passed is. next_place limits logs events (new.taken ++ new.held) counts passed is
              ∙ omega (arith, count_is, within, length-take-le (count + 1) names (omega (arith, within)));
          stops = λ passed is. lines.stops new.held passed (next_passes limits logs events (new.taken ++ new.held) counts passed is);
        }

    pub leaves_opened : new.opens ≡ mid.opens + 1 → LeavesLogs limits names old new
    leaves_opened once = record {
      opened = opens_more;
      unopened = λ same. absurd (omega (arith, same, once, so_far.opens));
      taken = λ n some more.
          let is : n ≡ count + 1 = omega (arith, more, once, so_far.opens) in
          subst (λ m. TakesLogs limits (take m names) old new) (sym is) (takes_next once);
    }

    takes_same : (ns : List (List ℕ)) → IsUntaken mid new → TakesLogs limits ns old mid → TakesLogs limits ns old new
    takes_same ns (taken, held) takes = record {
      before = takes.before;
      whole = rw (taken, held) takes.whole;
      begun = takes.begun;
      read = rw taken takes.read;
      last = rw (taken, held) takes.last;
      stops = rw (taken, held) takes.stops;
    }

    pub leaves_unopened : new.opens ≡ mid.opens → LeavesLogs limits names old new
    leaves_unopened same =
        let (taken, held) = left.unopened same in record {
          opened = opens_more;
          unopened = λ none. let before = so_far.leaves.unopened (sym same ∙ none) in (taken ∙ before.0, held ∙ before.1);
          taken = λ n some more. takes_same (take n names) (taken, held) (so_far.leaves.taken n some (sym same ∙ more));
        }

    by_opens : (fewer : Bool) → nat_lt mid.opens new.opens ≡ fewer → LeavesLogs limits names old new
    by_opens true is = let more : mid.opens < new.opens = grind (arith, nat_tests) in leaves_opened (omega (arith, more, left.opened.opens))
    by_opens false is = let least : new.opens ≤ mid.opens = grind (arith, nat_tests) in leaves_unopened (omega (arith, least, left.opened.later))

    pub leaves_next : LeavesLogs limits names old new
    leaves_next = by_opens (nat_lt mid.opens new.opens) refl

    pub read_next : (bytes : List ℕ) → ReadsFile name mid new bytes → ReadSoFar limits names (count + 1) (logs ++ bytes ∷ []) old new
    read_next bytes reads = record {
      files = left.opened.files ∙ so_far.files;
      opens = omega (arith, reads.opens, so_far.opens);
      misses = reads.misses ∙ so_far.misses;
      whole = here bytes reads.text;
      leaves = leaves_opened reads.opens;
      none_left = λ some. reads.none_left;
    }

-- all files are read
pub reads_all : (limits : Limits) (names logs : List (List ℕ)) (old new : Source) → ReadSoFar limits names (length names) logs old new → ReadsLogs names old new logs
reads_all limits names logs old new all = record {
  opens = all.opens;
  misses = all.misses;
  whole = subst (λ ns. FilesHold old.files ns logs) (take-length names) all.whole;
  none_left = λ some. all.none_left (some_names names some);
}
  where
    some_names : (ns : List (List ℕ)) → ns ≢ [] → 1 ≤ length ns
    some_names [] some = absurd (some refl)
    some_names (n ∷ ns) some = omega arith

pub within_all : (limits : Limits) (logs : List (List ℕ)) (events : ℕ) → CountsLogs limits logs events → first_limit limits logs ≡ None
within_all limits logs events counts =
    ap (first_limit limits) (sym (append-nil logs)) ∙ counts [] ∙ first_none limits (length logs + 1) events

-- the same is told twice
pub same_told : (told : Option Source) (a b : Source) → told ≡ Some a → told ≡ Some b → a ≡ b
same_told told a b x y = let same : Some a ≡ Some b = sym x ∙ y in some_source a b same
  where
    some_source : (a b : Source) → Some a ≡ Some b → a ≡ b
    some_source a b e = cc

-- one log more is kept
pub texts_more : (logs : List Log) (log : Log) (new : List Log) → new ≡ logs ++ log ∷ [] → log_texts new ≡ log_texts logs ++ log.bytes ∷ []
texts_more logs log new is = ap log_texts is ∙ map-append (λ (l : Log). l.bytes) logs (log ∷ [])
