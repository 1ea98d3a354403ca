-- A whole generated trace, from its first line on.
use Rattle.std.proofs.Common.{ℕ, zero, suc, ◌+◌, ◌/◌, ◌%◌, Bool, true, false, List, [], ◌∷◌, ◌++◌, refl, ap, inl}
use Rattle.std.specs.Prelude.{◌==◌, codes, cond, if◌then◌else◌}
use Rattle.rd_base.specs.declared.limits.Limits.{Limits}
use Rattle.rd_event.specs.declared.items.Line.{Line}
use Rattle.rd_event.specs.declared.items.Line.TheVariants.{Header, Thread, Object}
use Rattle.rd_gen.specs.Generated.{acquire_of, arguments_chosen, call_line, call_of, choice_of, closing_lines, entries_after, fork_of, generated, join_of, dictionary_method, method_chosen, next_number, opening_lines, release_of, result_in, lines_of_turns, worker_name, worker_of}
use Rattle.rd_gen_command.specs.GeneratedWalks.{walk_items}
use Rattle.rd_gen_laws.proofs.CauseLemmas.{IsFine, fine_causes, fine_step}
use Rattle.rd_gen_laws.proofs.KnownLemmas.{Knows, held_by, kinds, knows_opening, nobody}
use Rattle.rd_gen_laws.proofs.LineLemmas.{acquire_fine, acquire_knows, call_fine, call_knows, join_fine, join_knows, release_fine, release_knows, slots_length, worker_known, worker_same}
use Rattle.rd_gen_laws.specs.WellEnded.{IsWellEnded}
use Rattle.rd_kinds.specs.Machines.{Entries, dictionary_row}
use Rattle.rd_kinds.specs.Shipped.{counter_kind, dictionary_kind, register_kind, set_kind}
use Rattle.rd_walk.specs.Walk.{ending_of, ends}
use Rattle.rd_walk.specs.declared.walk.WalkEnd.TheVariants.{End, Refused}
use Rattle.rd_rules.specs.MayFollow.{first_broken, is_broken}
use Rattle.rd_rules.specs.declared.causes.TraceCause.TheVariants.{Wf}
use Rattle.rd_rules.specs.declared.causes.WfCause.TheVariants.{HeaderFirst}

module _ (limits : Limits) where
  -- a call of a worker
  call_step : (before : List Line) (ahead : List ℕ → ℕ) (number choice : ℕ) (entries : Entries) (lines : List Line) → Knows before [] ahead
      → (Knows (before ++ call_of choice entries ∷ []) [] ahead → IsWellEnded (walk_items kinds limits (before ++ call_of choice entries ∷ []) (number + 1) lines))
      → IsWellEnded (walk_items kinds limits before number (call_of choice entries ∷ lines))
  unfolding call_line
  call_step before ahead number choice entries lines k rest =
      let result = result_in (dictionary_row (method_chosen choice) (arguments_chosen choice) entries) in
      let slots = arguments_chosen choice ++ result ∷ [] in
      let count = slots_length (method_chosen choice) (choice / 16 % 32) (choice / 512) result in
      fine_step kinds limits before number (call_of choice entries) lines
      (call_fine limits before [] ahead k (worker_of choice) (method_chosen choice) slots (worker_known (choice % 4)) refl count)
      (rest (call_knows limits before [] ahead k (worker_of choice) (dictionary_method (method_chosen choice)) slots))

  -- behind the last line
  last_end : (before : List Line) (joined : List (List ℕ)) (number : ℕ) → Knows before joined nobody → IsWellEnded (walk_items kinds limits before number [])
  unfolding walk_items ending_of
  last_end before joined number k = inl (ap (λ h. ending_of (ends (if h == 0 then Refused number (Wf HeaderFirst) else End))) k.headers_are)

  last_call : (before : List Line) (joined : List (List ℕ)) (number : ℕ) (entries : Entries) → Knows before joined nobody
      → IsWellEnded (walk_items kinds limits (before ++ call_line (codes "main") 2 [] entries ∷ []) (number + 1) [])
  unfolding call_line
  last_call before joined number entries k =
      let slots = result_in (dictionary_row 2 [] entries) ∷ [] in
      last_end (before ++ call_line (codes "main") 2 [] entries ∷ []) (joined ++ []) (number + 1) (call_knows limits before joined nobody k (codes "main") (codes "size") slots)

  last_fine : (before : List Line) (entries : Entries) → Knows before (worker_name 0 ∷ worker_name 1 ∷ worker_name 2 ∷ worker_name 3 ∷ []) nobody
      → IsFine (first_broken kinds limits before (call_line (codes "main") 2 [] entries))
  unfolding call_line
  last_fine before entries k =
      call_fine limits before (worker_name 0 ∷ worker_name 1 ∷ worker_name 2 ∷ worker_name 3 ∷ []) nobody k (codes "main") 2 (result_in (dictionary_row 2 [] entries) ∷ []) refl refl refl

  closing_end : (before : List Line) (number : ℕ) (entries : Entries) → Knows before [] nobody → IsWellEnded (walk_items kinds limits before number (closing_lines entries))
  closing_end before number entries k =
      let last = call_line (codes "main") 2 [] entries in
      let b1 = before ++ join_of 0 ∷ [] in
      let b2 = b1 ++ join_of 1 ∷ [] in
      let b3 = b2 ++ join_of 2 ∷ [] in
      let b4 = b3 ++ join_of 3 ∷ [] in
      let j1 = worker_name 0 ∷ [] in
      let j2 = worker_name 0 ∷ worker_name 1 ∷ [] in
      let j3 = worker_name 0 ∷ worker_name 1 ∷ worker_name 2 ∷ [] in
      let j4 = worker_name 0 ∷ worker_name 1 ∷ worker_name 2 ∷ worker_name 3 ∷ [] in
      let k1 : Knows b1 j1 nobody = join_knows limits before [] nobody k (worker_name 0) in
      let k2 : Knows b2 j2 nobody = join_knows limits b1 j1 nobody k1 (worker_name 1) in
      let k3 : Knows b3 j3 nobody = join_knows limits b2 j2 nobody k2 (worker_name 2) in
      let k4 : Knows b4 j4 nobody = join_knows limits b3 j3 nobody k3 (worker_name 3) in
      fine_step kinds limits before number (join_of 0) (join_of 1 ∷ join_of 2 ∷ join_of 3 ∷ last ∷ []) (join_fine limits before [] nobody k (worker_name 0) refl refl refl)
      (fine_step kinds limits b1 (number + 1) (join_of 1) (join_of 2 ∷ join_of 3 ∷ last ∷ []) (join_fine limits b1 j1 nobody k1 (worker_name 1) refl refl refl)
      (fine_step kinds limits b2 (number + 1 + 1) (join_of 2) (join_of 3 ∷ last ∷ []) (join_fine limits b2 j2 nobody k2 (worker_name 2) refl refl refl)
      (fine_step kinds limits b3 (number + 1 + 1 + 1) (join_of 3) (last ∷ []) (join_fine limits b3 j3 nobody k3 (worker_name 3) refl refl refl)
      (fine_step kinds limits b4 (number + 1 + 1 + 1 + 1) last [] (last_fine b4 entries k4) (last_call b4 j4 (number + 1 + 1 + 1 + 1) entries k4)))))

  turns_end : (locked : Bool) (calls number : ℕ) (entries : Entries) (before : List Line) (at : ℕ) → Knows before [] nobody
      → IsWellEnded (walk_items kinds limits before at (lines_of_turns locked calls number entries))
  turns_end locked zero number entries before at k = closing_end before at entries k
  turns_end false (suc calls) number entries before at k =
      let next = next_number number in
      let choice = choice_of next in
      let after = entries_after choice entries in
      call_step before nobody at choice entries (lines_of_turns false calls next after) k
      (λ known. turns_end false calls next after (before ++ call_of choice entries ∷ []) (at + 1) known)
  turns_end true (suc calls) number entries before at k =
      let next = next_number number in
      let choice = choice_of next in
      let after = entries_after choice entries in
      let worker = worker_of choice in
      let rest = lines_of_turns true calls next after in
      let b1 = before ++ acquire_of choice ∷ [] in
      let b2 = b1 ++ call_of choice entries ∷ [] in
      let b3 = b2 ++ release_of choice ∷ [] in
      fine_step kinds limits before at (acquire_of choice) (call_of choice entries ∷ release_of choice ∷ rest)
      (acquire_fine limits before [] nobody k worker (worker_known (choice % 4)) refl (λ other. refl))
      (call_step b1 (held_by worker) (at + 1) choice entries (release_of choice ∷ rest) (acquire_knows limits before [] nobody k worker (λ other. refl))
      (λ known. fine_step kinds limits b2 (at + 1 + 1) (release_of choice) rest
      (release_fine limits b2 [] (held_by worker) known worker (worker_known (choice % 4)) refl (ap {B = ℕ} (λ b. cond b 1 0) (worker_same (choice % 4))))
      (turns_end true calls next after b3 (at + 1 + 1 + 1) (release_knows limits b2 [] (held_by worker) known worker (λ other. refl)))))

  opening_end : (rest : List Line) → IsWellEnded (walk_items kinds limits opening_lines 8 rest) → IsWellEnded (walk_items kinds limits [] 1 (opening_lines ++ rest))
  unfolding first_broken counter_kind dictionary_kind register_kind set_kind
  opening_end rest end =
      let l1 = Header 1 in
      let l2 = Thread (codes "main") in
      let l3 = Object (codes "d") (codes "dictionary") in
      let b1 = l1 ∷ [] in
      let b2 = l1 ∷ l2 ∷ [] in
      let b3 = l1 ∷ l2 ∷ l3 ∷ [] in
      let b4 = l1 ∷ l2 ∷ l3 ∷ fork_of 0 ∷ [] in
      let b5 = l1 ∷ l2 ∷ l3 ∷ fork_of 0 ∷ fork_of 1 ∷ [] in
      let b6 = l1 ∷ l2 ∷ l3 ∷ fork_of 0 ∷ fork_of 1 ∷ fork_of 2 ∷ [] in
      let r7 = rest in
      let r6 = fork_of 3 ∷ r7 in
      let r5 = fork_of 2 ∷ r6 in
      let r4 = fork_of 1 ∷ r5 in
      let r3 = fork_of 0 ∷ r4 in
      let r2 = l3 ∷ r3 in
      let r1 = l2 ∷ r2 in
      fine_step kinds limits [] 1 l1 r1 (fine_causes (is_broken kinds [] l1) limits [] refl refl refl refl refl refl refl refl refl refl (λ h. refl) refl)
      (fine_step kinds limits b1 2 l2 r2 (fine_causes (is_broken kinds b1 l2) limits b1 refl refl refl refl refl refl refl refl refl refl (λ h. refl) refl)
      (fine_step kinds limits b2 3 l3 r3 (fine_causes (is_broken kinds b2 l3) limits b2 refl refl refl refl refl refl refl refl refl refl (λ h. refl) refl)
      (fine_step kinds limits b3 4 (fork_of 0) r4 (fine_causes (is_broken kinds b3 (fork_of 0)) limits b3 refl refl refl refl refl refl refl refl refl refl (λ h. refl) refl)
      (fine_step kinds limits b4 5 (fork_of 1) r5 (fine_causes (is_broken kinds b4 (fork_of 1)) limits b4 refl refl refl refl refl refl refl refl refl refl (λ h. refl) refl)
      (fine_step kinds limits b5 6 (fork_of 2) r6 (fine_causes (is_broken kinds b5 (fork_of 2)) limits b5 refl refl refl refl refl refl refl refl refl refl (λ h. refl) refl)
      (fine_step kinds limits b6 7 (fork_of 3) r7 (fine_causes (is_broken kinds b6 (fork_of 3)) limits b6 refl refl refl refl refl refl refl refl refl refl (λ h. refl) refl)
      end))))))

pub lines_end : (limits : Limits) (number calls : ℕ) → IsWellEnded (walk_items kinds limits [] 1 (generated number calls))
unfolding generated
lines_end limits number calls =
    opening_end limits (lines_of_turns (number % 2 == 0) calls (number % 65536) []) (turns_end limits (number % 2 == 0) calls (number % 65536) [] opening_lines 8 knows_opening)
