-- The replay of a whole generated trace is exact.
use Rattle.std.proofs.Common.{◌≡◌, ℕ, zero, suc, ◌+◌, ◌/◌, ◌%◌, ◌<◌, lit<, Bool, true, false, List, [], ◌∷◌, ◌++◌, Option, Some, None, refl, sym, ap, ◌∙◌, arith}
use Rattle.std.specs.List.{cons_option}
use Rattle.std.specs.Prelude.{◌==◌, codes}
use Rattle.std.proofs.lemmas.List.{append_assoc, append-nil}
use Rattle.rd_base.specs.declared.limits.Limits.{Limits}
use Rattle.rd_base.specs.declared.values.Value.{Value}
use Rattle.rd_event.specs.declared.events.Call.{Call}
use Rattle.rd_event.specs.declared.items.Line.{Line}
use Rattle.rd_event.specs.declared.items.Line.TheVariants.{Header, Thread, Object}
use Rattle.rd_gen.specs.Generated.{acquire_of, arguments_for, call_line, call_of, choice_of, closing_lines, dictionary_method, entries_after, entries_behind, fork_of, generated, join_of, lines_of_turns, method_chosen, next_number, opening_lines, release_of, worker_name, worker_of}
use Rattle.rd_gen_command.specs.GeneratedWalks.{walk_items}
use Rattle.rd_gen_laws.proofs.GivenLemmas.{HoldsEntries, call_exact, call_in_numbers, call_recorded, holds_none, slots_in}
use Rattle.rd_gen_laws.proofs.KnownLemmas.{Knows, held_by, kinds, knows_opening, nobody}
use Rattle.rd_gen_laws.proofs.LineLemmas.{acquire_knows, call_knows, join_knows, release_knows}
use Rattle.rd_kinds.specs.Machines.{Entries}
use Rattle.rd_kinds.specs.Shipped.{counter_kind, dictionary_kind, register_kind, set_kind}
use Rattle.rd_object.specs.declared.shapes.ReplayEnd.TheVariants.{Exact}
use Rattle.rd_replay.specs.Replays.{Recorded, replay_end}
use Rattle.rd_replay_command.specs.Replaying.{recorded_at, recorded_from, recorded_of, replay_of}
use Rattle.rd_rules.specs.MayFollow.{declared_kind, first_broken, object_kinds}
use Rattle.rd_rules.specs.declared.causes.WfCause.{WfCause}
use Rattle.rd_walk.specs.Walk.{Walked, accepted_or, entries_of, goes_or_ends, items}

-- behind these lines and calls the lines of a walk declare no object, and the replay stays exact
record IsExactBehind (before : List Line) (calls : List Recorded) (walked : Walked) : Type 0 where
  pub none_declared : object_kinds kinds (items (entries_of walked)) ≡ []
  pub exact : replay_end (3 ∷ []) (calls ++ recorded_from kinds before (entries_of walked)) ≡ Exact

-- a call declares no object
no_kind : (thread : List ℕ) (method : ℕ) (arguments : List Value) (entries : Entries) → declared_kind kinds (call_line thread method arguments entries) ≡ None
unfolding call_line
no_kind thread method arguments entries = refl

-- the first lines
abbrev header_line : Line
header_line = Header 1

abbrev main_line : Line
main_line = Thread (codes "main")

abbrev dictionary_line : Line
dictionary_line = Object (codes "d") (codes "dictionary")

abbrev forks : List Line → List Line
forks rest = fork_of 0 ∷ fork_of 1 ∷ fork_of 2 ∷ fork_of 3 ∷ rest

module _ (limits : Limits) where
  -- one line more, which is the first of the walk where it is accepted
  step : (before : List Line) (calls now : List Recorded) (number : ℕ) (item : Line) (lines : List Line) → declared_kind kinds item ≡ None
      → ((rest : List Recorded) → calls ++ cons_option (recorded_at kinds before (record { number = number; item = item })) rest ≡ now ++ rest)
      → replay_end (3 ∷ []) calls ≡ Exact → IsExactBehind (before ++ item ∷ []) now (walk_items kinds limits (before ++ item ∷ []) (number + 1) lines)
      → IsExactBehind before calls (walk_items kinds limits before number (item ∷ lines))
  unfolding walk_items entries_of
  step before calls now number item lines declared is exact rest = by (first_broken kinds limits before item)
    where
      by : (broken : Option WfCause)
          → IsExactBehind before calls (goes_or_ends number (accepted_or item broken) (λ found. walk_items kinds limits (before ++ found ∷ []) (number + 1) lines))
      by None =
          let more = entries_of (walk_items kinds limits (before ++ item ∷ []) (number + 1) lines) in
          record {
            none_declared = ap (λ o. cons_option o (object_kinds kinds (items more))) declared ∙ rest.none_declared;
            exact = ap (replay_end (3 ∷ [])) (is (recorded_from kinds (before ++ item ∷ []) more)) ∙ rest.exact;
          }
      by (Some cause) = record { none_declared = refl; exact = ap (replay_end (3 ∷ [])) (append-nil calls) ∙ exact }

  -- behind the last line
  last_exact : (before : List Line) (calls : List Recorded) (number : ℕ) → replay_end (3 ∷ []) calls ≡ Exact
      → IsExactBehind before calls (walk_items kinds limits before number [])
  unfolding walk_items entries_of
  last_exact before calls number exact = record { none_declared = refl; exact = ap (replay_end (3 ∷ [])) (append-nil calls) ∙ exact }

  -- a call
  call_step : (before : List Line) (joined : List (List ℕ)) (ahead : List ℕ → ℕ) (calls : List Recorded) (number : ℕ) (thread : List ℕ)
      (method key value : ℕ) (entries : Entries) (lines : List Line) → Knows before joined ahead → method < 3 → HoldsEntries calls entries
      → ((call : Call) → HoldsEntries (calls ++ (number, call) ∷ []) (entries_behind method (arguments_for method key value) entries)
      → IsExactBehind (before ++ call_line thread method (arguments_for method key value) entries ∷ []) (calls ++ (number, call) ∷ [])
      (walk_items kinds limits (before ++ call_line thread method (arguments_for method key value) entries ∷ []) (number + 1) lines))
      → IsExactBehind before calls (walk_items kinds limits before number (call_line thread method (arguments_for method key value) entries ∷ lines))
  call_step before joined ahead calls number thread method key value entries lines k below so_far rest =
      let call = call_in_numbers limits before joined ahead k thread (dictionary_method method) (slots_in entries method key value) in
      let line = call_line thread method (arguments_for method key value) entries in
      step before calls (calls ++ (number, call) ∷ []) number line lines (no_kind thread method (arguments_for method key value) entries)
      (λ rest. ap (λ o. calls ++ cons_option o rest) (call_recorded limits before joined ahead k thread method key value entries below calls number so_far)
      ∙ sym (append_assoc calls ((number, call) ∷ []) rest))
      so_far.exact (rest call (call_exact limits before joined ahead k thread method key value entries below calls number so_far))

  closing_exact : (before : List Line) (calls : List Recorded) (number : ℕ) (entries : Entries) → Knows before [] nobody → HoldsEntries calls entries
      → IsExactBehind before calls (walk_items kinds limits before number (closing_lines entries))
  closing_exact before calls number entries k so_far =
      let last = call_line (codes "main") 2 [] entries in
      let b1 = before ++ join_of 0 ∷ [] in
      let b2 = b1 ++ join_of 1 ∷ [] in
      let b3 = b2 ++ join_of 2 ∷ [] in
      let b4 = b3 ++ join_of 3 ∷ [] in
      let j1 = worker_name 0 ∷ [] in
      let j2 = worker_name 0 ∷ worker_name 1 ∷ [] in
      let j3 = worker_name 0 ∷ worker_name 1 ∷ worker_name 2 ∷ [] in
      let j4 = worker_name 0 ∷ worker_name 1 ∷ worker_name 2 ∷ worker_name 3 ∷ [] in
      let k1 : Knows b1 j1 nobody = join_knows limits before [] nobody k (worker_name 0) in
      let k2 : Knows b2 j2 nobody = join_knows limits b1 j1 nobody k1 (worker_name 1) in
      let k3 : Knows b3 j3 nobody = join_knows limits b2 j2 nobody k2 (worker_name 2) in
      let k4 : Knows b4 j4 nobody = join_knows limits b3 j3 nobody k3 (worker_name 3) in
      let exact = so_far.exact in
      step before calls calls number (join_of 0) (join_of 1 ∷ join_of 2 ∷ join_of 3 ∷ last ∷ []) refl (λ rest. refl) exact
      (step b1 calls calls (number + 1) (join_of 1) (join_of 2 ∷ join_of 3 ∷ last ∷ []) refl (λ rest. refl) exact
      (step b2 calls calls (number + 1 + 1) (join_of 2) (join_of 3 ∷ last ∷ []) refl (λ rest. refl) exact
      (step b3 calls calls (number + 1 + 1 + 1) (join_of 3) (last ∷ []) refl (λ rest. refl) exact
      (call_step b4 j4 nobody calls (number + 1 + 1 + 1 + 1) (codes "main") 2 0 0 entries [] k4 (lit< tt) so_far
      (λ call now. last_exact (b4 ++ last ∷ []) (calls ++ (number + 1 + 1 + 1 + 1, call) ∷ []) (number + 1 + 1 + 1 + 1 + 1) now.exact)))))

  below_three : (choice : ℕ) → method_chosen choice < 3
  below_three choice = omega arith

  call_behind : (before : List Line) (ahead : List ℕ → ℕ) (choice : ℕ) (entries : Entries) → Knows before [] ahead
      → Knows (before ++ call_of choice entries ∷ []) [] ahead
  unfolding call_line
  call_behind before ahead choice entries k =
      call_knows limits before [] ahead k (worker_of choice) (dictionary_method (method_chosen choice))
      (slots_in entries (method_chosen choice) (choice / 16 % 32) (choice / 512))

  -- the call of a turn
  turn_call : (before : List Line) (ahead : List ℕ → ℕ) (calls : List Recorded) (number choice : ℕ) (entries : Entries) (lines : List Line) → Knows before [] ahead
      → HoldsEntries calls entries
      → ((call : Call) → HoldsEntries (calls ++ (number, call) ∷ []) (entries_after choice entries)
      → IsExactBehind (before ++ call_of choice entries ∷ []) (calls ++ (number, call) ∷ [])
      (walk_items kinds limits (before ++ call_of choice entries ∷ []) (number + 1) lines))
      → IsExactBehind before calls (walk_items kinds limits before number (call_of choice entries ∷ lines))
  turn_call before ahead calls number choice entries lines k so_far rest =
      call_step before [] ahead calls number (worker_of choice) (method_chosen choice) (choice / 16 % 32) (choice / 512) entries lines k (below_three choice)
      so_far rest

  turns_exact : (locked : Bool) (turns number : ℕ) (entries : Entries) (before : List Line) (calls : List Recorded) (at : ℕ) → Knows before [] nobody
      → HoldsEntries calls entries → IsExactBehind before calls (walk_items kinds limits before at (lines_of_turns locked turns number entries))
  turns_exact locked zero number entries before calls at k so_far = closing_exact before calls at entries k so_far
  turns_exact false (suc turns) number entries before calls at k so_far =
      let next = next_number number in
      let choice = choice_of next in
      let after = entries_after choice entries in
      turn_call before nobody calls at choice entries (lines_of_turns false turns next after) k so_far
      (λ call now. turns_exact false turns next after (before ++ call_of choice entries ∷ []) (calls ++ (at, call) ∷ []) (at + 1)
      (call_behind before nobody choice entries k) now)
  turns_exact true (suc turns) number entries before calls at k so_far =
      let next = next_number number in
      let choice = choice_of next in
      let after = entries_after choice entries in
      let worker = worker_of choice in
      let rest = lines_of_turns true turns next after in
      let b1 = before ++ acquire_of choice ∷ [] in
      let b2 = b1 ++ call_of choice entries ∷ [] in
      let b3 = b2 ++ release_of choice ∷ [] in
      let k1 : Knows b1 [] (held_by worker) = acquire_knows limits before [] nobody k worker (λ other. refl) in
      let k2 : Knows b2 [] (held_by worker) = call_behind b1 (held_by worker) choice entries k1 in
      let k3 : Knows b3 [] nobody = release_knows limits b2 [] (held_by worker) k2 worker (λ other. refl) in
      step before calls calls at (acquire_of choice) (call_of choice entries ∷ release_of choice ∷ rest) refl (λ rest. refl) so_far.exact
      (turn_call b1 (held_by worker) calls (at + 1) choice entries (release_of choice ∷ rest) k1 so_far
      (λ call now. step b2 (calls ++ (at + 1, call) ∷ []) (calls ++ (at + 1, call) ∷ []) (at + 1 + 1) (release_of choice) rest refl (λ rest. refl) now.exact
      (turns_exact true turns next after b3 (calls ++ (at + 1, call) ∷ []) (at + 1 + 1 + 1) k3 now)))

  -- the lines that begin the workers
  forks_exact : (rest : List Line) → IsExactBehind opening_lines [] (walk_items kinds limits opening_lines 8 rest)
      → IsExactBehind (header_line ∷ main_line ∷ dictionary_line ∷ []) [] (walk_items kinds limits (header_line ∷ main_line ∷ dictionary_line ∷ []) 4 (forks rest))
  forks_exact rest end =
      let b3 = header_line ∷ main_line ∷ dictionary_line ∷ [] in
      let b4 = b3 ++ fork_of 0 ∷ [] in
      let b5 = b4 ++ fork_of 1 ∷ [] in
      let b6 = b5 ++ fork_of 2 ∷ [] in
      let exact = holds_none.exact in
      step b3 [] [] 4 (fork_of 0) (fork_of 1 ∷ fork_of 2 ∷ fork_of 3 ∷ rest) refl (λ more. refl) exact
      (step b4 [] [] 5 (fork_of 1) (fork_of 2 ∷ fork_of 3 ∷ rest) refl (λ more. refl) exact
      (step b5 [] [] 6 (fork_of 2) (fork_of 3 ∷ rest) refl (λ more. refl) exact
      (step b6 [] [] 7 (fork_of 3) rest refl (λ more. refl) exact end)))

  -- and those before them, the last of which declares the dictionary
  opening_exact : (rest : List Line) → IsExactBehind opening_lines [] (walk_items kinds limits opening_lines 8 rest)
      → replay_of kinds (entries_of (walk_items kinds limits [] 1 (opening_lines ++ rest))) ≡ Exact
  unfolding walk_items entries_of recorded_of replay_end counter_kind dictionary_kind register_kind set_kind
  opening_exact rest end = first (first_broken kinds limits [] header_line)
    where
      third : (broken : Option WfCause)
          → replay_of kinds (record { number = 1; item = header_line } ∷ record { number = 2; item = main_line }
          ∷ entries_of (goes_or_ends 3 (accepted_or dictionary_line broken) (λ found. walk_items kinds limits (header_line ∷ main_line ∷ found ∷ []) 4 (forks rest)))) ≡ Exact
      third None =
          let exact = forks_exact rest end in
          let before = header_line ∷ main_line ∷ dictionary_line ∷ [] in
          let more = entries_of (walk_items kinds limits before 4 (forks rest)) in
          ap (λ os. replay_end (3 ∷ os) (recorded_from kinds before more)) exact.none_declared ∙ exact.exact
      third (Some cause) = refl

      second : (broken : Option WfCause)
          → replay_of kinds (record { number = 1; item = header_line }
          ∷ entries_of (goes_or_ends 2 (accepted_or main_line broken) (λ found. walk_items kinds limits (header_line ∷ found ∷ []) 3 (dictionary_line ∷ forks rest)))) ≡ Exact
      second None = third (first_broken kinds limits (header_line ∷ main_line ∷ []) dictionary_line)
      second (Some cause) = refl

      first : (broken : Option WfCause)
          → replay_of kinds (entries_of (goes_or_ends 1 (accepted_or header_line broken) (λ found. walk_items kinds limits (found ∷ []) 2 (main_line ∷ dictionary_line ∷ forks rest)))) ≡ Exact
      first None = second (first_broken kinds limits (header_line ∷ []) main_line)
      first (Some cause) = refl

pub replays_exact : (limits : Limits) (number calls : ℕ) → replay_of kinds (entries_of (walk_items kinds limits [] 1 (generated number calls))) ≡ Exact
unfolding generated
replays_exact limits number calls =
    opening_exact limits (lines_of_turns (number % 2 == 0) calls (number % 65536) [])
    (turns_exact limits (number % 2 == 0) calls (number % 65536) [] opening_lines [] 8 knows_opening holds_none)
