-- What `adjacent` writes and answers, in the words of accepted lines, of linear orders and of paths.
use Rattle.std.proofs.Common.{◌≡◌, ◌≢◌, ℕ, suc, ◌^◌, ◌+◌, ◌<◌, List, [], ◌∷◌, ◌++◌, length, Some, slice_get, refl, sym, subst, arith, inl, inr}
use Rattle.std.proofs.lemmas.Bool.{cases_lt}
use Rattle.std.specs.Prelude.{All, IsPermutation, filter, max, min}
use Rattle.std.specs.List.{range_with_len}
use Rattle.std.proofs.lemmas.Option.{slice_get_within}
use Rattle.rd_adjacent.proofs.BesideLemmas.{beside_linear}
use Rattle.rd_adjacent.specs.Adjacent.{IsCallAt}
use Rattle.rd_adjacent.specs.Beside.{beside, places_before, places_behind}
use Rattle.rd_adjacent_command.proofs.CallLemmas.{call_there, found_on, places_apart}
use Rattle.rd_adjacent_command.specs.Outcomes.{adjacent_outcome, call_on, event_lines}
use Rattle.rd_adjacent_command.specs.Reports.{AreBeside, IsAdjacentTrace}
use Rattle.rd_base.specs.Limits.{AreUsable}
use Rattle.rd_base.specs.declared.limits.Limits.{Limits}
use Rattle.rd_event.specs.declared.events.Event.{Event}
use Rattle.rd_io.specs.Lines.{Stop, reading}
use Rattle.rd_linear.proofs.LinearLemmas.{linear_inside}
use Rattle.rd_order.proofs.FarthestLemmas.{path_is_farthest}
use Rattle.rd_replay_command.specs.States.{built_in_kinds}
use Rattle.rd_rewriting.proofs.KeepingLemmas.{events_counted}
use Rattle.rd_rewriting.proofs.PermutationLemmas.{accepted_follow, events_permuted, headed, lines_permuted}
use Rattle.rd_rewriting.specs.Keeping.{FollowFrom}
use Rattle.rd_rules.specs.Events.{events_of}
use Rattle.rd_rules.specs.MayFollow.{is_event}
use Rattle.rd_rules.specs.laws.NoLines.{told_none}
use Rattle.rd_walk.proofs.AcceptedLemmas.{trace_accepted}
use Rattle.rd_walk.proofs.AcceptedLineLemmas.{trace_walk}
use Rattle.rd_walk.specs.Walk.{ending_of, entries_of, items, trace_of}

-- ---- neighbours

at_here : (xs ys : List ℕ) (y : ℕ) → slice_get (xs ++ y ∷ ys) (length xs) ≡ Some y
at_here [] ys y = refl
at_here (x ∷ xs) ys y = at_here xs ys y

at_next : (xs ys : List ℕ) (y z : ℕ) → slice_get (xs ++ y ∷ z ∷ ys) (suc (length xs)) ≡ Some z
at_next [] ys y z = refl
at_next (x ∷ xs) ys y z = at_next xs ys y z

neighbours : (es : List Event) (i j : ℕ) → (at : ℕ) × (slice_get (beside es i j) at ≡ Some i) × (slice_get (beside es i j) (at + 1) ≡ Some j)
unfolding beside
neighbours es i j =
    let before = places_before es i j (length es) in
    let behind = places_behind es i j (length es) in
    let next : suc (length before) ≡ length before + 1 = omega arith in
    (length before, at_here before (j ∷ behind) i, subst (λ at. slice_get (before ++ i ∷ j ∷ behind) at ≡ Some j) next (at_next before behind i j))

call_within : (es : List Event) (place : ℕ) → IsCallAt es place → place < length es
call_within es place (call, at) = slice_get_within es place _ at

-- ---- two calls

module _ (es : List Event) (lines : List ℕ) (first second i j : ℕ) (order : first < second) (one : call_on es lines first ≡ Some i) (other : call_on es lines second ≡ Some j) where
  at_i : IsCallAt es i
  at_i = call_there es i (found_on es lines first i one).call

  at_j : IsCallAt es j
  at_j = call_there es j (found_on es lines second j other).call

  apart : i ≢ j
  apart = places_apart es lines first second i j order one other

  least : IsCallAt es (min i j)
  least = elim (cases_lt i j) [
    | inl before ↦ subst (IsCallAt es) (let is : i ≡ min i j = omega (arith, before) in is) at_i
    | inr late ↦ subst (IsCallAt es) (let is : j ≡ min i j = omega (arith, late) in is) at_j
  ]

  most : IsCallAt es (max i j)
  most = elim (cases_lt i j) [
    | inl before ↦ subst (IsCallAt es) (let is : j ≡ max i j = omega (arith, before) in is) at_j
    | inr late ↦ subst (IsCallAt es) (let is : i ≡ max i j = omega (arith, late) in is) at_i
  ]

  pub two_calls : AreBeside es (min i j) (max i j)
  two_calls =
      let below : min i j < max i j = omega (arith, apart) in record {
        one = least;
        other = most;
        order = below;
        linear = λ loose. beside_linear es (min i j) (max i j) below (call_within es (max i j) most) loose;
        neighbours = neighbours es (min i j) (max i j);
        path = λ reach. path_is_farthest es (min i j) (max i j) reach;
      }

-- ---- the bytes

pub adjacent_so : (first second : ℕ) → first < second → (limits : Limits) → AreUsable limits → limits.threads < 2 ^ 32 → (stop : Stop) (bytes : List ℕ)
    → IsAdjacentTrace first second limits stop bytes (adjacent_outcome first second built_in_kinds (trace_of built_in_kinds limits stop bytes))
adjacent_so first second order limits usable range stop bytes =
    let walked = trace_of built_in_kinds limits stop bytes in
    let entries = entries_of walked in
    let lines = items entries in
    let walk = trace_walk built_in_kinds limits stop bytes in
    let follow : FollowFrom built_in_kinds [] lines = accepted_follow built_in_kinds [] lines (told_none built_in_kinds) (trace_accepted built_in_kinds limits usable range stop bytes) in
    let es = events_of built_in_kinds lines in
    let many : length (filter is_event lines) ≡ length es = sym (events_counted built_in_kinds lines follow) in record {
      entries = entries;
      ending = ending_of walked;
      walk = walk;
      told = refl;
      two = λ i j one other. two_calls es (event_lines entries) first second i j order one other;
      same = λ well i j below call loose.
          let places = beside es i j in
          let linear = beside_linear es i j below (call_within es j call) loose in
          lines_permuted built_in_kinds lines follow
          (headed built_in_kinds limits [] 1 (reading limits.line limits.bytes stop bytes) entries (ending_of walked) walk well) places
          (events_permuted (filter is_event lines) places
          (subst (λ n. IsPermutation (range_with_len 0 n) places) (sym many) linear.all)
          (subst (λ n. All (λ p. p < n) places) (sym many) (linear_inside es places linear)));
    }
