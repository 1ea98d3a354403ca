-- The calls of a generated trace are calls of a dictionary.
use Rattle.std.proofs.Common.{◌≡◌, ◌<◌, ◌-◌, ◌/◌, ◌%◌, ℕ, zero, suc, [], ◌∷◌, refl, arith, lit<}
use Rattle.rd_kinds.specs.Machines.{dictionary_machine}
use Rattle.rd_kinds.specs.Shipped.{dictionary_kind}
use Rattle.rd_object.specs.Machines.{IsTaken}
use Rattle.std.proofs.Common.{Bool, true, false, sym, true≢false}
use Rattle.rd_kinds.specs.Machines.{Entries}
use Rattle.rd_event.specs.declared.items.Line.{Line}
use Rattle.rd_gen.specs.Generated.{acquire_of, arguments_for, arguments_chosen, call_of, choice_of, entries_after, method_chosen, next_number, release_of, lines_of_turns}
use Rattle.rd_gen.specs.Generator.{lines_from}
use Rattle.rd_gen.specs.declared.generator.Stage.{Stage}
use Rattle.rd_gen.specs.declared.generator.Stage.TheVariants.{Turning}

taken_by : (method key value : ℕ) → method < 3 → IsTaken dictionary_machine method (arguments_for method key value)
unfolding dictionary_kind
taken_by zero key value below = (lit< tt, refl)
taken_by (suc zero) key value below = (lit< tt, refl)
taken_by (suc (suc zero)) key value below = (lit< tt, refl)
taken_by (suc (suc (suc method))) key value below = absurd (omega arith)

pub choice_taken : (choice : ℕ) → IsTaken dictionary_machine (method_chosen choice) (arguments_chosen choice)
choice_taken choice = taken_by (method_chosen choice) (choice / 16 % 32) (choice / 512) (omega arith)

pub size_taken : IsTaken dictionary_machine 2 []
unfolding dictionary_kind
size_taken = (lit< tt, refl)

-- the first line of a turn, and those behind it
pub locked_turn : (stage : Stage) (locked : Bool) (left number next : ℕ) (entries : Entries) (line : Line) → stage ≡ Turning → locked ≡ true → ¬ (left ≡ 0)
    → next ≡ next_number number → line ≡ acquire_of (choice_of next)
    → lines_from stage locked left number entries
    ≡ line ∷ call_of (choice_of next) entries ∷ release_of (choice_of next) ∷ lines_of_turns locked (left - 1) next (entries_after (choice_of next) entries)
locked_turn stage false left number next entries line turning locks some is first = absurd (true≢false (sym locks))
locked_turn stage true zero number next entries line turning locks some is first = absurd (some refl)
locked_turn stage true (suc left) number next entries line turning locks some is first =
    let e : suc left - 1 ≡ left = omega arith in
    rw (turning, first, is, e) refl

pub unlocked_turn : (stage : Stage) (locked : Bool) (left number next : ℕ) (entries behind : Entries) (line : Line) → stage ≡ Turning → locked ≡ false → ¬ (left ≡ 0)
    → next ≡ next_number number → line ≡ call_of (choice_of next) entries → behind ≡ entries_after (choice_of next) entries
    → lines_from stage locked left number entries ≡ line ∷ lines_from stage locked (left - 1) next behind
unlocked_turn stage true left number next entries behind line turning free some is call after = absurd (true≢false free)
unlocked_turn stage false zero number next entries behind line turning free some is call after = absurd (some refl)
unlocked_turn stage false (suc left) number next entries behind line turning free some is call after =
    let e : suc left - 1 ≡ left = omega arith in
    rw (turning, call, after, is, e) refl
