-- The texts that `replay` writes: what objects hold, one after another, and what stands in front of them.
use Rattle.std.proofs.Common.{◌≡◌, ℕ, zero, suc, ◌+◌, Bool, List, [], ◌++◌, refl, sym, ap, ◌∙◌, arith, true≢false}
use Rattle.std.specs.Prelude.{IsTrue}
use Rattle.std.proofs.lemmas.List.{append_assoc, append-nil}
use Rattle.rd_replay.specs.Replays.{Recorded, held_shape}
use Rattle.rd_object.specs.declared.shapes.ReplayEnd.{ReplayEnd}
use Rattle.rd_object.specs.declared.shapes.ReplayEnd.TheVariants.{Exact, Differs, NotShipped}
use Rattle.rd_report.specs.Texts.{name_of, replay_line}
use Rattle.rd_report.specs.declared.endings.Ending.{Ending}
use Rattle.rd_report.specs.declared.endings.Ending.TheVariants as report
use Rattle.rd_replay_command.specs.States.{held_text, is_exact, replayed_text, states_before}

module _ (names : List (List ℕ)) (kinds : List ℕ) (calls : List Recorded) where
  abbrev text_of : ℕ → List ℕ
  text_of object = held_text (name_of names object) (held_shape kinds calls object)

  -- one more
  pub states_more : (object : ℕ) → states_before names kinds calls (suc object) ≡ states_before names kinds calls object ++ text_of object
  unfolding states_before
  states_more object = refl

  -- those behind the first ones
  pub states_rest : (first more : ℕ) → (rest : List ℕ) × (states_before names kinds calls (more + first) ≡ states_before names kinds calls first ++ rest)
  states_rest first zero = ([], ap (states_before names kinds calls) (omega arith) ∙ sym (append-nil (states_before names kinds calls first)))
  states_rest first (suc more) =
      let (rest, is) = states_rest first more in
      (rest ++ text_of (more + first), ap (states_before names kinds calls) (omega arith) ∙ states_more (more + first) ∙ ap (λ t. t ++ text_of (more + first)) is ∙ append_assoc (states_before names kinds calls first) rest (text_of (more + first)))

-- ---- the text behind the lines

-- without states it is the line of the replay
pub replayed_end : (names : List (List ℕ)) (replay : ReplayEnd) (shown : Bool) → replayed_text names [] (report.End replay shown) ≡ replay_line replay
replayed_end names Exact shown = append-nil (replay_line Exact)
replayed_end names (Differs line expected) shown = refl
replayed_end names NotShipped shown = refl

-- the states stand behind it
pub replayed_exact : (names : List (List ℕ)) (states : List ℕ) (ending : Ending) → IsTrue (is_exact ending)
    → replayed_text names states ending ≡ replayed_text names [] ending ++ states
replayed_exact names states (report.End Exact shown) exact = ap (λ t. t ++ states) (sym (append-nil (replay_line Exact)))
replayed_exact names states (report.End (Differs line expected) shown) exact = absurd (true≢false (sym exact))
replayed_exact names states (report.End NotShipped shown) exact = absurd (true≢false (sym exact))
replayed_exact names states (report.Refused number cause) exact = absurd (true≢false (sym exact))
replayed_exact names states report.Fault exact = absurd (true≢false (sym exact))

pub replayed_front : (names : List (List ℕ)) (states : List ℕ) (ending : Ending) → (rest : List ℕ) × (replayed_text names states ending ≡ replayed_text names [] ending ++ rest)
replayed_front names states (report.End Exact shown) = (states, replayed_exact names states (report.End Exact shown) refl)
replayed_front names states (report.End (Differs line expected) shown) = ([], sym (append-nil (replay_line (Differs line expected))))
replayed_front names states (report.End NotShipped shown) = ([], sym (append-nil (replay_line NotShipped)))
replayed_front names states (report.Refused number cause) = ([], sym (append-nil (replayed_text names [] (report.Refused number cause))))
replayed_front names states report.Fault = ([], sym (append-nil (replayed_text names [] report.Fault)))
