-- The number of a built-in kind, the words of `check`, and words that match no command.
use Rattle.rd_json.specs.declared.forms.Form.TheVariants.{Text, Json, EndingOnly}
use Rattle.rd_json.specs.declared.forms.Form.{Form}
use Rattle.rd_kinds.specs.Shipped.{counter_kind, dictionary_kind, register_kind, reserved_names, set_kind}
use Rattle.rd_more.specs.MoreKinds.{bag_kind, peak_kind, queue_kind, tally_kind}
use Rattle.rd_rules.specs.MayFollow.{same_name}
use Rattle.rd_run.specs.Commands.{AskForCheck, command_of, meaning_of, named_number}
use Rattle.rd_run.specs.declared.commands.Command.{Command}
use Rattle.rd_check_command.specs.Meanings.{check_meaning}
use Rattle.rd_walk.specs.Meanings.{Ran, Seen}
use Rattle.rd_base.specs.declared.limits.Limits.{Limits}
use Rattle.rd_walk.specs.Output.{ended_status}
use Rattle.rd_walk.specs.declared.analysis.Halt.TheVariants as halt
use Rattle.rd_walk.specs.declared.analysis.Halt.{Halt}
use Rattle.rd_walk.specs.declared.status.Ended.TheVariants as ended
use Rattle.rd_walk.specs.declared.status.Ended.{Ended}
use Rattle.rd_walk.specs.declared.status.Status.TheVariants.{OutputFault, Usage}
use Rattle.rd_walk.specs.declared.status.Status.{Status}
use Rattle.std.proofs.Common.{◌≡◌, ◌≢◌, ℕ, ◌<◌, ◌≤◌, List, [], ◌∷◌, length, get_or, Option, Some, None, Result, Ok, Err, IfOk, IfErr, refl, ap, sym, subst, arith}
use Rattle.std.specs.Prelude.{position}

-- the kind with a name, and its number: the names that are taken are those of the kinds that are built in
pub numbered : (name : List ℕ) → position (same_name name) reserved_names ≡ named_number name
unfolding counter_kind dictionary_kind register_kind set_kind bag_kind peak_kind queue_kind tally_kind
numbered name = refl

-- four words are these, with one of them between
pub four_words : {X : Type 0} (words : List X) (word first second : X) → 4 ≤ length words → length words < 5 → word ≡ get_or words 0 word
    → first ≡ get_or words 2 first → second ≡ get_or words 3 second → (trace : X) × (words ≡ word ∷ trace ∷ first ∷ second ∷ [])
four_words [] word first second least most one third fourth = absurd (omega arith)
four_words (a ∷ []) word first second least most one third fourth = absurd (omega arith)
four_words (a ∷ b ∷ []) word first second least most one third fourth = absurd (omega arith)
four_words (a ∷ b ∷ c ∷ []) word first second least most one third fourth = absurd (omega arith)
four_words (a ∷ b ∷ c ∷ d ∷ []) word first second least most one third fourth = (b, λ i. sym one i ∷ b ∷ sym third i ∷ sym fourth i ∷ [])
four_words (a ∷ b ∷ c ∷ d ∷ e ∷ words) word first second least most one third fourth = absurd (omega arith)

-- the words of `check` mean a check of that trace
pub means_check : (words : List (List ℕ)) (form : Form) (trace : List ℕ) (file : Option (List ℕ)) → AskForCheck words form trace file
    → {I : Type 0} (limits : Limits) (before after : Seen I) (status : Status) → Ran (meaning_of words (command_of words)) limits before after status
    → Ran (check_meaning form trace file) limits before after status
means_check words Text trace None asks limits before after status ran = subst (λ w. Ran (meaning_of w (command_of w)) limits before after status) asks ran
means_check words Text trace (Some file) asks limits before after status ran = subst (λ w. Ran (meaning_of w (command_of w)) limits before after status) asks ran
means_check words Json trace None asks limits before after status ran = subst (λ w. Ran (meaning_of w (command_of w)) limits before after status) asks ran
means_check words Json trace (Some file) asks limits before after status ran = subst (λ w. Ran (meaning_of w (command_of w)) limits before after status) asks ran
means_check words EndingOnly trace file asks limits before after status ran = absurd asks

-- the words that asked for a command mean it
pub asked_for : (words : List (List ℕ)) (asked : Option Command) → asked ≡ command_of words → {I : Type 0} (limits : Limits) (before after : Seen I)
    (status : Status) → Ran (meaning_of words asked) limits before after status → Ran (meaning_of words (command_of words)) limits before after status
asked_for words asked same limits before after status ran = subst (λ command. Ran (meaning_of words command) limits before after status) same ran

-- where the words match no command, this is said, unless the write failed
pub usage_no_fault : (result : Result Ended Halt) → IfOk result (λ end. end ≡ ended.Usage) → result ≢ Ok ended.InputFault
usage_no_fault (Ok end) usage e = cc
usage_no_fault (Err halt) usage e = cc

pub usage_ends : (result : Result Ended Halt) → IfOk result (λ end. end ≡ ended.Usage) → IfErr result (λ h. h ≡ halt.OutputFault)
    → ended_status result ≢ OutputFault → ended_status result ≡ Usage
usage_ends (Ok end) usage only other = ap (λ e. ended_status (Ok e)) usage
usage_ends (Err h) usage only other = absurd (other (ap (λ e. ended_status (Err e)) only))
