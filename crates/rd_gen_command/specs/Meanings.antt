-- What `gen` means: this project's profile.
use Rattle.std.specs.Prelude.{ℕ}
use Rattle.rd_check_command.specs.Checked.{check_texts}
use Rattle.rd_gen_command.specs.GeneratedWalks.{gen_meaning}
use Rattle.rd_json.specs.declared.forms.Form.TheVariants.{EndingOnly}
use Rattle.rd_kinds.specs.Shipped.{shipped_kinds}
use Rattle.rd_replay_command.specs.States.{built_in_kinds}
use Rattle.rd_walk.specs.Meanings.{Meaning}

-- `gen NUMBER COUNT`: the lines of the trace are checked by the kinds that are built in, and the ending alone is written
abbrev pub gen_check_meaning : ℕ → ℕ → Meaning
gen_check_meaning number count = gen_meaning (check_texts EndingOnly shipped_kinds) built_in_kinds number count
