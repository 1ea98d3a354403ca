-- What `gen-text` writes, and what it means: this project's profile.
use Rattle.std.specs.Prelude.{ℕ}
use Rattle.rd_event.specs.Items.{lines_text}
use Rattle.rd_gen.specs.Generated.{generated}
use Rattle.rd_walk.specs.Meanings.{Meaning, text_meaning}
use Rattle.rd_walk.specs.Output.{IsTextStatus, Outcome}
use Rattle.rd_walk.specs.declared.status.Status.TheVariants.{Clean}

-- the trace of a number with so many calls
abbrev pub gen_text_outcome : ℕ → ℕ → Outcome
gen_text_outcome number count = record { text = lines_text (generated number count); status = Clean }

-- `gen-text NUMBER COUNT`
abbrev pub gen_text_meaning : ℕ → ℕ → Meaning
gen_text_meaning number count = text_meaning IsTextStatus (gen_text_outcome number count)
