use Rattle.std.proofs.Common.{◌≡◌, ℕ, ◌+◌, ◌-◌, ◌<◌, length, take, drop, get_or, sym, ap, ◌∙◌, arith, take_all, length-drop}
use Rattle.rd_tables.proofs.CutLemmas.{front_passes, no_two, space_at}
use Rattle.rd_tables.proofs.near.cut_name.Goals as goal

pub returns-then-length-bytes-clause-none : goal.returns-then-length-bytes-clause-none
returns-then-length-bytes-clause-none c = no_two c.args.bytes.now c.name_length-length.result c.name_length-length.ensures.value (λ inside. omega (arith, c.if-length-bytes.true))

pub returns-then-bytes-length-ne32-clause-none : goal.returns-then-bytes-length-ne32-clause-none
returns-then-bytes-length-ne32-clause-none c = no_two c.args.bytes.now c.name_length-length.result c.name_length-length.ensures.value (λ inside. c.if-bytes-length-ne32.true)

pub returns-clause-before : goal.returns-clause-before
returns-clause-before c = ap (λ n. take n c.args.bytes.now) (sym (space_at c.args.bytes.now c.name_length-length.result c.name_length-length.ensures.value 0 (omega (arith, c.if-length-bytes.false, c.name_length-length.ensures.bound)) c.if-bytes-length-ne32.false))

pub returns-clause-after : goal.returns-clause-after
returns-clause-after c =
    take_all _ (drop (c.name_length-length.result + 1) c.args.bytes.now) (omega (arith, length-drop (c.name_length-length.result + 1) c.args.bytes.now))
    ∙ ap (λ n. drop (n + 1) c.args.bytes.now) (sym (space_at c.args.bytes.now c.name_length-length.result c.name_length-length.ensures.value 0 (omega (arith, c.if-length-bytes.false, c.name_length-length.ensures.bound)) c.if-bytes-length-ne32.false))

pub returns-clause-name : goal.returns-clause-name
returns-clause-name c = front_passes c.args.bytes.now c.name_length-length.result c.name_length-length.ensures.value
