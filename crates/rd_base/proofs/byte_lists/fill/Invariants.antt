use Rattle.std.proofs.Common.{◌≡◌, ◌-◌, ◌≤◌, take, vec_len}
use Rattle.rd_base.proofs.byte_lists.fill.Given as goal

abbrev pub invariant-loop-held : goal.invariant-loop-held
invariant-loop-held l = (take (vec_len l.initial.held) l.held.items ≡ l.initial.held.items) × (vec_len l.initial.held ≤ vec_len l.held) × (vec_len l.held ≤ l.length)

abbrev pub decreases-loop-held : goal.decreases-loop-held
decreases-loop-held l = l.length - vec_len l.held
