use Rattle.rd_epochs_command.proofs.lines.take_new.Goals as goal

pub returns-in_default-clause-line : goal.returns-in_default-clause-line
returns-in_default-clause-line g c = λ bytes say. c.refuse_unnamed.ensures.line bytes _ _ _ say

pub returns-in_default-from_bytes-clause-line : goal.returns-in_default-from_bytes-clause-line
returns-in_default-from_bytes-clause-line g c = λ bytes say. c.refuse_unnamed-in_default-from_bytes.ensures.line bytes _ _ _ say
