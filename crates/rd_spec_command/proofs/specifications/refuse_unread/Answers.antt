use Rattle.std.proofs.Common.{refl, sym, subst, inl}
use Rattle.rd_json.specs.Forms.{fault_in}
use Rattle.rd_spec_command.specs.Specifications.{TellsUnread}
use Rattle.rd_walk.specs.declared.status.Status.TheVariants.{InputFault}
use Rattle.rd_spec_command.proofs.specifications.refuse_unread.Goals as goal

pub returns-in_ok-write_line-in-Fault-clause-output : goal.returns-in_ok-write_line-in-Fault-clause-output
returns-in_ok-write_line-in-Fault-clause-output g c = (
  c.fault_in.result.now,
  c.in_ok-write_line-in-Fault.ensures.ok,
  subst (λ unread. TellsUnread c.args.form unread InputFault c.fault_in.result.now) (sym c.in-Fault.is) ((c.fault_in.ensures, refl), inl refl),
)
