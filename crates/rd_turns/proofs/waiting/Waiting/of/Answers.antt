use Rattle.std.proofs.Common.{inl, inr, sym, subst, arith}
use Rattle.std.proofs.lemmas.Bool.{cases_eq}
use Rattle.rd_turns.specs.Waiting.{KnowsLog}
use Rattle.rd_turns.proofs.WaitingLemmas.{knows_log_more, still_slots}
use Rattle.rd_turns.proofs.waiting.Waiting.of.Goals as goal

pub loop-log-preserved : goal.loop-log-preserved
loop-log-preserved c = record {
  slots = still_slots c.args.logs.now c.loop-log.waiting c.add_log.new.self c.in_ok-add_log.ensures.more c.loop-log.invariant.slots;
  known = λ log below. elim (cases_eq log c.loop-log.log) [
    | inl same ↦ subst (KnowsLog c.args.logs.now c.add_log.new.self) (sym same) c.in_ok-add_log.ensures.knows
    | inr differ ↦ knows_log_more c.args.logs.now c.loop-log.waiting c.add_log.new.self c.in_ok-add_log.ensures.more log (c.loop-log.invariant.known log (omega arith))
  ];
}
