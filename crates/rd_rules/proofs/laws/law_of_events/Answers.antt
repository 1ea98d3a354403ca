use Rattle.rd_rules.proofs.EventsLemmas.{accepted_told, new_lock_next, shared_lock_next, told_formed}
use Rattle.rd_rules.proofs.laws.law_of_events.Goals as goal

pub returns : goal.returns
returns c = record {
  formed = λ kinds lines accepted. told_formed kinds lines (accepted_told kinds lines accepted);
  count = λ kinds lines accepted. (accepted_told kinds lines accepted).told.counted;
  known = λ kinds lines accepted. (accepted_told kinds lines accepted).told.known;
  ended = λ kinds lines accepted. (accepted_told kinds lines accepted).told.ended;
  one_kind = λ kinds lines accepted. (accepted_told kinds lines accepted).told.one_kind;
  taken = λ kinds lines accepted. (accepted_told kinds lines accepted).used.alone.taken.named;
  given = λ kinds lines accepted. (accepted_told kinds lines accepted).used.alone.given.named;
  shares_taken = λ kinds lines accepted. (accepted_told kinds lines accepted).used.shares.taken.named;
  shares_given = λ kinds lines accepted. (accepted_told kinds lines accepted).used.shares.given.named;
  numbered = new_lock_next;
  shared_first = shared_lock_next;
}
