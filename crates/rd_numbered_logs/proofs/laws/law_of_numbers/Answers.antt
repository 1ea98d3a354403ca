use Rattle.rd_numbered_logs.proofs.LawLemmas.{alike_under, are_logs, event_among, own_numbers, own_threads, thread_among}
use Rattle.rd_numbered_logs.proofs.laws.law_of_numbers.Goals as goal

pub returns-clause-apart : goal.returns-clause-apart
returns-clause-apart c = own_numbers

pub returns-clause-thread : goal.returns-clause-thread
returns-clause-thread c = thread_among

pub returns-clause-event : goal.returns-clause-event
returns-clause-event c = event_among

pub returns-clause-logs : goal.returns-clause-logs
returns-clause-logs c = are_logs

pub returns-clause-own : goal.returns-clause-own
returns-clause-own c = own_threads

pub returns-clause-alike : goal.returns-clause-alike
returns-clause-alike c = alike_under
