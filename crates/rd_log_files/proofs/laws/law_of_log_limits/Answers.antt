use Rattle.std.proofs.Common.{arith}
use Rattle.rd_log_files.proofs.GatheredLemmas.{first_behind, first_place}
use Rattle.rd_log_files.proofs.WithinLemmas.{none_in_front, none_within}
use Rattle.rd_log_files.proofs.laws.law_of_log_limits.Goals as goal

pub returns-clause-none : goal.returns-clause-none
returns-clause-none c = none_within

pub returns-clause-front : goal.returns-clause-front
returns-clause-front c = none_in_front

pub returns-clause-behind : goal.returns-clause-behind
returns-clause-behind c limits = first_behind limits 1 0

pub returns-clause-place : goal.returns-clause-place
returns-clause-place c limits logs passed is =
    let (least, most, line) = first_place limits 1 0 logs passed is in
    (least, omega (arith, most), line)
