use Rattle.std.proofs.Common.{drop, ap}
use Rattle.rd_logs.proofs.LogLemmas.{found_again, header_found, header_said, line_found, line_said, one_line}
use Rattle.rd_logs.proofs.laws.law_of_log_lines.Goals as goal

pub returns-clause-test : goal.returns-clause-test
returns-clause-test c = λ thread bytes line named range. (line_found thread bytes line range, (λ found. (line_said thread bytes line named found).1))

pub returns-clause-range : goal.returns-clause-range
returns-clause-range c = λ thread bytes line named found. (line_said thread bytes line named found).0

pub returns-clause-again : goal.returns-clause-again
returns-clause-again c = λ thread line named range. found_again thread line range

pub returns-clause-one_line : goal.returns-clause-one_line
returns-clause-one_line c = λ thread bytes x y named. one_line thread bytes x y

pub returns-clause-header : goal.returns-clause-header
returns-clause-header c = λ thread other same. ap (drop 8) same

pub returns-clause-header_read : goal.returns-clause-header_read
returns-clause-header_read c = λ thread bytes named. (header_found thread bytes named, header_said thread bytes)
