use Rattle.std.proofs.Common.{[]}
use Rattle.rd_numbered_logs.specs.LogsUnder.{logs_under}
use Rattle.rd_weave.specs.Answers.{woven_spots}
use Rattle.rd_weave.proofs.AnswerLemmas.{bad_by, first_bad, none_under, stuck_by, stuck_is, woven_by, woven_is, woven_under}
use Rattle.rd_weave.proofs.laws.law_of_answers.Goals as goal

pub returns-clause-bad : goal.returns-clause-bad
returns-clause-bad c = λ texts bad is. first_bad texts bad (bad_by _ bad is)

pub returns-clause-woven : goal.returns-clause-woven
returns-clause-woven c = λ texts lines is.
    let (logs, read, answer) = woven_by _ lines is in
    let (names, none, are) = woven_is logs lines answer in (
      logs,
      woven_spots logs,
      read,
      woven_under logs (λ kinds. c.law_of_numbers.ensures.logs kinds logs) (λ kinds names. c.law_of_numbers.ensures.own kinds logs names)
          (λ kinds. c.law_of_alike_logs.ensures.turns (logs_under [] logs) (logs_under kinds logs) (c.law_of_numbers.ensures.alike [] kinds logs))
          (λ kinds. c.law_of_ends.ensures.whole (logs_under kinds logs)) names none,
      are,
    )

pub returns-clause-stuck : goal.returns-clause-stuck
returns-clause-stuck c = λ texts counts is.
    let (logs, read, answer) = stuck_by _ counts is in (
      logs,
      read,
      none_under logs (λ kinds. c.law_of_numbers.ensures.logs kinds logs) (λ kinds names. c.law_of_numbers.ensures.own kinds logs names)
          (λ kinds. c.law_of_alike_logs.ensures.turns (logs_under [] logs) (logs_under kinds logs) (c.law_of_numbers.ensures.alike [] kinds logs))
          (λ kinds. c.law_of_ends.ensures.stuck (logs_under kinds logs)) (stuck_is logs counts answer),
    )
