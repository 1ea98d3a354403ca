use Rattle.rd_wf.proofs.roster.Roster.count_call.Goals as goal

pub returns-clause-stands : goal.returns-clause-stands
returns-clause-stands g c = λ kinds lines thread object method stands. c.count.ensures kinds lines thread object method c.args.slots stands
