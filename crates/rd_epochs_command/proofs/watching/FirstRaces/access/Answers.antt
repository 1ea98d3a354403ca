use Rattle.rd_epochs_command.proofs.watching.FirstRaces.access.Goals as goal

pub follow-requires-clause-next : goal.follow-requires-clause-next
follow-requires-clause-next g c =
    let (roots, lines, es, slots, next, are) = c.requires.next in
    (roots, lines, es, slots, next, are c.args.call.thread c.of-learnt.result c.of-learnt.ensures)
