use Rattle.rd_report.proofs.clocks.append_clock.Given as goal

abbrev pub ghosts-append_clock_with : goal.ghosts-append_clock_with
ghosts-append_clock_with a = record { name = a.blank.name; parts = a.blank.parts }
