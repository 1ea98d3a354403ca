use Rattle.std.proofs.Common.{◌≡◌, ◌++◌}
use Rattle.rd_clock.specs.Clock.{component}
use Rattle.rd_wf.specs.Roster.{names_in}
use Rattle.rd_report.specs.Races.{clock_text}
use Rattle.rd_report.specs.Writing.{ArePlain}
use Rattle.rd_report.proofs.ClockLemmas.{parts_from}
use Rattle.rd_report.proofs.clocks.append_clock_with.Given as goal

abbrev pub invariant-loop-thread : goal.invariant-loop-thread
invariant-loop-thread g l =
    (ArePlain l.initial.text → ArePlain l.text)
    × (l.initial.text ++ clock_text (names_in l.names) (component l.clock) ≡ l.text ++ parts_from l.some l.thread (names_in l.names) (component l.clock))
