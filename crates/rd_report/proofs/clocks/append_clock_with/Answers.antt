use Rattle.std.proofs.Common.{◌≡◌, ◌++◌, length, ap, arith}
use Rattle.std.proofs.lemmas.List.{length-map}
use Rattle.rd_clock.specs.Clock.{component}
use Rattle.rd_wf.specs.declared.roster.Roster.{Roster}
use Rattle.rd_wf.specs.Roster.{names_in, thread_count}
use Rattle.rd_report.specs.Races.{clock_text}
use Rattle.rd_report.proofs.ClockLemmas.{part_more, parts_told, parts_whole}
use Rattle.rd_report.proofs.clocks.append_clock_with.Goals as goal

-- each thread that a roster numbers has a name
length_names : (roster : Roster) → length (names_in roster) ≡ thread_count roster
length_names roster = length-map roster.threads.entries _

pub loop-thread-init : goal.loop-thread-init
loop-thread-init g c = (λ plain. plain, ap (λ xs. c.args.text.now ++ xs) (parts_whole (names_in c.args.names.now) (component c.args.clock.now)))

pub loop-thread-preserved : goal.loop-thread-preserved
loop-thread-preserved g c =
    let names = names_in c.args.names.now in
    let clock = component c.args.clock.now in (
      λ plain. c.in_ok-some.ensures.plain (c.loop-thread.invariant.0 plain),
      part_more (c.args.text.now ++ clock_text names clock) c.loop-thread.text c.append_part.new.text c.loop-thread.some c.in_ok-some.some names clock c.loop-thread.thread
          c.get.result (omega (arith, length_names c.args.names.now)) c.loop-thread.invariant.1 c.get.ensures.value c.in_ok-some.ensures.some c.in_ok-some.ensures.text,
    )

pub returns-clause-text : goal.returns-clause-text
returns-clause-text g c =
    let names = names_in c.args.names.now in
    let clock = component c.args.clock.now in
    parts_told (c.args.text.now ++ clock_text names clock) c.loop-thread.text c.loop-thread.some names c.args.clock.now c.loop-thread.thread
    (omega (arith, length_names c.args.names.now)) c.loop-thread.invariant.1

pub returns-clause-plain : goal.returns-clause-plain
returns-clause-plain g c = λ plain. c.loop-thread.invariant.0 plain
