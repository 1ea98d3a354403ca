use Rattle.std.proofs.Common.{◌≡◌, ◌≢◌, ℕ, ◌+◌, arith, ◌∙◌}
use Rattle.std.proofs.lemmas.List.{length-take, length-drop}
use Rattle.rd_io.proofs.SinkLemmas.{appends_more, not_failed}
use Rattle.rd_io.proofs.sinks.write_all.Goals as goal

pub returns-then-count-eq0-clause-front : goal.returns-then-count-eq0-clause-front
returns-then-count-eq0-clause-front g c =
    let front = appends_more _ _ _ _ _ _ c.loop-written.invariant.front c.in-Ok.ensures.written in
    let none : c.loop-written.written + c.in-Ok.count ≡ c.loop-written.written = omega arith in
    (omega arith, rw none at front)

pub loop-written-preserved : goal.loop-written-preserved
loop-written-preserved g c =
    let some : c.in-Ok.count ≢ 0 = c.if-count-eq0.false in
    let calm = c.in-Ok.ensures.calm (not_failed _ c.in-Ok.count some) in
    record {
      within = omega (arith, length-take {A = ℕ}, length-drop {A = ℕ}, c.in-Ok.ensures.bound);
      front = appends_more _ _ _ _ _ _ c.loop-written.invariant.front c.in-Ok.ensures.written;
      calm = calm.0 ∙ c.loop-written.invariant.calm;
      kept = calm.1 ∙ c.loop-written.invariant.kept;
    }
