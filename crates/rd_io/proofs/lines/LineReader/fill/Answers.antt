use Rattle.std.proofs.lemmas.Grind.{common_steps}
use Rattle.std.proofs.Common.{◌+◌, ◌-◌, ◌<◌, ◌≤◌, take, drop, length, arith, ◌∙◌, ap}
use Rattle.std.specs.Vec.{with_items}
use Rattle.std.proofs.lemmas.List.{with_items_is, length-take, length-drop}
use Rattle.rd_io.proofs.FillLemmas.{same_reader, same_pending, same_line, more_pending, read_takes}
use Rattle.rd_io.proofs.lines.LineReader.fill.Goals as goal

pub returns-in_default-clause-err : goal.returns-in_default-clause-err
returns-in_default-clause-err g c =
    let r = c.self.inside in
    let x = c.make_room-by.new.buffer in
    let y = c.read_at.new.buffer in
    let by = c.make_room-by.result in
    let first = with_items_is r.buffer x (omega arith) in
    let second = with_items_is (with_items r.buffer x) y (omega arith) in
    let kept = rw c.deref_mut.ensures.value at c.make_room-by.ensures.kept in
    let before = c.read_at.ensures.before ∙ ap (take (r.start - by + r.held)) (c.deref_mut-2.ensures.value ∙ first) in
    let same = same_pending r.buffer.items x y r.start r.held r.line_start r.line_len by c.make_room-by.ensures.low c.self.invariant.behind kept before in
    let line = same_line r.buffer.items x y r.start r.held r.line_start r.line_len by c.make_room-by.ensures.low c.self.invariant.behind kept before in (
      rw (← c.self.view_is)
          (same_reader _ _ _ _ r.room r.limit r.number r.ended
          (ap (λ xs. take r.held (drop (r.start - by) xs)) second ∙ same)
          (ap (λ xs. take r.line_len (drop (r.line_start - by) xs)) second ∙ line)),
      c.in_default.ensures.told,
    )

pub returns-clause-ok : goal.returns-clause-ok
returns-clause-ok g c =
    let r = c.self.inside in
    let x = c.make_room-by.new.buffer in
    let y = c.read_at.new.buffer in
    let by = c.make_room-by.result in
    let count = c.in-Ok.count in
    let asked = c.min-asked.result in
    let from = r.start - by + r.held in
    let first = with_items_is r.buffer x (omega arith) in
    let second = with_items_is (with_items r.buffer x) y (omega arith) in
    let kept = rw c.deref_mut.ensures.value at c.make_room-by.ensures.kept in
    let before = c.read_at.ensures.before ∙ ap (take from) (c.deref_mut-2.ensures.value ∙ first) in
    let more = more_pending r.buffer.items x y r.start r.held r.line_start r.line_len by c.make_room-by.ensures.low c.self.invariant.behind kept before count in
    let line = same_line r.buffer.items x y r.start r.held r.line_start r.line_len by c.make_room-by.ensures.low c.self.invariant.behind kept before in
    let fits : from + asked ≤ length y = omega arith in
    let few : count ≤ asked = c.in-Ok.ensures.bound in
    let short = simp (length-take, length-drop) at (rw (← c.self.view_is) at c.requires.short) in
    let some : 0 < asked = omega arith in (
      take count (drop from y),
      simp (length-take, length-drop) (omega arith),
      rw (← c.self.view_is)
          (same_reader _ _ _ _ r.room r.limit r.number r.ended
          (ap (λ xs. take (r.held + count) (drop (r.start - by) xs)) second ∙ more)
          (ap (λ xs. take r.line_len (drop (r.line_start - by) xs)) second ∙ line)),
      read_takes _ _ y from asked count some few fits c.in-Ok.ensures.told,
    )

pub overflow_sub-left : goal.overflow_sub-left
overflow_sub-left g c = grind (arith, common_steps)

pub invariant_of-self : goal.invariant_of-self
invariant_of-self g c = grind (arith, common_steps)

pub invariant_of-self-2 : goal.invariant_of-self-2
invariant_of-self-2 g c = grind (arith, common_steps)

pub returns-clause-bound : goal.returns-clause-bound
returns-clause-bound g c = grind (arith, common_steps)

pub returns-clause-fits : goal.returns-clause-fits
returns-clause-fits g c = grind (arith, common_steps)
