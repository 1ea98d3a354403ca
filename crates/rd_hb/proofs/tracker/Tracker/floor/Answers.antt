use Rattle.std.proofs.Common.{◌≡◌, ◌∷◌, ◌++◌, [], None, sym, ap, ◌∙◌, subst, take}
use Rattle.std.proofs.lemmas.List.{take_all, take_more}
use Rattle.rd_hb.specs.Tracker.{IsFloor, no_thread, tracked_thread}
use Rattle.rd_hb.specs.TrackerParts.{IsFloorSoFar}
use Rattle.rd_hb.proofs.FloorLemmas.{floor_none}
use Rattle.rd_hb.proofs.KeptLemmas.{read_at}
use Rattle.rd_hb.proofs.tracker.Tracker.floor.Goals as goal

pub loop-at-preserved : goal.loop-at-preserved
loop-at-preserved c =
    let threads = c.as_slice-threads.result.now in
    let at = c.loop-at.at in
    let inside = c.loop-at-test.true in
    let read : c.index-threads-at.result ≡ tracked_thread threads at = read_at threads at c.index-threads-at.result inside c.index-threads-at.is in
    subst (λ ts. IsFloorSoFar ts c.in_ok-floor.floor)
    (ap (λ x. take at threads ++ x ∷ []) read ∙ sym (take_more threads at no_thread inside))
    (c.in_ok-floor.ensures (take at threads) c.loop-at.invariant)

pub returns-in-None : goal.returns-in-None
returns-in-None c =
    let threads = c.as_slice-threads.result.now in
    let at = c.loop-at.at in
    let same = c.as_slice-threads.ensures.value ∙ ap (λ v. v.threads) c.self.view_is in
    let so = subst (λ floor. IsFloorSoFar (take at threads) floor) c.in-None.is c.loop-at.invariant in
    subst (λ ts. IsFloor ts c.new.result) same
    (floor_none threads c.new.result c.new.ensures (subst (λ ts. IsFloorSoFar ts None) (take_all at threads c.loop-at-test.false) so))
