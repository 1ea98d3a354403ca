use Rattle.std.proofs.Common.{◌≡◌, ◌≤◌, length, Some, None, ap, subst, sym, ◌∙◌, arith}
use Rattle.std.specs.Prelude.{slice_index_or}
use Rattle.rd_hb.specs.TrackerParts.{IsShared}
use Rattle.rd_hb.proofs.KeptLemmas.{shared_room}
use Rattle.rd_hb.proofs.tracker.Tracker.shared_by.Goals as goal

pub returns-in-Some-Some-clause-ok : goal.returns-in-Some-Some-clause-ok
returns-in-Some-Some-clause-ok c =
    let at : slice_index_or c.self.inside.shared.items c.args.thread None ≡ Some c.in-Some-Some.shared =
    ap (λ l. slice_index_or l c.args.thread None) (sym c.deref.ensures.value) ∙ sym (c.in-Some-Some.ensures.lookup.4 (omega arith) None) ∙ c.in-Some-Some.field-0-is in
    subst (λ v. IsShared v.threads c.args.thread c.in-Some-Some.shared) c.self.view_is (c.self.invariant.shared c.args.thread c.in-Some-Some.shared at)

pub returns-in-Some-Some-clause-room : goal.returns-in-Some-Some-clause-room
returns-in-Some-Some-clause-room c =
    let at : slice_index_or c.self.inside.shared.items c.args.thread None ≡ Some c.in-Some-Some.shared =
    ap (λ l. slice_index_or l c.args.thread None) (sym c.deref.ensures.value) ∙ sym (c.in-Some-Some.ensures.lookup.4 (omega arith) None) ∙ c.in-Some-Some.field-0-is in
    subst (λ v. length c.in-Some-Some.shared ≤ length v.threads) c.self.view_is
    (shared_room c.self.inside.threads.items c.args.thread c.in-Some-Some.shared c.self.invariant.tracked (c.self.invariant.shared c.args.thread c.in-Some-Some.shared at))
