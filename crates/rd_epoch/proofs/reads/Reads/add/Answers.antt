use Rattle.std.proofs.Common.{◌≡◌, ◌<◌, ◌∷◌, [], ◌++◌, length, set, subst, sym}
use Rattle.std.specs.Prelude.{IfSome, IsPermutation, slice_get}
use Rattle.rd_epoch.proofs.ReadLemmas.{renewed}
use Rattle.rd_epoch.specs.EpochParts.{AreStill, unheard}
use Rattle.rd_epoch.specs.Epochs.{reads_of_one}
use Rattle.rd_epoch.proofs.reads.Reads.add.Goals as goal

pub returns-in-Some-clause-ok : goal.returns-in-Some-clause-ok
returns-in-Some-clause-ok g c =
    let first = c.self.inside.first in
    let more = c.self.inside.more.items in
    let place = c.in-Some.place in
    let own = subst (λ epochs. (place < length epochs) × IfSome (slice_get epochs place) (λ own. (own.thread ≡ c.args.now.now.thread) × (c.args.learnt < own.line)))
    c.as_slice.ensures.value c.in-Some.ensures in
    subst (λ all. IsPermutation (unheard c.args.clock.now all ++ c.args.now.now ∷ []) (reads_of_one first ++ set more place c.args.now.now)) c.self.view_is
    (renewed c.args.clock.now c.args.learnt c.args.now.now first more place own.0 own.1
    (subst (AreStill c.args.clock.now c.args.learnt c.args.now.now) (sym c.self.view_is) c.requires.still))
