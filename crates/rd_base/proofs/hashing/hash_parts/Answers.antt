use Rattle.std.proofs.Common.{sym, ◌∙◌, ap, fold, drop, arith}
use Rattle.std.proofs.lemmas.List.{take_all, length-drop}
use Rattle.rd_base.proofs.HashingLemmas.{short_eights, long_eights}
use Rattle.rd_base.proofs.hashing.hash_parts.Goals as goal

-- src/hashing.rt:13:5
pub loop-rest-preserved : goal.loop-rest-preserved
loop-rest-preserved g c =
    let behind = take_all _ (drop 8 c.loop-rest.rest.now) (rw (length-drop 8 c.loop-rest.rest.now) (omega arith)) in
    rw c.write.ensures (ap (λ parts. fold g.H.Hasher.write c.loop-rest.state parts) (sym (long_eights c.loop-rest.rest.now _ c.loop-rest-test.true behind)) ∙ c.loop-rest.invariant)

-- src/hashing.rt:9:1
pub returns : goal.returns
returns g c = c.write-2.ensures ∙ ap (λ parts. fold g.H.Hasher.write c.loop-rest.state parts) (sym (short_eights c.loop-rest.rest.now c.loop-rest-test.false)) ∙ c.loop-rest.invariant
