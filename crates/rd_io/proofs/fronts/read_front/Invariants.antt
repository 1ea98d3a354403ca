use Rattle.std.proofs.Common.{◌≡◌, ◌+◌, ◌<◌, length}
use Rattle.rd_io.specs.Inputs.{Goes, Takes}
use Rattle.rd_io.proofs.fronts.read_front.Given as goal

abbrev pub invariant-loop-left : goal.invariant-loop-left
invariant-loop-left g l =
    record {
      count : length l.text + l.left ≡ l.initial.left;
      room : 0 < l.initial.left → 0 < length l.piece.items;
      taken : Goes (g.I.Inputs.told l.initial.inputs) (g.I.Inputs.told l.inputs) (λ old new. Takes old new l.text);
      calm : g.I.Inputs.faults l.inputs ≡ g.I.Inputs.faults l.initial.inputs;
    }

abbrev pub decreases-loop-left : goal.decreases-loop-left
decreases-loop-left g l = l.left
