use Rattle.std.proofs.Common.{◌≡◌, ◌+◌, ◌≤◌, take, drop, length}
use Rattle.std.specs.Prelude.{vec_capacity}
use Rattle.rd_epoch.specs.EpochParts.{unheard}
use Rattle.rd_epoch.proofs.reads.keep_unheard.Given as goal

abbrev pub invariant-loop-place : goal.invariant-loop-place
invariant-loop-place g l = record {
  behind : l.kept ≤ l.place;
  size : length l.epochs.items ≡ length l.fn.epochs.items;
  front : take l.kept l.epochs.items ≡ unheard l.clock (take l.place l.fn.epochs.items);
  rest : drop l.place l.epochs.items ≡ drop l.place l.fn.epochs.items;
  cost : l.steps ≡ l.initial.steps + l.place;
  room : vec_capacity l.epochs ≡ vec_capacity l.fn.epochs;
}
