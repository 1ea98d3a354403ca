use Rattle.std.proofs.Common.{◌≡◌, ◌+◌, ◌≤◌, ap, sym, subst, ◌∙◌}
use Rattle.std.specs.List.{sum_by}
use Rattle.std.specs.Prelude.{IfOk, flat_map, option_map, slice_index_or}
use Rattle.rd_points.specs.Tables.{PointTable}
use Rattle.rd_detect.specs.Detect.{AreBelow, Detecting, IsLatestOf, asking_bound, conflicting_points, points_in, table_at, touched_points}
use Rattle.rd_detect.proofs.CallLemmas.{table_read}
use Rattle.rd_detect.proofs.detector.Detector.look.Goals as goal

pub returns-clause-latest : goal.returns-clause-latest
returns-clause-latest g c =
    subst (λ (d : Detecting). IfOk c.look.result (λ latest. IsLatestOf d.store (flat_map (conflicting_points (table_at c.args.self.now.tables c.args.seen.now.call.now.kind)) (touched_points c.args.self.now.tables c.args.seen.now.call.now)) c.args.seen.now.stamp.clock.now (option_map (λ held. held.value) latest))) c.self.view_is
    (subst (λ (t : PointTable). IfOk c.look.result (λ latest. IsLatestOf c.self.inside.store (flat_map (conflicting_points t) (points_in t c.args.seen.now.call.now)) c.args.seen.now.stamp.clock.now (option_map (λ held. held.value) latest)))
    table_is c.look.ensures.latest)
  where
    table_is : c.index-table.result.now ≡ table_at c.args.self.now.tables c.args.seen.now.call.now.kind
    table_is = table_read c.args.self.now.tables c.args.seen.now.call.now.kind c.index-table.result.now c.requires.kind
        (c.index-table.ensures ∙ ap (λ (d : Detecting). slice_index_or d.tables c.args.seen.now.call.now.kind c.index-table.result.now) c.self.view_is)

pub returns-clause-cost : goal.returns-clause-cost
returns-clause-cost g c = λ threads below.
    subst (λ (t : PointTable). c.look.new.steps ≤ c.args.steps.now + sum_by (asking_bound t threads) (points_in t c.args.seen.now.call.now))
    (table_read c.args.self.now.tables c.args.seen.now.call.now.kind c.index-table.result.now c.requires.kind
    (c.index-table.ensures ∙ ap (λ (d : Detecting). slice_index_or d.tables c.args.seen.now.call.now.kind c.index-table.result.now) c.self.view_is))
    (c.look.ensures.cost threads (subst (λ (d : Detecting). AreBelow threads d.store) (sym c.self.view_is) below))
