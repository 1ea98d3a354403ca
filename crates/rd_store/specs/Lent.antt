-- Points and witnesses whose parts are lent.
use Rattle.std.specs.Prelude.{option_map}
use Rattle.rd_points.specs.declared.points.Point.{Point}
use Rattle.rd_clock.specs.Stamps.{lent_stamp}
use Rattle.rd_store.specs.declared.Witness.{Witness}
use Rattle.rd_store.specs.declared.lent.PointRef.{PointRef}
use Rattle.rd_store.specs.declared.lent.WitnessRef.{WitnessRef}

-- the point whose value is lent
abbrev pub lent_point : PointRef → Point
lent_point point = record { object = point.object; class = point.class; value = option_map (λ value. value.now) point.value }

-- the witness whose call and clock are lent
abbrev pub lent_witness : WitnessRef → Witness
lent_witness seen = record { line = seen.line; place = seen.place; call = seen.call.now; stamp = lent_stamp seen.stamp }
