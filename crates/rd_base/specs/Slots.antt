-- How a list of values is held.
use Rattle.std.specs.Prelude.{List, [], ◌∷◌}
use Rattle.rd_base.specs.declared.values.Value.{Value}

-- the few values where no more are held elsewhere, and else these
unfoldable pub held_values : List Value → List Value → List Value
held_values few [] = few
held_values few (value ∷ values) = value ∷ values
