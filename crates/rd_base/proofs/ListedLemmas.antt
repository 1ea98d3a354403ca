-- Values that a list holds itself or in memory.
use Rattle.std.proofs.Common.{◌≡◌, refl, ◌<◌, List, [], ◌∷◌, ◌++◌, length, arith}
use Rattle.rd_base.specs.declared.values.Value.{Value}
use Rattle.rd_base.specs.Slots.{held_values}

-- where none is in memory
pub held_few : (few many : List Value) → length many ≡ 0 → held_values few many ≡ few
unfolding held_values
held_few few [] none = refl
held_few few (value ∷ values) none = absurd (omega (arith, none))

-- where one is, or where the list itself holds none
pub held_many : (few many : List Value) → 0 < length many → held_values few many ≡ many
unfolding held_values
held_many few [] some = absurd (omega (arith, some))
held_many few (value ∷ values) some = refl

pub held_all : (many : List Value) → held_values [] many ≡ many
unfolding held_values
held_all [] = refl
held_all (value ∷ values) = refl

-- one is put last
pub held_more : (few many : List Value) (last : Value) → held_values few (many ++ last ∷ []) ≡ many ++ last ∷ []
unfolding held_values
held_more few [] last = refl
held_more few (value ∷ values) last = refl
