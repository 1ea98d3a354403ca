-- The first wrong token of a line, of tokens of any type, by what lines of tokens say.
use Rattle.std.specs.Prelude.{List, [], ◌∷◌, ◌++◌}

-- some line that begins with these tokens says something
abbrev pub Begins : {T R : Type 0} → (List T → R → Type 0) → List T → Type 0
Begins {R = R} Says front = (more : List _) × (said : R) × Says (front ++ more) said

-- the tokens in front are right as far as they go, and then the line ends too early, or goes on with a wrong token
abbrev pub WrongAt : {T R : Type 0} → (List T → R → Type 0) → List T → List T → Type 0
WrongAt {R = R} Says front [] = Begins Says front × ((said : R) → ¬ (Says front said))
WrongAt Says front (token ∷ rest) = Begins Says front × ¬ (Begins Says (front ++ token ∷ []))
