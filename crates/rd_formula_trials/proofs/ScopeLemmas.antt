-- The tokens and definitions of a formula's text.
use Rattle.std.proofs.Common.{◌≡◌, ℕ, List, [], subst, sym}
use Rattle.std.specs.Prelude.{All, drop, take}
use Rattle.std.proofs.lemmas.List.Elements.{All-drop, All-nil, All-take}
use Rattle.rd_definitions.specs.Definitions.{Definition, IsDefined}
use Rattle.rd_tokens.specs.declared.sorts.Token.{Token}

-- what is said of each token is said of each behind the first
pub each_behind : (P : Token → Type 0) (front count : ℕ) (items tokens : List Token) → items ≡ tokens → All P tokens
    → All P (take count (drop front items))
each_behind P front count items tokens same each = All-take P count (drop front items) (All-drop P front items (subst (All P) (sym same) each))

-- where no definitions are, each is one of its method's variables
pub none_defined : (count : ℕ) (definitions : List Definition) → definitions ≡ [] → All (IsDefined count) definitions
none_defined count definitions none = subst (All (IsDefined count)) (sym none) (All-nil (IsDefined count))
