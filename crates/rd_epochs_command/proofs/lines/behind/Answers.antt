use Rattle.std.proofs.Common.{◌≡◌, ◌≢◌, ◌++◌, ℕ, List, Bor, MatchOption, Option, Some, None}
use Rattle.std.specs.Prelude.{IfNone, IfSome}
use Rattle.std.proofs.lemmas.Bool.Decides.{Decides-eqb}
use Rattle.std.proofs.lemmas.Slice.Eq.{strip_prefix_is}
use Rattle.rd_epochs_command.proofs.lines.behind.Goals as goal

some_of : (bytes text : List ℕ) (r : Option (Bor (List ℕ))) → MatchOption r ((rest : List ℕ) → bytes ≢ text ++ rest) (λ x. bytes ≡ text ++ x.now) → IfSome r (λ rest. bytes ≡ text ++ rest.now)
some_of bytes text None is = tt
some_of bytes text (Some rest) is = is

none_of : (bytes text : List ℕ) (r : Option (Bor (List ℕ))) → MatchOption r ((rest : List ℕ) → bytes ≢ text ++ rest) (λ x. bytes ≡ text ++ x.now) → IfNone r ((rest : List ℕ) → bytes ≢ text ++ rest)
none_of bytes text None is = is
none_of bytes text (Some rest) is = tt

pub returns-clause-some : goal.returns-clause-some
returns-clause-some c = some_of c.args.bytes.now c.args.text.now c.strip_prefix.result (strip_prefix_is Decides-eqb c.args.bytes.now c.args.text.now c.strip_prefix.result c.strip_prefix.ensures.cases)

pub returns-clause-none : goal.returns-clause-none
returns-clause-none c = none_of c.args.bytes.now c.args.text.now c.strip_prefix.result (strip_prefix_is Decides-eqb c.args.bytes.now c.args.text.now c.strip_prefix.result c.strip_prefix.ensures.cases)
