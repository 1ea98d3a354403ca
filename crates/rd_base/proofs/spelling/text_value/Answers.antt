use Rattle.std.proofs.Common.{◌≡◌, ℕ, List, Some, Result, Ok, Err, IfErr, ap}
use Rattle.std.specs.Option.{option_map}
use Rattle.rd_base.specs.ReadingValues.{between_quotes, inside_of, text_of}
use Rattle.rd_base.specs.declared.spelling.ValueRefused.{ValueRefused}
use Rattle.rd_base.specs.declared.spelling.ValueRefused.TheVariants.{NoMemory}
use Rattle.rd_base.specs.declared.values.Value.{Value}
use Rattle.rd_base.specs.declared.values.Value.TheVariants.{Text}
use Rattle.rd_base.proofs.spelling.text_value.Goals as goal

text_is_there : (bytes text : List ℕ) (result : Result Value ValueRefused) → inside_of 255 (between_quotes bytes) ≡ Some text
    → IfErr result (λ e. e ≡ NoMemory → (there : List ℕ) × (text_of bytes ≡ Some (Text there)))
text_is_there bytes text (Ok value) is = tt
text_is_there bytes text (Err e) is = λ refused. (text, ap (option_map (λ text. Text text)) is)

pub returns-then-are_own_spelling-clause-memory : goal.returns-then-are_own_spelling-clause-memory
returns-then-are_own_spelling-clause-memory c =
    text_is_there c.args.bytes.now _ _ (c.are_own_spelling.ensures.text c.if-are_own_spelling.true)
