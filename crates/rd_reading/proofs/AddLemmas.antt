-- What a line adds.
use Rattle.std.proofs.Common.{◌≡◌, ◌<◌, ◌≤◌, ℕ, Bool, true, false, not, ◌&&◌, List, [], ◌∷◌, ◌++◌, codes, length, map, refl, sym, ◌∙◌, ap, subst, arith, Some, length-append}
use Rattle.std.specs.List.{AllByRecursion, list_all}
use Rattle.std.proofs.lemmas.List.{length-map}
use Rattle.rd_reading.specs.declared.known.Block.{Block}
use Rattle.rd_reading.specs.declared.known.Known.{Known}
use Rattle.rd_reading.specs.Adding.{FormAdds, with_open}
use Rattle.rd_pairs.specs.PairCauses.{SaysDefinition, SaysPair}
use Rattle.rd_open_kind.specs.Opened.{Opened, with_default, with_definition, with_method_in, with_pair_in}
use Rattle.rd_reading.specs.Known.{opened_in, stage_in, stage_of}
use Rattle.rd_ecl.specs.Formulas.{Tree}
use Rattle.rd_ecl.specs.Specified.{MayAdd, SpecifiedKind, names_of}
use Rattle.rd_ecl.specs.Variables.{IsVariable, is_one_of, is_variable}
use Rattle.rd_ecl.proofs.VariableLemmas.{different_decides, variable_decides}
use Rattle.rd_grammar.specs.Grammar.{ParsedTree}
use Rattle.rd_lines.specs.declared.forms.Stage.{Stage}
use Rattle.rd_lines.specs.declared.forms.Stage.TheVariants.{Defaulted, Definitions, Methods, Pairs}
use Rattle.rd_lines.specs.declared.forms.Version.{Version}
use Rattle.rd_lines.specs.Lines.{IsMethodLine, LineWord, commute, define, plain, word_at, words_of}
use Rattle.rd_tokens.specs.declared.sorts.Token.{Token}
use Rattle.rd_reading.proofs.RepeatLemmas.{Different}
use Rattle.rd_base.specs.declared.limits.TheConstants.{MOST_ARGUMENTS, MOST_METHODS}

both_hold : (a b : Bool) → a ≡ true → b ≡ true → (a && b) ≡ true
both_hold true b h k = k
both_hold false b h k = absurd (cc)

each_variable : (arguments : List (List ℕ)) (value : List ℕ) → AllByRecursion IsVariable arguments → IsVariable value
    → list_all is_variable (arguments ++ value ∷ []) ≡ true
each_variable [] value each is = both_hold _ _ ((variable_decides value).1 is) refl
each_variable (argument ∷ arguments) value each is =
    both_hold _ _ ((variable_decides argument).1 each.0) (each_variable arguments value each.1 is)

-- a method's line has no more arguments than tokens
pub argument_count : (stage : Stage) (line : List ℕ) (tokens : List Token) (name : List ℕ) (arguments : List (List ℕ)) (value : List ℕ)
    → IsMethodLine stage (words_of line tokens) name arguments value → length arguments ≤ length tokens
argument_count stage line tokens name arguments value right =
    let count : length (words_of line tokens) ≡ length (plain (codes "method") ∷ plain name ∷ (map plain arguments ++ plain (codes "->") ∷ plain value ∷ [])) = ap length right.written in
    omega (arith, count, length-map tokens (word_at line), length-map arguments plain, length-append (map plain arguments) (plain (codes "->") ∷ plain value ∷ []))

-- the method of a right line may be added
pub may_add : (kind asked : SpecifiedKind) → asked ≡ kind → (stage : Stage) (words : List LineWord) (name : List ℕ) (arguments : List (List ℕ)) (value : List ℕ)
    (held variables : List (List ℕ)) → held ≡ arguments → variables ≡ arguments ++ value ∷ [] → IsMethodLine stage words name arguments value
    → (length asked.methods < MOST_METHODS) × (length held ≤ MOST_ARGUMENTS) → is_one_of name (names_of asked.methods) ≡ false → Different (held ++ value ∷ [])
    → MayAdd kind name variables
may_add kind asked is stage words name arguments value held variables same are right room fresh different =
    subst (λ (l : List (List ℕ)). MayAdd kind name l) (sym are)
    (subst (λ (k : SpecifiedKind). MayAdd k name (arguments ++ value ∷ [])) is
    (record {
      room = room.0;
      fresh = ap not fresh;
      some = omega (arith, length-append arguments (value ∷ []));
      few = let few = room.1 in omega (arith, few, ap length same, length-append arguments (value ∷ []));
      different = (different_decides (arguments ++ value ∷ [])).1 (subst (λ (l : List (List ℕ)). Different (l ++ value ∷ [])) same different);
      each = each_variable arguments value right.each_argument right.gives;
    }))

module _ (known : Known) (block : Block) (is : known.block ≡ Some block) where
  pub open_kind : opened_in known.block ≡ block.opened
  open_kind = ap opened_in is

  pub open_stage : stage_of known ≡ block.stage
  open_stage = ap stage_in is

  pub pair_added : (version : Version) (line : List ℕ) (tokens : List Token) (first second : List ℕ) (read : ParsedTree) (m n : ℕ) (f : Tree) (next : Known)
      → SaysPair version block.opened line tokens first second read m n f → next ≡ with_open known (with_pair_in block.opened m n f) Pairs
      → FormAdds version known line tokens (commute first second read) next
  pair_added version line tokens first second read m n f next says added = (
    m,
    n,
    f,
    subst (λ (opened : Opened). SaysPair version opened line tokens first second read m n f) (sym open_kind) says,
    added ∙ ap (λ (opened : Opened). with_open known (with_pair_in opened m n f) Pairs) (sym open_kind),
  )

  pub definition_added : (line : List ℕ) (tokens : List Token) (owner name : List ℕ) (read : ParsedTree) (m : ℕ) (f : Tree) (next : Known)
      → SaysDefinition block.opened.kind line tokens owner read m f
      → next ≡ with_open known (with_definition block.opened m (record { name = name; formula = f })) Definitions
      → (version : Version) → FormAdds version known line tokens (define owner name read) next
  definition_added line tokens owner name read m f next says added version = (
    m,
    f,
    subst (λ (opened : Opened). SaysDefinition opened.kind line tokens owner read m f) (sym open_kind) says,
    added ∙ ap (λ (opened : Opened). with_open known (with_definition opened m (record { name = name; formula = f })) Definitions) (sym open_kind),
  )

  pub default_added : (value : Bool) (next : Known) → next ≡ with_open known (with_default block.opened value) Defaulted
      → next ≡ with_open known (with_default (opened_in known.block) value) Defaulted
  default_added value next added = added ∙ ap (λ (opened : Opened). with_open known (with_default opened value) Defaulted) (sym open_kind)

  pub method_added : (words : List LineWord) (name : List ℕ) (arguments : List (List ℕ)) (value : List ℕ) (held : List (List ℕ)) (next : Opened)
      → IsMethodLine (stage_of known) words name arguments value → held ≡ arguments ++ value ∷ []
      → next ≡ with_method_in block.opened (record { name = name; variables = held })
      → with_open known next block.stage
      ≡ with_open known (with_method_in (opened_in known.block) (record { name = name; variables = arguments ++ value ∷ [] })) Methods
  method_added words name arguments value held next right are added =
      ap (λ (stage : Stage). with_open known next stage) (sym open_stage ∙ right.stands)
      ∙ ap (λ (opened : Opened). with_open known opened Methods)
      (added ∙ ap (λ (l : List (List ℕ)). with_method_in block.opened (record { name = name; variables = l })) are
      ∙ ap (λ (opened : Opened). with_method_in opened (record { name = name; variables = arguments ++ value ∷ [] })) (sym open_kind))
