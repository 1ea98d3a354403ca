-- What a line of a specification's text adds to what is known: this project's profile.
use Rattle.std.specs.Prelude.{◌≡◌, ℕ, List, [], ◌∷◌, ◌++◌, None, Some}
use Rattle.rd_ecl.specs.Formulas.{Tree}
use Rattle.rd_open_kind.specs.Opened.{Opened, kind_named, with_default, with_definition, with_method_in, with_pair_in}
use Rattle.rd_reading.specs.declared.known.Known.{Known}
use Rattle.rd_reading.specs.Causes.{Has, header_words}
use Rattle.rd_pairs.specs.Causes.{HasNone}
use Rattle.rd_pairs.specs.PairCauses.{SaysDefinition, SaysPair}
use Rattle.rd_reading.specs.Known.{kind_in, kinds_so_far, open_method_names, opened_in, stage_of}
use Rattle.rd_lines.specs.Lines.{RightLine, SaidForm, commute as commute_said, default as default_said, define as define_said, kind as kind_said, method as method_said, words_of}
use Rattle.rd_lines.specs.declared.forms.Stage.{Stage}
use Rattle.rd_lines.specs.declared.forms.Stage.TheVariants.{Defaulted, Definitions, Methods, Pairs}
use Rattle.rd_lines.specs.declared.forms.Version.{Version}
use Rattle.rd_tokens.specs.declared.sorts.Token.{Token}
use Rattle.rd_tokens.specs.Tokens.{AreTokens}

-- the header of this version came
abbrev pub with_header : Known → Version → Known
with_header known version = record known { version = Some version }

-- the open kind is closed, with its default for each pair without a formula, and a kind of this name is open
abbrev pub with_kind : Known → List ℕ → Known
with_kind known name = record known { closed = kinds_so_far known; block = Some (record { opened = kind_named name; stage = Methods }) }

-- the open kind is now this, and the next line stands here
abbrev pub with_open : Known → Opened → Stage → Known
with_open known opened stage = record known { block = Some (record { opened = opened; stage = stage }) }

-- behind the line that says this form, this is known
abbrev pub FormAdds : Version → Known → List ℕ → List Token → SaidForm → Known → Type 0
FormAdds version known line tokens (kind_said name) next = next ≡ with_kind known name
FormAdds version known line tokens (method_said name arguments result) next =
    next ≡ with_open known (with_method_in (opened_in known.block) (record { name = name; variables = arguments ++ result ∷ [] })) Methods
FormAdds version known line tokens (commute_said first second read) next =
    (m : ℕ) × (n : ℕ) × (f : Tree) × SaysPair version (opened_in known.block) line tokens first second read m n f
    × (next ≡ with_open known (with_pair_in (opened_in known.block) m n f) Pairs)
FormAdds version known line tokens (define_said owner name read) next =
    (m : ℕ) × (f : Tree) × SaysDefinition (kind_in known.block) line tokens owner read m f
    × (next ≡ with_open known (with_definition (opened_in known.block) m (record { name = name; formula = f })) Definitions)
FormAdds version known line tokens (default_said value) next = next ≡ with_open known (with_default (opened_in known.block) value) Defaulted

-- behind the line, this is known
pub data Adds (known : Known) (line : List ℕ) (tokens : List Token) (next : Known) : Type 0 where
  adds_header : (version : Version) → known.version ≡ None → words_of line tokens ≡ header_words version → next ≡ with_header known version
      → Adds known line tokens next
  adds_form : (version : Version) → known.version ≡ Some version → (form : SaidForm)
      → RightLine version (stage_of known) (open_method_names known) (words_of line tokens) form
      → FormAdds version known line tokens form next → Adds known line tokens next

-- the line is accepted behind what is known, where these names of kinds are taken, and then this is known
pub record AcceptsSpecLine (taken : List (List ℕ)) (known : Known) (line : List ℕ) (next : Known) : Type 0 where
  pub tokens : List Token
  pub cut : AreTokens line tokens
  pub clean : HasNone (Has taken known line tokens)
  pub adds : Adds known line tokens next
