-- Where a line of a default is wrong.
use Rattle.std.proofs.Common.{◌≡◌, ◌≢◌, ℕ, Bool, true, List, [], ◌∷◌, codes, refl, arith}
use Rattle.rd_grammar.specs.FirstWrong.{Begins}
use Rattle.rd_tokens.specs.Words.{truth_word}
use Rattle.rd_lines.specs.declared.forms.FormRefused.TheVariants.{Syntax}
use Rattle.rd_lines.specs.declared.forms.Stage.{Stage}
use Rattle.rd_lines.specs.declared.forms.Version.{Version}
use Rattle.rd_lines.specs.Lines.{LineWord, plain, SaidForm, kind, method, commute, define, default, RightLine, IsFormRefused}
use Rattle.rd_lines.specs.Reading.{MayDefault}
use Rattle.rd_lines.proofs.LawLemmas.{kind_no_default, method_no_default, commute_no_default, define_no_default}

module _ (version : Version) (stage : Stage) (may : MayDefault version stage) (methods : List (List ℕ)) where
  -- a line that begins with `default` says a default
  default_only : (words : List LineWord) (said : SaidForm) → RightLine version stage methods (plain (codes "default") ∷ words) said
      → (value : Bool) × (words ≡ plain (truth_word value) ∷ [])
  default_only words (kind name) right = absurd (kind_no_default (cc (right.written)))
  default_only words (method name arguments result) right = absurd (method_no_default (cc (right.written)))
  default_only words (commute first second formula) right = absurd (commute_no_default (cc (right.written)))
  default_only words (define owner name formula) right = absurd (define_no_default (cc (right.written)))
  default_only words (default value) right = (value, cc (right.written))

  pub default_is : (value : Bool) → RightLine version stage methods (plain (codes "default") ∷ plain (truth_word value) ∷ []) (default value)
  default_is value = record { second_version = may.0; stands = may.1; written = refl }

  begins_default : Begins (RightLine version stage methods) (plain (codes "default") ∷ [])
  begins_default = (plain (truth_word true) ∷ [], default true, default_is true)

  pub default_alone : (words : List LineWord) → words ≡ [] → IsFormRefused version stage methods (plain (codes "default") ∷ words) (Syntax 1)
  default_alone [] same = (omega arith, (begins_default, λ said right. let is = default_only [] said right in cc (is.1)))
  default_alone (word ∷ words) same = absurd (cc)

  pub default_unnamed : (words rest : List LineWord) (word : LineWord) → words ≡ word ∷ rest → ((value : Bool) → word ≢ plain (truth_word value))
      → IsFormRefused version stage methods (plain (codes "default") ∷ words) (Syntax 1)
  default_unnamed words rest word same none =
      rw same (omega arith, (begins_default, λ more. let is = default_only (word ∷ more.0) more.1 more.2 in none is.0 (cc (is.1))))

  pub default_longer : (words rest behind : List LineWord) (first word : LineWord) (value : Bool) → words ≡ first ∷ rest → first ≡ plain (truth_word value)
      → rest ≡ word ∷ behind → IsFormRefused version stage methods (plain (codes "default") ∷ words) (Syntax 2)
  default_longer words rest behind first word value same is longer =
      rw (same, is, longer) (
        omega arith,
        (
          ([], default value, default_is value),
          λ more.
              let is = default_only (plain (truth_word value) ∷ word ∷ more.0) more.1 more.2 in
              let tails : word ∷ more.0 ≡ [] = cc (is.1) in
              cc,
        ),
      )

  pub default_right : (words rest : List LineWord) (first : LineWord) (value : Bool) → words ≡ first ∷ rest → first ≡ plain (truth_word value)
      → rest ≡ [] → RightLine version stage methods (plain (codes "default") ∷ words) (default value)
  default_right words rest first value same is end = rw (same, is, end) (default_is value)
