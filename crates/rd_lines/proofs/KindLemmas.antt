-- Where a line of a kind is wrong, and where a line that begins with no right word is.
use Rattle.std.proofs.Common.{◌≡◌, ◌≢◌, ℕ, List, [], ◌∷◌, codes, refl, arith}
use Rattle.rd_base.specs.Names.{IsName, is_name}
use Rattle.rd_base.proofs.NameLemmas.{is_name_decides}
use Rattle.rd_grammar.specs.FirstWrong.{Begins, WrongAt}
use Rattle.rd_lines.specs.declared.forms.Stage.{Stage}
use Rattle.rd_lines.specs.declared.forms.Version.{Version}
use Rattle.rd_lines.specs.Lines.{LineWord, plain, SaidForm, kind, method, commute, define, default, RightLine, IsFormRefused}
use Rattle.rd_lines.specs.declared.forms.FormRefused.TheVariants.{Syntax}
use Rattle.rd_lines.specs.Reading.{BeginsNothing}
use Rattle.rd_lines.proofs.LawLemmas.{kind_no_method, kind_no_commute, kind_no_define, kind_no_default}

-- a name
pub a_name : IsName (codes "a")
unfolding is_name
a_name = (is_name_decides (codes "a")).0 refl

module _ (version : Version) (stage : Stage) (methods : List (List ℕ)) where
  begins_nothing : (word : LineWord) → BeginsNothing version stage word → ¬ (Begins (RightLine version stage methods) (word ∷ []))
  begins_nothing word none (more, kind name, right) = none.no_kind (cc (right.written))
  begins_nothing word none (more, method name arguments result, right) = none.no_method right.stands (cc (right.written))
  begins_nothing word none (more, commute first second formula, right) = none.no_commute right.stands (cc (right.written))
  begins_nothing word none (more, define owner name formula, right) = none.no_define (right.second_version, right.stands) (cc (right.written))
  begins_nothing word none (more, default value, right) = none.no_default (right.second_version, right.stands) (cc (right.written))

  begins_empty : Begins (RightLine version stage methods) []
  begins_empty = (plain (codes "kind") ∷ plain (codes "a") ∷ [], kind (codes "a"), record { named = a_name; written = refl })

  no_empty : (said : SaidForm) → ¬ (RightLine version stage methods [] said)
  no_empty (kind name) right = cc (right.written)
  no_empty (method name arguments result) right = cc (right.written)
  no_empty (commute first second formula) right = cc (right.written)
  no_empty (define owner name formula) right = cc (right.written)
  no_empty (default value) right = cc (right.written)

  pub wrong_first : (word : LineWord) (words : List LineWord) → BeginsNothing version stage word → WrongAt (RightLine version stage methods) [] (word ∷ words)
  wrong_first word words none = (begins_empty, begins_nothing word none)

  pub wrong_empty : WrongAt (RightLine version stage methods) [] []
  wrong_empty = (begins_empty, no_empty)

  -- a line that begins with `kind` says a kind
  pub kind_only : (words : List LineWord) (said : SaidForm) → RightLine version stage methods (plain (codes "kind") ∷ words) said
      → (name : List ℕ) × IsName name × (words ≡ plain name ∷ []) × (said ≡ kind name)
  kind_only words (kind name) right = (name, right.named, cc (right.written), refl)
  kind_only words (method name arguments result) right = absurd (kind_no_method (cc (right.written)))
  kind_only words (commute first second formula) right = absurd (kind_no_commute (cc (right.written)))
  kind_only words (define owner name formula) right = absurd (kind_no_define (cc (right.written)))
  kind_only words (default value) right = absurd (kind_no_default (cc (right.written)))

  begins_kind : Begins (RightLine version stage methods) (plain (codes "kind") ∷ [])
  begins_kind = (plain (codes "a") ∷ [], kind (codes "a"), record { named = a_name; written = refl })

  pub kind_alone : WrongAt (RightLine version stage methods) (plain (codes "kind") ∷ []) []
  kind_alone = (begins_kind, λ said right. let is = kind_only [] said right in cc (is.2))

  pub kind_unnamed : (word : LineWord) (words : List LineWord) → ((name : List ℕ) → IsName name → word ≢ plain name)
      → WrongAt (RightLine version stage methods) (plain (codes "kind") ∷ []) (word ∷ words)
  kind_unnamed word words none =
      (begins_kind, λ more. let is = kind_only (word ∷ more.0) more.1 more.2 in none is.0 is.1 (cc (is.2)))

  pub kind_is : (name : List ℕ) → IsName name → RightLine version stage methods (plain (codes "kind") ∷ plain name ∷ []) (kind name)
  kind_is name named = record { named = named; written = refl }

  pub kind_longer : (name : List ℕ) (word : LineWord) (words : List LineWord) → IsName name
      → WrongAt (RightLine version stage methods) (plain (codes "kind") ∷ plain name ∷ []) (word ∷ words)
  kind_longer name word words named = (
    ([], kind name, kind_is name named),
    λ more.
        let is = kind_only (plain name ∷ word ∷ more.0) more.1 more.2 in
        let tails : word ∷ more.0 ≡ [] = cc (is.2) in
        cc,
  )

-- the same of words that are taken apart
pub refused_alone : (version : Version) (words : List LineWord) → words ≡ [] → (stage : Stage) (methods : List (List ℕ))
    → IsFormRefused version stage methods (plain (codes "kind") ∷ words) (Syntax 1)
refused_alone version [] same stage methods = (omega arith, kind_alone version stage methods)
refused_alone version (word ∷ words) same stage methods = absurd (cc)

pub refused_name : (version : Version) (words rest : List LineWord) (word : LineWord) → words ≡ word ∷ rest → ((name : List ℕ) → IsName name → word ≢ plain name)
    → (stage : Stage) (methods : List (List ℕ)) → IsFormRefused version stage methods (plain (codes "kind") ∷ words) (Syntax 1)
refused_name version words rest word same none stage methods =
    rw same (omega arith, kind_unnamed version stage methods word rest none)

pub refused_longer : (version : Version) (words rest behind : List LineWord) (first word : LineWord) (name : List ℕ) → words ≡ first ∷ rest → first ≡ plain name → IsName name
    → rest ≡ word ∷ behind → (stage : Stage) (methods : List (List ℕ)) → IsFormRefused version stage methods (plain (codes "kind") ∷ words) (Syntax 2)
refused_longer version words rest behind first word name same is named longer stage methods =
    rw (same, is, longer) (omega arith, kind_longer version stage methods name word behind named)

pub refused_empty : (version : Version) (words : List LineWord) → words ≡ [] → (stage : Stage) (methods : List (List ℕ)) → IsFormRefused version stage methods words (Syntax 0)
refused_empty version [] same stage methods = (omega arith, wrong_empty version stage methods)
refused_empty version (word ∷ words) same stage methods = absurd (cc)

pub refused_first : (version : Version) (words rest : List LineWord) (word : LineWord) (stage : Stage) → words ≡ word ∷ rest → BeginsNothing version stage word → (methods : List (List ℕ))
    → IsFormRefused version stage methods words (Syntax 0)
refused_first version words rest word stage same none methods = rw same (omega arith, wrong_first version stage methods word rest none)
