-- Where a line of a method is wrong.
use Rattle.std.proofs.Common.{◌≡◌, ◌≢◌, ◌+◌, ℕ, List, [], ◌∷◌, ◌++◌, length, map, codes, refl, ap, subst, arith}
use Rattle.std.proofs.lemmas.List.{length-map}
use Rattle.std.specs.List.{AllByRecursion}
use Rattle.rd_base.specs.Names.{IsName}
use Rattle.rd_ecl.specs.Variables.{IsVariable}
use Rattle.rd_grammar.specs.FirstWrong.{Begins}
use Rattle.rd_lines.specs.declared.forms.Stage.TheVariants.{Methods}
use Rattle.rd_lines.specs.declared.forms.FormRefused.TheVariants.{Syntax}
use Rattle.rd_lines.specs.declared.forms.Version.{Version}
use Rattle.rd_lines.specs.Lines.{LineWord, plain, SaidForm, kind, method, commute, define, default, RightLine, IsFormRefused, IsWrongBehind}
use Rattle.rd_lines.specs.Reading.{BeginsNoVariable, SaysResult}
use Rattle.rd_lines.proofs.LawLemmas.{kind_no_method, method_no_commute, method_no_define, method_no_default, arrow_no_variable}
use Rattle.rd_lines.proofs.LiftLemmas.{lift_behind}
use Rattle.rd_lines.proofs.KindLemmas.{a_name}
use Rattle.rd_lines.proofs.SpokenLemmas.{a_variable}

-- a result and where it is wrong
begins_result : Begins SaysResult []
begins_result = (plain (codes "->") ∷ plain (codes "a") ∷ [], codes "a", record { is = a_variable; written = refl })

begins_arrow : Begins SaysResult (plain (codes "->") ∷ [])
begins_arrow = (plain (codes "a") ∷ [], codes "a", record { is = a_variable; written = refl })

pub result_missing : (words : List LineWord) → words ≡ [] → IsWrongBehind SaysResult words 0
result_missing [] same = (omega arith, (begins_result, λ said says. cc (says.written)))
result_missing (word ∷ words) same = absurd (cc)

pub no_arrow : (words rest : List LineWord) (word : LineWord) → words ≡ word ∷ rest → word ≢ plain (codes "->") → IsWrongBehind SaysResult words 0
no_arrow words rest word same none = rw same (omega arith, (begins_result, λ more. none (cc (more.2.written))))

pub arrow_alone : (words rest : List LineWord) (first : LineWord) → words ≡ first ∷ rest → first ≡ plain (codes "->") → rest ≡ [] → IsWrongBehind SaysResult words 1
arrow_alone words rest first same is end =
    rw (same, is, end) (omega arith, (begins_arrow, λ said says. let tails : [] ≡ plain said ∷ [] = cc (says.written) in cc))

pub no_result : (words rest behind : List LineWord) (first second : LineWord) → words ≡ first ∷ rest → first ≡ plain (codes "->") → rest ≡ second ∷ behind
    → ((name : List ℕ) → IsVariable name → second ≢ plain name) → IsWrongBehind SaysResult words 1
no_result words rest behind first second same is next none =
    rw (same, is, next) (omega arith, (begins_arrow, λ more. none more.1 more.2.is (cc (more.2.written))))

pub result_longer : (words rest behind more : List LineWord) (first second third : LineWord) (name : List ℕ) → words ≡ first ∷ rest → first ≡ plain (codes "->")
    → rest ≡ second ∷ behind → second ≡ plain name → IsVariable name → behind ≡ third ∷ more → IsWrongBehind SaysResult words 2
result_longer words rest behind more first second third name same is next named variable longer =
    rw (same, is, next, named, longer) (
      omega arith,
      (
        ([], name, record { is = variable; written = refl }),
        λ begins. let tails : third ∷ begins.0 ≡ [] = cc (begins.2.written) in cc,
      ),
    )

pub result_is : (words rest behind : List LineWord) (first second : LineWord) (name : List ℕ) → words ≡ first ∷ rest → first ≡ plain (codes "->")
    → rest ≡ second ∷ behind → second ≡ plain name → IsVariable name → behind ≡ [] → SaysResult words name
result_is words rest behind first second name same is next named variable end =
    record { is = variable; written = rw (same, is, next, named, end) refl }

-- what stands behind the arguments
behind_arguments : (names others : List (List ℕ)) (words more : List LineWord) → BeginsNoVariable words → AllByRecursion IsVariable names
    → AllByRecursion IsVariable others → map plain names ++ words ≡ map plain others ++ plain (codes "->") ∷ more → words ≡ plain (codes "->") ∷ more
behind_arguments [] [] words more ends are each same = same
behind_arguments [] (other ∷ others) [] more ends are each same = absurd (cc)
behind_arguments [] (other ∷ others) (word ∷ words) more ends are each same = absurd (ends other each.0 (cc))
behind_arguments (name ∷ names) [] words more ends are each same = absurd (arrow_no_variable name are.0 (cc))
behind_arguments (name ∷ names) (other ∷ others) words more ends are each same = behind_arguments names others words more ends are.1 each.1 (cc)

module _ (version : Version) (methods : List (List ℕ)) where
  -- a line that begins with `method` says a method
  pub method_only : (words : List LineWord) (said : SaidForm) → RightLine version Methods methods (plain (codes "method") ∷ words) said
      → (name : List ℕ) × (behind : List LineWord) × IsName name × (words ≡ plain name ∷ behind)
  method_only words (kind name) right = absurd (kind_no_method (cc (right.written)))
  method_only words (method name arguments result) right = (name, map plain arguments ++ plain (codes "->") ∷ plain result ∷ [], right.named, cc (right.written))
  method_only words (commute first second formula) right = absurd (method_no_commute (cc (right.written)))
  method_only words (define owner name formula) right = absurd (method_no_define (cc (right.written)))
  method_only words (default value) right = absurd (method_no_default (cc (right.written)))

  begins_method : Begins (RightLine version Methods methods) (plain (codes "method") ∷ [])
  begins_method = (
    plain (codes "a") ∷ plain (codes "->") ∷ plain (codes "a") ∷ [],
    method (codes "a") [] (codes "a"),
    record { stands = refl; named = a_name; each_argument = tt; gives = a_variable; written = refl },
  )

  pub method_alone : (words : List LineWord) → words ≡ [] → IsFormRefused version Methods methods (plain (codes "method") ∷ words) (Syntax 1)
  method_alone [] same = (omega arith, (begins_method, λ said right. let is = method_only [] said right in cc (is.3)))
  method_alone (word ∷ words) same = absurd (cc)

  pub method_unnamed : (words rest : List LineWord) (word : LineWord) → words ≡ word ∷ rest → ((name : List ℕ) → IsName name → word ≢ plain name)
      → IsFormRefused version Methods methods (plain (codes "method") ∷ words) (Syntax 1)
  method_unnamed words rest word same none =
      rw same (omega arith, (begins_method, λ more. let is = method_only (word ∷ more.0) more.1 more.2 in none is.0 is.2 (cc (is.3))))

  module _ (name : List ℕ) (arguments : List (List ℕ)) (named : IsName name) (each : AllByRecursion IsVariable arguments) where
    up : (words : List LineWord) (result : List ℕ) → SaysResult words result
        → (said : SaidForm) × RightLine version Methods methods ((plain (codes "method") ∷ plain name ∷ map plain arguments) ++ words) said
    up words result says = (
      method name arguments result,
      record {
        stands = refl;
        named = named;
        each_argument = each;
        gives = says.is;
        written = ap (λ (w : List LineWord). plain (codes "method") ∷ plain name ∷ (map plain arguments ++ w)) says.written;
      },
    )

    down : (words : List LineWord) (said : SaidForm) → BeginsNoVariable words
        → RightLine version Methods methods ((plain (codes "method") ∷ plain name ∷ map plain arguments) ++ words) said → (result : List ℕ) × SaysResult words result
    down words (kind other) ends right = absurd (kind_no_method (cc (right.written)))
    down words (method other others result) ends right =
        let tails : map plain arguments ++ words ≡ map plain others ++ plain (codes "->") ∷ plain result ∷ [] = cc (right.written) in
        let behind = behind_arguments arguments others words (plain result ∷ []) ends each right.each_argument tails in
        (result, record { is = right.gives; written = behind })
    down words (commute first second formula) ends right = absurd (method_no_commute (cc (right.written)))
    down words (define owner other formula) ends right = absurd (method_no_define (cc (right.written)))
    down words (default value) ends right = absurd (method_no_default (cc (right.written)))

    keep : (front rest more : List LineWord) (word : LineWord) → BeginsNoVariable (front ++ word ∷ rest) → BeginsNoVariable ((front ++ word ∷ []) ++ more)
    keep [] rest more word ends = ends
    keep (first ∷ front) rest more word ends = ends

    pub method_lifted : (words behind : List LineWord) (n : ℕ) → words ≡ map plain arguments ++ behind → BeginsNoVariable behind → IsWrongBehind SaysResult behind n
        → IsFormRefused version Methods methods (plain (codes "method") ∷ plain name ∷ words) (Syntax (2 + length arguments + n))
    method_lifted words behind n same ends wrong =
        let prefix = plain (codes "method") ∷ plain name ∷ map plain arguments in
        let lifted = lift_behind (RightLine version Methods methods) SaysResult prefix BeginsNoVariable up down keep behind n ends wrong in
        let count : length prefix + n ≡ 2 + length arguments + n = omega (arith, length-map arguments plain) in
        rw same (subst (λ k. IsWrongBehind (RightLine version Methods methods) (prefix ++ behind) k) count lifted)

    pub method_refused : (words rest behind : List LineWord) (second : LineWord) (items : List (List ℕ)) (n : ℕ) → words ≡ second ∷ rest → second ≡ plain name
        → rest ≡ map plain arguments ++ behind → BeginsNoVariable behind → items ≡ arguments → IsWrongBehind SaysResult behind n
        → IsFormRefused version Methods methods (plain (codes "method") ∷ words) (Syntax (2 + length items + n))
    method_refused words rest behind second items n same is next ends counted wrong =
        rw (same, is, counted) (method_lifted rest behind n next ends wrong)
