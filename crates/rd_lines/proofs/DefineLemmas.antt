-- Where a line of a definition is wrong.
use Rattle.std.proofs.Common.{◌≡◌, ◌≢◌, ◌+◌, ℕ, true, List, [], ◌∷◌, ◌++◌, codes, refl, subst, arith}
use Rattle.rd_base.specs.Names.{IsName}
use Rattle.rd_ecl.specs.Variables.{IsVariable}
use Rattle.rd_grammar.specs.FirstWrong.{Begins}
use Rattle.rd_grammar.specs.Grammar.{ParsedTree, leaf, disj_one, conj_one, neg_one, prim_leaf}
use Rattle.rd_grammar.specs.declared.marks.Leaf.TheVariants.{Truth}
use Rattle.rd_grammar.specs.declared.marks.Symbol.TheVariants.{Leaf as LeafOf}
use Rattle.rd_grammar.specs.declared.parsed.MarksRefused.{MarksRefused}
use Rattle.rd_grammar.specs.declared.parsed.MarksRefused.TheVariants.{Syntax as FormulaSyntax, NoMemory as FormulaMemory}
use Rattle.rd_tokens.specs.declared.words.dialects.Dialect.TheVariants.{Unsided}
use Rattle.rd_lines.specs.declared.forms.FormRefused.TheVariants.{Syntax}
use Rattle.rd_lines.specs.declared.forms.Stage.{Stage}
use Rattle.rd_lines.specs.declared.forms.Version.{Version}
use Rattle.rd_lines.specs.Lines.{LineWord, plain, SaidForm, kind, method, commute, define, default, AreMarksFrom, RightLine, IsFormRefused, IsWrongBehind}
use Rattle.rd_lines.specs.Reading.{MayDefine, WordsSayFormula, IsRefusedBehindWhen, behind_when}
use Rattle.rd_lines.proofs.LawLemmas.{kind_no_define, method_no_define, commute_no_define, define_no_default}
use Rattle.rd_lines.proofs.LiftLemmas.{lift_behind}
use Rattle.rd_lines.proofs.KindLemmas.{a_name}
use Rattle.rd_lines.proofs.SpokenLemmas.{a_variable, truth_is}

module _ (version : Version) (stage : Stage) (may : MayDefine version stage) (methods : List (List ℕ)) where
  record Parts (words : List LineWord) : Type 0 where
    owner : List ℕ
    name : List ℕ
    behind : List LineWord
    named : IsName owner
    is_variable : IsVariable name
    written : words ≡ plain owner ∷ plain name ∷ plain (codes "when") ∷ behind

  -- a line that begins with `define` has these parts
  define_only : (words : List LineWord) (said : SaidForm) → RightLine version stage methods (plain (codes "define") ∷ words) said → Parts words
  define_only words (kind name) right = absurd (kind_no_define (cc (right.written)))
  define_only words (method name arguments result) right = absurd (method_no_define (cc (right.written)))
  define_only words (commute first second formula) right = absurd (commute_no_define (cc (right.written)))
  define_only words (default value) right = absurd (define_no_default (cc (right.written)))
  define_only words (define owner name formula) right = record {
    owner = owner;
    name = name;
    behind = right.behind;
    named = right.named;
    is_variable = right.is_variable;
    written = cc (right.written);
  }

  define_true : (owner name : List ℕ) → IsName owner → IsVariable name
      → RightLine version stage methods (plain (codes "define") ∷ plain owner ∷ plain name ∷ plain (codes "when") ∷ plain (codes "true") ∷ [])
      (define owner name (leaf (Truth true) 0))
  define_true owner name named variable = record {
    second_version = may.0;
    stands = may.1;
    named = named;
    is_variable = variable;
    behind = plain (codes "true") ∷ [];
    marks = record { symbol = LeafOf (Truth true); token = 0 } ∷ [];
    written = refl;
    marked = (truth_is Unsided true, refl, tt);
    says = disj_one (conj_one (neg_one (prim_leaf (record { symbol = LeafOf (Truth true); token = 0 }) (Truth true) refl)));
  }

  begins_define : Begins (RightLine version stage methods) (plain (codes "define") ∷ [])
  begins_define = (
    plain (codes "a") ∷ plain (codes "a") ∷ plain (codes "when") ∷ plain (codes "true") ∷ [],
    define (codes "a") (codes "a") (leaf (Truth true) 0),
    define_true (codes "a") (codes "a") a_name a_variable,
  )

  begins_owner : (owner : List ℕ) → IsName owner → Begins (RightLine version stage methods) (plain (codes "define") ∷ plain owner ∷ [])
  begins_owner owner named = (
    plain (codes "a") ∷ plain (codes "when") ∷ plain (codes "true") ∷ [],
    define owner (codes "a") (leaf (Truth true) 0),
    define_true owner (codes "a") named a_variable,
  )

  begins_name : (owner name : List ℕ) → IsName owner → IsVariable name
      → Begins (RightLine version stage methods) (plain (codes "define") ∷ plain owner ∷ plain name ∷ [])
  begins_name owner name named variable =
      (plain (codes "when") ∷ plain (codes "true") ∷ [], define owner name (leaf (Truth true) 0), define_true owner name named variable)

  pub define_alone : (words : List LineWord) → words ≡ [] → IsFormRefused version stage methods (plain (codes "define") ∷ words) (Syntax 1)
  define_alone [] same = (omega arith, (begins_define, λ said right. let parts = define_only [] said right in cc (parts.written)))
  define_alone (word ∷ words) same = absurd (cc)

  pub owner_unnamed : (words rest : List LineWord) (word : LineWord) → words ≡ word ∷ rest → ((name : List ℕ) → IsName name → word ≢ plain name)
      → IsFormRefused version stage methods (plain (codes "define") ∷ words) (Syntax 1)
  owner_unnamed words rest word same none =
      rw same (
        omega arith,
        (begins_define, λ more. let parts = define_only (word ∷ more.0) more.1 more.2 in none parts.owner parts.named (cc (parts.written))),
      )

  pub owner_alone : (words rest : List LineWord) (word : LineWord) (owner : List ℕ) → words ≡ word ∷ rest → word ≡ plain owner → IsName owner → rest ≡ []
      → IsFormRefused version stage methods (plain (codes "define") ∷ words) (Syntax 2)
  owner_alone words rest word owner same is named end =
      rw (same, is, end) (
        omega arith,
        (
          begins_owner owner named,
          λ said right.
              let parts = define_only (plain owner ∷ []) said right in
              let tails : [] ≡ plain parts.name ∷ plain (codes "when") ∷ parts.behind = cc (parts.written) in
              cc,
        ),
      )

  pub name_unnamed : (words rest behind : List LineWord) (word next : LineWord) (owner : List ℕ) → words ≡ word ∷ rest → word ≡ plain owner → IsName owner
      → rest ≡ next ∷ behind → ((name : List ℕ) → IsVariable name → next ≢ plain name)
      → IsFormRefused version stage methods (plain (codes "define") ∷ words) (Syntax 2)
  name_unnamed words rest behind word next owner same is named follows none =
      rw (same, is, follows) (
        omega arith,
        (
          begins_owner owner named,
          λ more.
              let parts = define_only (plain owner ∷ next ∷ more.0) more.1 more.2 in
              none parts.name parts.is_variable (cc (parts.written)),
        ),
      )

  pub name_last : (words rest behind : List LineWord) (word next : LineWord) (owner name : List ℕ) → words ≡ word ∷ rest → word ≡ plain owner
      → IsName owner → rest ≡ next ∷ behind → next ≡ plain name → IsVariable name → behind ≡ []
      → IsFormRefused version stage methods (plain (codes "define") ∷ words) (Syntax 3)
  name_last words rest behind word next owner name same is named follows also variable end =
      rw (same, is, follows, also, end) (
        omega arith,
        (
          begins_name owner name named variable,
          λ said right.
              let parts = define_only (plain owner ∷ plain name ∷ []) said right in
              let tails : [] ≡ plain (codes "when") ∷ parts.behind = cc (parts.written) in
              cc,
        ),
      )

  pub define_no_when : (words rest behind formula : List LineWord) (word next third : LineWord) (owner name : List ℕ) → words ≡ word ∷ rest
      → word ≡ plain owner → IsName owner → rest ≡ next ∷ behind → next ≡ plain name → IsVariable name → behind ≡ third ∷ formula
      → third ≢ plain (codes "when") → IsFormRefused version stage methods (plain (codes "define") ∷ words) (Syntax 3)
  define_no_when words rest behind formula word next third owner name same is named follows also variable last none =
      rw (same, is, follows, also, last) (
        omega arith,
        (
          begins_name owner name named variable,
          λ more. let parts = define_only (plain owner ∷ plain name ∷ third ∷ more.0) more.1 more.2 in none (cc (parts.written)),
        ),
      )

  module _ (owner name : List ℕ) (named : IsName owner) (variable : IsVariable name) where
    up : (words : List LineWord) (f : ParsedTree) → WordsSayFormula Unsided words f
        → (said : SaidForm) × RightLine version stage methods ((plain (codes "define") ∷ plain owner ∷ plain name ∷ plain (codes "when") ∷ []) ++ words) said
    up words f says = (
      define owner name f,
      record {
        second_version = may.0;
        stands = may.1;
        named = named;
        is_variable = variable;
        behind = words;
        marks = says.marks;
        written = refl;
        marked = says.marked;
        says = says.says;
      },
    )

    down : (words : List LineWord) (said : SaidForm) → Unit {0}
        → RightLine version stage methods ((plain (codes "define") ∷ plain owner ∷ plain name ∷ plain (codes "when") ∷ []) ++ words) said
        → (f : ParsedTree) × WordsSayFormula Unsided words f
    down words (kind other) any right = absurd (kind_no_define (cc (right.written)))
    down words (method other arguments result) any right = absurd (method_no_define (cc (right.written)))
    down words (commute first second formula) any right = absurd (commute_no_define (cc (right.written)))
    down words (default value) any right = absurd (define_no_default (cc (right.written)))
    down words (define one other f) any right =
        let tails : right.behind ≡ words = cc (right.written) in
        (f, record { marks = right.marks; marked = subst (λ (w : List LineWord). AreMarksFrom Unsided 0 w right.marks) tails right.marked; says = right.says })

    pub define_refused : (words behind : List LineWord) (n : ℕ) → words ≡ plain owner ∷ plain name ∷ plain (codes "when") ∷ behind
        → IsWrongBehind (WordsSayFormula Unsided) behind n → IsFormRefused version stage methods (plain (codes "define") ∷ words) (Syntax (4 + n))
    define_refused words behind n same wrong =
        let prefix = plain (codes "define") ∷ plain owner ∷ plain name ∷ plain (codes "when") ∷ [] in
        let lifted = lift_behind (RightLine version stage methods) (WordsSayFormula Unsided) prefix (λ (w : List LineWord). Unit {0}) up down (λ front rest more word any. tt) behind n tt wrong in
        rw same lifted

    pub define_right : (words behind : List LineWord) (f : ParsedTree) → words ≡ plain owner ∷ plain name ∷ plain (codes "when") ∷ behind
        → WordsSayFormula Unsided behind f → RightLine version stage methods (plain (codes "define") ∷ words) (define owner name f)
    unfolding up
    define_right words behind f same says = rw same (up behind f says).1

    pub definition_refused : (words behind : List LineWord) (refused : MarksRefused) → words ≡ plain owner ∷ plain name ∷ plain (codes "when") ∷ behind
        → IsRefusedBehindWhen Unsided behind refused → IsFormRefused version stage methods (plain (codes "define") ∷ words) (behind_when refused)
    definition_refused words behind (FormulaSyntax count) same wrong = define_refused words behind count same wrong
    definition_refused words behind FormulaMemory same wrong = tt
