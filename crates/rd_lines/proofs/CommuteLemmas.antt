-- Where a line of two methods is wrong.
use Rattle.std.proofs.Common.{◌≡◌, ◌≢◌, ◌+◌, ℕ, true, List, [], ◌∷◌, ◌++◌, codes, refl, subst, arith}
use Rattle.rd_base.specs.Names.{IsName}
use Rattle.rd_grammar.specs.FirstWrong.{Begins}
use Rattle.rd_grammar.specs.Grammar.{ParsedTree, leaf, disj_one, conj_one, neg_one, prim_leaf}
use Rattle.rd_grammar.specs.declared.marks.Leaf.TheVariants.{Truth}
use Rattle.rd_grammar.specs.declared.marks.Symbol.TheVariants.{Leaf as LeafOf}
use Rattle.rd_lines.specs.declared.forms.Stage.{Stage}
use Rattle.rd_lines.specs.declared.forms.Stage.TheVariants.{Outside}
use Rattle.rd_lines.specs.declared.forms.FormRefused.TheVariants.{Syntax}
use Rattle.rd_lines.specs.declared.forms.Version.{Version}
use Rattle.rd_lines.specs.Lines.{LineWord, plain, SaidForm, kind, method, commute, define, default, AreMarksFrom, dialect_of, IsOutOfOrder, RightLine, IsFormRefused, IsWrongBehind}
use Rattle.rd_lines.specs.Reading.{WordsSayFormula, IsRefusedBehindWhen, behind_when}
use Rattle.rd_grammar.specs.declared.parsed.MarksRefused.{MarksRefused}
use Rattle.rd_grammar.specs.declared.parsed.MarksRefused.TheVariants.{Syntax as FormulaSyntax, NoMemory as FormulaMemory}
use Rattle.rd_lines.proofs.LawLemmas.{same_bytes, kind_no_commute, method_no_commute, commute_no_define, commute_no_default}
use Rattle.rd_lines.proofs.LiftLemmas.{lift_behind}
use Rattle.rd_lines.proofs.KindLemmas.{a_name}
use Rattle.rd_lines.proofs.SpokenLemmas.{truth_is}

-- no method is out of order with itself
in_order : (methods : List (List ℕ)) (name : List ℕ) → ¬ (IsOutOfOrder methods name name)
in_order methods name (before, behind, same, among, differ) = differ refl

module _ (version : Version) (stage : Stage) (in_kind : stage ≢ Outside) (methods : List (List ℕ)) where
  record Parts (words : List LineWord) : Type 0 where
    first : List ℕ
    second : List ℕ
    behind : List LineWord
    named_first : IsName first
    named_second : IsName second
    order : ¬ (IsOutOfOrder methods first second)
    written : words ≡ plain first ∷ plain second ∷ plain (codes "when") ∷ behind

  -- a line that begins with `commute` has these parts
  commute_only : (words : List LineWord) (said : SaidForm) → RightLine version stage methods (plain (codes "commute") ∷ words) said → Parts words
  commute_only words (kind name) right = absurd (kind_no_commute (cc (right.written)))
  commute_only words (method name arguments result) right = absurd (method_no_commute (cc (right.written)))
  commute_only words (define owner name formula) right = absurd (commute_no_define (cc (right.written)))
  commute_only words (default value) right = absurd (commute_no_default (cc (right.written)))
  commute_only words (commute first second formula) right = record {
    first = first;
    second = second;
    behind = right.behind;
    named_first = right.named_first;
    named_second = right.named_second;
    order = right.order;
    written = cc (right.written);
  }

  commute_true : (first second : List ℕ) → IsName first → IsName second → ¬ (IsOutOfOrder methods first second)
      → RightLine version stage methods (plain (codes "commute") ∷ plain first ∷ plain second ∷ plain (codes "when") ∷ plain (codes "true") ∷ []) (commute first second (leaf (Truth true) 0))
  commute_true first second named also order = record {
    stands = in_kind;
    named_first = named;
    named_second = also;
    order = order;
    behind = plain (codes "true") ∷ [];
    marks = record { symbol = LeafOf (Truth true); token = 0 } ∷ [];
    written = refl;
    marked = (truth_is (dialect_of version) true, refl, tt);
    says = disj_one (conj_one (neg_one (prim_leaf (record { symbol = LeafOf (Truth true); token = 0 }) (Truth true) refl)));
  }

  begins_commute : Begins (RightLine version stage methods) (plain (codes "commute") ∷ [])
  begins_commute = (
    plain (codes "a") ∷ plain (codes "a") ∷ plain (codes "when") ∷ plain (codes "true") ∷ [],
    commute (codes "a") (codes "a") (leaf (Truth true) 0),
    commute_true (codes "a") (codes "a") a_name a_name (in_order methods (codes "a")),
  )

  begins_first : (first : List ℕ) → IsName first → Begins (RightLine version stage methods) (plain (codes "commute") ∷ plain first ∷ [])
  begins_first first named = (
    plain first ∷ plain (codes "when") ∷ plain (codes "true") ∷ [],
    commute first first (leaf (Truth true) 0),
    commute_true first first named named (in_order methods first),
  )

  begins_second : (first second : List ℕ) → IsName first → IsName second → ¬ (IsOutOfOrder methods first second)
      → Begins (RightLine version stage methods) (plain (codes "commute") ∷ plain first ∷ plain second ∷ [])
  begins_second first second named also order =
      (plain (codes "when") ∷ plain (codes "true") ∷ [], commute first second (leaf (Truth true) 0), commute_true first second named also order)

  pub commute_alone : (words : List LineWord) → words ≡ [] → IsFormRefused version stage methods (plain (codes "commute") ∷ words) (Syntax 1)
  commute_alone [] same = (omega arith, (begins_commute, λ said right. let parts = commute_only [] said right in cc (parts.written)))
  commute_alone (word ∷ words) same = absurd (cc)

  pub first_unnamed : (words rest : List LineWord) (word : LineWord) → words ≡ word ∷ rest → ((name : List ℕ) → IsName name → word ≢ plain name)
      → IsFormRefused version stage methods (plain (codes "commute") ∷ words) (Syntax 1)
  first_unnamed words rest word same none =
      rw same (
        omega arith,
        (begins_commute, λ more. let parts = commute_only (word ∷ more.0) more.1 more.2 in none parts.first parts.named_first (cc (parts.written))),
      )

  pub first_alone : (words rest : List LineWord) (word : LineWord) (first : List ℕ) → words ≡ word ∷ rest → word ≡ plain first → IsName first → rest ≡ []
      → IsFormRefused version stage methods (plain (codes "commute") ∷ words) (Syntax 2)
  first_alone words rest word first same is named end =
      rw (same, is, end) (
        omega arith,
        (
          begins_first first named,
          λ said right.
              let parts = commute_only (plain first ∷ []) said right in
              let tails : [] ≡ plain parts.second ∷ plain (codes "when") ∷ parts.behind = cc (parts.written) in
              cc,
        ),
      )

  pub second_unnamed : (words rest behind : List LineWord) (word next : LineWord) (first : List ℕ) → words ≡ word ∷ rest → word ≡ plain first → IsName first
      → rest ≡ next ∷ behind → ((name : List ℕ) → IsName name → next ≢ plain name) → IsFormRefused version stage methods (plain (codes "commute") ∷ words) (Syntax 2)
  second_unnamed words rest behind word next first same is named follows none =
      rw (same, is, follows) (
        omega arith,
        (
          begins_first first named,
          λ more.
              let parts = commute_only (plain first ∷ next ∷ more.0) more.1 more.2 in
              none parts.second parts.named_second (cc (parts.written)),
        ),
      )

  pub second_out_of_order : (words rest behind : List LineWord) (word next : LineWord) (first second : List ℕ) → words ≡ word ∷ rest → word ≡ plain first
      → IsName first → rest ≡ next ∷ behind → next ≡ plain second → IsOutOfOrder methods first second
      → IsFormRefused version stage methods (plain (codes "commute") ∷ words) (Syntax 2)
  second_out_of_order words rest behind word next first second same is named follows also out =
      rw (same, is, follows, also) (
        omega arith,
        (
          begins_first first named,
          λ more.
              let parts = commute_only (plain first ∷ plain second ∷ more.0) more.1 more.2 in
              let firsts : first ≡ parts.first = same_bytes first parts.first (cc (parts.written)) in
              let seconds : second ≡ parts.second = same_bytes second parts.second (cc (parts.written)) in
              parts.order (subst (λ (x : List ℕ). IsOutOfOrder methods x parts.second) firsts (subst (λ (y : List ℕ). IsOutOfOrder methods first y) seconds out)),
        ),
      )

  pub second_last : (words rest behind : List LineWord) (word next : LineWord) (first second : List ℕ) → words ≡ word ∷ rest → word ≡ plain first
      → IsName first → rest ≡ next ∷ behind → next ≡ plain second → IsName second → ¬ (IsOutOfOrder methods first second) → behind ≡ []
      → IsFormRefused version stage methods (plain (codes "commute") ∷ words) (Syntax 3)
  second_last words rest behind word next first second same is named follows also named_too order end =
      rw (same, is, follows, also, end) (
        omega arith,
        (
          begins_second first second named named_too order,
          λ said right.
              let parts = commute_only (plain first ∷ plain second ∷ []) said right in
              let tails : [] ≡ plain (codes "when") ∷ parts.behind = cc (parts.written) in
              cc,
        ),
      )

  pub no_when : (words rest behind formula : List LineWord) (word next third : LineWord) (first second : List ℕ) → words ≡ word ∷ rest → word ≡ plain first
      → IsName first → rest ≡ next ∷ behind → next ≡ plain second → IsName second → ¬ (IsOutOfOrder methods first second) → behind ≡ third ∷ formula
      → third ≢ plain (codes "when") → IsFormRefused version stage methods (plain (codes "commute") ∷ words) (Syntax 3)
  no_when words rest behind formula word next third first second same is named follows also named_too order last none =
      rw (same, is, follows, also, last) (
        omega arith,
        (
          begins_second first second named named_too order,
          λ more. let parts = commute_only (plain first ∷ plain second ∷ third ∷ more.0) more.1 more.2 in none (cc (parts.written)),
        ),
      )

  module _ (first second : List ℕ) (named : IsName first) (named_too : IsName second) (order : ¬ (IsOutOfOrder methods first second)) where
    up : (words : List LineWord) (f : ParsedTree) → WordsSayFormula (dialect_of version) words f
        → (said : SaidForm) × RightLine version stage methods ((plain (codes "commute") ∷ plain first ∷ plain second ∷ plain (codes "when") ∷ []) ++ words) said
    up words f says = (
      commute first second f,
      record {
        stands = in_kind;
        named_first = named;
        named_second = named_too;
        order = order;
        behind = words;
        marks = says.marks;
        written = refl;
        marked = says.marked;
        says = says.says;
      },
    )

    down : (words : List LineWord) (said : SaidForm) → Unit {0}
        → RightLine version stage methods ((plain (codes "commute") ∷ plain first ∷ plain second ∷ plain (codes "when") ∷ []) ++ words) said
        → (f : ParsedTree) × WordsSayFormula (dialect_of version) words f
    down words (kind name) any right = absurd (kind_no_commute (cc (right.written)))
    down words (method name arguments result) any right = absurd (method_no_commute (cc (right.written)))
    down words (define owner name formula) any right = absurd (commute_no_define (cc (right.written)))
    down words (default value) any right = absurd (commute_no_default (cc (right.written)))
    down words (commute one other f) any right =
        let tails : right.behind ≡ words = cc (right.written) in
        (f, record { marks = right.marks; marked = subst (λ (w : List LineWord). AreMarksFrom (dialect_of version) 0 w right.marks) tails right.marked; says = right.says })

    pub commute_refused : (words behind : List LineWord) (n : ℕ) → words ≡ plain first ∷ plain second ∷ plain (codes "when") ∷ behind
        → IsWrongBehind (WordsSayFormula (dialect_of version)) behind n → IsFormRefused version stage methods (plain (codes "commute") ∷ words) (Syntax (4 + n))
    commute_refused words behind n same wrong =
        let prefix = plain (codes "commute") ∷ plain first ∷ plain second ∷ plain (codes "when") ∷ [] in
        let lifted = lift_behind (RightLine version stage methods) (WordsSayFormula (dialect_of version)) prefix (λ (w : List LineWord). Unit {0}) up down (λ front rest more word any. tt) behind n tt wrong in
        rw same lifted

    pub commute_right : (words behind : List LineWord) (f : ParsedTree) → words ≡ plain first ∷ plain second ∷ plain (codes "when") ∷ behind
        → WordsSayFormula (dialect_of version) behind f → RightLine version stage methods (plain (codes "commute") ∷ words) (commute first second f)
    unfolding up
    commute_right words behind f same says = rw same (up behind f says).1

    pub formula_refused : (words behind : List LineWord) (refused : MarksRefused) → words ≡ plain first ∷ plain second ∷ plain (codes "when") ∷ behind
        → IsRefusedBehindWhen (dialect_of version) behind refused → IsFormRefused version stage methods (plain (codes "commute") ∷ words) (behind_when refused)
    formula_refused words behind (FormulaSyntax count) same wrong = commute_refused words behind count same wrong
    formula_refused words behind FormulaMemory same wrong = tt
