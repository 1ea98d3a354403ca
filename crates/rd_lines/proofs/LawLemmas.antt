-- Lines say one thing.
use Rattle.std.proofs.Common.{◌≡◌, ◌≢◌, ℕ, suc, Bool, true, false, List, [], ◌∷◌, ◌++◌, map, nat_eq, codes, refl, sym, ◌∙◌, ap, subst}
use Rattle.std.specs.List.{AllByRecursion}
use Rattle.std.specs.Prelude.{IsTrue}
use Rattle.std.specs.Cmp.Lexicographic.{pointwise, bytes_decides}
use Rattle.rd_ecl.specs.Variables.{IsVariable, is_letter}
use Rattle.rd_grammar.specs.FirstWrong.{WrongAt}
use Rattle.rd_grammar.specs.Grammar.{ParsedTree, MarksSay, disj}
use Rattle.rd_grammar.specs.declared.marks.Mark.{Mark}
use Rattle.rd_grammar.specs.declared.marks.Symbol.{Symbol}
use Rattle.rd_grammar.proofs.FirstWrong.{one_place, right_nowhere}
use Rattle.rd_grammar.proofs.ReadLemmas.{one_tree}
use Rattle.rd_tokens.proofs.DialectLemmas.{one_symbol_in}
use Rattle.rd_tokens.specs.declared.words.dialects.Dialect.{Dialect}
use Rattle.rd_tokens.specs.declared.words.dialects.Dialect.TheVariants.{Unsided}
use Rattle.rd_tokens.specs.Words.{truth_word}
use Rattle.rd_lines.specs.declared.forms.Stage.{Stage}
use Rattle.rd_lines.specs.declared.forms.Version.{Version}
use Rattle.rd_lines.specs.Lines.{LineWord, plain, SaidForm, kind, method, commute, define, default, AreMarksFrom, RightLine, dialect_of}

-- words of other bytes are others
pub same_bytes : (a b : List ℕ) → plain a ≡ plain b → a ≡ b
same_bytes a b same = ap (λ (w : LineWord). w.bytes) same

other_bytes : (a b : List ℕ) → pointwise nat_eq a b ≡ false → plain a ≢ plain b
other_bytes a b other same = let yes : pointwise nat_eq a b ≡ true = (bytes_decides a b).1 (same_bytes a b same) in cc

pub kind_no_method : plain (codes "kind") ≢ plain (codes "method")
kind_no_method = other_bytes (codes "kind") (codes "method") refl

pub kind_no_commute : plain (codes "kind") ≢ plain (codes "commute")
kind_no_commute = other_bytes (codes "kind") (codes "commute") refl

pub kind_no_define : plain (codes "kind") ≢ plain (codes "define")
kind_no_define = other_bytes (codes "kind") (codes "define") refl

pub kind_no_default : plain (codes "kind") ≢ plain (codes "default")
kind_no_default = other_bytes (codes "kind") (codes "default") refl

pub method_no_commute : plain (codes "method") ≢ plain (codes "commute")
method_no_commute = other_bytes (codes "method") (codes "commute") refl

pub method_no_define : plain (codes "method") ≢ plain (codes "define")
method_no_define = other_bytes (codes "method") (codes "define") refl

pub method_no_default : plain (codes "method") ≢ plain (codes "default")
method_no_default = other_bytes (codes "method") (codes "default") refl

pub commute_no_define : plain (codes "commute") ≢ plain (codes "define")
commute_no_define = other_bytes (codes "commute") (codes "define") refl

pub commute_no_default : plain (codes "commute") ≢ plain (codes "default")
commute_no_default = other_bytes (codes "commute") (codes "default") refl

pub define_no_default : plain (codes "define") ≢ plain (codes "default")
define_no_default = other_bytes (codes "define") (codes "default") refl

-- no variable is the arrow
pub arrow_no_variable : (name : List ℕ) → IsVariable name → plain name ≢ plain (codes "->")
arrow_no_variable name is same =
    let bytes : name ≡ codes "->" = same_bytes name (codes "->") same in
    let arrow : IsVariable (codes "->") = subst (λ (x : List ℕ). IsVariable x) bytes is in
    let letter : IsTrue (is_letter 45) = arrow.letter in
    cc

-- arguments before an arrow are one list
pub same_arguments : (arguments others : List (List ℕ)) (rest more : List LineWord) → AllByRecursion IsVariable arguments → AllByRecursion IsVariable others
    → map plain arguments ++ plain (codes "->") ∷ rest ≡ map plain others ++ plain (codes "->") ∷ more → (arguments ≡ others) × (rest ≡ more)
same_arguments [] [] rest more are each same = (refl, cc)
same_arguments [] (other ∷ others) rest more are each same = absurd (arrow_no_variable other each.0 (cc))
same_arguments (name ∷ names) [] rest more are each same = absurd (arrow_no_variable name are.0 (cc))
same_arguments (name ∷ names) (other ∷ others) rest more are each same =
    let tails = same_arguments names others rest more are.1 each.1 (cc) in
    let heads : name ≡ other = same_bytes name other (cc) in
    (rw (heads, tails.0) refl, tails.1)

-- words have one list of marks
same_mark : (a b : Mark) → a.symbol ≡ b.symbol → a.token ≡ b.token → a ≡ b
same_mark a b symbols numbers =
    let first : a ≡ record { symbol = b.symbol; token = a.token } = ap (λ (x : Symbol). record { symbol = x; token = a.token }) symbols in
    let second : record { symbol = b.symbol; token = a.token } ≡ b = ap (λ (n : ℕ). record { symbol = b.symbol; token = n }) numbers in
    first ∙ second

pub one_marks : (dialect : Dialect) (k : ℕ) (words : List LineWord) (xs ys : List Mark) → AreMarksFrom dialect k words xs → AreMarksFrom dialect k words ys → xs ≡ ys
one_marks dialect k [] [] [] are also = refl
one_marks dialect k [] [] (y ∷ ys) are also = absurd also
one_marks dialect k [] (x ∷ xs) ys are also = absurd are
one_marks dialect k (word ∷ words) [] ys are also = absurd are
one_marks dialect k (word ∷ words) (x ∷ xs) [] are also = absurd also
one_marks dialect k (word ∷ words) (x ∷ xs) (y ∷ ys) are also =
    let heads : x ≡ y = same_mark x y (one_symbol_in dialect word.sort word.bytes x.symbol y.symbol are.0 also.0) (are.1 ∙ sym also.1) in
    let tails : xs ≡ ys = one_marks dialect (suc k) words xs ys are.2 also.2 in
    rw (heads, tails) refl

one_formula : (dialect : Dialect) (behind others : List LineWord) (xs ys : List Mark) (f g : ParsedTree) → behind ≡ others → AreMarksFrom dialect 0 behind xs
    → AreMarksFrom dialect 0 others ys → MarksSay disj xs f → MarksSay disj ys g → f ≡ g
one_formula dialect behind others xs ys f g same are also says too =
    let marks : xs ≡ ys = one_marks dialect 0 others xs ys (subst (λ w. AreMarksFrom dialect 0 w xs) same are) also in
    one_tree ys f g (subst (λ m. MarksSay disj m f) marks says) too

one_truth : (value other : Bool) → truth_word value ≡ truth_word other → value ≡ other
one_truth true true same = refl
one_truth true false same = absurd (cc)
one_truth false true same = absurd (cc)
one_truth false false same = refl

pub one_form : (version : Version) (stage : Stage) (methods : List (List ℕ)) (words : List LineWord) (x y : SaidForm) → RightLine version stage methods words x
    → RightLine version stage methods words y → x ≡ y
one_form version stage methods words (kind name) (kind other) x y = let names : name ≡ other = same_bytes name other (cc) in ap kind names
one_form version stage methods words (kind name) (method other others end) x y = absurd (kind_no_method (cc))
one_form version stage methods words (kind name) (commute one other end) x y = absurd (kind_no_commute (cc))
one_form version stage methods words (kind name) (define one other end) x y = absurd (kind_no_define (cc))
one_form version stage methods words (kind name) (default other) x y = absurd (kind_no_default (cc))
one_form version stage methods words (method name arguments result) (kind other) x y = absurd (kind_no_method (cc))
one_form version stage methods words (method name arguments result) (method other others end) x y =
    let tails : map plain arguments ++ plain (codes "->") ∷ plain result ∷ [] ≡ map plain others ++ plain (codes "->") ∷ plain end ∷ [] = cc in
    let both = same_arguments arguments others (plain result ∷ []) (plain end ∷ []) x.each_argument y.each_argument tails in
    let names : name ≡ other = same_bytes name other (cc) in
    let results : result ≡ end = same_bytes result end (cc (both.1)) in
    rw (names, both.0, results) refl
one_form version stage methods words (method name arguments result) (commute one other end) x y = absurd (method_no_commute (cc))
one_form version stage methods words (method name arguments result) (define one other end) x y = absurd (method_no_define (cc))
one_form version stage methods words (method name arguments result) (default other) x y = absurd (method_no_default (cc))
one_form version stage methods words (commute first second formula) (kind other) x y = absurd (kind_no_commute (cc))
one_form version stage methods words (commute first second formula) (method other others end) x y = absurd (method_no_commute (cc))
one_form version stage methods words (commute first second formula) (commute one other end) x y =
    let firsts : first ≡ one = same_bytes first one (cc) in
    let seconds : second ≡ other = same_bytes second other (cc) in
    let formulas : formula ≡ end = one_formula (dialect_of version) x.behind y.behind x.marks y.marks formula end (cc) x.marked y.marked x.says y.says in
    rw (firsts, seconds, formulas) refl
one_form version stage methods words (commute first second formula) (define one other end) x y = absurd (commute_no_define (cc))
one_form version stage methods words (commute first second formula) (default other) x y = absurd (commute_no_default (cc))
one_form version stage methods words (define owner name formula) (kind other) x y = absurd (kind_no_define (cc))
one_form version stage methods words (define owner name formula) (method other others end) x y = absurd (method_no_define (cc))
one_form version stage methods words (define owner name formula) (commute one other end) x y = absurd (commute_no_define (cc))
one_form version stage methods words (define owner name formula) (define one other end) x y =
    let owners : owner ≡ one = same_bytes owner one (cc) in
    let names : name ≡ other = same_bytes name other (cc) in
    let formulas : formula ≡ end = one_formula Unsided x.behind y.behind x.marks y.marks formula end (cc) x.marked y.marked x.says y.says in
    rw (owners, names, formulas) refl
one_form version stage methods words (define owner name formula) (default other) x y = absurd (define_no_default (cc))
one_form version stage methods words (default value) (kind other) x y = absurd (kind_no_default (cc))
one_form version stage methods words (default value) (method other others end) x y = absurd (method_no_default (cc))
one_form version stage methods words (default value) (commute one other end) x y = absurd (commute_no_default (cc))
one_form version stage methods words (default value) (define one other end) x y = absurd (define_no_default (cc))
one_form version stage methods words (default value) (default other) x y =
    let words : truth_word value ≡ truth_word other = same_bytes (truth_word value) (truth_word other) (cc) in ap default (one_truth value other words)

pub right_line : (version : Version) (stage : Stage) (methods : List (List ℕ)) (front rest : List LineWord) (x : SaidForm)
    → RightLine version stage methods (front ++ rest) x → ¬ (WrongAt (RightLine version stage methods) front rest)
right_line version stage methods front rest x right = right_nowhere (RightLine version stage methods) front rest x right

pub one_wrong : (version : Version) (stage : Stage) (methods : List (List ℕ)) (front rest others more : List LineWord) → front ++ rest ≡ others ++ more
    → WrongAt (RightLine version stage methods) front rest → WrongAt (RightLine version stage methods) others more → front ≡ others
one_wrong version stage methods front rest others more same wrong also = one_place (RightLine version stage methods) front rest others more same wrong also
