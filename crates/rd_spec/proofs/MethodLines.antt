-- The lines of a kind and of its methods are read again.
use Rattle.std.proofs.Common.{◌≡◌, ◌≢◌, ℕ, zero, suc, ◌+◌, ◌<◌, ◌≤◌, List, [], ◌∷◌, ◌++◌, length, map, codes, Some, refl, sym, ap, subst, arith, ◌∙◌, length-append}
use Rattle.std.specs.Prelude.{All, AllPairs, Contains, slice_index_or, replicate, Option, None, ◌*◌}
use Rattle.std.specs.List.{AllByRecursion}
use Rattle.std.proofs.Math.ListN.{get_or-append}
use Rattle.std.proofs.Math.Seq.{get_or-append_seam}
use Rattle.std.proofs.lemmas.List.{append_assoc, append-nil, get_or-take, length-take}
use Rattle.std.proofs.lemmas.Option.{slice_get_within, get_or_from_slice_get}
use Rattle.rd_base.specs.Names.{IsName}
use Rattle.rd_print.specs.declared.canonical.word_list.PrintedWord.{PrintedWord}
use Rattle.rd_print.specs.Canonical.{plain_word}
use Rattle.rd_reading.specs.Adding.{AcceptsSpecLine, with_kind}
use Rattle.rd_reading.specs.Causes.{HasManyTokens, IsFirstRepeated}
use Rattle.rd_reading.specs.Known.{opened_in, specified_kind_names, kinds_so_far}
use Rattle.rd_reading.specs.declared.known.Known.{Known}
use Rattle.rd_ecl.specs.declared.kinds.Method.{Method}
use Rattle.rd_ecl.specs.Specified.{IsWhole, SpecifiedKind, names_of, with_method}
use Rattle.rd_ecl.specs.Formulas.{Tree}
use Rattle.rd_ecl.specs.Variables.{AreVariables, IsVariable}
use Rattle.rd_lines.specs.declared.forms.Stage.{Stage}
use Rattle.rd_lines.specs.declared.forms.Stage.TheVariants.{Methods}
use Rattle.rd_lines.specs.declared.forms.Version.{Version}
use Rattle.rd_open_kind.specs.Opened.{Opened, filled, with_method_in}
use Rattle.rd_lines.specs.Lines.{LineWord, plain, words_of, kind as kind_said, method as method_said}
use Rattle.rd_print.specs.Printed.{kind_words, method_words, slot_words}
use Rattle.rd_print.specs.Text.{IsRightWord, words_text}
use Rattle.rd_tokens.specs.declared.sorts.Token.{Token}
use Rattle.rd_tokens.specs.Tokens.{AreTokens}
use Rattle.rd_tokens.proofs.CutLemmas.{some_tokens}
use Rattle.rd_reading.specs.Texts.{IsSkipped, ReadsLines, no_more, takes}
use Rattle.rd_spec.proofs.AcceptLemmas.{accepted, kind_clean, method_clean, other_first}
use Rattle.rd_reading.proofs.ParsingLemmas.{reads_on}
use Rattle.rd_spec.proofs.TextLemmas.{kept_line, lift, words_read}
use Rattle.rd_base.specs.declared.limits.TheConstants.{MOST_ARGUMENTS, MOST_KINDS, MOST_METHODS}

-- behind the header of the version, where these kinds are closed and this one is open
abbrev pub at : Version → List SpecifiedKind → Opened → Stage → Known
at version closed opened stage = record { version = Some version; closed = closed; block = Some (record { opened = opened; stage = stage }) }

-- a line whose words are accepted is read
pub line_read : (taken : List (List ℕ)) (known next : Known) (words : List PrintedWord) → All IsRightWord words → ¬ (IsSkipped (words_text words))
    → ((tokens : List Token) → AreTokens (words_text words) tokens → words_of (words_text words) tokens ≡ map lift words → AcceptsSpecLine taken known (words_text words) next)
    → ReadsLines taken known (words_text words ∷ []) next
line_read taken known next words sound kept accepts =
    let found = some_tokens (words_text words) in
    takes kept (accepts found.0 found.1 (words_read words found.0 sound found.1)) no_more

kind_no_commute : codes "kind" ≢ codes "commute"
kind_no_commute e = cc

kind_no_define : codes "kind" ≢ codes "define"
kind_no_define e = cc

method_no_commute : codes "method" ≢ codes "commute"
method_no_commute e = cc

method_no_define : codes "method" ≢ codes "define"
method_no_define e = let first : ◌≡◌ {A = ℕ} 109 100 = ap (λ (bytes : List ℕ). slice_index_or bytes 0 0) e in omega (arith, first)

-- the words of a kind's line, or a method's, aren't counted
pub kind_short : (version : Version) (rest : List LineWord) → ¬ (HasManyTokens version (plain (codes "kind") ∷ rest))
kind_short version rest = other_first version (codes "kind") rest kind_no_commute kind_no_define

pub method_short : (version : Version) (rest : List LineWord) → ¬ (HasManyTokens version (plain (codes "method") ∷ rest))
method_short version rest = other_first version (codes "method") rest method_no_commute method_no_define

-- the line of a kind
pub kind_read : (taken : List (List ℕ)) (version : Version) (known : Known) (kind : SpecifiedKind) → known.version ≡ Some version → ¬ (Contains (specified_kind_names (kinds_so_far known)) kind.name)
    → IsWhole (filled (opened_in known.block)) → ¬ (Contains taken kind.name) → length (kinds_so_far known) < MOST_KINDS → IsName kind.name → All IsRightWord (kind_words kind)
    → ReadsLines taken known (words_text (kind_words kind) ∷ []) (with_kind known kind.name)
kind_read taken version known kind begun new whole free few named sound =
    let line = words_text (kind_words kind) in
    line_read taken known (with_kind known kind.name) (kind_words kind) sound (kept_line 107 (codes "ind") (plain_word kind.name ∷ []) (λ e. omega (arith, e)) (λ e. omega (arith, e)))
    (λ tokens are words. accepted taken known line tokens version begun (kind_said kind.name)
    (λ many. kind_short version (plain kind.name ∷ []) (subst (HasManyTokens version) words many))
    (record { named = named; written = words }) (with_kind known kind.name) are (kind_clean taken known line tokens kind.name new whole free few) refl)

-- the last variable names the result
record Split (variables : List (List ℕ)) : Type 0 where
  arguments : List (List ℕ)
  result : List ℕ
  is : variables ≡ arguments ++ result ∷ []
  words : map lift (slot_words variables) ≡ map plain arguments ++ plain (codes "->") ∷ plain result ∷ []

split_more : (argument next : List ℕ) (more : List (List ℕ)) → Split (next ∷ more) → Split (argument ∷ next ∷ more)
split_more argument next more rest = record {
  arguments = argument ∷ rest.arguments;
  result = rest.result;
  is = ap (λ (l : List (List ℕ)). argument ∷ l) rest.is;
  words = ap (λ (l : List LineWord). plain argument ∷ l) rest.words;
}

split : (variables : List (List ℕ)) → 1 ≤ length variables → Split variables
split [] some = absurd (omega (arith, some))
split (result ∷ []) some = record { arguments = []; result = result; is = refl; words = refl }
split (argument ∷ next ∷ more) some = split_more argument next more (split (next ∷ more) (omega arith))

-- none of different names repeats one before it
once : (names : List (List ℕ)) → AllPairs (λ x y. x ≢ y) names → (n : ℕ) → ¬ (IsFirstRepeated names n)
once names different n repeated =
    let (k, within, here) = repeated.repeats in
    let low : k < n = omega (arith, simp length-take at within) in
    let last : n < length names = slice_get_within names n repeated.name repeated.stands in
    let there = get_or_from_slice_get names n repeated.name repeated.name repeated.stands in
    different k n repeated.name low last (sym (get_or-take n names k repeated.name low) ∙ here ∙ sym there)

-- a name is none of those before it
pub fresh_behind : (before : List (List ℕ)) (name : List ℕ) (rest : List (List ℕ)) → AllPairs (λ x y. x ≢ y) (before ++ name ∷ rest) → ¬ (Contains before name)
fresh_behind before name rest different (k, within, here) =
    let longer = length-append before (name ∷ rest) in
    different k (length before) name within (omega (arith, longer))
    (get_or-append before (name ∷ rest) name k within ∙ here ∙ sym (get_or-append_seam before name rest name))

front_each : (P : List ℕ → Type 0) (before : List (List ℕ)) (last : List ℕ) → AllByRecursion P (before ++ last ∷ []) → AllByRecursion P before × P last
front_each P [] last (here, rest) = (tt, here)
front_each P (b ∷ before) last (here, rest) = let (all, one) = front_each P before last rest in ((here, all), one)

-- the line of a method
pub method_read : (taken : List (List ℕ)) (version : Version) (closed : List SpecifiedKind) (opened : Opened) (method : Method)
    → ¬ (Contains (names_of opened.kind.methods) method.name) → length opened.kind.methods < MOST_METHODS → AreVariables method.variables → AllByRecursion IsVariable method.variables → IsName method.name → All IsRightWord (method_words method)
    → ReadsLines taken (at version closed opened Methods) (words_text (method_words method) ∷ []) (at version closed (with_method_in opened method) Methods)
method_read taken version closed opened method new room variables each named sound =
    let line = words_text (method_words method) in
    let parts : Split method.variables = split method.variables variables.some in
    let arguments : List (List ℕ) = parts.arguments in
    let sides = front_each IsVariable arguments parts.result (subst (AllByRecursion IsVariable) parts.is each) in
    let count : length arguments + 1 ≤ MOST_ARGUMENTS + 1 = (let few = variables.few in let same = ap length parts.is in let sum = length-append arguments (parts.result ∷ []) in omega (arith, few, same, sum)) in
    let whole : record { name = method.name; variables = arguments ++ parts.result ∷ [] } ≡ method = ap (λ (vs : List (List ℕ)). record { name = method.name; variables = vs }) (sym parts.is) in
    line_read taken (at version closed opened Methods) (at version closed (with_method_in opened method) Methods) (method_words method) sound
    (kept_line 109 (codes "ethod") (plain_word method.name ∷ slot_words method.variables) (λ e. omega (arith, e)) (λ e. omega (arith, e)))
    (λ tokens are words. accepted taken (at version closed opened Methods) line tokens version refl (method_said method.name arguments parts.result)
    (λ many. method_short version _ (subst (HasManyTokens version) words many))
    (record {
      stands = refl;
      named = named;
      each_argument = sides.0;
      gives = sides.1;
      written = words ∙ ap (λ (l : List LineWord). plain (codes "method") ∷ plain method.name ∷ l) parts.words;
    }) (at version closed (with_method_in opened method) Methods) are
    (method_clean opened.kind line tokens method.name arguments parts.result new
    (once (arguments ++ parts.result ∷ []) (subst (λ (l : List (List ℕ)). AllPairs (λ x y. x ≢ y) l) parts.is variables.different)) room (omega (arith, count)))
    (ap (λ (m : Method). at version closed (with_method_in opened m) Methods) (sym whole)))

-- the kind with these methods more
unfoldable pub with_methods : Opened → List Method → Opened
with_methods opened [] = opened
with_methods opened (method ∷ methods) = with_methods (with_method_in opened method) methods

names_split : (xs : List Method) (one : Method) (ys : List Method) → names_of (xs ++ one ∷ ys) ≡ names_of xs ++ one.name ∷ names_of ys
names_split [] one ys = refl
names_split (x ∷ xs) one ys = ap (λ (l : List (List ℕ)). x.name ∷ l) (names_split xs one ys)

-- a method that may be written
pub record IsWritten (method : Method) : Type 0 where
  pub variables : AreVariables method.variables
  pub each : AllByRecursion IsVariable method.variables
  pub named : IsName method.name
  pub sound : All IsRightWord (method_words method)

-- the lines of methods
pub methods_read : (taken : List (List ℕ)) (version : Version) (closed : List SpecifiedKind) (opened : Opened) (methods : List Method)
    → AllPairs (λ x y. x ≢ y) (names_of (opened.kind.methods ++ methods)) → length (opened.kind.methods ++ methods) ≤ MOST_METHODS → AllByRecursion IsWritten methods
    → ReadsLines taken (at version closed opened Methods) (map words_text (map method_words methods)) (at version closed (with_methods opened methods) Methods)
unfolding with_methods
methods_read taken version closed opened [] different few each = no_more
methods_read taken version closed opened (one ∷ methods) different few (here, rest) =
    let old : List Method = opened.kind.methods in
    let more : (old ++ one ∷ []) ++ methods ≡ old ++ one ∷ methods = append_assoc old (one ∷ []) methods in
    let room = length-append old (one ∷ methods) in
    reads_on taken
    (method_read taken version closed opened one
    (fresh_behind (names_of old) one.name (names_of methods) (subst (λ (l : List (List ℕ)). AllPairs (λ x y. x ≢ y) l) (names_split old one methods) different))
    (omega (arith, few, room)) here.variables here.each here.named here.sound)
    (methods_read taken version closed (with_method_in opened one) methods (subst (λ (ms : List Method). AllPairs (λ x y. x ≢ y) (names_of ms)) (sym more) different)
    (subst (λ (ms : List Method). length ms ≤ MOST_METHODS) (sym more) few) rest)

pub methods_more : (opened : Opened) (methods : List Method) → (with_methods opened methods).kind.methods ≡ opened.kind.methods ++ methods
unfolding with_methods
methods_more opened [] = sym (append-nil opened.kind.methods)
methods_more opened (one ∷ methods) = methods_more (with_method_in opened one) methods ∙ append_assoc opened.kind.methods (one ∷ []) methods

pub name_kept : (opened : Opened) (methods : List Method) → (with_methods opened methods).kind.name ≡ opened.kind.name
unfolding with_methods
name_kept opened [] = refl
name_kept opened (one ∷ methods) = name_kept (with_method_in opened one) methods

-- nothing is defined of them, and no default came
pub defined_more : (opened : Opened) (methods : List Method) → (with_methods opened methods).defined ≡ opened.defined ++ map (λ (method : Method). []) methods
unfolding with_methods
defined_more opened [] = sym (append-nil opened.defined)
defined_more opened (one ∷ methods) =
    defined_more (with_method_in opened one) methods ∙ append_assoc opened.defined ([] ∷ []) (map (λ (method : Method). []) methods)

pub default_kept : (opened : Opened) (methods : List Method) → (with_methods opened methods).default ≡ opened.default
unfolding with_methods
default_kept opened [] = refl
default_kept opened (one ∷ methods) = default_kept (with_method_in opened one) methods

-- no pair of them is set
pub record IsUnset (kind : SpecifiedKind) : Type 0 where
  pub rows : length kind.pairs ≡ MOST_METHODS * length kind.methods
  pub none : (k : ℕ) → slice_index_or kind.pairs k None ≡ None

abbrev nones : ℕ → List (Option Tree)
nones n = replicate n None

none_there : (n k : ℕ) → slice_index_or (nones n) k None ≡ None
none_there zero k = refl
none_there (suc n) zero = refl
none_there (suc n) (suc k) = none_there n k

none_behind : (pairs : List (Option Tree)) (k : ℕ) → ((j : ℕ) → slice_index_or pairs j None ≡ None) → slice_index_or (pairs ++ replicate MOST_METHODS None) k None ≡ None
none_behind [] k none = none_there MOST_METHODS k
none_behind (p ∷ pairs) zero none = none 0
none_behind (p ∷ pairs) (suc k) none = none_behind pairs k (λ j. none (suc j))

unset_more : (kind : SpecifiedKind) (one : Method) → IsUnset kind → IsUnset (with_method kind one)
unset_more kind one is = record {
  rows =
      let rows = is.rows in
      let no_pairs : List (Option Tree) = nones MOST_METHODS in
      let pairs = length-append kind.pairs no_pairs in
      let methods = length-append kind.methods (one ∷ []) in
      omega (arith, rows, pairs, methods);
  none = λ k. none_behind kind.pairs k is.none;
}

pub methods_unset : (opened : Opened) (methods : List Method) → IsUnset opened.kind → IsUnset (with_methods opened methods).kind
unfolding with_methods
methods_unset opened [] is = is
methods_unset opened (one ∷ methods) is = methods_unset (with_method_in opened one) methods (unset_more opened.kind one is)
