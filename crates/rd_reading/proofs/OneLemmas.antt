-- A text says one specification at most, and is refused nowhere if it says one.
use Rattle.std.proofs.Common.{◌≡◌, ℕ, zero, suc, Bool, true, false, List, [], ◌∷◌, ◌++◌, get_or, length, take, Some, refl, sym, ap, subst, arith, inl, inr, ◌∙◌}
use Rattle.std.specs.Prelude.{slice_get, option_map, unwrap_or, Contains, ◌⊎◌}
use Rattle.std.specs.Cmp.Lexicographic.{bytes_decides, nat_list_eq_equiv}
use Rattle.std.proofs.lemmas.List.{append_assoc, append-nil}
use Rattle.std.proofs.lemmas.Option.{none-some, same_Some}
use Rattle.std.proofs.lemmas.Map.Keys.{IsDistinct-push}
use Rattle.std.proofs.lemmas.Map.Made.{AllPairs-from_IsDistinct, IsDistinct-from_AllPairs}
use Rattle.rd_reading.specs.Adding.{AcceptsSpecLine, Adds, FormAdds, adds_form, adds_header, with_header, with_open}
use Rattle.rd_reading.specs.Causes.{EndHas, FormHas, Has, IsFirstRepeated, form_has, header_words}
use Rattle.rd_pairs.specs.Causes.{HasNone}
use Rattle.rd_pairs.specs.PairCauses.{definition_scope, scope_of, variables_of_method}
use Rattle.rd_reading.specs.Known.{kind_in, kinds_so_far, nothing, open_method_names, opened_in, stage_of}
use Rattle.rd_open_kind.specs.Opened.{Opened, kind_named, with_definition, with_pair_in}
use Rattle.rd_lines.specs.declared.forms.Stage.TheVariants.{Definitions, Pairs}
use Rattle.rd_lines.specs.declared.forms.Version.{Version}
use Rattle.rd_lines.specs.declared.forms.Version.TheVariants.{One, Two}
use Rattle.rd_pairs.specs.declared.spec_causes.SpecCause.TheVariants.{Duplicate}
use Rattle.rd_reading.specs.declared.known.Known.{Known}
use Rattle.rd_ecl.specs.declared.kinds.Method.{Method}
use Rattle.rd_ecl.specs.Formulas.{Tree}
use Rattle.rd_ecl.specs.Specified.{SpecifiedKind, names_of, with_method}
use Rattle.rd_ecl.specs.Variables.{is_one_of}
use Rattle.rd_ecl.proofs.VariableLemmas.{among_decides}
use Rattle.rd_formulas.specs.Scope.{SaysTree}
use Rattle.rd_grammar.specs.Grammar.{ParsedTree}
use Rattle.rd_lines.proofs.LawLemmas.{one_form}
use Rattle.rd_tokens.proofs.CutLemmas.{one_list}
use Rattle.rd_reading.specs.declared.parsing.SpecRefused.{SpecRefused}
use Rattle.rd_lines.specs.Lines.{LineWord, RightLine, SaidForm, words_of}
use Rattle.rd_lines.specs.Lines.{kind as kind_said, method as method_said, commute as commute_said, default as default_said, define as define_said}
use Rattle.rd_pairs.proofs.NumberLemmas.{AreDifferent, one_pair, one_place}
use Rattle.rd_pairs.proofs.MeaningLemmas.{one_formula}
use Rattle.rd_tokens.specs.declared.sorts.Token.{Token}
use Rattle.rd_reading.specs.Texts.{AreLines, ReadsLines, IsLine, IsSkipped, SpecSays, IsRefusedAtLine, IsRefusedAtEnd, IsSpecRefused, no_line, last_line, line_first, no_more, skips, takes}

-- ---- lines

-- two cuts at a line feed are one
one_cut : (line other more rest : List ℕ) → IsLine line → IsLine other → line ++ 10 ∷ more ≡ other ++ 10 ∷ rest → (line ≡ other) × (more ≡ rest)
one_cut [] [] more rest clean free e = (refl, cc)
one_cut [] (c ∷ other) more rest clean free e = let here : c ≡ 10 = cc in absurd (free 0 (omega arith) here)
one_cut (b ∷ line) [] more rest clean free e = let here : b ≡ 10 = cc in absurd (clean 0 (omega arith) here)
one_cut (b ∷ line) (c ∷ other) more rest clean free e =
    let heads : b ≡ c = cc in
    let tails : line ++ 10 ∷ more ≡ other ++ 10 ∷ rest = cc in
    let (lines, behind) = one_cut line other more rest (λ k l. clean (suc k) (omega (arith, l))) (λ k l. free (suc k) (omega (arith, l))) tails in
    (cc, behind)

has_feed : (line more : List ℕ) → IsLine (line ++ 10 ∷ more) → ⊥
has_feed [] more clean = clean 0 (omega arith) refl
has_feed (b ∷ line) more clean = has_feed line more (λ k l. clean (suc k) (omega (arith, l)))

no_bytes : (line more : List ℕ) → line ++ 10 ∷ more ≡ [] → ⊥
no_bytes [] more e = absurd (cc)
no_bytes (b ∷ line) more e = absurd (cc)

pub lines_one : (text other : List ℕ) (lines others : List (List ℕ)) → text ≡ other → AreLines text lines → AreLines other others → lines ≡ others
lines_one text other lines others e no_line no_line = refl
lines_one text other lines others e no_line (last_line some clean) = absurd (some (sym e))
lines_one text other lines others e no_line (line_first {line} {more} clean rest) = absurd (no_bytes line more (sym e))
lines_one text other lines others e (last_line some clean) no_line = absurd (some e)
lines_one text other lines others e (last_line some clean) (last_line more free) = ap (λ (l : List ℕ). l ∷ []) e
lines_one text other lines others e (last_line some clean) (line_first {line} {more} free rest) =
    absurd (has_feed line more (subst IsLine e clean))
lines_one text other lines others e (line_first {line} {more} clean rest) no_line = absurd (no_bytes line more e)
lines_one text other lines others e (line_first {line} {more} clean rest) (last_line some free) =
    absurd (has_feed line more (subst IsLine (sym e) free))
lines_one text other lines others e (line_first {line} {more} {lines = ls} clean rest) (line_first {line = one} {more = behind} {lines = ms} free left) =
    let (heads, tails) = one_cut line one more behind clean free e in
    let same : ls ≡ ms = lines_one more behind ls ms tails rest left in
    cc

-- ---- what is known

-- no two methods are of one name, and no two variables of a method
pub record AreApart (kind : SpecifiedKind) : Type 0 where
  pub names : AreDifferent (names_of kind.methods)
  pub variables : (n : ℕ) → AreDifferent (variables_of_method kind n)

pub none_apart : AreDifferent []
none_apart i j d less within = absurd (omega (arith, within))

pub apart_without : (name : List ℕ) → AreApart (kind_named name).kind
apart_without name = record { names = none_apart; variables = λ n. none_apart }

-- a name more
pub name_more : (names : List (List ℕ)) (name : List ℕ) → AreDifferent names → ¬ (Contains names name) → AreDifferent (names ++ name ∷ [])
name_more names name different fresh =
    AllPairs-from_IsDistinct bytes_decides (names ++ name ∷ [])
    (IsDistinct-push nat_list_eq_equiv names name (IsDistinct-from_AllPairs bytes_decides names different) (not_among (is_one_of name names) refl)) where
      not_among : (test : Bool) → is_one_of name names ≡ test → is_one_of name names ≡ false
      not_among true is = absurd (fresh ((among_decides name names).0 is))
      not_among false is = is

pub take_front : (before : List (List ℕ)) (rest : List (List ℕ)) → take (length before) (before ++ rest) ≡ before
take_front [] rest = refl
take_front (b ∷ before) rest = ap (λ (l : List (List ℕ)). b ∷ l) (take_front before rest)

pub stands_there : (before : List (List ℕ)) (name : List ℕ) (rest : List (List ℕ)) → slice_get (before ++ name ∷ rest) (length before) ≡ Some name
stands_there [] name rest = refl
stands_there (b ∷ before) name rest = stands_there before name rest

-- where none of the names repeats one before it, they differ
pub never_repeated : (names before rest : List (List ℕ)) → names ≡ before ++ rest → ((n : ℕ) → ¬ (IsFirstRepeated names n)) → AreDifferent before → AreDifferent names
never_repeated names before [] same never different = subst AreDifferent (sym (same ∙ append-nil before)) different
never_repeated names before (name ∷ rest) same never different =
    never_repeated names (before ++ name ∷ []) rest (same ∙ sym (append_assoc before (name ∷ []) rest)) never
    (name_more before name different (λ among. never (length before) (record {
      name = name;
      stands = subst (λ (l : List (List ℕ)). slice_get l (length before) ≡ Some name) (sym same) (stands_there before name rest);
      repeats = subst (λ (l : List (List ℕ)). Contains l name) (sym (front_of)) among;
      others = subst AreDifferent (sym front_of) different;
    }))) where
      front_of : take (length before) names ≡ before
      front_of = ap (λ (l : List (List ℕ)). take (length before) l) same ∙ take_front before (name ∷ rest)

-- the variables of the method with this number
abbrev variables_in : List Method → ℕ → List (List ℕ)
variables_in methods number = unwrap_or (option_map (λ method. method.variables) (slice_get methods number)) []

-- the variables of one method more
variables_more : (methods : List Method) (one : Method) (n : ℕ) (P : List (List ℕ) → Type 0) → ((m : ℕ) → P (variables_in methods m)) → P one.variables → P []
    → P (variables_in (methods ++ one ∷ []) n)
variables_more [] one zero P each here none = here
variables_more [] one (suc n) P each here none = none
variables_more (method ∷ methods) one zero P each here none = each 0
variables_more (method ∷ methods) one (suc n) P each here none = variables_more methods one n P (λ m. each (suc m)) here none

names_more : (methods : List Method) (one : Method) → names_of (methods ++ one ∷ []) ≡ names_of methods ++ one.name ∷ []
names_more [] one = refl
names_more (method ∷ methods) one = ap (λ (l : List (List ℕ)). method.name ∷ l) (names_more methods one)

apart_more : (kind : SpecifiedKind) (one : Method) → AreApart kind → ¬ (Contains (names_of kind.methods) one.name) → AreDifferent one.variables
    → AreApart (with_method kind one)
apart_more kind one apart fresh different = record {
  names = subst AreDifferent (sym (names_more kind.methods one)) (name_more (names_of kind.methods) one.name apart.names fresh);
  variables = λ n. variables_more kind.methods one n AreDifferent apart.variables different none_apart;
}

abbrev pub IsApart : Known → Type 0
IsApart known = AreApart (kind_in known.block)

-- an accepted line keeps them apart
form_apart : (taken : List (List ℕ)) (version : Version) (known next : Known) (line : List ℕ) (tokens : List Token) (form : SaidForm) → IsApart known
    → HasNone (FormHas taken version known line tokens form) → FormAdds version known line tokens form next → IsApart next
form_apart taken version known next line tokens (kind_said name) apart clean adds = subst IsApart (sym adds) (apart_without name)
form_apart taken version known next line tokens (method_said name arguments result) apart clean adds =
    subst IsApart (sym adds)
    (apart_more (kind_in known.block) (record { name = name; variables = arguments ++ result ∷ [] }) apart fresh
    (never_repeated (arguments ++ result ∷ []) [] (arguments ++ result ∷ []) refl (λ n repeats. clean Duplicate _ (inr (n, fresh, repeats, refl))) none_apart)) where
      fresh : ¬ (Contains (names_of (kind_in known.block).methods) name)
      fresh among = clean Duplicate _ (inl (among, refl))
form_apart taken version known next line tokens (commute_said first second read) apart clean (m, n, f, says, same) =
    subst IsApart (sym same) (record { names = apart.names; variables = apart.variables })
form_apart taken version known next line tokens (define_said owner name read) apart clean (m, f, says, same) =
    subst IsApart (sym same) (record { names = apart.names; variables = apart.variables })
form_apart taken version known next line tokens (default_said value) apart clean same =
    subst IsApart (sym same) (record { names = apart.names; variables = apart.variables })

pub accepted_apart : (taken : List (List ℕ)) (known next : Known) (line : List ℕ) → IsApart known → AcceptsSpecLine taken known line next → IsApart next
accepted_apart taken known next line apart accepts = by accepts.adds where
  by : Adds known line accepts.tokens next → IsApart next
  by (adds_header version fresh header same) = subst IsApart (sym same) apart
  by (adds_form version begun form right adds) =
      form_apart taken version known next line accepts.tokens form apart (λ cause place has. accepts.clean cause place (form_has version begun form right has)) adds

-- ---- an accepted line adds one thing

same_numbers : (version : Version) (opened : Opened) (line : List ℕ) (tokens : List Token) (m n i j : ℕ) (read : ParsedTree) (f : Tree) → i ≡ m → j ≡ n
    → SaysTree (scope_of version opened line tokens i j) read f → SaysTree (scope_of version opened line tokens m n) read f
same_numbers version opened line tokens m n i j read f first second says =
    subst (λ (x : ℕ). SaysTree (scope_of version opened line tokens x n) read f) first
    (subst (λ (y : ℕ). SaysTree (scope_of version opened line tokens i y) read f) second says)

one_added : (version : Version) (known a b : Known) (line : List ℕ) (tokens : List Token) (form : SaidForm) → IsApart known → FormAdds version known line tokens form a
    → FormAdds version known line tokens form b → a ≡ b
one_added version known a b line tokens (kind_said name) apart one other = one ∙ sym other
one_added version known a b line tokens (method_said name arguments result) apart one other = one ∙ sym other
one_added version known a b line tokens (commute_said first second read) apart (m, n, f, says, same) (i, j, g, also, equal) =
    let opened : Opened = opened_in known.block in
    let (firsts, seconds) = one_pair opened.kind first second m n i j apart.names says.numbers also.numbers in
    let formulas : f ≡ g = one_formula (scope_of version opened line tokens m n) (apart.variables m) (apart.variables n) read f g says.says
    (same_numbers version opened line tokens m n i j read g firsts seconds also.says) in
    let pairs : with_open known (with_pair_in opened m n f) Pairs ≡ with_open known (with_pair_in opened i j g) Pairs =
    ap (λ (x : ℕ). with_open known (with_pair_in opened x n f) Pairs) (sym firsts)
    ∙ ap (λ (y : ℕ). with_open known (with_pair_in opened i y f) Pairs) (sym seconds)
    ∙ ap (λ (h : Tree). with_open known (with_pair_in opened i j h) Pairs) formulas in
    same ∙ pairs ∙ sym equal
one_added version known a b line tokens (define_said owner name read) apart (m, f, says, same) (i, g, also, equal) =
    let opened : Opened = opened_in known.block in
    let numbers : i ≡ m = one_place (names_of opened.kind.methods) owner i m apart.names also.number says.number in
    let formulas : f ≡ g = one_formula (definition_scope opened.kind line tokens m) (apart.variables m) (apart.variables m) read f g says.says
    (subst (λ (x : ℕ). SaysTree (definition_scope opened.kind line tokens x) read g) numbers also.says) in
    let both : with_open known (with_definition opened m (record { name = name; formula = f })) Definitions
    ≡ with_open known (with_definition opened i (record { name = name; formula = g })) Definitions =
    ap (λ (x : ℕ). with_open known (with_definition opened x (record { name = name; formula = f })) Definitions) (sym numbers)
    ∙ ap (λ (h : Tree). with_open known (with_definition opened i (record { name = name; formula = h })) Definitions) formulas in
    same ∙ both ∙ sym equal
one_added version known a b line tokens (default_said value) apart one other = one ∙ sym other

-- a header tells one version, and there is one
abbrev version_byte : List LineWord → ℕ
version_byte (first ∷ second ∷ words) = get_or second.bytes 0 0
version_byte words = 0

pub one_version : (v w : Version) → header_words v ≡ header_words w → v ≡ w
one_version One One same = refl
one_version One Two same = let byte : 49 ≡ 50 = ap version_byte same in absurd (omega (arith, byte))
one_version Two One same = let byte : 50 ≡ 49 = ap version_byte same in absurd (omega (arith, byte))
one_version Two Two same = refl

one_next : (known a b : Known) (line : List ℕ) (tokens : List Token) → IsApart known → Adds known line tokens a → Adds known line tokens b → a ≡ b
one_next known a b line tokens apart (adds_header v fresh header same) (adds_header w new also equal) =
    let versions : v ≡ w = one_version v w (sym header ∙ also) in
    same ∙ ap (λ (x : Version). with_header known x) versions ∙ sym equal
one_next known a b line tokens apart (adds_header v fresh header same) (adds_form w begun form right adds) = absurd (none-some w (sym fresh ∙ begun))
one_next known a b line tokens apart (adds_form v begun form right adds) (adds_header w fresh header same) = absurd (none-some v (sym fresh ∙ begun))
one_next known a b line tokens apart (adds_form v begun form right adds) (adds_form w also other fit more) =
    let versions : w ≡ v = same_Some w v (sym also ∙ begun) in
    let fits : RightLine v (stage_of known) (open_method_names known) (words_of line tokens) other =
    subst (λ (x : Version). RightLine x (stage_of known) (open_method_names known) (words_of line tokens) other) versions fit in
    let here : FormAdds v known line tokens other b = subst (λ (x : Version). FormAdds x known line tokens other b) versions more in
    let forms : other ≡ form = one_form v (stage_of known) (open_method_names known) (words_of line tokens) other form fits right in
    one_added v known a b line tokens form apart adds (subst (λ (f : SaidForm). FormAdds v known line tokens f b) forms here)

pub one_accepted : (taken : List (List ℕ)) (known a b : Known) (line : List ℕ) → IsApart known → AcceptsSpecLine taken known line a → AcceptsSpecLine taken known line b → a ≡ b
one_accepted taken known a b line apart one other =
    let tokens : other.tokens ≡ one.tokens = one_list line other.tokens one.tokens other.cut one.cut in
    one_next known a b line one.tokens apart one.adds (subst (λ (ts : List Token). Adds known line ts b) tokens other.adds)

pub one_read : (taken : List (List ℕ)) (known a b : Known) (lines : List (List ℕ)) → IsApart known → ReadsLines taken known lines a → ReadsLines taken known lines b → a ≡ b
one_read taken known a b lines apart no_more no_more = refl
one_read taken known a b lines apart (skips {lines = rest} skipped more) (skips also others) = one_read taken known a b rest apart more others
one_read taken known a b lines apart (skips skipped more) (takes kept accepts others) = absurd (kept skipped)
one_read taken known a b lines apart (takes kept accepts more) (skips skipped others) = absurd (kept skipped)
one_read taken known a b lines apart (takes {mid = mid} {line = line} {lines = rest} kept accepts more) (takes {mid = other} also accepted others) =
    let same : other ≡ mid = one_accepted taken known other mid line apart accepted accepts in
    one_read taken mid a b rest (accepted_apart taken known mid line apart accepts) more (subst (λ (k : Known). ReadsLines taken k rest b) same others)

pub one_said : (text : List ℕ) (taken : List (List ℕ)) (x y : List SpecifiedKind) → SpecSays text taken x → SpecSays text taken y → x ≡ y
one_said text taken x y one other =
    let lines : other.lines ≡ one.lines = lines_one text text other.lines one.lines refl other.cut one.cut in
    let known : one.known ≡ other.known = one_read taken nothing one.known other.known one.lines (apart_without []) one.reads
    (subst (λ (l : List (List ℕ)). ReadsLines taken nothing l other.known) lines other.reads) in
    one.said ∙ ap kinds_so_far known ∙ sym other.said

-- ---- a text that says kinds is refused nowhere

-- the lines in front are read, and the next one is accepted
front_read : (taken : List (List ℕ)) (known last mid : Known) (before : List (List ℕ)) (line : List ℕ) (behind : List (List ℕ)) → IsApart known
    → ReadsLines taken known (before ++ line ∷ behind) last → ReadsLines taken known before mid → ¬ (IsSkipped line) → (next : Known) × AcceptsSpecLine taken mid line next
front_read taken known last mid [] line behind apart (skips skipped more) no_more kept = absurd (kept skipped)
front_read taken known last mid [] line behind apart (takes {mid = next} also accepts more) no_more kept = (next, accepts)
front_read taken known last mid (l ∷ before) line behind apart (skips skipped more) (skips also rest) kept =
    front_read taken known last mid before line behind apart more rest kept
front_read taken known last mid (l ∷ before) line behind apart (skips skipped more) (takes free accepts rest) kept = absurd (free skipped)
front_read taken known last mid (l ∷ before) line behind apart (takes free accepts more) (skips skipped rest) kept = absurd (free skipped)
front_read taken known last mid (l ∷ before) line behind apart (takes {mid = next} free accepts more) (takes {mid = other} also accepted rest) kept =
    let same : other ≡ next = one_accepted taken known other next l apart accepted accepts in
    front_read taken next last mid before line behind (accepted_apart taken known next l apart accepts) more
    (subst (λ (k : Known). ReadsLines taken k before mid) same rest) kept

pub line_fine : (taken : List (List ℕ)) (lines : List (List ℕ)) (last : Known) (refused : SpecRefused) → ReadsLines taken nothing lines last → ¬ (IsRefusedAtLine taken lines refused)
line_fine taken lines last refused reads wrong =
    let (next, accepts) = front_read taken nothing last wrong.known wrong.before wrong.line wrong.behind (apart_without [])
    (subst (λ (l : List (List ℕ)). ReadsLines taken nothing l last) wrong.parts reads) wrong.reads wrong.kept in
    let tokens : wrong.tokens ≡ accepts.tokens = one_list wrong.line wrong.tokens accepts.tokens wrong.cut accepts.cut in
    accepts.clean refused.cause refused.place (subst (λ (ts : List Token). Has taken wrong.known wrong.line ts refused.cause refused.place) tokens wrong.first.has)

end_fine : (taken : List (List ℕ)) (lines : List (List ℕ)) (last : Known) (refused : SpecRefused) → ReadsLines taken nothing lines last → HasNone (EndHas last) → ¬ (IsRefusedAtEnd taken lines refused)
end_fine taken lines last refused reads whole wrong =
    let same : wrong.known ≡ last = one_read taken nothing wrong.known last lines (apart_without []) wrong.reads reads in
    whole refused.cause refused.place (subst (λ (k : Known). EndHas k refused.cause refused.place) same wrong.first.has)

pub never_refused : (text : List ℕ) (taken : List (List ℕ)) (x : List SpecifiedKind) (refused : SpecRefused) → SpecSays text taken x → ¬ (IsSpecRefused text taken refused)
never_refused text taken x refused says (inl long) = let short = says.short in let over = long.long in omega (arith, short, over)
never_refused text taken x refused says (inr wrong) = by wrong.first where
  same : wrong.lines ≡ says.lines
  same = lines_one text text wrong.lines says.lines refl wrong.cut says.cut

  by : IsRefusedAtLine taken wrong.lines refused ⊎ IsRefusedAtEnd taken wrong.lines refused → ⊥
  by (inl line) = line_fine taken says.lines says.known refused says.reads (subst (λ (l : List (List ℕ)). IsRefusedAtLine taken l refused) same line)
  by (inr end) = end_fine taken says.lines says.known refused says.reads says.whole (subst (λ (l : List (List ℕ)). IsRefusedAtEnd taken l refused) same end)
