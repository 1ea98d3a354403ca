-- The canonical text of a specification is read again as it.
use Rattle.std.proofs.Common.{◌≡◌, ◌≢◌, ℕ, zero, suc, ◌+◌, ◌*◌, ◌<◌, ◌≤◌, Bool, true, List, [], ◌∷◌, ◌++◌, length, map, codes, Option, Some, None, refl, sym, ap, subst, arith, inl, inr, ◌∙◌, length-append}
use Rattle.std.specs.Prelude.{All, AllPairs, Contains, flat_map, nat_le, is_some, IsSome}
use Rattle.std.specs.List.{AllByRecursion}
use Rattle.std.proofs.lemmas.List.{append_assoc, append-nil, map-append, get_or_past}
use Rattle.rd_base.specs.Names.{IsName}
use Rattle.rd_base.proofs.FoundLemmas.{each_by_recursion}
use Rattle.std.proofs.lemmas.List.Elements.{Contains-append_right}
use Rattle.rd_print.specs.Canonical.{plain_word}
use Rattle.rd_reading.specs.Adding.{with_header, with_kind}
use Rattle.rd_reading.specs.Known.{opened_in, specified_kind_names, kinds_so_far, nothing}
use Rattle.rd_lines.specs.declared.forms.Stage.{Stage}
use Rattle.rd_lines.specs.declared.forms.Stage.TheVariants.{Methods, Outside}
use Rattle.rd_lines.specs.declared.forms.Version.{Version}
use Rattle.rd_lines.specs.declared.forms.Version.TheVariants.{One}
use Rattle.rd_open_kind.specs.Filled.{filled_with}
use Rattle.rd_open_kind.specs.Opened.{Opened, filled, kind_named}
use Rattle.rd_pairs.specs.PairCauses.{variables_of_method}
use Rattle.rd_reading.specs.declared.known.Known.{Known}
use Rattle.rd_ecl.specs.declared.kinds.Method.{Method}
use Rattle.rd_ecl.specs.Formulas.{Tree}
use Rattle.rd_ecl.specs.Specified.{IsKind, IsWhole, SpecifiedKind, formula_at}
use Rattle.rd_ecl.specs.Variables.{AreVariables, IsVariable}
use Rattle.rd_ecl.proofs.PairLemmas.{equal_kinds}
use Rattle.rd_pairs.proofs.NumberLemmas.{AreDifferent}
use Rattle.rd_print.specs.Printed.{block_lines, commute_words, printed_header, kind_words, method_words, pairs_of, spec_lines, spec_text}
use Rattle.rd_print.proofs.SoundLemmas.{commute_sound, kind_sound, lines_sound, method_sound, name_at_is}
use Rattle.rd_print.specs.Text.{IsRightWord, words_text}
use Rattle.rd_spec.specs.Again.{MayBeRead}
use Rattle.rd_reading.specs.Texts.{ReadsLines, SpecSays, no_more}
use Rattle.rd_spec.proofs.AcceptLemmas.{header_accepted}
use Rattle.rd_reading.proofs.ParsingLemmas.{reads_on}
use Rattle.rd_reading.proofs.VerdictLemmas.{no_end}
use Rattle.rd_spec.proofs.MethodLines.{IsUnset, IsWritten, at, default_kept, kind_read, fresh_behind, line_read, methods_more, methods_read, methods_unset, name_kept, with_methods}
use Rattle.rd_spec.proofs.PairLines.{IsPrinted}
use Rattle.rd_spec.proofs.RowLines.{IsBefore, IsPart, IsSource, pairs_read, unset_at}
use Rattle.rd_spec.proofs.TextLemmas.{kept_line, lines_cut}
use Rattle.rd_base.specs.declared.limits.TheConstants.{MOST_METHODS}

-- ---- one kind

some_there : (o : Option Tree) → is_some o ≡ true → (f : Tree) × (o ≡ Some f)
some_there (Some f) there = (f, refl)
some_there None there = absurd (cc)

none_apart : AreDifferent []
none_apart i j d less within = absurd (omega (arith, within))

module _ (kind : SpecifiedKind) (is : IsKind kind) where
  printed_pair : (m n : ℕ) → m ≤ n → n < length kind.methods → (f : Tree) × IsPrinted kind m n f
  printed_pair m n ordered known =
      let names = is.draft.methods.named in
      let (f, there) = some_there (formula_at kind m n) (is.whole m n ordered known) in (
        f,
        record {
          ordered = ordered;
          known = known;
          there = there;
          pair = is.draft.pairs.each m n f there;
          values = (is.draft.pairs.each m n f there).values;
          methods = is.draft.methods;
          first_name = name_at_is kind.methods m (omega (arith, ordered, known)) names;
          second_name = name_at_is kind.methods n known names;
          sound = commute_sound kind is m n ordered known;
        },
      )

  variables_apart : (methods : List Method) (n : ℕ) → AllByRecursion (λ (method : Method). AreVariables method.variables) methods
      → AreDifferent (variables_of_method (record kind { methods = methods }) n)
  variables_apart [] zero each = none_apart
  variables_apart [] (suc n) each = none_apart
  variables_apart (method ∷ methods) zero (here, rest) = here.different
  variables_apart (method ∷ methods) (suc n) (here, rest) = variables_apart methods n rest

  source : IsSource kind
  source = record {
    few = is.draft.methods.few;
    names = is.draft.methods.different;
    variables = λ n. variables_apart kind.methods n (each_by_recursion (λ (method : Method). AreVariables method.variables) kind.methods is.draft.methods.each);
    predicates = is.draft.pairs.few;
    pairs = printed_pair;
  }

  written : AllByRecursion IsWritten kind.methods
  written = by kind.methods (each_by_recursion (λ (method : Method). AreVariables method.variables) kind.methods is.draft.methods.each)
      (each_by_recursion (λ (method : Method). IsName method.name) kind.methods is.draft.methods.named) where
        by : (methods : List Method) → AllByRecursion (λ (method : Method). AreVariables method.variables) methods → AllByRecursion (λ (method : Method). IsName method.name) methods
            → AllByRecursion IsWritten methods
        by [] variables named = tt
        by (method ∷ methods) (here, rest) (name, more) =
            (record { variables = here; each = each_by_recursion IsVariable method.variables here.each; named = name; sound = method_sound method name here }, by methods rest more)

  -- before its first pair
  empty : Opened
  empty = with_methods (kind_named kind.name) kind.methods

  begins : IsPart kind empty.kind 0 0
  unfolding IsBefore empty
  begins =
      let unset : IsUnset empty.kind = methods_unset (kind_named kind.name) kind.methods (record { rows = refl; none = λ k. get_or_past [] k None (omega arith) }) in
      let methods : empty.kind.methods ≡ kind.methods = methods_more (kind_named kind.name) kind.methods in
      record {
        name = name_kept (kind_named kind.name) kind.methods;
        methods = methods;
        rows = unset.rows ∙ ap (λ (ms : List Method). MOST_METHODS * length ms) methods;
        rest = λ m n above low. unset.none (MOST_METHODS * n + m);
        done = λ m n up low before. elim before [
          | inl less ↦ absurd (omega (arith, less))
          | inr same ↦ absurd (let less = same.1 in omega (arith, less))
        ];
        left = λ m n up low behind. unset_at (nat_le m n) empty.kind.pairs (MOST_METHODS * n + m) (unset.none (MOST_METHODS * n + m));
      }

  -- its methods and pairs are read
  record BodyRead (taken : List (List ℕ)) (closed : List SpecifiedKind) (lines : List (List ℕ)) : Type 0 where
    next : Opened
    then_stage : Stage
    default : next.default ≡ None
    is_part : IsPart kind next.kind (length kind.methods) (length kind.methods)
    reads : ReadsLines taken (at One closed (kind_named kind.name) Methods) lines (at One closed next then_stage)

  methods_inside : Methods ≢ Outside
  methods_inside e = cc

  body_read : (taken : List (List ℕ)) (closed : List SpecifiedKind)
      → BodyRead taken closed (map words_text (map method_words kind.methods ++ map (commute_words kind) (pairs_of (length kind.methods))))
  unfolding empty
  body_read taken closed =
      let bare : Opened = kind_named kind.name in
      let pairs = pairs_read taken closed kind source empty Methods methods_inside begins in
      let next : Opened = record empty { kind = pairs.next } in
      let lines : map words_text (map method_words kind.methods ++ map (commute_words kind) (pairs_of (length kind.methods)))
      ≡ map words_text (map method_words kind.methods) ++ map words_text (map (commute_words kind) (pairs_of (length kind.methods))) =
      map-append words_text (map method_words kind.methods) (map (commute_words kind) (pairs_of (length kind.methods))) in
      record {
        next = next;
        then_stage = pairs.then_stage;
        default = default_kept bare kind.methods;
        is_part = pairs.is;
        reads = subst (λ (l : List (List ℕ)). ReadsLines taken (at One closed bare Methods) l (at One closed next pairs.then_stage)) (sym lines)
            (reads_on taken (methods_read taken One closed bare kind.methods is.draft.methods.different is.draft.methods.few written) pairs.reads);
      }

  -- what was read is the kind
  pub same_kind : (next : SpecifiedKind) → IsPart kind next (length kind.methods) (length kind.methods) → next ≡ kind
  unfolding IsBefore
  same_kind next part =
      let pairs = is.draft.pairs in
      sym (equal_kinds kind next pairs.rows part.rows pairs.rest part.rest (sym part.name) (sym part.methods)
      (λ m n up low. sym (part.done m n up low (inl (omega (arith, up, low))))))

  pub whole_kind : (next : SpecifiedKind) → IsPart kind next (length kind.methods) (length kind.methods) → IsWhole next
  unfolding IsBefore
  whole_kind next part m n up low =
      let known : n < length kind.methods = subst (λ (ms : List Method). n < length ms) part.methods low in
      subst IsSome (sym (part.done m n up known (inl (omega (arith, up, known))))) (is.whole m n up known)

-- ---- kinds, one after another

-- a kind that has no default is closed as it is
unfilled : (opened : Opened) → opened.default ≡ None → filled opened ≡ opened.kind
unfolding filled_with
unfilled opened none = ap (λ (default : Option Bool). filled_with default opened.kind) none

none_whole : IsWhole (filled (kind_named []))
unfolding filled_with
none_whole first second ordered within = absurd (omega (arith, within))

pub record BlocksRead (taken : List (List ℕ)) (known : Known) (lines : List (List ℕ)) (kinds : List SpecifiedKind) : Type 0 where
  pub last : Known
  pub begun : last.version ≡ Some One
  pub same : kinds_so_far last ≡ kinds
  pub whole : IsWhole (filled (opened_in last.block))
  pub reads : ReadsLines taken known lines last

opened_at : (known : Known) (name : List ℕ) → known.version ≡ Some One → with_kind known name ≡ at One (kinds_so_far known) (kind_named name) Methods
opened_at known name begun =
    ap (λ (v : Option Version). record { version = v; closed = kinds_so_far known; block = Some (record { opened = kind_named name; stage = Methods }) }) begun

kinds_more : (xs : List SpecifiedKind) (one : SpecifiedKind) (ys : List SpecifiedKind) → specified_kind_names (xs ++ one ∷ ys) ≡ specified_kind_names xs ++ one.name ∷ specified_kind_names ys
kinds_more [] one ys = refl
kinds_more (x ∷ xs) one ys = ap (λ (l : List (List ℕ)). x.name ∷ l) (kinds_more xs one ys)

-- the lines of a kind
block_read : (taken : List (List ℕ)) (done : List SpecifiedKind) (kind : SpecifiedKind) (kinds : List SpecifiedKind) (known : Known) → known.version ≡ Some One
    → kinds_so_far known ≡ done → IsWhole (filled (opened_in known.block)) → IsKind kind → length (done ++ kind ∷ kinds) ≤ 32
    → AllPairs (λ x y. x ≢ y) (specified_kind_names (done ++ kind ∷ kinds)) → ((name : List ℕ) → Contains taken name → ¬ (Contains (specified_kind_names (done ++ kind ∷ kinds)) name))
    → BlocksRead taken known (map words_text (block_lines kind)) (done ++ kind ∷ [])
block_read taken done kind kinds known begun same whole is few different free =
    let named : specified_kind_names (done ++ kind ∷ kinds) ≡ specified_kind_names done ++ kind.name ∷ specified_kind_names kinds = kinds_more done kind kinds in
    let names : specified_kind_names done ≡ specified_kind_names (kinds_so_far known) = ap specified_kind_names (sym same) in
    let fresh : ¬ (Contains (specified_kind_names done) kind.name) =
    fresh_behind (specified_kind_names done) kind.name (specified_kind_names kinds) (subst (λ (l : List (List ℕ)). AllPairs (λ x y. x ≢ y) l) named different) in
    let here : Contains (specified_kind_names done ++ kind.name ∷ specified_kind_names kinds) kind.name =
    Contains-append_right (specified_kind_names done) (kind.name ∷ specified_kind_names kinds) kind.name (0, omega arith, refl) in
    let counts : length (kinds_so_far known) ≡ length done = ap length same in
    let sum = length-append done (kind ∷ kinds) in
    let sound = (kind_sound kind is).0 in
    let head = kind_read taken One known kind begun (λ among. fresh (subst (λ (l : List (List ℕ)). Contains l kind.name) (sym names) among)) whole
    (λ reserved. free kind.name reserved (subst (λ (l : List (List ℕ)). Contains l kind.name) (sym named) here)) (omega (arith, counts, sum, few)) is.draft.name sound in
    let body = body_read kind is taken (kinds_so_far known) in
    let alike : filled body.next ≡ body.next.kind = unfilled body.next body.default in
    record {
      last = at One (kinds_so_far known) body.next body.then_stage;
      begun = refl;
      same = ap (λ (l : List SpecifiedKind). l ++ filled body.next ∷ []) same
          ∙ ap (λ (k : SpecifiedKind). done ++ k ∷ []) (alike ∙ same_kind kind is body.next.kind body.is_part);
      whole = subst IsWhole (sym alike) (whole_kind kind is body.next.kind body.is_part);
      reads = reads_on taken (subst (λ (k : Known). ReadsLines taken known (words_text (kind_words kind) ∷ []) k) (opened_at known kind.name begun) head) body.reads;
    }

blocks_read : (taken : List (List ℕ)) (kinds done : List SpecifiedKind) (known : Known) → known.version ≡ Some One → kinds_so_far known ≡ done
    → IsWhole (filled (opened_in known.block)) → AllByRecursion IsKind kinds → length (done ++ kinds) ≤ 32 → AllPairs (λ x y. x ≢ y) (specified_kind_names (done ++ kinds))
    → ((name : List ℕ) → Contains taken name → ¬ (Contains (specified_kind_names (done ++ kinds)) name))
    → BlocksRead taken known (map words_text (flat_map block_lines kinds)) (done ++ kinds)
blocks_read taken [] done known begun same whole each few different free = record {
  last = known;
  begun = begun;
  same = same ∙ sym (append-nil done);
  whole = whole;
  reads = no_more;
}
blocks_read taken (kind ∷ kinds) done known begun same whole (is, rest) few different free =
    let one = block_read taken done kind kinds known begun same whole is few different free in
    let more : (done ++ kind ∷ []) ++ kinds ≡ done ++ kind ∷ kinds = append_assoc done (kind ∷ []) kinds in
    let others = blocks_read taken kinds (done ++ kind ∷ []) one.last one.begun one.same one.whole rest
    (subst (λ (l : List SpecifiedKind). length l ≤ 32) (sym more) few) (subst (λ (l : List SpecifiedKind). AllPairs (λ x y. x ≢ y) (specified_kind_names l)) (sym more) different)
    (subst (λ (l : List SpecifiedKind). (name : List ℕ) → Contains taken name → ¬ (Contains (specified_kind_names l) name)) (sym more) free) in
    record {
      last = others.last;
      begun = others.begun;
      same = others.same ∙ more;
      whole = others.whole;
      reads = subst (λ (l : List (List ℕ)). ReadsLines taken known l others.last) (sym (map-append words_text (block_lines kind) (flat_map block_lines kinds)))
          (reads_on taken one.reads others.reads);
    }

-- ---- the whole text

pub read_again : (kinds : List SpecifiedKind) (taken : List (List ℕ)) → MayBeRead kinds taken → SpecSays (spec_text kinds) taken kinds
read_again kinds taken may =
    let sound : AllByRecursion (All IsRightWord) (spec_lines kinds) = each_by_recursion (All IsRightWord) (spec_lines kinds) (lines_sound kinds may.each) in
    let head = line_read taken nothing (with_header nothing One) printed_header sound.0 (kept_line 114 (codes "dspec") (plain_word (codes "1") ∷ []) (λ e. omega (arith, e)) (λ e. omega (arith, e)))
    (λ tokens are words. header_accepted taken (words_text printed_header) tokens One words are) in
    let blocks = blocks_read taken kinds [] (with_header nothing One) refl refl none_whole
    (each_by_recursion IsKind kinds may.each)
    may.few may.different may.free in
    record {
      short = may.short;
      lines = map words_text (spec_lines kinds);
      cut = lines_cut (spec_lines kinds) sound;
      known = blocks.last;
      reads = reads_on taken head blocks.reads;
      whole = no_end blocks.last One blocks.begun blocks.whole;
      said = sym blocks.same;
    }
