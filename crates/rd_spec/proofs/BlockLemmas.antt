-- A text that says kinds is a header and a block for each of them.
use Rattle.std.proofs.Common.{◌≡◌, ◌≢◌, ℕ, List, [], ◌∷◌, ◌++◌, Option, Some, None, refl, sym, ◌∙◌, ap, subst, ◌⊎◌, inl, inr}
use Rattle.std.specs.Prelude.{flat_map}
use Rattle.std.specs.List.{AllZip}
use Rattle.std.proofs.lemmas.List.{append_assoc, append-nil}
use Rattle.std.proofs.lemmas.Option.{none-some, same_Some}
use Rattle.rd_base.specs.declared.limits.LimitName.TheVariants.{Tokens}
use Rattle.rd_base.specs.declared.limits.TheConstants.{MOST_TOKENS}
use Rattle.rd_ecl.specs.declared.kinds.Method.{Method}
use Rattle.rd_ecl.specs.Specified.{IsWhole, SpecifiedKind}
use Rattle.rd_lines.specs.declared.forms.Stage.{Stage}
use Rattle.rd_lines.specs.declared.forms.Stage.TheVariants.{Outside, Methods, Definitions, Defaulted, Pairs}
use Rattle.rd_lines.specs.declared.forms.Version.{Version}
use Rattle.rd_lines.specs.Lines.{HasFewWords, RightLine, SaidForm, words_of}
use Rattle.rd_lines.specs.Lines.{kind as kind_said, method as method_said, commute as commute_said, default as default_said, define as define_said}
use Rattle.rd_open_kind.specs.Opened.{Opened, filled, with_default, with_definition, with_method_in, with_pair_in}
use Rattle.rd_reading.specs.Adding.{AcceptsSpecLine, Adds, FormAdds, adds_form, adds_header}
use Rattle.rd_spec.specs.Blocks.{IsBlock, IsHeaderLine, IsOfBlocks, SaidDefinition, WithoutSkipped, kept_first, none_left, passed_over}
use Rattle.rd_reading.specs.Causes.{FormHas, form_has, line_has}
use Rattle.rd_pairs.specs.Causes.{HasNone, place_at}
use Rattle.rd_reading.specs.Known.{kinds_so_far, nothing, open_kinds, open_method_names, opened_in, stage_in, stage_of}
use Rattle.rd_reading.specs.Texts.{ReadsLines, SpecSays, no_more, skips, takes}
use Rattle.rd_reading.specs.declared.known.Block.{Block}
use Rattle.rd_reading.specs.declared.known.Known.{Known}
use Rattle.rd_pairs.specs.declared.spec_causes.SpecCause.TheVariants.{Duplicate, Header, Limit, MissingPair}
use Rattle.rd_reading.proofs.DraftLemmas.{AreDrafts, IsOpenDraft, accepted_drafts, may_define, may_set, may_stand, none_drafted, open_defined, open_draft}
use Rattle.rd_reading.proofs.LineLemmas.{short_words}
use Rattle.rd_spec.proofs.OpenLemmas.{AreAhead, IsOpen, begins_open, block_of, default_open, definition_open, method_open, pair_open, zip_more}
use Rattle.rd_reading.proofs.SearchLemmas.{whole_of}
use Rattle.rd_tokens.specs.declared.sorts.Token.{Token}
use Rattle.rd_tokens.specs.Tokens.{AreTokens}

-- ---- what is known

abbrev joined : List (List (List ℕ)) → List (List ℕ)
joined blocks = flat_map (λ block. block) blocks

joined_more : (blocks : List (List (List ℕ))) (block : List (List ℕ)) → joined (blocks ++ block ∷ []) ≡ joined blocks ++ block
joined_more [] block = append-nil block
joined_more (one ∷ blocks) block = ap (λ (l : List (List ℕ)). one ++ l) (joined_more blocks block) ∙ sym (append_assoc one (joined blocks) block)

-- the lines of the open kind; none where none is open
abbrev AreOpen : Version → List (List ℕ) → Option Block → Type 0
AreOpen version lines None = lines ≡ []
AreOpen version lines (Some block) = IsOpen version lines block.opened block.stage

-- behind the header, the lines so far that say something are blocks and what is open
record HasRead (version : Version) (known : Known) (kept : List (List ℕ)) : Type 0 where
  header : List ℕ
  blocks : List (List (List ℕ))
  rest : List (List ℕ)
  parts : kept ≡ header ∷ (joined blocks ++ rest)
  begins : IsHeaderLine version header
  closed : AllZip (IsBlock version) blocks known.closed
  unfinished : AreOpen version rest known.block

-- the kinds so far, where the open one is whole
record HasBlocks (version : Version) (kinds : List SpecifiedKind) (kept : List (List ℕ)) : Type 0 where
  header : List ℕ
  blocks : List (List (List ℕ))
  parts : kept ≡ header ∷ joined blocks
  begins : IsHeaderLine version header
  each : AllZip (IsBlock version) blocks kinds

all_blocks : (version : Version) (kept : List (List ℕ)) (header : List ℕ) (closed : List SpecifiedKind) (block : Option Block) (blocks : List (List (List ℕ)))
    (rest : List (List ℕ)) → kept ≡ header ∷ (joined blocks ++ rest) → IsHeaderLine version header → AllZip (IsBlock version) blocks closed
    → AreOpen version rest block → IsOpenDraft block → IsWhole (filled (opened_in block)) → HasBlocks version (closed ++ open_kinds block) kept
all_blocks version kept header closed None blocks rest parts begins all unfinished draft whole = record {
  header = header;
  blocks = blocks;
  parts = parts ∙ ap (λ (l : List (List ℕ)). header ∷ (joined blocks ++ l)) unfinished ∙ ap (λ (l : List (List ℕ)). header ∷ l) (append-nil (joined blocks));
  begins = begins;
  each = subst (AllZip (IsBlock version) blocks) (sym (append-nil closed)) all;
}
all_blocks version kept header closed (Some block) blocks rest parts begins all unfinished draft whole = record {
  header = header;
  blocks = blocks ++ rest ∷ [];
  parts = parts ∙ ap (λ (l : List (List ℕ)). header ∷ l) (sym (joined_more blocks rest));
  begins = begins;
  each = zip_more (IsBlock version) blocks closed rest (filled block.opened) all
      (block_of version rest block.opened block.stage unfinished draft.0 whole);
}

blocks_of : (version : Version) (known : Known) (kept : List (List ℕ)) → AreDrafts known → HasRead version known kept
    → IsWhole (filled (opened_in known.block)) → HasBlocks version (kinds_so_far known) kept
blocks_of version known kept are read whole =
    all_blocks version kept read.header known.closed known.block read.blocks read.rest read.parts read.begins read.closed read.unfinished are.draft whole

-- a line more of the open kind
longer : (kept : List (List ℕ)) (line header : List ℕ) (blocks : List (List (List ℕ))) (rest : List (List ℕ)) → kept ≡ header ∷ (joined blocks ++ rest)
    → kept ++ line ∷ [] ≡ header ∷ (joined blocks ++ (rest ++ line ∷ []))
longer kept line header blocks rest parts =
    ap (λ (l : List (List ℕ)). l ++ line ∷ []) parts ∙ ap (λ (l : List (List ℕ)). header ∷ l) (append_assoc (joined blocks) rest (line ∷ []))

pairs_outside : Pairs ≢ Outside
pairs_outside e = cc

methods_outside : Methods ≢ Outside
methods_outside e = cc

-- where a kind is open, its lines are at its stage
some_open : (version : Version) (lines : List (List ℕ)) (block : Option Block) → stage_in block ≢ Outside → AreOpen version lines block
    → IsOpen version lines (opened_in block) (stage_in block)
some_open version lines None inside is = absurd (inside refl)
some_open version lines (Some block) inside is = is

methods_open : (version : Version) (lines : List (List ℕ)) (block : Option Block) → stage_in block ≡ Methods → AreOpen version lines block
    → IsOpen version lines (opened_in block) Methods
methods_open version lines block stands is =
    subst (IsOpen version lines (opened_in block)) stands
    (some_open version lines block (λ outside. methods_outside (sym stands ∙ outside)) is)

-- behind methods and definitions no default and no pair came
undefaulted : (stage : Stage) (definitions defaults pairs : List (List ℕ)) → (stage ≡ Methods) ⊎ (stage ≡ Definitions) → AreAhead stage definitions defaults pairs
    → (defaults ≡ []) × (pairs ≡ [])
undefaulted Methods definitions defaults pairs stands ahead = (ahead.1, ahead.2)
undefaulted Definitions definitions defaults pairs stands ahead = ahead
undefaulted Outside definitions defaults pairs (inl stands) ahead = absurd (cc)
undefaulted Outside definitions defaults pairs (inr stands) ahead = absurd (cc)
undefaulted Defaulted definitions defaults pairs (inl stands) ahead = absurd (cc)
undefaulted Defaulted definitions defaults pairs (inr stands) ahead = absurd (cc)
undefaulted Pairs definitions defaults pairs (inl stands) ahead = absurd (cc)
undefaulted Pairs definitions defaults pairs (inr stands) ahead = absurd (cc)

-- a default that repeats none stands there
first_default : (stage : Stage) → (stage ≡ Methods) ⊎ ((stage ≡ Definitions) ⊎ (stage ≡ Defaulted)) → stage ≢ Defaulted → (stage ≡ Methods) ⊎ (stage ≡ Definitions)
first_default stage (inl methods) new = inl methods
first_default stage (inr (inl definitions)) new = inr definitions
first_default stage (inr (inr repeats)) new = absurd (new repeats)

-- an accepted line keeps it so
module _ (taken : List (List ℕ)) (version : Version) (known next : Known) (line : List ℕ) (tokens : List Token) (cut : AreTokens line tokens)
    (few : HasFewWords version (words_of line tokens)) (are : AreDrafts known) (kept : List (List ℕ)) (read : HasRead version known kept) where
  -- a line more of the open kind, which is then this
  goes_on : (opened : Opened) (stage : Stage) → IsOpen version (read.rest ++ line ∷ []) opened stage
      → next ≡ record known { block = Some (record { opened = opened; stage = stage }) } → HasRead version next (kept ++ line ∷ [])
  goes_on opened stage is same = subst (λ (k : Known). HasRead version k (kept ++ line ∷ [])) (sym same) (record {
    header = read.header;
    blocks = read.blocks;
    rest = read.rest ++ line ∷ [];
    parts = longer kept line read.header read.blocks read.rest read.parts;
    begins = read.begins;
    closed = read.closed;
    unfinished = is;
  })

  form_read : (form : SaidForm) → RightLine version (stage_of known) (open_method_names known) (words_of line tokens) form
      → HasNone (FormHas taken version known line tokens form) → FormAdds version known line tokens form next → HasRead version next (kept ++ line ∷ [])
  form_read (kind_said name) right clean adds =
      let whole = whole_of (filled (opened_in known.block)) (λ first second lacks. clean (MissingPair first second) 0 (lacks, refl)) in
      let blocks = blocks_of version known kept are read whole in
      subst (λ (k : Known). HasRead version k (kept ++ line ∷ [])) (sym adds) (record {
        header = blocks.header;
        blocks = blocks.blocks;
        rest = line ∷ [];
        parts = ap (λ (l : List (List ℕ)). l ++ line ∷ []) blocks.parts;
        begins = blocks.begins;
        closed = blocks.each;
        unfinished = begins_open version line name (record { tokens = tokens; cut = cut; written = right });
      })
  form_read (method_said name arguments result) right clean adds =
      let is = methods_open version read.rest known.block right.stands read.unfinished in
      let method : Method = record { name = name; variables = arguments ++ result ∷ [] } in
      goes_on (with_method_in (opened_in known.block) method) Methods
      (method_open version read.rest (opened_in known.block) Methods line is method is.ahead.0 is.ahead.1 is.ahead.2 (record {
        arguments = arguments;
        result = result;
        variables = refl;
        tokens = tokens;
        cut = cut;
        written = record {
          stands = refl;
          named = right.named;
          each_argument = right.each_argument;
          gives = right.gives;
          written = right.written;
        };
      })) adds
  form_read (commute_said first second formula) right clean (m, n, f, says, same) =
      let opened : Opened = opened_in known.block in
      let draft = open_draft known.block right.stands are.draft in
      let defined = open_defined known.block right.stands are.draft in
      goes_on (with_pair_in opened m n f) Pairs
      (pair_open version read.rest opened (stage_of known) line m n f draft
      (may_set version (stage_of known) opened line tokens first second formula m n f cut draft defined right says clean)
      (some_open version read.rest known.block right.stands read.unfinished)
      (record {
        first = first;
        second = second;
        read = formula;
        tokens = tokens;
        cut = cut;
        written = record {
          stands = pairs_outside;
          named_first = right.named_first;
          named_second = right.named_second;
          order = right.order;
          behind = right.behind;
          marks = right.marks;
          written = right.written;
          marked = right.marked;
          says = right.says;
        };
        few = few;
        says = says;
      })) same
  form_read (define_said owner name formula) right clean (m, f, says, same) =
      let opened : Opened = opened_in known.block in
      let stands = may_stand (stage_of known) right.stands in
      let draft = open_draft known.block stands are.draft in
      let is = some_open version read.rest known.block stands read.unfinished in
      let ahead = undefaulted (stage_of known) is.definition_lines is.default_lines is.pair_lines right.stands is.ahead in
      let said : SaidDefinition = record { method = m; definition = record { name = name; formula = f } } in
      let formula_is = may_define version (stage_of known) opened line tokens owner name formula m f cut draft right says clean in
      goes_on (with_definition opened m said.definition) Definitions
      (definition_open version read.rest opened (stage_of known) line is said ahead.0 ahead.1 (record {
        owner = owner;
        read = formula;
        tokens = tokens;
        cut = cut;
        written = record {
          second_version = right.second_version;
          stands = inr refl;
          named = right.named;
          is_variable = right.is_variable;
          behind = right.behind;
          marks = right.marks;
          written = right.written;
          marked = right.marked;
          says = right.says;
        };
        few = few;
        says = says;
        nodes = formula_is.pair.few;
        levels = formula_is.pair.shallow;
      }) (
        λ variable. clean Duplicate _ (m, m, (says.number, refl), (inl variable, refl)),
        λ defined. clean Duplicate _ (m, m, (says.number, refl), (inr defined, refl)),
      )) same
  form_read (default_said value) right clean same =
      let opened : Opened = opened_in known.block in
      let stands = first_default (stage_of known) right.stands (λ repeats. clean Duplicate _ (repeats, refl)) in
      let is = some_open version read.rest known.block (may_stand (stage_of known) stands) read.unfinished in
      let ahead = undefaulted (stage_of known) is.definition_lines is.default_lines is.pair_lines stands is.ahead in
      goes_on (with_default opened value) Defaulted
      (default_open version read.rest opened (stage_of known) line is value ahead.0 ahead.1 (record {
        tokens = tokens;
        cut = cut;
        written = record { second_version = right.second_version; stands = inr (inl refl); written = right.written };
      })) same

-- before the header nothing is read
abbrev SoFar : Known → List (List ℕ) → Type 0
SoFar known kept = ((known ≡ nothing) × (kept ≡ [])) ⊎ ((version : Version) × HasRead version known kept × (known.version ≡ Some version))

next_version : (version : Version) (known next : Known) (line : List ℕ) (tokens : List Token) (form : SaidForm) → known.version ≡ Some version
    → FormAdds version known line tokens form next → next.version ≡ Some version
next_version version known next line tokens (kind_said name) begun adds = ap (λ (k : Known). k.version) adds ∙ begun
next_version version known next line tokens (method_said name arguments result) begun adds = ap (λ (k : Known). k.version) adds ∙ begun
next_version version known next line tokens (commute_said first second read) begun (m, n, f, says, same) = ap (λ (k : Known). k.version) same ∙ begun
next_version version known next line tokens (define_said owner name read) begun (m, f, says, same) = ap (λ (k : Known). k.version) same ∙ begun
next_version version known next line tokens (default_said value) begun same = ap (λ (k : Known). k.version) same ∙ begun

accepted_read : (taken : List (List ℕ)) (known next : Known) (line : List ℕ) (kept : List (List ℕ)) → AreDrafts known → SoFar known kept
    → AcceptsSpecLine taken known line next → SoFar next (kept ++ line ∷ [])
accepted_read taken known next line kept are so_far accepts = by accepts.adds so_far where
  by : Adds known line accepts.tokens next → SoFar known kept → SoFar next (kept ++ line ∷ [])
  by (adds_header version fresh header same) (inl (none, empty)) =
      inr (
        version,
        record {
          header = line;
          blocks = [];
          rest = [];
          parts = ap (λ (l : List (List ℕ)). l ++ line ∷ []) empty;
          begins = record { tokens = accepts.tokens; cut = accepts.cut; written = header };
          closed = rw (same, none) tt;
          unfinished = rw (same, none) refl;
        },
        ap (λ (k : Known). k.version) same,
      )
  by (adds_header version fresh header same) (inr (was, read, begun)) = absurd (none-some was (sym fresh ∙ begun))
  by (adds_form version begun form right adds) (inl (none, empty)) =
      let begins : known.version ≡ None = ap (λ (k : Known). k.version) none in absurd (none-some version (sym begins ∙ begun))
  by (adds_form version begun form right adds) (inr (was, read, also)) =
      let same : was ≡ version = same_Some was version (sym also ∙ begun) in
      inr (
        version,
        form_read taken version known next line accepts.tokens accepts.cut
            (short_words version (words_of line accepts.tokens)
            (λ many. accepts.clean (Limit Tokens MOST_TOKENS) (place_at line accepts.tokens 3) (line_has (version, begun, many, refl, refl)))) are kept
            (subst (λ (v : Version). HasRead v known kept) same read) form right
            (λ cause place has. accepts.clean cause place (form_has version begun form right has)) adds,
        next_version version known next line accepts.tokens form begun adds,
      )

reads_blocks : (taken : List (List ℕ)) (known last : Known) (lines kept : List (List ℕ)) → AreDrafts known → SoFar known kept → ReadsLines taken known lines last
    → (more : List (List ℕ)) × WithoutSkipped lines more × SoFar last (kept ++ more) × AreDrafts last
reads_blocks taken known last lines kept are so_far no_more = ([], none_left, subst (SoFar known) (sym (append-nil kept)) so_far, are)
reads_blocks taken known last lines kept are so_far (skips {lines = rest} skipped more) =
    let found = reads_blocks taken known last rest kept are so_far more in
    (found.0, passed_over skipped found.1, found.2, found.3)
reads_blocks taken known last lines kept are so_far (takes {mid = mid} {line = line} {lines = rest} some accepts more) =
    let found = reads_blocks taken mid last rest (kept ++ line ∷ []) (accepted_drafts taken known mid line are accepts)
    (accepted_read taken known mid line kept are so_far accepts) more in
    (line ∷ found.0, kept_first some found.1, subst (SoFar last) (append_assoc kept (line ∷ []) found.0) found.2, found.3)

pub said_blocks : (text : List ℕ) (taken : List (List ℕ)) (kinds : List SpecifiedKind) → SpecSays text taken kinds → IsOfBlocks text kinds
said_blocks text taken kinds says = by (reads_blocks taken nothing says.known says.lines [] none_drafted (inl (refl, refl)) says.reads) where
  whole : IsWhole (filled (opened_in says.known.block))
  whole = whole_of (filled (opened_in says.known.block)) (λ first second lacks. says.whole (MissingPair first second) 0 (lacks, refl))

  ended : (kept : List (List ℕ)) → WithoutSkipped says.lines kept → SoFar says.known kept → AreDrafts says.known → IsOfBlocks text kinds
  ended kept without (inl (none, empty)) are = absurd (says.whole Header 0 (ap (λ (k : Known). k.version) none, refl))
  ended kept without (inr (version, read, begun)) are =
      let all = blocks_of version says.known kept are read whole in
      record {
        lines = says.lines;
        cut = says.cut;
        version = version;
        header = all.header;
        blocks = all.blocks;
        parts = subst (WithoutSkipped says.lines) all.parts without;
        begins = all.begins;
        each = subst (AllZip (IsBlock version) all.blocks) (sym says.said) all.each;
      }

  by : (more : List (List ℕ)) × WithoutSkipped says.lines more × SoFar says.known ([] ++ more) × AreDrafts says.known → IsOfBlocks text kinds
  by found = ended found.0 found.1 found.2 found.3
