-- All lines of a kind's pairs are read again.
use Rattle.std.proofs.Common.{◌≡◌, ◌≢◌, ℕ, zero, suc, ◌+◌, ◌-◌, ◌*◌, ◌<◌, ◌≤◌, Bool, true, false, List, ◌++◌, length, map, Option, Some, None, refl, sym, ap, subst, arith, inl, inr, ◌∙◌}
use Rattle.std.specs.Prelude.{flat_map, nat_le, slice_index_or, if◌then◌else◌, ◌⊎◌}
use Rattle.std.specs.List.{range_with_len}
use Rattle.std.proofs.lemmas.Bool.{cases_lt, lt-leb}
use Rattle.std.proofs.lemmas.List.{length-set, map-append, get_or-set_other, get_or_past}
use Rattle.rd_ecl.specs.declared.kinds.Method.{Method}
use Rattle.rd_ecl.specs.Formulas.{Tree}
use Rattle.rd_ecl.specs.Specified.{IsPair, SpecifiedKind, formula_at, method_predicates, names_of, slots_at, with_pair}
use Rattle.rd_ecl.proofs.PairLemmas.{at_other, at_set}
use Rattle.rd_lines.specs.declared.forms.Stage.{Stage}
use Rattle.rd_lines.specs.declared.forms.Stage.TheVariants.{Outside, Pairs}
use Rattle.rd_lines.specs.declared.forms.Version.TheVariants.{One}
use Rattle.rd_open_kind.specs.Opened.{Opened, with_pair_in}
use Rattle.rd_pairs.specs.PairCauses.{HasManyPredicates, variables_of_method}
use Rattle.rd_pairs.proofs.NumberLemmas.{AreDifferent}
use Rattle.rd_print.specs.Printed.{commute_words, pairs_of}
use Rattle.rd_print.specs.Text.{words_text}
use Rattle.rd_reading.specs.Texts.{ReadsLines, no_more}
use Rattle.rd_spec.proofs.FewLemmas.{few_parts}
use Rattle.rd_reading.proofs.ParsingLemmas.{reads_on}
use Rattle.rd_spec.proofs.MethodLines.{at}
use Rattle.rd_spec.proofs.PairLines.{IsPrinted, IsReady, pair_read}
use Rattle.rd_base.specs.declared.limits.TheConstants.{MOST_METHODS, MOST_PREDICATES}

-- a pair stands before another, by the first method, then by the second
unfoldable pub IsBefore : ℕ → ℕ → ℕ → ℕ → Type 0
IsBefore m n i j = (m < i) ⊎ ((m ≡ i) × (n < j))

is_before : (m n i j : ℕ) → IsBefore m n i j ⊎ ¬ (IsBefore m n i j)
unfolding IsBefore
is_before m n i j = elim (cases_lt m i) [
  | inl low ↦ inl (inl low)
  | inr high ↦ elim (cases_lt i m) [
    | inl over ↦ inr (λ before. elim before [
      | inl less ↦ omega (arith, over, less)
      | inr same ↦ let equal = same.0 in omega (arith, over, equal)
    ])
    | inr level ↦ elim (cases_lt n j) [
      | inl less ↦ inl (inr (omega (arith, high, level), less))
      | inr more ↦ inr (λ before. elim before [
        | inl less ↦ omega (arith, high, less)
        | inr same ↦ let below = same.1 in omega (arith, more, below)
      ])
    ]
  ]
]

-- the pairs before this one are those of the kind, and no other is set
pub record IsPart (kind part : SpecifiedKind) (i j : ℕ) : Type 0 where
  pub name : part.name ≡ kind.name
  pub methods : part.methods ≡ kind.methods
  pub rows : length part.pairs ≡ MOST_METHODS * length kind.methods
  pub rest : (m n : ℕ) → n < m → m < MOST_METHODS → slice_index_or part.pairs (MOST_METHODS * n + m) None ≡ None
  pub done : (m n : ℕ) → m ≤ n → n < length kind.methods → IsBefore m n i j → formula_at part m n ≡ formula_at kind m n
  pub left : (m n : ℕ) → m ≤ n → n < length kind.methods → ¬ (IsBefore m n i j) → formula_at part m n ≡ None

-- what is asked of the printed kind
pub record IsSource (kind : SpecifiedKind) : Type 0 where
  pub few : length kind.methods ≤ MOST_METHODS
  pub names : AreDifferent (names_of kind.methods)
  pub variables : (n : ℕ) → AreDifferent (variables_of_method kind n)
  pub predicates : (method : ℕ) → length (method_predicates kind method) ≤ MOST_PREDICATES
  pub pairs : (m n : ℕ) → m ≤ n → n < length kind.methods → (f : Tree) × IsPrinted kind m n f

pub unset_at : (b : Bool) (pairs : List (Option Tree)) (k : ℕ) → slice_index_or pairs k None ≡ None → (if b then slice_index_or pairs k None else None) ≡ None
unset_at true pairs k none = none
unset_at false pairs k none = refl

turned_none : (b : Bool) (pairs : List (Option Tree)) (k : ℕ) → b ≡ false → (if b then slice_index_or pairs k None else None) ≡ None
turned_none true pairs k e = absurd (cc)
turned_none false pairs k e = refl

kept_none : (b : Bool) (pairs : List (Option Tree)) (k : ℕ) → length pairs ≤ k → (if b then slice_index_or pairs k None else None) ≡ None
kept_none true pairs k past = get_or_past pairs k None past
kept_none false pairs k past = refl

-- each pair is the kind's, or isn't set
some_of : (kind part : SpecifiedKind) (i j : ℕ) → IsPart kind part i j → (m n : ℕ) → (formula_at part m n ≡ None) ⊎ (formula_at part m n ≡ formula_at kind m n)
some_of kind part i j is m n = elim (cases_lt n m) [
  | inl turned ↦ inl (turned_none (nat_le m n) part.pairs (MOST_METHODS * n + m) (lt-leb m n turned))
  | inr ordered ↦ elim (cases_lt n (length kind.methods)) [
    | inl known ↦ elim (is_before m n i j) [
      | inl before ↦ inr (is.done m n ordered known before)
      | inr behind ↦ inl (is.left m n ordered known behind)
    ]
    | inr past ↦ inl (kept_none (nat_le m n) part.pairs (MOST_METHODS * n + m) (let rows = is.rows in omega (arith, past, rows)))
  ]
]

-- one pair more
apart : (m n i j : ℕ) → m ≤ n → i ≤ j → n < MOST_METHODS → j < MOST_METHODS → ((m ≡ i) → (n ≡ j) → ⊥) → MOST_METHODS * n + m ≢ MOST_METHODS * j + i
apart m n i j ordered also known few other same = other (omega (arith, same, known, few, ordered, also)) (omega (arith, same, known, few, ordered, also))

turned : (m n i j : ℕ) → n < m → m < MOST_METHODS → i ≤ j → MOST_METHODS * n + m ≢ MOST_METHODS * j + i
turned m n i j above low ordered same = omega (arith, same, above, low, ordered)

next_part : (kind part : SpecifiedKind) (i j : ℕ) (f : Tree) → length kind.methods ≤ MOST_METHODS → i ≤ j → j < length kind.methods → formula_at kind i j ≡ Some f
    → IsPart kind part i j → IsPart kind (with_pair part i j f) i (j + 1)
unfolding IsBefore
next_part kind part i j f few ordered known there is = record {
  name = is.name;
  methods = is.methods;
  rows = length-set part.pairs (MOST_METHODS * j + i) (Some f) ∙ is.rows;
  rest = λ m n above low.
      get_or-set_other part.pairs (MOST_METHODS * j + i) (MOST_METHODS * n + m) (Some f) None (turned m n i j above low ordered) ∙ is.rest m n above low;
  done = λ m n up low before. elim before [
    | inl less ↦ at_other part i j m n f (apart m n i j up ordered (omega (arith, low, few)) (omega (arith, known, few)) (λ e h. omega (arith, less, e))) ∙ is.done m n up low (inl less)
    | inr same ↦ elim (cases_lt n j) [
      | inl less ↦ at_other part i j m n f (apart m n i j up ordered (omega (arith, low, few)) (omega (arith, known, few)) (λ e h. omega (arith, less, h))) ∙ is.done m n up low (inr (same.0, less))
      | inr more ↦
          let level : n ≡ j = (let below = same.1 in omega (arith, more, below)) in
          let here : formula_at (with_pair part i j f) i j ≡ formula_at kind i j = at_set part i j f ordered (let rows = is.rows in omega (arith, rows, known, ordered, few)) ∙ sym there in
          subst (λ (x : ℕ). formula_at (with_pair part i j f) x n ≡ formula_at kind x n) (sym same.0)
          (subst (λ (y : ℕ). formula_at (with_pair part i j f) i y ≡ formula_at kind i y) (sym level) here)
    ]
  ];
  left = λ m n up low behind.
      at_other part i j m n f (apart m n i j up ordered (omega (arith, low, few)) (omega (arith, known, few)) (λ e h. behind (inr (e, omega (arith, h)))))
      ∙ is.left m n up low (λ before. elim before [
        | inl less ↦ behind (inl less)
        | inr same ↦ let below = same.1 in behind (inr (same.0, omega (arith, below)))
      ]);
}

few_with : (kind part : SpecifiedKind) (i j : ℕ) (f : Tree) → IsSource kind → i ≤ j → j < length kind.methods → formula_at kind i j ≡ Some f → IsPart kind part i j
    → ¬ (HasManyPredicates part i j f)
few_with kind part i j f source ordered known there is many = elim many [
  | inl first ↦ too_many i first
  | inr second ↦ too_many j second
] where
  too_many : (method : ℕ) → ¬ (MOST_PREDICATES < length (method_predicates (with_pair part i j f) method))
  too_many method over =
      let fewer = few_parts (with_pair part i j f) kind method (some_of kind (with_pair part i j f) i (j + 1) (next_part kind part i j f source.few ordered known there is)) in
      let few = source.predicates method in
      omega (arith, over, fewer, few)

not_before : (i j : ℕ) → ¬ (IsBefore i j i j)
unfolding IsBefore
not_before i j before = elim before [
  | inl less ↦ omega (arith, less)
  | inr same ↦ let less = same.1 in omega (arith, less)
]

ready_for : (kind part : SpecifiedKind) (i j : ℕ) (f : Tree) → IsSource kind → IsPrinted kind i j f → IsPart kind part i j → IsReady part i j f
ready_for kind part i j f source there is = record {
  names = subst (λ (ms : List Method). AreDifferent (names_of ms)) (sym is.methods) source.names;
  variables = λ n. subst (λ (ms : List Method). AreDifferent (variables_of_method (record kind { methods = ms }) n)) (sym is.methods) (source.variables n);
  small = record { inside = pair.inside; few = pair.few; shallow = pair.shallow };
  unset = is.left i j there.ordered there.known (not_before i j);
  room = few_with kind part i j f source there.ordered there.known there.there is;
} where
  pair : IsPair f (slots_at kind.methods i) (slots_at kind.methods j)
  pair = there.pair

-- what is read of lines
pub record RowRead (taken : List (List ℕ)) (closed : List SpecifiedKind) (kind : SpecifiedKind) (part : Opened) (stage : Stage) (lines : List (List ℕ)) (i j : ℕ) : Type 0 where
  pub next : SpecifiedKind
  pub then_stage : Stage
  pub inside : then_stage ≢ Outside
  pub is : IsPart kind next i j
  pub reads : ReadsLines taken (at One closed part stage) lines (at One closed (record part { kind = next }) then_stage)

pairs_inside : Pairs ≢ Outside
pairs_inside e = cc

-- the lines of the pairs whose first method has this number
row_read : (taken : List (List ℕ)) (closed : List SpecifiedKind) (kind : SpecifiedKind) → IsSource kind → (i : ℕ) → (count j : ℕ) (part : Opened) (stage : Stage) → stage ≢ Outside
    → i ≤ j → j + count ≡ length kind.methods → IsPart kind part.kind i j
    → RowRead taken closed kind part stage (map words_text (map (commute_words kind) (map (λ second. (i, second)) (range_with_len j count)))) i (length kind.methods)
row_read taken closed kind source i zero j part stage inside up end is = record {
  next = part.kind;
  then_stage = stage;
  inside = inside;
  is = subst (λ (n : ℕ). IsPart kind part.kind i n) end_is is;
  reads = no_more;
} where
  end_is : j ≡ length kind.methods
  end_is = omega (arith, end)
row_read taken closed kind source i (suc count) j part stage inside up end is =
    let known : j < length kind.methods = omega (arith, end) in
    let (f, there) = source.pairs i j up known in
    let more : IsPart kind (with_pair part.kind i j f) i (j + 1) = next_part kind part.kind i j f source.few up known there.there is in
    let rest = row_read taken closed kind source i count (j + 1) (with_pair_in part i j f) Pairs pairs_inside (omega (arith, up)) (omega (arith, end)) more in
    record {
      next = rest.next;
      then_stage = rest.then_stage;
      inside = rest.inside;
      is = rest.is;
      reads = reads_on taken {next = at One closed (record part { kind = rest.next }) rest.then_stage} (pair_read taken closed kind part stage inside i j f there is.methods (ready_for kind part.kind i j f source there is)) rest.reads;
    }

row_done : (kind part : SpecifiedKind) (i : ℕ) → IsPart kind part i (length kind.methods) → IsPart kind part (i + 1) (i + 1)
unfolding IsBefore
row_done kind part i is = record {
  name = is.name;
  methods = is.methods;
  rows = is.rows;
  rest = is.rest;
  done = λ m n up low before. is.done m n up low (elim before [
    | inl less ↦ elim (cases_lt m i) [
      | inl lower ↦ inl lower
      | inr level ↦ inr (omega (arith, less, level), low)
    ]
    | inr same ↦ absurd (let equal = same.0 in let below = same.1 in omega (arith, up, equal, below))
  ]);
  left = λ m n up low behind. is.left m n up low (λ before. elim before [
    | inl less ↦ behind (inl (omega (arith, less)))
    | inr same ↦ let equal = same.0 in behind (inl (omega (arith, equal)))
  ]);
}

-- the lines of all pairs from this first method on
rows_read : (taken : List (List ℕ)) (closed : List SpecifiedKind) (kind : SpecifiedKind) → IsSource kind → (count i : ℕ) (part : Opened) (stage : Stage) → stage ≢ Outside
    → i + count ≡ length kind.methods → IsPart kind part.kind i i
    → RowRead taken closed kind part stage
    (map words_text (map (commute_words kind) (flat_map (λ first. map (λ second. (first, second)) (range_with_len first (length kind.methods - first))) (range_with_len i count))))
    (length kind.methods) (length kind.methods)
rows_read taken closed kind source zero i part stage inside end is = record {
  next = part.kind;
  then_stage = stage;
  inside = inside;
  is = subst (λ (n : ℕ). IsPart kind part.kind n n) end_is is;
  reads = no_more;
} where
  end_is : i ≡ length kind.methods
  end_is = omega (arith, end)
rows_read taken closed kind source (suc count) i part stage inside end is =
    let here = row_read taken closed kind source i (length kind.methods - i) i part stage inside (omega arith) (omega (arith, end)) is in
    let rest = rows_read taken closed kind source count (i + 1) (record part { kind = here.next }) here.then_stage here.inside (omega (arith, end)) (row_done kind here.next i here.is) in
    let row : List (ℕ × ℕ) = map (λ (second : ℕ). (i, second)) (range_with_len i (length kind.methods - i)) in
    let more : List (ℕ × ℕ) = flat_map (λ (first : ℕ). map (λ (second : ℕ). (first, second)) (range_with_len first (length kind.methods - first))) (range_with_len (i + 1) count) in
    let lines : map words_text (map (commute_words kind) (row ++ more)) ≡ map words_text (map (commute_words kind) row) ++ map words_text (map (commute_words kind) more) =
    ap (map words_text) (map-append (commute_words kind) row more) ∙ map-append words_text (map (commute_words kind) row) (map (commute_words kind) more) in
    record {
      next = rest.next;
      then_stage = rest.then_stage;
      inside = rest.inside;
      is = rest.is;
      reads = subst (λ (l : List (List ℕ)). ReadsLines taken (at One closed part stage) l (at One closed (record part { kind = rest.next }) rest.then_stage)) (sym lines) (reads_on taken here.reads rest.reads);
    }

pub pairs_read : (taken : List (List ℕ)) (closed : List SpecifiedKind) (kind : SpecifiedKind) → IsSource kind → (part : Opened) (stage : Stage) → stage ≢ Outside
    → IsPart kind part.kind 0 0
    → RowRead taken closed kind part stage (map words_text (map (commute_words kind) (pairs_of (length kind.methods)))) (length kind.methods) (length kind.methods)
pairs_read taken closed kind source part stage inside is = rows_read taken closed kind source (length kind.methods) 0 part stage inside (omega arith) is
