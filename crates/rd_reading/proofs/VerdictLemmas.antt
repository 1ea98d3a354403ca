-- Each text says kinds, or is refused.
use Rattle.std.proofs.Common.{◌≡◌, ℕ, ◌≤◌, List, [], ◌∷◌, ◌++◌, ◌+◌, length, nat_eq, refl, ap, arith, ◌⊎◌, inl, inr, Option, Some, None, sym, ◌∙◌}
use Rattle.std.specs.List.{AllPass, list_all, starts_with}
use Rattle.std.proofs.lemmas.Bool.{cases_lt}
use Rattle.std.proofs.lemmas.List.Sums.{AllPass-from_list_all, list_all-from_AllPass}
use Rattle.rd_base.specs.Bytes.{is_space}
use Rattle.rd_base.specs.declared.limits.LimitName.TheVariants.{SpecText}
use Rattle.rd_base.specs.declared.limits.TheConstants.{MOST_SPEC_BYTES}
use Rattle.rd_ecl.specs.Specified.{IsWhole, SpecifiedKind}
use Rattle.rd_reading.specs.Causes.{EndHas}
use Rattle.rd_pairs.specs.Causes.{HasNone, rank}
use Rattle.rd_reading.specs.Known.{kinds_so_far, nothing, opened_in}
use Rattle.rd_lines.specs.declared.forms.Version.{Version}
use Rattle.rd_open_kind.specs.Opened.{filled}
use Rattle.std.proofs.lemmas.Option.{none-some}
use Rattle.rd_reading.specs.Texts.{AreLines, BeginsComment, IsSkipped, IsSpecRefused, ReadsLines, SpecSays, no_more, skips, takes}
use Rattle.rd_reading.specs.declared.known.Known.{Known}
use Rattle.rd_reading.specs.declared.parsing.SpecRefused.{SpecRefused}
use Rattle.rd_pairs.specs.declared.spec_causes.SpecCause.{SpecCause}
use Rattle.rd_pairs.specs.declared.spec_causes.SpecCause.TheVariants.{Header, Limit, MissingPair}
use Rattle.rd_reading.proofs.CauseLemmas.{IsStopped, judged_line}
use Rattle.rd_reading.proofs.JudgedLemmas.{HasFirst}
use Rattle.rd_reading.proofs.CuttingLemmas.{comment, some_lines}
use Rattle.rd_reading.proofs.DraftLemmas.{AreDrafts, accepted_drafts, none_drafted}
use Rattle.rd_reading.proofs.FormLemmas.{decided}
use Rattle.rd_reading.proofs.MissingLemmas.{whole_lacks}
use Rattle.rd_reading.proofs.SearchLemmas.{lacks_or_whole}

-- a line says nothing, or something
skipped_or : (line : List ℕ) → IsSkipped line ⊎ ¬ (IsSkipped line)
skipped_or line = elim (decided (starts_with nat_eq line (35 ∷ [])) (comment line)) [
  | inl is ↦ inl (inl is)
  | inr none ↦ elim (decided (list_all is_space line) (AllPass-from_list_all is_space line, list_all-from_AllPass is_space line)) [
    | inl blank ↦ inl (inr blank)
    | inr some ↦ inr (by none some)
  ]
] where
  by : ¬ (BeginsComment line) → ¬ (AllPass is_space line) → ¬ (IsSkipped line)
  by none some (inl is) = none is
  by none some (inr blank) = some blank

-- all lines are read, or one of them is refused
record IsReadTo (taken : List (List ℕ)) (known : Known) (lines : List (List ℕ)) : Type 0 where
  last : Known
  reads : ReadsLines taken known lines last

record IsStoppedAt (taken : List (List ℕ)) (known : Known) (lines : List (List ℕ)) : Type 0 where
  before : List (List ℕ)
  line : List ℕ
  behind : List (List ℕ)
  parts : lines ≡ before ++ line ∷ behind
  mid : Known
  reads : ReadsLines taken known before mid
  kept : ¬ (IsSkipped line)
  stopped : IsStopped taken mid line

judged_lines : (taken : List (List ℕ)) (known : Known) (lines : List (List ℕ)) → AreDrafts known → IsReadTo taken known lines ⊎ IsStoppedAt taken known lines
judged_lines taken known [] are = inl (record { last = known; reads = no_more })
judged_lines taken known (line ∷ lines) are = elim (skipped_or line) [
  | inl skipped ↦ elim (judged_lines taken known lines are) [
    | inl read ↦ inl (record { last = read.last; reads = skips skipped read.reads })
    | inr wrong ↦ inr (record {
      before = line ∷ wrong.before;
      line = wrong.line;
      behind = wrong.behind;
      parts = ap (λ (l : List (List ℕ)). line ∷ l) wrong.parts;
      mid = wrong.mid;
      reads = skips skipped wrong.reads;
      kept = wrong.kept;
      stopped = wrong.stopped;
    })
  ]
  | inr kept ↦ elim (judged_line taken known line are) [
    | inl accepted ↦ elim (judged_lines taken accepted.0 lines (accepted_drafts taken known accepted.0 line are accepted.1)) [
      | inl read ↦ inl (record { last = read.last; reads = takes kept accepted.1 read.reads })
      | inr wrong ↦ inr (record {
        before = line ∷ wrong.before;
        line = wrong.line;
        behind = wrong.behind;
        parts = ap (λ (l : List (List ℕ)). line ∷ l) wrong.parts;
        mid = wrong.mid;
        reads = takes kept accepted.1 wrong.reads;
        kept = wrong.kept;
        stopped = wrong.stopped;
      })
    ]
    | inr stopped ↦ inr (record {
      before = [];
      line = line;
      behind = lines;
      parts = refl;
      mid = known;
      reads = no_more;
      kept = kept;
      stopped = stopped;
    })
  ]
]

-- ---- the end

least_end : (known : Known) (cause : SpecCause) (place : ℕ) → EndHas known cause place → 0 ≤ rank cause
least_end known cause place has = omega arith

module _ (known : Known) (version : Version) (begun : known.version ≡ Some version) where
  least_missing : (cause : SpecCause) (place : ℕ) → EndHas known cause place → 8 ≤ rank cause
  least_missing Header place has = absurd (none-some version (sym has.0 ∙ begun))
  least_missing (MissingPair first second) place has = omega arith
  least_missing cause place has = absurd has

  pub no_end : IsWhole (filled (opened_in known.block)) → HasNone (EndHas known)
  no_end whole Header place has = none-some version (sym has.0 ∙ begun)
  no_end whole (MissingPair first second) place has = whole_lacks (filled (opened_in known.block)) first second whole has.0
  no_end whole cause place has = has

judged_end : (known : Known) → HasNone (EndHas known) ⊎ HasFirst (EndHas known)
judged_end known = by known.version refl where
  by : (o : Option Version) → known.version ≡ o → HasNone (EndHas known) ⊎ HasFirst (EndHas known)
  by None begins = inr (Header, 0, record { has = (begins, refl); first = least_end known })
  by (Some version) begun = elim (lacks_or_whole (filled (opened_in known.block))) [
    | inl lacks ↦ inr (MissingPair lacks.0 lacks.1, 0, record { has = (lacks.2, refl); first = least_missing known version begun })
    | inr whole ↦ inl (no_end known version begun whole)
  ]

-- ---- a text

-- the text says kinds, or is refused
abbrev pub HasVerdict : List ℕ → List (List ℕ) → Type 0
HasVerdict text taken = ((kinds : List SpecifiedKind) × SpecSays text taken kinds) ⊎ ((refused : SpecRefused) × IsSpecRefused text taken refused)

module _ (text : List ℕ) (taken lines : List (List ℕ)) (short : length text ≤ MOST_SPEC_BYTES) (cut : AreLines text lines) where
  at_end : IsReadTo taken nothing lines → HasVerdict text taken
  at_end read = elim (judged_end read.last) [
    | inl none ↦ inl (
      kinds_so_far read.last,
      record {
        short = short;
        lines = lines;
        cut = cut;
        known = read.last;
        reads = read.reads;
        whole = none;
        said = refl;
      },
    )
    | inr cause ↦ inr (
      record { line = length lines + 1; place = cause.1; cause = cause.0 },
      inr (record {
        short = short;
        lines = lines;
        cut = cut;
        first = inr (record { number = refl; known = read.last; reads = read.reads; first = cause.2 });
      }),
    )
  ]

  at_line : IsStoppedAt taken nothing lines → HasVerdict text taken
  at_line wrong =
      inr (
        record { line = length wrong.before + 1; place = wrong.stopped.place; cause = wrong.stopped.cause },
        inr (record {
          short = short;
          lines = lines;
          cut = cut;
          first = inl (record {
            before = wrong.before;
            line = wrong.line;
            behind = wrong.behind;
            parts = wrong.parts;
            number = refl;
            known = wrong.mid;
            reads = wrong.reads;
            kept = wrong.kept;
            tokens = wrong.stopped.tokens;
            cut = wrong.stopped.cut;
            first = wrong.stopped.first;
          });
        }),
      )

  judged_short : HasVerdict text taken
  judged_short = elim (judged_lines taken nothing lines none_drafted) [
    | inl read ↦ at_end read
    | inr wrong ↦ at_line wrong
  ]

pub judged_text : (text : List ℕ) (taken : List (List ℕ)) → HasVerdict text taken
judged_text text taken = elim (cases_lt MOST_SPEC_BYTES (length text)) [
  | inl long ↦
      inr (record { line = 0; place = 0; cause = Limit SpecText MOST_SPEC_BYTES }, inl (record { long = long; number = refl; place = refl; cause = refl }))
  | inr short ↦ let lines = some_lines text in judged_short text taken lines.0 short lines.1
]
