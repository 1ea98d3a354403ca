-- Plain bytes in JSON.
use Rattle.std.proofs.Common.{◌≡◌, ◌≢◌, ◌<◌, ◌==◌, ◌||◌, ◌^◌, ℕ, zero, suc, inl, inr, nat_lt, true, false, List, [], ◌∷◌, ◌++◌, codes, decimal, refl, sym, ◌∙◌, ap, append_assoc, arith, flat_map}
use Rattle.std.specs.Prelude.{slice_index}
use Rattle.std.specs.List.{AllByRecursion}
use Rattle.std.specs.Str.{IsUtf8}
use Rattle.std.proofs.lemmas.Str.{IsUtf8-from_ascii}
use Rattle.std.proofs.lemmas.Bool.{cases_Bool, le-ltb, lt-ltb, ne_eqb}
use Rattle.std.proofs.lemmas.List.Concat.{flat_map-cons}
use Rattle.std.proofs.lemmas.Bool.Decides.{nat_tests}
use Rattle.json.specs.Print.{escape_byte}
use Rattle.rd_base.specs.Spelling.{is_plain}
use Rattle.rd_base.proofs.FoundLemmas.{each_by_recursion}
use Rattle.rd_base.specs.declared.limits.LimitName.{LimitName}
use Rattle.rd_base.specs.Names.{IsName}
use Rattle.rd_ecl.specs.Specified.{SpecifiedKind}
use Rattle.rd_ecl.specs.declared.formulas.Reason.{Reason}
use Rattle.rd_ecl.specs.declared.formulas.Reason.TheVariants.{CrossRelation, NotOverCross, OrOfCross}
use Rattle.rd_print.specs.Printed.{pair_text}
use Rattle.rd_reading.specs.RefusedTexts.{reason_text, spec_cause_text}
use Rattle.rd_pairs.specs.declared.spec_causes.SpecCause.{SpecCause}
use Rattle.rd_pairs.specs.declared.spec_causes.SpecCause.TheVariants.{Header, Syntax, UnknownMethod, UnknownVariable, NoVariable, OutsideFragment, Duplicate, MissingPair, KindTaken, Limit}
use Rattle.rd_report.specs.Races.{formula_line, formula_line_words}
use Rattle.rd_report.specs.Writing.{ArePlain}
use Rattle.rd_report.proofs.PlainLemmas.{decimal_plain, limit_cause_plain, name_plain, plain_both, written_plain}
use Rattle.rd_json.specs.Json.{string_byte}

byte_is_ascii : (b : ℕ) → is_plain b ≡ true → b < 128
byte_is_ascii b h = grind (arith, nat_tests)

ascii_at : (bytes : List ℕ) → AllByRecursion (λ b. is_plain b ≡ true) bytes → (i : ℕ) → slice_index bytes i < 128
ascii_at [] each i = omega arith
ascii_at (b ∷ bytes) each zero = byte_is_ascii b each.0
ascii_at (b ∷ bytes) each (suc i) = ascii_at bytes each.1 i

pub plain_is_utf8 : (bytes : List ℕ) → ArePlain bytes → IsUtf8 bytes
plain_is_utf8 bytes plain = IsUtf8-from_ascii bytes (ascii_at bytes (each_by_recursion (λ b. is_plain b ≡ true) bytes plain))

pub fault_plain : ArePlain (codes "fault input")
fault_plain = written_plain (codes "fault input") refl

-- ---- escapes

plain_least : (b : ℕ) → is_plain b ≡ true → 31 < b
plain_least b h = grind (arith, nat_tests)

escape_is : (b : ℕ) → is_plain b ≡ true → escape_byte b ≡ string_byte b
unfolding escape_byte
escape_is b plain = elim (cases_Bool ((b == 34) || (b == 92))) [
  | inl special ↦ (let some : nat_lt 0 b ≡ true = lt-ltb 0 b (omega (arith, least)) in rw special (rw some refl))
  | inr other ↦
      (let e8 = ne_eqb b 8 (λ e. omega (arith, least, e)) in
      let e12 = ne_eqb b 12 (λ e. omega (arith, least, e)) in
      let e10 = ne_eqb b 10 (λ e. omega (arith, least, e)) in
      let e13 = ne_eqb b 13 (λ e. omega (arith, least, e)) in
      let e9 = ne_eqb b 9 (λ e. omega (arith, least, e)) in
      let e32 : nat_lt b 32 ≡ false = le-ltb b 32 (omega (arith, least)) in
      rw (other, e8, e12, e10, e13, e9) (rw e32 refl))
]
  where
    least : 31 < b
    least = plain_least b plain

escapes_are : (bytes : List ℕ) → AllByRecursion (λ b. is_plain b ≡ true) bytes → flat_map escape_byte bytes ≡ flat_map string_byte bytes
escapes_are [] each = refl
escapes_are (b ∷ bytes) each =
    flat_map-cons escape_byte b bytes ∙ (ap (λ l. l ++ flat_map escape_byte bytes) (escape_is b each.0)
    ∙ (ap (λ l. string_byte b ++ l) (escapes_are bytes each.1) ∙ sym (flat_map-cons string_byte b bytes)))

pub escapes : (bytes : List ℕ) → ArePlain bytes → flat_map escape_byte bytes ≡ flat_map string_byte bytes
escapes bytes plain = escapes_are bytes (each_by_recursion (λ b. is_plain b ≡ true) bytes plain)

-- ---- formulas

pub formula_split : (kind : SpecifiedKind) (first second : ℕ) → formula_line kind first second ≡ codes "formula " ++ formula_line_words kind first second ++ codes "\n"
unfolding formula_line formula_line_words
formula_split kind first second = regroup (codes "formula ") kind.name (codes " ") (pair_text kind first second) (codes "\n")
  where
    regroup : (a b c d e : List ℕ) → a ++ b ++ c ++ d ++ e ≡ a ++ (b ++ c ++ d) ++ e
    regroup a b c d e = simp append_assoc

-- ---- refusals

pub pair_plain : (first second : List ℕ) → IsName first → IsName second → ArePlain (spec_cause_text (MissingPair first second))
unfolding spec_cause_text
pair_plain first second here there =
    plain_both (codes "missing-pair " ++ first ++ codes " ") second
    (plain_both (codes "missing-pair " ++ first) (codes " ") (plain_both (codes "missing-pair ") first (written_plain (codes "missing-pair ") refl) (name_plain first here))
    (written_plain (codes " ") refl)) (name_plain second there)

pub spec_limit_plain : (name : LimitName) (number : ℕ) → number < 2 ^ 64 → ArePlain (spec_cause_text (Limit name number))
unfolding spec_cause_text
spec_limit_plain name number small = limit_cause_plain name number small

reason_plain : (reason : Reason) → ArePlain (codes "outside-fragment " ++ reason_text reason)
unfolding reason_text
reason_plain CrossRelation = written_plain (codes "outside-fragment cross-relation") refl
reason_plain NotOverCross = written_plain (codes "outside-fragment not-over-cross") refl
reason_plain OrOfCross = written_plain (codes "outside-fragment or-of-cross") refl

pub other_plain : (cause : SpecCause) → ((first second : List ℕ) → cause ≢ MissingPair first second) → ((name : LimitName) (number : ℕ) → cause ≢ Limit name number)
    → ArePlain (spec_cause_text cause)
unfolding spec_cause_text
other_plain Header no_pair no_limit = written_plain (codes "header") refl
other_plain Syntax no_pair no_limit = written_plain (codes "syntax") refl
other_plain UnknownMethod no_pair no_limit = written_plain (codes "unknown-method") refl
other_plain UnknownVariable no_pair no_limit = written_plain (codes "unknown-variable") refl
other_plain NoVariable no_pair no_limit = written_plain (codes "no-variable") refl
other_plain (OutsideFragment reason) no_pair no_limit = reason_plain reason
other_plain Duplicate no_pair no_limit = written_plain (codes "duplicate") refl
other_plain (MissingPair first second) no_pair no_limit = absurd (no_pair first second refl)
other_plain KindTaken no_pair no_limit = written_plain (codes "kind-taken") refl
other_plain (Limit name number) no_pair no_limit = absurd (no_limit name number refl)

pub refusal_plain : (line place : ℕ) (cause : List ℕ) → line < 2 ^ 64 → place < 2 ^ 64 → ArePlain cause
    → ArePlain (codes "refused spec line " ++ decimal line ++ codes " place " ++ decimal place ++ codes " " ++ cause)
refusal_plain line place cause small few plain =
    plain_both (codes "refused spec line " ++ decimal line ++ codes " place " ++ decimal place ++ codes " ") cause
    (plain_both (codes "refused spec line " ++ decimal line ++ codes " place " ++ decimal place) (codes " ")
    (plain_both (codes "refused spec line " ++ decimal line ++ codes " place ") (decimal place)
    (plain_both (codes "refused spec line " ++ decimal line) (codes " place ")
    (plain_both (codes "refused spec line ") (decimal line) (written_plain (codes "refused spec line ") refl) (decimal_plain line small))
    (written_plain (codes " place ") refl)) (decimal_plain place few)) (written_plain (codes " ") refl)) plain
