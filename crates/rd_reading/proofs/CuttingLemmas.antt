-- Cutting a text into lines.
use Rattle.std.proofs.Common.{◌≡◌, ◌≢◌, ℕ, zero, suc, ◌+◌, ◌<◌, Bool, true, false, List, [], ◌∷◌, ◌++◌, length, take, drop, Some, None, refl, sym, ap, subst, arith, inl, inr, ◌∙◌}
use Rattle.std.specs.Prelude.{slice_index, IsTrue, ◌↔◌, ◌==◌, ◌&&◌, nat_eq}
use Rattle.std.specs.List.{starts_with}
use Rattle.std.proofs.lemmas.List.{length-take, get_or-take}
use Rattle.std.proofs.lemmas.Bool.Decides.{Decides-eqb, eqb_tells}
use Rattle.memchr.specs.Find.{IsFirstByte, is_byte}
use Rattle.rd_reading.specs.Texts.{AreLines, BeginsComment, IsLine, no_line, last_line, line_first}

parts : (bytes : List ℕ) (at : ℕ) → at < length bytes → slice_index bytes at ≡ 10 → take at bytes ++ 10 ∷ drop (suc at) bytes ≡ bytes
parts [] at within feed = absurd (omega arith)
parts (b ∷ bytes) zero within feed = ap (λ (n : ℕ). n ∷ bytes) (sym feed)
parts (b ∷ bytes) (suc at) within feed = ap (λ (l : List ℕ). b ∷ l) (parts bytes at (omega arith) feed)

-- the first line feed ends the first line
pub line_cut : (text : List ℕ) (at : ℕ) (lines : List (List ℕ)) → IsFirstByte (is_byte 10) text (Some at) → AreLines (drop (at + 1) text) lines
    → AreLines text (take at text ∷ lines)
line_cut text at lines found more =
    let within : at < length text = found.0.high in
    let feed : slice_index text at ≡ 10 = (Decides-eqb _ 10).0 found.1 in
    let next : at + 1 ≡ suc at = omega arith in
    let clean : IsLine (take at text) = λ k l e.
    let low : k < at = omega (arith, simp length-take at l) in
    found.0.before k (omega arith) low ((Decides-eqb _ 10).1 (sym (get_or-take at text k 0 low) ∙ e)) in
    subst (λ (t : List ℕ). AreLines t (take at text ∷ lines)) (parts text at within feed)
    (line_first clean (subst (λ (n : ℕ). AreLines (drop n text) lines) next more))

no_bytes : (line more : List ℕ) → line ++ 10 ∷ more ≡ [] → ⊥
no_bytes [] more e = absurd (cc)
no_bytes (b ∷ line) more e = absurd (cc)

pub no_lines : (text : List ℕ) (lines : List (List ℕ)) → AreLines text lines → text ≡ [] → lines ≡ []
no_lines text lines no_line e = refl
no_lines text lines (last_line some clean) e = absurd (some e)
no_lines text lines (line_first {line} {more} clean rest) e = absurd (no_bytes line more e)

-- where there is none, the text is its last line
pub line_left : (text : List ℕ) (lines : List (List ℕ)) → text ≢ [] → IsFirstByte (is_byte 10) text None → AreLines [] lines → AreLines text (text ∷ lines)
line_left text lines some none more =
    subst (λ (l : List (List ℕ)). AreLines text (text ∷ l)) (sym (no_lines [] lines more refl))
    (last_line some (λ k l e. none k (omega arith) l ((Decides-eqb _ 10).1 e)))

-- each text has lines
feed_here : (b : ℕ) (bytes : List ℕ) (lines : List (List ℕ)) → b ≡ 10 → AreLines bytes lines → AreLines (b ∷ bytes) ([] ∷ lines)
feed_here b bytes lines feed are =
    subst (λ (n : ℕ). AreLines (n ∷ bytes) ([] ∷ lines)) (sym feed) (line_first (λ k l e. absurd (omega (arith, l))) are)

clean_first : (b : ℕ) (line : List ℕ) → b ≢ 10 → IsLine line → IsLine (b ∷ line)
clean_first b line other clean zero l e = other e
clean_first b line other clean (suc k) l e = clean k (omega (arith, l)) e

longer : (b : ℕ) (bytes : List ℕ) (lines : List (List ℕ)) → b ≢ 10 → AreLines bytes lines → (more : List (List ℕ)) × AreLines (b ∷ bytes) more
longer b bytes lines other no_line = ((b ∷ []) ∷ [], last_line (λ e. cc) (clean_first b [] other (λ k l e. absurd (omega (arith, l)))))
longer b bytes lines other (last_line some clean) = ((b ∷ bytes) ∷ [], last_line (λ e. cc) (clean_first b bytes other clean))
longer b bytes lines other (line_first {line} {more} {lines = rest} clean are) = ((b ∷ line) ∷ rest, line_first (clean_first b line other clean) are)

pub some_lines : (text : List ℕ) → (lines : List (List ℕ)) × AreLines text lines
some_lines [] = ([], no_line)
some_lines (b ∷ bytes) =
    let rest = some_lines bytes in
    elim (eqb_tells b 10) [
      | inl feed ↦ ([] ∷ rest.0, feed_here b bytes rest.0 feed.1 rest.1)
      | inr other ↦ longer b bytes rest.0 other.1 rest.1
    ]

-- a comment
pub comment : (line : List ℕ) → IsTrue (starts_with nat_eq line (35 ∷ [])) ↔ BeginsComment line
comment [] = (λ h. absurd (cc), λ (bytes, e). absurd (cc))
comment (b ∷ line) = (
  λ h. let same : 35 ≡ b = (Decides-eqb 35 b).0 (first_true (35 == b) h) in (line, ap (λ (n : ℕ). n ∷ line) (sym same)),
  λ (bytes, e). let same : b ≡ 35 = cc in rw same refl,
) where
  first_true : (t : Bool) → (t && true) ≡ true → t ≡ true
  first_true true h = refl
  first_true false h = absurd (cc)
