-- The texts of objects.
use Rattle.std.proofs.Common.{◌≡◌, ℕ, List, [], ◌∷◌, ◌++◌, codes, decimal, ◌∙◌, append_assoc}
use Rattle.json.specs.Print.{escape_byte}
use Rattle.serde_json.specs.Written.{compact_text}
use Rattle.rd_ecl.specs.Specified.{SpecifiedKind}
use Rattle.rd_report.specs.Races.{Told, clock_text, named_call, told_by}
use Rattle.rd_report.specs.Texts.{Naming}
use Rattle.rd_report.specs.Writing.{ArePlain}
use Rattle.rd_store.specs.declared.Race.{Race}
use Rattle.rd_json.specs.Json.{alone_json, cut_json, end_json, race_object, race_words, string_json, told_json}
use Rattle.rd_json.specs.Values.{IsPlainCall, alone_value, cut_value, end_value, race_value, told_value}
use Rattle.rd_json.proofs.PlainLemmas.{escapes}

seven : (p1 s1 p2 s2 p3 s3 p4 : List ℕ) → p1 ++ (s1 ++ (p2 ++ (s2 ++ (p3 ++ (s3 ++ p4))))) ≡ p1 ++ s1 ++ p2 ++ s2 ++ p3 ++ s3 ++ p4
seven p1 s1 p2 s2 p3 s3 p4 = simp append_assoc

seven_then : (p1 s1 p2 s2 p3 s3 p4 last : List ℕ) → p1 ++ (s1 ++ (p2 ++ (s2 ++ (p3 ++ (s3 ++ p4))))) ++ last ≡ p1 ++ s1 ++ p2 ++ s2 ++ p3 ++ s3 ++ (p4 ++ last)
seven_then p1 s1 p2 s2 p3 s3 p4 last = simp append_assoc

five_then : (p1 s1 p2 s2 p3 last : List ℕ) → p1 ++ (s1 ++ (p2 ++ (s2 ++ p3))) ++ last ≡ p1 ++ s1 ++ p2 ++ s2 ++ (p3 ++ last)
five_then p1 s1 p2 s2 p3 last = simp append_assoc

three_then : (p1 s1 p2 last : List ℕ) → p1 ++ (s1 ++ p2) ++ last ≡ p1 ++ s1 ++ (p2 ++ last)
three_then p1 s1 p2 last = simp append_assoc

-- a string, by its escaped bytes
between_quotes : List ℕ → List ℕ
between_quotes bytes = 34 ∷ (bytes ++ 34 ∷ [])

module _ (kinds : List SpecifiedKind) (naming : Naming) where
  pub told_text : (told : Told) → IsPlainCall kinds naming told → compact_text (told_value kinds naming told) ≡ told_json kinds naming told
  unfolding escape_byte between_quotes told_json
  told_text told (call, clock) =
      (λ i. codes "{\"call\":" ++ (between_quotes (escapes (named_call kinds naming told.call) call i) ++ (codes ",\"clock\":"
      ++ (between_quotes (escapes (clock_text naming.threads told.clock) clock i) ++ (codes ",\"line\":" ++ (decimal told.line ++ codes "}"))))))
      ∙ seven (codes "{\"call\":") (string_json (named_call kinds naming told.call)) (codes ",\"clock\":") (string_json (clock_text naming.threads told.clock))
      (codes ",\"line\":") (decimal told.line) (codes "}")

  pub object_text : (race : Race) → IsPlainCall kinds naming (told_by race.earlier.value) → ArePlain (race_words kinds race)
      → IsPlainCall kinds naming (told_by race.later.value)
      → compact_text (race_value (told_value kinds naming (told_by race.earlier.value)) (race_words kinds race)
      (told_value kinds naming (told_by race.later.value))) ++ codes "\n" ≡ race_object kinds naming race
  unfolding escape_byte between_quotes race_object
  object_text race first plain last =
      let later = told_by race.later.value in
      let earlier = told_by race.earlier.value in
      let formula = race_words kinds race in
      (λ i. codes "{\"earlier\":" ++ (told_text earlier first i ++ (codes ",\"formula\":" ++ (between_quotes (escapes formula plain i)
      ++ (codes ",\"later\":" ++ (told_text later last i ++ codes "}"))))) ++ codes "\n")
      ∙ seven_then (codes "{\"earlier\":") (told_json kinds naming earlier) (codes ",\"formula\":") (string_json formula) (codes ",\"later\":") (told_json kinds naming later) (codes "}") (codes "\n")

pub end_text : (races : ℕ) (replay verdict : List ℕ) → ArePlain replay → ArePlain verdict
    → compact_text (end_value races replay verdict) ++ codes "\n" ≡ end_json races replay verdict
unfolding escape_byte between_quotes end_json
end_text races replay verdict plain clear =
    (λ i. codes "{\"ending\":\"end\",\"races\":" ++ (decimal races ++ (codes ",\"replay\":" ++ (between_quotes (escapes replay plain i)
    ++ (codes ",\"verdict\":" ++ (between_quotes (escapes verdict clear i) ++ codes "}"))))) ++ codes "\n")
    ∙ seven_then (codes "{\"ending\":\"end\",\"races\":") (decimal races) (codes ",\"replay\":") (string_json replay) (codes ",\"verdict\":")
    (string_json verdict) (codes "}") (codes "\n")

pub cut_text : (races : ℕ) (ending : List ℕ) → ArePlain ending → compact_text (cut_value races ending) ++ codes "\n" ≡ cut_json races ending
unfolding escape_byte between_quotes cut_json
cut_text races ending plain =
    (λ i. codes "{\"ending\":" ++ (between_quotes (escapes ending plain i) ++ (codes ",\"races\":" ++ (decimal races ++ codes "}"))) ++ codes "\n")
    ∙ five_then (codes "{\"ending\":") (string_json ending) (codes ",\"races\":") (decimal races) (codes "}") (codes "\n")

pub alone_text : (ending : List ℕ) → ArePlain ending → compact_text (alone_value ending) ++ codes "\n" ≡ alone_json ending
unfolding escape_byte between_quotes alone_json
alone_text ending plain =
    (λ i. codes "{\"ending\":" ++ (between_quotes (escapes ending plain i) ++ codes "}") ++ codes "\n")
    ∙ three_then (codes "{\"ending\":") (string_json ending) (codes "}") (codes "\n")
