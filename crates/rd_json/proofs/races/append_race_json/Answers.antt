use Rattle.std.proofs.Common.{◌≡◌, ℕ, List, ◌++◌, ◌∙◌, ap, append_assoc, codes}
use Rattle.std.proofs.lemmas.Result.{on_ok_weaker}
use Rattle.rd_report.specs.Races.{told_by}
use Rattle.rd_report.specs.Texts.{naming_in}
use Rattle.rd_json.specs.Json.{race_object, race_words, string_json, told_json}
use Rattle.rd_json.proofs.races.append_race_json.Goals as goal

seven : (text p1 s1 p2 s2 p3 s3 p4 : List ℕ)
    → (((((((text ++ p1) ++ s1) ++ p2) ++ s2) ++ p3) ++ s3) ++ p4) ≡ text ++ (p1 ++ s1 ++ p2 ++ s2 ++ p3 ++ s3 ++ p4)
seven text p1 s1 p2 s2 p3 s3 p4 = simp append_assoc

pub returns : goal.returns
unfolding race_object
returns c =
    let kinds = c.args.spec.now in
    let naming = naming_in c.args.names.now in
    let race = c.args.race.now in
    let first = c.in_ok-append.ensures.ok in
    let earlier = c.in_ok-append_told.ensures ∙ (λ i. first i ++ told_json kinds naming (told_by (c.deref.ensures i))) in
    let second = c.in_ok-append-2.ensures.ok ∙ ap (λ t. t ++ codes ",\"formula\":") earlier in
    let formula = c.in_ok-append_string.ensures ∙ (λ i. second i ++ string_json (c.formula_of-words.ensures.words i)) in
    let third = c.in_ok-append-3.ensures.ok ∙ ap (λ t. t ++ codes ",\"later\":") formula in
    let later = c.in_ok-append_told-2.ensures ∙ (λ i. third i ++ told_json kinds naming (told_by (c.deref-2.ensures i))) in
    on_ok_weaker c.append-4.result (λ is. is ∙ ap (λ t. t ++ codes "}\n") later
    ∙ seven c.args.text.now (codes "{\"earlier\":") (told_json kinds naming (told_by race.earlier.value)) (codes ",\"formula\":")
    (string_json (race_words kinds race)) (codes ",\"later\":") (told_json kinds naming (told_by race.later.value)) (codes "}\n")) c.append-4.ensures.ok
