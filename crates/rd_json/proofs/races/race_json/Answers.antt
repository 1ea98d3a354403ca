use Rattle.std.proofs.Common.{◌++◌, ◌∙◌, ap, codes, subst}
use Rattle.serde_json.specs.View.{view}
use Rattle.serde_json.specs.Written.{compact_text}
use Rattle.rd_report.specs.Races.{told_by}
use Rattle.rd_report.specs.Texts.{naming_in}
use Rattle.rd_json.specs.Values.{IsPlainCall, race_value, told_value}
use Rattle.rd_json.proofs.ObjectLemmas.{object_text}
use Rattle.rd_json.proofs.races.race_json.Goals as goal

pub returns : goal.returns
returns c =
    let kinds = c.args.spec.now in
    let naming = naming_in c.args.names.now in
    let race = c.args.race.now in
    let earlier = c.in_ok-earlier.ensures.value ∙ ap (λ w. told_value kinds naming (told_by w)) c.deref.ensures in
    let later = c.in_ok-later.ensures.value ∙ ap (λ w. told_value kinds naming (told_by w)) c.deref-2.ensures in
    let object = c.in_ok-object.ensures ∙ (λ i. race_value (earlier i) (c.formula_of-formula.ensures.words i) (later i)) in
    c.in_ok-append_object.ensures
    ∙ (ap (λ t. t ++ (compact_text (view c.in_ok-object.object) ++ codes "\n")) c.new-text.ensures
    ∙ (ap (λ d. compact_text d ++ codes "\n") object
    ∙ object_text kinds naming race (subst (λ w. IsPlainCall kinds naming (told_by w)) c.deref.ensures c.in_ok-earlier.ensures.plain)
    c.formula_of-formula.ensures.plain (subst (λ w. IsPlainCall kinds naming (told_by w)) c.deref-2.ensures c.in_ok-later.ensures.plain)))
