use Rattle.std.proofs.Common.{◌++◌, ◌∙◌, ap, codes}
use Rattle.std.proofs.lemmas.Result.{on_ok_weaker}
use Rattle.rd_report.specs.Races.{told_by}
use Rattle.rd_report.specs.Texts.{naming_in}
use Rattle.rd_json.specs.Json.{race_object, told_json}
use Rattle.rd_json.proofs.races.tell_object.Goals as goal

pub returns-clause-text : goal.returns-clause-text
unfolding race_object
returns-clause-text c =
    let kinds = c.args.spec.now in
    let naming = naming_in c.args.names.now in
    let told_earlier = c.items.ensures ∙ (c.in_ok-tell_unknown.ensures ∙ ap (λ w. told_json kinds naming (told_by w)) c.deref.ensures) in
    let told_later = c.items-2.ensures ∙ (c.in_ok-tell.ensures ∙ ap (λ w. told_json kinds naming (told_by w)) c.deref-2.ensures) in
    let first = c.in_ok-append.ensures.ok ∙ ap (λ t. t ++ codes "{\"earlier\":") c.clear.ensures in
    let earlier = c.in_ok-append-2.ensures.ok ∙ (λ i. first i ++ told_earlier i) in
    let second = c.in_ok-append-3.ensures.ok ∙ ap (λ t. t ++ codes ",\"formula\":") earlier in
    let formula = c.in_ok-append-4.ensures.ok ∙ (λ i. second i ++ c.requires.formula i) in
    let third = c.in_ok-append-5.ensures.ok ∙ ap (λ t. t ++ codes ",\"later\":") formula in
    let later = c.in_ok-append-6.ensures.ok ∙ (λ i. third i ++ told_later i) in
    on_ok_weaker c.append-7.result (λ is. is ∙ ap (λ t. t ++ codes "}\n") later) c.append-7.ensures.ok
