use Rattle.std.proofs.Common.{◌≡◌, [], ◌∙◌, refl, subst, sym}
use Rattle.std.specs.Prelude.{IfOk}
use Rattle.rd_report.specs.Writing.{ArePlain}
use Rattle.rd_json.specs.Json.{alone_json, spec_refused_words}
use Rattle.rd_json.proofs.refusals.spec_refused_json.Goals as goal

pub inside-requires : goal.inside-requires
inside-requires c = ([], spec_refused_words c.args.refused.now, refl, c.items.ensures ∙ c.in_ok-line.ensures)

pub alone_json-requires : goal.alone_json-requires
alone_json-requires c =
    subst ArePlain (sym (c.inside.ensures [] (spec_refused_words c.args.refused.now) refl (c.items.ensures ∙ c.in_ok-line.ensures))) c.plain_refusal.ensures

pub returns : goal.returns
returns c =
    subst (λ words. IfOk c.alone_json.result (λ text. text ≡ alone_json words))
    (c.inside.ensures [] (spec_refused_words c.args.refused.now) refl (c.items.ensures ∙ c.in_ok-line.ensures)) c.alone_json.ensures
