use Rattle.std.proofs.Common.{◌++◌, ◌∙◌, ap, codes}
use Rattle.serde_json.specs.View.{view}
use Rattle.serde_json.specs.Written.{compact_text}
use Rattle.rd_json.proofs.ObjectLemmas.{end_text}
use Rattle.rd_json.proofs.endings.end_json.Goals as goal

pub returns : goal.returns
returns c =
    c.in_ok-append_object.ensures
    ∙ (ap (λ t. t ++ (compact_text (view c.in_ok-object.object) ++ codes "\n")) c.new-text.ensures
    ∙ (ap (λ d. compact_text d ++ codes "\n") c.in_ok-object.ensures ∙ end_text c.args.races c.args.replay.now c.args.verdict.now c.requires.0 c.requires.1))
