use Rattle.std.proofs.Common.{◌≡◌, ◌++◌, codes, decimal, ap, ◌∙◌}
use Rattle.std.proofs.lemmas.List.{append_assoc}
use Rattle.std.proofs.lemmas.Result.{on_ok_weaker}
use Rattle.rd_weave_command.specs.Outcomes.{refused_at}
use Rattle.rd_weave_command.proofs.texts.append_refused.Goals as goal

pub returns : goal.returns
unfolding refused_at
returns c =
    let log = codes "refused log " ++ decimal c.args.log in
    let line = codes " line " ++ decimal c.args.line in
    on_ok_weaker c.append_numbered-2.result
    (λ (is : c.append_numbered-2.new.text ≡ c.append_numbered.new.text ++ line).
    is ∙ ap (λ t. t ++ line) c.in_ok-append_numbered.ensures ∙ append_assoc c.args.text.now log line)
    c.append_numbered-2.ensures
