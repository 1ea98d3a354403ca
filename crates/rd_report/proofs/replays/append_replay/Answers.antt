use Rattle.std.proofs.Common.{◌≡◌, ◌++◌, ◌∙◌, ap, codes, append_assoc, ℕ, List}
use Rattle.std.proofs.lemmas.Result.{on_ok_weaker}
use Rattle.rd_report.specs.Texts.{replay_words}
use Rattle.rd_report.proofs.PlainLemmas.{line_of_words}
use Rattle.rd_report.proofs.replays.append_replay.Goals as goal

regroup : (text first words last : List ℕ) → ((text ++ first) ++ words) ++ last ≡ text ++ (first ++ words ++ last)
regroup text first words last = simp append_assoc

pub returns : goal.returns
returns c =
    on_ok_weaker c.append-2.result
    (λ here.
    let is : c.append-2.new.self ≡ ((c.args.text.now ++ codes "replay ") ++ replay_words c.args.end.now) ++ codes "\n" =
    cc (here, c.in_ok-append.ensures.ok, c.in_ok-append_replay_words.ensures.text) in
    is ∙ regroup c.args.text.now (codes "replay ") (replay_words c.args.end.now) (codes "\n") ∙ ap (λ t. c.args.text.now ++ t) (line_of_words c.args.end.now))
    c.append-2.ensures.ok
