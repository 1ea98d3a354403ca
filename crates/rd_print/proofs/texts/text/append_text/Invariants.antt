use Rattle.std.proofs.Common.{◌≡◌, ◌++◌, drop}
use Rattle.rd_print.specs.Text.{words_text}
use Rattle.rd_print.proofs.TextJoinLemmas.{text_behind}
use Rattle.rd_print.proofs.texts.text.append_text.Given as goal

abbrev pub invariant-loop-word : goal.invariant-loop-word
invariant-loop-word l = l.initial.text ++ words_text l.words ≡ l.text ++ text_behind l.before (drop l.word-index l.words)
