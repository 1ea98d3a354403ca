-- The text of lines from a place on.
use Rattle.std.proofs.Common.{◌≡◌, ℕ, ◌+◌, ◌<◌, List, ◌++◌, length, get_or, drop, sym, ap, ◌∙◌}
use Rattle.std.proofs.lemmas.List.{drop_more}
use Rattle.rd_event.specs.Items.{line_text, lines_text}
use Rattle.rd_event.specs.declared.items.Line.{Line}

-- it begins with that of the line at the place
pub text_next : (lines : List Line) (i : ℕ) (line : Line) → i < length lines → line ≡ get_or lines i line
    → lines_text (drop i lines) ≡ line_text line ++ lines_text (drop (i + 1) lines)
text_next lines i line within is = ap lines_text (drop_more lines i line within) ∙ ap (λ l. line_text l ++ lines_text (drop (i + 1) lines)) (sym is)
