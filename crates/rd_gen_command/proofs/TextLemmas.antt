-- Texts that are written one behind another.
use Rattle.std.proofs.Common.{◌≡◌, ℕ, List, [], ◌++◌, Option, sym, ap, ◌∙◌}
use Rattle.std.proofs.lemmas.List.{append_assoc}
use Rattle.rd_io.proofs.SinkLemmas.{appends_on}
use Rattle.rd_io.specs.Sinks.{Appends}
use Rattle.rd_walk.specs.Analysis.{WritesFront}

-- one line more
pub part_more : (whole part text rest left : List ℕ) → whole ≡ part ++ rest → rest ≡ text ++ left → whole ≡ (part ++ text) ++ left
part_more whole part text rest left is more = is ∙ ap (λ t. part ++ t) more ∙ sym (append_assoc part text left)

-- what was written so far, and a text of which no more than a front is written
pub front_behind : (a b c : Option (List ℕ)) (part text rest whole : List ℕ) → whole ≡ part ++ (text ++ rest) → Appends a b part
    → WritesFront b c [] text → WritesFront a c [] whole
front_behind a b c part text rest whole is so (front, more, parts, writes) = (
  part ++ front,
  more ++ rest,
  is ∙ ap (λ t. part ++ (t ++ rest)) parts ∙ ap (λ t. part ++ t) (append_assoc front more rest) ∙ sym (append_assoc part front (more ++ rest)),
  appends_on a b c part front so writes,
)
