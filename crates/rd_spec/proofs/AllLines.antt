-- Lines, each of which is accepted.
use Rattle.std.proofs.Common.{◌≡◌, ℕ, List, [], ◌∷◌, ◌++◌, sym, subst}
use Rattle.rd_reading.specs.Adding.{AcceptsSpecLine}
use Rattle.rd_spec.specs.Blocks.{WithoutSkipped, kept_first, none_left, passed_over}
use Rattle.rd_reading.specs.Texts.{ReadsLines, no_more, skips, takes}
use Rattle.rd_reading.specs.declared.known.Known.{Known}
use Rattle.rd_reading.proofs.DraftLemmas.{AreDrafts, accepted_drafts}

abbrev pub AcceptsAll : List (List ℕ) → Known → List (List ℕ) → Known → Type 0
AcceptsAll taken known_so [] last = known_so ≡ last
AcceptsAll taken known_so (line ∷ lines) last = (mid : Known) × AcceptsSpecLine taken known_so line mid × AcceptsAll taken mid lines last

pub accepts_on : (taken : List (List ℕ)) (first mid last : Known) (before lines : List (List ℕ)) → AcceptsAll taken first before mid → AcceptsAll taken mid lines last
    → AcceptsAll taken first (before ++ lines) last
accepts_on taken first mid last [] lines same more = subst (λ (k : Known). AcceptsAll taken k lines last) (sym same) more
accepts_on taken first mid last (line ∷ before) lines (next, accepts, rest) more = (next, accepts, accepts_on taken next mid last before lines rest more)

-- with lines between them that say nothing
pub reads_kept : (taken : List (List ℕ)) (first last : Known) (lines kept : List (List ℕ)) → WithoutSkipped lines kept → AcceptsAll taken first kept last
    → ReadsLines taken first lines last
reads_kept taken first last lines kept none_left same = subst (λ (k : Known). ReadsLines taken first [] k) same no_more
reads_kept taken first last lines kept (passed_over {lines = rest} {kept = left} skipped more) accepts = skips skipped (reads_kept taken first last rest left more accepts)
reads_kept taken first last lines kept (kept_first {lines = rest} {kept = left} some more) (mid, accepts, others) =
    takes some accepts (reads_kept taken mid last rest left more others)

-- they keep the open kind one that is being made
pub accepts_drafts : (taken : List (List ℕ)) (first last : Known) (lines : List (List ℕ)) → AreDrafts first → AcceptsAll taken first lines last → AreDrafts last
accepts_drafts taken first last [] are same = subst AreDrafts same are
accepts_drafts taken first last (line ∷ lines) are (mid, accepts, rest) = accepts_drafts taken mid last lines (accepted_drafts taken first mid line are accepts) rest
