use Rattle.std.proofs.Common.{◌≡◌, ◌++◌, ◌∙◌, codes, flat_map, ap}
use Rattle.rd_print.specs.Printed.{block_text}
use Rattle.rd_print.proofs.JoinLemmas.{element_more}
use Rattle.rd_print.proofs.LineLemmas.{spec_lines_text}
use Rattle.rd_print.proofs.printing.print.Goals as goal

pub loop-kind-init : goal.loop-kind-init
loop-kind-init c =
    let is : codes "rdspec 1\n" ≡ c.append.new.self = cc (c.in_ok-append.ensures.ok, c.new-text.ensures) in
    spec_lines_text c.kinds-kinds.result.now ∙ ap (λ text. text ++ flat_map block_text c.kinds-kinds.result.now) is

pub loop-kind-preserved : goal.loop-kind-preserved
loop-kind-preserved c =
    element_more block_text _ c.loop-kind.text c.append_kind.new.text c.kinds-kinds.result.now c.loop-kind.kind-index
    c.kind-item.result c.loop-kind-test.true c.kind-item.is c.loop-kind.invariant c.in_ok-append_kind.ensures
