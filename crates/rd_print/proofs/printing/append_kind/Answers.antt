use Rattle.std.proofs.Common.{◌≡◌, ◌++◌}
use Rattle.rd_print.specs.Printed.{kind_words, printed_line}
use Rattle.rd_print.specs.Writing.{methods_text, pairs_text}
use Rattle.rd_print.proofs.JoinLemmas.{ok_then}
use Rattle.rd_print.proofs.LineLemmas.{kind_by}
use Rattle.rd_print.proofs.printing.append_kind.Goals as goal

pub returns : goal.returns
returns c =
    ok_then c.append_pairs.result _ _
    (λ here.
    let is : c.append_pairs.new.text ≡ ((c.args.text.now ++ printed_line (kind_words c.args.kind.now)) ++ methods_text c.args.kind.now.methods) ++ pairs_text c.args.kind.now =
    cc (here, c.in_ok-append_head.ensures, c.in_ok-append_methods.ensures, c.methods.ensures.value) in
    kind_by c.args.text.now c.append_pairs.new.text c.args.kind.now is)
    c.append_pairs.ensures
