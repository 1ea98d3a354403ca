use Rattle.std.proofs.Common.{◌≡◌, ◌++◌, codes}
use Rattle.rd_print.specs.Printed.{slot_words}
use Rattle.rd_print.specs.Writing.{spaced_text}
use Rattle.rd_print.proofs.JoinLemmas.{ok_then}
use Rattle.rd_print.proofs.LineLemmas.{method_by}
use Rattle.rd_print.proofs.method_lines.append_method.Goals as goal

pub returns : goal.returns
returns c =
    ok_then c.push.result _ _
    (λ here.
    let is : c.push.new.self ≡ (((c.args.text.now ++ codes "method ") ++ c.args.method.now.name) ++ spaced_text (slot_words c.args.method.now.variables)) ++ codes "\n" =
    cc (here, c.in_ok-append.ensures.ok, c.in_ok-append-2.ensures.ok, c.in_ok-append_slots.ensures, c.items.ensures.value, c.items-2.ensures) in
    method_by c.args.text.now c.push.new.self c.args.method.now is)
    c.push.ensures.ok
