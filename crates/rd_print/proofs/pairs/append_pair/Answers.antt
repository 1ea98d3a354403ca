use Rattle.std.proofs.Common.{◌≡◌, ◌++◌, ◌∙◌, codes}
use Rattle.rd_print.specs.Canonical.{canonical_words}
use Rattle.rd_ecl.specs.Formulas.{tree_of}
use Rattle.rd_print.specs.Text.{words_text}
use Rattle.rd_print.proofs.JoinLemmas.{ok_then}
use Rattle.rd_print.proofs.PairLemmas.{pair_by}
use Rattle.rd_print.proofs.pairs.append_pair.Goals as goal

pub returns : goal.returns
returns c =
    let left = c.method_at-left.result.now in
    let right = c.method_at-right.result.now in
    let formula = tree_of c.formula-formula.result.now in
    ok_then c.append_text.result _ _
    (λ here.
    let is : c.append_text.new.text
    ≡ (((c.args.text.now ++ left.name) ++ codes " ") ++ right.name) ++ codes " when " ++ words_text (canonical_words left.variables right.variables formula) =
    cc (here, c.in_ok-append.ensures.ok, c.in_ok-push.ensures.ok, c.in_ok-append-2.ensures.ok, c.in_ok-append-3.ensures.ok, c.items.ensures, c.items-2.ensures, c.items-3.ensures.value, c.items-4.ensures.value, c.items-5.ensures, c.in_ok-found.ensures.words) in
    is ∙ pair_by c.args.kind.now c.args.first c.args.second left right formula c.args.text.now c.method_at-left.ensures c.method_at-right.ensures c.formula-formula.ensures.value)
    c.append_text.ensures.ok
