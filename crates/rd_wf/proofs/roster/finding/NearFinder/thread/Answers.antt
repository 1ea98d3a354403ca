use Rattle.std.proofs.Common.{◌≡◌, Some, not, sym, ap, ◌∙◌}
use Rattle.std.proofs.Math.Bool.{not-not}
use Rattle.std.specs.Cmp.Lexicographic.{bytes_decides}
use Rattle.rd_wf.proofs.NearLemmas.{thread_near}
use Rattle.rd_wf.proofs.roster.finding.NearFinder.thread.Goals as goal

pub returns-clause-found : goal.returns-clause-found
returns-clause-found c = λ kinds lines stands.
    let name : c.items.result.now ≡ c.args.name.now = (bytes_decides c.items.result.now c.args.name.now).0 (sym (not-not _) ∙ ap not (sym c.ne.ensures ∙ c.if-ne.false)) in
    sym (thread_near kinds c.args.roster.now lines stands _ c.args.name.now c.in_ok-known.joined.now
    (sym c.in_ok-known.ensures.entry ∙ ap (λ known. Some (known, c.in_ok-known.joined.now)) (sym c.items.ensures.value ∙ name)))
