use Rattle.std.proofs.Common.{◌≡◌, Some, not, sym, ap, ◌∙◌}
use Rattle.std.proofs.Math.Bool.{not-not}
use Rattle.std.specs.Cmp.Lexicographic.{bytes_decides}
use Rattle.rd_rules.specs.MayFollow.{same_name}
use Rattle.rd_tables.specs.Tables.{free_lock}
use Rattle.indexmap.specs.IndexMap.{get_by}
use Rattle.std.specs.Prelude.{unwrap_or}
use Rattle.rd_wf.proofs.NearLemmas.{lock_near}
use Rattle.rd_wf.proofs.roster.finding.NearFinder.lock.Goals as goal

pub returns-clause-found : goal.returns-clause-found
returns-clause-found c =
    let name : c.in_ok-known.known.now ≡ c.args.name.now =
    sym c.items.ensures.value ∙ (bytes_decides c.items.result.now c.args.name.now).0 (sym (not-not _) ∙ ap not (sym c.ne.ensures ∙ c.if-ne.false)) in
    record {
      numbers = λ kinds lines stands.
          lock_near kinds c.args.roster.now lines stands _ c.args.name.now c.in_ok-known.lock.now
          (sym c.in_ok-known.ensures.entry ∙ ap (λ known. Some (known, c.in_ok-known.lock.now)) name);
      lock = sym (ap (λ known. unwrap_or (get_by (same_name known) c.args.roster.now.locks) free_lock) (sym name) ∙ ap (λ held. unwrap_or held free_lock) c.in_ok-known.ensures.value);
    }
