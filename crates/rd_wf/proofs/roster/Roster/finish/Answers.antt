use Rattle.std.proofs.Common.{◌≡◌, is_some, nat_lt, refl, sym, ap, arith, ◌∙◌}
use Rattle.std.proofs.lemmas.Bool.Decides.{nat_tests}
use Rattle.rd_rules.specs.MayFollow.{headers}
use Rattle.rd_wf.proofs.RosterLemmas.{header_test}
use Rattle.rd_wf.proofs.roster.Roster.finish.Goals as goal

pub returns-then-is_some-clause-ok : goal.returns-then-is_some-clause-ok
returns-then-is_some-clause-ok c = λ kinds lines stands.
    let some : nat_lt 0 (headers lines) ≡ _ = sym (header_test lines) ∙ ap is_some (sym stands.header_version) ∙ sym c.is_some.ensures ∙ c.if-is_some.true in
    grind (arith, nat_tests)

pub returns-else-is_some-clause-err : goal.returns-else-is_some-clause-err
returns-else-is_some-clause-err c = (
  refl,
  λ kinds lines stands.
      let none : nat_lt 0 (headers lines) ≡ _ = sym (header_test lines) ∙ ap is_some (sym stands.header_version) ∙ sym c.is_some.ensures ∙ c.if-is_some.false in
      grind (arith, nat_tests),
)
