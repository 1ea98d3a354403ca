use Rattle.std.proofs.Common.{◌≡◌, false, Some, None, is_some, if◌then◌else◌, refl, sym, ap, ◌∙◌}
use Rattle.rd_rules.specs.declared.causes.WfCause.TheVariants.{HeaderFirst}
use Rattle.rd_rules.specs.MayFollow.{accepted_of}
use Rattle.rd_tables.proofs.LookupLemmas.{none_is}
use Rattle.rd_wf.proofs.RosterLemmas.{header_judged}
use Rattle.rd_wf.proofs.NextLemmas.{after_header}
use Rattle.rd_wf.proofs.roster.Roster.header.Goals as goal

pub returns-then-is_some : goal.returns-then-is_some
returns-then-is_some c = (
  tt,
  (
    λ kinds lines stands.
        header_judged kinds c.args.self.now lines stands c.args.limits.now c.args.version
        ∙ ap (λ b. if b then Some HeaderFirst else None) (sym c.is_some.ensures ∙ c.if-is_some.true),
    refl,
  ),
)

pub returns : goal.returns
unfolding accepted_of
returns c = (
  tt,
  λ kinds lines stands.
      let none : is_some c.args.self.now.header ≡ false = sym c.is_some.ensures ∙ c.if-is_some.false in (
        header_judged kinds c.args.self.now lines stands c.args.limits.now c.args.version ∙ ap (λ b. if b then Some HeaderFirst else None) none,
        refl,
        after_header kinds c.args.self.now _ lines stands refl refl refl c.args.version (none_is _ none) refl refl refl refl,
      ),
)
