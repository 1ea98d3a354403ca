use Rattle.std.proofs.Common.{refl, sym, ◌∙◌}
use Rattle.rd_wf.proofs.roster.Roster.call_numbers_of.Goals as goal

pub returns-clause-takes : goal.returns-clause-takes
returns-clause-takes c = λ slots enough. (
  (c.in-Some.ensures.named refl, c.requires.named.0),
  λ kinds lines stands.
      let told = c.in_default-judge_call.ensures.ok c.args.thread.now c.args.name.now c.args.method.now slots c.in-Some.ensures.found c.requires.object c.method_of-method.ensures
      (enough ∙ sym c.from-count.ensures) kinds lines stands in
      (told.0, told.1, c.count.ensures kinds lines c.args.thread.now c.args.name.now c.args.method.now slots stands),
)
