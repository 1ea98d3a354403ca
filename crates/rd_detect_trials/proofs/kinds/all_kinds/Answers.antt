use Rattle.std.proofs.Common.{◌≢◌, ◌^◌, ◌<◌, ◌++◌, ap, length, subst, sym, ◌∙◌}
use Rattle.std.specs.Prelude.{AllPairs}
use Rattle.rd_ecl.specs.Kinds.{kind_names, kinds_of}
use Rattle.rd_reading.proofs.NameLemmas.{read_names}
use Rattle.rd_reading.specs.Texts.{HasNewNames}
use Rattle.rd_detect_trials.proofs.CourseLemmas.{if_ok}
use Rattle.rd_detect_trials.proofs.KindLemmas.{all_differ, few_kinds}
use Rattle.rd_detect_trials.proofs.kinds.all_kinds.Goals as goal

pub returns-clause-few : goal.returns-clause-few
returns-clause-few g c =
    let says = if_ok _ c.parse.result c.expect-said.result c.expect-said.ensures c.parse.ensures.ok in
    let named = subst (λ taken. HasNewNames taken c.expect-said.result) c.reserved.ensures (read_names _ _ _ says) in
    let is = if_ok _ c.append.result c.expect.result c.expect.ensures c.append.ensures.ok
    ∙ ap (λ kinds. kinds ++ c.expect-said.result) (if_ok _ c.shipped.result c.expect-built_in.result c.expect-built_in.ensures c.shipped.ensures) in
    subst (λ kinds. length kinds < 2 ^ 32) (sym is) (few_kinds c.expect-said.result named)

pub returns-clause-different : goal.returns-clause-different
returns-clause-different g c =
    let says = if_ok _ c.parse.result c.expect-said.result c.expect-said.ensures c.parse.ensures.ok in
    let named = subst (λ taken. HasNewNames taken c.expect-said.result) c.reserved.ensures (read_names _ _ _ says) in
    let is = if_ok _ c.append.result c.expect.result c.expect.ensures c.append.ensures.ok
    ∙ ap (λ kinds. kinds ++ c.expect-said.result) (if_ok _ c.shipped.result c.expect-built_in.result c.expect-built_in.ensures c.shipped.ensures) in
    subst (λ kinds. AllPairs (λ x y. x ≢ y) (kind_names (kinds_of kinds))) (sym is) (all_differ c.expect-said.result named)
