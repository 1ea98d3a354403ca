use Rattle.std.proofs.Common.{◌≡◌, ◌≢◌, map, sym, refl, ap, subst, ◌∙◌, arith}
use Rattle.std.specs.List.{AllPairs}
use Rattle.std.proofs.lemmas.List.{take_all}
use Rattle.std.proofs.lemmas.Grind.{common_steps}
use Rattle.indexmap.specs.IndexMap.{insert_entry}
use Rattle.rd_ecl.specs.Kinds.{kind_names, kind_of, kinds_of}
use Rattle.rd_rules.specs.MayFollow.{same_name}
use Rattle.rd_tables.specs.Tables.{kind_entry}
use Rattle.rd_wf.proofs.NextLemmas.{empty_stands}
use Rattle.rd_tables.proofs.TableLemmas.{kind_added}
use Rattle.rd_wf.proofs.roster.Roster.new.Goals as goal

pub loop-kind-init : goal.loop-kind-init
loop-kind-init c = ap (map kind_entry) c.new-kinds.ensures.empty

pub loop-kind-preserved : goal.loop-kind-preserved
loop-kind-preserved c =
    let kinds = c.kinds-kind-items.ensures in
    let table = c.loop-kind.kinds in
    let methods = c.in_ok-of.field-0 in
    let name : c.copy.result ≡ c.kind-item.result.name = c.copy.ensures ∙ c.name.ensures in
    ap (map kind_entry) (c.in_ok-insert.ensures.entries ∙ ap (λ name. insert_entry same_name table.entries name methods) name)
    ∙ kind_added c.kinds-kind-items.result.now (subst (λ kinds. AllPairs (λ x y. x ≢ y) (kind_names (kinds_of kinds))) (sym kinds.value) c.requires.different)
    table c.loop-kind.kind-index c.kind-item.result methods c.loop-kind-test.true (sym c.kind-item.is) c.loop-kind.invariant c.in_ok-of.ensures

pub returns : goal.returns
returns c =
    let all : map kind_entry c.loop-kind.kinds.entries ≡ kinds_of c.args.spec.now =
    c.loop-kind.invariant ∙ ap (map kind_of) (take_all c.loop-kind.kind-index c.kinds-kind-items.result.now c.loop-kind-test.false ∙ c.kinds-kind-items.ensures.value) in
    empty_stands (kinds_of c.args.spec.now) _ all refl refl c.new.ensures.empty c.new-2.ensures.empty c.new-4.ensures.empty c.new-3.ensures

pub invariant_of-result : goal.invariant_of-result
invariant_of-result c = grind (arith, common_steps)
