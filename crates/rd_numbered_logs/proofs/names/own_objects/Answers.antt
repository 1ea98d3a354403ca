use Rattle.std.proofs.Common.{◌≡◌, ◌<◌, ◌+◌, ◌++◌, drop, length, map, sym, ap, subst, ◌∙◌, arith}
use Rattle.std.proofs.lemmas.List.{length-map}
use Rattle.rd_logs.specs.WholeLogs.{record_of}
use Rattle.rd_numbered_logs.specs.LogNames.{are_new, declared_names}
use Rattle.rd_numbered_logs.proofs.NameLemmas.{item_mapped, log_fails, log_goes_on, log_taken}
use Rattle.rd_numbered_logs.proofs.names.own_objects.Goals as goal

pub loop-log-preserved : goal.loop-log-preserved
loop-log-preserved c =
    let i = c.loop-log.log-index in
    let records = map record_of c.args.logs.now in
    let here : i < length c.args.logs.now = grind arith in
    let within : i < length records = subst (λ n. i < n) (sym (length-map c.args.logs.now record_of)) here in
    let is = item_mapped record_of c.args.logs.now i c.log-item.result here c.log-item.is in
    let objects : c.as_slice.result.now ≡ (record_of c.log-item.result).objects = c.as_slice.ensures.value in
    let new = ap (λ objects. are_new c.loop-log.names.keys (map (λ object. object.name) objects)) (sym objects) ∙ sym c.in_ok-add_objects.ensures.new ∙ c.if-not-branch.false in
    let names = c.in_ok-add_objects.ensures.names c.if-not-branch.false ∙ ap (λ objects. c.loop-log.names.keys ++ map (λ object. object.name) objects) objects in
    record {
      keys = names ∙ ap (λ l. l ++ map (λ object. object.name) (record_of c.log-item.result).objects) c.loop-log.invariant.keys ∙ sym (log_taken records i (record_of c.log-item.result) within is);
      left = log_goes_on _ _ records i (record_of c.log-item.result) c.loop-log.invariant.left within is new ∙ ap (λ l. are_new l (declared_names (drop (i + 1) records))) (sym names);
    }

pub returns-then-not-branch-clause-none : goal.returns-then-not-branch-clause-none
returns-then-not-branch-clause-none c = λ _.
    let i = c.loop-log.log-index in
    let records = map record_of c.args.logs.now in
    let here : i < length c.args.logs.now = grind arith in
    let within : i < length records = subst (λ n. i < n) (sym (length-map c.args.logs.now record_of)) here in
    let is = item_mapped record_of c.args.logs.now i c.log-item.result here c.log-item.is in
    log_fails _ _ records i (record_of c.log-item.result) c.loop-log.invariant.left within is (ap (λ objects. are_new c.loop-log.names.keys (map (λ object. object.name) objects)) (sym c.as_slice.ensures.value) ∙ sym c.in_ok-add_objects.ensures.new ∙ c.if-not-branch.true)
