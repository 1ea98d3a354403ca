use Rattle.std.proofs.Common.{◌≡◌, ◌<◌, ◌+◌, ◌++◌, [], ◌∷◌, drop, length, List, ℕ, map, sym, ap, subst, ◌∙◌, false, true, arith}
use Rattle.std.proofs.lemmas.List.{length-map}
use Rattle.rd_logs.specs.WholeLogs.{record_of}
use Rattle.rd_rules.specs.MayFollow.{is_among}
use Rattle.rd_numbered_logs.specs.LogNames.{are_new, log_threads}
use Rattle.rd_numbered_logs.proofs.NameLemmas.{item_mapped, item_taken, name_fails, name_goes_on, other_bool, same_bool}
use Rattle.rd_numbered_logs.proofs.names.own_threads.Goals as goal

pub loop-log-preserved : goal.loop-log-preserved
loop-log-preserved c =
    let i = c.loop-log.log-index in
    let names : List (List ℕ) = log_threads (map record_of c.args.logs.now) in
    let fresh : is_among c.loop-log.names.keys c.log-item.result.thread ≡ false = other_bool _ _ c.in_ok-add_new.ensures.new c.if-not-branch.false in
    let here : i < length c.args.logs.now = grind arith in
    let middle : i < length (map record_of c.args.logs.now) = subst (λ n. i < n) (sym (length-map c.args.logs.now record_of)) here in
    let within : i < length names = subst (λ n. i < n) (sym (length-map (map record_of c.args.logs.now) (λ log. log.thread))) middle in
    let is = item_mapped (λ log. log.thread) (map record_of c.args.logs.now) i (record_of c.log-item.result) middle (item_mapped record_of c.args.logs.now i c.log-item.result here c.log-item.is) in
    record {
      keys = c.in_ok-add_new.ensures.names c.if-not-branch.false ∙ ap (λ l. l ++ c.log-item.result.thread ∷ []) c.loop-log.invariant.keys ∙ sym (item_taken names i c.log-item.result.thread within is);
      left = name_goes_on _ _ names i c.log-item.result.thread c.loop-log.invariant.left within is fresh ∙ ap (λ l. are_new l (drop (i + 1) names)) (sym (c.in_ok-add_new.ensures.names c.if-not-branch.false));
    }

pub returns-then-not-branch-clause-none : goal.returns-then-not-branch-clause-none
returns-then-not-branch-clause-none c = λ _.
    let i = c.loop-log.log-index in
    let names : List (List ℕ) = log_threads (map record_of c.args.logs.now) in
    let among : is_among c.loop-log.names.keys c.log-item.result.thread ≡ true = same_bool _ _ c.in_ok-add_new.ensures.new c.if-not-branch.true in
    let here : i < length c.args.logs.now = grind arith in
    let middle : i < length (map record_of c.args.logs.now) = subst (λ n. i < n) (sym (length-map c.args.logs.now record_of)) here in
    let within : i < length names = subst (λ n. i < n) (sym (length-map (map record_of c.args.logs.now) (λ log. log.thread))) middle in
    let is = item_mapped (λ log. log.thread) (map record_of c.args.logs.now) i (record_of c.log-item.result) middle (item_mapped record_of c.args.logs.now i c.log-item.result here c.log-item.is) in
    name_fails _ _ names i c.log-item.result.thread c.loop-log.invariant.left within is among
