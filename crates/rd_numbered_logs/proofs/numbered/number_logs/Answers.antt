use Rattle.std.proofs.Common.{◌≡◌, ◌≤◌, ◌<◌, [], true, nat_lt, length, map, sym, ap, subst, ◌∙◌, arith}
use Rattle.std.specs.Prelude.{IfSome, slice_get, Some}
use Rattle.rd_logs.specs.WholeLogs.{record_of}
use Rattle.rd_numbered_logs.specs.LogNames.{LogNames, are_new, begun_names, declared_names, have_own_names, log_threads, mentioning_in, log_names}
use Rattle.rd_numbered_logs.specs.LogsUnder.{is_root_of}
use Rattle.rd_turns.specs.NumberedLogs.{thread_log}
use Rattle.rd_numbered_logs.specs.Numbering.{AreNumberedLogs, IsFrontOf}
use Rattle.rd_numbered_logs.proofs.LogLemmas.{all_in_range, both_true, logs_fit, numbered_alike, own_threads_of, threads_below}
use Rattle.rd_numbered_logs.proofs.StepLemmas.{front_in, objects_longer, threads_longer}
use Rattle.rd_numbered_logs.proofs.numbered.number_logs.Goals as goal

pub roots_of-requires : goal.roots_of-requires
roots_of-requires c = λ l log at.
    let records = map record_of c.args.logs.now in
    let begun = (subst (λ made. IfSome made (λ names. (names ≡ begun_names records) × (have_own_names records ≡ true))) c.in-Some.is c.in_ok-names.ensures.some).0 in
    let names : c.number_each.new.names ≡ mentioning_in (begun_names records) records = c.in_ok-numbered.ensures.names ∙ ap (λ n. mentioning_in n records) begun in
    let fits : length records ≤ length c.number_each.new.names.threads =
    subst (λ n. length records ≤ length n.threads) (sym names) (let longer = threads_longer _ _ (front_in (begun_names records) records) in omega (arith, longer, logs_fit records)) in
    subst (λ n. log.thread < n) (sym c.thread_count.ensures)
    (threads_below records c.number_each.new.names c.in_ok-numbered.numbered.items c.in_ok-numbered.ensures.logs fits l log (subst (λ items. slice_get items l ≡ Some log) c.deref.ensures.value at))

pub declared_of-requires : goal.declared_of-requires
declared_of-requires c =
    let records = map record_of c.args.logs.now in
    let longer = objects_longer c.in-Some.names c.number_each.new.names (subst (IsFrontOf c.in-Some.names) (sym c.in_ok-numbered.ensures.names) (front_in c.in-Some.names records)) in
    omega (arith, longer, c.object_count.ensures, c.object_count-declared.ensures)

pub returns-clause-alike : goal.returns-clause-alike
returns-clause-alike c =
    let records = map record_of c.args.logs.now in
    let begun = subst (λ made. IfSome made (λ names. (names ≡ begun_names records) × (have_own_names records ≡ true))) c.in-Some.is c.in_ok-names.ensures.some in
    let names : c.number_each.new.names ≡ log_names records = c.in_ok-numbered.ensures.names ∙ ap (λ n. mentioning_in n records) begun.0 in
    let are : AreNumberedLogs (log_names records) records c.in_ok-numbered.numbered.items = subst (λ n. AreNumberedLogs n records c.in_ok-numbered.numbered.items) names c.in_ok-numbered.ensures.logs in
    numbered_alike records (record { logs = c.in_ok-numbered.numbered; roots = c.in_ok-roots_of.field-0; declared = c.in_ok-declared_of.field-0; locks = c.in-Ok.locks }) are
    (both_true (are_new [] (log_threads records)) (are_new [] (declared_names records)) begun.1).0
    (λ thread. c.in_ok-roots_of.ensures.roots thread ∙ ap (λ logs. is_root_of (map thread_log logs) thread) c.deref.ensures.value)
    (λ object. c.in_ok-declared_of.ensures.marks object ∙ ap (nat_lt object) (c.object_count-declared.ensures ∙ ap (λ (n : LogNames). length n.objects) begun.0))

pub returns-clause-range : goal.returns-clause-range
returns-clause-range c =
    let records = map record_of c.args.logs.now in
    let begun = (subst (λ made. IfSome made (λ names. (names ≡ begun_names records) × (have_own_names records ≡ true))) c.in-Some.is c.in_ok-names.ensures.some).0 in
    let names : c.number_each.new.names ≡ mentioning_in (begun_names records) records = c.in_ok-numbered.ensures.names ∙ ap (λ n. mentioning_in n records) begun in
    let fits : length records ≤ length c.number_each.new.names.threads =
    subst (λ n. length records ≤ length n.threads) (sym names) (let longer = threads_longer _ _ (front_in (begun_names records) records) in omega (arith, longer, logs_fit records)) in
    all_in_range records c.number_each.new.names (record { logs = c.in_ok-numbered.numbered; roots = c.in_ok-roots_of.field-0; declared = c.in_ok-declared_of.field-0; locks = c.in-Ok.locks })
    c.in_ok-numbered.ensures.logs fits (c.in_ok-roots_of.ensures.count ∙ c.thread_count.ensures) (c.in-Ok.ensures.1 ∙ c.lock_count.ensures) (c.in_ok-declared_of.ensures.count ∙ c.object_count.ensures)
    c.in_ok-numbered.ensures.few

pub returns-clause-threads : goal.returns-clause-threads
returns-clause-threads c =
    let records = map record_of c.args.logs.now in
    let begun = subst (λ made. IfSome made (λ names. (names ≡ begun_names records) × (have_own_names records ≡ true))) c.in-Some.is c.in_ok-names.ensures.some in
    let names : c.number_each.new.names ≡ log_names records = c.in_ok-numbered.ensures.names ∙ ap (λ n. mentioning_in n records) begun.0 in
    let are : AreNumberedLogs (log_names records) records c.in_ok-numbered.numbered.items = subst (λ n. AreNumberedLogs n records c.in_ok-numbered.numbered.items) names c.in_ok-numbered.ensures.logs in
    own_threads_of records (record { logs = c.in_ok-numbered.numbered; roots = c.in_ok-roots_of.field-0; declared = c.in_ok-declared_of.field-0; locks = c.in-Ok.locks }) are
    (both_true (are_new [] (log_threads records)) (are_new [] (declared_names records)) begun.1).0
    (λ thread. c.in_ok-roots_of.ensures.roots thread ∙ ap (λ logs. is_root_of (map thread_log logs) thread) c.deref.ensures.value)
    (λ object. c.in_ok-declared_of.ensures.marks object ∙ ap (nat_lt object) (c.object_count-declared.ensures ∙ ap (λ (n : LogNames). length n.objects) begun.0))
