use Rattle.std.proofs.Common.{◌≡◌, ◌+◌, ◌-◌, ◌<◌, ◌≤◌, ◌++◌, ◌∷◌, [], Result, Ok, Err, IfErr, length, take, drop, Some, sym, ◌∙◌, ap, arith, length-drop, rules}
use Rattle.std.proofs.lemmas.List.{take_all}
use Rattle.std.proofs.lemmas.Result.{on_ok_weaker}
use Rattle.rd_base.specs.declared.spelling.ValueRefused.{ValueRefused}
use Rattle.rd_base.specs.ReadingValues.{value_of}
use Rattle.rd_event.specs.declared.slots.Place.TheVariants.{Outside}
use Rattle.rd_event.specs.ReadingSlots.{value_length, first_value, other_values}
use Rattle.rd_event.proofs.SlotLemmas.{result_found, result_missed, argument_found, argument_alone, argument_missed, too_many}
use Rattle.rd_event.proofs.slots.push_slots.Goals as goal

if_err : {P Q : ValueRefused → Type 0} (result : Result (Unit {0}) ValueRefused) → ((e : ValueRefused) → P e → Q e) → IfErr result P → IfErr result Q
if_err (Ok done) then has = has
if_err (Err e) then has = then e has

pub returns-then-is_last-clause-slots : goal.returns-then-is_last-clause-slots
returns-then-is_last-clause-slots c =
    let room : length c.loop-rest.values < 7 = search rules in
    let found = c.in-Some.ensures.found in
    on_ok_weaker c.whole.result (λ all.
    result_found _ _ _ _ found.0 c.loop-rest.invariant room (c.cut_arrow-is_last.ensures.arrow c.if-is_last.true) (ap value_of (sym all) ∙ found.1)
    ∙ ap (λ slots. Some slots) (sym found.2)) c.whole.ensures.ok

pub returns-then-is_last-clause-none : goal.returns-then-is_last-clause-none
returns-then-is_last-clause-none c =
    let room : length c.loop-rest.values < 7 = search rules in
    if_err c.whole.result (λ e none bad.
    result_missed _ _ _ _ c.loop-rest.invariant room (c.cut_arrow-is_last.ensures.arrow c.if-is_last.true) none) c.whole.ensures.none

pub returns-then-length-from-clause-none : goal.returns-then-length-from-clause-none
returns-then-length-from-clause-none c = λ bad.
    let room : length c.loop-rest.values < 7 = search rules in
    let found = c.in-Some.ensures.found in
    let same = c.cut_arrow-is_last.ensures.all c.if-is_last.false in
    let all : length c.loop-rest.rest.now ≤ value_length Outside c.loop-rest.rest.now =
    omega (arith, c.if-length-from.true, c.in-Some.ensures.length, ap length same, ap (value_length Outside) same) in
    argument_alone _ _ _ found.0 c.loop-rest.invariant room (ap (λ bytes. value_of (first_value bytes)) (sym same) ∙ found.1) all

pub loop-rest-preserved-in-Some : goal.loop-rest-preserved-in-Some
loop-rest-preserved-in-Some c =
    let room : length c.loop-rest.values < 7 = search rules in
    let found = c.in-Some.ensures.found in
    let from = c.cut_arrow-is_last.result.1.now in
    let same = c.cut_arrow-is_last.ensures.all c.if-is_last.false in
    let behind : take (length from - (c.in-Some.length + 1)) (drop (c.in-Some.length + 1) from) ≡ other_values c.loop-rest.rest.now =
    take_all (length from - (c.in-Some.length + 1)) (drop (c.in-Some.length + 1) from) (omega (arith, length-drop (c.in-Some.length + 1) from))
    ∙ ap (λ n. drop (n + 1) from) c.in-Some.ensures.length ∙ ap other_values same in
    rw (found.2, behind)
    (argument_found _ _ _ found.0 c.loop-rest.invariant room (ap (λ bytes. value_of (first_value bytes)) (sym same) ∙ found.1))

pub returns-then-is_last-2-clause-slots : goal.returns-then-is_last-2-clause-slots
returns-then-is_last-2-clause-slots c =
    let room : length c.loop-rest.values < 7 = search rules in
    on_ok_weaker c.push_value.result (λ found.
    result_found _ _ _ _ found.0 c.loop-rest.invariant room (c.cut_arrow-is_last.ensures.arrow c.if-is_last-2.true) found.1
    ∙ ap (λ items. Some (items ++ found.0 ∷ [])) (sym c.in-None.ensures.none) ∙ ap (λ slots. Some slots) (sym found.2)) c.push_value.ensures.found

pub returns-then-is_last-2-clause-none : goal.returns-then-is_last-2-clause-none
returns-then-is_last-2-clause-none c =
    let room : length c.loop-rest.values < 7 = search rules in
    if_err c.push_value.result (λ e none bad.
    result_missed _ _ _ _ c.loop-rest.invariant room (c.cut_arrow-is_last.ensures.arrow c.if-is_last-2.true) (none bad)) c.push_value.ensures.none

pub loop-rest-preserved : goal.loop-rest-preserved
loop-rest-preserved c =
    let room : length c.loop-rest.values < 7 = search rules in
    let found = c.in-Ok.ensures.found in
    let same = c.cut_arrow-is_last.ensures.all c.if-is_last-2.false in
    rw (found.2, c.in-None.ensures.none, c.in-Ok.ensures.rest, same)
    (argument_found _ _ _ found.0 c.loop-rest.invariant room (ap (λ bytes. value_of (first_value bytes)) (sym same) ∙ found.1))

pub returns-in-Err-clause-none : goal.returns-in-Err-clause-none
returns-in-Err-clause-none c = λ bad.
    let room : length c.loop-rest.values < 7 = search rules in
    let same = c.cut_arrow-is_last.ensures.all c.if-is_last-2.false in
    argument_missed _ _ _ c.loop-rest.invariant room (c.cut_arrow-is_last.ensures.none c.if-is_last-2.false)
    (ap (λ bytes. value_of (first_value bytes)) (sym same) ∙ c.in-Err.ensures.none bad)

pub returns-clause-none : goal.returns-clause-none
returns-clause-none c = λ bad.
    let full : 7 ≤ length c.loop-rest.values = search rules in
    too_many _ _ _ c.loop-rest.invariant full
