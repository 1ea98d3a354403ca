use Rattle.std.proofs.Common.{◌≡◌, ◌<◌, ◌||◌, ℕ, true, false, List, [], Some, get_or, length, option_map, take, sym, ap, ◌∙◌, arith, true≢false}
use Rattle.std.specs.Map.{keys_of}
use Rattle.std.specs.Prelude.{slice_get}
use Rattle.std.specs.Cmp.Lexicographic.{bytes_decides}
use Rattle.std.proofs.lemmas.Bool.{false_from_ne_true}
use Rattle.std.proofs.lemmas.Option.{get_or_from_slice_get, slice_get-map}
use Rattle.std.proofs.lemmas.List.{length-map, take_all}
use Rattle.std.proofs.lemmas.List.Folds.{list_any_more}
use Rattle.rd_rules.specs.MayFollow.{is_among, same_name}
use Rattle.rd_tables.proofs.LookupLemmas.{index_near, method_found, method_unknown, value_near}
use Rattle.rd_tables.proofs.methods.Methods.find.Goals as goal

pub returns-then-eq-clause-found : goal.returns-then-eq-clause-found
returns-then-eq-clause-found c =
    let name : c.items.result.now ≡ c.args.name.now = (bytes_decides c.items.result.now c.args.name.now).0 (sym c.eq.ensures ∙ c.if-eq.true) in
    let entries = c.args.self.now.slots.entries in
    let at : slice_get entries _ ≡ Some (c.args.name.now, c.unwrap.result.1.now) =
    sym c.get_index.ensures.entry ∙ ap (option_map _) c.unwrap.ensures ∙ ap (λ known. Some (known, c.unwrap.result.1.now)) (sym c.items.ensures.value ∙ name) in
    sym (method_found c.args.self.now c.args.name.now _ _
    (index_near entries c.len-number-end.ensures.unique _ c.args.name.now c.unwrap.result.1.now at)
    (value_near entries c.len-number-end.ensures.unique _ c.args.name.now c.unwrap.result.1.now at))

pub loop-number-preserved : goal.loop-number-preserved
loop-number-preserved c =
    let name = c.args.name.now in
    let keys = keys_of c.args.self.now.slots.entries in
    let n = c.loop-number.number in
    let within : n < length keys = omega (arith, c.loop-number-test.true, c.len-number-end.ensures.len, length-map c.args.self.now.slots.entries (λ e. e.0)) in
    let at : slice_get c.args.self.now.slots.entries n ≡ Some (c.unwrap.result.0.now, c.unwrap.result.1.now) = sym c.get_index.ensures.entry ∙ ap (option_map _) c.unwrap.ensures in
    let key : get_or keys n [] ≡ c.items.result.now =
    get_or_from_slice_get keys n _ [] (slice_get-map (λ e. e.0) c.args.self.now.slots.entries n ∙ ap (option_map (λ e. e.0)) at) ∙ sym c.items.ensures.value in
    let other : same_name name (get_or keys n []) ≡ false =
    false_from_ne_true _ (λ same. true≢false (sym ((bytes_decides c.items.result.now name).1 (sym key ∙ sym ((bytes_decides name (get_or keys n [])).0 same))) ∙ sym c.eq.ensures ∙ c.if-eq.false)) in
    list_any_more (same_name name) keys n [] within ∙ (λ i. c.loop-number.invariant i || other i)

pub returns-clause-found : goal.returns-clause-found
returns-clause-found c =
    let name = c.args.name.now in
    let entries = c.args.self.now.slots.entries in
    let keys = keys_of entries in
    let all : take c.loop-number.number keys ≡ keys = take_all c.loop-number.number keys (omega (arith, c.loop-number-test.false, c.len-number-end.ensures.len, length-map entries (λ e. e.0))) in
    (λ i. record { number = c.len.ensures.len i; unknown = true; slots = 0 }) ∙ sym (method_unknown c.args.self.now name (ap (λ names. is_among names name) (sym all) ∙ c.loop-number.invariant))
