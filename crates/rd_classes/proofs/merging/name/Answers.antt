use Rattle.std.proofs.Common.{◌≡◌, ◌<◌, ℕ, List, length, Option, Some, refl, arith, sym, ap, ◌∙◌, position}
use Rattle.std.proofs.lemmas.Bool.{eqb-true, eqb-false}
use Rattle.std.proofs.lemmas.List.Quantifiers.{position-Some}
use Rattle.rd_points.specs.Tables.{PointTable, conflicts_at}
use Rattle.rd_classes.specs.declared.merging.Leader.{Leader}
use Rattle.rd_classes.specs.Leaders.{is_like, signature_of}
use Rattle.rd_classes.proofs.StepLemmas.{count_few, free_kept, fresh_kept, fresh_name, known_kept, known_name}
use Rattle.rd_classes.proofs.merging.name.Goals as goal

-- what was looked for, with the signature of the row
looked_for : (table : PointTable) (leaders found : List Leader) (class signature : ℕ) (row : List ℕ) (place : Option ℕ)
    → row ≡ conflicts_at table class → signature ≡ signature_of row
    → found ≡ leaders → place ≡ position (is_like table class signature) found
    → position (is_like table class (signature_of (conflicts_at table class))) leaders ≡ place
looked_for table leaders found class signature row place is_row signed are at =
    ap (λ s. position (is_like table class s) leaders) (sym (signed ∙ ap signature_of is_row))
    ∙ ap (position (is_like table class signature)) (sym are) ∙ sym at

pub returns-then-is_empty-clause-leaders : goal.returns-then-is_empty-clause-leaders
returns-then-is_empty-clause-leaders c =
    let none : length (conflicts_at c.args.table.now c.args.class) ≡ 0 =
    sym (ap length c.conflicts-row.ensures) ∙ eqb-true (length c.conflicts-row.result.now) 0 (sym c.is_empty.ensures ∙ c.if-is_empty.true) in
    free_kept c.args.table.now c.args.leaders.now.items c.args.class c.requires.leaders none

some : (row conflicts : List ℕ) → row ≡ conflicts → (length row ≡ 0 → ⊥) → 0 < length conflicts
some row conflicts e none = omega (arith, ap length e)

pub overflow_cast-result : goal.overflow_cast-result
overflow_cast-result c =
    let (within, alike, before) = position-Some
    (is_like c.args.table.now c.args.class c.signature-signature.result) c.as_slice.result.now c.in-Some.number
    (record { class = 0; signature = 0 }) (sym c.place.ensures ∙ c.in-Some.is) in
    record { fits = omega (arith, count_few c.args.table.now c.args.leaders.now.items c.args.class c.requires.leaders, ap length c.as_slice.ensures.value) }

pub returns-in-Some-clause-name : goal.returns-in-Some-clause-name
returns-in-Some-clause-name c =
    let none = eqb-false (length c.conflicts-row.result.now) 0 (sym c.is_empty.ensures ∙ c.if-is_empty.false) in
    known_name c.args.table.now c.args.leaders.now.items c.args.class c.requires.leaders
    (some c.conflicts-row.result.now _ c.conflicts-row.ensures none) c.in-Some.number
    (looked_for c.args.table.now _ _ c.args.class _ _ _ c.conflicts-row.ensures c.signature-signature.ensures c.as_slice.ensures.value c.place.ensures ∙ c.in-Some.is)
    c.requires.known

pub returns-in-Some-clause-leaders : goal.returns-in-Some-clause-leaders
returns-in-Some-clause-leaders c =
    let none = eqb-false (length c.conflicts-row.result.now) 0 (sym c.is_empty.ensures ∙ c.if-is_empty.false) in
    known_kept c.args.table.now c.args.leaders.now.items c.args.class c.requires.leaders
    (some c.conflicts-row.result.now _ c.conflicts-row.ensures none) c.in-Some.number
    (looked_for c.args.table.now _ _ c.args.class _ _ _ c.conflicts-row.ensures c.signature-signature.ensures c.as_slice.ensures.value c.place.ensures ∙ c.in-Some.is)

pub overflow_cast-number : goal.overflow_cast-number
overflow_cast-number c =
    record { fits = omega (arith, count_few c.args.table.now c.args.leaders.now.items c.args.class c.requires.leaders) }

pub returns-clause-name : goal.returns-clause-name
returns-clause-name c =
    let none = eqb-false (length c.conflicts-row.result.now) 0 (sym c.is_empty.ensures ∙ c.if-is_empty.false) in
    ap Some (c.len-number.ensures ∙ sym c.as_slice.ensures.len ∙ ap length c.as_slice.ensures.value)
    ∙ fresh_name c.args.table.now c.args.leaders.now.items c.args.class c.requires.leaders
    (some c.conflicts-row.result.now _ c.conflicts-row.ensures none)
    (looked_for c.args.table.now _ _ c.args.class _ _ _ c.conflicts-row.ensures c.signature-signature.ensures c.as_slice.ensures.value c.place.ensures ∙ c.in_default.is)
    c.requires.known

pub returns-clause-leaders : goal.returns-clause-leaders
returns-clause-leaders c =
    let none = eqb-false (length c.conflicts-row.result.now) 0 (sym c.is_empty.ensures ∙ c.if-is_empty.false) in
    rw c.in_ok-push.ensures.items (fresh_kept c.args.table.now c.args.leaders.now.items c.args.class c.requires.leaders
    (some c.conflicts-row.result.now _ c.conflicts-row.ensures none)
    (looked_for c.args.table.now _ _ c.args.class _ _ _ c.conflicts-row.ensures c.signature-signature.ensures c.as_slice.ensures.value c.place.ensures ∙ c.in_default.is)
    (record { class = c.args.class; signature = c.signature-signature.result }) refl (c.signature-signature.ensures
    ∙ ap signature_of c.conflicts-row.ensures))
