use Rattle.std.proofs.Common.{◌≡◌, ◌<◌, ◌+◌, ◌++◌, [], ◌∷◌, drop, length, map, take, sym, ap, subst, ◌∙◌, false, true, arith}
use Rattle.std.proofs.lemmas.List.{append_assoc, length-map}
use Rattle.rd_rules.specs.MayFollow.{is_among}
use Rattle.rd_numbered_logs.specs.LogNames.{are_new}
use Rattle.rd_numbered_logs.proofs.NameLemmas.{item_mapped, item_taken, name_fails, name_goes_on, other_bool, same_bool}
use Rattle.rd_numbered_logs.proofs.names.add_objects.Goals as goal

pub loop-object-preserved : goal.loop-object-preserved
loop-object-preserved c =
    let fresh : is_among c.loop-object.names.keys c.object-item.result.name ≡ false = other_bool _ _ c.in_ok-add_new.ensures.new c.if-not-branch.false in
    let here : c.loop-object.object-index < length c.args.objects.now = grind arith in
    let within : c.loop-object.object-index < length (map (λ object. object.name) c.args.objects.now) = subst (λ n. c.loop-object.object-index < n) (sym (length-map c.args.objects.now (λ object. object.name))) here in
    let is = item_mapped (λ object. object.name) c.args.objects.now c.loop-object.object-index c.object-item.result here c.object-item.is in
    record {
      keys = c.in_ok-add_new.ensures.names c.if-not-branch.false ∙ ap (λ l. l ++ c.object-item.result.name ∷ []) c.loop-object.invariant.keys ∙ append_assoc c.args.names.now.keys (take c.loop-object.object-index (map (λ object. object.name) c.args.objects.now)) (c.object-item.result.name ∷ [])
          ∙ ap (λ l. c.args.names.now.keys ++ l) (sym (item_taken (map (λ object. object.name) c.args.objects.now) c.loop-object.object-index c.object-item.result.name within is));
      left = name_goes_on _ _ (map (λ object. object.name) c.args.objects.now) c.loop-object.object-index c.object-item.result.name c.loop-object.invariant.left within is fresh
          ∙ ap (λ l. are_new l (drop (c.loop-object.object-index + 1) (map (λ object. object.name) c.args.objects.now))) (sym (c.in_ok-add_new.ensures.names c.if-not-branch.false));
    }

pub returns-then-not-branch-clause-new : goal.returns-then-not-branch-clause-new
returns-then-not-branch-clause-new c =
    let among : is_among c.loop-object.names.keys c.object-item.result.name ≡ true = same_bool _ _ c.in_ok-add_new.ensures.new c.if-not-branch.true in
    let here : c.loop-object.object-index < length c.args.objects.now = grind arith in
    let within : c.loop-object.object-index < length (map (λ object. object.name) c.args.objects.now) = subst (λ n. c.loop-object.object-index < n) (sym (length-map c.args.objects.now (λ object. object.name))) here in
    let is = item_mapped (λ object. object.name) c.args.objects.now c.loop-object.object-index c.object-item.result here c.object-item.is in
    sym (name_fails _ _ (map (λ object. object.name) c.args.objects.now) c.loop-object.object-index c.object-item.result.name c.loop-object.invariant.left within is among)
