use Rattle.std.proofs.Common.{◌≡◌, rules, sym, subst, ap, ◌∙◌}
use Rattle.rd_ecl.specs.declared.formulas.Formula.{the_lemmas}
use Rattle.rd_ecl.specs.Formulas.{InFragment, both, either, tree_of}
use Rattle.rd_ecl.specs.Reduction.{AreListed}
use Rattle.rd_points.specs.Parts.{IsPartOf}
use Rattle.rd_points.proofs.PartLemmas.{both_inside, both_stand, either_inside, either_stand, stands_first, stands_second}
use Rattle.rd_points.proofs.parts.+part_of.Goals as goal

pub returns-then-not-reads : goal.returns-then-not-reads
returns-then-not-reads t c =
    stands_first (tree_of c.args.formula.now) c.args.first.now c.args.second.now c.in_ok-first_table.field-0.items _ c.in_ok-first_table.ensures (sym c.reads.ensures ∙ c.if-not-reads.true)

pub returns-then-not-reads-2 : goal.returns-then-not-reads-2
returns-then-not-reads-2 t c =
    stands_second (tree_of c.args.formula.now) c.args.first.now c.args.second.now c.in_ok-second_table.field-0.items _ c.in_ok-second_table.ensures (sym c.reads-2.ensures ∙ c.if-not-reads-2.true)

pub part_of-requires : goal.part_of-requires
part_of-requires t c =
    let tree : tree_of c.args.formula.now ≡ both (tree_of c.in-And.left.value) (tree_of c.in-And.right.value) = ap tree_of c.in-And.is in
    let inside = both_inside (subst InFragment tree c.requires.inside) in
    let listed = subst (λ f. AreListed f c.args.first.now c.args.second.now) tree c.requires.listed in
    let here = sym c.deref.ensures in
    let in_fragment = subst (λ x. InFragment (tree_of x)) here inside.0 in
    let among = subst (λ x. AreListed (tree_of x) c.args.first.now c.args.second.now) here listed.0 in
    search (rules, the_lemmas)

pub part_of-requires-in-And : goal.part_of-requires-in-And
part_of-requires-in-And t c =
    let tree : tree_of c.args.formula.now ≡ both (tree_of c.in-And.left.value) (tree_of c.in-And.right.value) = ap tree_of c.in-And.is in
    let inside = both_inside (subst InFragment tree c.requires.inside) in
    let listed = subst (λ f. AreListed f c.args.first.now c.args.second.now) tree c.requires.listed in
    let here = sym c.deref-in-And.ensures in
    let in_fragment = subst (λ x. InFragment (tree_of x)) here inside.1 in
    let among = subst (λ x. AreListed (tree_of x) c.args.first.now c.args.second.now) here listed.1 in
    search (rules, the_lemmas)

pub part_of-requires-in-Or : goal.part_of-requires-in-Or
part_of-requires-in-Or t c =
    let tree : tree_of c.args.formula.now ≡ either (tree_of c.in-Or.left.value) (tree_of c.in-Or.right.value) = ap tree_of c.in-Or.is in
    let inside = either_inside (subst InFragment tree c.requires.inside) in
    let listed = subst (λ f. AreListed f c.args.first.now c.args.second.now) tree c.requires.listed in
    let here = sym c.deref-in-Or.ensures in
    let in_fragment = subst (λ x. InFragment (tree_of x)) here inside.0 in
    let among = subst (λ x. AreListed (tree_of x) c.args.first.now c.args.second.now) here listed.0 in
    search (rules, the_lemmas)

pub part_of-requires-in-Or-2 : goal.part_of-requires-in-Or-2
part_of-requires-in-Or-2 t c =
    let tree : tree_of c.args.formula.now ≡ either (tree_of c.in-Or.left.value) (tree_of c.in-Or.right.value) = ap tree_of c.in-Or.is in
    let inside = either_inside (subst InFragment tree c.requires.inside) in
    let listed = subst (λ f. AreListed f c.args.first.now c.args.second.now) tree c.requires.listed in
    let here = sym c.deref-in-Or-2.ensures in
    let in_fragment = subst (λ x. InFragment (tree_of x)) here inside.1 in
    let among = subst (λ x. AreListed (tree_of x) c.args.first.now c.args.second.now) here listed.1 in
    search (rules, the_lemmas)

pub returns-in_ok-new-in-And-2 : goal.returns-in_ok-new-in-And-2
returns-in_ok-new-in-And-2 t c =
    let p = c.args.first.now in
    let q = c.args.second.now in
    let left : IsPartOf c.in_ok-new-in-And.field-0.value (tree_of c.in-And.left.value) p q =
    subst (λ x. IsPartOf x (tree_of c.in-And.left.value) p q) (sym c.in_ok-new-in-And.ensures.ok) (subst (λ x. IsPartOf c.in_ok-left-in-And.left (tree_of x) p q) c.deref.ensures c.in_ok-left-in-And.ensures) in
    let right : IsPartOf c.in_ok-new-in-And-2.field-0.value (tree_of c.in-And.right.value) p q =
    subst (λ x. IsPartOf x (tree_of c.in-And.right.value) p q) (sym c.in_ok-new-in-And-2.ensures.ok) (subst (λ x. IsPartOf c.in_ok-right-in-And.right (tree_of x) p q) c.deref-in-And.ensures c.in_ok-right-in-And.ensures) in
    both_stand p q c.in_ok-new-in-And.field-0.value c.in_ok-new-in-And-2.field-0.value (tree_of c.args.formula.now) (tree_of c.in-And.left.value) (tree_of c.in-And.right.value) (ap tree_of c.in-And.is) left right

pub returns-in_ok-new-in-Or-2 : goal.returns-in_ok-new-in-Or-2
returns-in_ok-new-in-Or-2 t c =
    let p = c.args.first.now in
    let q = c.args.second.now in
    let left : IsPartOf c.in_ok-new-in-Or.field-0.value (tree_of c.in-Or.left.value) p q =
    subst (λ x. IsPartOf x (tree_of c.in-Or.left.value) p q) (sym c.in_ok-new-in-Or.ensures.ok) (subst (λ x. IsPartOf c.in_ok-left-in-Or.left (tree_of x) p q) c.deref-in-Or.ensures c.in_ok-left-in-Or.ensures) in
    let right : IsPartOf c.in_ok-new-in-Or-2.field-0.value (tree_of c.in-Or.right.value) p q =
    subst (λ x. IsPartOf x (tree_of c.in-Or.right.value) p q) (sym c.in_ok-new-in-Or-2.ensures.ok) (subst (λ x. IsPartOf c.in_ok-right-in-Or.right (tree_of x) p q) c.deref-in-Or-2.ensures c.in_ok-right-in-Or.ensures) in
    either_stand p q c.in_ok-new-in-Or.field-0.value c.in_ok-new-in-Or-2.field-0.value (tree_of c.args.formula.now) (tree_of c.in-Or.left.value) (tree_of c.in-Or.right.value) (ap tree_of c.in-Or.is) left right

pub returns-in_default : goal.returns-in_default
returns-in_default t c = λ v w. tt
