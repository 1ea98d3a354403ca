use Rattle.std.proofs.Common.{inl, inr}
use Rattle.rd_ecl.specs.Formulas.{tree_of, predicates_of}
use Rattle.rd_ecl.specs.Relations.{kept_relations, with_room}
use Rattle.rd_ecl.proofs.RoomLemmas.{gathers_then, gathers_full}
use Rattle.rd_ecl.proofs.relations.Relations.+add_all.Goals as goal

pub returns-then-add_all : goal.returns-then-add_all
returns-then-add_all t c =
    let left = predicates_of c.args.method c.args.first c.args.second (tree_of c.in-And.left.value) in
    let right = predicates_of c.args.method c.args.first c.args.second (tree_of c.in-And.right.value) in
    let front = rw (c.if-add_all.true, c.deref-in-And.ensures) at c.add_all-in-And.ensures in
    let back = rw c.deref-then-add_all.ensures at c.add_all-then-add_all.ensures in
    let last = with_room c.add_all-then-add_all.result c.add_all-then-add_all.new.self in
    let whole = gathers_then (kept_relations c.args.self.now) left right c.add_all-in-And.new.self last front back in
    elim c.in-And.is [ inl e ↦ rw e whole | inr e ↦ rw e whole ]

pub returns-else-add_all : goal.returns-else-add_all
returns-else-add_all t c =
    let left = predicates_of c.args.method c.args.first c.args.second (tree_of c.in-And.left.value) in
    let right = predicates_of c.args.method c.args.first c.args.second (tree_of c.in-And.right.value) in
    let front = rw (c.if-add_all.false, c.deref-in-And.ensures) at c.add_all-in-And.ensures in
    let whole = gathers_full (kept_relations c.args.self.now) left right front in
    elim c.in-And.is [ inl e ↦ rw e whole | inr e ↦ rw e whole ]
