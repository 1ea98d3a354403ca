-- How a formula is stored in what contracts see: as the list of its nodes in post-order.
use Rattle.std.specs.Prelude.{ℕ, ◌≡◌, ◌==◌, refl, true, false, if◌then◌else◌, List, [], ◌∷◌, ◌++◌}
use Rattle.std.specs.Coded.{Coded, code_by, coded×, coded_ℕ, coded_list}
use Rattle.std.proofs.Common.{ap}
use Rattle.std.proofs.lemmas.List.{append_assoc, append-nil}
use Rattle.rd_ecl.specs.contracts.formulas.Predicate as stored
use Rattle.rd_ecl.specs.declared.formulas.Side.TheVariants.{First, Second}
use Rattle.rd_ecl.specs.declared.formulas.Rel.{Rel}
use Rattle.rd_ecl.specs.declared.formulas.Rel.TheVariants.{Eq}
use Rattle.rd_ecl.specs.declared.formulas.Term.TheVariants.{Slot}
use Rattle.rd_ecl.specs.declared.formulas.Predicate.{Predicate}
use Rattle.rd_ecl.specs.Formulas.{Tree, truth, atom, cross, mixed, negation, both, either}

-- a node: its sort, its two numbers and its relation
abbrev Node : Type 0
Node = (ℕ × (ℕ × ℕ)) × Predicate

abbrev relation : Rel → Predicate
relation rel = record { rel = rel; left = Slot 0; right = Slot 0 }

abbrev nodes_of : Tree → List Node
nodes_of (truth false) = ((0, (0, 0)), relation Eq) ∷ []
nodes_of (truth true) = ((1, (0, 0)), relation Eq) ∷ []
nodes_of (atom First rel left right) = ((2, (0, 0)), record { rel = rel; left = left; right = right }) ∷ []
nodes_of (atom Second rel left right) = ((3, (0, 0)), record { rel = rel; left = left; right = right }) ∷ []
nodes_of (cross first second) = ((4, (first, second)), relation Eq) ∷ []
nodes_of (mixed rel false first second) = ((5, (first, second)), relation rel) ∷ []
nodes_of (mixed rel true first second) = ((6, (first, second)), relation rel) ∷ []
nodes_of (negation f) = nodes_of f ++ ((7, (0, 0)), relation Eq) ∷ []
nodes_of (both f g) = nodes_of f ++ (nodes_of g ++ ((8, (0, 0)), relation Eq) ∷ [])
nodes_of (either f g) = nodes_of f ++ (nodes_of g ++ ((9, (0, 0)), relation Eq) ∷ [])

abbrev leaf_of : Node → Tree
leaf_of ((sort, (a, b)), relation) =
    if sort == 0 then truth false else if sort == 1 then truth true else if sort == 2 then atom First relation.rel relation.left relation.right
    else if sort == 3 then atom Second relation.rel relation.left relation.right else if sort == 4 then cross a b
    else if sort == 5 then mixed relation.rel false a b else mixed relation.rel true a b

abbrev over_one : List Tree → List Tree
over_one [] = []
over_one (f ∷ trees) = negation f ∷ trees

abbrev over_two : (Tree → Tree → Tree) → List Tree → List Tree
over_two join (g ∷ f ∷ trees) = join f g ∷ trees
over_two join _ = []

abbrev with_node : Node → List Tree → List Tree
with_node node trees =
    if node.0.0 == 7 then over_one trees else if node.0.0 == 8 then over_two both trees else if node.0.0 == 9 then over_two either trees
    else leaf_of node ∷ trees

abbrev trees_of : List Tree → List Node → List Tree
trees_of trees [] = trees
trees_of trees (node ∷ nodes) = trees_of (with_node node trees) nodes

abbrev first_of : List Tree → Tree
first_of [] = truth false
first_of (f ∷ trees) = f

abbrev from_nodes : List Node → Tree
from_nodes nodes = first_of (trees_of [] nodes)

read_back : (f : Tree) (trees : List Tree) (nodes : List Node) → trees_of trees (nodes_of f ++ nodes) ≡ trees_of (f ∷ trees) nodes
read_back (truth false) trees nodes = refl
read_back (truth true) trees nodes = refl
read_back (atom First rel left right) trees nodes = refl
read_back (atom Second rel left right) trees nodes = refl
read_back (cross first second) trees nodes = refl
read_back (mixed rel false first second) trees nodes = refl
read_back (mixed rel true first second) trees nodes = refl
read_back (negation f) trees nodes = rw append_assoc (read_back f trees (((7, (0, 0)), relation Eq) ∷ nodes))
read_back (both f g) trees nodes =
    simp append_assoc (rw (read_back f trees (nodes_of g ++ ((8, (0, 0)), relation Eq) ∷ nodes)) (read_back g (f ∷ trees) (((8, (0, 0)), relation Eq) ∷ nodes)))
read_back (either f g) trees nodes =
    simp append_assoc (rw (read_back f trees (nodes_of g ++ ((9, (0, 0)), relation Eq) ∷ nodes)) (read_back g (f ∷ trees) (((9, (0, 0)), relation Eq) ∷ nodes)))

pub from_nodes-nodes_of : (f : Tree) → from_nodes (nodes_of f) ≡ f
from_nodes-nodes_of f = rw (append-nil (nodes_of f)) at (ap first_of (read_back f [] []))

abbrev pub coded_tree : Coded Tree
coded_tree = code_by (List Node) (coded_list (coded× (coded× coded_ℕ (coded× coded_ℕ coded_ℕ)) stored.the_row.coded)) nodes_of from_nodes from_nodes-nodes_of
