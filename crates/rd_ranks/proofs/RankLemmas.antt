-- Counts over what each of many has.
use Rattle.std.proofs.Common.{◌≡◌, ⊎_elim, ℕ, zero, suc, ◌+◌, ◌-◌, ◌*◌, ◌/◌, ◌^◌, ◌<◌, ◌≤◌, Bool, List, [], ◌∷◌, Option, Some, None, length, take, get_or, set, slice_get, filter_map, refl, sym, ap, subst, ◌∙◌, arith, add-one}
use Rattle.std.proofs.Math.Nat.{pow-succ', pow-le-pow_right, mul_assoc}
use Rattle.std.proofs.lemmas.Bool.{cases_eq, cases_lt}
use Rattle.std.proofs.lemmas.Grind.{get_or-set_at}
use Rattle.std.proofs.lemmas.List.{take_all, length-set, get_or-set_other, get_or_past}
use Rattle.std.proofs.lemmas.Nat.{pow_pos}
use Rattle.std.proofs.lemmas.Option.{slice_get-get_or}
use Rattle.std.specs.Option.{is_some}
use mir.Val.{bool_byte}
use Rattle.rd_ranks.specs.Ranks.{IsCountTree, IsCountTreeBut, one_if_some, node_count}

-- how many of the first so many have something
abbrev pub before : List (Option ℕ) → ℕ → ℕ
before given at = length (filter_map (λ value. value) (take at given))

before_suc : (given : List (Option ℕ)) (at : ℕ) → before given (suc at) ≡ before given at + one_if_some (get_or given at None)
before_suc [] zero = refl
before_suc [] (suc at) = refl
before_suc (Some value ∷ given) zero = refl
before_suc (None ∷ given) zero = refl
before_suc (Some value ∷ given) (suc at) = let more = before_suc given at in omega arith
before_suc (None ∷ given) (suc at) = before_suc given at

-- one more has what there is at its place
before_more : (given : List (Option ℕ)) (at : ℕ) → before given (at + 1) ≡ before given at + one_if_some (get_or given at None)
before_more given at = rw add-one (before_suc given at)

-- no more have something than there are
before_under : (given : List (Option ℕ)) (at : ℕ) → before given at ≤ length given
before_under [] zero = omega arith
before_under [] (suc at) = omega arith
before_under (first ∷ given) zero = omega arith
before_under (Some value ∷ given) (suc at) = let under = before_under given at in omega arith
before_under (None ∷ given) (suc at) = let under = before_under given at in omega arith

-- where something is given, as many as are before it stand before it among those that are given
standing : (given : List (Option ℕ)) (at value : ℕ) → get_or given at None ≡ Some value
    → slice_get (filter_map (λ value. value) given) (before given at) ≡ Some value
standing [] at value is = cc
standing (Some other ∷ given) zero value is = is
standing (None ∷ given) zero value is = cc
standing (Some other ∷ given) (suc at) value is = standing given at value is
standing (None ∷ given) (suc at) value is = standing given at value is

-- what is counted is there
some_if : (given : Option ℕ) → 0 < one_if_some given → (value : ℕ) × (given ≡ Some value)
some_if (Some value) is = (value, refl)
some_if None is = absurd (omega arith)

one_or_none : (given : Option ℕ) → one_if_some given ≤ 1
one_or_none (Some value) = omega arith
one_or_none None = omega arith

-- twice as many at half the place
doubled : (index under : ℕ) → index * 2 ^ suc under ≡ (2 * index) * 2 ^ under
doubled index under = let e = pow-succ' 2 under in grind (arith, mul_assoc)

-- the nodes below those of a level are no more than there are leaves
twice_within : (depth under height : ℕ) → suc under + depth ≡ height → 2 * 2 ^ depth ≤ 2 ^ height
twice_within depth under height is =
    let positive : 0 < 2 = omega arith in
    let more : 2 ^ suc depth ≤ 2 ^ height = pow-le-pow_right positive (omega arith) in
    omega (arith, pow-succ' 2 depth)

-- no level has more nodes than there are leaves
level_within : (depth under height : ℕ) → under + depth ≡ height → 2 ^ depth ≤ 2 ^ height
level_within depth under height is =
    let positive : 0 < 2 = omega arith in
    pow-le-pow_right positive (omega arith)

-- a sum of two at their numbers, however these are written
joined : (b c : ℕ → ℕ) (node left right from middle to from' to' : ℕ) → left ≡ 2 * node → right ≡ 2 * node + 1 → from' ≡ from → to' ≡ to
    → b from + c left ≡ b middle → b middle + c right ≡ b to → c node ≡ c (2 * node) + c (2 * node + 1) → b from' + c node ≡ b to'
joined b c node left right from middle to from' to' l r f t first second sum =
    let l' = ap c l in
    let r' = ap c r in
    let f' = ap b f in
    let t' = ap b t in
    omega arith

-- what a node counts: those that have something from its first leaf to its last one
counted : (given : List (Option ℕ)) (counts : List ℕ) (stale : ℕ) (tree : IsCountTreeBut given counts stale) (under depth index : ℕ)
    → under + depth ≡ tree.height → index < 2 ^ depth → stale < 2 ^ depth + index
    → before given (index * 2 ^ under) + node_count counts (2 ^ depth + index) ≡ before given ((index + 1) * 2 ^ under)
counted given counts stale tree zero depth index is inside fresh =
    let top : depth ≡ tree.height = omega arith in
    let leaf : node_count counts (2 ^ depth + index) ≡ one_if_some (get_or given index None) =
    subst (λ h. index < 2 ^ h → stale < 2 ^ h + index → node_count counts (2 ^ h + index) ≡ one_if_some (get_or given index None)) (sym top)
    (λ inside fresh. tree.leaves index inside (omega arith)) inside fresh in
    let more = before_more given index in
    let from : before given (index * 1) ≡ before given index = ap (before given) (omega arith) in
    let to : before given ((index + 1) * 1) ≡ before given (index + 1) = ap (before given) (omega arith) in
    omega arith
counted given counts stale tree (suc under) depth index is inside fresh =
    let left : before given ((2 * index) * 2 ^ under) + node_count counts (2 ^ suc depth + 2 * index) ≡ before given ((2 * index + 1) * 2 ^ under) =
    counted given counts stale tree under (suc depth) (2 * index) (omega arith) (omega (arith, pow-succ' 2 depth)) (omega (arith, pow-succ' 2 depth)) in
    let right : before given ((2 * index + 1) * 2 ^ under) + node_count counts (2 ^ suc depth + (2 * index + 1)) ≡ before given (((2 * index + 1) + 1) * 2 ^ under) =
    counted given counts stale tree under (suc depth) (2 * index + 1) (omega arith) (omega (arith, pow-succ' 2 depth)) (omega (arith, pow-succ' 2 depth)) in
    let below : 2 * 2 ^ depth ≤ 2 ^ tree.height = twice_within depth under tree.height is in
    let to : (index + 1) * 2 ^ suc under ≡ ((2 * index + 1) + 1) * 2 ^ under =
    doubled (index + 1) under ∙ ap (λ n. n * 2 ^ under) (omega arith) in
    joined (before given) (node_count counts) (2 ^ depth + index) _ _ _ _ _ _ _ (omega (arith, pow-succ' 2 depth)) (omega (arith, pow-succ' 2 depth))
    (doubled index under) to left right (tree.inner (2 ^ depth + index) (omega (arith, pow_pos depth)) (omega arith) (omega arith))

-- the root counts all
pub root : (given : List (Option ℕ)) (counts : List ℕ) → IsCountTree given counts → node_count counts 1 ≡ length (filter_map (λ value. value) given)
root given counts tree =
    let sum : before given (0 * 2 ^ tree.height) + node_count counts (2 ^ 0 + 0) ≡ before given ((0 + 1) * 2 ^ tree.height) =
    counted given counts 0 tree tree.height 0 0 (omega arith) (omega arith) (omega arith) in
    let zero_width : 0 * 2 ^ tree.height ≡ 0 = omega arith in
    let one_width : (0 + 1) * 2 ^ tree.height ≡ 2 ^ tree.height = omega arith in
    let from = ap (before given) zero_width in
    let to = ap (before given) one_width in
    let all : before given (2 ^ tree.height) ≡ length (filter_map (λ value. value) given) = ap (λ values. length (filter_map (λ value. value) values)) (take_all (2 ^ tree.height) given tree.room) in
    let none : before given 0 ≡ 0 = refl in
    omega arith

-- there is a root
pub root_inside : (given : List (Option ℕ)) (counts : List ℕ) → IsCountTree given counts → 1 < length counts
root_inside given counts tree = omega (arith, pow_pos tree.height, tree.nodes)

-- a node with a right count is no longer stale, and that above it is
mended : (given : List (Option ℕ)) (counts : List ℕ) (stale count : ℕ) (tree : IsCountTreeBut given counts stale) → 1 ≤ stale → stale < 2 * 2 ^ tree.height
    → (stale < 2 ^ tree.height → count ≡ node_count counts (2 * stale) + node_count counts (2 * stale + 1))
    → ((at : ℕ) → at < 2 ^ tree.height → 2 ^ tree.height + at ≡ stale → count ≡ one_if_some (get_or given at None))
    → IsCountTreeBut given (set counts stale count) (stale / 2)
mended given counts stale count tree low high inner leaf = record {
  height = tree.height;
  nodes = length-set counts stale count ∙ tree.nodes;
  room = tree.room;
  few = tree.few;
  inner = λ node positive small fresh.
      let left : node_count (set counts stale count) (2 * node) ≡ node_count counts (2 * node) = get_or-set_other counts stale (2 * node) count 0 (omega arith) in
      let right : node_count (set counts stale count) (2 * node + 1) ≡ node_count counts (2 * node + 1) =
      get_or-set_other counts stale (2 * node + 1) count 0 (omega arith) in
      ⊎_elim
      (λ same.
      let here : node_count (set counts stale count) node ≡ count = get_or-set_at counts stale node count 0 same (omega (arith, tree.nodes)) in
      let sum : count ≡ node_count counts (2 * node) + node_count counts (2 * node + 1) =
      subst (λ n. n < 2 ^ tree.height → count ≡ node_count counts (2 * n) + node_count counts (2 * n + 1)) (sym same) inner small in
      omega arith)
      (λ other.
      let here : node_count (set counts stale count) node ≡ node_count counts node = get_or-set_other counts stale node count 0 other in
      let sum = tree.inner node positive small other in
      omega arith)
      (cases_eq node stale);
  leaves = λ at small fresh.
      ⊎_elim
      (λ same. get_or-set_at counts stale (2 ^ tree.height + at) count 0 same (omega (arith, tree.nodes)) ∙ leaf at small same)
      (λ other. get_or-set_other counts stale (2 ^ tree.height + at) count 0 other ∙ tree.leaves at small other)
      (cases_eq (2 ^ tree.height + at) stale);
}

-- a node up to which the counts are right, where those above it are stale
pub record IsAbove (given : List (Option ℕ)) (counts : List ℕ) (node : ℕ) : Type 0 where
  pub tree : IsCountTreeBut given counts (node / 2)
  pub under : ℕ
  pub depth : ℕ
  pub index : ℕ
  pub levels : under + depth ≡ tree.height
  pub at : node ≡ 2 ^ depth + index
  pub inside : index < 2 ^ depth

-- a node below which the one that is looked for stands, with what is left of its position
pub record IsDown (given : List (Option ℕ)) (counts : List ℕ) (position node left : ℕ) : Type 0 where
  pub tree : IsCountTreeBut given counts 0
  pub under : ℕ
  pub depth : ℕ
  pub index : ℕ
  pub levels : under + depth ≡ tree.height
  pub at : node ≡ 2 ^ depth + index
  pub inside : index < 2 ^ depth
  pub passed : before given (index * 2 ^ under) + left ≡ position
  pub few : left < node_count counts node

-- the leaf is counted, and what stands above it is stale
pub above_first : (given : List (Option ℕ)) (counts : List ℕ) (at count : ℕ) → IsCountTreeBut given counts (length counts / 2 + at) → at < length given
    → count ≡ one_if_some (get_or given at None) → IsAbove given (set counts (length counts / 2 + at) count) (length counts / 2 + at)
unfolding mended
above_first given counts at count tree inside is =
    let width : length counts / 2 ≡ 2 ^ tree.height = omega (arith, tree.nodes) in
    record {
      tree = mended given counts (length counts / 2 + at) count tree (omega (arith, pow_pos tree.height)) (omega (arith, tree.room)) (λ small. absurd (omega arith))
          (λ other small same. is ∙ ap (λ n. one_if_some (get_or given n None)) (omega arith));
      under = 0;
      depth = tree.height;
      index = at;
      levels = omega arith;
      at = omega arith;
      inside = omega (arith, tree.room);
    }

-- the node above is counted, and what stands above that is stale
above_next_at : (given : List (Option ℕ)) (counts : List ℕ) (node : ℕ) (tree : IsCountTreeBut given counts (node / 2)) (under depth index : ℕ)
    → under + depth ≡ tree.height → node ≡ 2 ^ depth + index → index < 2 ^ depth → 1 < node
    → IsAbove given (set counts (node / 2) (node_count counts (2 * (node / 2)) + node_count counts (2 * (node / 2) + 1))) (node / 2)
unfolding mended
above_next_at given counts node tree under zero index levels at inside more = absurd (omega arith)
above_next_at given counts node tree under (suc depth) index levels at inside more =
    let top : 2 ^ suc depth ≤ 2 ^ tree.height = level_within (suc depth) under tree.height levels in
    record {
      tree = mended given counts (node / 2) (node_count counts (2 * (node / 2)) + node_count counts (2 * (node / 2) + 1)) tree (omega arith)
          (omega (arith, pow-succ' 2 depth)) (λ small. refl) (λ leaf small same. absurd (omega (arith, pow-succ' 2 depth)));
      under = suc under;
      depth = depth;
      index = index / 2;
      levels = omega arith;
      at = omega (arith, pow-succ' 2 depth);
      inside = omega (arith, pow-succ' 2 depth);
    }

pub above_next : (given : List (Option ℕ)) (counts : List ℕ) (node : ℕ) → IsAbove given counts node → 1 < node
    → IsAbove given (set counts (node / 2) (node_count counts (2 * (node / 2)) + node_count counts (2 * (node / 2) + 1))) (node / 2)
above_next given counts node above more = above_next_at given counts node above.tree above.under above.depth above.index above.levels above.at above.inside more

-- the two below it count no more than there are
above_fits_at : (given : List (Option ℕ)) (counts : List ℕ) (node : ℕ) (tree : IsCountTreeBut given counts (node / 2)) (under depth index : ℕ)
    → under + depth ≡ tree.height → node ≡ 2 ^ depth + index → index < 2 ^ depth → 1 < node
    → node_count counts (2 * (node / 2)) + node_count counts (2 * (node / 2) + 1) < 4294967296
above_fits_at given counts node tree under zero index levels at inside more = absurd (omega arith)
above_fits_at given counts node tree under (suc depth) index levels at inside more =
    let twice = pow-succ' 2 depth in
    let positive = pow_pos depth in
    let left = counted given counts (node / 2) tree under (suc depth) (2 * (index / 2)) levels (omega arith) (omega arith) in
    let right = counted given counts (node / 2) tree under (suc depth) (2 * (index / 2) + 1) levels (omega arith) (omega arith) in
    let bound = before_under given ((2 * (index / 2) + 1 + 1) * 2 ^ under) in
    let first : 2 * (node / 2) ≡ 2 ^ suc depth + 2 * (index / 2) = omega arith in
    let second : 2 * (node / 2) + 1 ≡ 2 ^ suc depth + (2 * (index / 2) + 1) = omega arith in
    let l = ap (node_count counts) first in
    let r = ap (node_count counts) second in
    let few = tree.few in
    omega arith

pub above_fits : (given : List (Option ℕ)) (counts : List ℕ) (node : ℕ) → IsAbove given counts node → 1 < node
    → node_count counts (2 * (node / 2)) + node_count counts (2 * (node / 2) + 1) < 4294967296
above_fits given counts node above more = above_fits_at given counts node above.tree above.under above.depth above.index above.levels above.at above.inside more

-- a node above which counts are stale is one of the tree
pub above_inside : (given : List (Option ℕ)) (counts : List ℕ) (node : ℕ) → IsAbove given counts node → node < length counts
above_inside given counts node above = omega (arith, level_within above.depth above.under above.tree.height above.levels, above.tree.nodes)

-- so are the two that stand below the same
above_pair_inside_at : (given : List (Option ℕ)) (counts : List ℕ) (node : ℕ) (tree : IsCountTreeBut given counts (node / 2)) (under depth index : ℕ)
    → under + depth ≡ tree.height → node ≡ 2 ^ depth + index → index < 2 ^ depth → 1 < node → 2 * (node / 2) + 1 < length counts
above_pair_inside_at given counts node tree under zero index levels at inside more = absurd (omega arith)
above_pair_inside_at given counts node tree under (suc depth) index levels at inside more =
    omega (arith, level_within (suc depth) under tree.height levels, pow-succ' 2 depth, tree.nodes)

pub above_pair_inside : (given : List (Option ℕ)) (counts : List ℕ) (node : ℕ) → IsAbove given counts node → 1 < node → 2 * (node / 2) + 1 < length counts
above_pair_inside given counts node above = above_pair_inside_at given counts node above.tree above.under above.depth above.index above.levels above.at above.inside

-- what is looked for stands below the root
pub down_first : (given : List (Option ℕ)) (counts : List ℕ) (position : ℕ) → IsCountTree given counts → position < node_count counts 1 → IsDown given counts position 1 position
down_first given counts position tree few =
    let zero_width : 0 * 2 ^ tree.height ≡ 0 = omega arith in
    record {
      tree = tree;
      under = tree.height;
      depth = 0;
      index = 0;
      levels = omega arith;
      at = omega arith;
      inside = omega arith;
      passed = let from = ap (before given) zero_width in let none : before given 0 ≡ 0 = refl in omega arith;
      few = few;
    }

-- it stands below the first of the two where that counts more than what is left
down_left_at : (given : List (Option ℕ)) (counts : List ℕ) (position node left : ℕ) (tree : IsCountTreeBut given counts 0) (under depth index : ℕ)
    → under + depth ≡ tree.height → node ≡ 2 ^ depth + index → index < 2 ^ depth → before given (index * 2 ^ under) + left ≡ position
    → node < length counts / 2 → left < node_count counts (node * 2) → IsDown given counts position (node * 2) left
down_left_at given counts position node left tree zero depth index levels at inside passed more few =
    let top : depth ≡ tree.height = omega arith in
    let width = ap (λ h. 2 ^ h) top in
    absurd (omega (arith, tree.nodes))
down_left_at given counts position node left tree (suc under) depth index levels at inside passed more few = record {
  tree = tree;
  under = under;
  depth = suc depth;
  index = 2 * index;
  levels = omega arith;
  at = omega (arith, pow-succ' 2 depth);
  inside = omega (arith, pow-succ' 2 depth);
  passed = let from = ap (before given) (doubled index under) in omega arith;
  few = few;
}

pub down_left : (given : List (Option ℕ)) (counts : List ℕ) (position node left : ℕ) → IsDown given counts position node left → node < length counts / 2
    → left < node_count counts (node * 2) → IsDown given counts position (node * 2) left
down_left given counts position node left down =
    down_left_at given counts position node left down.tree down.under down.depth down.index down.levels down.at down.inside down.passed

-- and below the second else, with as many fewer left
down_right_at : (given : List (Option ℕ)) (counts : List ℕ) (position node left : ℕ) (tree : IsCountTreeBut given counts 0) (under depth index : ℕ)
    → under + depth ≡ tree.height → node ≡ 2 ^ depth + index → index < 2 ^ depth → before given (index * 2 ^ under) + left ≡ position
    → left < node_count counts node → node < length counts / 2 → node_count counts (node * 2) ≤ left
    → IsDown given counts position (node * 2 + 1) (left - node_count counts (node * 2))
down_right_at given counts position node left tree zero depth index levels at inside passed few more many =
    let top : depth ≡ tree.height = omega arith in
    let width = ap (λ h. 2 ^ h) top in
    absurd (omega (arith, tree.nodes))
down_right_at given counts position node left tree (suc under) depth index levels at inside passed few more many =
    let twice = pow-succ' 2 depth in
    let positive = pow_pos depth in
    let first : before given ((2 * index) * 2 ^ under) + node_count counts (2 ^ suc depth + 2 * index) ≡ before given ((2 * index + 1) * 2 ^ under) =
    counted given counts 0 tree under (suc depth) (2 * index) (omega arith) (omega arith) (omega arith) in
    let place : node * 2 ≡ 2 ^ suc depth + 2 * index = omega arith in
    let swapped : 2 * node ≡ node * 2 = omega arith in
    let l = ap (node_count counts) place in
    let sum = tree.inner node (omega arith) (omega (arith, tree.nodes)) (omega arith) in
    let moved = ap (λ n. node_count counts n + node_count counts (n + 1)) swapped in
    let from = ap (before given) (doubled index under) in
    record {
      tree = tree;
      under = under;
      depth = suc depth;
      index = 2 * index + 1;
      levels = omega arith;
      at = omega arith;
      inside = omega arith;
      passed = omega arith;
      few = omega arith;
    }

pub down_right : (given : List (Option ℕ)) (counts : List ℕ) (position node left : ℕ) → IsDown given counts position node left → node < length counts / 2
    → node_count counts (node * 2) ≤ left → IsDown given counts position (node * 2 + 1) (left - node_count counts (node * 2))
down_right given counts position node left down =
    down_right_at given counts position node left down.tree down.under down.depth down.index down.levels down.at down.inside down.passed down.few

-- what stands at a leaf that was found
pub record IsFound (given : List (Option ℕ)) (position at : ℕ) : Type 0 where
  pub passed : before given at ≡ position
  pub some : (value : ℕ) × (get_or given at None ≡ Some value)

-- a leaf below which it stands is the one that is looked for
found_at : (given : List (Option ℕ)) (counts : List ℕ) (position node left : ℕ) (tree : IsCountTreeBut given counts 0) (under depth index : ℕ)
    → under + depth ≡ tree.height → node ≡ 2 ^ depth + index → index < 2 ^ depth → before given (index * 2 ^ under) + left ≡ position
    → left < node_count counts node → length counts / 2 ≤ node → IsFound given position (node - length counts / 2)
found_at given counts position node left tree zero depth index levels at inside passed few more =
    let top : depth ≡ tree.height = omega arith in
    let width = ap (λ h. 2 ^ h) top in
    let place : node ≡ 2 ^ tree.height + index = omega arith in
    let leaf_place : node - length counts / 2 ≡ index = omega (arith, tree.nodes) in
    let leaf = tree.leaves index (omega arith) (omega (arith, pow_pos tree.height)) in
    let here = ap (node_count counts) place in
    let one_width : index * 1 ≡ index = omega arith in
    let from = ap (before given) one_width in
    let one = one_or_none (get_or given index None) in
    subst (IsFound given position) (sym leaf_place) (record { passed = omega arith; some = some_if (get_or given index None) (omega arith) })
found_at given counts position node left tree (suc under) depth index levels at inside passed few more =
    absurd (omega (arith, twice_within depth under tree.height levels, tree.nodes))

pub found : (given : List (Option ℕ)) (counts : List ℕ) (position node left : ℕ) → IsDown given counts position node left → length counts / 2 ≤ node
    → IsFound given position (node - length counts / 2)
found given counts position node left down =
    found_at given counts position node left down.tree down.under down.depth down.index down.levels down.at down.inside down.passed down.few

-- what has something is inside
inside_if : (given : List (Option ℕ)) (at value : ℕ) → get_or given at None ≡ Some value → at < length given
inside_if given at value is =
    ⊎_elim
    (λ inside. inside)
    (λ past. let none : get_or given at None ≡ None = get_or_past given at None past in cc)
    (cases_lt at (length given))

-- a leaf that was found is inside
pub found_inside : (given : List (Option ℕ)) (position at : ℕ) → IsFound given position at → at < length given
found_inside given position at is = inside_if given at is.some.0 is.some.1

-- what was found is the one at the position
pub found_some : (given : List (Option ℕ)) (position at value : ℕ) → IsFound given position at → get_or given at None ≡ Some value
    → (slice_get given at ≡ Some (Some value)) × (slice_get (filter_map (λ value. value) given) position ≡ Some value) × (before given at ≡ position)
found_some given position at value is here = (
  slice_get-get_or given at None (inside_if given at value here) ∙ ap Some here,
  subst (λ p. slice_get (filter_map (λ value. value) given) p ≡ Some value) is.passed (standing given at value here),
  is.passed,
)

-- the count of a leaf
pub leaf_count : (given : Option ℕ) (some : Bool) (count : ℕ) → some ≡ is_some given → count ≡ bool_byte some → count ≡ one_if_some given
leaf_count (Some value) some count is counts = counts ∙ ap bool_byte is
leaf_count None some count is counts = counts ∙ ap bool_byte is
