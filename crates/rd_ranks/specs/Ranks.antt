-- Counts over what each of many has: this project's profile.
use Rattle.std.specs.Prelude.{◌≡◌, ◌≢◌, ℕ, ◌+◌, ◌*◌, ◌^◌, ◌<◌, ◌≤◌, List, Option, Some, None, length, slice_index_or}

-- 1 where something is given
abbrev pub one_if_some : Option ℕ → ℕ
one_if_some (Some value) = 1
one_if_some None = 0

-- the count at a node
abbrev pub node_count : List ℕ → ℕ → ℕ
node_count counts node = slice_index_or counts node 0

-- the counts are a binary tree over what is given, but for the one at this node: an inner node has the sum of the two below it, and a leaf
-- has 1 where something is given there
pub record IsCountTreeBut (given : List (Option ℕ)) (counts : List ℕ) (stale : ℕ) : Type 0 where
  pub height : ℕ
  pub nodes : length counts ≡ 2 * 2 ^ height
  pub room : length given ≤ 2 ^ height
  pub few : length given < 4294967296
  pub inner : (node : ℕ) → 1 ≤ node → node < 2 ^ height → node ≢ stale
      → node_count counts node ≡ node_count counts (2 * node) + node_count counts (2 * node + 1)
  pub leaves : (at : ℕ) → at < 2 ^ height → (2 ^ height + at) ≢ stale
      → node_count counts (2 ^ height + at) ≡ one_if_some (slice_index_or given at None)

-- the counts are a binary tree over what is given
abbrev pub IsCountTree : List (Option ℕ) → List ℕ → Type 0
IsCountTree given counts = IsCountTreeBut given counts 0
