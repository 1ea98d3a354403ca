-- How a text is held.
use Rattle.std.specs.Prelude.{List, ℕ}
use Rattle.rd_base.specs.declared.values.Block.{Block}
use Rattle.rd_base.specs.declared.values.Block.TheVariants.{Few, Many}

-- the bytes that lie in a block, or elsewhere
unfoldable pub block_bytes : Block → List ℕ
block_bytes (Few few) = few.items
block_bytes (Many many) = many.items
