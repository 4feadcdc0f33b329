-- Bytes are bytes.
use Rattle.std.proofs.Common.{arith}
use Rattle.swan_reducers.specs.SumBytes.{part_by_length}
use Rattle.swan_reducers.proofs.sum_reducer.is_sum_part.Goals as goal

pub returns : goal.returns
returns c = part_by_length c.args.bytes.now (λ k. omega (arith, c.type_inv.bytes k))
