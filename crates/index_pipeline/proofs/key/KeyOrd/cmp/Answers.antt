-- Bytes are bytes.
use Rattle.std.proofs.Common.{arith}
use Rattle.index_pipeline.proofs.key.KeyOrd.cmp.Goals as goal

pub order_of-requires-clause-bytes : goal.order_of-requires-clause-bytes
order_of-requires-clause-bytes c = λ k. omega (arith, c.type_inv.word k)

pub order_of-requires-clause-other_bytes : goal.order_of-requires-clause-other_bytes
order_of-requires-clause-other_bytes c = λ k. omega (arith, c.type_inv.other_word k)
