use Rattle.std.proofs.Common.{arith}
use Rattle.job_reader.proofs.block.OpenBlocks.len.Goals as goal

pub returns-clause-small : goal.returns-clause-small
returns-clause-small c =
    omega (arith, c.self.inside.from_outside.small, c.self.inside.from_outside.ok.0, c.self.inside.from_outside.ok.1)
