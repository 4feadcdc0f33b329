use Rattle.std.proofs.Common.{arith}
use Rattle.core_tests.proofs.Coming.{taken-comes}
use Rattle.core_tests.proofs.local_steps.only_frame.Goals as goal

pub returns : goal.returns
returns g c = taken-comes g.Q.Ends.LocalEnds.run c.args.core.now c.args.frames.now.items 0 c.remove.result c.requires (omega arith) c.remove.ensures.value
