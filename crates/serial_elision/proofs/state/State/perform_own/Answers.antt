-- The clause of a spawn holds at each number of a step, so at this one.
use Rattle.std.proofs.Common.{rules}
use Rattle.serial_elision.proofs.state.State.perform_own.Goals as goal

pub returns-in-Spawn-clause-effect : goal.returns-in-Spawn-clause-effect
returns-in-Spawn-clause-effect g c = let at = c.spawn.ensures.effect c.args.self.now.steps in search rules
