use Rattle.std.proofs.Common.{sym, ◌∙◌}
use Rattle.swan_runtime.specs.Beds.{is_live}
use Rattle.swan_runtime.proofs.Bedding.{found_at, found_later}
use Rattle.swan_runtime.proofs.asleep.Asleep.first_live.Goals as goal

pub returns-then-contains_key : goal.returns-then-contains_key
returns-then-contains_key g c =
    sym (found_at (is_live c.args.self.now) c.args.numbers.now c.loop-number.number-index c.loop-number.invariant c.loop-number-test.true (sym c.contains_key.ensures ∙ c.if-contains_key.true))

pub loop-number-preserved : goal.loop-number-preserved
loop-number-preserved g c =
    found_later (is_live c.args.self.now) c.args.numbers.now c.loop-number.number-index c.loop-number.invariant c.loop-number-test.true (sym c.contains_key.ensures ∙ c.if-contains_key.false)
