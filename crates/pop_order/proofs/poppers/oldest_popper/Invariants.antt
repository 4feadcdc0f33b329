use Rattle.std.proofs.Common.{◌≡◌, ℕ, ◌≤◌, ◌⊎◌, take}
use Rattle.pop_order.specs.Poppers.{IsAmong}
use Rattle.pop_order.proofs.poppers.oldest_popper.Given as goal

abbrev pub invariant-loop-holding : goal.invariant-loop-holding
invariant-loop-holding l = record {
  at_most : l.oldest ≤ l.child;
  found : (l.oldest ≡ l.child) ⊎ IsAmong l.poppers l.parent (take l.holding-index l.holdings) l.oldest;
  least : (number : ℕ) → IsAmong l.poppers l.parent (take l.holding-index l.holdings) number → l.oldest ≤ number;
}
