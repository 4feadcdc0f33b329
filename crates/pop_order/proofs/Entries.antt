-- The order of the entries of a set of children.
use Rattle.std.proofs.Common.{◌≡◌, ℕ, ◌≤◌, Bool, true, false, ◌&&◌, ◌||◌, not, cond, ap, arith}
use Rattle.std.specs.Ordering.{is_gt, is_eq}
use Rattle.std.proofs.lemmas.Bool.Decides.{nat_tests}
use Rattle.pop_order.specs.Children.{ChildEntry, entry_cmp, IsNotAfter, is_entry}

-- which entries are equal in the order
pub is_eq-entry_cmp : (parent queue child p q c : ℕ) → is_eq (entry_cmp (parent, queue, child) (p, q, c)) ≡ is_entry parent queue child p q c
is_eq-entry_cmp parent queue child p q c = grind (arith, nat_tests)

-- whether one is in after it, or another, came in
pub with_one : (b same was now : Bool) → b ≡ same → now ≡ cond b true was → now ≡ (same || was)
with_one true same was now e h = cc (ap (λ x. x || was) e)
with_one false same was now e h = cc (ap (λ x. x || was) e)

-- whether one is in after it, or another, went out
pub without_one : (b same was now : Bool) → b ≡ same → now ≡ cond b false was → now ≡ (not same && was)
without_one true same was now e h = cc (ap (λ x. not x && was) e)
without_one false same was now e h = cc (ap (λ x. not x && was) e)

-- what is in after an entry came in
pub inserted : (parent queue child p q c : ℕ) (was now : Bool) → now ≡ cond (is_eq (entry_cmp (parent, queue, child) (p, q, c))) true was → now ≡ (is_entry parent queue child p q c || was)
inserted parent queue child p q c was now h = with_one _ _ was now (is_eq-entry_cmp parent queue child p q c) h

-- what is in after an entry went out
pub removed : (parent queue child p q c : ℕ) (was now : Bool) → now ≡ cond (is_eq (entry_cmp (parent, queue, child) (p, q, c))) false was → now ≡ (not (is_entry parent queue child p q c) && was)
removed parent queue child p q c was now h = without_one _ _ was now (is_eq-entry_cmp parent queue child p q c) h

-- an entry that stands between two of one parent and one queue is of both, and its child is no younger
pub between : (e : ChildEntry) (parent queue child : ℕ) → IsNotAfter (parent, queue, 0) e → IsNotAfter e (parent, queue, child) → (e.0 ≡ parent) × (e.1 ≡ queue) × (e.2 ≤ child)
unfolding IsNotAfter
between e parent queue child from upto = (grind (arith, nat_tests), grind (arith, nat_tests), grind (arith, nat_tests))

-- no child of a parent and a queue stands before the number 0
pub from_zero : (parent queue child : ℕ) → is_gt (entry_cmp (parent, queue, 0) (parent, queue, child)) ≡ false
from_zero parent queue child = grind (arith, nat_tests)

pub ruleset of_one_parent = (between)
