-- How many places, queues and objects a plan begins with.
use Rattle.std.proofs.Common.{◌≡◌, ℕ, ◌+◌, ◌≤◌, List, [], ◌∷◌, ◌++◌, length, refl, ap, arith, length-append}
use Rattle.swan_model.specs.declared.plan.RootQueue.{RootQueue}
use Rattle.swan_model.specs.declared.value.Value.{Value}
use Rattle.swan_model.specs.Elision.{root_holdings, queue_holdings, object_holdings, first_queues, first_cells}
use Rattle.swan_model.specs.Roots.{RootLists}
use Rattle.swan_model.specs.SerialState.{Cell, Queue}

pub length-queue_holdings : (i : ℕ) (queues : List RootQueue) → length (queue_holdings i queues) ≡ length queues
length-queue_holdings i [] = refl
length-queue_holdings i (queue ∷ queues) = omega (arith, length-queue_holdings (i + 1) queues)

pub length-object_holdings : (i : ℕ) (values : List Value) → length (object_holdings i values) ≡ length values
length-object_holdings i [] = refl
length-object_holdings i (value ∷ values) = omega (arith, length-object_holdings (i + 1) values)

pub length-first_queues : (i : ℕ) (queues : List RootQueue) → length (first_queues i queues) ≡ length queues
length-first_queues i [] = refl
length-first_queues i (queue ∷ queues) = omega (arith, length-first_queues (i + 1) queues)

pub length-first_cells : (i : ℕ) (values : List Value) → length (first_cells i values) ≡ length values
length-first_cells i [] = refl
length-first_cells i (value ∷ values) = omega (arith, length-first_cells (i + 1) values)

-- the queues and objects that are made already are no more than those that the plan has
pub le-first_queues : (made rest : List Queue) (queues : List RootQueue) → made ++ rest ≡ first_queues 0 queues → length made ≤ length queues
le-first_queues made rest queues e = omega (arith, simp length-append at (ap length e), length-first_queues 0 queues)

pub le-first_cells : (made rest : List Cell) (values : List Value) → made ++ rest ≡ first_cells 0 values → length made ≤ length values
le-first_cells made rest values e = omega (arith, simp length-append at (ap length e), length-first_cells 0 values)

pub length-root_holdings : (roots : RootLists) → length (root_holdings roots) ≡ length roots.queues + length roots.objects
length-root_holdings roots =
    omega (arith, length-append (queue_holdings 0 roots.queues) (object_holdings 0 roots.objects), length-queue_holdings 0 roots.queues, length-object_holdings 0 roots.objects)
