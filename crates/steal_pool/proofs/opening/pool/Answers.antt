use Rattle.std.proofs.Common.{arith, map}
use Rattle.std.proofs.lemmas.List.{length-map}
use Rattle.std.proofs.lemmas.Option.{slice_get_within}
use Rattle.steal_pool.specs.Seats.{known, own_deque}
use Rattle.steal_pool.proofs.Rounds.{all_known, each_by}
use Rattle.steal_pool.proofs.opening.pool.Goals as goal

pub returns-clause-others : goal.returns-clause-others
returns-clause-others g c i seat is = let seats = c.loop-round.seats.items in let many = length-map seats (own_deque {G = g.T.Named}) in let here = slice_get_within seats i seat is in
    each_by known seats i seat _ is (all_known (map own_deque seats) (map known seats) _ (omega arith) c.loop-round.invariant.2 i (omega arith))
