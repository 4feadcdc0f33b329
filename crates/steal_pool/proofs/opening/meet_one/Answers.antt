use Rattle.std.proofs.Common.{rules, ap, sym, ◌∙◌, Some, set, map}
use Rattle.std.proofs.lemmas.List.{map-set}
use Rattle.steal_pool.specs.Seats.{known}
use Rattle.steal_pool.proofs.Rounds.{stands_by}
use Rattle.steal_pool.proofs.opening.meet_one.Goals as goal

pub returns-clause-met : goal.returns-clause-met
returns-clause-met g c = let seat = c.index_mut-seat.result.now in let seats = c.args.seats.now.items in let at = c.index_mut-seat.ensures.value in (
  known seat,
  stands_by known seats c.args.place seat (search rules) ∙ ap (λ s. Some (known s)) (sym at),
  map-set known seats c.args.place _ ∙ ap (λ l. set (map known seats) c.args.place l) (search rules),
)
