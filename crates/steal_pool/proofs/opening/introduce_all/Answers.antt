use Rattle.std.proofs.Common.{rules, ◌∙◌, arith, map}
use Rattle.std.proofs.lemmas.List.{length-map}
use Rattle.steal_pool.specs.Seats.{own_deque}
use Rattle.steal_pool.proofs.Rounds.{meets_next}
use Rattle.steal_pool.proofs.opening.introduce_all.Goals as goal

pub loop-thief-preserved : goal.loop-thief-preserved
loop-thief-preserved g c = let i = c.loop-thief.invariant in let many = length-map c.args.seats.now.items (own_deque {G = g.T.Named}) in (
  search rules,
  search rules,
  c.in_ok-introduce.ensures.seats,
  c.in_ok-introduce.ensures.deques ∙ i.3,
  meets_next (map own_deque c.args.seats.now.items) _ _ i.3 (omega (arith, many)) _ _ _ _ (omega arith) (omega arith) i.4 c.in_ok-introduce.ensures.met,
)
