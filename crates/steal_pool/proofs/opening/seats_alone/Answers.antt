use Rattle.std.proofs.Common.{rules, ◌≡◌, [], arith, sym, subst, All}
use Rattle.std.proofs.lemmas.List.{length-map}
use Rattle.std.proofs.lemmas.List.Elements.{All-push}
use Rattle.steal_pool.specs.Seats.{IsNewSeat, known, own_deque}
use Rattle.steal_pool.proofs.Rounds.{all_stand}
use Rattle.steal_pool.proofs.opening.seats_alone.Goals as goal

pub loop-turn-preserved : goal.loop-turn-preserved
loop-turn-preserved g c = let are = IsNewSeat (g.T.Named.name c.args.like.now) in (
  search rules,
  search rules,
  subst (All are) (sym c.push_reserved.ensures.items) (All-push are _ _ c.loop-turn.invariant.2 c.in_ok-alone.ensures.new),
  subst (All (λ seat. known seat ≡ [])) (sym c.push_reserved.ensures.items) (All-push (λ seat. known seat ≡ []) _ _ c.loop-turn.invariant.3 c.in_ok-alone.ensures.alone),
)

pub returns-clause-alone : goal.returns-clause-alone
returns-clause-alone g c i here =
    let deques = length-map c.loop-turn.seats.items (own_deque {G = g.T.Named}) in let lists = length-map c.loop-turn.seats.items (known {G = g.T.Named}) in
    all_stand known [] c.loop-turn.seats.items c.loop-turn.invariant.3 i (omega (arith, here))
