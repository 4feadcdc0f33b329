use Rattle.std.proofs.Common.{rules, ◌++◌, ◌∷◌, [], ap, sym, ◌∙◌}
use Rattle.steal_pool.specs.Peers.{peer_deque, stolen_from}
use Rattle.steal_pool.proofs.Keeps.{unraised}
use Rattle.steal_pool.proofs.Rounds.{noted, same_by}
use Rattle.steal_pool.proofs.finding.steal_any.Goals as goal

pub loop-i-preserved : goal.loop-i-preserved
loop-i-preserved g c = let i = c.loop-i.invariant in (
  search rules,
  search rules,
  search rules,
  unraised stolen_from c.loop-i.peers.items c.loop-i.i c.steal.new.self c.index_mut-peer.result.now (search rules) (search rules) ∙ i.3,
  same_by peer_deque _ _ _ c.index_mut-peer.result.now (search rules) ∙ i.4,
  c.in_default.ensures.none.1 ∙ (ap (λ l. l ++ peer_deque c.index_mut-peer.result.now ∷ []) i.5 ∙ sym (noted peer_deque _ _ i.4 _ c.index_mut-peer.result.now (search rules) (search rules))),
)
