use Rattle.std.proofs.Common.{◌≡◌, [], ◌∷◌, drop, refl, sym, ap, ◌∙◌}
use Rattle.queues.specs.Chunks.{Chunk}
use Rattle.queue_book.specs.Chains.{chunk_of}
use Rattle.queue_book.proofs.ChainLoops.{left_none, trimmed_drop}
use Rattle.queues.proofs.ChunkOwners.{spent_unowned}
use Rattle.queue_book.proofs.chains.Chains.trim.Goals as goal

pub loop-front-init : goal.loop-front-init
loop-front-init c = record {
  same = refl;
  kept = λ at lines is. record { left = left_none at lines c.args.queue c.args.self.now.heads.items c.args.self.now.nodes is; same = refl };
}

pub loop-front-preserved : goal.loop-front-preserved
loop-front-preserved c = record {
  same = c.drop_first.ensures.same ∙ c.loop-front.invariant.same;
  kept = λ at lines is.
      let was = c.loop-front.invariant.kept at lines is in
      let now = was.left.now in
      let spent = c.in_default.ensures.spent at now was.left.kept in
      let node = c.in-Some-drop_first._spent in
      let first = c.in-Some-drop_first.ensures.first at now was.left.kept in
      let are : chunk_of node ∷ drop 1 (now c.args.queue) ≡ spent.0 ∷ spent.1 = sym first ∙ spent.2 in
      let chunk_is : chunk_of node ≡ spent.0 = cc in
      trimmed_drop at lines c.args.queue c.args.self.now.nodes c.loop-front.self.heads.items c.drop_first.new.self.heads.items c.loop-front.self.nodes c.drop_first.new.self.nodes c.in-Some-drop_first.ensures.fewer
      was spent.0 spent.1 spent.2 spent.3 (c.in-Some-drop_first.ensures.dropped at now was.left.kept (ap (λ (ch : Chunk). ch.owner) chunk_is ∙ spent_unowned spent.0 spent.3));
}

pub front-requires-clause-kept : goal.front-requires-clause-kept
front-requires-clause-kept c =
    let kept = c.requires.kept in
    let was = c.loop-front.invariant.kept kept.0 kept.1 kept.2 in
    (kept.0, was.left.now, was.left.kept)

pub unreachable-requires : goal.unreachable-requires
unreachable-requires c =
    let kept = c.requires.kept in
    let was = c.loop-front.invariant.kept kept.0 kept.1 kept.2 in
    let spent = c.in_default.ensures.spent kept.0 was.left.now was.left.kept in
    let never : [] ≡ spent.0 ∷ spent.1 = sym (c.in_default-drop_first.ensures.none kept.0 was.left.now was.left.kept).0 ∙ spent.2 in
    cc

pub drop_first-requires-clause-kept : goal.drop_first-requires-clause-kept
drop_first-requires-clause-kept c =
    let kept = c.requires.kept in
    let was = c.loop-front.invariant.kept kept.0 kept.1 kept.2 in
    (kept.0, was.left.now, was.left.kept)
