use Rattle.std.proofs.Common.{◌++◌, List, refl, ap, ◌∙◌}
use Rattle.swan_model.specs.declared.value.Value.{Value}
use Rattle.queues.specs.Chunks.{items_in}
use Rattle.queue_book.proofs.ChainLoops.{left_none, moved_drop}
use Rattle.queue_book.proofs.chains.Chains.take_all.Goals as goal

pub loop-node-init : goal.loop-node-init
loop-node-init c = record {
  same = refl;
  kept = λ at lines is none. record {
    left = left_none at lines c.args.queue c.args.self.now.heads.items c.args.self.now.nodes is;
    moved = ap (λ (vs : List Value). vs ++ items_in (lines c.args.queue)) c.new-items.ensures;
  };
}

pub loop-node-preserved : goal.loop-node-preserved
loop-node-preserved c = record {
  same = c.drop_first.ensures.same ∙ c.loop-node.invariant.same;
  kept = λ at lines is none.
      let was = c.loop-node.invariant.kept at lines is none in
      let now = was.left.now in
      moved_drop at lines c.args.queue c.args.self.now.nodes c.loop-node.self.heads.items c.drop_first.new.self.heads.items c.loop-node.self.nodes c.drop_first.new.self.nodes c.in-Some.ensures.fewer
      c.loop-node.items c.move_to.new.items was c.in-Some.node (c.in-Some.ensures.first at now was.left.kept) c.in_ok-move_to.ensures
      (c.in-Some.ensures.dropped at now was.left.kept (c.in-Some.ensures.unowned at now was.left.kept none));
}

pub drop_first-requires-clause-kept : goal.drop_first-requires-clause-kept
drop_first-requires-clause-kept c =
    let unowned = c.requires.unowned in
    let left = (c.loop-node.invariant.kept unowned.0 unowned.1 unowned.2 unowned.3).left in
    (unowned.0, left.now, left.kept)
