use Rattle.std.proofs.Common.{◌≡◌, false, take}
use Rattle.queue_book.specs.Handed.{AreGiven}
use Rattle.queue_book.proofs.store.QueueStore.spawn.Given as goal

abbrev pub invariant-loop-one : goal.invariant-loop-one
invariant-loop-one l = record {
  deeds : l.frame-inside.deeds ≡ 0;
  lent : l.frame-inside.is_lent ≡ false;
  heads : l.self.chains.heads.items ≡ l.initial.self.chains.heads.items;
  given : AreGiven l.initial.self.frames l.self.frames l.parent l.child (take l.one-index l.gives) l.frame-inside.own_chunks.entries l.initial.self.chains.heads.items l.initial.self.chains.nodes l.self.chains.nodes
      l.initial.self.turns l.self.turns;
}
