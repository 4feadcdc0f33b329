use Rattle.std.proofs.Common.{subst, sym}
use Rattle.swan_model.specs.QueueState.{QueueState}
use Rattle.queue_book.specs.Whole.{IsBook}
use Rattle.queue_book.proofs.book.BookQueues.new.Goals as goal

pub invariant_of-result : goal.invariant_of-result
invariant_of-result c =
    let store = c.new.result in
    let P : QueueState → Type 0 = λ state. IsBook c.args.name state store.frames store.chains.heads.items store.chains.nodes store.turns in
    subst P (sym c.of.ensures) (c.new.ensures c.args.name)
