use Rattle.std.proofs.Common.{subst, sym}
use Rattle.swan_model.specs.QueueState.{QueueState}
use Rattle.queue_book.specs.Whole.{IsBook}
use Rattle.queue_book.proofs.PlainStart.{book_none}
use Rattle.queue_book.proofs.store.QueueStore.clear.Goals as goal

pub returns : goal.returns
returns c name =
    let P : QueueState → Type 0 = λ state. IsBook name state c.clear.new.self c.clear-2.new.self.heads.items c.clear-2.new.self.nodes c.new.result in
    subst P (sym c.of.ensures) (book_none name c.clear.new.self c.clear-2.new.self.heads.items c.clear-2.new.self.nodes c.new.result
    c.clear.ensures c.clear-2.ensures.none c.clear-2.ensures.kept c.new.ensures)
