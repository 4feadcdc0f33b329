use Rattle.queue_book.proofs.PlainStart.{book_new}
use Rattle.queue_book.proofs.store.QueueStore.new.Goals as goal

pub returns : goal.returns
returns c name = book_new name c.new.result c.new-2.result.heads.items c.new-2.result.nodes c.new-3.result
    c.new.ensures.root c.new.ensures.others c.new-2.ensures.none c.new-2.ensures.kept c.new-3.ensures
