use Rattle.std.proofs.Common.{ap}
use Rattle.queue_book.specs.BookView.{BookView}
use Rattle.queue_tests.proofs.Lending.{root_lends}
use Rattle.queue_tests.proofs.tests.queues_and_ends_may_be_sent.Goals as goal

pub lend-requires : goal.lend-requires
lend-requires c = record { may = root_lends c.book-queues.result.state (ap (λ (v : BookView). v.state) c.book-queues.ensures) }
