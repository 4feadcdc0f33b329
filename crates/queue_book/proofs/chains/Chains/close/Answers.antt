use Rattle.std.proofs.Common.{◌≡◌, Some, None, sym, subst}
use Rattle.slab.specs.Slab.{get, with_value}
use Rattle.queues.specs.Chunks.{after_close}
use Rattle.queue_book.specs.Chains.{Link, AreChained, in_line, put_at}
use Rattle.queue_book.proofs.ChainKept.{updates_with}
use Rattle.queue_book.proofs.ChainChanges.{chained_close}
use Rattle.queue_book.proofs.chains.Chains.close.Goals as goal

pub returns-clause-closed : goal.returns-clause-closed
returns-clause-closed c at lines is owner queue mine =
    let heads = c.args.self.now.heads.items in
    let nodes = c.args.self.now.nodes in
    let key = c.args.key in
    let link : Link = c.in-Some.node.now in
    let new : Link = record link { owner = None } in
    let stands : get nodes key ≡ Some link = sym c.in-Some.ensures.value in
    let P : Link → Type 0 = λ l. AreChained (put_at owner queue None at) heads (with_value nodes key l) (in_line queue (after_close owner) lines) in
    subst P (sym c.close.ensures) (chained_close at heads nodes lines is owner queue key mine (with_value nodes key new) link stands (updates_with nodes key link new stands))
