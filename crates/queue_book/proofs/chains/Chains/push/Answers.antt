use Rattle.std.proofs.Common.{◌≡◌, ◌++◌, Some, [], ◌∷◌, sym, subst}
use Rattle.slab.specs.Slab.{get, with_value}
use Rattle.queues.specs.Chunks.{with_item}
use Rattle.queue_book.specs.Chains.{Link, AreChained, in_line}
use Rattle.queue_book.proofs.ChainKept.{updates_with}
use Rattle.queue_book.proofs.ChainChanges.{chained_push}
use Rattle.queue_book.proofs.chains.Chains.push.Goals as goal

pub returns-clause-pushed : goal.returns-clause-pushed
returns-clause-pushed c at lines is owner queue mine =
    let heads = c.args.self.now.heads.items in
    let nodes = c.args.self.now.nodes in
    let key = c.args.key in
    let link : Link = c.in-Some.node.now in
    let new : Link = record link { items = link.items ++ c.args.value ∷ [] } in
    let stands : get nodes key ≡ Some link = sym c.in-Some.ensures.value in
    let P : Link → Type 0 = λ l. AreChained at heads (with_value nodes key l) (in_line queue (with_item owner c.args.value) lines) in
    subst P (sym c.in_ok-push.ensures) (chained_push at heads nodes lines is owner queue key mine (with_value nodes key new) link c.args.value stands (updates_with nodes key link new stands))
