use Rattle.std.proofs.Common.{◌≡◌, ℕ, Bool, false, Option, Some, List, sym, subst}
use Rattle.std.specs.BTreeMap.{insert_entry}
use Rattle.std.specs.Ordering.{nat_cmp}
use Rattle.queues.specs.Chunks.{after_hand_on}
use Rattle.queue_book.specs.Chains.{AreChained, in_line, put_at}
use Rattle.queue_book.specs.Handed.{IsHandedIn}
use Rattle.swan_model.specs.declared.rights.Mode.TheVariants.{Push}
use Rattle.swan_model.specs.QueueState.{QueueRight}
use Rattle.swan_model.specs.Rights.{allows}
use Rattle.queue_book.proofs.LiveKept.{placed_there}
use Rattle.queue_book.proofs.store.QueueStore.give.Goals as goal

pub returns-clause-given : goal.returns-clause-given
returns-clause-given c =
    let q = c.one.inside.queue in
    let parent = c.args.parent in
    let child = c.args.child in
    let Handed : QueueRight → Type 0 = λ one.
    IsHandedIn c.args.self.now.frames c.put.new.self parent child one.queue (allows one.mode Push) c.args.own_chunks.now.entries c.insert.new.self.entries c.args.self.now.chains.heads.items
    c.args.self.now.chains.nodes c.hand_on.new.self.nodes in
    let Given : Bool → Type 0 = λ b.
    c.insert.new.self.entries ≡ insert_entry nat_cmp c.args.own_chunks.now.entries q (record { key = c.in-Some.own.key; is_maker = false; pushes = b }) in
    subst Handed c.one.view_is (record {
      new = c.in_ok-new.new;
      own_chunk = c.in-Some.own;
      was = sym c.in-Some.ensures;
      parent_now = c.in_ok-put.ensures;
      child_now = subst Given c.allows.ensures c.in_ok-insert.ensures.entries;
      chained = λ at lines is mine free.
          let P : List (Option ℕ) → Type 0 = λ hs.
          AreChained (put_at parent q (Some c.in_ok-new.new) (put_at child q (Some c.in-Some.own.key) at)) hs c.hand_on.new.self.nodes (in_line q (after_hand_on parent child) lines) in
          subst P c.hand_on.ensures.heads (c.in_ok-new.ensures.handed at lines is q mine free);
    })

pub put-requires : goal.put-requires
put-requires c = placed_there c.args.self.now.frames c.args.parent c.one.inside.queue c.in-Some.own (sym c.in-Some.ensures)
