use Rattle.std.proofs.Common.{ℕ}
use Rattle.pop_order.specs.Kept.{HasHolders}
use Rattle.swan_model.specs.declared.rights.Mode.TheVariants.{Push, Pop}
use Rattle.pop_order.proofs.Growing.{givers_noted}
use Rattle.pop_order.proofs.Noted.{holders_noted}
use Rattle.pop_order.proofs.sets.Sets.add.Goals as goal

pub returns : goal.returns
returns c = λ before grown kept queue.
    let after = c.args.frames.now.entries in
    let more = c.note-2.new.set in
    let pushes : (q : ℕ) → HasHolders after Push q more = λ q. holders_noted before after c.args.parent c.args.child c.args.holding grown Push q c.args.self.now.pushers c.note-2.new.set (kept q).pushes c.in_ok-note-2.ensures.noted c.in_ok-note-2.ensures.kept in
    record {
      pops = holders_noted before after c.args.parent c.args.child c.args.holding grown Pop queue c.args.self.now.poppers c.note.new.set (kept queue).pops c.in_ok-note.ensures.noted c.in_ok-note.ensures.kept;
      pushes = pushes queue;
      gives = givers_noted before after c.args.parent c.args.child c.args.holding grown queue c.args.self.now.pushers c.note-2.new.set
          (kept queue).pushes (pushes queue) c.args.self.now.givers c.note_giver.new.givers (kept queue).gives
          (c.in_ok-note_giver.ensures (pushes c.args.holding.number));
    }
