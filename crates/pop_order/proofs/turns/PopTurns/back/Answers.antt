use Rattle.std.proofs.Common.{sym, ap, ◌∙◌}
use Rattle.pop_order.specs.Frames.{TurnFrame}
use Rattle.pop_order.proofs.Enlisting.{below_shrunk}
use Rattle.pop_order.proofs.Returning.{is_shrunk, holds_no_other}
use Rattle.pop_order.proofs.turns.PopTurns.back.Goals as goal

pub invariant_of-self : goal.invariant_of-self
invariant_of-self c =
    let frames = c.self.inside.frames.entries in
    let after = c.remove.new.self.entries in
    let none = rw (← c.self.view_is) at c.requires in
    let shrunk = is_shrunk frames after c.args.child c.frame.inside.parent c.in-Some.frame c.deref.result.now (sym c.in-Some.ensures.value)
    c.self.invariant.sorted (ap (λ (f : TurnFrame). f.parent) (sym c.frame.view_is)) none c.remove.ensures.entries in
    record {
      sorted = c.remove.ensures.ordered;
      below = below_shrunk frames after c.frame.inside.parent c.args.child shrunk c.self.invariant.below;
      sets = c.take_out.ensures frames after shrunk
          (holds_no_other frames after c.args.child c.frame.inside.parent c.in-Some.frame c.deref.result.now (sym c.in-Some.ensures.value)
          (ap (λ (f : TurnFrame). f.holdings) (sym c.frame.view_is) ∙ sym c.deref.ensures.value))
          c.self.invariant.sets;
    }
